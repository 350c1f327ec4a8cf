-- What is awaited of one request, where another one may be the same.
use Rattle.std.proofs.Common.{◌≡◌, ℕ, Bool, true, false, cond, ◌&&◌, eqb, refl, sym, ap, ◌∙◌, arith}
use Rattle.std.proofs.lemmas.Bool.Decides.{nat_tests}
use Rattle.std.specs.BTreeMap.{is_at}
use Rattle.std.specs.Prelude.{Option, Some, None, option_map}
use Rattle.gx_ids.specs.declared.ids.Gxid.{Gxid}
use Rattle.gx_ids.specs.declared.ids.Node.{Node}
use Rattle.gx_msg.specs.declared.message.Message.{Message}
use Rattle.gx_msg.specs.declared.reply.Reply.{Reply}
use Rattle.gx_store.specs.Journals.{is_same_node}
use Rattle.gx_store.specs.Marks.{is_same_gxid}
use Rattle.gx_agenda.specs.declared.expected.Expected.{Expected}
use Rattle.gx_agenda.specs.Expected.{expected_of, is_met, unless_met}
use Rattle.gx_agenda.specs.Requests.{request_cmp}

same_numbers : (a g b h : ℕ) → is_at (request_cmp (record { segment = record { 0 = a }; gxid = record { 0 = g } })) (record { segment = record { 0 = b }; gxid = record { 0 = h } }) ≡ (eqb a b && eqb g h)
same_numbers a g b h = grind (arith, nat_tests)

-- a request is another one, where both parts are
pub is_same_request : (s t : Node) (g h : Gxid) → is_at (request_cmp (record { segment = s; gxid = g })) (record { segment = t; gxid = h }) ≡ (is_same_node s t && is_same_gxid g h)
is_same_request s t g h = same_numbers s.0 g.0 t.0 h.0

both_same : (a b g h : ℕ) → (eqb a b && eqb g h) ≡ true → (a ≡ b) × (g ≡ h)
both_same a b g h e = (grind (arith, nat_tests), grind (arith, nat_tests))

-- what there is of the same request is the same
pub at_same : {X : Type 0} (f : Node → Gxid → X) (s t : Node) (g h : Gxid) → (is_same_node s t && is_same_gxid g h) ≡ true → f t h ≡ f s g
at_same f s t g h e =
    let p : (s.0 ≡ t.0) × (g.0 ≡ h.0) = both_same s.0 t.0 g.0 h.0 e in
    ap (λ n. f (record { 0 = n }) h) (sym p.0) ∙ ap (λ n. f s (record { 0 = n })) (sym p.1)

-- AN ANSWER
pub met-there : (here : Bool) (old new : Option Expected) (e : Expected) (told : Reply) → new ≡ cond here None old → (here ≡ true → old ≡ Some e) → is_met e told ≡ true → new ≡ unless_met here told old
met-there true old new e told is found met = is ∙ sym (ap (unless_met true told) (found refl) ∙ ap (λ b. cond b None (Some e)) met)
met-there false None new e told is found met = is
met-there false (Some x) new e told is found met = is

pub unmet-there : (here : Bool) (old : Option Expected) (e : Expected) (told : Reply) → (here ≡ true → old ≡ Some e) → is_met e told ≡ false → old ≡ unless_met here told old
unmet-there true old e told found unmet = found refl ∙ sym (ap (unless_met true told) (found refl) ∙ ap (λ b. cond b None (Some e)) unmet)
unmet-there false None e told found unmet = refl
unmet-there false (Some x) e told found unmet = refl

-- AN ORDER
pub asked-if : (here : Bool) (told : Message) (was : Option Message) (old new : Option Expected) → old ≡ option_map expected_of was → new ≡ cond here (Some (expected_of told)) old → new ≡ option_map expected_of (cond here (Some told) was)
asked-if true told was old new e is = is
asked-if false told was old new e is = is ∙ e
