-- How often a script says that a message is to be delivered, by the link's number.
use Rattle.std.proofs.Common.{◌≡◌, ◌⊎◌, inl, inr, ℕ, ◌+◌, ◌*◌, ◌<◌, Bool, true, false, not, cond, ◌&&◌, ◌||◌, refl, sym, ap, ◌∙◌, eqb, List, [], ◌∷◌, arith}
use Rattle.std.proofs.lemmas.Bool.Decides.{nat_tests}
use Rattle.std.specs.List.{list_any}
use Rattle.gx_ids.specs.declared.ids.Node.{Node}
use Rattle.gx_script.specs.declared.LinkFault.{LinkFault}
use Rattle.gx_script.specs.declared.Script.{Script}
use Rattle.gx_store.specs.Ordered.{IsLink}
use Rattle.gx_store.specs.Schedule.{deliveries, is_fault_of}
use Rattle.gx_agenda.specs.declared.faults.Faults.{Faults}
use Rattle.gx_agenda.specs.Faults.{AreFaultsOf, is_lost, is_repeated, times_of}
use Rattle.gx_agenda.specs.Links.{is_about, is_loss_of, is_repeat_of, link_of}

-- one end of a link is the coordinator, and the other one isn't
abbrev pub AreEnds : ℕ → ℕ → Type 0
AreEnds from to = ((from ≡ 0) × (0 < to)) ⊎ ((0 < from) × (to ≡ 0))

pub link_ends : (script : Script) (from to : Node) → IsLink script from to → AreEnds from.0 to.0
link_ends script from to (inl (e, s)) = inl (ap (λ (n : Node). n.0) e, s.0)
link_ends script from to (inr (s, e)) = inr (s.0, ap (λ (n : Node). n.0) e)

same_fault : (f t s n m : ℕ) (b : Bool) → AreEnds f t → (eqb m n && cond b (eqb f 0 && eqb t s) (eqb f s && eqb t 0)) ≡ (eqb (cond b (2 * s) (2 * s + 1)) (cond (eqb f 0) (2 * t) (2 * f + 1)) && eqb m n)
same_fault f t s n m true ends = grind (arith, nat_tests)
same_fault f t s n m false ends = grind (arith, nat_tests)

any_same : {X : Type 0} (p q : X → Bool) → ((x : X) → p x ≡ q x) → (xs : List X) → list_any p xs ≡ list_any q xs
any_same p q same [] = refl
any_same p q same (x ∷ xs) = ap (λ b. b || list_any p xs) (same x) ∙ ap (λ b. q x || b) (any_same p q same xs)

either_bit : (p r a b : Bool) → (p || (a || b)) ≡ (((p && not r) || a) || ((p && r) || b))
either_bit true true a b = grind arith
either_bit true false a b = refl
either_bit false true a b = refl
either_bit false false a b = refl

any_split : {X : Type 0} (p r : X → Bool) → (xs : List X) → list_any p xs ≡ (list_any (λ x. p x && not (r x)) xs || list_any (λ x. p x && r x) xs)
any_split p r [] = refl
any_split p r (x ∷ xs) = ap (λ b. p x || b) (any_split p r xs) ∙ either_bit (p x) (r x) (list_any (λ y. p y && not (r y)) xs) (list_any (λ y. p y && r y) xs)

times_by : (lost repeated loses any : Bool) → lost ≡ loses → any ≡ (lost || repeated) → times_of lost repeated ≡ times_of loses any
times_by true repeated true any e f = refl
times_by false repeated false any e f = ap (λ b. times_of false b) (sym f)
times_by true repeated false any e f = absurd (cc)
times_by false repeated true any e f = absurd (cc)

-- what the script says of a message
pub deliveries_by_link : (script : Script) (from to : Node) (number : ℕ) → IsLink script from to → times_of (list_any (is_loss_of (link_of from to) number) script.faults) (list_any (is_repeat_of (link_of from to) number) script.faults) ≡ deliveries script from to number
deliveries_by_link script from to number link =
    let same : (fault : LinkFault) → is_fault_of from to number fault ≡ is_about (link_of from to) number fault = λ fault. same_fault from.0 to.0 fault.segment.0 number fault.number fault.to_segment (link_ends script from to link) in
    times_by _ _ _ _
    (any_same (is_loss_of (link_of from to) number) (λ fault. is_fault_of from to number fault && not fault.repeat) (λ fault. ap (λ b. b && not fault.repeat) (sym (same fault))) script.faults)
    (any_same (is_fault_of from to number) (is_about (link_of from to) number) same script.faults ∙ any_split (is_about (link_of from to) number) (λ (fault : LinkFault). fault.repeat) script.faults)

-- what is known of the faults is what the script says
pub known_faults : (faults : List LinkFault) (known : Faults) → ((link number : ℕ) → is_lost known link number ≡ list_any (is_loss_of link number) faults) → ((link number : ℕ) → is_repeated known link number ≡ list_any (is_repeat_of link number) faults) → (script : Script) → script.faults ≡ faults → AreFaultsOf script known
known_faults faults known lost repeated script e from to number link =
    ap (λ b. times_of b (is_repeated known (link_of from to) number)) (lost (link_of from to) number)
    ∙ ap (λ b. times_of (list_any (is_loss_of (link_of from to) number) faults) b) (repeated (link_of from to) number)
    ∙ ap (λ fs. times_of (list_any (is_loss_of (link_of from to) number) fs) (list_any (is_repeat_of (link_of from to) number) fs)) (sym e)
    ∙ deliveries_by_link script from to number link
