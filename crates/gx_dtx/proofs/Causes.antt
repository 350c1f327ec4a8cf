-- What an answer comes to has its cause.
use Rattle.std.proofs.Common.{◌≡◌, List, [], ◌∷◌, refl, sym, ap, ◌∙◌, Bool, true, false, cond, eqb, arith, inl, inr, ◌⊎◌}
use Rattle.std.proofs.lemmas.Bool.Decides.{nat_tests}
use Rattle.std.specs.Prelude.{Option, None, Some, option_map, ◌&&◌, not}
use Rattle.gx_ids.specs.declared.ids.Gxid.{Gxid}
use Rattle.gx_ids.specs.declared.ids.Node.{Node}
use Rattle.gx_msg.specs.declared.reply.Reply.{Reply as Answer}
use Rattle.gx_msg.specs.declared.reply.Reply.TheVariants as answer
use Rattle.gx_dtx.specs.declared.outcome.Outcome.{Outcome}
use Rattle.gx_dtx.specs.declared.outcome.Outcome.TheVariants as outcome
use Rattle.gx_dtx.specs.declared.phase.Phase.{Phase}
use Rattle.gx_dtx.specs.declared.phase.Phase.TheVariants as phase
use Rattle.gx_dtx.specs.declared.status.Status.TheVariants as status
use Rattle.gx_dtx.specs.declared.txn.Txn.{Txn}
use Rattle.gx_dtx.specs.Nodes.{has, without}
use Rattle.gx_dtx.specs.Table.{Table, find_txn, runs, status_in}
use Rattle.gx_dtx.specs.Rules.{ends, is_awaited, awaits_found, decides_in, decides_found, is_last, takes, stays, prepares, finishes, forgets, gives_up, ends_committed, reply_found, on_reply}
use Rattle.gx_dtx.specs.Laws.{HasCause, Reason}
use Rattle.gx_dtx.specs.Whole.{IsWhole}
use Rattle.gx_dtx.specs.Fits.{Fits}
use Rattle.gx_dtx.proofs.Keeps.{runs-changed}
use Rattle.gx_dtx.proofs.Fitting.{Fits-reply}

-- the cause of an outcome, as far as it is one of a phase
abbrev Causes : Phase → Node → Answer → Bool → Outcome → Type 0
Causes ph i a refused outcome.Pending = Unit {0}
Causes ph i a refused outcome.Decided = (decides_in ph i a ≡ true) × (refused ≡ false)
Causes ph i a refused (outcome.Refused j) = ((j ≡ i) × (is_awaited ph i a ≡ true) × (a ≡ answer.Jfault)) ⊎ ((j.0 ≡ 0) × (decides_in ph i a ≡ true) × (refused ≡ true))
Causes ph i a refused outcome.Committed = status_in ph ≡ status.Committing
Causes ph i a refused outcome.Ended = status_in ph ≡ status.Aborting

committed-causes : (ph : Phase) (i : Node) (a : Answer) (refused : Bool) (g : Gxid) (ns : List Node) → status_in ph ≡ status.Committing → Causes ph i a refused (ends_committed g ns).out.outcome
committed-causes ph i a refused g [] is = is
committed-causes ph i a refused g (n ∷ ns) is = is

deciding : (ws aw : List Node) (i : Node) (b : Bool) → has i aw ≡ true → is_last (without i aw) ≡ b → decides_in (phase.Preparing ws aw) i answer.Prepared ≡ b
deciding ws aw i b is last = grind (arith, nat_tests)

prepared-causes : (g : Gxid) (ws aw ns : List Node) (i : Node) (rest : List Node) (refused : Bool) → without i aw ≡ rest → has i aw ≡ true → Causes (phase.Preparing ws aw) i answer.Prepared refused (prepares g ws ns rest refused).out.outcome
prepared-causes g ws aw ns i [] true are is = inr (refl, deciding ws aw i true is (ap is_last are), refl)
prepared-causes g ws aw ns i [] false are is = (deciding ws aw i true is (ap is_last are), refl)
prepared-causes g ws aw ns i (n ∷ rest) refused are is = tt

finished-causes : (ph : Phase) (i : Node) (a : Answer) (refused : Bool) (g : Gxid) (ns rest : List Node) → status_in ph ≡ status.Committing → Causes ph i a refused (finishes g ns rest).out.outcome
finished-causes ph i a refused g ns [] is = committed-causes ph i a refused g ns is
finished-causes ph i a refused g ns (n ∷ rest) is = tt

forgotten-causes : (ph : Phase) (i : Node) (a : Answer) (refused : Bool) (rest : List Node) → Causes ph i a refused (forgets rest).out.outcome
forgotten-causes ph i a refused [] = tt
forgotten-causes ph i a refused (n ∷ rest) = tt

aborted-causes : (ph : Phase) (i : Node) (a : Answer) (refused : Bool) (rest : List Node) → status_in ph ≡ status.Aborting → Causes ph i a refused (gives_up rest).out.outcome
aborted-causes ph i a refused [] is = is
aborted-causes ph i a refused (n ∷ rest) is = tt

took-causes : (g : Gxid) (ns : List Node) (i : Node) (refused : Bool) (ph : Phase) (a : Answer) → is_awaited ph i a ≡ true → Causes ph i a refused (takes g ns i refused ph a).out.outcome
took-causes g ns i refused (phase.Preparing ws aw) answer.Prepared is = prepared-causes g ws aw ns i (without i aw) refused refl is
took-causes g ns i refused (phase.Preparing ws aw) answer.Jfault is = inl (refl, is, refl)
took-causes g ns i refused (phase.CommittingOne w) answer.Committed is = committed-causes (phase.CommittingOne w) i answer.Committed refused g ns refl
took-causes g ns i refused (phase.CommittingOne w) answer.Jfault is = inl (refl, is, refl)
took-causes g ns i refused (phase.CommittingTwo aw) answer.Committed is = finished-causes (phase.CommittingTwo aw) i answer.Committed refused g ns (without i aw) refl
took-causes g ns i refused (phase.Ended aw) answer.Forgotten is = forgotten-causes (phase.Ended aw) i answer.Forgotten refused (without i aw)
took-causes g ns i refused (phase.Aborting aw) answer.Aborted is = aborted-causes (phase.Aborting aw) i answer.Aborted refused (without i aw) refl
took-causes g ns i refused _ _ is = tt

causes_if : (g : Gxid) (t : Txn) (i : Node) (a : Answer) (refused : Bool) (b : Bool) → is_awaited t.phase i a ≡ b → Causes t.phase i a refused (cond b (takes g t.participants i refused t.phase a) stays).out.outcome
causes_if g t i a refused true is = took-causes g t.participants i refused t.phase a is
causes_if g t i a refused false is = tt

-- the same of a transaction that may be missing
abbrev CausesFound : Option Txn → Node → Answer → Bool → Outcome → Type 0
CausesFound o i a refused outcome.Pending = Unit {0}
CausesFound o i a refused outcome.Decided = (decides_found o i a ≡ true) × (refused ≡ false)
CausesFound o i a refused (outcome.Refused j) = ((j ≡ i) × (awaits_found i a o ≡ true) × (a ≡ answer.Jfault)) ⊎ ((j.0 ≡ 0) × (decides_found o i a ≡ true) × (refused ≡ true))
CausesFound o i a refused outcome.Committed = option_map (λ t. status_in t.phase) o ≡ Some status.Committing
CausesFound o i a refused outcome.Ended = option_map (λ t. status_in t.phase) o ≡ Some status.Aborting

as-found : (t : Txn) (i : Node) (a : Answer) (refused : Bool) (out : Outcome) → Causes t.phase i a refused out → CausesFound (Some t) i a refused out
as-found t i a refused outcome.Pending c = c
as-found t i a refused outcome.Decided c = c
as-found t i a refused (outcome.Refused j) c = c
as-found t i a refused outcome.Committed c = ap Some c
as-found t i a refused outcome.Ended c = ap Some c

found-causes : (g : Gxid) (o : Option Txn) (i : Node) (a : Answer) (refused : Bool) → CausesFound o i a refused (reply_found g i a refused o).out.outcome
found-causes g None i a refused = tt
found-causes g (Some t) i a refused = as-found t i a refused (reply_found g i a refused (Some t)).out.outcome (causes_if g t i a refused (is_awaited t.phase i a) refl)

same-number : (n : Gxid) → eqb n.0 n.0 ≡ true
same-number n = grind (arith, nat_tests)

-- it ends exactly where it ran and doesn't any more
ends-is : (b e : Bool) → (e ≡ true → b ≡ true) → e ≡ (b && not (b && not (e && true)))
ends-is b e ran = grind (arith, nat_tests)

ended-as : (d : Table) (g : Gxid) (i : Node) (a : Answer) (refused : Bool) → IsWhole d → ends (on_reply d g i a refused).out.outcome ≡ (runs (find_txn d g) && not (runs (find_txn (on_reply d g i a refused).table g)))
ended-as d g i a refused w =
    let c = reply_found g i a refused (find_txn d g) in
    let fits : Fits (find_txn d g) c = Fits-reply (find_txn d g) g i a refused in
    ends-is (runs (find_txn d g)) (ends c.out.outcome) fits.ran
    ∙ ap (λ b. runs (find_txn d g) && not (runs (find_txn d g) && not (ends c.out.outcome && b))) (sym (same-number g))
    ∙ ap (λ b. runs (find_txn d g) && not b) (sym (runs-changed d g g c w.risen fits))

reason-of : (d : Table) (g : Gxid) (i : Node) (a : Answer) (refused : Bool) (out : Outcome) → CausesFound (find_txn d g) i a refused out → Reason d g i a refused out
reason-of d g i a refused outcome.Pending c = c
reason-of d g i a refused outcome.Decided c = c
reason-of d g i a refused (outcome.Refused j) c = c
reason-of d g i a refused outcome.Committed c = c
reason-of d g i a refused outcome.Ended c = c

pub has-cause : (d : Table) (g : Gxid) (i : Node) (a : Answer) (refused : Bool) → IsWhole d → HasCause d g i a refused (on_reply d g i a refused).out.outcome
has-cause d g i a refused w = record { reason = reason-of d g i a refused (on_reply d g i a refused).out.outcome (found-causes g (find_txn d g) i a refused); ended = ended-as d g i a refused w }
