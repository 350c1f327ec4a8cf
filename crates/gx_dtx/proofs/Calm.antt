-- Where the coordinator's own journal has not failed, no append failed.
use Rattle.std.proofs.Common.{◌≡◌, ℕ, Bool, true, false, refl, ap, ◌∙◌, arith, inl, inr, cond}
use Rattle.std.proofs.lemmas.Bool.Decides.{nat_tests}
use Rattle.std.specs.Prelude.{Option, None, Some, ◌&&◌, ◌==◌}
use Rattle.gx_ids.specs.declared.ids.Gxid.{Gxid}
use Rattle.gx_ids.specs.declared.ids.Node.{Node}
use Rattle.gx_msg.specs.declared.reply.Reply.{Reply as Answer}
use Rattle.gx_msg.specs.declared.reply.Reply.TheVariants as answer
use Rattle.gx_dtx.specs.declared.outcome.Outcome.{Outcome}
use Rattle.gx_dtx.specs.declared.outcome.Outcome.TheVariants as outcome
use Rattle.gx_dtx.specs.declared.phase.Phase.{Phase}
use Rattle.gx_dtx.specs.declared.phase.Phase.TheVariants as phase
use Rattle.gx_dtx.specs.declared.txn.Txn.{Txn}
use Rattle.gx_dtx.specs.Deciding.{own_failure}
use Rattle.gx_dtx.specs.Laws.{Reason}
use Rattle.gx_dtx.specs.Rules.{decides_found, decides_in, is_deciding, is_refused}
use Rattle.gx_dtx.specs.Table.{Table, find_txn}

-- a JFAULT decides nothing
jfault-in : (p : Phase) (i : Node) → decides_in p i answer.Jfault ≡ false
jfault-in phase.Active i = refl
jfault-in (phase.Preparing writers awaited) i = refl
jfault-in (phase.CommittingOne writer) i = refl
jfault-in (phase.CommittingTwo awaited) i = refl
jfault-in (phase.Ended awaited) i = refl
jfault-in (phase.Aborting awaited) i = refl

jfault-found : (o : Option Txn) (i : Node) → decides_found o i answer.Jfault ≡ false
jfault-found None i = refl
jfault-found (Some t) i = jfault-in t.phase i

neither : (b : Bool) → (b && false) ≡ false
neither true = refl
neither false = refl

first-false : (b c : Bool) → b ≡ false → (b && c) ≡ false
first-false b c e = ap (λ x. x && c) e

zero-is : (n : ℕ) → n ≡ 0 → (n == 0) ≡ false → ⊥
zero-is n e f = grind (arith, nat_tests)

pub calm-cause : (d : Table) (g : Gxid) (i : Node) (a : Answer) (refused : Bool) (out : Outcome) → Reason d g i a refused out → own_failure out ≡ false → (is_deciding d g i a && is_refused out) ≡ false
calm-cause d g i a refused outcome.Pending why other = neither (is_deciding d g i a)
calm-cause d g i a refused outcome.Decided why other = neither (is_deciding d g i a)
calm-cause d g i a refused outcome.Committed why other = neither (is_deciding d g i a)
calm-cause d g i a refused outcome.Ended why other = neither (is_deciding d g i a)
calm-cause d g i a refused (outcome.Refused j) (inl h) other = first-false (is_deciding d g i a) true (ap (decides_found (find_txn d g) i) h.2 ∙ jfault-found (find_txn d g) i)
calm-cause d g i a refused (outcome.Refused j) (inr h) other = absurd (zero-is j.0 h.0 other)
