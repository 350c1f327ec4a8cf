use Rattle.std.proofs.Common.{◌≡◌, ◌∙◌, [], ◌∷◌, refl, List, false, sym, subst, arith}
use Rattle.std.proofs.lemmas.Grind.{common_steps}
use Rattle.std.specs.List.{list_any}
use Rattle.gx_waits.specs.declared.claim.Claim.{Claim}
use Rattle.gx_waits.specs.Claim.{ahead}
use Rattle.gx_locks.specs.Book.{claims_in}
use Rattle.gx_locks.specs.Locks.{Locks}
use Rattle.gx_locks.specs.Queue.{holds_up}
use Rattle.gx_locks.proofs.Whole.{none-awaits}
use Rattle.gx_locks.proofs.Ways.{none-up}
use Rattle.gx_locks.proofs.table.LockTable.is_behind.Goals as goal
use Rattle.gx_locks.proofs.table.LockTable.is_behind.Goals.{then-is_empty-via-then-is_empty, then-is_empty-via-else-is_empty+then-is_unawaited}

empty : (waits : List Claim) (holds : List Claim) (claim : Claim) → waits ≡ [] → list_any (holds_up holds claim) (ahead claim waits) ≡ false
empty [] holds claim e = refl
empty (wait ∷ waits) holds claim e = cc

pub returns-then-is_empty : goal.returns-then-is_empty
returns-then-is_empty c =
    let holds : List Claim = claims_in c.self.inside.book in
    sym (subst (λ (locks : Locks). list_any (holds_up locks.holds c.args.claim.now) (ahead c.args.claim.now locks.waits) ≡ false) c.self.view_is
    (elim c.then-is_empty.branch [
      | then-is_empty-via-then-is_empty w ↦ empty c.self.inside.waits.items holds c.args.claim.now (grind (arith, common_steps, c.is_empty.ensures, w.if-is_empty.true))
      | then-is_empty-via-else-is_empty+then-is_unawaited w ↦
          none-up holds c.args.claim.now c.self.inside.waits.items (none-awaits c.self.inside.book c.self.inside.waits.items c.args.claim.now.object c.self.invariant (sym w.is_unawaited.ensures ∙ w.if-is_unawaited.true))
    ]))
