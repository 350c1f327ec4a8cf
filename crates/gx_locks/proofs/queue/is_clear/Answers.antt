use Rattle.std.proofs.Common.{◌∙◌, ap, sym, not, ◌&&◌}
use Rattle.std.specs.List.{list_any}
use Rattle.gx_waits.specs.Claim.{ahead}
use Rattle.gx_locks.specs.Book.{claims_in}
use Rattle.gx_locks.specs.Queue.{holds_up}
use Rattle.gx_locks.proofs.Ways.{clear-parts}
use Rattle.gx_locks.proofs.queue.is_clear.Goals as goal

pub returns-then-is_free : goal.returns-then-is_free
returns-then-is_free c =
    ap not c.is_held_up.ensures
    ∙ ap (λ b. b && not (list_any (holds_up (claims_in c.args.book.now) c.args.claim.now) (ahead c.args.claim.now c.args.waits.now))) (sym c.if-is_free.true ∙ c.is_free.ensures)
    ∙ sym (clear-parts (claims_in c.args.book.now) c.args.waits.now c.args.claim.now)
