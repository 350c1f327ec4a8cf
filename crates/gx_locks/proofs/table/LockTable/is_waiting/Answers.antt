use Rattle.std.proofs.Common.{◌∙◌, sym, ap}
use Rattle.std.specs.List.{list_any}
use Rattle.gx_waits.specs.Claims.{is_of}
use Rattle.gx_locks.specs.Locks.{Locks}
use Rattle.gx_locks.proofs.Whole.{list_any-full}
use Rattle.gx_locks.proofs.table.LockTable.is_waiting.Goals as goal

pub returns-then-is_full : goal.returns-then-is_full
returns-then-is_full c =
    let none = list_any-full c.self.inside.book c.self.inside.waits.items c.args.gxid c.self.invariant (sym c.is_full.ensures ∙ c.if-is_full.true) in
    sym (ap (λ (locks : Locks). list_any (is_of c.args.gxid) locks.waits) (sym c.self.view_is) ∙ none)
