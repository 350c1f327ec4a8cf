use Rattle.gx_locks.proofs.Tidy.{tidy_but, tidy_used, used_by_hold}
use Rattle.gx_locks.specs.Index.{holds_at, shelf_at}
use Rattle.gx_locks.proofs.index.Index.add.Goals as goal

pub returns-in-Err-clause-tidy : goal.returns-in-Err-clause-tidy
returns-in-Err-clause-tidy c = λ was. c.tidy.ensures.tidy (tidy_but c.args.key c.args.self.now c.add_there.new.self c.add_there.ensures.left was)

pub returns-clause-tidy : goal.returns-clause-tidy
returns-clause-tidy c = λ was.
    let key = c.args.key in
    let old = c.args.self.now in
    let new = c.add_there.new.self in
    tidy_used key new (tidy_but key old new c.add_there.ensures.left was) (used_by_hold (shelf_at new key) (holds_at old key) c.args.hold c.in_default.ensures.there)
