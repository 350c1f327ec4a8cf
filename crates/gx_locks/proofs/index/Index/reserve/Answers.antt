use Rattle.gx_locks.proofs.Tidy.{tidy_but, tidy_used, used_by_place}
use Rattle.gx_locks.specs.Index.{places_at, shelf_at}
use Rattle.gx_locks.proofs.index.Index.reserve.Goals as goal

pub returns-in-Err-clause-tidy : goal.returns-in-Err-clause-tidy
returns-in-Err-clause-tidy c = λ was. c.tidy.ensures.tidy (tidy_but c.args.key c.args.self.now c.reserve_there.new.self c.reserve_there.ensures.left was)

pub returns-clause-tidy : goal.returns-clause-tidy
returns-clause-tidy c = λ was.
    let key = c.args.key in
    let old = c.args.self.now in
    let new = c.reserve_there.new.self in
    tidy_used key new (tidy_but key old new c.reserve_there.ensures.left was) (used_by_place (shelf_at new key) (places_at old key) c.in_default.ensures.there)
