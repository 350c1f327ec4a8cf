use Rattle.std.proofs.Common.{◌∙◌, ◌+◌, ap}
use Rattle.gx_locks.proofs.Written.{err_then, kept, ok_then, some_then}
use Rattle.gx_locks.proofs.Tidy.{left_twice}
use Rattle.gx_locks.proofs.index.Index.reserve_there.Goals as goal

pub returns-clause-holds : goal.returns-clause-holds
returns-clause-holds c = λ k.
    kept (λ rack. rack.holds) c.args.key c.make.new.self (c.shelf_mut.follows.lender c.reserve.new.self) c.reserve.new.self (some_then c.shelf_mut.result c.in-Some.shelf c.in-Some.is (c.shelf_mut.follows.holds c.reserve.new.self)) (c.reserve.ensures.holds ∙ ap (λ rack. rack.holds) c.in-Some.ensures.found) k
    ∙ ap (λ rack. rack.holds) (c.in_ok-make.ensures.same k)

pub returns-clause-there : goal.returns-clause-there
returns-clause-there c =
    ok_then c.reserve.result (λ more. ap (λ rack. rack.places) (some_then c.shelf_mut.result c.in-Some.shelf c.in-Some.is (c.shelf_mut.follows.holds c.reserve.new.self)).there ∙ more ∙ ap (λ rack. rack.places + 1) (c.in-Some.ensures.found ∙ c.in_ok-make.ensures.same c.args.key)) c.reserve.ensures.ok

pub returns-clause-err : goal.returns-clause-err
returns-clause-err c =
    err_then c.reserve.result (λ same. ap (λ rack. rack.places) (some_then c.shelf_mut.result c.in-Some.shelf c.in-Some.is (c.shelf_mut.follows.holds c.reserve.new.self)).there ∙ same ∙ ap (λ rack. rack.places) (c.in-Some.ensures.found ∙ c.in_ok-make.ensures.same c.args.key)) c.reserve.ensures.err

pub returns-clause-elsewhere : goal.returns-clause-elsewhere
returns-clause-elsewhere c = λ k other.
    ap (λ rack. rack.places) ((some_then c.shelf_mut.result c.in-Some.shelf c.in-Some.is (c.shelf_mut.follows.holds c.reserve.new.self)).elsewhere k other ∙ c.in_ok-make.ensures.same k)

pub returns-clause-left : goal.returns-clause-left
returns-clause-left c =
    left_twice c.args.key c.args.self.now c.make.new.self (c.shelf_mut.follows.lender c.reserve.new.self) (some_then c.shelf_mut.result c.in-Some.shelf c.in-Some.is (c.shelf_mut.follows.holds c.reserve.new.self)).left c.in_ok-make.ensures.left
