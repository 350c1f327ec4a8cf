use Rattle.std.proofs.Common.{◌∙◌, ◌-◌, ap}
use Rattle.gx_locks.proofs.Written.{kept, some_then}
use Rattle.gx_locks.proofs.index.Index.cancel_there.Goals as goal

pub returns-in-Some-clause-holds : goal.returns-in-Some-clause-holds
returns-in-Some-clause-holds c =
    kept (λ rack. rack.holds) c.args.key c.args.self.now (c.shelf_mut.follows.lender c.cancel.new.self) c.cancel.new.self (some_then c.shelf_mut.result c.in-Some.shelf c.in-Some.is (c.shelf_mut.follows.holds c.cancel.new.self)) (c.cancel.ensures.holds ∙ ap (λ rack. rack.holds) c.in-Some.ensures.found)

pub returns-in-Some-clause-there : goal.returns-in-Some-clause-there
returns-in-Some-clause-there c =
    ap (λ rack. rack.places) (some_then c.shelf_mut.result c.in-Some.shelf c.in-Some.is (c.shelf_mut.follows.holds c.cancel.new.self)).there ∙ c.cancel.ensures.places ∙ ap (λ rack. rack.places - 1) c.in-Some.ensures.found

pub returns-in-Some-clause-elsewhere : goal.returns-in-Some-clause-elsewhere
returns-in-Some-clause-elsewhere c = λ k other.
    ap (λ rack. rack.places) ((some_then c.shelf_mut.result c.in-Some.shelf c.in-Some.is (c.shelf_mut.follows.holds c.cancel.new.self)).elsewhere k other)

pub returns-in-Some-clause-left : goal.returns-in-Some-clause-left
returns-in-Some-clause-left c = (some_then c.shelf_mut.result c.in-Some.shelf c.in-Some.is (c.shelf_mut.follows.holds c.cancel.new.self)).left
