use Rattle.std.proofs.Common.{◌∙◌, ap, filter, not}
use Rattle.gx_locks.specs.Holds.{same_hold}
use Rattle.gx_locks.proofs.Written.{kept, some_then}
use Rattle.gx_locks.proofs.index.Index.strike_there.Goals as goal

pub returns-in-Some-clause-there : goal.returns-in-Some-clause-there
returns-in-Some-clause-there c =
    ap (λ rack. rack.holds) (some_then c.shelf_mut.result c.in-Some.shelf c.in-Some.is (c.shelf_mut.follows.holds c.strike.new.self)).there ∙ c.strike.ensures.holds ∙ ap (λ rack. filter (λ other. not (same_hold c.args.hold.now other)) rack.holds) c.in-Some.ensures.found

pub returns-in-Some-clause-elsewhere : goal.returns-in-Some-clause-elsewhere
returns-in-Some-clause-elsewhere c = λ k other.
    ap (λ rack. rack.holds) ((some_then c.shelf_mut.result c.in-Some.shelf c.in-Some.is (c.shelf_mut.follows.holds c.strike.new.self)).elsewhere k other)

pub returns-in-Some-clause-places : goal.returns-in-Some-clause-places
returns-in-Some-clause-places c =
    kept (λ rack. rack.places) c.args.key c.args.self.now (c.shelf_mut.follows.lender c.strike.new.self) c.strike.new.self (some_then c.shelf_mut.result c.in-Some.shelf c.in-Some.is (c.shelf_mut.follows.holds c.strike.new.self)) (c.strike.ensures.places ∙ ap (λ rack. rack.places) c.in-Some.ensures.found)

pub returns-in-Some-clause-left : goal.returns-in-Some-clause-left
returns-in-Some-clause-left c = (some_then c.shelf_mut.result c.in-Some.shelf c.in-Some.is (c.shelf_mut.follows.holds c.strike.new.self)).left
