use Rattle.std.proofs.Common.{◌∙◌, ◌+◌, ◌++◌, ◌∷◌, [], ap}
use Rattle.gx_locks.proofs.Written.{some_then}
use Rattle.gx_locks.proofs.Tidy.{tidy_but, tidy_used, used_by_hold}
use Rattle.gx_locks.specs.Index.{holds_at, shelf_at}
use Rattle.gx_locks.proofs.index.Index.fill.Goals as goal

pub returns-clause-there : goal.returns-clause-there
returns-clause-there c =
    ap (λ rack. rack.holds) (some_then c.shelf_mut.result c.in-Some.shelf c.in-Some.is (c.shelf_mut.follows.holds c.fill.new.self)).there ∙ c.fill.ensures.holds ∙ ap (λ rack. rack.holds ++ c.args.hold ∷ []) c.in-Some.ensures.found

pub returns-clause-places_there : goal.returns-clause-places_there
returns-clause-places_there c =
    ap (λ rack. rack.places + 1) (some_then c.shelf_mut.result c.in-Some.shelf c.in-Some.is (c.shelf_mut.follows.holds c.fill.new.self)).there ∙ c.fill.ensures.places ∙ ap (λ rack. rack.places) c.in-Some.ensures.found

pub returns-clause-elsewhere : goal.returns-clause-elsewhere
returns-clause-elsewhere c = λ k other.
    ap (λ rack. rack.holds) ((some_then c.shelf_mut.result c.in-Some.shelf c.in-Some.is (c.shelf_mut.follows.holds c.fill.new.self)).elsewhere k other)

pub returns-clause-places_elsewhere : goal.returns-clause-places_elsewhere
returns-clause-places_elsewhere c = λ k other.
    ap (λ rack. rack.places) ((some_then c.shelf_mut.result c.in-Some.shelf c.in-Some.is (c.shelf_mut.follows.holds c.fill.new.self)).elsewhere k other)

pub returns-clause-tidy : goal.returns-clause-tidy
returns-clause-tidy c = λ was.
    let key = c.args.key in
    let old = c.args.self.now in
    let new = c.shelf_mut.follows.lender c.fill.new.self in
    tidy_used key new (tidy_but key old new (some_then c.shelf_mut.result c.in-Some.shelf c.in-Some.is (c.shelf_mut.follows.holds c.fill.new.self)).left was) (used_by_hold (shelf_at new key) (holds_at old key) c.args.hold (returns-clause-there c))
