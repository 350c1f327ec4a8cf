use Rattle.std.proofs.Common.{◌∙◌, ◌++◌, ◌∷◌, [], ap}
use Rattle.gx_locks.proofs.Written.{err_then, ok_then, some_then}
use Rattle.gx_locks.proofs.Tidy.{left_twice}
use Rattle.gx_locks.proofs.index.Index.add_there.Goals as goal

pub returns-clause-there : goal.returns-clause-there
returns-clause-there c =
    ok_then c.add.result (λ added. ap (λ rack. rack.holds) (some_then c.shelf_mut.result c.in-Some.shelf c.in-Some.is (c.shelf_mut.follows.holds c.add.new.self)).there ∙ added ∙ ap (λ rack. rack.holds ++ c.args.hold ∷ []) (c.in-Some.ensures.found ∙ c.in_ok-make.ensures.same c.args.key)) c.add.ensures.ok

pub returns-clause-err : goal.returns-clause-err
returns-clause-err c =
    err_then c.add.result (λ same. ap (λ rack. rack.holds) (some_then c.shelf_mut.result c.in-Some.shelf c.in-Some.is (c.shelf_mut.follows.holds c.add.new.self)).there ∙ same ∙ ap (λ rack. rack.holds) (c.in-Some.ensures.found ∙ c.in_ok-make.ensures.same c.args.key)) c.add.ensures.err

pub returns-clause-places_there : goal.returns-clause-places_there
returns-clause-places_there c =
    ap (λ rack. rack.places) (some_then c.shelf_mut.result c.in-Some.shelf c.in-Some.is (c.shelf_mut.follows.holds c.add.new.self)).there ∙ c.add.ensures.places ∙ ap (λ rack. rack.places) (c.in-Some.ensures.found ∙ c.in_ok-make.ensures.same c.args.key)

pub returns-clause-elsewhere : goal.returns-clause-elsewhere
returns-clause-elsewhere c = λ k other.
    ap (λ rack. rack.holds) ((some_then c.shelf_mut.result c.in-Some.shelf c.in-Some.is (c.shelf_mut.follows.holds c.add.new.self)).elsewhere k other ∙ c.in_ok-make.ensures.same k)

pub returns-clause-places_elsewhere : goal.returns-clause-places_elsewhere
returns-clause-places_elsewhere c = λ k other.
    ap (λ rack. rack.places) ((some_then c.shelf_mut.result c.in-Some.shelf c.in-Some.is (c.shelf_mut.follows.holds c.add.new.self)).elsewhere k other ∙ c.in_ok-make.ensures.same k)

pub returns-clause-left : goal.returns-clause-left
returns-clause-left c =
    left_twice c.args.key c.args.self.now c.make.new.self (c.shelf_mut.follows.lender c.add.new.self) (some_then c.shelf_mut.result c.in-Some.shelf c.in-Some.is (c.shelf_mut.follows.holds c.add.new.self)).left c.in_ok-make.ensures.left
