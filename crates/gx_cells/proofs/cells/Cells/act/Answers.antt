use Rattle.std.proofs.Common.{◌≡◌, ◌<◌, ◌+◌, arith, refl, length, subst}
use Rattle.std.specs.Prelude.{◌-◌, IfOk, OnErr, slice_set}
use Rattle.std.proofs.lemmas.Option.{slice_get_read}
use Rattle.gx_cells.specs.Done.{AreSameCells, CellsView, HasDoneAt, IsSpentAt}
use Rattle.gx_cells.proofs.Answers.{if_ok, on_err}
use Rattle.gx_cells.proofs.Staying.{closed-there, done-by, same-firsts, spent-by}
use Rattle.gx_cells.proofs.cells.Cells.act.Goals as goal

pub invariant_of-self-2 : goal.invariant_of-self-2
invariant_of-self-2 g c =
    let segments = c.self.inside.segments.items in
    let place = c.from-2.result - 1 in
    let was = c.index_mut.result.now in
    let inside : place < length segments = omega arith in
    closed-there c.self.inside.coord segments place was c.act-2.new.self c.self.invariant (slice_get_read segments (length segments) place was refl inside c.index_mut.ensures.value) c.act-2.ensures.same

pub returns-clause-done : goal.returns-clause-done
returns-clause-done g c =
    let coord = c.self.inside.coord in
    let segments = c.self.inside.segments.items in
    let place = c.from-2.result - 1 in
    let was = c.index_mut.result.now in
    let is = c.act-2.new.self in
    let inside : place < length segments = omega arith in
    let number : c.args.node.0 ≡ place + 1 = omega arith in
    let new : CellsView = record { coord = coord; segments = slice_set segments place is } in
    subst (λ (v : CellsView). IfOk c.act-2.result (HasDoneAt c.args.action c.args.node.0 v new)) c.self.view_is
    (if_ok c.act-2.result _ _ c.act-2.ensures.done
    (λ looked h.
    done-by c.args.action c.args.node.0 place (record { coord = coord; segments = segments }) new looked was number (slice_get_read segments (length segments) place was refl inside c.index_mut.ensures.value) (is, refl, c.act-2.ensures.same, h)))

pub returns-clause-err : goal.returns-clause-err
returns-clause-err g c =
    let coord = c.self.inside.coord in
    let segments = c.self.inside.segments.items in
    let place = c.from-2.result - 1 in
    let was = c.index_mut.result.now in
    let is = c.act-2.new.self in
    let inside : place < length segments = omega arith in
    let number : c.args.node.0 ≡ place + 1 = omega arith in
    let new : CellsView = record { coord = coord; segments = slice_set segments place is } in
    subst (λ (v : CellsView). OnErr c.act-2.result (IsSpentAt c.args.node.0 v new)) c.self.view_is
    (on_err c.act-2.result _ _ c.act-2.ensures.err
    (λ spent. spent-by c.args.node.0 place (record { coord = coord; segments = segments }) new was number (slice_get_read segments (length segments) place was refl inside c.index_mut.ensures.value) (is, refl, c.act-2.ensures.same, spent)))

pub returns-clause-same : goal.returns-clause-same
returns-clause-same g c =
    let coord = c.self.inside.coord in
    let segments = c.self.inside.segments.items in
    let place = c.from-2.result - 1 in
    let was = c.index_mut.result.now in
    let is = c.act-2.new.self in
    let inside : place < length segments = omega arith in
    subst (λ (v : CellsView). AreSameCells v (record { coord = coord; segments = slice_set segments place is })) c.self.view_is
    (refl, same-firsts coord segments place was is (slice_get_read segments (length segments) place was refl inside c.index_mut.ensures.value) c.act-2.ensures.same.first)
