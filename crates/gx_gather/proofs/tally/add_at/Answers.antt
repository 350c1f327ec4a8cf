use Rattle.std.proofs.Common.{◌≤◌, ◌<◌, ◌∙◌, ap, arith, [], ◌∷◌, length}
use Rattle.std.specs.Prelude.{slice_set}
use Rattle.gx_meaning.specs.Aggregates.{aggregate}
use Rattle.gx_gather.proofs.Tallied.{added-nowhere, added-there}
use Rattle.gx_gather.proofs.tally.add_at.Goals as goal

pub returns-in_ok-add_row-in-Some : goal.returns-in_ok-add_row-in-Some
returns-in_ok-add_row-in-Some c =
    let a = c.args in
    let low : a.place < length a.cells.now.items = grind (arith, c.in-Some.ensures.variant) in
    ap (slice_set a.cells.now.items a.place) c.in_ok-add_row-in-Some.ensures
    ∙ added-there a.item (aggregate (a.row.now ∷ []) a.item) a.place a.cells.now.items c.in-Some.cell.now low c.in-Some.ensures.value

pub returns-in-None : goal.returns-in-None
returns-in-None c =
    let a = c.args in
    let past : length a.cells.now.items ≤ a.place = grind (arith, c.in-None.ensures.variant) in
    added-nowhere a.item (aggregate (a.row.now ∷ []) a.item) a.place a.cells.now.items past
