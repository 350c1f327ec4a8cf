use Rattle.std.proofs.Common.{◌≡◌, subst}
use Rattle.gx_coord.specs.Left.{left_of}
use Rattle.gx_cells.specs.CoordKept.{coordinator_by}
use Rattle.gx_cells.specs.CoordViews.{coord_data}
use Rattle.gx_cells.proofs.coord_cell.CoordCell.left.Goals as goal

pub returns : goal.returns
returns g c unspent =
    subst (λ v. c.left_there.result ≡ left_of v.script (coord_data v) c.args.session) c.self.view_is
    (subst (λ xs. c.left_there.result ≡ left_of c.self.inside.history.script.value (coordinator_by c.self.inside.history.script.value c.self.inside.history.steps xs) c.args.session) c.as_slice.ensures.value c.left_there.ensures)
