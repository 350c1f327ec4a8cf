use Rattle.std.proofs.Common.{◌≡◌, ◌<◌, false, length, subst}
use Rattle.gx_ids.specs.declared.ids.SessionId.{SessionId}
use Rattle.gx_rules.specs.AtCoordinator.{is_unfinished_there}
use Rattle.gx_cells.specs.CoordKept.{coordinator_by}
use Rattle.gx_cells.specs.CoordViews.{coord_data}
use Rattle.gx_cells.proofs.coord_cell.CoordCell.unfinished.Goals as goal

pub returns-then-not-self-clause-none : goal.returns-then-not-self-clause-none
returns-then-not-self-clause-none g c unspent none =
    subst (λ v. (id : SessionId) → id.0 < length v.script.sessions → is_unfinished_there v.script (coord_data v) id ≡ false) c.self.view_is
    (subst (λ xs. (id : SessionId) → id.0 < length c.self.inside.history.script.value.sessions → is_unfinished_there c.self.inside.history.script.value (coordinator_by c.self.inside.history.script.value c.self.inside.history.steps xs) id ≡ false) c.as_slice.ensures.value (c.unfinished_there.ensures.none none))
