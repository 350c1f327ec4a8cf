use Rattle.std.proofs.Common.{◌≡◌, ◌≤◌, length, subst}
use Rattle.std.specs.Prelude.{IfOk, OnOk}
use Rattle.gx_rules.specs.Snapshots.{snapshot_of}
use Rattle.gx_cells.specs.CoordKept.{coordinator_apart}
use Rattle.gx_cells.specs.CoordViews.{CoordView, coord_data}
use Rattle.gx_cells.proofs.Answers.{always_ok}
use Rattle.gx_cells.proofs.AtCoordinators.{apart-language}
use Rattle.gx_cells.proofs.coord_cell.CoordCell.snapshot.Goals as goal

pub returns-clause-taken : goal.returns-clause-taken
returns-clause-taken g c =
    subst (λ (v : CoordView). IfOk c.snapshot_there.result (λ snapshot. snapshot ≡ snapshot_of (coord_data v).table)) c.self.view_is
    (subst (λ inboxes. IfOk c.snapshot_there.result (λ snapshot. snapshot ≡ snapshot_of (coordinator_apart c.self.inside.history inboxes).table)) c.as_slice.ensures.value c.snapshot_there.ensures)

pub returns-clause-few : goal.returns-clause-few
returns-clause-few g c =
    let apart = c.self.invariant.1 c.if-self.false in
    let inside = c.self.inside in
    subst (λ (v : CoordView). OnOk c.snapshot_there.result (length v.script.tables ≤ 64)) c.self.view_is
    (always_ok c.snapshot_there.result _ (apart-language inside.history inside.inboxes.items inside.coord (g.J.Journal.shelf inside.journal) apart).few_tables)
