use Rattle.std.proofs.Common.{subst}
use Rattle.std.specs.Prelude.{IfOk, map}
use Rattle.gx_rules.specs.Snapshots.{snapshot_of}
use Rattle.gx_tables.specs.Tables.{AreTablesOf}
use Rattle.gx_cells.specs.CoordViews.{coord_data}
use Rattle.gx_cells.specs.Done.{CellsView}
use Rattle.gx_cells.specs.Views.{data_of}
use Rattle.gx_cells.proofs.cells.Cells.tables.Goals as goal

pub returns-clause-rows : goal.returns-clause-rows
returns-clause-rows g c =
    let inside = c.self.inside in
    subst (λ (v : CellsView). IfOk c.tables_by.result (λ tables. AreTablesOf (map data_of v.segments) (snapshot_of (coord_data v.coord).table) 0 tables.items)) c.self.view_is
    (subst (λ x. IfOk c.tables_by.result (λ tables. AreTablesOf (map data_of inside.segments.items) x 0 tables.items)) c.in_ok-snapshot.ensures.taken
    (subst (λ ss. IfOk c.tables_by.result (λ tables. AreTablesOf (map data_of ss) c.in_ok-snapshot.snapshot 0 tables.items)) c.as_slice.ensures.value c.tables_by.ensures.rows))
