use Rattle.std.proofs.Common.{subst}
use Rattle.gx_cells.specs.Closed.{IsCoordKept}
use Rattle.gx_cells.proofs.coord_cell.CoordCell.into_parts.Goals as goal

pub returns-clause-kept : goal.returns-clause-kept
returns-clause-kept g c =
    let apart = c.self.invariant.1 c.if-self.false in
    subst IsCoordKept c.self.view_is (record { unspent = c.if-self.false; steps = apart.steps; outs = apart.outs; ins = apart.ins; sent = apart.sent; starts = apart.starts })
