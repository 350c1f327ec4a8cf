use Rattle.gx_report.specs.Text.{keyed_line}
use Rattle.gx_report.proofs.Adding.{added-next}
use Rattle.gx_report.proofs.tables.push_table.Goals as goal

pub loop-row-preserved : goal.loop-row-preserved
loop-row-preserved c =
    added-next keyed_line c.args.rows.now c.loop-row.row-index c.row-item.result _ _ _ c.loop-row-test.true c.row-item.is c.loop-row.invariant c.in_ok-push_keyed_row.ensures
