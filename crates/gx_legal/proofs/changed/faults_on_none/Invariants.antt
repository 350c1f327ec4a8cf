use Rattle.std.proofs.Common.{◌≡◌, drop}
use Rattle.gx_legal.specs.RowsDone.{faults_on_none}
use Rattle.gx_legal.proofs.changed.faults_on_none.Given as goal

abbrev pub invariant-loop-row : goal.invariant-loop-row
invariant-loop-row l = faults_on_none l.cond (drop l.row-index l.rows) ≡ faults_on_none l.cond l.rows
