use Rattle.std.proofs.Common.{List, subst, sym}
use Rattle.gx_waits.specs.declared.graph.LocalGraph.{LocalGraph}
use Rattle.gx_drive.specs.Ends.{IsEnd}
use Rattle.gx_drive.specs.declared.end.End.TheVariants.{Stuck}
use Rattle.gx_drive.proofs.Endings.{stuck-ends}
use Rattle.gx_drive.proofs.Undetected.{no-detector}
use Rattle.gx_drive.proofs.stuck.stuck.Goals as goal

pub returns-clause-end : goal.returns-clause-end
returns-clause-end c =
    subst (λ (graphs : List LocalGraph). IsEnd c.args.world.now.script c.args.world.now.run.steps c.args._turns (Stuck graphs)) (sym c.from_vec.ensures)
    (stuck-ends c.args.world.now.script c.args.world.now.run.steps c.args._turns _ c.requires.left c.requires.unfinished c.requires.nothing c.in_ok-graphs.ensures)

pub returns-clause-off : goal.returns-clause-off
returns-clause-off c = λ graphs is inserts. no-detector c.args.world.now.script c.args.world.now.run.steps c.requires.language inserts c.requires.reached c.requires.let_in c.requires.unfinished c.requires.nothing
