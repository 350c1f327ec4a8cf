use Rattle.std.proofs.Common.{◌≡◌, IfOk, Ok, subst, sym}
use Rattle.gx_tree.specs.declared.schema.Dist.{Dist}
use Rattle.gx_meaning.specs.Plan.{plan_of}
use Rattle.gx_rules.specs.AtCoordinator.{table_of}
use Rattle.gx_coord.proofs.Faulting.{dist-at, planned-command}
use Rattle.gx_coord.proofs.dispatch.plan_line.Goals as goal

pub plan_in-requires-clause-command : goal.plan_in-requires-clause-command
plan_in-requires-clause-command c = planned-command c.args.script.now c.args.line.now c.schema_of-schema.result.now c.requires.language c.requires.command c.requires.line c.requires.short c.schema_of-schema.ensures

pub returns-clause-pieces : goal.returns-clause-pieces
returns-clause-pieces c =
    let script = c.args.script.now in
    subst (λ (d : Dist). IfOk c.plan_in.result (λ found. plan_of script.segments d c.args.gxid c.args.cid c.args.line.now ≡ Ok found.items)) (sym (dist-at script.tables (table_of c.args.line.now) c.schema_of-schema.result.now c.schema_of-schema.ensures)) c.plan_in.ensures.pieces
