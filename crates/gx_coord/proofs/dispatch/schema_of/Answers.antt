use Rattle.std.proofs.Common.{◌∙◌, List, nat_lt, length, ap}
use Rattle.gx_tree.specs.declared.schema.Schema.{Schema}
use Rattle.gx_rules.specs.AtCoordinator.{table_of}
use Rattle.gx_coord.proofs.Faulting.{none-beyond}
use Rattle.gx_coord.proofs.dispatch.schema_of.Goals as goal

pub unreachable-requires : goal.unreachable-requires
unreachable-requires c =
    let tables = c.args.script.now.tables in
    let at = table_of c.args.line.now in
    none-beyond tables c.args.line.now c.requires.command c.requires.line
    (c.in-None.ensures.lookup.0
    ∙ ap (λ n. nat_lt n (length c.as_slice.result.now)) (c.from.ensures ∙ c.table_of-table.ensures)
    ∙ ap (λ (ts : List Schema). nat_lt at (length ts)) c.as_slice.ensures)
