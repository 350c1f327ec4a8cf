use Rattle.std.proofs.Common.{◌∙◌, Some, Ok, ap, sym}
use Rattle.gx_meaning.specs.Expressions.{value_of}
use Rattle.gx_meaning.specs.Kinds.{value_kind}
use Rattle.gx_meaning.proofs.KindLemmas.{column_within, kind_of-column}
use Rattle.gx_meaning.proofs.Nodes.{value_of-col}
use Rattle.gx_eval.proofs.expression.leaf.Goals as goal

pub column_value-requires : goal.column_value-requires
column_value-requires c = column_within c.args.row.now c.args.expr.now c.in-Col.column c.in-Col.is c.requires

pub returns-in-Col : goal.returns-in-Col
returns-in-Col c =
    let row = c.args.row.now in
    let is = sym c.column_value.ensures in (
      kind_of-column row c.args.expr.now c.in-Col.column c.in-Col.is c.requires ∙ ap (λ v. Some (value_kind v)) is,
      ap (value_of row) c.in-Col.is ∙ value_of-col row c.in-Col.column ∙ ap Ok is,
    )
