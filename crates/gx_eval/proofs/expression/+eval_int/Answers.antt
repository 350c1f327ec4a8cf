use Rattle.std.proofs.Common.{IsSome, refl, subst, sym}
use Rattle.gx_meaning.proofs.KindLemmas.{column_within, kind_of-column}
use Rattle.gx_eval.proofs.expression.+eval_int.Goals as goal

pub column_value-requires : goal.column_value-requires
column_value-requires t c = column_within c.args.row.now c.args.expr.now c.in-Col.column c.in-Col.is (subst IsSome (sym c.requires) refl)

pub number-requires-in-Col : goal.number-requires-in-Col
number-requires-in-Col t c =
    let same = kind_of-column c.args.row.now c.args.expr.now c.in-Col.column c.in-Col.is (subst IsSome (sym c.requires) refl) in
    cc (same, c.requires, c.column_value.ensures)
