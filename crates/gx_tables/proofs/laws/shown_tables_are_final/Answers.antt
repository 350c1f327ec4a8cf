use Rattle.gx_tables.proofs.Finals.{tables-are-final}
use Rattle.gx_tables.proofs.laws.shown_tables_are_final.Goals as goal

pub returns : goal.returns
returns c = tables-are-final
