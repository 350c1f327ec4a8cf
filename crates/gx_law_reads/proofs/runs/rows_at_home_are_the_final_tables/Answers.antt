use Rattle.gx_law_reads.proofs.Seeing.{world-tables}
use Rattle.gx_law_reads.proofs.runs.rows_at_home_are_the_final_tables.Goals as goal

pub returns : goal.returns
returns c = λ script events tables some homes rows. world-tables script some events tables 0 homes rows
