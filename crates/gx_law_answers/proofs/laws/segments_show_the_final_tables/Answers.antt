use Rattle.gx_law_reads.proofs.Seeing.{world-tables}
use Rattle.gx_law_answers.proofs.AtHome.{at-home}
use Rattle.gx_law_answers.proofs.laws.segments_show_the_final_tables.Goals as goal

pub returns : goal.returns
returns c = λ script events tables some numbered rows. world-tables script some events tables 0 (at-home script some numbered events) rows
