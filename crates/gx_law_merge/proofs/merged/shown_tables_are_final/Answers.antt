use Rattle.gx_law_merge.proofs.Shown.{tables-shown}
use Rattle.gx_law_merge.proofs.merged.shown_tables_are_final.Goals as goal

pub returns : goal.returns
returns c = λ script histories steps tables some numbered fit merge shown. tables-shown script some histories fit steps merge numbered tables shown
