use Rattle.gx_rules.proofs.Runs as runs
use Rattle.gx_rules.proofs.rows.reader_between_commits.Goals as goal

pub returns : goal.returns
returns c = runs.reads_between
