use Rattle.gx_rules.proofs.ChangeRuns as runs
use Rattle.gx_rules.proofs.rows.snapshot_shows_old_images.Goals as goal

pub returns : goal.returns
returns c = runs.keeps_images
