use Rattle.gx_law_runs.proofs.OrdersFit.{world-fits}
use Rattle.gx_law_runs.proofs.fits.what_is_sent_fits.Goals as goal

pub returns : goal.returns
returns c = λ script events is items. world-fits script is items events
