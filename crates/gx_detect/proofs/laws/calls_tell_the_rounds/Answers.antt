use Rattle.gx_detect.proofs.Told.{after-told}
use Rattle.gx_detect.proofs.laws.calls_tell_the_rounds.Goals as goal

pub returns : goal.returns
returns c = after-told
