use Rattle.gx_detect.proofs.Awaited.{awaited_is, awaited_tells}
use Rattle.gx_detect.proofs.laws.awaited_segments_have_not_reported.Goals as goal

pub returns : goal.returns
returns c = λ segments calls segment. (awaited_tells segments calls segment, awaited_is segments calls segment)
