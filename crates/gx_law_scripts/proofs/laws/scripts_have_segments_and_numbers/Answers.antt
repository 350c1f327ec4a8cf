use Rattle.std.proofs.Common.{[]}
use Rattle.gx_law_scripts.proofs.laws.scripts_have_segments_and_numbers.Goals as goal

pub returns : goal.returns
returns c = λ script is. (is.some_segments, is.numbers)
