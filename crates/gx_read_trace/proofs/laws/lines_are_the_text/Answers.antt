use Rattle.gx_read_trace.proofs.Texts.{lines-are-text}
use Rattle.gx_read_trace.proofs.laws.lines_are_the_text.Goals as goal

pub returns : goal.returns
returns c = lines-are-text
