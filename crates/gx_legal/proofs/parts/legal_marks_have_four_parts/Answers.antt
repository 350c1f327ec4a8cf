use Rattle.gx_legal.proofs.Parting.{of-parts, parts-of}
use Rattle.gx_legal.proofs.parts.legal_marks_have_four_parts.Goals as goal

pub returns : goal.returns
returns c = λ script point mark. (parts-of script point mark, of-parts script point mark)
