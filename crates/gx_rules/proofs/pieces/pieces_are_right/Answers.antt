use Rattle.gx_rules.proofs.RightPieces.{pieces-right}
use Rattle.gx_rules.proofs.pieces.pieces_are_right.Goals as goal

pub returns : goal.returns
returns c = λ script dist g cid line pieces of item e. pieces-right script g cid dist line pieces of item e
