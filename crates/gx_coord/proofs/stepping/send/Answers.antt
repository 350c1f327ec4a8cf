use Rattle.gx_coord.proofs.Numbering.{few-anyway}
use Rattle.gx_coord.proofs.stepping.send.Goals as goal

pub number-requires-clause-room : goal.number-requires-clause-room
number-requires-clause-room c = few-anyway _ _ c.requires.numbers
