use Rattle.std.proofs.Common.{arith}
use Rattle.gx_drive.proofs.agenda.go_on.Goals as goal

pub returns : goal.returns
returns c = λ script steps step agree link first is. c.delivered.ensures.agree script steps step c.args._number agree link (omega (arith, c.ranges._number.fits)) first is
