use Rattle.std.proofs.Common.{subst}
use Rattle.gx_legal.specs.Standings.{HasNumber, state_in}
use Rattle.gx_legal.proofs.lines.number_in.Goals as goal

pub cid_behind-requires : goal.cid_behind-requires
cid_behind-requires c = subst (λ b. HasNumber (state_in b)) c.in-Inside.is c.requires
