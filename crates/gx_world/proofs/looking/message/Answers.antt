use Rattle.std.proofs.Common.{◌∙◌}
use Rattle.gx_world.proofs.Receipts.{told}
use Rattle.gx_world.proofs.looking.message.Goals as goal

pub returns : goal.returns
returns c = λ usable. c.message.ensures ∙ told c.args.network.now c.requires.is usable c.args.from c.args.to c.args.number
