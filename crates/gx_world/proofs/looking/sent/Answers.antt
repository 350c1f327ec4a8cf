use Rattle.std.proofs.Common.{◌∙◌}
use Rattle.gx_world.proofs.looking.sent.Goals as goal

pub returns : goal.returns
returns c = λ usable. c.count.ensures ∙ (c.requires.is.stands usable).letters.count c.args.from c.args.to
