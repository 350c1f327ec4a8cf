use Rattle.gx_words.proofs.Commands.{bare-is}
use Rattle.gx_words.proofs.command.bare.Goals as goal

pub returns : goal.returns
returns c = bare-is _ _ _ c.new.ensures.app c.no_binary_name.ensures c.disable_help_flag.ensures
