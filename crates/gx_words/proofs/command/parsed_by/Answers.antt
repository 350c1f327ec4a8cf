use Rattle.gx_words.proofs.Commands.{fine-at, found-at, refused-at}
use Rattle.gx_words.proofs.command.parsed_by.Goals as goal

pub returns-in-Ok-clause-fine : goal.returns-in-Ok-clause-fine
returns-in-Ok-clause-fine c = fine-at _ _ c.requires c.in-Ok.ensures.kinds

pub returns-in-Ok-clause-found : goal.returns-in-Ok-clause-found
returns-in-Ok-clause-found c = found-at _ _ _ c.requires c.in-Ok.ensures.matches

pub returns-in-Err-clause-refused : goal.returns-in-Err-clause-refused
returns-in-Err-clause-refused c = refused-at _ _ c.in-Err.error _ c.requires c.in-Err.ensures.kinds c.of_error.ensures.usage
