use Rattle.std.proofs.Common.{◌∙◌, map}
use Rattle.std.specs.Prelude.{string_bytes}
use Rattle.clap.proofs.WalkLemmas.{list_any-map}
use Rattle.gx_words.specs.Command.{is_threads}
use Rattle.gx_words.proofs.Asking.{asked-threads}
use Rattle.gx_words.proofs.words.ask_for_threads.Goals as goal

pub returns : goal.returns
returns c = λ options is. c.has_threads.ensures ∙ list_any-map is_threads string_bytes c.args.words.now ∙ asked-threads (map string_bytes c.args.words.now) options is
