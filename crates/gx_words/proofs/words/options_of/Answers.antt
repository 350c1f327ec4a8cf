use Rattle.clap.specs.Matches.{found_of}
use Rattle.gx_words.proofs.Told.{told}
use Rattle.gx_words.proofs.words.options_of.Goals as goal

pub returns : goal.returns
returns c =
    told (found_of c.args.matches.now) _ _ _ _ _ _ c.number_given-seed.ensures
    (record { set = c.get_flag-threads.ensures.value; unset = c.get_flag-threads.ensures.other })
    (record { set = c.get_flag-trace.ensures.value; unset = c.get_flag-trace.ensures.other })
    c.number_given-asked.ensures c.number_given-work.ensures c.unwrap_or-turns.ensures
