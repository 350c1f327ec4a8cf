use Rattle.std.proofs.Common.{◌∙◌, is_some}
use Rattle.clap.specs.Matches.{found_of}
use Rattle.gx_words.proofs.Told.{is-first, is-neither, is-second, mixed-told}
use Rattle.gx_words.proofs.words.are_mixed.Goals as goal

pub returns-then-is_some : goal.returns-then-is_some
returns-then-is_some c = λ parts rows.
    is-first _ _ (is_some c.number_given-turns.result) c.is_some.result c.if-threads.true c.is_some.ensures c.if-is_some.true
    ∙ mixed-told (found_of c.args.matches.now) _ _ _ (record { set = c.get_flag-threads.ensures.value; unset = c.get_flag-threads.ensures.other })
    c.number_given-seed.ensures c.number_given-turns.ensures parts rows

pub returns-else-is_some : goal.returns-else-is_some
returns-else-is_some c = λ parts rows.
    is-second _ _ _ c.is_some.result c.is_some-else-is_some.result c.if-threads.true c.is_some.ensures c.if-is_some.false c.is_some-else-is_some.ensures
    ∙ mixed-told (found_of c.args.matches.now) _ _ _ (record { set = c.get_flag-threads.ensures.value; unset = c.get_flag-threads.ensures.other })
    c.number_given-seed.ensures c.number_given-turns.ensures parts rows

pub returns-else-threads : goal.returns-else-threads
returns-else-threads c = λ parts rows.
    is-neither c.get_flag-threads.result _ c.if-threads.false
    ∙ mixed-told (found_of c.args.matches.now) _ _ _ (record { set = c.get_flag-threads.ensures.value; unset = c.get_flag-threads.ensures.other })
    c.number_given-seed.ensures c.number_given-turns.ensures parts rows
