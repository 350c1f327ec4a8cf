use Rattle.std.specs.Prelude.{map}
use Rattle.gx.proofs.Attempts.{ran}
use Rattle.gx.proofs.Kept.{none_ran}
use Rattle.gx.proofs.Language.{keeps_language}
use Rattle.gx.proofs.attempt.make_attempt_in_threads.Goals as goal

pub run_in_threads-requires-clause-threads : goal.run_in_threads-requires-clause-threads
run_in_threads-requires-clause-threads g c κs within = c.requires.threads c.in-Ok.options c.in-Ok.ensures.given.asked

pub run_in_threads-requires-clause-language : goal.run_in_threads-requires-clause-language
run_in_threads-requires-clause-language g c κs within = (keeps_language _ _ c.in-Ok.options.work c.in-Ok.script c.in-Ok.ensures.given.read).language

pub run_in_threads-requires-clause-inserts : goal.run_in_threads-requires-clause-inserts
run_in_threads-requires-clause-inserts g c κs within = (keeps_language _ _ c.in-Ok.options.work c.in-Ok.script c.in-Ok.ensures.given.read).inserts

pub returns-in-Ok-clause-is : goal.returns-in-Ok-clause-is
returns-in-Ok-clause-is g c = ran _ _ _ _ _ c.in-Ok.options c.in-Ok.script c.in-Ok.ensures.given c.run_in_threads.result c.run_in_threads.ensures.ran

pub returns-in-Ok-clause-count : goal.returns-in-Ok-clause-count
returns-in-Ok-clause-count g c =
    let given = c.in-Ok.ensures.given in
    λ over. c.run_in_threads.ensures.count (over (record { options = c.in-Ok.options; asked = given.asked; threads = c.requires.threads c.in-Ok.options given.asked }))

pub returns-in-Err-clause-kept : goal.returns-in-Err-clause-kept
returns-in-Err-clause-kept g c = none_ran (map g.J.Journal.shelf c.args.journals.now.items) _ _ c.in-Err.ensures.none c.requires.empty
