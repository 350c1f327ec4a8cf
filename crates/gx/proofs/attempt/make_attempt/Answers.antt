use Rattle.std.specs.Prelude.{map}
use Rattle.gx.proofs.Attempts.{ran}
use Rattle.gx.proofs.Kept.{none_ran}
use Rattle.gx.proofs.Language.{keeps_language}
use Rattle.gx.proofs.attempt.make_attempt.Goals as goal

pub run_script-requires-clause-alone : goal.run_script-requires-clause-alone
run_script-requires-clause-alone g c = c.requires.alone c.in-Ok.options c.in-Ok.ensures.given.asked

pub run_script-requires-clause-turns : goal.run_script-requires-clause-turns
run_script-requires-clause-turns g c = c.in-Ok.ensures.given.asked.of.most

pub run_script-requires-clause-language : goal.run_script-requires-clause-language
run_script-requires-clause-language g c = (keeps_language _ _ c.in-Ok.options.work c.in-Ok.script c.in-Ok.ensures.given.read).language

pub run_script-requires-clause-inserts : goal.run_script-requires-clause-inserts
run_script-requires-clause-inserts g c = (keeps_language _ _ c.in-Ok.options.work c.in-Ok.script c.in-Ok.ensures.given.read).inserts

pub returns-in-Ok-clause-is : goal.returns-in-Ok-clause-is
returns-in-Ok-clause-is g c = ran _ _ _ _ _ c.in-Ok.options c.in-Ok.script c.in-Ok.ensures.given c.run_script.result c.run_script.ensures.ran

pub returns-in-Err-clause-kept : goal.returns-in-Err-clause-kept
returns-in-Err-clause-kept g c = none_ran (map g.J.Journal.shelf c.args.journals.now.items) _ _ c.in-Err.ensures.none c.requires.empty
