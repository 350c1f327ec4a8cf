use Rattle.std.proofs.Common.{◌↔◌, IsTrue, List, [], subst}
use Rattle.std.specs.Prelude.{IfOk}
use Rattle.gx_store.specs.declared.run.Step.{Step}
use Rattle.gx_judging.specs.Parts.{AreLegalIn}
use Rattle.gx_judging.proofs.checking.are_legal.Goals as goal

pub returns : goal.returns
returns c = subst (λ (ss : List Step). IfOk c.are_legal_in.result (λ are. IsTrue are ↔ AreLegalIn c.args.part c.args.judged.now.script.now [] ss)) c.requires.run c.are_legal_in.ensures
