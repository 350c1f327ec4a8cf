use Rattle.std.proofs.Common.{◌↔◌, IsTrue, List, [], subst}
use Rattle.std.specs.Prelude.{IfOk}
use Rattle.gx_store.specs.declared.run.Step.{Step}
use Rattle.gx_store.specs.Ordered.{AreOrdered}
use Rattle.gx_judging.proofs.checking.are_in_order.Goals as goal

pub returns : goal.returns
returns c = subst (λ (ss : List Step). IfOk c.are_ordered.result (λ are. IsTrue are ↔ AreOrdered c.args.judged.now.script.now [] ss)) c.requires.run c.are_ordered.ensures
