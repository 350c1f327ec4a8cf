use Rattle.std.proofs.Common.{◌↔◌, ◌∙◌, IsTrue, List, [], ap, subst}
use Rattle.std.specs.Prelude.{IfOk}
use Rattle.gx_store.specs.declared.mark.Mark.{Mark}
use Rattle.gx_store.specs.Points.{marks_in}
use Rattle.gx_judging.specs.Victims.{NameRightly}
use Rattle.gx_judging.proofs.checking.do_name_rightly.Goals as goal

pub returns : goal.returns
returns c =
    subst (λ (ms : List Mark). IfOk c.name_rightly.result (λ are. IsTrue are ↔ NameRightly c.args.judged.now.script.now [] ms)) (c.requires.all ∙ ap marks_in c.requires.run) c.name_rightly.ensures
