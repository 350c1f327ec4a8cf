use Rattle.std.proofs.Common.{◌↔◌, ◌∙◌, IsTrue, List, ap, subst}
use Rattle.std.specs.Prelude.{IfOk}
use Rattle.gx_store.specs.declared.mark.Mark.{Mark}
use Rattle.gx_store.specs.Points.{marks_in}
use Rattle.gx_tree.specs.declared.value.Value.{Value}
use Rattle.gx_judging.specs.Shown.{AreTablesShown}
use Rattle.gx_judging.proofs.checking.has_tables.Goals as goal

pub returns : goal.returns
returns c =
    let script = c.args.judged.now.script.now in
    let tables = subst (λ (ts : List (List (List Value))). IfOk c.are_tables_shown.result (λ are. IsTrue are ↔ AreTablesShown script c.args.judged.now.marks.now ts)) c.as_slice.ensures c.are_tables_shown.ensures in
    subst (λ (ms : List Mark). IfOk c.are_tables_shown.result (λ are. IsTrue are ↔ AreTablesShown script ms c.args.judged.now.seen.now.tables)) (c.requires.all ∙ ap marks_in c.requires.run) tables
