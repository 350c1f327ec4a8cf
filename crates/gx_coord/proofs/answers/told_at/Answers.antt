use Rattle.std.proofs.Common.{◌∙◌, List, ap, sym}
use Rattle.std.proofs.lemmas.Result.{IfOk-weaker}
use Rattle.gx_tree.specs.declared.part.Part.{Part}
use Rattle.gx_tree.specs.declared.stmt.Stmt.{Stmt}
use Rattle.gx_coord.specs.Books.{stmt_at}
use Rattle.gx_coord.specs.Turns.{told_by}
use Rattle.gx_coord.proofs.Started.{stmt-found}
use Rattle.gx_coord.proofs.answers.told_at.Goals as goal

pub returns-in-Some : goal.returns-in-Some
returns-in-Some c =
    let k = c.args.command.now in
    let lines = c.args.script.now.lines in
    IfOk-weaker c.told_of.result _ _
    (λ told h. h
    ∙ ap (λ (s : Stmt). told_by s k.count c.as_slice-in-Some.result.now) (sym (stmt-found lines c.as_slice.result.now k.line c.in-Some.line.now c.as_slice.ensures c.in-Some.ensures.lookup.3.0 c.in-Some.ensures.lookup.1))
    ∙ ap (λ (ps : List Part). told_by (stmt_at lines k.line) k.count ps) c.as_slice-in-Some.ensures)
    c.told_of.ensures
