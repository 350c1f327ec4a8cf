use Rattle.std.proofs.Common.{◌≡◌, ◌++◌, List, IfOk, sym, subst}
use Rattle.gx_tree.specs.declared.schema.Schema.{Schema}
use Rattle.gx_print.specs.OneLine.{IsReadWith, line_of}
use Rattle.gx_print.specs.Reprinting.{ReadsAs}
use Rattle.gx_print.specs.Written.{printed}
use Rattle.gx_print.proofs.LineKept.{line_again, text_ok}
use Rattle.gx_print.proofs.OneLine.{line_is_read}
use Rattle.gx_print.proofs.lines.print_line.Goals as goal

pub returns-clause-again : goal.returns-clause-again
returns-clause-again c bytes h a =
    let script = c.args.script.now in
    let stmt = c.args.line.now.stmt in
    let read = line_again bytes script c.args.line.now h a c.limit_of-limit.ensures in
    text_ok (ReadsAs script.tables stmt) (printed script.tables stmt) c.print_stmt.result
    (subst (λ (tables : List Schema). IfOk c.print_stmt.result (λ v. v.items ≡ printed tables stmt)) c.as_slice.ensures c.print_stmt.ensures.form) read.0

pub returns-clause-whole : goal.returns-clause-whole
returns-clause-whole c bytes heads over name h a are same named =
    let script = c.args.script.now in
    let stmt = c.args.line.now.stmt in
    let text = printed script.tables stmt in
    let read = line_again bytes script c.args.line.now h a c.limit_of-limit.ensures in
    let there : ReadsAs over.tables stmt text = subst (λ (tables : List Schema). ReadsAs tables stmt text) (sym same) read.0 in
    text_ok (λ t. IsReadWith (heads ++ line_of name t) over name stmt) text c.print_stmt.result
    (subst (λ (tables : List Schema). IfOk c.print_stmt.result (λ v. v.items ≡ printed tables stmt)) c.as_slice.ensures c.print_stmt.ensures.form)
    (line_is_read heads over name stmt text are named there read.1)
