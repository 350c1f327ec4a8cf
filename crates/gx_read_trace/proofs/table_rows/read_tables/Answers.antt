use Rattle.std.proofs.Common.{◌≡◌, ◌<◌, List, length, get_or, subst}
use Rattle.std.proofs.lemmas.Result.{err_from_is_err_and}
use Rattle.gx_tree.specs.declared.schema.Schema.{Schema}
use Rattle.gx_read_trace.proofs.Onward.{next_of, tables_fail}
use Rattle.gx_read_trace.proofs.table_rows.read_tables.Goals as goal

pub returns-in_err-rows : goal.returns-in_err-rows
returns-in_err-rows c =
    let at = c.loop-table.table-index in
    let table = c.table-item.result in
    let low : at < length c.args.script.now.tables = subst (λ (ts : List Schema). at < length ts) c.as_slice-table-items.ensures c.loop-table-test.true in
    let is : table ≡ get_or c.args.script.now.tables at table = subst (λ (ts : List Schema). table ≡ get_or ts at table) c.as_slice-table-items.ensures c.table-item.is in
    let p = err_from_is_err_and c.from_residual.result c.from_residual.ensures.1 in
    rw (p.1, p.2) (tables_fail c.args.script.now c.args.lines.now at c.loop-table.lines c.read_table.new.lines c.loop-table.tables table c.in_err-rows.field-0.0
    (next_of c.args.script.now.tables at table low is) c.loop-table.invariant c.in_err-rows.ensures)
