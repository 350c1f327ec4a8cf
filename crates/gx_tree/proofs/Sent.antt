-- Expressions, and what holds them, may go to another thread and be shared.
use denote.Param.Send.{IsSend, IsSync, recorded_send, recorded_sync, sendable}
use Rattle.std.proofs.option.Option.TheSendSync as option
use Rattle.gx_ids.proofs.boxed.Boxed.TheSendSync as boxed
use Rattle.gx_ids.proofs.ids.Table.TheSendSync as table
use Rattle.gx_ids.proofs.seq.Seq.TheSendSync as seq
use Rattle.gx_ids.proofs.shared.Shared.TheSendSync as shared
use Rattle.gx_modes.proofs.modes.Mode.TheSendSync as mode
use Rattle.std.specs.contracts.option.Option as Option
use Rattle.gx_ids.specs.contracts.seq.Seq as Seq
use Rattle.gx_ids.specs.contracts.shared.Shared as Shared
use Rattle.gx_tree.specs.contracts.expr.Expr as Expr
use Rattle.gx_tree.specs.contracts.cond.Cond as Cond
use Rattle.gx_tree.specs.contracts.query.Query as Query
use Rattle.gx_tree.specs.contracts.row.KeyedRow as KeyedRow
use Rattle.gx_tree.specs.contracts.stmt.Assign as Assign
use Rattle.gx_tree.specs.contracts.stmt.Stmt as Stmt
use Rattle.gx_tree.specs.contracts.slice.Slice as Slice
use Rattle.gx_tree.proofs.value.Value.TheSendSync as value
use Rattle.gx_tree.proofs.expr.ArithOp.TheSendSync as arith
use Rattle.gx_tree.proofs.cond.CmpOp.TheSendSync as compared
use Rattle.gx_tree.proofs.query.Item.TheSendSync as item
use Rattle.gx_tree.proofs.query.Key.TheSendSync as key
use Rattle.gx_tree.proofs.row.KeyedRow.TheSendSync as keyed
use Rattle.gx_tree.proofs.stmt.Level.TheSendSync as level
use Rattle.gx_tree.proofs.expr.Expr.TheLaws.TheKnot as expr
use Rattle.gx_tree.proofs.cond.Cond.TheLaws.TheKnot as cond

pub expr_send : IsSend Expr.the_field.row
expr_send = search (sendable, expr.send-Expr, value.the_field_send, arith.the_field_send, boxed.the_send)

pub expr_sync : IsSync Expr.the_field.row
expr_sync = search (sendable, expr.sync-Expr, value.the_field_sync, arith.the_field_sync, boxed.the_sync)

pub cond_send : IsSend Cond.the_field.row
cond_send = search (sendable, cond.send-Cond, compared.the_field_send, expr_send, boxed.the_send)

pub cond_sync : IsSync Cond.the_field.row
cond_sync = search (sendable, cond.sync-Cond, compared.the_field_sync, expr_sync, boxed.the_sync)

pub query_send : IsSend Query.the_field.row
query_send = search (sendable, table.the_field_send, seq.the_send, item.the_field_send, key.the_field_send, option.the_field_send, cond_send) depth 20

pub query_sync : IsSync Query.the_field.row
query_sync = search (sendable, table.the_field_sync, seq.the_sync, item.the_field_sync, key.the_field_sync, option.the_field_sync, cond_sync) depth 20

pub assign_send : IsSend Assign.the_field.row
assign_send = search (sendable, expr_send)

pub assign_sync : IsSync Assign.the_field.row
assign_sync = search (sendable, expr_sync)

-- WHAT IS SHARED
row_query_send : IsSend Query.the_row
row_query_send = recorded_send Query.the_field.row _ _ Query.the_type.to_one query_send

row_query_sync : IsSync Query.the_row
row_query_sync = recorded_sync Query.the_field.row _ _ Query.the_type.to_one query_sync

row_assign_send : IsSend Assign.the_row
row_assign_send = recorded_send Assign.the_field.row _ _ Assign.the_type.to_one assign_send

row_assign_sync : IsSync Assign.the_row
row_assign_sync = recorded_sync Assign.the_field.row _ _ Assign.the_type.to_one assign_sync

shared_query_send : IsSend (Shared.the_row Query.the_row)
shared_query_send = shared.the_send _ row_query_send row_query_sync

shared_assigns_send : IsSend (Shared.the_row (Seq.the_row Assign.the_row))
shared_assigns_send = shared.the_send _ (seq.the_send _ row_assign_send) (seq.the_sync _ row_assign_sync)

shared_cond_send : IsSend (Shared.the_row (Option.the_row Cond.the_row))
shared_cond_send = shared.the_send (Option.the_row Cond.the_row) (search (sendable, option.the_field_send, cond_send)) (search (sendable, option.the_field_sync, cond_sync))

shared_rows_send : IsSend (Shared.the_row (Seq.the_row KeyedRow.the_row))
shared_rows_send = shared.the_send _ (seq.the_send _ keyed.the_send) (seq.the_sync _ keyed.the_sync)

shared_query_sync : IsSync (Shared.the_row Query.the_row)
shared_query_sync = shared.the_sync _ row_query_send row_query_sync

shared_assigns_sync : IsSync (Shared.the_row (Seq.the_row Assign.the_row))
shared_assigns_sync = shared.the_sync _ (seq.the_send _ row_assign_send) (seq.the_sync _ row_assign_sync)

shared_cond_sync : IsSync (Shared.the_row (Option.the_row Cond.the_row))
shared_cond_sync = shared.the_sync (Option.the_row Cond.the_row) (search (sendable, option.the_field_send, cond_send)) (search (sendable, option.the_field_sync, cond_sync))

shared_rows_sync : IsSync (Shared.the_row (Seq.the_row KeyedRow.the_row))
shared_rows_sync = shared.the_sync _ (seq.the_send _ keyed.the_send) (seq.the_sync _ keyed.the_sync)

pub stmt_send : IsSend Stmt.the_field.row
stmt_send = search (sendable, mode.the_field_send, level.the_field_send, table.the_field_send, seq.the_send, expr_send, shared_query_send, shared_assigns_send, shared_cond_send) depth 20

pub stmt_sync : IsSync Stmt.the_field.row
stmt_sync = search (sendable, mode.the_field_sync, level.the_field_sync, table.the_field_sync, seq.the_sync, expr_sync, shared_query_sync, shared_assigns_sync, shared_cond_sync) depth 20

pub slice_send : IsSend Slice.the_field.row
slice_send = search (sendable, mode.the_field_send, table.the_field_send, shared_query_send, shared_rows_send, shared_assigns_send, shared_cond_send) depth 20

pub slice_sync : IsSync Slice.the_field.row
slice_sync = search (sendable, mode.the_field_sync, table.the_field_sync, shared_query_sync, shared_rows_sync, shared_assigns_sync, shared_cond_sync) depth 20
