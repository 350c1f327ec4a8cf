-- Marks and steps may go to another thread.
use denote.Param.Send.{IsSend, IsSync, recorded_send, recorded_sync, sendable}
use Rattle.std.proofs.option.Option.TheSendSync as option
use Rattle.std.specs.contracts.option.Option as Option
use Rattle.gx_dsnap.proofs.snapshot.Snapshot.TheSendSync as snapshot
use Rattle.gx_ids.proofs.shared.Shared.TheSendSync as shared
use Rattle.gx_ids.specs.contracts.shared.Shared as Shared
use Rattle.gx_msg.proofs.Sent.{message_send, message_sync}
use Rattle.gx_waits.proofs.graph.LocalGraph.TheSendSync as graph
use Rattle.gx_waits.proofs.verdict.Verdict.TheSendSync as verdict
use Rattle.std.proofs.Crossing.{frees}
use Rattle.std.proofs.alloc.Global.TheSendSync as heap
use Rattle.std.proofs.vec.Vec.TheSendSync as vec
use Rattle.gx_tree.proofs.row.Row.TheSendSync as row
use Rattle.gx_waits.specs.contracts.graph.LocalGraph as LocalGraph
use Rattle.gx_ids.proofs.ids.Cid.TheSendSync as cid
use Rattle.gx_ids.proofs.ids.Gxid.TheSendSync as gxid
use Rattle.gx_ids.proofs.ids.Node.TheSendSync as node
use Rattle.gx_ids.proofs.ids.SessionId.TheSendSync as session
use Rattle.gx_ids.proofs.ids.Table.TheSendSync as table
use Rattle.gx_ids.proofs.rid.Rid.TheSendSync as rid
use Rattle.gx_modes.proofs.modes.Mode.TheSendSync as mode
use Rattle.gx_waits.proofs.object.Object.TheSendSync as object
use Rattle.gx_ids.proofs.stamp.Stamp.TheSendSync as stamp
use Rattle.gx_store.proofs.event.Event.TheSendSync as event
use Rattle.gx_store.specs.contracts.steps.Head as Head
use Rattle.gx_store.proofs.answer.StmtAnswer.TheSendSync as answer
use Rattle.gx_store.specs.contracts.mark.Mark as Mark
use Rattle.gx_store.specs.contracts.steps.Steps as Steps

graph_shared_send : IsSend (Shared.the_row LocalGraph.the_row)
graph_shared_send = shared.the_send LocalGraph.the_row graph.the_send graph.the_sync

graph_shared_sync : IsSync (Shared.the_row LocalGraph.the_row)
graph_shared_sync = shared.the_sync LocalGraph.the_row graph.the_send graph.the_sync

pub mark_send : IsSend Mark.the_field.row
mark_send = search (sendable, gxid.the_field_send, cid.the_field_send, node.the_field_send, table.the_field_send, session.the_field_send, rid.the_field_send, object.the_field_send, mode.the_field_send, snapshot.the_field_send, answer.the_field_send, row.the_send, option.the_field_send, message_send, graph.the_field_send, graph_shared_send, verdict.the_field_send) depth 60 fits 20000

pub mark_sync : IsSync Mark.the_field.row
mark_sync = search (sendable, gxid.the_field_sync, cid.the_field_sync, node.the_field_sync, table.the_field_sync, session.the_field_sync, rid.the_field_sync, object.the_field_sync, mode.the_field_sync, snapshot.the_field_sync, answer.the_field_sync, row.the_sync, option.the_field_sync, message_sync, graph.the_field_sync, graph_shared_sync, verdict.the_field_sync) depth 60 fits 20000

head_send : IsSend Head.the_field.row
head_send = search (sendable, stamp.the_field_send, event.the_field_send) depth 20

pub steps_send : IsSend Steps.the_row
steps_send = search (sendable, vec.the_send, heap.the_field_send, frees, option.the_field_send, head_send, mark_send) depth 20
