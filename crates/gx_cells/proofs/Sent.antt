-- A node's cell may go to its thread, where its journal may.
use denote.Param.Send.{IsSend, sendable}
use Rattle.std.proofs.Crossing.{frees}
use Rattle.std.proofs.alloc.Global.TheSendSync as heap
use Rattle.std.proofs.collections.BTreeSet.TheSendSync as set
use Rattle.std.proofs.option.Option.TheSendSync as option
use Rattle.std.proofs.sync.Arc.TheSendSync as arc
use Rattle.std.proofs.vec.Vec.TheSendSync as vec
use Rattle.gx_agenda.proofs.link.LinkMessage.TheSendSync as link_message
use Rattle.gx_agenda.proofs.own_slots.OwnSlots.TheSendSync as own_slots
use Rattle.gx_agenda.specs.contracts.faults.Faults as Faults
use Rattle.gx_ids.proofs.ids.Node.TheSendSync as node
use Rattle.gx_script.proofs.Sent.{script_send, script_sync}
use Rattle.gx_msg.proofs.Sent.{envelope_send}
use Rattle.gx_copies.proofs.Sent.{steps_send}
use Rattle.gx_links.proofs.Sent.{in_send, out_send}
use Rattle.gx_cells.specs.contracts.coord_history.CoordHistory as CoordHistory
use Rattle.gx_cells.specs.contracts.history.History as History
use Rattle.gx_cells.specs.contracts.inbox.Inbox as Inbox

pub faults_field_send : IsSend Faults.the_field.row
faults_field_send = search (sendable, set.the_send, heap.the_field_send, frees, link_message.the_field_send) depth 20

pub inbox_field_send : IsSend Inbox.the_field.row
inbox_field_send = search (sendable, in_send, option.the_field_send, envelope_send) depth 20

pub history_field_send : IsSend History.the_field.row
history_field_send = search (sendable, heap.the_field_send, heap.the_field_sync, frees, arc.the_send, script_send, script_sync, node.the_field_send, steps_send, out_send) depth 20

pub coord_history_field_send : IsSend CoordHistory.the_field.row
coord_history_field_send = search (sendable, heap.the_field_send, heap.the_field_sync, frees, arc.the_send, vec.the_send, script_send, script_sync, steps_send, out_send, own_slots.the_field_send) depth 20
