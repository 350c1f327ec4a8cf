-- Messages may go to another thread and be shared.
use denote.Param.Send.{IsSend, IsSync, sendable}
use Rattle.std.proofs.option.Option.TheSendSync as option
use Rattle.std.specs.contracts.option.Option as Option
use Rattle.gx_dsnap.proofs.snapshot.Snapshot.TheSendSync as snapshot
use Rattle.gx_dsnap.specs.contracts.snapshot.Snapshot as Snapshot
use Rattle.gx_ids.proofs.ids.Cid.TheSendSync as cid
use Rattle.gx_ids.proofs.ids.Gxid.TheSendSync as gxid
use Rattle.gx_ids.proofs.ids.Node.TheSendSync as node
use Rattle.gx_ids.proofs.shared.Shared.TheSendSync as shared
use Rattle.gx_ids.specs.contracts.shared.Shared as Shared
use Rattle.gx_tree.proofs.Sent.{slice_send, slice_sync}
use Rattle.gx_tree.proofs.stmt.Level.TheSendSync as level
use Rattle.gx_waits.proofs.graph.LocalGraph.TheSendSync as graph
use Rattle.gx_msg.proofs.reply.Reply.TheSendSync as reply
use Rattle.gx_msg.specs.contracts.message.Envelope as Envelope
use Rattle.gx_msg.specs.contracts.message.Message as Message
use Rattle.gx_msg.specs.contracts.message.Out as Out

shared_snapshot_send : IsSend (Shared.the_row (Option.the_row Snapshot.the_row))
shared_snapshot_send = shared.the_send (Option.the_row Snapshot.the_row) (search (sendable, option.the_field_send, snapshot.the_send)) (search (sendable, option.the_field_sync, snapshot.the_sync))

shared_snapshot_sync : IsSync (Shared.the_row (Option.the_row Snapshot.the_row))
shared_snapshot_sync = shared.the_sync (Option.the_row Snapshot.the_row) (search (sendable, option.the_field_send, snapshot.the_send)) (search (sendable, option.the_field_sync, snapshot.the_sync))

pub message_send : IsSend Message.the_field.row
message_send = search (sendable, gxid.the_field_send, cid.the_field_send, level.the_field_send, shared_snapshot_send, shared.the_send, slice_send, slice_sync, reply.the_field_send, graph.the_field_send) depth 20

pub message_sync : IsSync Message.the_field.row
message_sync = search (sendable, gxid.the_field_sync, cid.the_field_sync, level.the_field_sync, shared_snapshot_sync, shared.the_sync, slice_send, slice_sync, reply.the_field_sync, graph.the_field_sync) depth 20

pub out_send : IsSend Out.the_field.row
out_send = search (sendable, node.the_field_send, message_send) depth 20

pub out_sync : IsSync Out.the_field.row
out_sync = search (sendable, node.the_field_sync, message_sync) depth 20

pub envelope_send : IsSend Envelope.the_field.row
envelope_send = search (sendable, message_send) depth 20

pub envelope_sync : IsSync Envelope.the_field.row
envelope_sync = search (sendable, message_sync) depth 20
