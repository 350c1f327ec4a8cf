-- A transaction's record may go to another thread.
use denote.Param.Send.{IsSend, sendable}
use Rattle.std.proofs.option.Option.TheSendSync as option
use Rattle.gx_dsnap.proofs.snapshot.Snapshot.TheSendSync as snapshot
use Rattle.gx_ids.proofs.boxed.Boxed.TheSendSync as boxed
use Rattle.gx_ids.proofs.ids.Cid.TheSendSync as cid
use Rattle.gx_ids.proofs.rid.Rid.TheSendSync as rid
use Rattle.gx_ids.proofs.seq.Seq.TheSendSync as seq
use Rattle.gx_tree.proofs.Sent.{slice_send}
use Rattle.gx_tree.proofs.stmt.Level.TheSendSync as level
use Rattle.gx_msg.proofs.reply.Reply.TheSendSync as reply
use Rattle.gx_node.proofs.local.Phase.TheSendSync as phase
use Rattle.gx_node.proofs.local.Vote.TheSendSync as vote
use Rattle.gx_node.specs.contracts.local.Local as Local
use Rattle.gx_node.specs.contracts.local.Suspended as Suspended

pub suspended_send : IsSend Suspended.the_field.row
suspended_send = search (sendable, option.the_field_send, cid.the_field_send, level.the_field_send, snapshot.the_field_send, slice_send, rid.the_field_send, seq.the_send) depth 20

pub local_field_send : IsSend Local.the_field.row
local_field_send = search (sendable, option.the_field_send, phase.the_field_send, vote.the_field_send, reply.the_field_send, boxed.the_send, suspended_send) depth 20

pub local_send : IsSend Local.the_row
local_send = search (sendable, local_field_send)
