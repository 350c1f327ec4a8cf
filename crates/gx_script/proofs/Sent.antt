-- A script may go to another thread and be shared.
use denote.Param.Send.{IsSend, IsSync, recorded_send, recorded_sync, sendable}
use Rattle.gx_ids.proofs.ids.SessionId.TheSendSync as session
use Rattle.gx_ids.proofs.seq.Seq.TheSendSync as seq
use Rattle.gx_ids.specs.contracts.seq.Seq as Seq
use Rattle.gx_script.specs.contracts.Line as Line
use Rattle.gx_script.specs.contracts.Script as Script
use Rattle.gx_script.specs.contracts.group.SlotGroup as SlotGroup
use Rattle.gx_script.specs.contracts.LinkFault as LinkFault
use Rattle.gx_script.specs.contracts.restart.SegmentRestart as SegmentRestart
use Rattle.gx_script.proofs.LinkFault.TheSendSync as fault
use Rattle.gx_script.proofs.restart.SegmentRestart.TheSendSync as restart
use Rattle.gx_tree.proofs.Sent.{stmt_send, stmt_sync}
use Rattle.gx_tree.proofs.schema.Schema.TheSendSync as schema
use Rattle.gx_tree.proofs.txt.Txt.TheSendSync as txt

pub line_send : IsSend Line.the_field.row
line_send = search (sendable, session.the_field_send, stmt_send) depth 20

pub line_sync : IsSync Line.the_field.row
line_sync = search (sendable, session.the_field_sync, stmt_sync) depth 20

pub group_send : IsSend SlotGroup.the_field.row
group_send = search (sendable, seq.the_send, txt.the_send, session.the_field_send) depth 20

pub group_sync : IsSync SlotGroup.the_field.row
group_sync = search (sendable, seq.the_sync, txt.the_sync, session.the_field_sync) depth 20

-- LISTS OF A SCRIPT
lines_send : IsSend (Seq.the_row Line.the_row)
lines_send = seq.the_send _ (recorded_send Line.the_field.row _ _ Line.the_type.to_one line_send)

lines_sync : IsSync (Seq.the_row Line.the_row)
lines_sync = seq.the_sync _ (recorded_sync Line.the_field.row _ _ Line.the_type.to_one line_sync)

faults_send : IsSend (Seq.the_row LinkFault.the_row)
faults_send = seq.the_send _ fault.the_send

faults_sync : IsSync (Seq.the_row LinkFault.the_row)
faults_sync = seq.the_sync _ fault.the_sync

groups_send : IsSend (Seq.the_row SlotGroup.the_row)
groups_send = seq.the_send _ (recorded_send SlotGroup.the_field.row _ _ SlotGroup.the_type.to_one group_send)

groups_sync : IsSync (Seq.the_row SlotGroup.the_row)
groups_sync = seq.the_sync _ (recorded_sync SlotGroup.the_field.row _ _ SlotGroup.the_type.to_one group_sync)

restarts_send : IsSend (Seq.the_row SegmentRestart.the_row)
restarts_send = seq.the_send _ restart.the_send

restarts_sync : IsSync (Seq.the_row SegmentRestart.the_row)
restarts_sync = seq.the_sync _ restart.the_sync

pub script_send : IsSend Script.the_field.row
script_send = search (sendable, seq.the_send, schema.the_field_send, txt.the_send, lines_send, faults_send, groups_send, restarts_send) depth 20

pub script_sync : IsSync Script.the_field.row
script_sync = search (sendable, seq.the_sync, schema.the_field_sync, txt.the_sync, lines_sync, faults_sync, groups_sync, restarts_sync) depth 20
