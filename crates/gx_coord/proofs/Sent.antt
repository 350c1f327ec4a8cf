-- The coordinator may go to its thread.
use denote.Param.Send.{IsSend, sendable}
use Rattle.std.proofs.Crossing.{frees}
use Rattle.std.proofs.alloc.Global.TheSendSync as heap
use Rattle.std.proofs.option.Option.TheSendSync as option
use Rattle.std.proofs.sync.Arc.TheSendSync as arc
use Rattle.std.proofs.vec.Vec.TheSendSync as vec
use Rattle.gx_dsnap.proofs.snapshot.Snapshot.TheSendSync as snapshot
use Rattle.gx_ids.proofs.ids.Cid.TheSendSync as cid
use Rattle.gx_ids.proofs.ids.Gxid.TheSendSync as gxid
use Rattle.gx_ids.proofs.ids.Node.TheSendSync as node
use Rattle.gx_ids.proofs.ids.SessionId.TheSendSync as session_id
use Rattle.gx_ids.proofs.seq.Seq.TheSendSync as seq
use Rattle.gx_script.proofs.Sent.{script_send, script_sync}
use Rattle.gx_tree.proofs.part.Part.TheSendSync as part
use Rattle.gx_tree.proofs.stmt.Level.TheSendSync as level
use Rattle.gx_tree.proofs.Sent.{slice_send}
use Rattle.gx_meaning.specs.contracts.piece.Piece as Piece
use Rattle.gx_msg.proofs.Sent.{out_send}
use Rattle.gx_detect.proofs.detector.Detector.TheSendSync as detector
use Rattle.gx_dtx.proofs.dtx.Dtx.TheSendSync as dtx
use Rattle.gx_locks.proofs.table.LockTable.TheSendSync as locks
use Rattle.gx_coord.proofs.work.Session.TheSendSync as session
use Rattle.gx_coord.specs.contracts.coord.Coord as Coord
use Rattle.gx_coord.specs.contracts.work.Command as Command
use Rattle.gx_coord.specs.contracts.work.Spare as Spare
use Rattle.gx_coord.specs.contracts.work.Work as Work

pub command_field_send : IsSend Command.the_field.row
command_field_send = search (sendable, cid.the_field_send, seq.the_send, out_send, node.the_field_send, part.the_field_send) depth 20

pub work_field_send : IsSend Work.the_field.row
work_field_send = search (sendable, session_id.the_field_send, level.the_field_send, option.the_field_send, snapshot.the_field_send, seq.the_send, node.the_field_send, command_field_send) depth 20

piece_field_send : IsSend Piece.the_field.row
piece_field_send = search (sendable, node.the_field_send, slice_send) depth 20

pub spare_field_send : IsSend Spare.the_field.row
spare_field_send = search (sendable, vec.the_send, heap.the_field_send, frees, out_send, node.the_field_send, part.the_field_send, piece_field_send) depth 20

pub coord_field_send : IsSend Coord.the_field.row
coord_field_send = search (sendable, arc.the_send, vec.the_send, heap.the_field_send, heap.the_field_sync, frees, script_send, script_sync, seq.the_send, dtx.the_send, locks.the_send, detector.the_send, gxid.the_field_send, work_field_send, spare_field_send, session.the_field_send) depth 20

pub coord_send : IsSend Coord.the_row
coord_send = search (sendable, coord_field_send)
