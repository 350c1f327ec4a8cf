-- A segment may go to its thread.
use denote.Param.Send.{IsSend, sendable}
use Rattle.std.proofs.Crossing.{frees}
use Rattle.std.proofs.alloc.Global.TheSendSync as heap
use Rattle.std.proofs.option.Option.TheSendSync as option
use Rattle.std.proofs.sync.Arc.TheSendSync as arc
use Rattle.gx_ids.proofs.ids.Gxid.TheSendSync as gxid
use Rattle.gx_ids.proofs.ids.Node.TheSendSync as node
use Rattle.gx_script.proofs.Sent.{script_send, script_sync}
use Rattle.gx_waits.proofs.graph.LocalGraph.TheSendSync as graph
use Rattle.gx_segment.specs.contracts.collecting.LastReport as LastReport
use Rattle.gx_segment.specs.contracts.segment.Segment as Segment
use Rattle.gx_slices.proofs.Sent.{held_field_send}

pub report_field_send : IsSend LastReport.the_field.row
report_field_send = search (sendable, option.the_field_send, graph.the_field_send) depth 20

pub segment_field_send : IsSend Segment.the_field.row
segment_field_send = search (sendable, arc.the_send, heap.the_field_send, heap.the_field_sync, frees, script_send, script_sync, node.the_field_send, gxid.the_field_send, held_field_send, report_field_send) depth 20

pub segment_send : IsSend Segment.the_row
segment_send = search (sendable, segment_field_send)
