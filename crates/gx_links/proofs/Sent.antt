-- The ends of a link may go to other threads.
use denote.Param.Send.{IsSend, IsSync, sendable}
use Rattle.std.proofs.Crossing.{frees}
use Rattle.std.proofs.alloc.Global.TheSendSync as heap
use Rattle.std.proofs.option.Option.TheSendSync as option
use Rattle.std.proofs.sync.Arc.TheSendSync as arc
use Rattle.atomic_blocks.proofs.web.Seat.TheSendSync as seat
use Rattle.atomic_blocks.proofs.web.Web.TheSendSync as web
use Rattle.crossbeam_queue.proofs.seg_queue.Chained.TheSendSync as chained
use Rattle.crossbeam_queue.proofs.seg_queue.Ends.TheSendSync as ends
use Rattle.gx_msg.proofs.Sent.{envelope_send}
use Rattle.gx_links.specs.contracts.line.Line as Line
use Rattle.gx_links.specs.contracts.receiver.LinkIn as LinkIn
use Rattle.gx_links.specs.contracts.sender.LinkOut as LinkOut

line_send : IsSend Line.the_field.row
line_send = search (sendable, chained.the_send, web.the_send, ends.the_field_send, option.the_field_send, heap.the_field_send, frees, envelope_send) depth 20

line_sync : IsSync Line.the_field.row
line_sync = search (sendable, chained.the_sync, web.the_sync, ends.the_field_sync, option.the_field_send, heap.the_field_send, heap.the_field_sync, frees, envelope_send) depth 20

pub out_send : IsSend LinkOut.the_row
out_send = search (sendable, arc.the_send, seat.the_send, option.the_field_send, heap.the_field_send, heap.the_field_sync, frees, line_send, line_sync, envelope_send) depth 20

pub in_send : IsSend LinkIn.the_row
in_send = search (sendable, arc.the_send, seat.the_send, option.the_field_send, heap.the_field_send, heap.the_field_sync, frees, line_send, line_sync, envelope_send) depth 20
