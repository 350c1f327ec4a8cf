use denote.Param.Send.{sendable}
use Rattle.gx_segment.proofs.Sent.{segment_send}
use Rattle.gx_segment.proofs.probe.segment_is_send.Goals as goal

pub is_send-requires-send-T : goal.is_send-requires-send-T
is_send-requires-send-T c κs = search (sendable, segment_send)
