use denote.Param.Send.{sendable}
use Rattle.gx_copies.proofs.Sent.{mark_send}
use Rattle.gx_copies.proofs.probe.mark_is_send.Goals as goal

pub is_send-requires-send-T : goal.is_send-requires-send-T
is_send-requires-send-T c κs = search (sendable, mark_send)
