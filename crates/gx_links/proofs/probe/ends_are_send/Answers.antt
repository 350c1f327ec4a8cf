use denote.Param.Send.{sendable}
use Rattle.gx_links.proofs.Sent.{in_send, out_send}
use Rattle.gx_links.proofs.probe.ends_are_send.Goals as goal

pub is_send-requires-send-T : goal.is_send-requires-send-T
is_send-requires-send-T c κs = search (sendable, out_send)

pub is_send-requires-2-send-T : goal.is_send-requires-2-send-T
is_send-requires-2-send-T c κs = search (sendable, in_send)
