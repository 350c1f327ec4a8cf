use denote.Param.Send.{sendable}
use Rattle.gx_slices.proofs.Sent.{held_send}
use Rattle.gx_slices.proofs.probe.kept_is_send.Goals as goal

pub is_send-requires-send-T : goal.is_send-requires-send-T
is_send-requires-send-T c κs = search (sendable, held_send)
