use denote.Param.Send.{sendable}
use Rattle.gx_copies.proofs.Sent.{steps_send}
use Rattle.gx_copies.proofs.probe.steps_are_send.Goals as goal

pub is_send-requires-send-T : goal.is_send-requires-send-T
is_send-requires-send-T c κs = search (sendable, steps_send)
