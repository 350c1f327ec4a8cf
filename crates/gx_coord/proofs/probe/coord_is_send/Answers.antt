use denote.Param.Send.{sendable}
use Rattle.gx_coord.proofs.Sent.{coord_send}
use Rattle.gx_coord.proofs.probe.coord_is_send.Goals as goal

pub is_send-requires-send-T : goal.is_send-requires-send-T
is_send-requires-send-T c κs = search (sendable, coord_send)
