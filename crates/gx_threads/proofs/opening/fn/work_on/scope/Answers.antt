use denote.Param.Send.{sendable}
use Rattle.gx_threads.proofs.Sent.{hall_sync, post_sync}
use Rattle.gx_threads.proofs.opening.fn.work_on.scope.Goals as goal

pub spawn-requires-send-F : goal.spawn-requires-send-F
spawn-requires-send-F g c κs within = search (sendable, hall_sync, post_sync, c.requires.1.1.1.1) depth 20
