use Rattle.std.proofs.Common.{◌<◌}
use Rattle.gx_ids.specs.declared.ids.SessionId.{SessionId}
use Rattle.gx_legal.specs.Deeds.{IsByCommandOf, doing_of}
use Rattle.gx_legal.specs.Moments.{point_of}
use Rattle.gx_legal.proofs.working.is_by_command.Given as goal

abbrev pub invariant-loop-place : goal.invariant-loop-place
invariant-loop-place l = (session : SessionId) → session.0 < l.place → IsByCommandOf l.moment.script.now (point_of l.moment) (doing_of l.deed) session → ⊥
