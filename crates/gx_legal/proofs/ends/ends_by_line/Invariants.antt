use Rattle.std.proofs.Common.{◌<◌}
use Rattle.gx_ids.specs.declared.ids.SessionId.{SessionId}
use Rattle.gx_legal.specs.Ends.{EndsIn}
use Rattle.gx_legal.specs.Moments.{point_of}
use Rattle.gx_legal.proofs.ends.ends_by_line.Given as goal

abbrev pub invariant-loop-place : goal.invariant-loop-place
invariant-loop-place l = (session : SessionId) → session.0 < l.place → EndsIn l.moment.script.now (point_of l.moment) l.gxid l.how session → ⊥
