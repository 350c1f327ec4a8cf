use Rattle.std.proofs.Common.{◌<◌, ℕ}
use Rattle.gx_legal.specs.Causes.{FaultsAt}
use Rattle.gx_legal.specs.Moments.{point_of}
use Rattle.gx_legal.proofs.faulted.has_faulted.Given as goal

abbrev pub invariant-loop-place : goal.invariant-loop-place
invariant-loop-place l = (place : ℕ) → place < l.place → FaultsAt l.why.2 (point_of l.moment) l.stmt l.command.level l.command.gxid l.command.cid l.why.0 l.why.1 place → ⊥
