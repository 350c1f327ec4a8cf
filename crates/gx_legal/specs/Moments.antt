-- A moment as a point, and earlier points.
use Rattle.std.specs.Prelude.{ℕ, [], take}
use Rattle.gx_store.specs.declared.run.Step.{Step}
use Rattle.gx_store.specs.Points.{Point}
use Rattle.gx_legal.specs.declared.moment.Moment.{Moment}

abbrev pub point_of : Moment → Point
point_of moment = record { steps = moment.steps.now; event = moment.event; earlier = moment.earlier.now; later = moment.later.now }

-- behind so many marks of the point's step
abbrev pub in_step : Point → ℕ → Point
in_step point count = record { steps = point.steps; event = point.event; earlier = take count point.earlier; later = [] }

-- behind a step, which has so many steps before it
abbrev pub behind : Point → ℕ → Step → Point
behind point number step = record { steps = take number point.steps; event = step.event; earlier = step.marks; later = [] }
