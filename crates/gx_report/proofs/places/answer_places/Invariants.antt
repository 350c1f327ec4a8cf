use Rattle.std.proofs.Common.{take}
use Rattle.gx_report.specs.Places.{ArePlaces}
use Rattle.gx_report.proofs.places.answer_places.Given as goal

abbrev pub invariant-loop-step : goal.invariant-loop-step
invariant-loop-step l = ArePlaces l.sessions (take l.step l.steps) l.index.items
