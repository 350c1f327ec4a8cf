use Rattle.std.proofs.Common.{take}
use Rattle.gx_report.specs.Places.{IsNoted, places_among}
use Rattle.gx_report.proofs.places.note_step.Given as goal

abbrev pub invariant-loop-mark : goal.invariant-loop-mark
invariant-loop-mark l = IsNoted l.initial.index.items l.index.items (λ session. places_among session l.step 0 (take l.mark l.marks))
