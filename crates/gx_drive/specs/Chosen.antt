-- A run of a driver's choices.
use Rattle.std.specs.Prelude.{List, [], ◌∷◌, ◌++◌}
use Rattle.gx_store.specs.declared.event.Event.{Event}
use Rattle.gx_store.specs.declared.run.Step.{Step}

-- the events that a driver may choose where the steps have led
abbrev pub Choice : Type 1
Choice = List Step → Event → Type 0

-- each step does what may be chosen where the steps before it have led
abbrev pub AreChosen : Choice → List Step → List Step → Type 0
AreChosen choice before [] = Unit {0}
AreChosen choice before (s ∷ ss) = choice before s.event × AreChosen choice (before ++ s ∷ []) ss
