-- How the steps of a run are kept: their marks stand in one list.
use Rattle.std.specs.Prelude.{◌≤◌, ◌-◌, All, List, drop, length, map, take}
use Rattle.gx_store.specs.declared.mark.Mark.{Mark}
use Rattle.gx_store.specs.declared.run.Step.{Step}
use Rattle.gx_store.specs.declared.steps.Head.{Head}

-- the step whose marks stand at these places
abbrev pub step_at : List Mark → Head → Step
step_at marks head = record { stamp = head.stamp; event = head.event; marks = take (head.last - head.first) (drop head.first marks) }

abbrev pub steps_in : List Head → List Mark → List Step
steps_in heads marks = map (step_at marks) heads

-- no place of it lies behind the list's end
abbrev pub IsWithin : List Mark → Head → Type 0
IsWithin marks head = (head.first ≤ head.last) × (head.last ≤ length marks)

abbrev pub AreWithin : List Head → List Mark → Type 0
AreWithin heads marks = All (IsWithin marks) heads
