-- Every list of events, with every choice of failing appends.
use Rattle.std.specs.Prelude.{◌≡◌, Bool, List}
use Rattle.gx_script.specs.declared.Script.{Script}
use Rattle.gx_store.specs.declared.event.Event.{Event}
use Rattle.gx_store.specs.declared.run.Run.{Run}
use Rattle.gx_store.specs.declared.run.Step.{Step}
use Rattle.gx_rules.specs.Machine.{world_of}

-- the steps of the machine after these events
abbrev pub steps_after : Script → List (Event × Bool) → List Step
steps_after script events = (world_of script events).steps

-- some events lead the machine through the run
pub record IsOfMachine (script : Script) (run : Run) : Type 0 where
  pub events : List (Event × Bool)
  pub is : steps_after script events ≡ run.steps
