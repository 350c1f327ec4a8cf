-- Links on which nothing is left.
use Rattle.std.specs.Prelude.{◌≡◌, ◌<◌, ◌≤◌, List, []}
use Rattle.gx_ids.specs.declared.ids.Node.{Node}
use Rattle.gx_script.specs.declared.Script.{Script}
use Rattle.gx_store.specs.declared.run.Step.{Step}
use Rattle.gx_store.specs.Refusals.{the_coordinator}
use Rattle.gx_store.specs.Schedule.{left_on}
use Rattle.gx_agenda.specs.declared.quiet.Quiet.{Quiet}

-- those from the first so many segments, and those to the first so many
pub record AreQuiet (script : Script) (steps : List Step) (quiet : Quiet) : Type 0 where
  pub from : (segment : Node) → 0 < segment.0 → segment.0 ≤ quiet.from → left_on script steps segment the_coordinator ≡ []
  pub to : (segment : Node) → 0 < segment.0 → segment.0 ≤ quiet.to → left_on script steps the_coordinator segment ≡ []
