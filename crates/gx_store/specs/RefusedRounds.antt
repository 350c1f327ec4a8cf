-- Small runs whose rounds of the detector are refused.
use Rattle.std.specs.Prelude.{ℕ, true, false, List, [], ◌∷◌}
use Rattle.gx_modes.specs.declared.modes.Mode.TheVariants.{Exclusive}
use Rattle.gx_msg.specs.declared.message.Message.TheVariants as message
use Rattle.gx_script.specs.declared.Script.{Script}
use Rattle.gx_waits.specs.declared.object.Object.TheVariants.{Relation}
use Rattle.gx_waits.specs.declared.verdict.Verdict.TheVariants.{Nothing}
use Rattle.gx_store.specs.declared.event.Event.TheVariants as event
use Rattle.gx_store.specs.declared.mark.Mark.{Mark}
use Rattle.gx_store.specs.declared.mark.Mark.TheVariants as mark
use Rattle.gx_store.specs.declared.run.Step.{Step}
use Rattle.gx_store.specs.RefusedParts.{anna, first_txn, no_edges, second_txn, step_at, the_segment}
use Rattle.gx_store.specs.RefusedWaits.{first_table}
use Rattle.gx_store.specs.Refusals.{the_coordinator}

-- one segment, and the detector is on, or is off
abbrev pub watched : Script → Script
watched script = record script { segments = 1; detector = true }

abbrev pub unwatched : Script → Script
unwatched script = record script { segments = 1; detector = false }

-- THE STEPS OF A ROUND
-- the segment is asked under this number, tells that nobody waits, and the round ends
abbrev pub begins : ℕ → Step
begins number = step_at the_coordinator 1 event.Round (mark.Sent the_segment number (message.Collect 1) ∷ [])

abbrev pub empty_graph : Mark
empty_graph = mark.Sent the_coordinator 1 (message.Graph 1 (no_edges the_segment))

abbrev pub reports : ℕ → Step
reports number = step_at the_segment 2 (event.Receive the_coordinator the_segment number) (mark.Report the_segment 1 (no_edges the_segment) ∷ empty_graph ∷ [])

abbrev pub nothing_found : Mark
nothing_found = mark.Recheck 1 (no_edges the_coordinator) Nothing

abbrev pub ends : Step
ends = step_at the_coordinator 3 (event.Receive the_segment the_coordinator 1) (nothing_found ∷ [])

-- RUNS
-- the second transaction waits for the first at the segment, which reports that nobody waits there
abbrev pub nothing_reported : List Step
nothing_reported =
    step_at the_segment 1 (event.Receive the_coordinator the_segment 1) (mark.Hold the_segment first_txn (Relation first_table) Exclusive ∷ [])
    ∷ step_at the_segment 2 (event.Receive the_coordinator the_segment 2) (mark.Wait the_segment second_txn (Relation first_table) Exclusive ∷ [])
    ∷ begins 3 ∷ reports 3 ∷ ends ∷ []

-- nobody is asked
abbrev pub nobody_asked : List Step
nobody_asked = step_at the_coordinator 1 event.Round [] ∷ []

-- a round begins while one runs
abbrev pub two_at_once : List Step
two_at_once = begins 1 ∷ step_at the_coordinator 2 event.Round (mark.Sent the_segment 2 (message.Collect 2) ∷ []) ∷ []

-- the segment is asked in the step that starts a line
abbrev pub asked_by_a_start : List Step
asked_by_a_start = step_at the_coordinator 1 (event.Start anna) (mark.Sent the_segment 1 (message.Collect 1) ∷ []) ∷ []

-- the segment reports twice for one round
abbrev pub reported_twice : List Step
reported_twice = begins 1 ∷ reports 1 ∷ reports 1 ∷ []

-- all graphs have come, and the round doesn't end; or it ends once more when the graph comes again
abbrev pub never_ends : List Step
never_ends = begins 1 ∷ reports 1 ∷ step_at the_coordinator 3 (event.Receive the_segment the_coordinator 1) [] ∷ []

abbrev pub ends_twice : List Step
ends_twice = begins 1 ∷ reports 1 ∷ ends ∷ ends ∷ []
