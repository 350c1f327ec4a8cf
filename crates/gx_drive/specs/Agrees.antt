-- What the driver keeps, against the steps of a run, and what a turn does.
use Rattle.std.specs.Prelude.{◌≡◌, ◌⊎◌, ℕ, ◌+◌, ◌∷◌, ◌++◌, [], false, List, length}
use Rattle.std.specs.List.{flat_map}
use Rattle.gx_outside.specs.Shelves.{Shelf}
use Rattle.gx_script.specs.declared.Script.{Script}
use Rattle.gx_store.specs.declared.event.Event.{Event}
use Rattle.gx_store.specs.declared.event.Event.TheVariants.{Receive}
use Rattle.gx_store.specs.declared.run.Step.{Step}
use Rattle.gx_store.specs.Ordered.{IsLink}
use Rattle.gx_store.specs.Points.{marks_in}
use Rattle.gx_store.specs.Refusals.{the_coordinator}
use Rattle.gx_store.specs.Schedule.{at_segment, first_of, left_on, resumptions, segments_of}
use Rattle.gx_agenda.specs.Awaited.{AreAsked}
use Rattle.gx_agenda.specs.Agrees.{Agree}
use Rattle.gx_agenda.specs.Quiet.{AreQuiet}
use Rattle.gx_world.specs.Worlds.{WorldState}
use Rattle.gx_agenda.specs.Queued.{AreQueued}
use Rattle.gx_agenda.specs.Slotted.{AreSlots}
use Rattle.gx_law_runs.specs.Reached.{IsReached}
use Rattle.gx_drive.specs.Chosen.{AreChosen, Choice}
use Rattle.gx_drive.specs.Ordered.{AreFailuresFew, AreHeld, AreHeldSoFar}
use Rattle.gx_drive.specs.declared.agenda.Agenda.{Agenda}

-- links, lines, awaited answers and slots are where the steps have led, and nothing is left where no delivery is looked for
pub record IsAgreed (script : Script) (steps : List Step) (agenda : Agenda) : Type 0 where
  pub cursors : Agree script steps agenda.cursors
  pub queue : AreQueued script steps agenda.queue
  pub asked : AreAsked steps agenda.asked
  pub quiet : AreQuiet script steps agenda.quiet
  pub slots : AreSlots script steps agenda.slots

-- a receipt is the next delivery of its link
abbrev pub IsDue : Script → List Step → Event → Type 0
IsDue script steps (Receive from to number) = IsLink script from to × (first_of (left_on script steps from to) ≡ Receive from to number ∷ [])
IsDue script steps _ = Unit {0}

-- what each segment does, and who resumes at the coordinator
abbrev pub resuming_of : Script → List Step → List Event
resuming_of script steps = flat_map (at_segment script steps) (segments_of script) ++ resumptions (marks_in steps) the_coordinator

-- what comes before anything is sent again: the next delivery from each segment, what each segment does, and who resumes at the coordinator
abbrev pub moves_of : Script → List Step → List Event
moves_of script steps =
    flat_map (λ segment. first_of (left_on script steps segment the_coordinator)) (segments_of script)
    ++ flat_map (at_segment script steps) (segments_of script)
    ++ resumptions (marks_in steps) the_coordinator

-- the event was done
pub record IsNextStep (event : Event) (old new : List Step) : Type 0 where
  pub step : Step
  pub is : new ≡ old ++ step ∷ []
  pub of : step.event ≡ event

-- nothing was done, or the event
abbrev pub IsNoMore : Event → List Step → List Step → Type 0
IsNoMore event old new = (new ≡ old) ⊎ IsNextStep event old new

-- a turn was done: the world can go on, the run has a step more, and the journals hold what they held besides
pub record HasTurned (old new : WorldState) (agenda : Agenda) (before after : List Shelf) : Type 0 where
  pub unspent : new.spent ≡ false
  pub reached : IsReached new.script new.run.steps
  pub count : length new.run.steps ≡ length old.run.steps + 1
  pub agreed : IsAgreed new.script new.run.steps agenda
  pub journals : length after ≡ length before
  pub held : AreHeld old.run.steps before → AreHeld new.run.steps after

-- so many turns were done in a world that was new, each by the driver's choice, with these journals before and now
pub record IsUnderWay (choice : Choice) (script : Script) (turns : ℕ) (world : WorldState) (agenda : Agenda) (start now : List Shelf) : Type 0 where
  pub same : world.script ≡ script
  pub usable : world.spent ≡ false
  pub reached : IsReached script world.run.steps
  pub count : length world.run.steps ≡ turns
  pub agreed : IsAgreed script world.run.steps agenda
  pub driven : AreChosen choice [] world.run.steps
  pub journals : length now ≡ 17
  pub held : AreHeld world.run.steps now
  pub so_far : AreHeldSoFar world.run.steps now
  pub few : AreFailuresFew world.run.steps start now
