-- Slots that are told by steps alone.
use Rattle.std.specs.Prelude.{◌≡◌, ℕ, ◌+◌, ◌≤◌, List, [], Some, None}
use Rattle.std.specs.declared.option.Option.{Option}
use Rattle.gx_ids.specs.declared.ids.SessionId.{SessionId}
use Rattle.gx_script.specs.declared.Script.{Script}
use Rattle.gx_store.specs.declared.run.Step.{Step}
use Rattle.gx_store.specs.Marks.{answer_count}
use Rattle.gx_store.specs.Points.{marks_in, starts_in}
use Rattle.gx_agenda.specs.Queued.{AreQueued}
use Rattle.gx_agenda.specs.Slotted.{AreAsTold}
use Rattle.gx_agenda.specs.declared.own_slots.OwnSlots.{OwnSlots}
use Rattle.gx_agenda.specs.declared.slots.Slots.{Slots}

-- no session has had so many lines started and answered
abbrev pub AreWithin : ℕ → List Step → Type 0
AreWithin told steps = (session : SessionId) → starts_in session steps + answer_count session (marks_in steps) ≤ told

-- the slots are as the steps have them; of a script without groups nothing is kept
abbrev pub AreKept : Script → List Step → OwnSlots → Option Slots → Type 0
AreKept script steps own None = script.groups ≡ []
AreKept script steps own (Some slots) = AreAsTold script steps slots × AreQueued script steps own.queue × AreWithin own.told steps

abbrev pub AreOwnSlots : Script → List Step → OwnSlots → Type 0
AreOwnSlots script steps own = AreKept script steps own own.slots
