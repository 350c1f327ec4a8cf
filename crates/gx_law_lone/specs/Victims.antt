-- A round that begins where nothing else is left to choose, up to the victims that it names.
use Rattle.std.specs.Prelude.{◌≡◌, ◌==◌, Bool, true, false, List, [], ◌∷◌, ◌++◌, filter, ℕ, Some, None, Contains}
use Rattle.std.specs.List.{list_all}
use Rattle.std.specs.declared.option.Option.{Option}
use Rattle.gx_msg.specs.declared.message.Message.{Message}
use Rattle.gx_msg.specs.declared.message.Message.TheVariants.{Collect, Graph}
use Rattle.gx_script.specs.declared.Script.{Script}
use Rattle.gx_store.specs.Schedule.{enabled, is_round, round_count, sent_message}
use Rattle.gx_store.specs.declared.event.Event.{Event}
use Rattle.gx_store.specs.declared.event.Event.TheVariants.{Receive, Resend}
use Rattle.gx_store.specs.declared.mark.Mark.{Mark}
use Rattle.gx_store.specs.declared.mark.Mark.TheVariants.{Recheck, Report, Sent}
use Rattle.gx_store.specs.declared.run.Step.{Step}
use Rattle.gx_waits.specs.declared.verdict.Verdict.{Verdict}
use Rattle.gx_waits.specs.declared.verdict.Verdict.TheVariants.{Victims}
use Rattle.gx_law_runs.specs.Openings.{is_opening}
use Rattle.gx_law_runs.specs.Reached.{IsReached}

-- WHAT A ROUND COMES TO
-- the message is one of the round of that number
abbrev pub is_message_of : ℕ → Option Message → Bool
is_message_of round (Some (Collect r)) = r == round
is_message_of round (Some (Graph r graph)) = r == round
is_message_of round _ = false

-- the event receives a message of the last round that began, or asks a segment for its graph again
abbrev pub is_of_round : List Step → Event → Bool
is_of_round steps (Receive from to number) = is_message_of (round_count steps) (sent_message from to number steps)
is_of_round steps (Resend segment None) = true
is_of_round steps _ = false

-- what the first round that these marks end has decided
abbrev pub verdict_in : List Mark → Option Verdict
verdict_in [] = None
verdict_in (Recheck round own verdict ∷ ms) = Some verdict
verdict_in (m ∷ ms) = verdict_in ms

-- it names victims, one at least
abbrev pub NamesSomebody : Verdict → Type 0
NamesSomebody (Victims (v ∷ victims)) = Unit {0}
NamesSomebody _ = ⊥

-- the round names somebody where it is decided, and this holds where it isn't yet
abbrev pub NamesOrGoesOn : Option Verdict → Type 0 → Type 0
NamesOrGoesOn None later = later
NamesOrGoesOn (Some verdict) later = NamesSomebody verdict

-- Of a round that has begun in the first steps: each of these does something of it, up to the recheck, which names somebody; a run may
-- end before that.
abbrev pub ComesToVictims : List Step → List Step → Type 0
ComesToVictims before [] = Unit {0}
ComesToVictims before (s ∷ ss) = (is_of_round before s.event ≡ true) × NamesOrGoesOn (verdict_in s.marks) (ComesToVictims (before ++ s ∷ []) ss)

-- WHAT A DRIVER MAY CHOOSE
-- what is enabled and not held up
abbrev pub let_in : Script → (List Step → Event → Bool) → List Step → List Event
let_in script lets steps = filter (lets steps) (enabled script steps)

-- each step does something of that where the steps before it have led
abbrev pub AreLet : Script → (List Step → Event → Bool) → List Step → List Step → Type 0
AreLet script lets before [] = Unit {0}
AreLet script lets before (s ∷ ss) = Contains (let_in script lets before) s.event × AreLet script lets (before ++ s ∷ []) ss

-- a mark that tells of no transaction and of no session
abbrev pub is_of_none : Mark → Bool
is_of_none (Sent to number message) = true
is_of_none (Report node round graph) = true
is_of_none _ = false

-- In a run whose steps were let, what is held up is lines of sessions that stand in no block; and no step that tells of no transaction and
-- of no session changes what is.
pub record HoldsUpOpenings (script : Script) (lets : List Step → Event → Bool) : Type 0 where
  pub openings : (steps : List Step) (event : Event) → IsReached script steps → AreLet script lets [] steps → Contains (enabled script steps) event → lets steps event ≡ false → is_opening script steps event ≡ true
  pub lasting : (steps : List Step) (step : Step) (event : Event) → IsReached script steps → list_all is_of_none step.marks ≡ true → lets (steps ++ step ∷ []) event ≡ lets steps event

-- wherever nothing but a round is left to choose, and one begins, it comes to victims
abbrev pub DoLoneRoundsFindVictims : Script → (List Step → Event → Bool) → List Step → List Step → Type 0
DoLoneRoundsFindVictims script lets before [] = Unit {0}
DoLoneRoundsFindVictims script lets before (s ∷ ss) =
    (list_all is_round (let_in script lets before) ≡ true → ComesToVictims (before ++ s ∷ []) ss) × DoLoneRoundsFindVictims script lets (before ++ s ∷ []) ss
