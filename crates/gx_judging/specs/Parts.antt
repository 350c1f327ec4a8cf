-- What a run has to meet to be a legal history, in three parts: its writes and skips, its statements, its refusals.
use Rattle.std.specs.Prelude.{List, [], ◌∷◌, ◌++◌}
use Rattle.gx_script.specs.declared.Script.{Script}
use Rattle.gx_store.specs.declared.answer.StmtAnswer.{StmtAnswer}
use Rattle.gx_store.specs.declared.answer.StmtAnswer.TheVariants.{Refused}
use Rattle.gx_ids.specs.declared.ids.SessionId.{SessionId}
use Rattle.gx_store.specs.declared.event.Event.{Event}
use Rattle.gx_store.specs.declared.mark.Mark.{Mark}
use Rattle.gx_store.specs.declared.mark.Mark.TheVariants as mark
use Rattle.gx_store.specs.declared.run.Step.{Step}
use Rattle.gx_store.specs.Legal.{IsDrawn, LegalEvent, LegalVerdict}
use Rattle.gx_store.specs.Parts.{HasCause, HasReturned, IsLegalRefusal, IsLegalRow, IsLegalStatement}
use Rattle.gx_store.specs.Points.{Point}
use Rattle.gx_judging.specs.declared.parts.Part.{Part}
use Rattle.gx_judging.specs.declared.parts.Part.TheVariants.{Rows, Statements, Refusals}

-- where a command succeeds, each node to which it goes has returned
abbrev pub HasReturnedFor : Script → Point → SessionId → StmtAnswer → Type 0
HasReturnedFor script point session (Refused reason) = Unit {0}
HasReturnedFor script point session _ = HasReturned script point session

abbrev pub IsDoneThere : Script → Point → Mark → Type 0
IsDoneThere script point (mark.Answer s n a) = HasReturnedFor script point s a
IsDoneThere script point _ = Unit {0}

-- where it is refused, the segment that refuses has noted why; and whoever a round names is cancelled
abbrev pub HasCauseFor : Script → Point → SessionId → StmtAnswer → Type 0
HasCauseFor script point session (Refused reason) = HasCause script point session reason
HasCauseFor script point session _ = Unit {0}

abbrev pub IsNotedThere : Script → Point → Mark → Type 0
IsNotedThere script point (mark.Answer s n a) = HasCauseFor script point s a
IsNotedThere script point (mark.Recheck round own verdict) = LegalVerdict point round verdict
IsNotedThere script point _ = Unit {0}

-- the mark may stand at this point, as far as the part goes
abbrev pub IsLegalIn : Part → Script → Point → Mark → Type 0
IsLegalIn Rows script point m = IsLegalRow script point m
IsLegalIn Statements script point m = IsLegalStatement script point m × IsDoneThere script point m
IsLegalIn Refusals script point m = IsLegalRefusal script point m × IsNotedThere script point m

-- a step may begin so: that is of statements
abbrev pub MayBeginIn : Part → Script → List Step → Event → List Mark → Type 0
MayBeginIn Statements script steps event marks = LegalEvent script steps event marks × IsDrawn script steps event marks
MayBeginIn _ script steps event marks = Unit {0}

-- each of these marks of a step may stand behind the earlier ones
abbrev pub AreLegalMarksIn : Part → Script → List Step → Event → List Mark → List Mark → Type 0
AreLegalMarksIn part script steps event earlier [] = Unit {0}
AreLegalMarksIn part script steps event earlier (m ∷ ms) =
    IsLegalIn part script (record { steps = steps; event = event; earlier = earlier; later = ms }) m × AreLegalMarksIn part script steps event (earlier ++ m ∷ []) ms

pub record IsLegalStepIn (part : Part) (script : Script) (steps : List Step) (event : Event) (marks : List Mark) : Type 0 where
  pub begins : MayBeginIn part script steps event marks
  pub each : AreLegalMarksIn part script steps event [] marks

-- each of the steps may follow those before it
abbrev pub AreLegalIn : Part → Script → List Step → List Step → Type 0
AreLegalIn part script before [] = Unit {0}
AreLegalIn part script before (s ∷ ss) = IsLegalStepIn part script before s.event s.marks × AreLegalIn part script (before ++ s ∷ []) ss
