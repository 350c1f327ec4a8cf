-- The three parts together are what makes a run a legal history.
use Rattle.std.proofs.Common.{◌≡◌, ◌↔◌, List, [], ◌∷◌, ◌++◌, sym, subst}
use Rattle.std.proofs.lemmas.List.{append-nil}
use Rattle.gx_ids.specs.declared.ids.SessionId.{SessionId}
use Rattle.gx_script.specs.declared.Script.{Script}
use Rattle.gx_store.specs.declared.answer.StmtAnswer.{StmtAnswer}
use Rattle.gx_store.specs.declared.answer.StmtAnswer.TheVariants.{Refused}
use Rattle.gx_store.specs.declared.event.Event.{Event}
use Rattle.gx_store.specs.declared.event.Event.TheVariants as event
use Rattle.gx_store.specs.declared.mark.Mark.{Mark}
use Rattle.gx_store.specs.declared.mark.Mark.TheVariants as mark
use Rattle.gx_store.specs.declared.run.Step.{Step}
use Rattle.gx_store.specs.Legal.{AreLegalMarks, AreLegalSteps, IsLegalStep, LegalMark}
use Rattle.gx_store.specs.Parts.{IsAnswerBeside, IsLegalBeside}
use Rattle.gx_store.specs.Points.{Point}
use Rattle.gx_legal.proofs.Parting.{of-parts, parts-of}
use Rattle.gx_judging.specs.declared.parts.Part.TheVariants.{Rows, Statements, Refusals}
use Rattle.gx_judging.specs.Parts.{AreLegalIn, AreLegalMarksIn, HasCauseFor, HasReturnedFor, IsDoneThere, IsLegalIn, IsLegalStepIn, IsNotedThere}

-- WHAT IS ASKED BESIDE
answer-to : (script : Script) (point : Point) (session : SessionId) (answer : StmtAnswer) → IsAnswerBeside script point session answer → HasReturnedFor script point session answer × HasCauseFor script point session answer
answer-to script point session (Refused reason) h = (tt, h)
answer-to script point session answer h = (h, tt)

answer-from : (script : Script) (point : Point) (session : SessionId) (answer : StmtAnswer) → HasReturnedFor script point session answer → HasCauseFor script point session answer → IsAnswerBeside script point session answer
answer-from script point session (Refused reason) done caused = caused
answer-from script point session answer done caused = done

beside-to : (script : Script) (point : Point) (m : Mark) → IsLegalBeside script point m → IsDoneThere script point m × IsNotedThere script point m
beside-to script point (mark.Answer session number answer) h = answer-to script point session answer h
beside-to script point (mark.Recheck round own verdict) h = (tt, h)
beside-to script point m h = (tt, tt)

beside-from : (script : Script) (point : Point) (m : Mark) → IsDoneThere script point m → IsNotedThere script point m → IsLegalBeside script point m
beside-from script point (mark.Answer session number answer) done noted = answer-from script point session answer done noted
beside-from script point (mark.Recheck round own verdict) done noted = noted
beside-from script point m done noted = tt

-- MARKS
mark-to : (script : Script) (point : Point) (m : Mark) → LegalMark script point m → IsLegalIn Rows script point m × IsLegalIn Statements script point m × IsLegalIn Refusals script point m
mark-to script point m h =
    let parts = parts-of script point m h in
    let beside = beside-to script point m parts.3 in
    (parts.0, (parts.1, beside.0), (parts.2, beside.1))

mark-from : (script : Script) (point : Point) (m : Mark) → IsLegalIn Rows script point m → IsLegalIn Statements script point m → IsLegalIn Refusals script point m → LegalMark script point m
mark-from script point m rows statements refusals = of-parts script point m (rows, statements.0, refusals.0, beside-from script point m statements.1 refusals.1)

module _ (script : Script) (steps : List Step) (event : Event) where
  abbrev at : List Mark → List Mark → Point
  at earlier later = record { steps = steps; event = event; earlier = earlier; later = later }

  marks-to : (earlier ms : List Mark) → AreLegalMarks script steps event earlier ms []
      → AreLegalMarksIn Rows script steps event earlier ms × AreLegalMarksIn Statements script steps event earlier ms × AreLegalMarksIn Refusals script steps event earlier ms
  marks-to earlier [] h = (tt, tt, tt)
  marks-to earlier (m ∷ ms) h =
      let here = mark-to script (at earlier ms) m (subst (λ later. LegalMark script (at earlier later) m) (append-nil ms) h.0) in
      let rest = marks-to (earlier ++ m ∷ []) ms h.1 in
      ((here.0, rest.0), (here.1, rest.1), (here.2, rest.2))

  marks-from : (earlier ms : List Mark) → AreLegalMarksIn Rows script steps event earlier ms → AreLegalMarksIn Statements script steps event earlier ms → AreLegalMarksIn Refusals script steps event earlier ms
      → AreLegalMarks script steps event earlier ms []
  marks-from earlier [] rows statements refusals = tt
  marks-from earlier (m ∷ ms) rows statements refusals = (
    subst (λ later. LegalMark script (at earlier later) m) (sym (append-nil ms)) (mark-from script (at earlier ms) m rows.0 statements.0 refusals.0),
    marks-from (earlier ++ m ∷ []) ms rows.1 statements.1 refusals.1,
  )

-- STEPS
steps-to : (script : Script) (before ss : List Step) → AreLegalSteps script before ss → AreLegalIn Rows script before ss × AreLegalIn Statements script before ss × AreLegalIn Refusals script before ss
steps-to script before [] h = (tt, tt, tt)
steps-to script before (s ∷ ss) h =
    let marks = marks-to script before s.event [] s.marks h.0.marks in
    let rest = steps-to script (before ++ s ∷ []) ss h.1 in
    ((record { begins = tt; each = marks.0 }, rest.0), (record { begins = (h.0.event, h.0.drawn); each = marks.1 }, rest.1), (record { begins = tt; each = marks.2 }, rest.2))

steps-from : (script : Script) (before ss : List Step) → AreLegalIn Rows script before ss → AreLegalIn Statements script before ss → AreLegalIn Refusals script before ss → AreLegalSteps script before ss
steps-from script before [] rows statements refusals = tt
steps-from script before (s ∷ ss) rows statements refusals =
    (step, steps-from script (before ++ s ∷ []) ss rows.1 statements.1 refusals.1)
  where
    step : IsLegalStep script before s
    step = record { event = statements.0.begins.0; drawn = statements.0.begins.1; marks = marks-from script before s.event [] s.marks rows.0.each statements.0.each refusals.0.each }

pub three-parts : (script : Script) (steps : List Step) → AreLegalSteps script [] steps ↔ (AreLegalIn Rows script [] steps × AreLegalIn Statements script [] steps × AreLegalIn Refusals script [] steps)
three-parts script steps = (λ h. steps-to script [] steps h, λ parts. steps-from script [] steps parts.0 parts.1 parts.2)
