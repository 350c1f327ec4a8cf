-- A stretch of a run: its end as a point, and whether it is legal.
use Rattle.std.specs.Prelude.{List, []}
use Rattle.gx_script.specs.declared.Script.{Script}
use Rattle.gx_store.specs.declared.event.Event.{Event}
use Rattle.gx_store.specs.declared.mark.Mark.{Mark}
use Rattle.gx_store.specs.declared.run.Step.{Step}
use Rattle.gx_store.specs.Legal.{AreLegalMarks, IsDrawn, LegalEvent}
use Rattle.gx_store.specs.Points.{Point}
use Rattle.gx_legal.specs.declared.stretch.Stretch.{Stretch}

-- behind the marks of the stretch
abbrev pub end_of : Stretch → Point
end_of stretch = record { steps = stretch.steps.now; event = stretch.event; earlier = stretch.marks.now; later = [] }

-- a step of this event may stand behind the steps and draw these marks
abbrev pub MayBegin : Script → List Step → Event → List Mark → Type 0
MayBegin script steps event marks = LegalEvent script steps event marks × IsDrawn script steps event marks

-- and make them
abbrev pub MayFollow : Script → List Step → Event → List Mark → Type 0
MayFollow script steps event marks = MayBegin script steps event marks × AreLegalMarks script steps event [] marks []
