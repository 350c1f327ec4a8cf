use Rattle.std.proofs.Common.{ap, [], ◌∷◌, ◌++◌, ◌∙◌, length, ◌-◌, subst, sym}
use Rattle.std.specs.Prelude.{slice_get}
use Rattle.gx_ids.specs.declared.stamp.Stamp.{Stamp}
use Rattle.gx_script.specs.declared.Script.{Script}
use Rattle.gx_agenda.specs.Awaited.{told_in}
use Rattle.gx_agenda.specs.Queued.{AreCounted}
use Rattle.gx_store.specs.Journals.{is_same_node}
use Rattle.gx_store.specs.Language.{IsScript}
use Rattle.gx_store.specs.Refusals.{the_coordinator}
use Rattle.gx_store.specs.declared.run.Run.{Run}
use Rattle.gx_drive.specs.Agrees.{IsAgreed, IsDue}
use Rattle.gx_drive.proofs.Answers.{on_ok}
use Rattle.gx_drive.proofs.Noting.{counted, last-all, last-due, last-is, last-told}
use Rattle.gx_drive.proofs.turn.note.Goals as goal

pub note-requires : goal.note-requires
note-requires c = subst IsScript (sym c.script.ensures.value) c.requires.language

pub returns-in-Some : goal.returns-in-Some
returns-in-Some c =
    on_ok c.note.result _ _ c.note.ensures
    (λ noted steps step same agreed due admitted reached.
    let script = c.args.world.now.script in
    let some = c.requires.language.some_segments in
    let is = last-is c.args.world.now.run.steps steps step c.in-Some.step same (sym c.in-Some.is ∙ c.last.ensures ∙ ap (λ (r : Run). slice_get r.steps (length r.steps - 1)) c.run.ensures.value) in
    let whole = last-all script some c.args.world.now.run.steps steps step c.in-Some.step same is in
    let noted_in : IsAgreed script (steps ++ c.in-Some.step ∷ []) c.note.new.self =
    subst (λ (s : Script). IsAgreed s (steps ++ c.in-Some.step ∷ []) c.note.new.self) c.script.ensures.value
    (noted steps (subst (λ (s : Script). IsAgreed s steps c.args.agenda.now) (sym c.script.ensures.value) agreed)
    (subst (λ (s : Script). IsDue s steps c.in-Some.step.event) (sym c.script.ensures.value) (last-due script some c.args.world.now.run.steps steps step c.in-Some.step same is due))
    (subst AreCounted (sym whole) (counted script some c.args.world.now.run.steps c.requires.reached c.requires.room))
    (λ here. c.told.ensures (ap (λ (s : Stamp). is_same_node s.node the_coordinator) c.stamp.ensures ∙ here) ∙ ap (told_in c.args.world.now.run.steps) c.event.ensures ∙ last-told script some c.args.world.now.run.steps steps step c.in-Some.step same is reached admitted)) in
    subst (λ ss. IsAgreed script ss c.note.new.self) whole noted_in)
