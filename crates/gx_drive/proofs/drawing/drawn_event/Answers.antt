use Rattle.std.proofs.Common.{[], ◌≡◌, ◌%◌, ◌∙◌, ap, length, slice_get, subst}
use Rattle.std.specs.Prelude.{IfNone}
use Rattle.gx_drive.proofs.Answers.{if_some}
use Rattle.gx_drive.proofs.Draws.{drawn-admitted, drawn-due, drawn-is}
use Rattle.gx_drive.proofs.drawing.drawn_event.Goals as goal

pub returns-clause-drawn : goal.returns-clause-drawn
returns-clause-drawn c =
    drawn-is c.args.world.now.script c.args.world.now.run.steps c.drawn.result _
    (c.drawn.ensures.is ∙ ap (λ es. slice_get es (c.args.word % length es)) (c.as_slice.ensures.value ∙ c.in_ok-events.ensures))

pub returns-clause-due : goal.returns-clause-due
returns-clause-due c =
    let drawn = c.drawn.ensures.is ∙ ap (λ es. slice_get es (c.args.word % length es)) (c.as_slice.ensures.value ∙ c.in_ok-events.ensures) in
    if_some c.drawn.result _ _ (drawn-is c.args.world.now.script c.args.world.now.run.steps c.drawn.result _ drawn) (drawn-due c.args.world.now.script c.args.world.now.run.steps _)

pub returns-clause-admitted : goal.returns-clause-admitted
returns-clause-admitted c =
    let drawn = c.drawn.ensures.is ∙ ap (λ es. slice_get es (c.args.word % length es)) (c.as_slice.ensures.value ∙ c.in_ok-events.ensures) in
    if_some c.drawn.result _ _ (drawn-is c.args.world.now.script c.args.world.now.run.steps c.drawn.result _ drawn)
    (drawn-admitted c.args.world.now.script c.args.world.now.run.steps c.requires.language.some_segments c.requires.reached _)

pub returns-clause-stuck : goal.returns-clause-stuck
returns-clause-stuck c = subst (λ es. IfNone c.drawn.result (es ≡ [])) (c.as_slice.ensures.value ∙ c.in_ok-events.ensures) c.drawn.ensures.none
