use Rattle.std.proofs.Common.{[], ◌∷◌, ◌++◌, ◌∙◌, Bool, if◌then◌else◌, ap, append-nil, sym}
use Rattle.gx_store.specs.declared.event.Event.{Event}
use Rattle.gx_store.specs.declared.event.Event.TheVariants.{End}
use Rattle.gx_law_runs.specs.Replays.{is_admitted}
use Rattle.gx_drive.proofs.Enabled.{end-admitted}
use Rattle.gx_drive.proofs.listing.push_end.Goals as goal

pub returns-in_ok-push : goal.returns-in_ok-push
returns-in_ok-push c =
    c.in_ok-push.ensures.items
    ∙ ap (λ (e : Event). c.args.events.now.items ++ e ∷ []) c.end_of-event.ensures
    ∙ sym (ap (λ (b : Bool). c.args.events.now.items ++ (if b then End (record { 0 = c.args.place }) ∷ [] else []))
    (end-admitted c.args.world.now.script c.requires.language.some_segments c.args.world.now.run.steps c.requires.reached (record { 0 = c.args.place })
    ∙ ap (is_admitted c.args.world.now.script c.args.world.now.run.steps) (sym c.end_of-event.ensures) ∙ sym (c.can.ensures.value c.requires.usable) ∙ c.if-can.true))

pub returns-else-can : goal.returns-else-can
returns-else-can c =
    sym (append-nil c.args.events.now.items)
    ∙ sym (ap (λ (b : Bool). c.args.events.now.items ++ (if b then End (record { 0 = c.args.place }) ∷ [] else []))
    (end-admitted c.args.world.now.script c.requires.language.some_segments c.args.world.now.run.steps c.requires.reached (record { 0 = c.args.place })
    ∙ ap (is_admitted c.args.world.now.script c.args.world.now.run.steps) (sym c.end_of-event.ensures) ∙ sym (c.can.ensures.value c.requires.usable) ∙ c.if-can.false))
