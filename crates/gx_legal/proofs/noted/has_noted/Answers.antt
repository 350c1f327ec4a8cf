use Rattle.std.proofs.Common.{◌<◌, length, sym, subst, refl, ◌∙◌, arith}
use Rattle.std.proofs.lemmas.Option.{slice_get_read}
use Rattle.gx_lemmas.proofs.Lists.{place-below}
use Rattle.gx_lemmas.proofs.Options.{some-same}
use Rattle.gx_lemmas.proofs.Tests.{false-true}
use Rattle.gx_store.specs.declared.run.Step.{Step}
use Rattle.gx_legal.proofs.MarkPlaces.{none-below}
use Rattle.gx_legal.proofs.Sessions.{no-longer}
use Rattle.gx_legal.specs.Causes.{NotesIn, NotesInStep}
use Rattle.gx_legal.proofs.noted.has_noted.Goals as goal

pub returns-then-is_note_in : goal.returns-then-is_note_in
returns-then-is_note_in c =
    let at = slice_get_read c.args.steps.now (length c.args.steps.now) c.loop-step.step-index c.step-item.result refl c.loop-step-test.true c.step-item.is in
    (λ t. (c.loop-step.step-index, (c.step-item.result, at, c.is_note_in.ensures.0 c.if-is_note_in.true)), λ by. refl)

pub loop-step-preserved : goal.loop-step-preserved
loop-step-preserved c =
    let Q : Step → Type 0 = NotesIn c.args.evaluation.gxid c.args.evaluation.cid c.args.evaluation.rid c.args.evaluation.image.now c.args.node in
    let at = slice_get_read c.args.steps.now (length c.args.steps.now) c.loop-step.step-index c.step-item.result refl c.loop-step-test.true c.step-item.is in
    none-below (NotesInStep c.args.evaluation.gxid c.args.evaluation.cid c.args.evaluation.rid c.args.evaluation.image.now c.args.node c.args.steps.now) c.loop-step.step-index c.loop-step.invariant
    (λ by. no-longer c.is_note_in.result c.is_note_in.ensures c.if-is_note_in.false (subst Q (some-same by.0 c.step-item.result (sym by.1 ∙ at)) by.2))

pub returns : goal.returns
returns c = (λ t. absurd (false-true t), λ by. absurd (c.loop-step.invariant by.0 (let inside : by.0 < length c.args.steps.now = place-below c.args.steps.now by.0 by.1.0 by.1.1 in omega arith) by.1))
