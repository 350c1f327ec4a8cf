use Rattle.std.proofs.Common.{◌≡◌, ◌<◌, length, sym, subst, refl, ◌∙◌, arith}
use Rattle.std.proofs.lemmas.Option.{slice_get_read}
use Rattle.gx_lemmas.proofs.Lists.{place-below}
use Rattle.gx_lemmas.proofs.Options.{some-same}
use Rattle.gx_lemmas.proofs.Tests.{false-true}
use Rattle.gx_store.specs.declared.event.Event.TheVariants.{Receive}
use Rattle.gx_store.specs.declared.run.Step.{Step}
use Rattle.gx_legal.proofs.MarkPlaces.{none-below}
use Rattle.gx_legal.proofs.Sessions.{no-longer}
use Rattle.gx_legal.specs.Words.{ReceivesAt}
use Rattle.gx_legal.proofs.heard.is_received.Goals as goal

pub returns-then-is_receipt : goal.returns-then-is_receipt
returns-then-is_receipt c =
    let at = slice_get_read c.args.steps.now (length c.args.steps.now) c.loop-step.step-index c.step-item.result refl c.loop-step-test.true c.step-item.is in
    (λ t. (c.loop-step.step-index, (c.step-item.result, at, c.is_receipt.ensures.0 c.if-is_receipt.true)), λ by. refl)

pub loop-step-preserved : goal.loop-step-preserved
loop-step-preserved c =
    let r = c.args.report in
    let Q : Step → Type 0 = λ step. step.event ≡ Receive r.from r.to c.args.number in
    let at = slice_get_read c.args.steps.now (length c.args.steps.now) c.loop-step.step-index c.step-item.result refl c.loop-step-test.true c.step-item.is in
    none-below (ReceivesAt r.from r.to c.args.number c.args.steps.now) c.loop-step.step-index c.loop-step.invariant
    (λ by. no-longer c.is_receipt.result c.is_receipt.ensures c.if-is_receipt.false (subst Q (some-same by.0 c.step-item.result (sym by.1 ∙ at)) by.2))

pub returns : goal.returns
returns c = (λ t. absurd (false-true t), λ by. absurd (c.loop-step.invariant by.0 (let inside : by.0 < length c.args.steps.now = place-below c.args.steps.now by.0 by.1.0 by.1.1 in omega arith) by.1))
