use Rattle.std.proofs.Common.{◌∙◌, sym, subst}
use Rattle.gx_ids.specs.declared.ids.Node.{Node}
use Rattle.gx_lemmas.proofs.Tests.{false-true}
use Rattle.gx_store.specs.Refusals.{HearsCause, the_coordinator}
use Rattle.gx_legal.specs.Moments.{point_of}
use Rattle.gx_legal.proofs.Causes.{noted-by, sender-same, word-noted}
use Rattle.gx_legal.proofs.noted.is_word.Goals as goal

pub returns-in_default : goal.returns-in_default
returns-in_default c = (λ t. absurd (false-true t), λ w. absurd (c.in_default.not-Receive w.segment the_coordinator w.content.number w.content.is))

pub returns-then-hears_cause : goal.returns-then-hears_cause
returns-then-hears_cause c =
    let m = c.args.moment.now in
    let e = c.args.evaluation in
    let heard = c.in-Receive in (
      λ t. word-noted (point_of m) e.gxid e.cid e.rid e.image.now c.args.reason heard.from (c.hears_cause.ensures.0 c.if-hears_cause.true) (c.had_noted.ensures.0 t),
      λ w. c.had_noted.ensures.1 (noted-by (point_of m) e.gxid e.cid e.rid e.image.now c.args.reason heard.from w (sender-same w.segment the_coordinator heard.from heard.to w.content.number heard.number (sym w.content.is ∙ heard.is))),
    )

pub returns-else-hears_cause : goal.returns-else-hears_cause
returns-else-hears_cause c =
    let m = c.args.moment.now in
    let e = c.args.evaluation in
    let heard = c.in-Receive in
    let From : Node → Type 0 = λ node. HearsCause (point_of m) node e.gxid e.cid c.args.reason in (
      λ t. absurd (false-true (sym c.if-hears_cause.false ∙ t)),
      λ w. c.hears_cause.ensures.1 (subst From (sender-same w.segment the_coordinator heard.from heard.to w.content.number heard.number (sym w.content.is ∙ heard.is)) w.content),
    )
