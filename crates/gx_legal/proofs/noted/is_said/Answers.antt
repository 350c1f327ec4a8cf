use Rattle.std.proofs.Common.{◌∙◌, sym, subst}
use Rattle.gx_ids.specs.declared.ids.Node.{Node}
use Rattle.gx_lemmas.proofs.Tests.{false-true}
use Rattle.gx_store.specs.Refusals.{HearsCause, the_coordinator}
use Rattle.gx_legal.specs.Moments.{point_of}
use Rattle.gx_legal.proofs.Causes.{sender-same}
use Rattle.gx_legal.proofs.noted.is_said.Goals as goal

pub returns-in_default : goal.returns-in_default
returns-in_default c = (λ t. absurd (false-true t), λ w. absurd (c.in_default.not-Receive w.0 the_coordinator w.2.number w.2.is))

pub returns : goal.returns
returns c =
    let heard = c.in-Receive in
    let From : Node → Type 0 = λ node. HearsCause (point_of c.args.moment.now) node c.args.gxid c.args.cid c.args.reason in (
      λ t. (heard.from, (c.args.reason, c.hears_cause.ensures.0 t), c.hears_cause.ensures.0 t),
      λ w. c.hears_cause.ensures.1 (subst From (sender-same w.0 the_coordinator heard.from heard.to w.2.number heard.number (sym w.2.is ∙ heard.is)) w.2),
    )
