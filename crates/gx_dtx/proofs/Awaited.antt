-- An order is sent again exactly where an answer is awaited.
use Rattle.std.proofs.Common.{◌≡◌, refl, Bool, true, false, cond, eqb}
use Rattle.std.specs.Prelude.{Option, None, Some, ◌↔◌}
use Rattle.gx_ids.specs.declared.ids.Node.{Node}
use Rattle.gx_msg.specs.declared.reply.Reply.{Reply as Answer}
use Rattle.gx_msg.specs.declared.reply.Reply.TheVariants as answer
use Rattle.gx_dtx.specs.declared.order.Order.{Order}
use Rattle.gx_dtx.specs.declared.order.Order.TheVariants as order
use Rattle.gx_dtx.specs.declared.phase.Phase.{Phase}
use Rattle.gx_dtx.specs.declared.phase.Phase.TheVariants as phase
use Rattle.gx_dtx.specs.declared.txn.Txn.{Txn}
use Rattle.gx_dtx.specs.Nodes.{has}
use Rattle.gx_dtx.specs.Rules.{is_awaited, awaits_found, order_in, order_found}

none_if : (b : Bool) (o : Order) → cond b (Some o) None ≡ None → b ≡ false
none_if true o none = absurd (cc)
none_if false o none = refl

if_none : (b : Bool) (o : Order) → b ≡ false → cond b (Some o) None ≡ None
if_none true o isnt = absurd (cc)
if_none false o isnt = refl

unawaited : (ph : Phase) (i : Node) (a : Answer) → order_in ph i ≡ None → is_awaited ph i a ≡ false
unawaited (phase.Preparing _ aw) i answer.Prepared none = none_if (has i aw) order.Prepare none
unawaited (phase.Preparing _ aw) i answer.Jfault none = none_if (has i aw) order.Prepare none
unawaited (phase.CommittingOne w) i answer.Committed none = none_if (eqb w.0 i.0) order.Commit none
unawaited (phase.CommittingOne w) i answer.Jfault none = none_if (eqb w.0 i.0) order.Commit none
unawaited (phase.CommittingTwo aw) i answer.Committed none = none_if (has i aw) order.CommitPrepared none
unawaited (phase.Ended aw) i answer.Forgotten none = none_if (has i aw) order.Forget none
unawaited (phase.Aborting aw) i answer.Aborted none = none_if (has i aw) order.Abort none
unawaited _ i _ none = refl

unsent : (ph : Phase) (i : Node) → ((a : Answer) → is_awaited ph i a ≡ false) → order_in ph i ≡ None
unsent phase.Active i isnt = refl
unsent (phase.Preparing _ aw) i isnt = if_none (has i aw) order.Prepare (isnt answer.Prepared)
unsent (phase.CommittingOne w) i isnt = if_none (eqb w.0 i.0) order.Commit (isnt answer.Committed)
unsent (phase.CommittingTwo aw) i isnt = if_none (has i aw) order.CommitPrepared (isnt answer.Committed)
unsent (phase.Ended aw) i isnt = if_none (has i aw) order.Forget (isnt answer.Forgotten)
unsent (phase.Aborting aw) i isnt = if_none (has i aw) order.Abort (isnt answer.Aborted)

pub none-awaits : (o : Option Txn) (i : Node) → (order_found i o ≡ None) ↔ ((a : Answer) → awaits_found i a o ≡ false)
none-awaits None i = (λ _ a. refl, λ _. refl)
none-awaits (Some t) i = (λ none a. unawaited t.phase i a none, unsent t.phase i)
