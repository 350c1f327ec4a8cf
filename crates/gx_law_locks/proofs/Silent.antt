-- Marks that say nothing of rounds, and messages that belong to a transaction.
use Rattle.std.proofs.Common.{ℕ, List, [], ◌∷◌}
use Rattle.gx_dtx.specs.Orders.{message_of}
use Rattle.gx_dtx.specs.declared.order.Order.{Order}
use Rattle.gx_dtx.specs.declared.order.Order.TheVariants as order
use Rattle.gx_ids.specs.declared.ids.Gxid.{Gxid}
use Rattle.gx_msg.specs.declared.message.Message.{Message}
use Rattle.gx_msg.specs.declared.message.Message.TheVariants as message
use Rattle.gx_msg.specs.declared.message.Out.{Out}
use Rattle.gx_store.specs.declared.mark.Mark.{Mark}
use Rattle.gx_store.specs.declared.mark.Mark.TheVariants as mark
use Rattle.gx_rules.specs.Sending.{counted, numbered}
use Rattle.gx_law_order.specs.Lists.{Each}

-- neither a round's end, nor a report, nor a sending
abbrev pub Silent : Mark → Type 0
Silent (mark.Recheck round own verdict) = ⊥
Silent (mark.Report node round graph) = ⊥
Silent (mark.Sent to number told) = ⊥
Silent _ = Unit {0}

-- of a transaction, and not of a round
abbrev pub OfOne : Message → Type 0
OfOne (message.Collect round) = ⊥
OfOne (message.Graph round graph) = ⊥
OfOne message.Up = ⊥
OfOne _ = Unit {0}

abbrev pub AreOfOne : List Out → Type 0
AreOfOne outs = Each (λ o. OfOne o.message) outs

pub order-of-one : (o : Order) (g : Gxid) → OfOne (message_of o g)
order-of-one order.Prepare g = tt
order-of-one order.Commit g = tt
order-of-one order.CommitPrepared g = tt
order-of-one order.Abort g = tt
order-of-one order.Forget g = tt

abbrev pub NoRecheck : Mark → Type 0
NoRecheck (mark.Recheck round own verdict) = ⊥
NoRecheck _ = Unit {0}

abbrev pub NoReport : Mark → Type 0
NoReport (mark.Report node round graph) = ⊥
NoReport _ = Unit {0}

abbrev pub NoSent : Mark → Type 0
NoSent (mark.Sent to number told) = ⊥
NoSent _ = Unit {0}

pub no-recheck : (ms : List Mark) → Each Silent ms → Each NoRecheck ms
no-recheck [] e = tt
no-recheck (mark.Recheck round own verdict ∷ ms) e = absurd e.0
no-recheck (m ∷ ms) e = (tt, no-recheck ms e.1)

pub no-report : (ms : List Mark) → Each Silent ms → Each NoReport ms
no-report [] e = tt
no-report (mark.Report node round graph ∷ ms) e = absurd e.0
no-report (m ∷ ms) e = (tt, no-report ms e.1)

pub no-sent : (ms : List Mark) → Each Silent ms → Each NoSent ms
no-sent [] e = tt
no-sent (mark.Sent to number told ∷ ms) e = absurd e.0
no-sent (m ∷ ms) e = (tt, no-sent ms e.1)

-- sendings end no round and report nothing
pub sends-no-recheck : (f : ℕ → ℕ) (outs : List Out) → Each NoRecheck (numbered f outs)
sends-no-recheck f [] = tt
sends-no-recheck f (o ∷ outs) = (tt, sends-no-recheck (counted f o) outs)

pub sends-no-report : (f : ℕ → ℕ) (outs : List Out) → Each NoReport (numbered f outs)
sends-no-report f [] = tt
sends-no-report f (o ∷ outs) = (tt, sends-no-report (counted f o) outs)
