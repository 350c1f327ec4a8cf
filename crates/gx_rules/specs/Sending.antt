-- How a node numbers what it sends, and how its clock goes.
use Rattle.std.specs.Prelude.{ℕ, ◌+◌, nat_lt, if◌then◌else◌, List, [], ◌∷◌}
use Rattle.gx_msg.specs.declared.message.Out.{Out}
use Rattle.gx_store.specs.declared.mark.Mark.{Mark}
use Rattle.gx_store.specs.declared.mark.Mark.TheVariants.{Sent}
use Rattle.gx_store.specs.declared.node.NodeEvent.{NodeEvent}
use Rattle.gx_store.specs.declared.node.NodeEvent.TheVariants.{Deliver}
use Rattle.gx_rules.specs.Maps.{with_at}

-- how many messages were sent on each link, after one more
abbrev pub counted : (ℕ → ℕ) → Out → ℕ → ℕ
counted sent out = with_at sent out.node.0 (sent out.node.0 + 1)

abbrev pub counted_all : (ℕ → ℕ) → List Out → ℕ → ℕ
counted_all sent [] = sent
counted_all sent (out ∷ outs) = counted_all (counted sent out) outs

-- each message has the next number of its link
abbrev pub numbered : (ℕ → ℕ) → List Out → List Mark
numbered sent [] = []
numbered sent (out ∷ outs) = Sent out.node (sent out.node.0 + 1) out.message ∷ numbered (counted sent out) outs

-- a clock becomes one more than the greater of itself and what it hears
abbrev pub heard_in : NodeEvent → ℕ
heard_in (Deliver from envelope) = envelope.clock
heard_in _ = 0

abbrev pub clock_after : ℕ → NodeEvent → ℕ
clock_after clock event = (if nat_lt clock (heard_in event) then heard_in event else clock) + 1
