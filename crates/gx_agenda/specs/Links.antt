-- Links by number, and the faults of their messages.
use Rattle.std.specs.Prelude.{ℕ, ◌+◌, ◌*◌, ◌==◌, Bool, not, if◌then◌else◌, ◌&&◌}
use Rattle.std.specs.declared.cmp.Ordering.{Ordering}
use Rattle.std.specs.Ordering.{nat_cmp, ordering_then}
use Rattle.gx_ids.specs.declared.ids.Node.{Node}
use Rattle.gx_script.specs.declared.LinkFault.{LinkFault}
use Rattle.gx_agenda.specs.declared.link.LinkMessage.{LinkMessage}

-- a segment's two links stand side by side, the one to it first
abbrev pub link_of : Node → Node → ℕ
link_of from to = if from.0 == 0 then 2 * to.0 else 2 * from.0 + 1

abbrev pub fault_link : LinkFault → ℕ
fault_link fault = if fault.to_segment then 2 * fault.segment.0 else 2 * fault.segment.0 + 1

-- the fault is about this message
abbrev pub is_about : ℕ → ℕ → LinkFault → Bool
is_about link number fault = (fault_link fault == link) && (fault.number == number)

abbrev pub is_loss_of : ℕ → ℕ → LinkFault → Bool
is_loss_of link number fault = is_about link number fault && not fault.repeat

abbrev pub is_repeat_of : ℕ → ℕ → LinkFault → Bool
is_repeat_of link number fault = is_about link number fault && fault.repeat

-- by link, and then by number
abbrev pub message_cmp : LinkMessage → LinkMessage → Ordering
message_cmp a b = ordering_then (nat_cmp a.link b.link) (nat_cmp a.number b.number)
