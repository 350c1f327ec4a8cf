use Rattle.std.proofs.Common.{◌∙◌, ap, arith}
use Rattle.gx_locks.specs.Holds.{standing}
use Rattle.gx_locks.proofs.Slots.{standing-compact, IsLedger-compact}
use Rattle.gx_locks.proofs.ledger.Ledger.strike.Goals as goal

pub invariant_of-self : goal.invariant_of-self
invariant_of-self c =
    IsLedger-compact c.void.new.slots.items c.compact.new.slots.items c.self.inside.next c.self.inside.places _ (record { rising = c.void.ensures.rising; below = c.void.ensures.below _ c.self.invariant.below; room = omega (arith, c.self.invariant.room, c.void.ensures.length, c.void.ensures.capacity, c.compact.ensures.capacity); numbers = c.self.invariant.numbers }) c.compact.ensures.items

pub returns-then-self-len-clause-holds : goal.returns-then-self-len-clause-holds
returns-then-self-len-clause-holds c =
    rw (← c.self.view_is) (ap standing c.compact.ensures.items ∙ standing-compact c.void.new.slots.items ∙ c.void.ensures.standing)
