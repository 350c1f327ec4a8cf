use Rattle.std.proofs.Common.{◌≡◌, filter, not, subst}
use Rattle.gx_locks.specs.declared.hold.Hold.{Hold}
use Rattle.gx_locks.specs.Holds.{same_hold}
use Rattle.gx_locks.specs.Rack.{Rack}
use Rattle.gx_locks.proofs.Slots.{standing-fresh}
use Rattle.gx_locks.proofs.ledger.Ledger.fill.Goals as goal

pub returns-clause-fresh : goal.returns-clause-fresh
returns-clause-fresh c =
    let hold : Hold = record { number = c.self.inside.next; claim = c.args.claim } in
    subst (λ (rack : Rack). filter (λ other. not (same_hold hold other)) rack.holds ≡ rack.holds) c.self.view_is (standing-fresh hold c.self.inside.slots.items c.self.invariant.below)
