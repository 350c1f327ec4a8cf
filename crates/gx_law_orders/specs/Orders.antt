-- How many messages the coordinator may send a segment, by what has happened.
use Rattle.std.specs.Prelude.{◌≤◌, ℕ, ◌+◌, List, [], ◌∷◌}
use Rattle.gx_ids.specs.declared.ids.Node.{Node}
use Rattle.gx_store.specs.Ordered.{sent_in}
use Rattle.gx_store.specs.Refusals.{the_coordinator}
use Rattle.gx_store.specs.declared.event.Event.{Event}
use Rattle.gx_store.specs.declared.event.Event.TheVariants.{End, Resend, Round, Start}
use Rattle.gx_store.specs.declared.run.Step.{Step}

-- eight for a line that starts and for a session that ends, one for what is sent again and for a round that begins
abbrev pub allowance : Event → ℕ
allowance (Start session) = 8
allowance (End session) = 8
allowance (Resend segment g) = 1
allowance Round = 1
allowance _ = 0

abbrev pub allowed_in : List Step → ℕ
allowed_in [] = 0
allowed_in (s ∷ ss) = allowance s.event + allowed_in ss

-- no segment is sent more
abbrev pub AreOrdersFew : List Step → Type 0
AreOrdersFew steps = (segment : Node) → sent_in the_coordinator segment steps ≤ allowed_in steps
