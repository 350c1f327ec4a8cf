-- A step at the coordinator, by a copy of its stamp.
use Rattle.std.proofs.Common.{◌≡◌, ◌∙◌, Bool, ap, sym}
use Rattle.gx_ids.specs.declared.stamp.Stamp.{Stamp}
use Rattle.gx_store.specs.Journals.{is_same_node}
use Rattle.gx_store.specs.Refusals.{the_coordinator}

pub here : (stamp copy : Stamp) (b : Bool) → copy ≡ stamp → is_same_node copy.node the_coordinator ≡ b → is_same_node stamp.node the_coordinator ≡ b
here stamp copy b same is = ap (λ (s : Stamp). is_same_node s.node the_coordinator) (sym same) ∙ is
