-- The holds and waits that stand at a point, at a node.
use Rattle.std.specs.Prelude.{◌==◌, Bool, if◌then◌else◌, List, [], ◌∷◌}
use Rattle.std.specs.List.{list_any}
use Rattle.gx_ids.specs.declared.ids.Node.{Node}
use Rattle.gx_ids.specs.declared.ids.Gxid.{Gxid}
use Rattle.gx_modes.specs.declared.modes.Mode.{Mode}
use Rattle.gx_waits.specs.declared.claim.Claim.{Claim}
use Rattle.gx_waits.specs.declared.object.Object.{Object}
use Rattle.gx_waits.specs.Claim.{same_claim}
use Rattle.gx_waits.specs.Claims.{claim, with_claim, without_claim}
use Rattle.gx_store.specs.declared.mark.Mark.{Mark}
use Rattle.gx_store.specs.declared.mark.Mark.TheVariants.{Hold, Wait, Release}

-- a hold stands from its Hold mark to the next Release of the same; these are the ones after the marks, from those before
abbrev pub holds_from : Node → List Claim → List Mark → List Claim
holds_from node holds [] = holds
holds_from node holds (Hold n g object mode ∷ ms) = holds_from node (if n.0 == node.0 then with_claim (claim g object mode) holds else holds) ms
holds_from node holds (Release n g object mode ∷ ms) = holds_from node (if n.0 == node.0 then without_claim (claim g object mode) holds else holds) ms
holds_from node holds (_ ∷ ms) = holds_from node holds ms

-- a wait stands from its Wait mark to the next Hold or Release of the same
abbrev pub waits_from : Node → List Claim → List Mark → List Claim
waits_from node waits [] = waits
waits_from node waits (Wait n g object mode ∷ ms) = waits_from node (if n.0 == node.0 then with_claim (claim g object mode) waits else waits) ms
waits_from node waits (Hold n g object mode ∷ ms) = waits_from node (if n.0 == node.0 then without_claim (claim g object mode) waits else waits) ms
waits_from node waits (Release n g object mode ∷ ms) = waits_from node (if n.0 == node.0 then without_claim (claim g object mode) waits else waits) ms
waits_from node waits (_ ∷ ms) = waits_from node waits ms

abbrev pub holds_at : List Mark → Node → List Claim
holds_at marks node = holds_from node [] marks

abbrev pub waits_at : List Mark → Node → List Claim
waits_at marks node = waits_from node [] marks

-- the transaction holds the mode on the object at the node
abbrev pub is_held : List Mark → Node → Gxid → Object → Mode → Bool
is_held marks node g object mode = list_any (same_claim (claim g object mode)) (holds_at marks node)
