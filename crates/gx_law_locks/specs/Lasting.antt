-- Whoever has not ended holds all that it was granted, but for what a segment gives back at any time.
use Rattle.std.specs.Prelude.{◌≡◌, true, false, List, ◌∷◌, ◌++◌}
use Rattle.gx_ids.specs.declared.ids.Gxid.{Gxid}
use Rattle.gx_ids.specs.declared.ids.Node.{Node}
use Rattle.gx_modes.specs.declared.modes.Mode.{Mode}
use Rattle.gx_waits.specs.declared.claim.Claim.{Claim}
use Rattle.gx_waits.specs.declared.object.Object.{Object}
use Rattle.gx_store.specs.declared.mark.Mark.{Mark}
use Rattle.gx_store.specs.declared.mark.Mark.TheVariants.{Hold}
use Rattle.gx_store.specs.Locks.{IsMomentary}
use Rattle.gx_store.specs.Marks.{is_ended}
use Rattle.gx_store.specs.Waits.{is_held}
use Rattle.gx_waits.specs.Claims.{claim}

-- a lock that is given back at an end alone: none on a row, nor one on another transaction's end, at a segment
abbrev pub IsLasting : Node → Claim → Type 0
IsLasting node c = IsMomentary node c.object c.mode → ⊥

abbrev pub DoHoldsLast : List Mark → Type 0
DoHoldsLast marks =
    (before later : List Mark) (node : Node) (g : Gxid) (object : Object) (mode : Mode)
    → marks ≡ before ++ Hold node g object mode ∷ later → IsLasting node (claim g object mode) → is_ended marks g ≡ false → is_held marks node g object mode ≡ true
