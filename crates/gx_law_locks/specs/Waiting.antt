-- What a transaction does while it waits, and in which mode another's end is waited for.
use Rattle.std.specs.List.{list_any}
use Rattle.std.specs.Prelude.{◌≡◌, ◌⊎◌, Bool, true, false, List, [], ◌∷◌, ◌++◌, filter}
use Rattle.gx_ids.specs.declared.ids.Gxid.{Gxid}
use Rattle.gx_ids.specs.declared.ids.Node.{Node}
use Rattle.gx_modes.specs.declared.modes.Mode.{Mode}
use Rattle.gx_modes.specs.declared.modes.Mode.TheVariants.{Share}
use Rattle.gx_waits.specs.declared.object.Object.{Object}
use Rattle.gx_waits.specs.declared.object.Object.TheVariants.{Transaction}
use Rattle.gx_waits.specs.Claims.{claim, is_of}
use Rattle.gx_store.specs.declared.mark.Mark.{Mark}
use Rattle.gx_store.specs.declared.mark.Mark.TheVariants.{Hold, Release, Wait}
use Rattle.gx_store.specs.Marks.{is_aborted}
use Rattle.gx_store.specs.Waits.{waits_at}

-- a wait of the transaction stands at the node
abbrev pub is_waiting : List Mark → Node → Gxid → Bool
is_waiting marks node g = list_any (is_of g) (waits_at marks node)

-- this holds of each of these marks, given those before it
abbrev pub EachBehind : (List Mark → Mark → Type 0) → List Mark → List Mark → Type 0
EachBehind P before [] = Unit {0}
EachBehind P before (m ∷ ms) = P before m × EachBehind P (before ++ m ∷ []) ms

-- while it waits at a node a transaction gives nothing back there, its wait included, unless it has aborted
abbrev pub KeepsWhileWaiting : List Mark → Mark → Type 0
KeepsWhileWaiting before (Release node g object mode) = (is_waiting before node g ≡ false) ⊎ (is_aborted before g ≡ true)
KeepsWhileWaiting before _ = Unit {0}

-- nor is it granted anything there but what it waits for
abbrev pub GetsWhatItWaitsFor : List Mark → Mark → Type 0
GetsWhatItWaitsFor before (Hold node g object mode) = (is_waiting before node g ≡ false) ⊎ (filter (is_of g) (waits_at before node) ≡ claim g object mode ∷ [])
GetsWhatItWaitsFor before _ = Unit {0}

-- a transaction's end is waited for in mode Share, so two who wait for it don't meet each other
abbrev pub IsForEnd : Object → Mode → Type 0
IsForEnd (Transaction other) mode = mode ≡ Share
IsForEnd _ mode = Unit {0}

abbrev pub WaitsForEnd : List Mark → Mark → Type 0
WaitsForEnd before (Wait node g object mode) = IsForEnd object mode
WaitsForEnd before _ = Unit {0}
