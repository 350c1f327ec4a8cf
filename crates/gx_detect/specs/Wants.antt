-- Which edges need a place.
use Rattle.std.specs.Prelude.{◌≡◌, ◌<◌, ◌⊎◌, ℕ, List, [], Contains, slice_get, Some, unwrap_or}
use Rattle.std.specs.BTreeMap.{get}
use Rattle.gx_waits.specs.declared.placed_edge.PlacedEdge.{PlacedEdge}
use Rattle.gx_detect.specs.declared.place.Place.{Place}
use Rattle.gx_detect.specs.declared.wants.Wants.{Wants}
use Rattle.gx_detect.specs.contracts.place.PlaceOrd.TheImpl as block
use Rattle.gx_detect.specs.Place.{Needs}

-- the places in the list of the edges that need a place
abbrev pub needing : Wants → Place → List ℕ
needing wants place = unwrap_or (get block.ghosts.cmp wants.indexes place) []

-- of so many edges these are all
pub record AreListed (edges : List PlacedEdge) (many : ℕ) (wants : Wants) : Type 0 where
  pub all_of_them : (k : ℕ) → k < many → (e : PlacedEdge) → slice_get edges k ≡ Some e → (p : Place) → Needs wants.aim e p → Contains (needing wants p) k
  pub no_others : (p : Place) (k : ℕ) → Contains (needing wants p) k → (e : PlacedEdge) × (slice_get edges k ≡ Some e) × Needs wants.aim e p

-- one more edge is listed where it needs a place
pub record IsListed (e : PlacedEdge) (k : ℕ) (old new : Wants) : Type 0 where
  pub aim : new.aim ≡ old.aim
  pub there : (p : Place) → Needs old.aim e p → Contains (needing new p) k
  pub still : (p : Place) (j : ℕ) → Contains (needing old p) j → Contains (needing new p) j
  pub no_others : (p : Place) (j : ℕ) → Contains (needing new p) j → Contains (needing old p) j ⊎ ((j ≡ k) × Needs old.aim e p)
