-- The edges during a reduction, each with a mark that is true while it is left.
use Rattle.std.specs.Prelude.{◌≡◌, ◌+◌, ◌*◌, ◌≤◌, ◌<◌, ℕ, List, [], ◌∷◌, Bool, true, ◌⊎◌, if◌then◌else◌, length, slice_get, Some, Contains, count_by}
use Rattle.gx_waits.specs.declared.placed_edge.PlacedEdge.{PlacedEdge}
use Rattle.gx_detect.specs.declared.place.Aim.{Aim}
use Rattle.gx_detect.specs.declared.place.Place.{Place}
use Rattle.gx_detect.specs.declared.rest.Rest.{Rest}
use Rattle.gx_detect.specs.Place.{Needs, waits_in}
use Rattle.gx_detect.specs.Tally.{count_at}

-- those of the edges whose mark is true
abbrev pub left_of : List PlacedEdge → List Bool → List PlacedEdge
left_of [] marks = []
left_of (x ∷ xs) [] = []
left_of (x ∷ xs) (m ∷ marks) = if m then x ∷ left_of xs marks else left_of xs marks

abbrev pub rest_of : List PlacedEdge → Rest → List PlacedEdge
rest_of edges rest = left_of edges rest.marks.items

-- each of the first is one of the second
abbrev pub AreAmong : List PlacedEdge → List PlacedEdge → Type 0
AreAmong part edges = (e : PlacedEdge) → Contains part e → Contains edges e

-- the counts are those of the edges that are left
pub record IsCounted (edges : List PlacedEdge) (rest : Rest) : Type 0 where
  pub as_long : length rest.marks.items ≡ length edges
  pub counts : (p : Place) → count_at rest.tally p ≡ count_by (waits_in p) (rest_of edges rest)

-- where an edge that is left lacks what it needs, the place is freed
abbrev pub AreNoted : Aim → List PlacedEdge → Rest → Type 0
AreNoted aim edges rest = (e : PlacedEdge) → Contains (rest_of edges rest) e → (p : Place) → Needs aim e p → count_at rest.tally p ≡ 0
    → Contains rest.freed.items p

-- or it is this one
abbrev pub AreNotedBut : Place → Aim → List PlacedEdge → Rest → Type 0
AreNotedBut place aim edges rest = (e : PlacedEdge) → Contains (rest_of edges rest) e → (p : Place) → Needs aim e p → count_at rest.tally p ≡ 0
    → Contains rest.freed.items p ⊎ (place ≡ p)

-- no edge that is left lacks what it needs
abbrev pub IsDone : Aim → List PlacedEdge → Rest → Type 0
IsDone aim edges rest = (e : PlacedEdge) → Contains (rest_of edges rest) e → (p : Place) → Needs aim e p → 0 < count_at rest.tally p

-- the edges at these places of the list were taken out, and what they leave empty is noted
pub record AreTakenOut (edges : List PlacedEdge) (indexes : List ℕ) (old new : Rest) : Type 0 where
  pub fall : (k : ℕ) → slice_get new.marks.items k ≡ Some true → slice_get old.marks.items k ≡ Some true
  pub out : (k : ℕ) → Contains indexes k → slice_get new.marks.items k ≡ Some true → ⊥
  pub kept : (e : PlacedEdge) → Contains (rest_of edges old) e
      → Contains (rest_of edges new) e ⊎ ((k : ℕ) × Contains indexes k × (slice_get edges k ≡ Some e))
  pub freed : (p : Place) → count_at new.tally p ≡ 0 → (count_at old.tally p ≡ 0) ⊎ Contains new.freed.items p
  pub still_freed : (p : Place) → Contains old.freed.items p → Contains new.freed.items p
  pub work : 3 * length (rest_of edges new) + length new.freed.items ≤ 3 * length (rest_of edges old) + length old.freed.items

-- each edge of the set has in the set what it needs
abbrev pub IsBacked : Aim → List PlacedEdge → Type 0
IsBacked aim set = (e : PlacedEdge) → Contains set e → (p : Place) → Needs aim e p → (f : PlacedEdge) × Contains set f × (waits_in p f ≡ true)

-- only what is in no such set goes
pub record IsFollowed (aim : Aim) (edges : List PlacedEdge) (old new : Rest) : Type 0 where
  pub among : AreAmong (rest_of edges new) (rest_of edges old)
  pub stay : (set : List PlacedEdge) → IsBacked aim set → AreAmong set (rest_of edges old) → AreAmong set (rest_of edges new)
