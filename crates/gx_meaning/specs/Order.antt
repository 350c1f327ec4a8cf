-- The orders of rows and of groups, and a list in an order.
use Rattle.std.specs.Prelude.{Bool, if◌then◌else◌, List, [], ◌∷◌, slice_get}
use Rattle.std.specs.Ordering.{nat_cmp, ordering_then, ordering_reverse, is_gt}
use Rattle.std.specs.Option.{option_cmp}
use Rattle.std.specs.Cmp.Lexicographic.{slice_cmp}
use Rattle.std.specs.declared.cmp.Ordering.{Ordering}
use Rattle.std.specs.declared.cmp.Ordering.TheVariants.{Equal}
use Rattle.gx_ids.specs.declared.rid.Rid.{Rid}
use Rattle.gx_tree.specs.Value.{value_order}
use Rattle.gx_tree.specs.declared.row.KeyedRow.{KeyedRow}
use Rattle.gx_tree.specs.declared.value.Value.{Value}
use Rattle.gx_meaning.specs.declared.sort_key.SortKey.{SortKey}

-- the other way round under DESC
abbrev pub directed : Bool → Ordering → Ordering
directed desc order = if desc then ordering_reverse order else order

-- two lists of values by one place; a place that a list lacks stands first
abbrev pub by_place : SortKey → List Value → List Value → Ordering
by_place key a b = directed key.desc (option_cmp value_order (slice_get a key.place) (slice_get b key.place))

-- by the first of the places that tells them apart
abbrev pub by_places : List SortKey → List Value → List Value → Ordering
by_places [] a b = Equal
by_places (key ∷ keys) a b = ordering_then (by_place key a b) (by_places keys a b)

-- by transaction, then by command, then by ordinal
abbrev pub rid_order : Rid → Rid → Ordering
rid_order a b = ordering_then (nat_cmp a.gxid.0 b.gxid.0) (ordering_then (nat_cmp a.cid.0 b.cid.0) (nat_cmp a.ordinal b.ordinal))

-- rows by places, and those that tie by identity, rising
abbrev pub row_order : List SortKey → KeyedRow → KeyedRow → Ordering
row_order keys a b = ordering_then (by_places keys a.row b.row) (rid_order a.rid b.rid)

-- lists of values by their first difference
abbrev pub rising : List Value → List Value → Ordering
rising a b = slice_cmp value_order a b

-- the values of groups by places, and those that tie rising
abbrev pub group_order : List SortKey → List Value → List Value → Ordering
group_order keys a b = ordering_then (by_places keys a b) (rising a b)

-- x before the first item that it isn't above
abbrev pub placed : {X : Type 0} → (X → X → Ordering) → X → List X → List X
placed R x [] = x ∷ []
placed R x (y ∷ ys) = if is_gt (R x y) then y ∷ placed R x ys else x ∷ y ∷ ys

-- the items in an order
abbrev pub in_order : {X : Type 0} → (X → X → Ordering) → List X → List X
in_order R [] = []
in_order R (x ∷ xs) = placed R x (in_order R xs)
