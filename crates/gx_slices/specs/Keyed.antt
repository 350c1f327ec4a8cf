-- Which rows a store finds by a value of their table's distribution column.
use Rattle.std.specs.Prelude.{◌≡◌, ◌≢◌, ◌⊎◌, ℕ, true, false, List, slice_get, None, Some, IfSome, Ok}
use Rattle.std.specs.declared.option.Option.{Option}
use Rattle.std.specs.List.{AllByRecursion}
use Rattle.gx_ids.specs.declared.ids.Table.{Table}
use Rattle.gx_ids.specs.declared.rid.Rid.{Rid}
use Rattle.gx_tree.specs.declared.cond.Cond.{Cond}
use Rattle.gx_tree.specs.declared.schema.Dist.{Dist}
use Rattle.gx_tree.specs.declared.schema.Dist.TheVariants.{By, Randomly}
use Rattle.gx_tree.specs.declared.value.Value.{Value}
use Rattle.gx_meaning.specs.Expressions.{truth_of}
use Rattle.gx_meaning.specs.Kinds.{IsTyped, kinds_of}
use Rattle.gx_rows.specs.Xids.{Xids}
use Rattle.gx_rows.specs.declared.version.Version.{Version}
use Rattle.gx_sweep.specs.Index.{has_under, key_at}
use Rattle.gx_sweep.specs.declared.index.KeyIndex.{KeyIndex}
use Rattle.gx_slices.specs.Filed.{IsSound}
use Rattle.gx_slices.specs.Store.{kept_at}

-- THE ROWS OF A CONDITION
-- on a row with another value in this column the condition is false without a fault
abbrev pub IsWanted : Option Cond → ℕ → Value → Type 0
IsWanted None column value = ⊥
IsWanted (Some cond) column value = (row : List Value) → IsTyped (kinds_of row) cond → slice_get row column ≢ Some value → truth_of row cond ≡ Ok false

-- the condition is false on the row without a fault, if it has a meaning there
abbrev pub IsDenied : Option Cond → Option (List Value) → Type 0
IsDenied None row = ⊥
IsDenied (Some cond) None = ⊥
IsDenied (Some cond) (Some row) = IsTyped (kinds_of row) cond → truth_of row cond ≡ Ok false

-- the row is the one that is shown, or it is left out since the condition is false on it
abbrev pub IsShownFor : Option Cond → Option (List Value) → Option (List Value) → Type 0
IsShownFor cond shown row = (row ≡ shown) ⊎ ((row ≡ None) × IsDenied cond shown)

-- THE INDEX
-- the column by which a table is distributed
abbrev pub key_column : Option Dist → Option ℕ
key_column None = None
key_column (Some Randomly) = None
key_column (Some (By column)) = Some column

abbrev pub value_in : Option (List Value) → Option ℕ → Option Value
value_in None column = None
value_in (Some row) None = None
value_in (Some row) (Some column) = slice_get row column

-- the value of the distribution column in an image
abbrev pub key_in : Option Dist → Option (List Value) → Option Value
key_in dist image = value_in image (key_column dist)

-- the row of an image stands under its key
abbrev pub IsUnder : KeyIndex → Option Dist → Table → Rid → Option (List Value) → Type 0
IsUnder index dist table rid image = IfSome (key_in dist image) (λ key. has_under index (key_at table key) rid ≡ true)

-- every row stands under the key of each of its versions
abbrev pub IsIndexed : List Dist → KeyIndex → List (Table × List (Rid × List Version)) → Type 0
IsIndexed dists index tables = (table : Table) (rid : Rid) → AllByRecursion (λ v. IsUnder index (slice_get dists table.0) table rid v.image) (kept_at tables table rid)

-- the versions are filed, and their rows are found by key
pub record IsKeyed (dists : List Dist) (index : KeyIndex) (tables : List (Table × List (Rid × List Version))) (x : Xids) : Type 0 where
  pub sound : IsSound tables x
  pub indexed : IsIndexed dists index tables
