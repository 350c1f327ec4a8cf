-- The bytes that are read in each state of the reader, and what holds of it.
use Rattle.std.proofs.Common.{◌≡◌, ℕ, ◌+◌, ◌^◌, ◌<◌, ◌≤◌, Bool, true, false, List, [], ◌∷◌, ◌++◌, length, take, drop, codes, Option, Some, None}
use Rattle.std.specs.List.{flat_map}
use Rattle.std.specs.Fmt.{decimal}
use Rattle.gx_ids.specs.Rid.{text_of}
use Rattle.gx_ids.specs.declared.ids.Gxid.{Gxid}
use Rattle.gx_tree.specs.declared.value.Value.{Value}
use Rattle.gx_msg.specs.declared.item.Kept.{Kept}
use Rattle.gx_msg.specs.declared.mid.Listed.{Listed}
use Rattle.gx_msg.specs.declared.mid.Rows.{Rows}
use Rattle.gx_msg.specs.declared.mid.Spot.{Spot}
use Rattle.gx_msg.specs.declared.mid.Word.{Word}
use Rattle.gx_msg.specs.declared.mid.Word.TheVariants as word
use Rattle.gx_msg.specs.declared.mid.Field.{Field}
use Rattle.gx_msg.specs.declared.mid.Field.TheVariants as field
use Rattle.gx_msg.specs.declared.mid.Mid.{Mid}
use Rattle.gx_msg.specs.declared.mid.Mid.TheVariants as mid
use Rattle.gx_text.specs.Quoted.{quoted_byte}
use Rattle.gx_msg.specs.ItemBytes.{bytes_of_value, line_of_kept, bytes_of_item}
use Rattle.gx_msg.specs.Reading.{Each, IsValue, IsKept, IsItem}
use Rattle.gx_msg.specs.Steps.{name_of_listed, name_of_lone, letters_of, most, is_negative}

-- the bytes before a row: the item's line and the rows before
abbrev pub rows_front : Listed → Gxid → ℕ → List Kept → List ℕ
rows_front k gxid count kept = name_of_listed k ++ decimal gxid.0 ++ codes " " ++ decimal count ++ codes "\n" ++ flat_map line_of_kept kept

abbrev pub front_of_rows : Rows → List ℕ
front_of_rows rows = rows_front rows.listed rows.gxid (length rows.kept + (rows.others + 1)) rows.kept

abbrev pub front_of_spot : Spot → List ℕ
front_of_spot spot = front_of_rows spot.rows ++ text_of spot.rid ++ codes " " ++ decimal spot.table.0 ++ codes " "

-- a value and the bar behind it
abbrev pub followed : Value → List ℕ
followed v = bytes_of_value v ++ codes "|"

abbrev pub front_of_values : Spot → List Value → List ℕ
front_of_values spot values = front_of_spot spot ++ flat_map followed values

abbrev pub sign : Bool → List ℕ
sign true = codes "-"
sign false = []

abbrev pub front_of : Field → List ℕ
front_of (field.Listed k) = name_of_listed k
front_of (field.Lone k) = name_of_lone k
front_of (field.Count k gxid) = name_of_listed k ++ decimal gxid.0 ++ codes " "
front_of (field.RidGxid rows) = front_of_rows rows
front_of (field.RidCid rows gxid) = front_of_rows rows ++ decimal gxid.0 ++ codes "."
front_of (field.RidOrdinal rows gxid cid) = front_of_rows rows ++ decimal gxid.0 ++ codes "." ++ decimal cid.0 ++ codes "."
front_of (field.Table rows rid) = front_of_rows rows ++ text_of rid ++ codes " "
front_of (field.Int spot values negative) = front_of_values spot values ++ sign negative

abbrev pub digits_of : Option ℕ → List ℕ
digits_of None = []
digits_of (Some n) = decimal n

abbrev pub front_of_word : Word → List ℕ
front_of_word (word.Listed k) = []
front_of_word (word.Lone k) = []
front_of_word (word.Gone spot) = front_of_spot spot

-- what is read
abbrev pub printed : Mid → List ℕ
printed mid.Start = []
printed mid.Fork = codes "f"
printed (mid.Word w place) = front_of_word w ++ take place (letters_of w)
printed (mid.Digits f n) = front_of f ++ digits_of n
printed (mid.Value spot values) = front_of_values spot values
printed (mid.Text spot values text) = front_of_values spot values ++ (39 ∷ flat_map quoted_byte text)
printed (mid.Quoted spot values text) = front_of_values spot values ++ (39 ∷ (flat_map quoted_byte text ++ 39 ∷ []))
printed (mid.Done i) = bytes_of_item i

pub record IsRows (rows : Rows) : Type 0 where
  pub gxid : rows.gxid.0 < 2 ^ 64
  pub kept : Each IsKept rows.kept
  pub count : length rows.kept + (rows.others + 1) < 2 ^ 64

pub record IsSpot (spot : Spot) : Type 0 where
  pub rows : IsRows spot.rows
  pub gxid : spot.rid.gxid.0 < 2 ^ 64
  pub cid : spot.rid.cid.0 < 2 ^ 32
  pub ordinal : spot.rid.ordinal < 2 ^ 32
  pub table : spot.table.0 < 2 ^ 8

-- what is read before a number fits
abbrev pub IsField : Field → Type 0
IsField (field.Listed k) = Unit {0}
IsField (field.Lone k) = Unit {0}
IsField (field.Count k gxid) = gxid.0 < 2 ^ 64
IsField (field.RidGxid rows) = IsRows rows
IsField (field.RidCid rows gxid) = IsRows rows × (gxid.0 < 2 ^ 64)
IsField (field.RidOrdinal rows gxid cid) = IsRows rows × (gxid.0 < 2 ^ 64) × (cid.0 < 2 ^ 32)
IsField (field.Table rows rid) = IsRows rows × (rid.gxid.0 < 2 ^ 64) × (rid.cid.0 < 2 ^ 32) × (rid.ordinal < 2 ^ 32)
IsField (field.Int spot values negative) = IsSpot spot × Each IsValue values

-- what is read before a word fits
abbrev pub IsWord : Word → Type 0
IsWord (word.Listed k) = Unit {0}
IsWord (word.Lone k) = Unit {0}
IsWord (word.Gone spot) = IsSpot spot

-- a number is no greater than it may be, and isn't 0 behind a sign
abbrev pub IsNumber : Field → Option ℕ → Type 0
IsNumber f None = Unit {0}
IsNumber f (Some n) = (n ≤ most f) × (is_negative f ≡ true → 0 < n)

-- what holds in a state
abbrev pub IsMid : Mid → Type 0
IsMid mid.Start = Unit {0}
IsMid mid.Fork = Unit {0}
IsMid (mid.Word w place) = IsWord w × (0 < length (drop place (letters_of w)))
IsMid (mid.Digits f n) = IsField f × IsNumber f n
IsMid (mid.Value spot values) = IsSpot spot × Each IsValue values
IsMid (mid.Text spot values text) = IsSpot spot × Each IsValue values
IsMid (mid.Quoted spot values text) = IsSpot spot × Each IsValue values
IsMid (mid.Done i) = IsItem i

-- a step keeps this, and reads its byte
abbrev pub Keeps : List ℕ → ℕ → Option Mid → Type 0
Keeps front b None = Unit {0}
Keeps front b (Some m) = IsMid m × (printed m ≡ front ++ b ∷ [])
