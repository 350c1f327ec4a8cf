-- The reader of a journal item, byte by byte.
use Rattle.std.specs.Prelude.{ℕ, ◌+◌, ◌-◌, ◌*◌, ◌^◌, ◌==◌, nat_le, nat_lt, ℤ, pos, negsuc, zero, suc, Bool, true, false, ◌&&◌, if◌then◌else◌, List, [], ◌∷◌, ◌++◌, length, slice_get, Option, None, Some, Result, Ok, Err, codes}
use Rattle.gx_ids.specs.declared.ids.Gxid.{Gxid}
use Rattle.gx_tree.specs.declared.value.Value.{Value}
use Rattle.gx_tree.specs.declared.value.Value.TheVariants as value
use Rattle.gx_msg.specs.declared.item.ItemFault.{ItemFault}
use Rattle.gx_msg.specs.declared.item.ItemFault.TheVariants.{NotAnItem}
use Rattle.gx_msg.specs.declared.item.JournalItem.{JournalItem}
use Rattle.gx_msg.specs.declared.item.JournalItem.TheVariants as item
use Rattle.gx_msg.specs.declared.item.Kept.{Kept}
use Rattle.gx_msg.specs.declared.mid.Listed.{Listed}
use Rattle.gx_msg.specs.declared.mid.Listed.TheVariants as listed
use Rattle.gx_msg.specs.declared.mid.Lone.{Lone}
use Rattle.gx_msg.specs.declared.mid.Lone.TheVariants as lone
use Rattle.gx_msg.specs.declared.mid.Spot.{Spot}
use Rattle.gx_msg.specs.declared.mid.Word.{Word}
use Rattle.gx_msg.specs.declared.mid.Word.TheVariants as word
use Rattle.gx_msg.specs.declared.mid.Field.{Field}
use Rattle.gx_msg.specs.declared.mid.Field.TheVariants as field
use Rattle.gx_msg.specs.declared.mid.Mid.{Mid}
use Rattle.gx_msg.specs.declared.mid.Mid.TheVariants as mid

-- an item's name, with the space behind it
abbrev pub name_of_listed : Listed → List ℕ
name_of_listed listed.Prepare = codes "prepare "
name_of_listed listed.Commit = codes "commit "

-- the same of an item without rows
abbrev pub name_of_lone : Lone → List ℕ
name_of_lone lone.Finish = codes "finish "
name_of_lone lone.Decide = codes "decide "
name_of_lone lone.Abort = codes "abort "
name_of_lone lone.Forget = codes "forget "

-- the letters of a word; an image that is gone ends its line
abbrev pub letters_of : Word → List ℕ
letters_of (word.Listed k) = name_of_listed k
letters_of (word.Lone k) = name_of_lone k
letters_of (word.Gone spot) = codes "gone\n"

-- the item of this name with these rows
abbrev pub listed_item : Listed → Gxid → List Kept → JournalItem
listed_item listed.Prepare gxid rows = item.Prepare gxid rows
listed_item listed.Commit gxid rows = item.Commit gxid rows

-- the item of this name
abbrev pub lone_item : Lone → Gxid → JournalItem
lone_item lone.Finish gxid = item.Finish gxid
lone_item lone.Decide gxid = item.Decide gxid
lone_item lone.Abort gxid = item.Abort gxid
lone_item lone.Forget gxid = item.Forget gxid

-- what comes when this many rows are still to be read
abbrev pub rows_from : Listed → Gxid → List Kept → ℕ → Mid
rows_from k gxid kept left = if left == 0 then mid.Done (listed_item k gxid kept) else mid.Digits (field.RidGxid (record { listed = k; gxid = gxid; kept = kept; others = left - 1 })) None

-- what comes behind a line
abbrev pub line_ended : Spot → Option (List Value) → Mid
line_ended spot image = rows_from spot.rows.listed spot.rows.gxid (spot.rows.kept ++ record { rid = spot.rid; table = spot.table; image = image } ∷ []) spot.rows.others

-- a bar comes before the next value, and a line feed ends the line
abbrev pub value_ended : Spot → List Value → ℕ → Option Mid
value_ended spot values b = if b == 124 then Some (mid.Value spot values) else if b == 10 then Some (line_ended spot (Some values)) else None

-- the number behind a minus sign, where it has 64 bits
abbrev pub negative : ℕ → Option ℤ
negative zero = Some (pos 0)
negative (suc n) = if nat_lt n (2 ^ 63) then Some (negsuc n) else None

-- the number behind a minus sign or none, where it has 64 bits
abbrev pub signed : Bool → ℕ → Option ℤ
signed true n = negative n
signed false n = if nat_lt n (2 ^ 63) then Some (pos n) else None

-- the byte behind a whole number
abbrev pub int_ended : Spot → List Value → Option ℤ → ℕ → Option Mid
int_ended spot values None b = None
int_ended spot values (Some z) b = value_ended spot (values ++ value.Int z ∷ []) b

-- what comes at one byte alone
abbrev pub at : ℕ → ℕ → Mid → Option Mid
at stop b m = if b == stop then Some m else None

-- the byte behind a number
abbrev pub number_ended : Field → ℕ → ℕ → Option Mid
number_ended (field.Listed k) n b = at 32 b (mid.Digits (field.Count k (record { 0 = n })) None)
number_ended (field.Lone k) n b = at 10 b (mid.Done (lone_item k (record { 0 = n })))
number_ended (field.Count k gxid) n b = at 10 b (rows_from k gxid [] n)
number_ended (field.RidGxid rows) n b = at 46 b (mid.Digits (field.RidCid rows (record { 0 = n })) None)
number_ended (field.RidCid rows gxid) n b = if nat_lt n (2 ^ 32) then at 46 b (mid.Digits (field.RidOrdinal rows gxid (record { 0 = n })) None) else None
number_ended (field.RidOrdinal rows gxid cid) n b = if nat_lt n (2 ^ 32) then at 32 b (mid.Digits (field.Table rows (record { gxid = gxid; cid = cid; ordinal = n })) None) else None
number_ended (field.Table rows rid) n b = if nat_lt n (2 ^ 8) then at 32 b (mid.Value (record { rows = rows; rid = rid; table = record { 0 = n } }) []) else None
number_ended (field.Int spot values is_negative) n b = int_ended spot values (signed is_negative n) b

-- the greatest that the number may be
abbrev pub most : Field → ℕ
most (field.Listed k) = 18446744073709551615
most (field.Lone k) = 18446744073709551615
most (field.Count k gxid) = 18446744073709551615
most (field.RidGxid rows) = 18446744073709551615
most (field.RidCid rows gxid) = 4294967295
most (field.RidOrdinal rows gxid cid) = 4294967295
most (field.Table rows rid) = 255
most (field.Int spot values false) = 9223372036854775807
most (field.Int spot values true) = 9223372036854775808

-- whether the number stands behind a minus sign
abbrev pub is_negative : Field → Bool
is_negative (field.Int spot values negative) = negative
is_negative _ = false

-- the number, where it is no greater than the limit
abbrev pub within : ℕ → ℕ → Option ℕ
within limit n = if nat_le n limit then Some n else None

-- the number with one more digit: none begins with 0 but 0 itself, which has no sign
abbrev pub grown : Bool → ℕ → Option ℕ → ℕ → Option ℕ
grown signed limit None d = if signed && (d == 0) then None else Some d
grown signed limit (Some n) d = if n == 0 then None else within limit (n * 10 + d)

-- 0 to 9
abbrev pub is_digit : ℕ → Bool
is_digit b = nat_le 48 b && nat_le b 57

-- a number goes on, where it may
abbrev pub digits_on : Field → Option ℕ → Option Mid
digits_on field None = None
digits_on field (Some n) = Some (mid.Digits field (Some n))

-- a number is over, where it has a digit
abbrev pub digits_over : Field → Option ℕ → ℕ → Option Mid
digits_over field None b = None
digits_over field (Some n) b = number_ended field n b

-- a byte in a number
abbrev pub next_digit : Field → Option ℕ → ℕ → Option Mid
next_digit field n b = if is_digit b then digits_on field (grown (is_negative field) (most field) n (b - 48)) else digits_over field n b

-- what comes behind a word
abbrev pub word_ended : Word → Mid
word_ended (word.Listed k) = mid.Digits (field.Listed k) None
word_ended (word.Lone k) = mid.Digits (field.Lone k) None
word_ended (word.Gone spot) = line_ended spot None

-- the letter that is due, and the byte
abbrev pub letter_is : Word → ℕ → Option ℕ → ℕ → Option Mid
letter_is w place None b = None
letter_is w place (Some c) b = if c == b then Some (if nat_lt (place + 1) (length (letters_of w)) then mid.Word w (place + 1) else word_ended w) else None

-- a byte in a word
abbrev pub next_letter : Word → ℕ → ℕ → Option Mid
next_letter w place b = letter_is w place (slice_get (letters_of w) place) b

-- the first letter tells the item, but for finish and forget
abbrev pub begin : ℕ → Option Mid
begin b = if b == 112 then Some (mid.Word (word.Listed listed.Prepare) 1) else if b == 99 then Some (mid.Word (word.Listed listed.Commit) 1)
    else if b == 102 then Some mid.Fork else if b == 97 then Some (mid.Word (word.Lone lone.Abort) 1) else at 100 b (mid.Word (word.Lone lone.Decide) 1)

-- the second letter of finish or forget
abbrev pub fork : ℕ → Option Mid
fork b = if b == 105 then Some (mid.Word (word.Lone lone.Finish) 2) else at 111 b (mid.Word (word.Lone lone.Forget) 2)

-- the first byte of a value; a row that is gone has none
abbrev pub begin_value : Spot → List Value → ℕ → Option Mid
begin_value spot values b = if b == 39 then Some (mid.Text spot values []) else if b == 45 then Some (mid.Digits (field.Int spot values true) None)
    else if (b == 103) && (length values == 0) then Some (mid.Word (word.Gone spot) 1) else next_digit (field.Int spot values false) None b

-- what the reader is in behind one more byte, where an item may go on with it
abbrev pub next : Mid → ℕ → Option Mid
next mid.Start b = begin b
next mid.Fork b = fork b
next (mid.Word w place) b = next_letter w place b
next (mid.Digits field n) b = next_digit field n b
next (mid.Value spot values) b = begin_value spot values b
next (mid.Text spot values text) b = if b == 39 then Some (mid.Quoted spot values text) else Some (mid.Text spot values (text ++ b ∷ []))
next (mid.Quoted spot values text) b = if b == 39 then Some (mid.Text spot values (text ++ 39 ∷ [])) else value_ended spot (values ++ value.Text text ∷ []) b
next (mid.Done i) b = None

-- the end of the bytes
abbrev pub ended : Mid → ℕ → Result JournalItem ItemFault
ended (mid.Done i) place = Ok i
ended _ place = Err (NotAnItem place)

-- where there is no next state, the place is the fault
abbrev pub goes_on : (Mid → Result JournalItem ItemFault) → ℕ → Option Mid → Result JournalItem ItemFault
goes_on f place None = Err (NotAnItem place)
goes_on f place (Some m) = f m

-- from this state and place on
abbrev pub read_on : List ℕ → Mid → ℕ → Result JournalItem ItemFault
read_on [] m place = ended m place
read_on (b ∷ bs) m place = goes_on (λ n. read_on bs n (place + 1)) place (next m b)

-- the item that the bytes are, or the place where they stop being one
abbrev pub read : List ℕ → Result JournalItem ItemFault
read bs = read_on bs mid.Start 0
