-- Words that name an append that is refused, and the journals that they ask for.
use Rattle.std.specs.Prelude.{◌≡◌, ◌==◌, ◌^◌, ◌<◌, ◌≤◌, ℕ, zero, suc, Bool, if◌then◌else◌, List, [], ◌∷◌, ◌++◌, length, Option, None, Some, codes, string_bytes}
use Rattle.std.specs.declared.string.String.{String}
use Rattle.std.specs.declared.alloc.Global.{Global}
use Rattle.std.specs.List.{position_or_len, before_first, after_first}
use Rattle.std.specs.Str.Parse.{IsNumeral, digits_value, without_leading_plus}
use Rattle.gx_outside.specs.Memory.{JournalState}
use Rattle.gx_words.specs.Asked.{AreAsked}
use Rattle.gx_words.specs.declared.options.Options.{Options}
use Rattle.gx_judge.specs.declared.asked.Append.{Append}
use Rattle.gx_judge.specs.declared.asked.Asked.{Asked}

abbrev pub is_dot : ℕ → Bool
is_dot byte = byte == 46

-- the text writes the number in base ten
pub record IsNumberText (text : List ℕ) (number : ℕ) : Type 0 where
  pub digits : IsNumeral 10 (without_leading_plus text)
  pub value : number ≡ digits_value 10 (without_leading_plus text)

-- the text names an append: a node's number, a dot, and the append's number there, from 1, which has 64 bits
pub record IsAppendText (text : List ℕ) (append : Append) : Type 0 where
  pub dot : position_or_len is_dot text < length text
  pub node : IsNumberText (before_first is_dot text) append.node
  pub call : IsNumberText (after_first is_dot text) append.call
  pub there : append.node ≤ 16
  pub least : 1 ≤ append.call
  pub most : append.call < 2 ^ 64

-- the words begin with the append that is refused, and the others ask for these options
pub record AreRefusing (words : List (String Global)) (append : Append) (options : Options) : Type 0 where
  pub first : String Global
  pub text : String Global
  pub others : List (String Global)
  pub are : words ≡ first ∷ text ∷ others
  pub refuse : string_bytes first ≡ codes "--refuse"
  pub named : IsAppendText (string_bytes text) append
  pub asked : AreAsked others options

-- the words ask for these options, and for this append to be refused, if for one
abbrev pub AreAskedWith : List (String Global) → Option Append → Options → Type 0
AreAskedWith words None options = AreAsked words options
AreAskedWith words (Some append) options = AreRefusing words append options

abbrev pub IsAsked : List (String Global) → Asked → Type 0
IsAsked words asked = AreAskedWith words asked.refused asked.options

-- the words are not in the language of the command line
abbrev pub AreUnknown : List (String Global) → Type 0
AreUnknown words = (asked : Asked) → IsAsked words asked → ⊥

-- the words ask for a script that is read, and for no generated work
pub record IsForSource (words : List (String Global)) : Type 0 where
  pub asked : Asked
  pub is : IsAsked words asked
  pub plain : asked.options.work ≡ None

-- the numbers of the appends that are refused at a node
abbrev pub refused_at : Option Append → ℕ → List ℕ
refused_at None node = []
refused_at (Some append) node = if append.node == node then append.call ∷ [] else []

-- a node's journal, which is empty and has not failed yet
abbrev pub journal_at : Option Append → ℕ → JournalState
journal_at refused node = record { items = []; fail = refused_at refused node; calls = 0; faults = 0 }

-- those of so many nodes
unfoldable pub journals_below : Option Append → ℕ → List JournalState
journals_below refused zero = []
journals_below refused (suc node) = journals_below refused node ++ journal_at refused node ∷ []
