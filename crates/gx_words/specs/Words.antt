-- The language of the command line: which words are taken, and what they ask for.
use Rattle.std.specs.Prelude.{◌≡◌, ℕ, ◌+◌, ◌-◌, ◌*◌, ◌≤◌, nat_le, nat_lt, ◌&&◌, ◌||◌, not, Bool, true, false, if◌then◌else◌, List, [], ◌∷◌, ◌++◌, length, Option, Some, None, is_some, option_and_then, unwrap_or, find, codes}
use Rattle.std.specs.List.{flat_map, list_all, list_any}
use Rattle.std.specs.Str.{bytes_eq}
use Rattle.gx_words.specs.declared.options.Options.{Options}

-- the options that have a number
pub data Name : Type 0 where
  seed : Name
  turns : Name
  gen : Name

-- those that have none
pub data Flag : Type 0 where
  trace : Flag
  threads : Flag

-- an option as it is written: a flag, or a name with its number, which is the next word or follows `=` in the same word
pub data Part : Type 0 where
  flag : Flag → Part
  apart : Name → List ℕ → Part
  joined : Name → List ℕ → Part

abbrev pub name_text : Name → List ℕ
name_text seed = codes "seed"
name_text turns = codes "turns"
name_text gen = codes "gen"

abbrev pub flag_text : Flag → List ℕ
flag_text trace = codes "trace"
flag_text threads = codes "threads"

-- the option's name
abbrev pub label : Part → List ℕ
label (flag f) = flag_text f
label (apart name number) = name_text name
label (joined name number) = name_text name

-- the words of an option
abbrev pub words_of : Part → List (List ℕ)
words_of (flag f) = (codes "--" ++ flag_text f) ∷ []
words_of (apart name number) = (codes "--" ++ name_text name) ∷ number ∷ []
words_of (joined name number) = (codes "--" ++ name_text name ++ codes "=" ++ number) ∷ []

-- the number that digits write behind a number, in base ten; none where a byte is no digit
abbrev pub number_behind : ℕ → List ℕ → Option ℕ
number_behind n [] = Some n
number_behind n (d ∷ ds) = if nat_le 48 d && nat_le d 57 then number_behind (n * 10 + (d - 48)) ds else None

abbrev pub fitting : Option ℕ → Option ℕ
fitting None = None
fitting (Some n) = if nat_lt n 18446744073709551616 then Some n else None

-- the number that 1 to 20 digits write, where it has 64 bits
abbrev pub number_of : List ℕ → Option ℕ
number_of text = if nat_le 1 (length text) && nat_le (length text) 20 then fitting (number_behind 0 text) else None

-- the number that an option has; a flag has none
abbrev pub number_in : Part → Option ℕ
number_in (flag f) = None
number_in (apart name number) = number_of number
number_in (joined name number) = number_of number

-- the option has its number, where it needs one
abbrev pub is_numbered : Part → Bool
is_numbered (flag f) = true
is_numbered (apart name number) = is_some (number_of number)
is_numbered (joined name number) = is_some (number_of number)

abbrev pub has_label : List ℕ → Part → Bool
has_label name part = bytes_eq (label part) name

-- each option stands among these parts at most once, and not among those before
abbrev pub are_once : List Part → List Part → Bool
are_once before [] = true
are_once before (p ∷ ps) = not (list_any (has_label (label p)) before) && are_once (before ++ p ∷ []) ps

abbrev pub number_given : List ℕ → List Part → Option ℕ
number_given name parts = option_and_then number_in (find (has_label name) parts)

-- the flag is among the parts
abbrev pub is_given : Flag → List Part → Bool
is_given f parts = list_any (has_label (flag_text f)) parts

-- what the parts ask for: a million turns where they don't say
abbrev pub options_of : List Part → Options
options_of parts = record {
  seed = number_given (codes "seed") parts;
  threads = is_given threads parts;
  trace = is_given trace parts;
  turns = unwrap_or (number_given (codes "turns") parts) 1000000;
  work = number_given (codes "gen") parts;
}

-- they ask for threads, and for a seed or for turns, which are for the drivers of one thread
abbrev pub are_mixed : List Part → Bool
are_mixed parts = is_given threads parts && (is_some (number_given (codes "seed") parts) || is_some (number_given (codes "turns") parts))

-- The parts ask for these options, none for threads beside a seed or turns, and the turns are from 1 to 10,000,000.
pub record IsOf (parts : List Part) (options : Options) : Type 0 where
  pub are : options ≡ options_of parts
  pub unmixed : are_mixed parts ≡ false
  pub least : 1 ≤ options.turns
  pub most : options.turns ≤ 10000000

-- The words are in the language, and ask for these options: they are the words of options, one after the other, each at most once and with its
-- number.
pub record IsCommand (words : List (List ℕ)) (options : Options) : Type 0 where
  pub parts : List Part
  pub written : words ≡ flat_map words_of parts
  pub once : are_once [] parts ≡ true
  pub numbered : list_all is_numbered parts ≡ true
  pub of : IsOf parts options
