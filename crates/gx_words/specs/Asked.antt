-- What the words ask for, and the bytes of the script that they ask for.
use Rattle.std.specs.Prelude.{◌≡◌, ℕ, ◌<◌, ◌≤◌, List, length, map, string_bytes, None, Some, Result, Ok, Err}
use Rattle.std.specs.declared.option.Option.{Option}
use Rattle.std.specs.declared.string.String.{String}
use Rattle.std.specs.declared.alloc.Global.{Global}
use Rattle.std.specs.declared.vec.Vec.{Vec}
use Rattle.std.specs.Io.KnownBytes.{Consumes, IsAtEnd}
use Rattle.gx_outside.specs.Causes.{Rose}
use Rattle.gx_words.specs.Words.{IsCommand}
use Rattle.gx_work.specs.Text.{work_text}
use Rattle.gx_words.specs.declared.bytes.NoBytes.TheVariants as unread
use Rattle.gx_words.specs.declared.bytes.NoBytes.{NoBytes}
use Rattle.gx_words.specs.declared.options.Options.{Options}

-- the most bytes of a script
abbrev pub limit : ℕ
limit = 16777216

-- the words ask for this
abbrev pub AreAsked : List (String Global) → Options → Type 0
AreAsked words options = IsCommand (map string_bytes words) options

-- the words are not in the language of the command line
abbrev pub AreUnknown : List (String Global) → Type 0
AreUnknown words = (options : Options) → AreAsked words options → ⊥

-- the words ask for a script that is read, and for no generated work
pub record IsForSource (words : List (String Global)) : Type 0 where
  pub options : Options
  pub asked : AreAsked words options
  pub plain : options.work ≡ None

-- the bytes of the script: those of the source, which was read to its end; or those that are generated from a number, and nothing was read
abbrev pub AreGiven : Option ℕ → Option (List ℕ) → Option (List ℕ) → List ℕ → Type 0
AreGiven None left after bytes = Consumes left after bytes × IsAtEnd after
AreGiven (Some number) left after bytes = (bytes ≡ work_text number) × (after ≡ left)

-- more bytes came than a script may have
pub record IsTooMuch (left after : Option (List ℕ)) : Type 0 where
  pub bytes : List ℕ
  pub taken : Consumes left after bytes
  pub more : limit < length bytes

-- The bytes of a script are there; or they were to be read, and the source failed or had too many. Where they are there, and where memory ran out,
-- the source has counted no fault.
abbrev pub HasBytes : Option ℕ → Option (List ℕ) → Option (List ℕ) → ℕ → ℕ → Result (Vec ℕ Global) NoBytes → Type 0
HasBytes work left after before now (Ok bytes) = AreGiven work left after bytes.items × (length bytes.items ≤ limit) × (now ≡ before)
HasBytes work left after before now (Err unread.ReadFault) = (work ≡ None) × Rose before now
HasBytes work left after before now (Err unread.TooLarge) = (work ≡ None) × IsTooMuch left after
HasBytes work left after before now (Err unread.OutOfMemory) = now ≡ before
