-- The bytes that are still to be read, and their lines.
use Rattle.std.specs.Prelude.{◌≡◌, ℕ, ◌+◌, ◌==◌, Bool, not, List, [], ◌∷◌, ◌++◌, length, Option, Some, None, is_some, Result, Ok, Err, codes}
use Rattle.std.specs.Borrow.{Bor}
use Rattle.gx_trace.specs.Lawful.{IsLine}
use Rattle.gx_trace.specs.Readers.{word}
use Rattle.gx_read_trace.specs.ReadText.{cut}
use Rattle.gx_read_trace.specs.declared.fault.TraceFault.{TraceFault}
use Rattle.gx_read_trace.specs.declared.fault.TraceFault.TheVariants.{NotATrace, OutOfMemory}

-- what is left of the bytes, and how many lines stood before it
pub record Rest : Type 0 where
  pub left : List ℕ
  pub taken : ℕ

-- how many lines are left that a line feed ends
abbrev pub lines_left : Rest → ℕ
lines_left rest = length (cut rest.left).0

-- a byte of a line
abbrev pub is_within : ℕ → Bool
is_within b = not (b == 10)

-- the bytes are this line, its line feed, and the rest
pub record BeginWith (bytes line rest : List ℕ) : Type 0 where
  pub line_alone : IsLine line
  pub parts : bytes ≡ line ++ 10 ∷ rest

-- behind this line, the first of the old rest, stands the new one
pub record IsBehind (old : Rest) (line : List ℕ) (new : Rest) : Type 0 where
  pub cuts : cut old.left ≡ (line ∷ (cut new.left).0, (cut new.left).1)
  pub taken : new.taken ≡ old.taken + 1

-- the first line is taken; or there is none, and where it should be is told
abbrev pub IsTaken : Result (Bor (List ℕ)) TraceFault → Rest → Rest → Type 0
IsTaken (Ok line) old new = IsBehind old line.now new
IsTaken (Err (NotATrace n)) old new = ((cut old.left).0 ≡ []) × (n ≡ old.taken + 1)
IsTaken (Err OutOfMemory) old new = ⊥

abbrev pub IsEnded : Result (Unit {0}) TraceFault → Rest → Type 0
IsEnded (Ok x) rest = rest.left ≡ []
IsEnded (Err (NotATrace n)) rest = (rest.left ≡ [] → ⊥) × (n ≡ rest.taken + 1)
IsEnded (Err OutOfMemory) rest = ⊥

-- a mark's line begins so
abbrev pub begins_with_blanks : Rest → Bool
begins_with_blanks rest = is_some (word (codes "  ") rest.left)

-- WHOLE LINES
-- what the line taken last was read as, or that it wasn't
abbrev pub IsWhole : {A : Type 0} → Option A → Rest → Result A TraceFault → Type 0
IsWhole read rest (Ok a) = read ≡ Some a
IsWhole read rest (Err (NotATrace n)) = (read ≡ None) × (n ≡ rest.taken)
IsWhole read rest (Err OutOfMemory) = ⊥

-- what the first of the lines is read as
abbrev pub first_read : {A : Type 0} → (List ℕ → Option A) → List (List ℕ) → Option A
first_read read [] = None
first_read read (l ∷ ls) = read l

pub record IsReadAs {A : Type 0} (read : List ℕ → Option A) (old new : Rest) (a : A) : Type 0 where
  pub line : List ℕ
  pub behind : IsBehind old line new
  pub is : read line ≡ Some a

-- the first line is read and taken; or it isn't read, or missing, and its number is told
abbrev pub Takes : {A : Type 0} → (List ℕ → Option A) → Rest → Rest → Result A TraceFault → Type 0
Takes read old new (Ok a) = IsReadAs read old new a
Takes read old new (Err (NotATrace n)) = (first_read read (cut old.left).0 ≡ None) × (n ≡ old.taken + 1)
Takes read old new (Err OutOfMemory) = Unit {0}
