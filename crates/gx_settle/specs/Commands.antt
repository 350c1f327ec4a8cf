-- What the bytes of an input ask for.
use Rattle.std.specs.Prelude.{◌≡◌, ⊤, ℕ, ◌+◌, ◌-◌, ◌*◌, ◌<◌, ◌==◌, nat_le, nat_lt, nat_eq, ◌&&◌, not, Bool, if◌then◌else◌, List, [], ◌∷◌, ◌++◌, map, length, take, drop, Option, Some, None, codes}
use Rattle.std.specs.Cmp.Lexicographic.{pointwise}
use Rattle.gx_decide.specs.declared.decision.Decision.{Decision}
use Rattle.gx_decide.specs.declared.decision.Decision.TheVariants.{Commit, Abort}
use Rattle.gx_settle.specs.declared.command.Command.{Command}
use Rattle.gx_settle.specs.declared.command.Command.TheVariants.{Settle, Reopen}

-- a byte in front of the first line
abbrev pub with_byte : ℕ → List (List ℕ) → List (List ℕ)
with_byte b [] = (b ∷ []) ∷ []
with_byte b (line ∷ lines) = (b ∷ line) ∷ lines

-- the lines of bytes, each without its line feed, which the last may lack
abbrev pub lines_of : List ℕ → List (List ℕ)
lines_of [] = []
lines_of (b ∷ bs) = if b == 10 then [] ∷ lines_of bs else with_byte b (lines_of bs)

-- a byte that is no line feed
abbrev pub is_within : ℕ → Bool
is_within b = not (b == 10)

-- what stands behind a text that a line begins with
abbrev pub behind : List ℕ → List ℕ → Option (List ℕ)
behind text line = if pointwise nat_eq (take (length text) line) text then Some (drop (length text) line) else None

-- what stands before a text that a line ends with
abbrev pub before : List ℕ → List ℕ → Option (List ℕ)
before text line = if pointwise nat_eq (drop (length line - length text) line) text then Some (take (length line - length text) line) else None

-- the number that digits write behind a number, in base ten; none where a byte is no digit
abbrev pub number_behind : ℕ → List ℕ → Option ℕ
number_behind n [] = Some n
number_behind n (d ∷ ds) = if nat_le 48 d && nat_le d 57 then number_behind (n * 10 + (d - 48)) ds else None

-- the number with a further digit, where it is one and has 64 bits
abbrev pub grown : ℕ → ℕ → Option ℕ
grown n d = if (nat_le 48 d && nat_le d 57) && nat_lt (n * 10 + (d - 48)) 18446744073709551616 then Some (n * 10 + (d - 48)) else None

-- a transaction's number is from 1, and of 64 bits
abbrev pub drawn : Option ℕ → Option ℕ
drawn None = None
drawn (Some n) = if nat_lt 0 n && nat_lt n 18446744073709551616 then Some n else None

abbrev pub settle : Decision → Option ℕ → Option Command
settle wish None = None
settle wish (Some n) = Some (Settle (record { 0 = n }) wish)

-- a transaction in decimal digits, and what is wished for it
abbrev pub settle_of : Decision → List ℕ → Option Command
settle_of wish digits = settle wish (drawn (number_behind 0 digits))

abbrev pub or_else : Decision → Option (List ℕ) → Option Command → Option Command
or_else wish (Some digits) other = settle_of wish digits
or_else wish None other = other

abbrev pub settles : Option (List ℕ) → Option Command
settles None = None
settles (Some rest) = or_else Commit (before (codes " commit") rest) (or_else Abort (before (codes " abort") rest) None)

-- the command of a line: `reopen`, `ask G`, `settle G commit` or `settle G abort`
abbrev pub command_of : List ℕ → Option Command
command_of line = if pointwise nat_eq line (codes "reopen") then Some Reopen else or_else Abort (behind (codes "ask ") line) (settles (behind (codes "settle ") line))

-- each line has its command
abbrev pub AreLinesOf : List (List ℕ) → List Command → Type 0
AreLinesOf lines commands = map command_of lines ≡ map Some commands

-- the line with this number, from 1, is the first that is no command
pub record IsFirstOther (lines : List (List ℕ)) (number : ℕ) : Type 0 where
  pub front : List (List ℕ)
  pub line : List ℕ
  pub rest : List (List ℕ)
  pub commands : List Command
  pub parts : lines ≡ front ++ line ∷ rest
  pub read : AreLinesOf front commands
  pub is : command_of line ≡ None
  pub at : number ≡ length front + 1

-- a transaction that is settled has been drawn
abbrev pub IsDrawn : Command → Type 0
IsDrawn (Settle gxid wish) = 0 < gxid.0
IsDrawn Reopen = ⊤
