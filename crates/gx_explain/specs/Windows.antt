-- What is shown of a line: its characters about a place, and a caret under that.
use Rattle.std.specs.Prelude.{ℕ, zero, suc, ◌-◌, ◌==◌, nat_le, Bool, not, ◌&&◌, if◌then◌else◌, List, [], ◌∷◌, ◌++◌, length, filter, take, codes}

-- a byte of a character that isn't its first
abbrev pub is_inner : ℕ → Bool
is_inner b = nat_le 128 b && nat_le b 191

abbrev pub is_first : ℕ → Bool
is_first b = not (is_inner b)

abbrev pub chars : List ℕ → ℕ
chars bytes = length (filter is_first bytes)

-- the bytes behind so many characters
abbrev pub behind_chars : ℕ → List ℕ → List ℕ
behind_chars n [] = []
behind_chars n (b ∷ bs) = if is_inner b then behind_chars n bs else if n == 0 then b ∷ bs else behind_chars (n - 1) bs

-- so many characters from the front, where there are as many
abbrev pub first_chars : ℕ → List ℕ → List ℕ
first_chars n [] = []
first_chars n (b ∷ bs) = if is_inner b then b ∷ first_chars n bs else if n == 0 then [] else b ∷ first_chars (n - 1) bs

abbrev pub blanks : ℕ → List ℕ
blanks zero = []
blanks (suc n) = 32 ∷ blanks n

-- the characters before a tail of a line
abbrev pub chars_before : List ℕ → List ℕ → ℕ
chars_before line tail = chars (take (length line - length tail) line)

-- the characters that are left out before a place: none of a line of 100 at most, and of a longer one all but the last 50
abbrev pub left_out : List ℕ → ℕ → ℕ
left_out line place = if nat_le (chars line) 100 then 0 else place - 50

-- 100 characters of the line at most, and a caret under the one at this place
abbrev pub window : List ℕ → ℕ → List ℕ
window line place = codes "  " ++ first_chars 100 (behind_chars (left_out line place) line) ++ codes "\n  " ++ blanks (place - left_out line place) ++ codes "^\n"
