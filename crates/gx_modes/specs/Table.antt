-- The table of lock modes and their conflicts (PostgreSQL manual, 13.3.1).
use Rattle.std.specs.Prelude.{ℕ, ◌==◌, Bool, false, ◌||◌, List, [], ◌∷◌}
use Rattle.gx_modes.specs.declared.modes.Mode.{Mode}
use Rattle.gx_modes.specs.declared.modes.Mode.TheVariants.{AccessShare, RowShare, RowExclusive, ShareUpdateExclusive, Share, ShareRowExclusive, Exclusive, AccessExclusive}

-- the number of a mode
abbrev pub number_of : Mode → ℕ
number_of AccessShare = 1
number_of RowShare = 2
number_of RowExclusive = 3
number_of ShareUpdateExclusive = 4
number_of Share = 5
number_of ShareRowExclusive = 6
number_of Exclusive = 7
number_of AccessExclusive = 8

-- the modes that a mode conflicts with, by their numbers
abbrev pub conflicts_of : Mode → List ℕ
conflicts_of AccessShare = 8 ∷ []
conflicts_of RowShare = 7 ∷ 8 ∷ []
conflicts_of RowExclusive = 5 ∷ 6 ∷ 7 ∷ 8 ∷ []
conflicts_of ShareUpdateExclusive = 4 ∷ 5 ∷ 6 ∷ 7 ∷ 8 ∷ []
conflicts_of Share = 3 ∷ 4 ∷ 6 ∷ 7 ∷ 8 ∷ []
conflicts_of ShareRowExclusive = 3 ∷ 4 ∷ 5 ∷ 6 ∷ 7 ∷ 8 ∷ []
conflicts_of Exclusive = 2 ∷ 3 ∷ 4 ∷ 5 ∷ 6 ∷ 7 ∷ 8 ∷ []
conflicts_of AccessExclusive = 1 ∷ 2 ∷ 3 ∷ 4 ∷ 5 ∷ 6 ∷ 7 ∷ 8 ∷ []

abbrev pub is_among : ℕ → List ℕ → Bool
is_among n [] = false
is_among n (m ∷ ms) = (n == m) || is_among n ms

-- whether the second mode stands in the row of the first
abbrev pub conflict : Mode → Mode → Bool
conflict a b = is_among (number_of b) (conflicts_of a)
