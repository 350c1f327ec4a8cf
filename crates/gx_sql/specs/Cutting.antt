-- A line as it is cut from the front of the bytes.
use Rattle.std.specs.Prelude.{ℕ, ◌==◌, Bool, not, if◌then◌else◌, List, [], ◌∷◌}

-- the bytes before a line feed
abbrev pub is_within : ℕ → Bool
is_within b = not (b == 10)

-- without a carriage return at the end
abbrev pub without_return : List ℕ → List ℕ
without_return [] = []
without_return (b ∷ []) = if b == 13 then [] else b ∷ []
without_return (b ∷ c ∷ bs) = b ∷ without_return (c ∷ bs)
