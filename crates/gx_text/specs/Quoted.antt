-- A text in single quotes.
use Rattle.std.specs.Prelude.{ℕ, ◌==◌, if◌then◌else◌, List, [], ◌∷◌, ◌++◌, codes}
use Rattle.std.specs.List.{flat_map}

-- a quote is doubled
abbrev pub quoted_byte : ℕ → List ℕ
quoted_byte b = if b == 39 then codes "''" else b ∷ []

-- a text in single quotes
abbrev pub quoted : List ℕ → List ℕ
quoted t = codes "'" ++ flat_map quoted_byte t ++ codes "'"
