-- Journals that are lent to threads.
use Rattle.std.specs.Prelude.{◌≡◌, ◌∷◌, ◌++◌, ℕ, List, length}

-- all are the first, so many behind it, and the others
pub record IsCut {A : Type 0} (all : List A) (first : A) (own others : List A) (count : ℕ) : Type 0 where
  pub whole : all ≡ first ∷ own ++ others
  pub many : length own ≡ count
