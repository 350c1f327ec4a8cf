-- Loops over marks from the last place to the first.
use Rattle.std.proofs.Common.{◌≡◌, ◌≤◌, ◌<◌, ◌+◌, ◌-◌, ◌∙◌, ◌&&◌, ◌||◌, ℕ, Bool, true, false, List, [], ◌∷◌, ◌++◌, length, take, get_or, ap, refl, sym, arith}
use Rattle.std.proofs.lemmas.List.{take_more}
use Rattle.std.specs.List.{list_any}
use Rattle.gx_store.specs.declared.mark.Mark.{Mark}
use Rattle.gx_legal.specs.Places.{places_from}
use Rattle.gx_legal.proofs.Lasts.{any-places}
use Rattle.gx_legal.proofs.MarkPlaces.{length-taken}

-- the marks before a place are those before the place below and the mark there
pub one-less : (marks : List Mark) (place : ℕ) (m : Mark) → 0 < place → place ≤ length marks → m ≡ get_or marks (place - 1) m → take (place - 1) marks ++ m ∷ [] ≡ take place marks
one-less marks place m some inside is =
    ap (λ x. take (place - 1) marks ++ x ∷ []) is ∙ sym (take_more marks (place - 1) m (omega (arith, some, inside))) ∙ ap (λ n. take n marks) (let next : place - 1 + 1 ≡ place = omega (arith, some) in next)

pub counted : (marks : List Mark) (place : ℕ) → place ≤ length marks → 0 + length (take (place - 1) marks) ≡ place - 1
counted marks place inside = let below : place - 1 ≡ length (take (place - 1) marks) = length-taken marks (place - 1) (omega (arith, inside)) in omega (arith, below)

-- the invariant of such a loop, with the mark below the place apart
pub apart : {R : Type 0} (f : List Mark → R) (marks : List Mark) (place : ℕ) (m : Mark) (whole : R) → 0 < place → place ≤ length marks → m ≡ get_or marks (place - 1) m → f (take place marks) ≡ f marks
    → f (take (place - 1) marks ++ m ∷ []) ≡ whole → whole ≡ f marks
apart f marks place m whole some inside is invariant last = sym last ∙ ap f (one-less marks place m some inside is) ∙ invariant

module _ (asks : List Mark → Bool) (marks : List Mark) (place : ℕ) (m : Mark) (here : Bool) where
  pub met : 0 < place → place ≤ length marks → m ≡ get_or marks (place - 1) m → asks (take place marks) ≡ asks marks
      → asks (take (place - 1) marks ++ m ∷ []) ≡ (here || asks (take (place - 1) marks)) → here ≡ true → true ≡ asks marks
  met some inside is whole last e = apart asks marks place m true some inside is whole (last ∙ ap (λ b. b || asks (take (place - 1) marks)) e)

  pub passed : 0 < place → place ≤ length marks → m ≡ get_or marks (place - 1) m → asks (take place marks) ≡ asks marks
      → asks (take (place - 1) marks ++ m ∷ []) ≡ (here || asks (take (place - 1) marks)) → here ≡ false → asks (take (place - 1) marks) ≡ asks marks
  passed some inside is whole last e = apart asks marks place m (asks (take (place - 1) marks)) some inside is whole (last ∙ ap (λ b. b || asks (take (place - 1) marks)) e)

-- the places that a first test lets through to a second
pub both : (a b : Bool) → a ≡ true → b ≡ true → (a && b) ≡ true
both true b e f = f
both false b e f = e

without-second : (a b : Bool) → b ≡ false → (a && b) ≡ false
without-second true b e = e
without-second false b e = refl

module _ (test : Mark → Bool) (q : ℕ → Bool) (marks : List Mark) (place : ℕ) (m : Mark) where
  abbrev found : List Mark → Bool
  found xs = list_any q (places_from test 0 xs)

  last : place ≤ length marks → found (take (place - 1) marks ++ m ∷ []) ≡ ((test m && q (place - 1)) || found (take (place - 1) marks))
  last inside = any-places q test 0 (take (place - 1) marks) m ∙ ap (λ n. (test m && q n) || found (take (place - 1) marks)) (counted marks place inside)

  pub found-there : 0 < place → place ≤ length marks → m ≡ get_or marks (place - 1) m → found (take place marks) ≡ found marks → test m ≡ true → q (place - 1) ≡ true → true ≡ found marks
  found-there some inside is whole first second = met found marks place m (test m && q (place - 1)) some inside is whole (last inside) (both (test m) (q (place - 1)) first second)

  pub failed-first : 0 < place → place ≤ length marks → m ≡ get_or marks (place - 1) m → found (take place marks) ≡ found marks → test m ≡ false → found (take (place - 1) marks) ≡ found marks
  failed-first some inside is whole e = passed found marks place m (test m && q (place - 1)) some inside is whole (last inside) (ap (λ b. b && q (place - 1)) e)

  pub failed-second : 0 < place → place ≤ length marks → m ≡ get_or marks (place - 1) m → found (take place marks) ≡ found marks → q (place - 1) ≡ false → found (take (place - 1) marks) ≡ found marks
  failed-second some inside is whole e = passed found marks place m (test m && q (place - 1)) some inside is whole (last inside) (without-second (test m) (q (place - 1)) e)
