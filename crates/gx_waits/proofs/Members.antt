-- Membership by recursion on the list, and the ways between it and the words of the clauses.
use Rattle.std.proofs.Common.{◌≡◌, zero, suc, List, [], ◌∷◌, ◌⊎◌, inl, inr, arith}
use Rattle.std.specs.List.{All, Any, Contains}
use Rattle.std.proofs.lemmas.List.Elements.{All-contains, All-contains_itself, All-weaker}

abbrev pub Has : {A : Type 0} → A → List A → Type 0
Has x [] = ⊥
Has x (y ∷ ys) = (y ≡ x) ⊎ Has x ys

pub has_from_contains : {A : Type 0} (x : A) (xs : List A) → Contains xs x → Has x xs
has_from_contains x [] (k, below, at) = absurd (omega arith)
has_from_contains x (y ∷ ys) (zero, below, at) = inl at
has_from_contains x (y ∷ ys) (suc k, below, at) = inr (has_from_contains x ys (k, omega arith, at))

pub contains_from_has : {A : Type 0} (x : A) (xs : List A) → Has x xs → Contains xs x
contains_from_has x [] h = absurd h
contains_from_has x (y ∷ ys) (inl e) = (0, omega arith, e)
contains_from_has x (y ∷ ys) (inr h) = let c = contains_from_has x ys h in (suc c.0, omega arith, c.2)

module _ {A : Type 0} (P : A → Type 0) (xs : List A) where
  pub has_from_any : Any P xs → (x : A) × Has x xs × P x
  has_from_any a = (a.1, has_from_contains a.1 xs (a.0, a.2, a.3), a.4)

  pub any_from_has : (x : A) → Has x xs → P x → Any P xs
  any_from_has x h p = let c = contains_from_has x xs h in (c.0, x, c.1, c.2, p)

  pub each_from_all : All P xs → (x : A) → Has x xs → P x
  each_from_all a x h = All-contains P xs x a (contains_from_has x xs h)

  pub all_from_each : ((x : A) → Has x xs → P x) → All P xs
  all_from_each f = All-weaker (λ x. Contains xs x) P (λ x c. f x (has_from_contains x xs c)) xs (All-contains_itself xs)
