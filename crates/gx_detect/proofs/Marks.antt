-- Edges with marks.
use Rattle.std.proofs.Common.{◌≡◌, ◌<◌, ◌+◌, ℕ, zero, suc, List, [], ◌∷◌, Bool, true, false, cond, ◌⊎◌, inl, inr, ⊎_elim, length, slice_get, get_or, set, replicate, Some, sym, refl, ap, ◌∙◌, arith}
use Rattle.std.specs.List.{count_by, Contains}
use Rattle.std.proofs.lemmas.List.Sums.{sum_by-cons}
use Rattle.gx_waits.specs.declared.placed_edge.PlacedEdge.{PlacedEdge}
use Rattle.gx_waits.proofs.Members.{Has, has_from_contains, contains_from_has}
use Rattle.gx_detect.specs.Place.{bit}
use Rattle.gx_detect.specs.Reducing.{left_of}

-- what a read past the end gives
abbrev pub no_edge : PlacedEdge
no_edge = record { node = record { 0 = 0 }; edge = record { waiter = record { 0 = 0 }; holder = record { 0 = 0 }; dotted = false } }

pub get_at : {A : Type 0} (xs : List A) (k : ℕ) (d : A) → k < length xs → slice_get xs k ≡ Some (get_or xs k d)
get_at [] k d below = absurd (omega arith)
get_at (x ∷ xs) zero d below = refl
get_at (x ∷ xs) (suc k) d below = get_at xs k d (omega arith)

pub get_below : {A : Type 0} (xs : List A) (k : ℕ) (x : A) → slice_get xs k ≡ Some x → k < length xs
get_below [] k x e = absurd (cc)
get_below (y ∷ ys) zero x e = omega arith
get_below (y ∷ ys) (suc k) x e = let r = get_below ys k x e in omega arith

pub contains_at : {A : Type 0} (xs : List A) (k : ℕ) (d : A) → k < length xs → Contains xs (get_or xs k d)
contains_at xs k d below = contains_from_has (get_or xs k d) xs (has_at xs k d below)
  where
    has_at : {A : Type 0} (xs : List A) (k : ℕ) (d : A) → k < length xs → Has (get_or xs k d) xs
    has_at [] k d below = absurd (omega arith)
    has_at (x ∷ xs) zero d below = inl refl
    has_at (x ∷ xs) (suc k) d below = inr (has_at xs k d (omega arith))

pub left_place : (edges : List PlacedEdge) (marks : List Bool) (e : PlacedEdge) → Has e (left_of edges marks) → (k : ℕ) × (slice_get edges k ≡ Some e) × (slice_get marks k ≡ Some true)
left_place [] marks e h = absurd h
left_place (x ∷ xs) [] e h = absurd h
left_place (x ∷ xs) (true ∷ marks) e (inl s) = (0, ap Some s, refl)
left_place (x ∷ xs) (true ∷ marks) e (inr h) = let r = left_place xs marks e h in (suc r.0, r.1, r.2)
left_place (x ∷ xs) (false ∷ marks) e h = let r = left_place xs marks e h in (suc r.0, r.1, r.2)

pub place_left : (edges : List PlacedEdge) (marks : List Bool) (k : ℕ) (e : PlacedEdge) → slice_get edges k ≡ Some e → slice_get marks k ≡ Some true → Has e (left_of edges marks)
place_left [] marks k e a b = absurd (cc)
place_left (x ∷ xs) [] k e a b = absurd (cc)
place_left (x ∷ xs) (true ∷ marks) zero e a b = let same : x ≡ e = cc in inl same
place_left (x ∷ xs) (false ∷ marks) zero e a b = absurd (cc)
place_left (x ∷ xs) (true ∷ marks) (suc k) e a b = inr (place_left xs marks k e a b)
place_left (x ∷ xs) (false ∷ marks) (suc k) e a b = place_left xs marks k e a b

place_has : (edges : List PlacedEdge) (k : ℕ) (e : PlacedEdge) → slice_get edges k ≡ Some e → Has e edges
place_has [] k e a = absurd (cc)
place_has (x ∷ xs) zero e a = let same : x ≡ e = cc in inl same
place_has (x ∷ xs) (suc k) e a = inr (place_has xs k e a)

pub left_of_among : (edges : List PlacedEdge) (marks : List Bool) (e : PlacedEdge) → Contains (left_of edges marks) e → Contains edges e
left_of_among edges marks e c =
    let at = left_place edges marks e (has_from_contains e (left_of edges marks) c) in
    contains_from_has e edges (place_has edges at.0 e at.1)

pub set_falls : (marks : List Bool) (k j : ℕ) → slice_get (set marks k false) j ≡ Some true → slice_get marks j ≡ Some true
set_falls [] k j e = e
set_falls (m ∷ ms) zero zero e = absurd (cc)
set_falls (m ∷ ms) zero (suc j) e = e
set_falls (m ∷ ms) (suc k) zero e = e
set_falls (m ∷ ms) (suc k) (suc j) e = set_falls ms k j e

pub set_out : (marks : List Bool) (k : ℕ) → slice_get (set marks k false) k ≡ Some true → ⊥
set_out [] k e = cc
set_out (m ∷ ms) zero e = cc
set_out (m ∷ ms) (suc k) e = set_out ms k e

pub left_kept : (edges : List PlacedEdge) (marks : List Bool) (k : ℕ) (e x : PlacedEdge) → slice_get edges k ≡ Some e → Has x (left_of edges marks) → Has x (left_of edges (set marks k false)) ⊎ (e ≡ x)
left_kept [] marks k e x a h = absurd h
left_kept (y ∷ ys) [] k e x a h = absurd h
left_kept (y ∷ ys) (true ∷ ms) zero e x a (inl s) = let same : y ≡ e = cc in inr (sym same ∙ s)
left_kept (y ∷ ys) (true ∷ ms) zero e x a (inr h) = inl h
left_kept (y ∷ ys) (false ∷ ms) zero e x a h = inl h
left_kept (y ∷ ys) (true ∷ ms) (suc k) e x a (inl s) = inl (inl s)
left_kept (y ∷ ys) (true ∷ ms) (suc k) e x a (inr h) = ⊎_elim (λ o. inl (inr o)) (λ s. inr s) (left_kept ys ms k e x a h)
left_kept (y ∷ ys) (false ∷ ms) (suc k) e x a h = left_kept ys ms k e x a h

pub all_left : (edges : List PlacedEdge) → left_of edges (replicate (length edges) true) ≡ edges
all_left [] = refl
all_left (x ∷ xs) = ap (λ l. x ∷ l) (all_left xs)

pub length-replicate_true : (n : ℕ) → length (replicate n true) ≡ n
length-replicate_true zero = refl
length-replicate_true (suc n) = ap suc (length-replicate_true n)

pub left_length-set : (edges : List PlacedEdge) (marks : List Bool) (k : ℕ) (e : PlacedEdge) → slice_get edges k ≡ Some e → slice_get marks k ≡ Some true → length (left_of edges (set marks k false)) + 1 ≡ length (left_of edges marks)
left_length-set [] marks k e a b = absurd (cc)
left_length-set (x ∷ xs) [] k e a b = absurd (cc)
left_length-set (x ∷ xs) (true ∷ ms) zero e a b = omega arith
left_length-set (x ∷ xs) (false ∷ ms) zero e a b = absurd (cc)
left_length-set (x ∷ xs) (true ∷ ms) (suc k) e a b = let r = left_length-set xs ms k e a b in omega arith
left_length-set (x ∷ xs) (false ∷ ms) (suc k) e a b = left_length-set xs ms k e a b

-- counts
module _ (p : PlacedEdge → Bool) where
  pub count_by-cons : (x : PlacedEdge) (xs : List PlacedEdge) → count_by p (x ∷ xs) ≡ bit (p x) + count_by p xs
  count_by-cons x xs = sum_by-cons (λ y. cond (p y) 1 0) x xs ∙ ap (λ n. n + count_by p xs) (as_bit (p x))
    where
      as_bit : (b : Bool) → cond b 1 0 ≡ bit b
      as_bit true = refl
      as_bit false = refl

  pub count_by-set : (edges : List PlacedEdge) (marks : List Bool) (k : ℕ) (e : PlacedEdge) → slice_get edges k ≡ Some e → slice_get marks k ≡ Some true → count_by p (left_of edges (set marks k false)) + bit (p e) ≡ count_by p (left_of edges marks)
  count_by-set [] marks k e a b = absurd (cc)
  count_by-set (x ∷ xs) [] k e a b = absurd (cc)
  count_by-set (x ∷ xs) (true ∷ ms) zero e a b =
      let same : x ≡ e = cc in let c = count_by-cons x (left_of xs ms) in let t : bit (p x) ≡ bit (p e) = ap (λ y. bit (p y)) same in omega arith
  count_by-set (x ∷ xs) (false ∷ ms) zero e a b = absurd (cc)
  count_by-set (x ∷ xs) (true ∷ ms) (suc k) e a b =
      let c = count_by-cons x (left_of xs (set ms k false)) in let d = count_by-cons x (left_of xs ms) in let r = count_by-set xs ms k e a b in omega arith
  count_by-set (x ∷ xs) (false ∷ ms) (suc k) e a b = count_by-set xs ms k e a b

  pub none_counted : (xs : List PlacedEdge) (x : PlacedEdge) → count_by p xs ≡ 0 → Has x xs → p x ≡ true → ⊥
  none_counted [] x z h t = h
  none_counted (y ∷ ys) x z (inl s) t =
      let c = count_by-cons y ys in let one : bit (p y) ≡ 1 = ap (λ w. bit (p w)) s ∙ ap bit t in omega arith
  none_counted (y ∷ ys) x z (inr h) t = let c = count_by-cons y ys in none_counted ys x (omega arith) h t

  pub some_counted : (xs : List PlacedEdge) → 0 < count_by p xs → (x : PlacedEdge) × Has x xs × (p x ≡ true)
  some_counted [] z = absurd (omega arith)
  some_counted (y ∷ ys) z = go (p y) refl (some_counted ys)
    where
      go : (b : Bool) → p y ≡ b → (0 < count_by p ys → (x : PlacedEdge) × Has x ys × (p x ≡ true)) → (x : PlacedEdge) × Has x (y ∷ ys) × (p x ≡ true)
      go true t f = (y, inl refl, t)
      go false t f =
          let c = count_by-cons y ys in let none : bit (p y) ≡ 0 = ap bit t in
          let r = f (omega arith) in (r.0, inr r.1, r.2)
