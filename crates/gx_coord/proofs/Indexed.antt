-- The index of lines, one line more.
use Rattle.std.proofs.Common.{◌≡◌, ℕ, ◌+◌, ◌<◌, ◌≤◌, ◌==◌, zero, suc, Bool, cond, List, [], ◌∷◌, ◌++◌, length, take, slice_get, slice_set, get_or, refl, sym, ap, ◌∙◌, subst, arith, append-nil, ⊎_elim, All}
use Rattle.std.proofs.lemmas.Bool.{cases_eq}
use Rattle.std.specs.Prelude.{Some, replicate}
use Rattle.gx_lemmas.proofs.Numbers.{eqb-self}
use Rattle.gx_lemmas.proofs.Lists.{get-set, get-set-other, length-set}
use Rattle.gx_script.specs.declared.Line.{Line}
use Rattle.gx_coord.specs.Places.{AreIndexed, places_from}
use Rattle.gx_coord.proofs.LinePlaces.{apart_from, places_from-push}
use Rattle.gx_coord.proofs.Items.{some_same}

-- one item more of a list's front
pub take-item : {X : Type 0} (xs : List X) (i : ℕ) (d : X) → i < length xs → d ≡ get_or xs i d → take i xs ++ d ∷ [] ≡ take (i + 1) xs
take-item xs i d l e = let n : suc i ≡ i + 1 = omega arith in more xs i d l e ∙ ap (λ k. take k xs) n
  where
    more : {X : Type 0} (xs : List X) (i : ℕ) (d : X) → i < length xs → d ≡ get_or xs i d → take i xs ++ d ∷ [] ≡ take (suc i) xs
    more [] i d l e = absurd (omega arith)
    more (x ∷ xs) zero d l e = ap (λ y. y ∷ []) e
    more (x ∷ xs) (suc i) d l e = ap (λ ys. x ∷ ys) (more xs i d (omega arith) e)

pub take-length : {X : Type 0} (xs : List X) (i : ℕ) → i ≤ length xs → length (take i xs) ≡ i
take-length [] zero l = refl
take-length [] (suc i) l = absurd (omega arith)
take-length (x ∷ xs) zero l = refl
take-length (x ∷ xs) (suc i) l = ap suc (take-length xs i (omega arith))

pub take-whole : {X : Type 0} (xs : List X) (i : ℕ) → length xs ≤ i → take i xs ≡ xs
take-whole [] zero l = refl
take-whole [] (suc i) l = refl
take-whole (x ∷ xs) zero l = absurd (omega arith)
take-whole (x ∷ xs) (suc i) l = ap (λ ys. x ∷ ys) (take-whole xs i (omega arith))

get_or-found : {X : Type 0} (xs : List X) (i : ℕ) (x d : X) → slice_get xs i ≡ Some x → get_or xs i d ≡ x
get_or-found [] i x d e = absurd (cc)
get_or-found (y ∷ ys) zero x d e = some_same e
get_or-found (y ∷ ys) (suc i) x d e = get_or-found ys i x d e

-- THE INDEX

pub indexed_none : (n : ℕ) → AreIndexed [] n (replicate n [])
indexed_none n = record { all = many n; each = λ k ps e. empty n k ps e }
  where
    many : (n : ℕ) → length {A = List ℕ} (replicate n []) ≡ n
    many zero = refl
    many (suc n) = ap suc (many n)

    empty : (n k : ℕ) (ps : List ℕ) → slice_get (replicate n []) k ≡ Some ps → ps ≡ []
    empty zero k ps e = absurd (cc)
    empty (suc n) zero ps e = sym (some_same e)
    empty (suc n) (suc k) ps e = empty n k ps e

pub indexed_more : (ls : List Line) (n : ℕ) (places places' : List (List ℕ)) (l : Line) (p : ℕ) → AreIndexed ls n places → p ≡ length ls → l.session.0 < n → places' ≡ slice_set places l.session.0 (get_or places l.session.0 [] ++ p ∷ []) → AreIndexed (ls ++ l ∷ []) n places'
indexed_more ls n places places' l p is at inside set = subst (AreIndexed (ls ++ l ∷ []) n) (sym set) (record {
  all = length-set places l.session.0 (get_or places l.session.0 [] ++ p ∷ []) ∙ is.all;
  each = λ k ps e. ⊎_elim
      (λ (here : k ≡ l.session.0).
      let found : slice_get (slice_set places l.session.0 (get_or places l.session.0 [] ++ p ∷ [])) l.session.0 ≡ Some ps = ap (slice_get (slice_set places l.session.0 (get_or places l.session.0 [] ++ p ∷ []))) (sym here) ∙ e in
      let old = old_at places l.session.0 (omega (arith, inside, is.all)) in
      let now : ps ≡ get_or places l.session.0 [] ++ p ∷ [] = some_same (sym found ∙ get-set places l.session.0 old.0 (get_or places l.session.0 [] ++ p ∷ []) old.1) in
      let was : get_or places l.session.0 [] ≡ places_from k 0 ls = get_or-found places l.session.0 old.0 [] old.1 ∙ is.each k old.0 (ap (slice_get places) here ∙ old.1) in
      now ∙ ap (λ x. x ++ p ∷ []) was ∙ ap (λ m. places_from k 0 ls ++ m ∷ []) (at ∙ plus (length ls)) ∙ sym (places_from-push k 0 ls l ∙ ap (λ (b : Bool). places_from k 0 ls ++ cond b ((0 + length ls) ∷ []) []) (ap (λ m. l.session.0 == m) here ∙ eqb-self l.session.0)))
      (λ (away : k ≡ l.session.0 → ⊥).
      is.each k ps (sym (get-set-other places l.session.0 k (get_or places l.session.0 [] ++ p ∷ []) away) ∙ e)
      ∙ sym (places_from-push k 0 ls l ∙ ap (λ (b : Bool). places_from k 0 ls ++ cond b ((0 + length ls) ∷ []) []) (apart_from l.session.0 k (λ f. away (sym f))) ∙ append-nil (places_from k 0 ls)))
      (cases_eq k l.session.0);
})
  where
    plus : (m : ℕ) → m ≡ 0 + m
    plus m = omega arith

    old_at : (xs : List (List ℕ)) (i : ℕ) → i < length xs → (x : List ℕ) × (slice_get xs i ≡ Some x)
    old_at [] i l = absurd (omega arith)
    old_at (x ∷ xs) zero l = (x, refl)
    old_at (x ∷ xs) (suc i) l = old_at xs i (omega arith)

pub all-item : {X : Type 0} (P : X → Type 0) (xs : List X) (i : ℕ) (d : X) → All P xs → i < length xs → d ≡ get_or xs i d → P d
all-item P xs i d all l e = subst P (sym e) (all i d l)
