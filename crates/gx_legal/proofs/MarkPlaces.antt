-- Marks of steps as one list, and places in lists one by one.
use Rattle.std.proofs.Common.{◌≡◌, ◌≤◌, ◌<◌, ◌+◌, ◌-◌, ℕ, Bool, true, false, List, [], ◌∷◌, ◌++◌, Some, length}
use Rattle.std.proofs.Common.{take, drop, slice_get, get_or, refl, sym, subst, ap, ◌∙◌, zero, suc, eqb, arith, append_assoc, length-append}
use Rattle.std.proofs.lemmas.Bool.{eqb-true}
use Rattle.std.proofs.lemmas.List.Concat.{flat_map-append}
use Rattle.std.proofs.lemmas.List.{take_more}
use Rattle.std.proofs.lemmas.Option.{get_or_from_slice_get}
use Rattle.std.proofs.Math.Seq.{take-append-add, take-append_seam}
use Rattle.gx_lemmas.proofs.Lists.{place-below}
use Rattle.gx_lemmas.proofs.Numbers.{lt-next}
use Rattle.gx_store.proofs.Runs.{marks_in-push}
use Rattle.gx_store.specs.declared.mark.Mark.{Mark}
use Rattle.gx_store.specs.declared.run.Step.{Step}
use Rattle.gx_store.specs.Points.{marks_in}

pub none-below : (P : ℕ → Type 0) (k : ℕ) → ((i : ℕ) → i < k → P i → ⊥) → (P k → ⊥) → (i : ℕ) → i < k + 1 → P i → ⊥
none-below P k below here i inside p = by_test (eqb i k) refl
  where
    by_test : (b : Bool) → eqb i k ≡ b → ⊥
    by_test true e = here (subst P (eqb-true i k e) p)
    by_test false e = below i (lt-next i k inside e) p

pub split-at : {A : Type 0} (xs : List A) (k : ℕ) (x : A) → slice_get xs k ≡ Some x → xs ≡ take k xs ++ x ∷ drop (k + 1) xs
split-at [] k x e = absurd (cc)
split-at (y ∷ ys) zero x e = let f : y ≡ x = cc in ap (λ z. z ∷ ys) f
split-at (y ∷ ys) (suc k) x e = ap (λ zs. y ∷ zs) (split-at ys k x e) ∙ ap (λ n. y ∷ (take k ys ++ x ∷ drop n (y ∷ ys))) (next k)
  where
    next : (n : ℕ) → suc (n + 1) ≡ suc n + 1
    next n = omega arith

pub length-taken : {A : Type 0} (xs : List A) (n : ℕ) → n ≤ length xs → n ≡ length (take n xs)
length-taken xs zero l = refl
length-taken [] (suc n) l = absurd (omega arith)
length-taken (x ∷ xs) (suc n) l = ap suc (length-taken xs n (omega arith))

pub take-next : {A : Type 0} (xs : List A) (k : ℕ) (x : A) → k < length xs → x ≡ get_or xs k x → take k xs ++ x ∷ [] ≡ take (k + 1) xs
take-next xs k x inside is = ap (λ y. take k xs ++ y ∷ []) is ∙ sym (take_more xs k x inside)

pub take-through : {A : Type 0} (before xs ys zs ws : List A) (n : ℕ) → before ≡ (xs ++ (ys ++ zs)) ++ ws → n ≡ length xs + length ys → take n before ≡ xs ++ ys
take-through before xs ys zs ws n e k =
    ap (λ i. take i before) (k ∙ sym (length-append xs ys))
    ∙ ap (λ l. take (length (xs ++ ys)) l) (e ∙ ap (λ l. l ++ ws) (sym (append_assoc xs ys zs)) ∙ append_assoc (xs ++ ys) zs ws)
    ∙ take-append_seam (xs ++ ys) (zs ++ ws)

pub through-inside : {A : Type 0} (before xs ys zs ws : List A) (n : ℕ) → before ≡ (xs ++ (ys ++ zs)) ++ ws → n ≡ length xs + length ys → n ≤ length before
through-inside before xs ys zs ws n e k = inside (length xs) (length ys) (length zs) (length ws) n (length before) k
    (ap length e ∙ length-append (xs ++ (ys ++ zs)) ws ∙ ap (λ i. i + length ws) (length-append xs (ys ++ zs) ∙ ap (λ i. length xs + i) (length-append ys zs)))
  where
    inside : (a b d e n m : ℕ) → n ≡ a + b → m ≡ (a + (b + d)) + e → n ≤ m
    inside a b d e n m f g = omega arith

-- the marks through a step, among those before a point
pub marks-split : (steps : List Step) (k : ℕ) (step : Step) → slice_get steps k ≡ Some step → marks_in steps ≡ marks_in (take k steps) ++ (step.marks ++ marks_in (drop (k + 1) steps))
marks-split steps k step e = ap marks_in (split-at steps k step e) ∙ flat_map-append (λ (s : Step). s.marks) (take k steps) (step ∷ drop (k + 1) steps)

pub step-whole : (steps : List Step) (k : ℕ) (step : Step) (earlier before : List Mark) (n : ℕ) → slice_get steps k ≡ Some step → before ≡ marks_in steps ++ earlier
    → n ≡ length (marks_in (take k steps)) + length step.marks
    → take n before ≡ marks_in (take k steps) ++ step.marks
step-whole steps k step earlier before n at e is = take-through before (marks_in (take k steps)) step.marks (marks_in (drop (k + 1) steps)) earlier n (e
    ∙ ap (λ l. l ++ earlier) (marks-split steps k step at)) is

pub step-inside : (steps : List Step) (k : ℕ) (step : Step) (earlier before : List Mark) (n : ℕ) → slice_get steps k ≡ Some step → before ≡ marks_in steps ++ earlier
    → n ≡ length (marks_in (take k steps)) + length step.marks → n ≤ length before
step-inside steps k step earlier before n at e is = through-inside before (marks_in (take k steps)) step.marks (marks_in (drop (k + 1) steps)) earlier n (e
    ∙ ap (λ l. l ++ earlier) (marks-split steps k step at)) is

-- and those through some of its own step's
pub part-whole : (all earlier before : List Mark) (count : ℕ) → before ≡ all ++ earlier → take (length before - length earlier + count) before ≡ all ++ take count earlier
part-whole all earlier before count e =
    ap (λ n. take (n + count) before) (left (length all) (length earlier) (length before) (ap length e ∙ length-append all earlier)) ∙ ap (take (length all + count)) e
    ∙ take-append-add all earlier count
  where
    left : (a b d : ℕ) → d ≡ a + b → d - b ≡ a
    left a b d f = omega arith

pub marks-through : (steps : List Step) (k : ℕ) (step : Step) → slice_get steps k ≡ Some step → length (marks_in (take k steps)) + length step.marks ≡ length (marks_in (take (k + 1) steps))
marks-through steps k step at =
    sym (ap (λ ss. length (marks_in ss)) (sym (take-next steps k step (place-below steps k step at) (sym (get_or_from_slice_get steps k step step at))))
    ∙ ap length (marks_in-push (take k steps) step) ∙ length-append (marks_in (take k steps)) step.marks)
