-- The places of messages among marks, mark by mark.
use Rattle.std.proofs.Common.{◌≡◌, ℕ, suc, ◌+◌, ◌<◌, ◌≤◌, Bool, true, false, List, [], ◌∷◌, ◌++◌, sym, ap, ◌∙◌, if◌then◌else◌, arith, get_or, append-nil}
use Rattle.std.proofs.lemmas.Bool.Decides.{nat_tests}
use Rattle.std.proofs.Math.Seq.{take-suc}
use Rattle.std.proofs.lemmas.List.{append_assoc, length-take-le}
use Rattle.std.specs.Prelude.{length, take}
use Rattle.gx_lemmas.proofs.Numbers.{none-plus}
use Rattle.gx_ids.specs.declared.ids.Node.{Node}
use Rattle.gx_store.specs.declared.mark.Mark.{Mark}
use Rattle.gx_store.specs.declared.mark.Mark.TheVariants.{Sent}
use Rattle.gx_world.specs.Links.{places_from}

pub places_from-append : (step base : ℕ) (t : Node) (xs ys : List Mark) → places_from step base t (xs ++ ys) ≡ places_from step base t xs ++ places_from step (base + length xs) t ys
places_from-append step base t [] ys = grind arith
places_from-append step base t (Sent to number message ∷ xs) ys = grind (arith, nat_tests, places_from-append step (base + 1) t xs ys)
places_from-append step base t (m ∷ xs) ys = grind (arith, nat_tests, places_from-append step (base + 1) t xs ys)

pub places-next : (step : ℕ) (t : Node) (ms : List Mark) (k : ℕ) (m : Mark) → k < length ms → m ≡ get_or ms k m → places_from step 0 t (take (k + 1) ms) ≡ places_from step 0 t (take k ms) ++ places_from step k t (m ∷ [])
places-next step t ms k m inside is =
    ap (λ n. places_from step 0 t (take n ms)) (add-one k)
    ∙ ap (places_from step 0 t) (take-suc ms k m inside)
    ∙ places_from-append step 0 t (take k ms) (get_or ms k m ∷ [])
    ∙ ap (λ x. places_from step 0 t (take k ms) ++ places_from step (0 + length (take k ms)) t (x ∷ [])) (sym is)
    ∙ ap (λ n. places_from step 0 t (take k ms) ++ places_from step n t (m ∷ [])) (none-plus _ ∙ length-take-le k ms (lt-le inside))
  where
    add-one : (n : ℕ) → n + 1 ≡ suc n
    add-one n = grind arith

    lt-le : {a b : ℕ} → a < b → a ≤ b
    lt-le x = omega arith

pub link-next : {A : Type 0} (b : Bool) (old mid new xs ys zs : List A) → mid ≡ old ++ (if b then xs else []) → new ≡ mid ++ (if b then ys else []) → zs ≡ xs ++ ys → new ≡ old ++ (if b then zs else [])
link-next true old mid new xs ys zs m n z = n ∙ ap (λ l. l ++ ys) m ∙ append_assoc old xs ys ∙ ap (λ l. old ++ l) (sym z)
link-next false old mid new xs ys zs m n z = n ∙ append-nil mid ∙ m
