-- Messages are numbered one by one.
use Rattle.std.proofs.Common.{◌≡◌, ◌<◌, All, ℕ, zero, suc, ◌+◌, ◌^◌, List, [], ◌∷◌, ◌++◌, Bool, true, false, refl, sym, subst, ap, ◌∙◌, if◌then◌else◌, length, get_or, reverse, slice_set, slice_index, arith, eqb}
use Rattle.std.proofs.Math.Path.{fun_ext}
use Rattle.std.proofs.lemmas.Bool.Decides.{nat_tests}
use Rattle.std.proofs.lemmas.List.{append_assoc, length-append, reverse-append}
use Rattle.std.specs.Global.{Vec}
use Rattle.gx_msg.specs.declared.message.Out.{Out}
use Rattle.gx_store.specs.declared.mark.Mark.{Mark}
use Rattle.gx_store.specs.declared.mark.Mark.TheVariants as mark
use Rattle.gx_rules.specs.Maps.{with_at}
use Rattle.gx_rules.specs.Sending.{counted, counted_all, numbered}
use Rattle.gx_coord.proofs.Few.{few-items}

index-set : (xs : List ℕ) (k n j : ℕ) (b : Bool) → eqb j k ≡ b → k < length xs → slice_index (slice_set xs k n) j ≡ (if b then n else slice_index xs j)
index-set [] k n j b e l = absurd (omega (arith, l))
index-set (x ∷ xs) zero n zero true e l = refl
index-set (x ∷ xs) zero n zero false e l = absurd (clash e)
  where
    clash : eqb 0 0 ≡ false → ⊥
    clash e = grind (arith, nat_tests)
index-set (x ∷ xs) zero n (suc j) true e l = absurd (clash j e)
  where
    clash : (j : ℕ) → eqb (suc j) 0 ≡ true → ⊥
    clash j e = grind (arith, nat_tests)
index-set (x ∷ xs) zero n (suc j) false e l = refl
index-set (x ∷ xs) (suc k) n zero true e l = absurd (clash k e)
  where
    clash : (k : ℕ) → eqb 0 (suc k) ≡ true → ⊥
    clash k e = grind (arith, nat_tests)
index-set (x ∷ xs) (suc k) n zero false e l = refl
index-set (x ∷ xs) (suc k) n (suc j) b e l = index-set xs k n j b (same j k ∙ e) (omega (arith, l))
  where
    same : (j k : ℕ) → eqb j k ≡ eqb (suc j) (suc k)
    same j k = grind (arith, nat_tests)

pub slice_index-set : (xs : List ℕ) (k n : ℕ) → k < length xs → slice_index (slice_set xs k n) ≡ with_at (slice_index xs) k n
slice_index-set xs k n l = fun_ext (λ j. index-set xs k n j (eqb j k) refl l)

pub index-item : (xs : List ℕ) (k d : ℕ) → k < length xs → slice_index xs k ≡ get_or xs k d
index-item [] k d l = absurd (omega (arith, l))
index-item (x ∷ xs) zero d l = refl
index-item (x ∷ xs) (suc k) d l = index-item xs k d (omega (arith, l))

-- one message gets its link's next number
module _ (sent : List ℕ) (k number : ℕ) (out : Out) (at : k ≡ out.node.0) (inside : k < length sent) (is : number ≡ get_or sent k 0 + 1) where
  next-number : number ≡ slice_index sent k + 1
  next-number = is ∙ ap (λ n. n + 1) (sym (index-item sent k 0 inside))

  pub number-is : number ≡ slice_index sent out.node.0 + 1
  number-is = next-number ∙ ap (λ n. slice_index sent n + 1) at

  pub counted-is : slice_index (slice_set sent k number) ≡ counted (slice_index sent) out
  counted-is = slice_index-set sent k number inside ∙ ap (λ n. with_at (slice_index sent) k n) next-number ∙ ap (λ j. with_at (slice_index sent) j (slice_index sent j + 1)) at

-- the last of a list is the first from behind
pub reverse-last : (xs ys : List Out) (x : Out) → xs ≡ ys ++ x ∷ [] → reverse xs ≡ x ∷ reverse ys
reverse-last xs ys x e = ap reverse e ∙ reverse-append ys (x ∷ [])

-- the first of those that are left is sent
module _ (old new : ℕ → ℕ) (out : Out) (left rest : List Out) (before after : List Mark) (m : Mark) (first : left ≡ out ∷ rest) (counts : new ≡ counted old out) where
  pub numbered-next : m ≡ mark.Sent out.node (old out.node.0 + 1) out.message → after ≡ before ++ m ∷ [] → after ++ numbered new rest ≡ before ++ numbered old left
  numbered-next is pushed =
      ap (λ xs. xs ++ numbered new rest) (pushed ∙ ap (λ x. before ++ x ∷ []) is)
      ∙ ap (λ f. (before ++ mark.Sent out.node (old out.node.0 + 1) out.message ∷ []) ++ numbered f rest) counts
      ∙ append_assoc before (mark.Sent out.node (old out.node.0 + 1) out.message ∷ []) (numbered (counted old out) rest)
      ∙ ap (λ os. before ++ numbered old os) (sym first)

  pub counted-next : counted_all new rest ≡ counted_all old left
  counted-next = ap (λ f. counted_all f rest) counts ∙ ap (counted_all old) (sym first)

-- one more mark
pub few-pushed : (sent : List ℕ) (before after : List Mark) (m : Mark) → after ≡ before ++ m ∷ [] → All (λ n. n < 2 ^ 62 + length before + 1) sent → All (λ n. n < 2 ^ 62 + length after) sent
few-pushed sent before after m e h = subst (λ k. All (λ n. n < k) sent) (same (length before) (length after) (ap length e ∙ length-append before (m ∷ []))) h
  where
    same : (a b : ℕ) → b ≡ a + 1 → 2 ^ 62 + a + 1 ≡ 2 ^ 62 + b
    same a b e = omega (arith, e)

-- a count that has room
pub few-room : (n : ℕ) {X : Type 0} (v : Vec X) → n < 2 ^ 62 + length v.items → n + 1 < 2 ^ 64
few-room n v l = omega (arith, l, few-items v)

pub few-anyway : (sent : List ℕ) (marks : List Mark) → All (λ n. n < 2 ^ 62) sent → All (λ n. n < 2 ^ 62 + length marks) sent
few-anyway sent marks h i d b = less (get_or sent i d) (length marks) (h i d b)
  where
    less : (n m : ℕ) → n < 2 ^ 62 → n < 2 ^ 62 + m
    less n m l = omega (arith, l)

pub all-first : {X : Type 0} (P : X → Type 0) (x : X) (xs : List X) → All P (x ∷ xs) → P x
all-first P x xs h = h 0 x (omega arith)
