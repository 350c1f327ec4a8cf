-- What is in a claim's way, when the way is clear, and what stays in it.
use Rattle.std.proofs.Common.{◌≡◌, ◌==◌, ◌&&◌, ◌||◌, ◌⊎◌, inl, inr, ⊎_elim, Bool, true, false, not, cond, List, [], ◌∷◌, ◌++◌, refl, sym, subst, ap, ◌∙◌, if◌then◌else◌, arith}
use Rattle.std.proofs.lemmas.List.Folds.{list_any-append}
use Rattle.std.specs.List.{list_any}
use Rattle.std.specs.Prelude.{filter}
use Rattle.gx_lemmas.proofs.Tests.{true-false}
use Rattle.gx_waits.proofs.Members.{Has}
use Rattle.gx_waits.specs.Claim.{ahead, in_the_way, is_ahead, meets, same_claim}
use Rattle.gx_waits.specs.Claims.{is_clear, is_free, with_claim, without_claim}
use Rattle.gx_waits.specs.declared.claim.Claim.{Claim}
use Rattle.gx_law_order.proofs.Lists.{each_filter}
use Rattle.gx_law_order.specs.Lists.{Each}
use Rattle.gx_law_locks.proofs.Claims.{any-none}
use Rattle.gx_law_locks.proofs.SameClaims.{from-filter, has-filter, has-front}

-- WHAT IS IN THE WAY
has-behind : {A : Type 0} (x : A) (xs ys : List A) → Has x ys → Has x (xs ++ ys)
has-behind x [] ys h = h
has-behind x (y ∷ xs) ys h = inr (has-behind x xs ys h)

from-both : {A : Type 0} (x : A) (xs ys : List A) → Has x (xs ++ ys) → Has x xs ⊎ Has x ys
from-both x [] ys h = inr h
from-both x (y ∷ xs) ys (inl e) = inl (inl e)
from-both x (y ∷ xs) ys (inr h) = ⊎_elim (λ (k : Has x xs). inl (inr k)) (λ (k : Has x ys). inr k) (from-both x xs ys h)

passes-it : {A : Type 0} (p : A → Bool) (x : A) (xs : List A) → Has x (filter p xs) → p x ≡ true
passes-it p x [] h = absurd h
passes-it p x (y ∷ ys) h = by_test (p y) refl h (passes-it p x ys)
  where
    by_test : (b : Bool) → p y ≡ b → Has x (cond b (y ∷ filter p ys) (filter p ys)) → (Has x (filter p ys) → p x ≡ true) → p x ≡ true
    by_test true e (inl s) f = subst (λ z. p z ≡ true) s e
    by_test true e (inr k) f = f k
    by_test false e k f = f k

module _ (holds waits : List Claim) (wanted : Claim) where
  abbrev queue : List Claim
  queue = filter (is_ahead holds wanted) (ahead wanted waits)

  -- all that is held
  pub held-in-way : (c : Claim) → Has c holds → Has c (in_the_way holds waits wanted)
  held-in-way c h = has-front c holds queue h

  -- each wait ahead that meets no hold of the claim's own transaction
  pub awaited-in-way : (c : Claim) → Has c (ahead wanted waits) → is_ahead holds wanted c ≡ true → Has c (in_the_way holds waits wanted)
  awaited-in-way c h a = has-behind c holds queue (has-filter (is_ahead holds wanted) c (ahead wanted waits) a h)

  -- nothing else
  pub way-of : (c : Claim) → Has c (in_the_way holds waits wanted) → Has c holds ⊎ (Has c (ahead wanted waits) × (is_ahead holds wanted c ≡ true))
  way-of c h =
      ⊎_elim (λ (k : Has c holds). inl k) (λ (k : Has c queue). inr (from-filter (is_ahead holds wanted) c (ahead wanted waits) k, passes-it (is_ahead holds wanted) c (ahead wanted waits) k))
      (from-both c holds queue h)

-- who is ahead waits
pub ahead-waits : (wanted c : Claim) (waits : List Claim) → Has c (ahead wanted waits) → Has c waits
ahead-waits wanted c [] h = absurd h
ahead-waits wanted c (w ∷ ws) h = by_test (same_claim wanted w) h (ahead-waits wanted c ws)
  where
    by_test : (b : Bool) → Has c (if b then [] else w ∷ ahead wanted ws) → (Has c (ahead wanted ws) → Has c ws) → (w ≡ c) ⊎ Has c ws
    by_test true h f = absurd h
    by_test false (inl e) f = inl e
    by_test false (inr k) f = inr (f k)

-- A CLEAR WAY
each-ahead : (P : Claim → Type 0) (wanted : Claim) (waits : List Claim) → Each P waits → Each P (ahead wanted waits)
each-ahead P wanted [] e = tt
each-ahead P wanted (w ∷ ws) e = by_test (same_claim wanted w) (each-ahead P wanted ws e.1)
  where
    by_test : (b : Bool) → Each P (ahead wanted ws) → Each P (if b then [] else w ∷ ahead wanted ws)
    by_test true f = tt
    by_test false f = (e.0, f)

neither : (a b : Bool) → not a ≡ true → b ≡ false → not (a || b) ≡ true
neither a b e f = grind arith

either : (a b : Bool) → not a ≡ false → not (a || b) ≡ false
either a b e = grind arith

front : (a b : Bool) → not (a || b) ≡ true → not a ≡ true
front a b e = grind arith

module _ (holds waits : List Claim) (wanted : Claim) where
  parted : is_clear holds waits wanted ≡ not (list_any (meets wanted) holds || list_any (meets wanted) (queue holds waits wanted))
  parted = ap not (list_any-append (meets wanted) holds (queue holds waits wanted))

  -- where it meets no hold, and no wait at all
  pub clear-of : is_free holds wanted ≡ true → Each (λ wait. meets wanted wait ≡ false) waits → is_clear holds waits wanted ≡ true
  clear-of free e =
      parted
      ∙ neither (list_any (meets wanted) holds) (list_any (meets wanted) (queue holds waits wanted)) free
      (any-none (meets wanted) (queue holds waits wanted)
      (each_filter (λ wait. meets wanted wait ≡ false) (is_ahead holds wanted) (ahead wanted waits) (each-ahead (λ wait. meets wanted wait ≡ false) wanted waits e)))

  -- then it meets no hold
  pub clear-free : is_clear holds waits wanted ≡ true → is_free holds wanted ≡ true
  clear-free e = front (list_any (meets wanted) holds) (list_any (meets wanted) (queue holds waits wanted)) (sym parted ∙ e)

  pub met-unclear : is_free holds wanted ≡ false → is_clear holds waits wanted ≡ false
  met-unclear met = parted ∙ either (list_any (meets wanted) holds) (list_any (meets wanted) (queue holds waits wanted)) met

-- WHO STAYS AHEAD
-- of what comes behind
ahead-front : (wanted c : Claim) (xs ys : List Claim) → Has c (ahead wanted xs) → Has c (ahead wanted (xs ++ ys))
ahead-front wanted c [] ys h = absurd h
ahead-front wanted c (x ∷ xs) ys h = by_test (same_claim wanted x) h (ahead-front wanted c xs ys)
  where
    by_test : (b : Bool) → Has c (if b then [] else x ∷ ahead wanted xs) → (Has c (ahead wanted xs) → Has c (ahead wanted (xs ++ ys))) → Has c (if b then [] else x ∷ ahead wanted (xs ++ ys))
    by_test true h f = h
    by_test false (inl e) f = inl e
    by_test false (inr k) f = inr (f k)

pub ahead-added : (wanted c new : Claim) (waits : List Claim) → Has c (ahead wanted waits) → Has c (ahead wanted (with_claim new waits))
ahead-added wanted c new waits h = by_test (list_any (same_claim new) waits)
  where
    by_test : (b : Bool) → Has c (ahead wanted (if b then waits else waits ++ new ∷ []))
    by_test true = h
    by_test false = ahead-front wanted c waits (new ∷ []) h

-- where another goes
pub ahead-without : (wanted c old : Claim) (waits : List Claim) → same_claim old c ≡ false → Has c (ahead wanted waits) → Has c (ahead wanted (without_claim old waits))
ahead-without wanted c old [] apart h = absurd h
ahead-without wanted c old (w ∷ ws) apart h = by_tests (same_claim wanted w) refl (same_claim old w) refl h (ahead-without wanted c old ws apart)
  where
    by_tests : (b : Bool) → same_claim wanted w ≡ b → (d : Bool) → same_claim old w ≡ d → Has c (if b then [] else w ∷ ahead wanted ws) → (Has c (ahead wanted ws) → Has c (ahead wanted (without_claim old ws)))
        → Has c (ahead wanted (cond (not d) (w ∷ without_claim old ws) (without_claim old ws)))
    by_tests true e d s h f = absurd h
    by_tests false e true s (inl is) f = absurd (true-false (same_claim old c) (subst (λ x. same_claim old x ≡ true) is s) apart)
    by_tests false e true s (inr k) f = f k
    by_tests false e false s (inl is) f = subst (λ b. Has c (if b then [] else w ∷ ahead wanted (without_claim old ws))) (sym e) (inl is)
    by_tests false e false s (inr k) f = subst (λ b. Has c (if b then [] else w ∷ ahead wanted (without_claim old ws))) (sym e) (inr (f k))

-- where less is held
any-less : (p q : Claim → Bool) (xs : List Claim) → not (list_any p xs) ≡ true → not (list_any p (filter q xs)) ≡ true
any-less p q [] e = e
any-less p q (x ∷ xs) e = by_test (q x) (any-less p q xs (rest (p x) (list_any p xs) e))
  where
    rest : (a b : Bool) → not (a || b) ≡ true → not b ≡ true
    rest a b e = grind arith

    more : (a b : Bool) → not (a || b) ≡ true → (c : Bool) → not c ≡ true → not (a || c) ≡ true
    more a b e c g = grind arith

    by_test : (b : Bool) → not (list_any p (filter q xs)) ≡ true → not (list_any p (cond b (x ∷ filter q xs) (filter q xs))) ≡ true
    by_test true f = more (p x) (list_any p xs) e (list_any p (filter q xs)) f
    by_test false f = f

pub ahead-less : (wanted c old : Claim) (holds : List Claim) → is_ahead holds wanted c ≡ true → is_ahead (without_claim old holds) wanted c ≡ true
ahead-less wanted c old holds e = any-less (λ hold. (hold.gxid.0 == wanted.gxid.0) && meets c hold) (λ other. not (same_claim old other)) holds e

-- where another transaction is granted something
pub ahead-more : (wanted c new : Claim) (holds : List Claim) → (new.gxid.0 == wanted.gxid.0) ≡ false → is_ahead holds wanted c ≡ true → is_ahead (with_claim new holds) wanted c ≡ true
ahead-more wanted c new holds other e = by_test (list_any (same_claim new) holds)
  where
    p : Claim → Bool
    p hold = (hold.gxid.0 == wanted.gxid.0) && meets c hold

    still : (a b d : Bool) → not a ≡ true → b ≡ false → not (a || ((b && d) || false)) ≡ true
    still a b d e f = grind arith

    by_test : (b : Bool) → is_ahead (if b then holds else holds ++ new ∷ []) wanted c ≡ true
    by_test true = e
    by_test false = ap not (list_any-append p holds (new ∷ [])) ∙ still (list_any p holds) (new.gxid.0 == wanted.gxid.0) (meets c new) e other
