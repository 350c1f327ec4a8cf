-- Lists of claims, and a transaction's claims among them.
use Rattle.std.proofs.Common.{◌≡◌, ◌==◌, ◌||◌, ◌&&◌, ℕ, Bool, true, false, not, List, [], ◌∷◌, Some, None, refl, sym, subst, ap, ◌∙◌, if◌then◌else◌, arith, cond, eqb}
use Rattle.std.proofs.lemmas.Bool.Decides.{nat_tests}
use Rattle.std.specs.List.{list_any}
use Rattle.std.specs.Prelude.{filter, find}
use Rattle.gx_lemmas.proofs.Numbers.{eqb-self}
use Rattle.gx_lemmas.proofs.Tests.{true-false}
use Rattle.gx_ids.specs.declared.ids.Gxid.{Gxid}
use Rattle.gx_waits.specs.Claim.{same_claim, same_object}
use Rattle.gx_waits.specs.declared.claim.Claim.{Claim}
use Rattle.gx_locks.proofs.Meets.{same_object-itself}
use Rattle.gx_waits.specs.Claims.{is_of, without}
use Rattle.gx_law_order.specs.Lists.{Each}

-- LISTS
pub each-of : {X : Type 0} (P : X → Type 0) → ((x : X) → P x) → (xs : List X) → Each P xs
each-of P f [] = tt
each-of P f (x ∷ xs) = (f x, each-of P f xs)

pub each-passes : (p : Claim → Bool) (xs : List Claim) → Each (λ x. p x ≡ true) (filter p xs)
each-passes p [] = tt
each-passes p (x ∷ xs) = by_test (p x) refl (each-passes p xs)
  where
    by_test : (b : Bool) → p x ≡ b → Each (λ x. p x ≡ true) (filter p xs) → Each (λ x. p x ≡ true) (cond b (x ∷ filter p xs) (filter p xs))
    by_test true e h = (e, h)
    by_test false e h = h

pub any-none : (p : Claim → Bool) (xs : List Claim) → Each (λ x. p x ≡ false) xs → list_any p xs ≡ false
any-none p [] e = refl
any-none p (x ∷ xs) e = ap (λ b. b || list_any p xs) e.0 ∙ any-none p xs e.1

filter-all : (p : Claim → Bool) (xs : List Claim) → Each (λ x. p x ≡ true) xs → filter p xs ≡ xs
filter-all p [] e = refl
filter-all p (x ∷ xs) e = ap (λ b. cond b (x ∷ filter p xs) (filter p xs)) e.0 ∙ ap (λ ys. x ∷ ys) (filter-all p xs e.1)

pub filter-alike : (p q : Claim → Bool) (xs : List Claim) → Each (λ x. p x ≡ q x) xs → filter p xs ≡ filter q xs
filter-alike p q [] e = refl
filter-alike p q (x ∷ xs) e = ap (λ b. cond b (x ∷ filter p xs) (filter p xs)) e.0 ∙ ap (λ ys. cond (q x) (x ∷ ys) ys) (filter-alike p q xs e.1)

pub each-so : {P Q : Claim → Type 0} → ((x : Claim) → P x → Q x) → (xs : List Claim) → Each P xs → Each Q xs
each-so f [] e = tt
each-so f (x ∷ xs) e = (f x e.0, each-so f xs e.1)

find-none : (p : Claim → Bool) (xs : List Claim) → Each (λ x. p x ≡ false) xs → find p xs ≡ None
find-none p [] e = refl
find-none p (x ∷ xs) e = ap (λ b. cond b (Some x) (find p xs)) e.0 ∙ find-none p xs e.1

-- one alone passes
pub each-once : (p : Claim → Bool) (xs : List Claim) (y : Claim) → filter p xs ≡ y ∷ [] → Each (λ x. p x ≡ true → x ≡ y) xs
each-once p [] y e = tt
each-once p (x ∷ xs) y e = by_test (p x) refl e (each-once p xs y)
  where
    same : (a b : Claim) (xs ys : List Claim) → a ∷ xs ≡ b ∷ ys → a ≡ b
    same a b xs ys q = cc

    rest : (a b : Claim) (xs ys : List Claim) → a ∷ xs ≡ b ∷ ys → xs ≡ ys
    rest a b xs ys q = cc

    none : (ys : List Claim) → filter p ys ≡ [] → Each (λ x. p x ≡ true → x ≡ y) ys
    none [] q = tt
    none (z ∷ zs) q = by_none (p z) refl q (none zs)
      where
        by_none : (b : Bool) → p z ≡ b → cond b (z ∷ filter p zs) (filter p zs) ≡ [] → (filter p zs ≡ [] → Each (λ x. p x ≡ true → x ≡ y) zs) → Each (λ x. p x ≡ true → x ≡ y) (z ∷ zs)
        by_none true r s f = absurd (cc)
        by_none false r s f = (λ t. absurd (true-false (p z) t r), f s)

    by_test : (b : Bool) → p x ≡ b → cond b (x ∷ filter p xs) (filter p xs) ≡ y ∷ [] → (filter p xs ≡ y ∷ [] → Each (λ x. p x ≡ true → x ≡ y) xs) → Each (λ x. p x ≡ true → x ≡ y) (x ∷ xs)
    by_test true q s f = (λ t. same x y (filter p xs) [] s, none xs (rest x y (filter p xs) [] s))
    by_test false q s f = (λ t. absurd (true-false (p x) t q), f s)

pub passes : (p : Claim → Bool) (xs : List Claim) (y : Claim) (ys : List Claim) → filter p xs ≡ y ∷ ys → p y ≡ true
passes p [] y ys e = absurd (cc)
passes p (x ∷ xs) y ys e = by_test (p x) refl e (passes p xs y ys)
  where
    same : (a b : Claim) (xs ys : List Claim) → a ∷ xs ≡ b ∷ ys → a ≡ b
    same a b xs ys q = cc

    by_test : (b : Bool) → p x ≡ b → cond b (x ∷ filter p xs) (filter p xs) ≡ y ∷ ys → (filter p xs ≡ y ∷ ys → p y ≡ true) → p y ≡ true
    by_test true q s f = subst (λ z. p z ≡ true) (same x y (filter p xs) ys s) q
    by_test false q s f = f s

-- ONE CLAIM
pub claim-itself : (c : Claim) → same_claim c c ≡ true
claim-itself c = three (c.gxid.0 == c.gxid.0) (same_object c.object c.object) _ (eqb-self c.gxid.0) (same_object-itself c.object) (eqb-self _)
  where
    three : (a b d : Bool) → a ≡ true → b ≡ true → d ≡ true → (a && (b && d)) ≡ true
    three a b d e f h = grind arith

pub gxid-of : (g h : Gxid) → eqb g.0 h.0 ≡ true → g ≡ h
gxid-of g h e = grind (arith, nat_tests)

-- a claim of who has none of these is none of these
none-same : (wanted : Claim) (xs : List Claim) → find (is_of wanted.gxid) xs ≡ None → Each (λ x. same_claim wanted x ≡ false) xs
none-same wanted [] e = tt
none-same wanted (x ∷ xs) e = by_test (is_of wanted.gxid x) refl e (none-same wanted xs)
  where
    apart : (a b : ℕ) (r : Bool) → (b == a) ≡ false → ((a == b) && r) ≡ false
    apart a b r e = grind (arith, nat_tests)

    by_test : (b : Bool) → is_of wanted.gxid x ≡ b → (if b then Some x else find (is_of wanted.gxid) xs) ≡ None
        → (find (is_of wanted.gxid) xs ≡ None → Each (λ x. same_claim wanted x ≡ false) xs) → Each (λ x. same_claim wanted x ≡ false) (x ∷ xs)
    by_test true q e f = absurd (cc)
    by_test false q e f = (apart wanted.gxid.0 x.gxid.0 _ q, f e)

pub not-among : (wanted : Claim) (xs : List Claim) → find (is_of wanted.gxid) xs ≡ None → list_any (same_claim wanted) xs ≡ false
not-among wanted xs e = any-none (same_claim wanted) xs (none-same wanted xs e)

pub without-none : (wanted : Claim) (xs : List Claim) → find (is_of wanted.gxid) xs ≡ None → filter (λ x. not (same_claim wanted x)) xs ≡ xs
without-none wanted xs e =
    filter-all (λ x. not (same_claim wanted x)) xs (each-so {P = λ x. same_claim wanted x ≡ false} {Q = λ x. not (same_claim wanted x) ≡ true} (λ x f. ap not f) xs (none-same wanted xs e))

-- a transaction's only claim is taken away as its claims are
pub without-only : (g : Gxid) (wanted : Claim) (xs : List Claim) → filter (is_of g) xs ≡ wanted ∷ [] → filter (λ x. not (same_claim wanted x)) xs ≡ without g xs
without-only g wanted xs e =
    filter-alike (λ x. not (same_claim wanted x)) (λ x. not (is_of g x)) xs
    (each-so {P = λ x. is_of g x ≡ true → x ≡ wanted} {Q = λ x. not (same_claim wanted x) ≡ not (is_of g x)} (λ x f. ap not (by_test x f (is_of g x) refl)) xs (each-once (is_of g) xs wanted e))
  where
    own : is_of g wanted ≡ true
    own = passes (is_of g) xs wanted [] e

    apart : (a b h : ℕ) (r : Bool) → (a == h) ≡ true → (b == h) ≡ false → ((a == b) && r) ≡ false
    apart a b h r e f = grind (arith, nat_tests)

    by_test : (x : Claim) → (is_of g x ≡ true → x ≡ wanted) → (b : Bool) → is_of g x ≡ b → same_claim wanted x ≡ b
    by_test x f true q = subst (λ y. same_claim wanted y ≡ true) (sym (f q)) (claim-itself wanted)
    by_test x f false q = apart wanted.gxid.0 x.gxid.0 g.0 _ own q

-- then it has none
pub find-without : (g : Gxid) (xs : List Claim) → find (is_of g) (without g xs) ≡ None
find-without g xs = find-none (is_of g) (without g xs) (each-so {P = λ x. not (is_of g x) ≡ true} {Q = λ x. is_of g x ≡ false} (λ x e. not-true (is_of g x) e) (without g xs) (each-passes (λ x. not (is_of g x)) xs))
  where
    not-true : (b : Bool) → not b ≡ true → b ≡ false
    not-true b e = grind arith
