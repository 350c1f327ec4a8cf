-- Claims that are one, and what a list of claims keeps.
use Rattle.std.proofs.Common.{◌≡◌, ◌==◌, ◌&&◌, ◌||◌, ◌⊎◌, inl, inr, ⊎_elim, ℕ, Bool, true, false, not, cond, List, [], ◌∷◌, ◌++◌, refl, sym, subst, ap, ◌∙◌, if◌then◌else◌, arith}
use Rattle.std.proofs.lemmas.Bool.{or_left, or_right}
use Rattle.std.proofs.lemmas.Bool.Decides.{nat_tests}
use Rattle.std.specs.List.{list_any}
use Rattle.std.specs.Prelude.{filter}
use Rattle.gx_lemmas.proofs.Numbers.{same-of}
use Rattle.gx_lemmas.proofs.Tests.{true-false}
use Rattle.gx_ids.specs.declared.ids.Gxid.{Gxid}
use Rattle.gx_modes.specs.Table.{number_of}
use Rattle.gx_modes.specs.declared.modes.Mode.{Mode}
use Rattle.gx_modes.specs.declared.modes.Mode.TheVariants.{AccessExclusive, AccessShare, Exclusive, RowExclusive, RowShare, Share, ShareRowExclusive, ShareUpdateExclusive}
use Rattle.gx_waits.proofs.Members.{Has}
use Rattle.gx_waits.specs.Claim.{same_claim, same_object}
use Rattle.gx_waits.specs.declared.claim.Claim.{Claim}
use Rattle.gx_locks.proofs.Meets.{same_object-same}
use Rattle.gx_waits.specs.Claims.{is_of, with_claim, without_claim}

-- ONE CLAIM
abbrev mode_of : ℕ → Mode
mode_of n =
    if n == 1 then AccessShare
    else if n == 2 then RowShare
    else if n == 3 then RowExclusive
    else if n == 4 then ShareUpdateExclusive
    else if n == 5 then Share
    else if n == 6 then ShareRowExclusive
    else if n == 7 then Exclusive
    else AccessExclusive

mode-back : (mode : Mode) → mode_of (number_of mode) ≡ mode
mode-back AccessShare = refl
mode-back RowShare = refl
mode-back RowExclusive = refl
mode-back ShareUpdateExclusive = refl
mode-back Share = refl
mode-back ShareRowExclusive = refl
mode-back Exclusive = refl
mode-back AccessExclusive = refl

pub claim-same : (a b : Claim) → same_claim a b ≡ true → a ≡ b
claim-same a b e = whole (parts (a.gxid.0 == b.gxid.0) (same_object a.object b.object) (number_of a.mode == number_of b.mode) e)
  where
    parts : (x y z : Bool) → (x && (y && z)) ≡ true → (x ≡ true) × (y ≡ true) × (z ≡ true)
    parts true true true e = (refl, refl, refl)
    parts true true false e = absurd (cc)
    parts true false z e = absurd (cc)
    parts false y z e = absurd (cc)

    same-gxid : (g h : Gxid) → (g.0 == h.0) ≡ true → g ≡ h
    same-gxid g h e = grind (arith, nat_tests)

    same-mode : (m n : Mode) → (number_of m == number_of n) ≡ true → m ≡ n
    same-mode m n e = sym (mode-back m) ∙ ap mode_of (same-of (number_of m) (number_of n) e) ∙ mode-back n

    joined : (x y : Claim) → x.gxid ≡ y.gxid → x.object ≡ y.object → x.mode ≡ y.mode → x ≡ y
    joined x y e f h = ap (λ g. record x { gxid = g }) e ∙ ap (λ o. record x { gxid = y.gxid; object = o }) f ∙ ap (λ m. record y { mode = m }) h

    whole : ((a.gxid.0 == b.gxid.0) ≡ true) × (same_object a.object b.object ≡ true) × ((number_of a.mode == number_of b.mode) ≡ true) → a ≡ b
    whole p = joined a b (same-gxid a.gxid b.gxid p.0) (same_object-same a.object b.object p.1) (same-mode a.mode b.mode p.2)

-- LISTS
pub has-front : {A : Type 0} (x : A) (xs ys : List A) → Has x xs → Has x (xs ++ ys)
has-front x [] ys h = absurd h
has-front x (y ∷ xs) ys (inl e) = inl e
has-front x (y ∷ xs) ys (inr h) = inr (has-front x xs ys h)

pub has-filter : {A : Type 0} (p : A → Bool) (x : A) (xs : List A) → p x ≡ true → Has x xs → Has x (filter p xs)
has-filter p x [] e h = absurd h
has-filter p x (y ∷ ys) e h = by_test (p y) refl h (has-filter p x ys e)
  where
    by_test : (b : Bool) → p y ≡ b → (y ≡ x) ⊎ Has x ys → (Has x ys → Has x (filter p ys)) → Has x (cond b (y ∷ filter p ys) (filter p ys))
    by_test true q (inl s) f = inl s
    by_test true q (inr h) f = inr (f h)
    by_test false q (inl s) f = absurd (true-false (p x) e (subst (λ z. p z ≡ false) s q))
    by_test false q (inr h) f = f h

pub has-added : (new c : Claim) (xs : List Claim) → Has c xs → Has c (with_claim new xs)
has-added new c xs h = by_test (list_any (same_claim new) xs)
  where
    by_test : (b : Bool) → Has c (if b then xs else xs ++ new ∷ [])
    by_test true = h
    by_test false = has-front c xs (new ∷ []) h

-- it is there then
has-same : (new : Claim) (xs : List Claim) → list_any (same_claim new) xs ≡ true → Has new xs
has-same new [] e = absurd (cc)
has-same new (x ∷ xs) e = by_head (same_claim new x) refl e (has-same new xs)
  where
    by_head : (b : Bool) → same_claim new x ≡ b → (b || list_any (same_claim new) xs) ≡ true → (list_any (same_claim new) xs ≡ true → Has new xs) → (x ≡ new) ⊎ Has new xs
    by_head true q f more = inl (sym (claim-same new x q))
    by_head false q f more = inr (more f)

pub has-new : (new : Claim) (xs : List Claim) → Has new (with_claim new xs)
has-new new xs = by_test (list_any (same_claim new) xs) refl
  where
    last : (ys : List Claim) → Has new (ys ++ new ∷ [])
    last [] = inl refl
    last (y ∷ ys) = inr (last ys)

    by_test : (b : Bool) → list_any (same_claim new) xs ≡ b → Has new (if b then xs else xs ++ new ∷ [])
    by_test true e = has-same new xs e
    by_test false e = last xs

-- another one is taken away
pub has-without : (old c : Claim) (xs : List Claim) → (old ≡ c → ⊥) → Has c xs → Has c (without_claim old xs)
has-without old c xs apart h = has-filter (λ x. not (same_claim old x)) c xs (by_test (same_claim old c) refl) h
  where
    by_test : (b : Bool) → same_claim old c ≡ b → not b ≡ true
    by_test true e = absurd (apart (claim-same old c e))
    by_test false e = refl

-- whose claim is listed has one there
pub listed : (c : Claim) (xs : List Claim) → Has c xs → list_any (is_of c.gxid) xs ≡ true
listed c [] h = absurd h
listed c (x ∷ xs) (inl e) = or_left (is_of c.gxid x) (list_any (is_of c.gxid) xs) (itself x.gxid c.gxid (ap (λ (y : Claim). y.gxid) e))
  where
    itself : (g h : Gxid) → g ≡ h → (g.0 == h.0) ≡ true
    itself g h e = grind (arith, nat_tests)
listed c (x ∷ xs) (inr h) = or_right (is_of c.gxid x) (list_any (is_of c.gxid) xs) (listed c xs h)

-- what is listed there now was, or is new
pub from-filter : {A : Type 0} (p : A → Bool) (x : A) (xs : List A) → Has x (filter p xs) → Has x xs
from-filter p x [] h = h
from-filter p x (y ∷ ys) h = by_test (p y) h (from-filter p x ys)
  where
    by_test : (b : Bool) → Has x (cond b (y ∷ filter p ys) (filter p ys)) → (Has x (filter p ys) → Has x ys) → (y ≡ x) ⊎ Has x ys
    by_test true (inl s) f = inl s
    by_test true (inr h) f = inr (f h)
    by_test false h f = inr (f h)

pub from-added : (new c : Claim) (xs : List Claim) → Has c (with_claim new xs) → Has c xs ⊎ (new ≡ c)
from-added new c xs h = by_test (list_any (same_claim new) xs) h
  where
    last : (ys : List Claim) → Has c (ys ++ new ∷ []) → Has c ys ⊎ (new ≡ c)
    last [] (inl s) = inr s
    last [] (inr h) = absurd h
    last (y ∷ ys) (inl s) = inl (inl s)
    last (y ∷ ys) (inr h) = ⊎_elim (λ (k : Has c ys). inl (inr k)) (λ s. inr s) (last ys h)

    by_test : (b : Bool) → Has c (if b then xs else xs ++ new ∷ []) → Has c xs ⊎ (new ≡ c)
    by_test true h = inl h
    by_test false h = last xs h
