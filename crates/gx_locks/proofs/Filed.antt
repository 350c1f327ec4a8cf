-- Lists of holds, and the claims in them.
use Rattle.std.proofs.Common.{◌≡◌, ℕ, ◌<◌, List, [], ◌∷◌, ◌++◌, length, get_or, refl, sym, ap, ◌∙◌, subst, Bool, true, false, not, cond, eqb, arith, suc, ◌&&◌, ◌||◌}
use Rattle.std.proofs.lemmas.Bool.Decides.{nat_tests}
use Rattle.std.proofs.lemmas.List.{get_or-map}
use Rattle.std.proofs.lemmas.List.Elements.{filter-append}
use Rattle.std.specs.Prelude.{All, filter, find, None, Some}
use Rattle.std.specs.List.{list_any}
use Rattle.gx_ids.specs.declared.ids.Gxid.{Gxid}
use Rattle.gx_modes.specs.Table.{number_of}
use Rattle.gx_waits.specs.declared.claim.Claim.{Claim}
use Rattle.gx_waits.specs.declared.object.Object.{Object}
use Rattle.gx_locks.specs.declared.hold.Hold.{Hold}
use Rattle.gx_waits.specs.Claim.{same_claim, same_object}
use Rattle.gx_waits.specs.Claims.{is_of}
use Rattle.gx_locks.specs.Holds.{same_hold, claims_of}
use Rattle.gx_locks.specs.Kept.{AreOnce}
use Rattle.gx_locks.proofs.Meets.{same_object-same, same_object-itself}

all_tail : {X : Type 0} (P : X → Type 0) (x : X) (xs : List X) → All P (x ∷ xs) → All P xs
all_tail P x xs all k d inside = all (suc k) d (omega (arith, inside))

all_head : {X : Type 0} (P : X → Type 0) (x : X) (xs : List X) → All P (x ∷ xs) → P x
all_head P x xs all = all 0 x (omega arith)

module _ {X : Type 0} (p : X → Bool) where
  -- what passes everywhere keeps all
  pub filter-all : (xs : List X) → All (λ x. p x ≡ true) xs → filter p xs ≡ xs
  filter-all [] all = refl
  filter-all (x ∷ xs) all = ap (λ b. cond b (x ∷ filter p xs) (filter p xs)) (all_head (λ x. p x ≡ true) x xs all) ∙ ap (λ (ys : List X). x ∷ ys) (filter-all xs (all_tail (λ x. p x ≡ true) x xs all))

  left : (x : X) (xs : List X) (b : Bool) → cond b (x ∷ filter p xs) (filter p xs) ≡ [] → (filter p xs ≡ [] → filter (λ y. not (p y)) xs ≡ xs) → cond (not b) (x ∷ filter (λ y. not (p y)) xs) (filter (λ y. not (p y)) xs) ≡ x ∷ xs
  left x xs true none more = absurd (cc)
  left x xs false none more = ap (λ (ys : List X). x ∷ ys) (more none)

  -- where nothing passes, all others are kept
  pub filter-none : (xs : List X) → filter p xs ≡ [] → filter (λ y. not (p y)) xs ≡ xs
  filter-none [] none = refl
  filter-none (x ∷ xs) none = left x xs (p x) none (filter-none xs)

  first : (x y : X) (xs ys : List X) (b : Bool) → p x ≡ b → cond b (x ∷ filter p xs) (filter p xs) ≡ y ∷ ys → (filter p xs ≡ y ∷ ys → p y ≡ true) → p y ≡ true
  first x y xs ys true is e more = let same : x ≡ y = cc in subst (λ z. p z ≡ true) same is
  first x y xs ys false is e more = more e

  -- the first that is kept passes
  pub passes-first : (xs : List X) (y : X) (ys : List X) → filter p xs ≡ y ∷ ys → p y ≡ true
  passes-first [] y ys e = absurd (cc)
  passes-first (x ∷ xs) y ys e = first x y xs ys (p x) refl e (passes-first xs y ys)

  found : (x y : X) (xs : List X) (b : Bool) → p x ≡ b → cond b (Some x) (find p xs) ≡ Some y → (find p xs ≡ Some y → p y ≡ true) → p y ≡ true
  found x y xs true is e more = let same : x ≡ y = cc in subst (λ z. p z ≡ true) same is
  found x y xs false is e more = more e

  -- what is found passes
  pub find-passes : (xs : List X) (y : X) → find p xs ≡ Some y → p y ≡ true
  find-passes [] y e = absurd (cc)
  find-passes (x ∷ xs) y e = found x y xs (p x) refl e (find-passes xs y)

  unfound : (x : X) (xs : List X) (b : Bool) → cond b (Some x) (find p xs) ≡ None → (find p xs ≡ None → filter (λ y. not (p y)) xs ≡ xs) → cond (not b) (x ∷ filter (λ y. not (p y)) xs) (filter (λ y. not (p y)) xs) ≡ x ∷ xs
  unfound x xs true e more = absurd (cc)
  unfound x xs false e more = ap (λ (ys : List X). x ∷ ys) (more e)

  -- where nothing is found, nothing is taken out
  pub filter-unfound : (xs : List X) → find p xs ≡ None → filter (λ y. not (p y)) xs ≡ xs
  filter-unfound [] e = refl
  filter-unfound (x ∷ xs) e = unfound x xs (p x) e (filter-unfound xs)

  module _ (q : X → Bool) where
    swapped : (x : X) (xs : List X) (a b : Bool) → p x ≡ a → q x ≡ b → filter p (filter q xs) ≡ filter q (filter p xs) → filter p (cond b (x ∷ filter q xs) (filter q xs)) ≡ filter q (cond a (x ∷ filter p xs) (filter p xs))
    swapped x xs true true a b more = ap (λ c. cond c (x ∷ filter p (filter q xs)) (filter p (filter q xs))) a ∙ ap (λ (ys : List X). x ∷ ys) more ∙ sym (ap (λ c. cond c (x ∷ filter q (filter p xs)) (filter q (filter p xs))) b)
    swapped x xs true false a b more = more ∙ sym (ap (λ c. cond c (x ∷ filter q (filter p xs)) (filter q (filter p xs))) b)
    swapped x xs false true a b more = ap (λ c. cond c (x ∷ filter p (filter q xs)) (filter p (filter q xs))) a ∙ more
    swapped x xs false false a b more = more

    pub filter-swapped : (xs : List X) → filter p (filter q xs) ≡ filter q (filter p xs)
    filter-swapped [] = refl
    filter-swapped (x ∷ xs) = swapped x xs (p x) (q x) refl refl (filter-swapped xs)

    weaker : (x : X) (xs : List X) (a b : Bool) → p x ≡ a → b ≡ q x → (p x ≡ true → q x ≡ true) → filter p (filter q xs) ≡ filter p xs → filter p (cond b (x ∷ filter q xs) (filter q xs)) ≡ cond a (x ∷ filter p xs) (filter p xs)
    weaker x xs true true a b sub more = ap (λ c. cond c (x ∷ filter p (filter q xs)) (filter p (filter q xs))) a ∙ ap (λ (ys : List X). x ∷ ys) more
    weaker x xs true false a b sub more = let isnt = sub a in absurd (cc)
    weaker x xs false true a b sub more = ap (λ c. cond c (x ∷ filter p (filter q xs)) (filter p (filter q xs))) a ∙ more
    weaker x xs false false a b sub more = more

    -- a weaker test first changes nothing
    pub filter-weaker : ((x : X) → p x ≡ true → q x ≡ true) → (xs : List X) → filter p (filter q xs) ≡ filter p xs
    filter-weaker sub [] = refl
    filter-weaker sub (x ∷ xs) = weaker x xs (p x) (q x) refl refl (sub x) (filter-weaker sub xs)

    any_weaker : (x : X) (xs : List X) (a b : Bool) → p x ≡ a → b ≡ q x → (p x ≡ true → q x ≡ true) → list_any p (filter q xs) ≡ list_any p xs → list_any p (cond b (x ∷ filter q xs) (filter q xs)) ≡ (a || list_any p xs)
    any_weaker x xs true true a b sub more = ap (λ c. c || list_any p (filter q xs)) a
    any_weaker x xs true false a b sub more = let isnt = sub a in absurd (cc)
    any_weaker x xs false true a b sub more = ap (λ c. c || list_any p (filter q xs)) a ∙ more
    any_weaker x xs false false a b sub more = more

    pub list_any-weaker : ((x : X) → p x ≡ true → q x ≡ true) → (xs : List X) → list_any p (filter q xs) ≡ list_any p xs
    list_any-weaker sub [] = refl
    list_any-weaker sub (x ∷ xs) = any_weaker x xs (p x) (q x) refl refl (sub x) (list_any-weaker sub xs)

    find_weaker : (x : X) (xs : List X) (a b : Bool) → p x ≡ a → b ≡ q x → (p x ≡ true → q x ≡ true) → find p (filter q xs) ≡ find p xs → find p (cond b (x ∷ filter q xs) (filter q xs)) ≡ cond a (Some x) (find p xs)
    find_weaker x xs true true a b sub more = ap (λ c. cond c (Some x) (find p (filter q xs))) a
    find_weaker x xs true false a b sub more = let isnt = sub a in absurd (cc)
    find_weaker x xs false true a b sub more = ap (λ c. cond c (Some x) (find p (filter q xs))) a ∙ more
    find_weaker x xs false false a b sub more = more

    pub find-weaker : ((x : X) → p x ≡ true → q x ≡ true) → (xs : List X) → find p (filter q xs) ≡ find p xs
    find-weaker sub [] = refl
    find-weaker sub (x ∷ xs) = find_weaker x xs (p x) (q x) refl refl (sub x) (find-weaker sub xs)

  pub filter-push_yes : (xs : List X) (y : X) → p y ≡ true → filter p (xs ++ y ∷ []) ≡ filter p xs ++ y ∷ []
  filter-push_yes xs y is = filter-append p xs (y ∷ []) ∙ ap (λ b. filter p xs ++ cond b (y ∷ []) []) is

  pub filter-push_other : (xs : List X) (y : X) → p y ≡ false → filter p (xs ++ y ∷ []) ≡ filter p xs
  filter-push_other [] y is = ap (λ b. cond b (y ∷ []) []) is
  filter-push_other (x ∷ xs) y is = ap (λ (r : List X). cond (p x) (x ∷ r) r) (filter-push_other xs y is)

claims_once : (p : Claim → Bool) (h : Hold) (hs : List Hold) (b : Bool) → claims_of (filter (λ h. p h.claim) hs) ≡ filter p (claims_of hs) → claims_of (cond b (h ∷ filter (λ h. p h.claim) hs) (filter (λ h. p h.claim) hs)) ≡ cond b (h.claim ∷ filter p (claims_of hs)) (filter p (claims_of hs))
claims_once p h hs true more = ap (λ (cs : List Claim). h.claim ∷ cs) more
claims_once p h hs false more = more

-- a test of claims on holds
pub claims_of-filter : (p : Claim → Bool) (hs : List Hold) → claims_of (filter (λ h. p h.claim) hs) ≡ filter p (claims_of hs)
claims_of-filter p [] = refl
claims_of-filter p (h ∷ hs) = claims_once p h hs (p h.claim) (claims_of-filter p hs)

-- tests that claims on an object pass
module _ (p q : Claim → Bool) (sub : (c : Claim) → p c ≡ true → q c ≡ true) (hs : List Hold) where
  pub list_any-filed : list_any p (claims_of (filter (λ h. q h.claim) hs)) ≡ list_any p (claims_of hs)
  list_any-filed = ap (list_any p) (claims_of-filter q hs) ∙ list_any-weaker p q sub (claims_of hs)

  pub filter-filed : filter p (claims_of (filter (λ h. q h.claim) hs)) ≡ filter p (claims_of hs)
  filter-filed = ap (filter p) (claims_of-filter q hs) ∙ filter-weaker p q sub (claims_of hs)

  pub find-filed : find (λ h. p h.claim) (filter (λ h. q h.claim) hs) ≡ find (λ h. p h.claim) hs
  find-filed = find-weaker (λ h. p h.claim) (λ h. q h.claim) (λ h. sub h.claim) hs

three : (a b c : Bool) → (a && (b && c)) ≡ true → (a ≡ true) × (b ≡ true) × (c ≡ true)
three true true true e = (refl, refl, refl)
three true true false e = absurd (cc)
three true false c e = absurd (cc)
three false b c e = absurd (cc)

two : (a b : Bool) → (a && b) ≡ true → (a ≡ true) × (b ≡ true)
two true true e = (refl, refl)
two true false e = absurd (cc)
two false b e = absurd (cc)

same_numbers : (m n : ℕ) → eqb m n ≡ true → m ≡ n
same_numbers m n is = grind (arith, nat_tests)

number_itself : (m : ℕ) → eqb m m ≡ true
number_itself m = grind (arith, nat_tests)

turned : (m n : ℕ) → eqb m n ≡ eqb n m
turned m n = grind (arith, nat_tests)

-- one claim is the same as those that the other is
pub same_claim-along : (a b c : Claim) → same_claim a b ≡ true → same_claim a c ≡ same_claim b c
same_claim-along a b c same =
    let parts = three (eqb a.gxid.0 b.gxid.0) (same_object a.object b.object) (eqb (number_of a.mode) (number_of b.mode)) same in
    ap (λ n. eqb n c.gxid.0 && (same_object a.object c.object && eqb (number_of a.mode) (number_of c.mode))) (same_numbers a.gxid.0 b.gxid.0 parts.0)
    ∙ ap (λ (o : Object). eqb b.gxid.0 c.gxid.0 && (same_object o c.object && eqb (number_of a.mode) (number_of c.mode))) (same_object-same a.object b.object parts.1)
    ∙ ap (λ n. eqb b.gxid.0 c.gxid.0 && (same_object b.object c.object && eqb n (number_of c.mode))) (same_numbers (number_of a.mode) (number_of b.mode) parts.2)

pub same_claim-itself : (a : Claim) → same_claim a a ≡ true
same_claim-itself a =
    ap (λ b. b && (same_object a.object a.object && eqb (number_of a.mode) (number_of a.mode))) (number_itself a.gxid.0)
    ∙ ap (λ b. b && eqb (number_of a.mode) (number_of a.mode)) (same_object-itself a.object)
    ∙ number_itself (number_of a.mode)

pub same_claim-turned : (a b : Claim) → same_claim a b ≡ true → same_claim b a ≡ true
same_claim-turned a b same = sym (same_claim-along a b a same) ∙ same_claim-itself a

by_case : (a b : Bool) → (a ≡ true → b ≡ true) → b ≡ false → a ≡ false
by_case true b f isnt = let is = f refl in absurd (cc)
by_case false b f isnt = refl

pub other_claim-turned : (a b : Claim) → same_claim a b ≡ false → same_claim b a ≡ false
other_claim-turned a b other = by_case (same_claim b a) (same_claim a b) (same_claim-turned b a) other

pub same_hold-claim : (a b : Hold) → same_hold a b ≡ true → same_claim a.claim b.claim ≡ true
same_hold-claim a b same = (two (eqb a.number b.number) (same_claim a.claim b.claim) same).1

pub same_hold-itself : (a : Hold) → same_hold a a ≡ true
same_hold-itself a = ap (λ b. b && same_claim a.claim a.claim) (number_itself a.number) ∙ same_claim-itself a.claim

pub other_hold : (a b : Hold) → same_claim a.claim b.claim ≡ false → same_hold a b ≡ false
other_hold a b other = by_case (same_hold a b) (same_claim a.claim b.claim) (same_hold-claim a b) other

same_gxid : (a b : Claim) → same_claim a b ≡ true → a.gxid.0 ≡ b.gxid.0
same_gxid a b same = same_numbers a.gxid.0 b.gxid.0 (three (eqb a.gxid.0 b.gxid.0) (same_object a.object b.object) (eqb (number_of a.mode) (number_of b.mode)) same).0

pub same_on : (a b : Claim) → same_claim a b ≡ true → same_object a.object b.object ≡ true
same_on a b same = (three (eqb a.gxid.0 b.gxid.0) (same_object a.object b.object) (eqb (number_of a.mode) (number_of b.mode)) same).1

pub is_of-same : (g : Gxid) (a b : Claim) → same_claim a b ≡ true → is_of g b ≡ is_of g a
is_of-same g a b same = ap (λ n. eqb n g.0) (sym (same_gxid a b same))

pub on-same : (o : Object) (a b : Claim) → same_claim a b ≡ true → same_object o b.object ≡ same_object o a.object
on-same o a b same = ap (same_object o) (sym (same_object-same a.object b.object (same_on a b same)))

-- taking out a hold that a test refuses changes nothing of what passes
module _ (h : Hold) (q : Claim → Bool) (alike : (c : Claim) → same_claim h.claim c ≡ true → q c ≡ q h.claim) (refused : q h.claim ≡ false) where
  kept : (x : Hold) → q x.claim ≡ true → not (same_hold h x) ≡ true
  kept x is = ap not (by_case (same_hold h x) (not (q x.claim)) (λ same. ap not (alike x.claim (same_hold-claim h x same) ∙ refused)) (ap not is))

  pub filter-untouched : (hs : List Hold) → filter (λ x. q x.claim) (filter (λ x. not (same_hold h x)) hs) ≡ filter (λ x. q x.claim) hs
  filter-untouched hs = filter-weaker (λ x. q x.claim) (λ x. not (same_hold h x)) kept hs

-- what is held once
first_alone : (c : Claim) (cs : List Claim) → AreOnce (c ∷ cs) → All (λ d. same_claim d c ≡ false) cs
first_alone c cs once k d inside = once 0 (suc k) d (omega arith) (omega (arith, inside))

rest_once : (c : Claim) (cs : List Claim) → AreOnce (c ∷ cs) → AreOnce cs
rest_once c cs once i j d before inside = once (suc i) (suc j) d (omega (arith, before)) (omega (arith, inside))

pub length_claims : (hs : List Hold) → length (claims_of hs) ≡ length hs
length_claims [] = refl
length_claims (h ∷ hs) = ap suc (length_claims hs)

holds_apart : (h : Hold) (hs : List Hold) → All (λ d. same_claim d h.claim ≡ false) (claims_of hs) → All (λ x. not (same_hold h x) ≡ true) hs
holds_apart h hs apart k d inside =
    let x = get_or hs k d in
    let claim_there : get_or (claims_of hs) k d.claim ≡ x.claim = get_or-map (λ h. h.claim) hs k d d.claim inside in
    let other : same_claim x.claim h.claim ≡ false = subst (λ c. same_claim c h.claim ≡ false) claim_there (apart k d.claim (subst (λ n. k < n) (sym (length_claims hs)) inside)) in
    ap not (other_hold h x (other_claim-turned x.claim h.claim other))

-- the first of holds that are held once is taken out alone
pub filter-first_alone : (h : Hold) (hs : List Hold) → AreOnce (claims_of (h ∷ hs)) → filter (λ x. not (same_hold h x)) (h ∷ hs) ≡ hs
filter-first_alone h hs once =
    ap (λ b. cond (not b) (h ∷ filter (λ x. not (same_hold h x)) hs) (filter (λ x. not (same_hold h x)) hs)) (same_hold-itself h)
    ∙ filter-all (λ x. not (same_hold h x)) hs (holds_apart h hs (first_alone h.claim (claims_of hs) once))

module _ (c : Claim) where
  others : (h : Hold) (hs : List Hold) → same_claim c h.claim ≡ true → All (λ d. same_claim d h.claim ≡ false) (claims_of hs) → All (λ d. not (same_claim c d) ≡ true) (claims_of hs)
  others h hs same apart k d inside =
      let e = get_or (claims_of hs) k d in
      ap not (same_claim-along c h.claim e same ∙ other_claim-turned e h.claim (apart k d inside))

  released_here : (h g : Hold) (hs : List Hold) → same_claim c h.claim ≡ true → h ≡ g → AreOnce (claims_of (h ∷ hs)) → claims_of (filter (λ x. not (same_hold g x)) (h ∷ hs)) ≡ filter (λ d. not (same_claim c d)) (claims_of (h ∷ hs))
  released_here h g hs same e once =
      ap (λ (f : Hold). claims_of (filter (λ x. not (same_hold f x)) (h ∷ hs))) (sym e)
      ∙ ap claims_of (filter-first_alone h hs once)
      ∙ sym (ap (λ b. cond (not b) (h.claim ∷ filter (λ d. not (same_claim c d)) (claims_of hs)) (filter (λ d. not (same_claim c d)) (claims_of hs))) same ∙ filter-all (λ d. not (same_claim c d)) (claims_of hs) (others h hs same (first_alone h.claim (claims_of hs) once)))

  released_later : (h g : Hold) (hs : List Hold) → same_claim c h.claim ≡ false → same_claim c g.claim ≡ true → claims_of (filter (λ x. not (same_hold g x)) hs) ≡ filter (λ d. not (same_claim c d)) (claims_of hs) → claims_of (filter (λ x. not (same_hold g x)) (h ∷ hs)) ≡ filter (λ d. not (same_claim c d)) (claims_of (h ∷ hs))
  released_later h g hs other same more =
      let far : same_hold g h ≡ false = other_hold g h (sym (same_claim-along c g.claim h.claim same) ∙ other) in
      ap (λ b. claims_of (cond (not b) (h ∷ filter (λ x. not (same_hold g x)) hs) (filter (λ x. not (same_hold g x)) hs))) far
      ∙ ap (λ (cs : List Claim). h.claim ∷ cs) more
      ∙ sym (ap (λ b. cond (not b) (h.claim ∷ filter (λ d. not (same_claim c d)) (claims_of hs)) (filter (λ d. not (same_claim c d)) (claims_of hs))) other)

  released_once : (h g : Hold) (hs : List Hold) (b : Bool) → same_claim c h.claim ≡ b → cond b (Some h) (find (λ x. same_claim c x.claim) hs) ≡ Some g → AreOnce (claims_of (h ∷ hs)) → (find (λ x. same_claim c x.claim) hs ≡ Some g → claims_of (filter (λ x. not (same_hold g x)) hs) ≡ filter (λ d. not (same_claim c d)) (claims_of hs)) → claims_of (filter (λ x. not (same_hold g x)) (h ∷ hs)) ≡ filter (λ d. not (same_claim c d)) (claims_of (h ∷ hs))
  released_once h g hs true is e once more = released_here h g hs is (cc) once
  released_once h g hs false is e once more = released_later h g hs is (find-passes (λ x. same_claim c x.claim) hs g e) (more e)

  -- taking out the hold of a claim takes out the claim
  pub claims-released : (hs : List Hold) (g : Hold) → AreOnce (claims_of hs) → find (λ x. same_claim c x.claim) hs ≡ Some g → claims_of (filter (λ x. not (same_hold g x)) hs) ≡ filter (λ d. not (same_claim c d)) (claims_of hs)
  claims-released [] g once e = absurd (cc)
  claims-released (h ∷ hs) g once e = released_once h g hs (same_claim c h.claim) refl e once (claims-released hs g (rest_once h.claim (claims_of hs) once))
