-- What a transaction gives back at its end is all that it holds and waits for, and nothing else.
use Rattle.std.proofs.Common.{◌≡◌, ◌==◌, ◌||◌, ◌&&◌, inl, inr, None, Some, ℕ, Bool, true, false, not, cond, List, [], ◌∷◌, ◌++◌, refl, sym, subst, ap, ◌∙◌, if◌then◌else◌, arith}
use Rattle.std.proofs.lemmas.Bool.Decides.{nat_tests}
use Rattle.std.proofs.lemmas.List.Folds.{list_any-append}
use Rattle.std.specs.List.{list_any}
use Rattle.std.specs.Ordering.{is_gt}
use Rattle.std.specs.Prelude.{filter, find, map}
use Rattle.std.specs.declared.cmp.Ordering.{Ordering}
use Rattle.std.proofs.lemmas.Bool.{or_from, or_left, or_right}
use Rattle.gx_ids.specs.declared.ids.Gxid.{Gxid}
use Rattle.gx_ids.specs.declared.ids.Node.{Node}
use Rattle.gx_waits.specs.Claim.{same_claim}
use Rattle.gx_waits.specs.declared.claim.Claim.{Claim}
use Rattle.gx_waits.specs.Claims.{is_of, without, without_claim}
use Rattle.gx_locks.specs.Locks.{Locks}
use Rattle.gx_meaning.specs.Order.{in_order, placed}
use Rattle.gx_store.specs.declared.mark.Mark.{Mark}
use Rattle.gx_store.specs.Marks.{is_ended}
use Rattle.gx_store.specs.Waits.{holds_from, waits_from}
use Rattle.gx_rules.specs.Locks.{claim_order, has_there, release_mark, release_marks, released}
use Rattle.gx_law_order.proofs.Lists.{each_append, each_weaker}
use Rattle.gx_law_order.specs.Lists.{Each}
use Rattle.gx_law_locks.specs.Late.{AreReleasesLate}
use Rattle.gx_law_locks.proofs.Claims.{claim-itself, each-of, each-passes, filter-alike}
use Rattle.gx_law_locks.proofs.Marks.{AreLet, AreRight, Locking, MayGive, aborted-more, ended-more, node-itself}

-- A LIST IN ORDER HAS THE SAME ITEMS
or-swap : (a b c : Bool) → (a || (b || c)) ≡ (b || (a || c))
or-swap true true c = refl
or-swap true false c = refl
or-swap false b c = refl

any-placed : {X : Type 0} (R : X → X → Ordering) (p : X → Bool) (x : X) (ys : List X) → list_any p (placed R x ys) ≡ p x || list_any p ys
any-placed R p x [] = refl
any-placed R p x (y ∷ ys) = by_test (is_gt (R x y)) (any-placed R p x ys)
  where
    by_test : (b : Bool) → list_any p (placed R x ys) ≡ p x || list_any p ys → list_any p (if b then y ∷ placed R x ys else x ∷ y ∷ ys) ≡ p x || (p y || list_any p ys)
    by_test true e = ap (λ b. p y || b) e ∙ or-swap (p y) (p x) (list_any p ys)
    by_test false e = refl

any-in_order : {X : Type 0} (R : X → X → Ordering) (p : X → Bool) (xs : List X) → list_any p (in_order R xs) ≡ list_any p xs
any-in_order R p [] = refl
any-in_order R p (x ∷ xs) = any-placed R p x (in_order R xs) ∙ ap (λ b. p x || b) (any-in_order R p xs)

each-placed : {X : Type 0} (R : X → X → Ordering) (P : X → Type 0) (x : X) (ys : List X) → P x → Each P ys → Each P (placed R x ys)
each-placed R P x [] e f = (e, tt)
each-placed R P x (y ∷ ys) e f = by_test (is_gt (R x y)) (each-placed R P x ys e f.1)
  where
    by_test : (b : Bool) → Each P (placed R x ys) → Each P (if b then y ∷ placed R x ys else x ∷ y ∷ ys)
    by_test true h = (f.0, h)
    by_test false h = (e, f)

pub each-in_order : {X : Type 0} (R : X → X → Ordering) (P : X → Type 0) (xs : List X) → Each P xs → Each P (in_order R xs)
each-in_order R P [] e = tt
each-in_order R P (x ∷ xs) e = each-placed R P x (in_order R xs) e.0 (each-in_order R P xs e.1)

-- all that the transaction has there is its own
pub each-own : (l : Locks) (g : Gxid) → Each (λ c. is_of g c ≡ true) (has_there l g)
each-own l g =
    each_append (λ c. is_of g c ≡ true) (filter (is_of g) l.waits) _ (each-passes (is_of g) l.waits)
    (each-in_order claim_order (λ c. is_of g c ≡ true) (filter (is_of g) l.holds) (each-passes (is_of g) l.holds))

-- WHAT IS TAKEN AWAY
-- one after the other
abbrev among : List Claim → Claim → Bool
among cs x = list_any (λ c. same_claim c x) cs

filter-twice : (p q : Claim → Bool) (xs : List Claim) → filter q (filter p xs) ≡ filter (λ x. p x && q x) xs
filter-twice p q [] = refl
filter-twice p q (x ∷ xs) = by_test (p x) (filter-twice p q xs)
  where
    by_test : (b : Bool) → filter q (filter p xs) ≡ filter (λ x. p x && q x) xs → filter q (cond b (x ∷ filter p xs) (filter p xs)) ≡ cond (b && q x) (x ∷ filter (λ x. p x && q x) xs) (filter (λ x. p x && q x) xs)
    by_test true e = ap (λ ys. cond (q x) (x ∷ ys) ys) e
    by_test false e = e

nor : (a b : Bool) → (not a && not b) ≡ not (a || b)
nor true b = refl
nor false b = refl

all-stay : (xs : List Claim) → xs ≡ filter (λ x. true) xs
all-stay [] = refl
all-stay (x ∷ xs) = ap (λ ys. x ∷ ys) (all-stay xs)

one-less : (c : Claim) (cs claims : List Claim) → filter (λ x. not (among cs x)) (without_claim c claims) ≡ filter (λ x. not (among (c ∷ cs) x)) claims
one-less c cs claims =
    filter-twice (λ x. not (same_claim c x)) (λ x. not (among cs x)) claims
    ∙ filter-alike (λ x. not (same_claim c x) && not (among cs x)) (λ x. not (among (c ∷ cs) x)) claims (each-of (λ x. (not (same_claim c x) && not (among cs x)) ≡ not (among (c ∷ cs) x)) (λ x. nor (same_claim c x) (among cs x)) claims)

holds-less : (node : Node) (cs holds : List Claim) → holds_from node holds (map (release_mark node) cs) ≡ filter (λ x. not (among cs x)) holds
holds-less node [] holds = all-stay holds
holds-less node (c ∷ cs) holds = ap (λ b. holds_from node (if b then without_claim c holds else holds) (map (release_mark node) cs)) (node-itself node) ∙ holds-less node cs (without_claim c holds) ∙ one-less c cs holds

waits-less : (node : Node) (cs waits : List Claim) → waits_from node waits (map (release_mark node) cs) ≡ filter (λ x. not (among cs x)) waits
waits-less node [] waits = all-stay waits
waits-less node (c ∷ cs) waits = ap (λ b. waits_from node (if b then without_claim c waits else waits) (map (release_mark node) cs)) (node-itself node) ∙ waits-less node cs (without_claim c waits) ∙ one-less c cs waits

-- the transaction's own, and nobody else's
own-among : (g : Gxid) (xs : List Claim) → Each (λ x. is_of g x ≡ true → among (filter (is_of g) xs) x ≡ true) xs
own-among g [] = tt
own-among g (y ∷ ys) = (at_head (is_of g y), each_weaker (λ x. is_of g x ≡ true → among (filter (is_of g) ys) x ≡ true) (λ x. is_of g x ≡ true → among (filter (is_of g) (y ∷ ys)) x ≡ true) (λ x f e. more x (is_of g y) (f e)) ys (own-among g ys))
  where
    at_head : (b : Bool) → b ≡ true → among (cond b (y ∷ filter (is_of g) ys) (filter (is_of g) ys)) y ≡ true
    at_head true e = ap (λ b. b || among (filter (is_of g) ys) y) (claim-itself y)
    at_head false e = absurd (cc)

    more : (x : Claim) (b : Bool) → among (filter (is_of g) ys) x ≡ true → among (cond b (y ∷ filter (is_of g) ys) (filter (is_of g) ys)) x ≡ true
    more x true e = or_right (same_claim y x) _ e
    more x false e = e

not-among : (g : Gxid) (x : Claim) (cs : List Claim) → Each (λ c. is_of g c ≡ true) cs → is_of g x ≡ false → among cs x ≡ false
not-among g x [] e f = refl
not-among g x (c ∷ cs) e f = or_from (same_claim c x) (among cs x) (apart c.gxid.0 x.gxid.0 g.0 _ e.0 f) (not-among g x cs e.1 f)
  where
    apart : (a b h : ℕ) (r : Bool) → (a == h) ≡ true → (b == h) ≡ false → ((a == b) && r) ≡ false
    apart a b h r e f = grind (arith, nat_tests)

-- THE MARKS
right-releases : (node : Node) (cs holds waits : List Claim) → AreRight node holds waits (map (release_mark node) cs)
right-releases node [] holds waits = tt
right-releases node (c ∷ cs) holds waits = right-releases node cs (holds_from node holds (release_mark node c ∷ [])) (waits_from node waits (release_mark node c ∷ []))

late-releases : (node : Node) (g : Gxid) (before : List Mark) (cs : List Claim) → Each (λ c. is_of g c ≡ true) cs → is_ended before g ≡ true → AreReleasesLate before (map (release_mark node) cs)
late-releases node g before [] e f = tt
late-releases node g before (c ∷ cs) e f =
    (inr (subst (λ (h : Gxid). is_ended before h ≡ true) (sym (same-gxid c.gxid g e.0)) f), late-releases node g (before ++ release_mark node c ∷ []) cs e.1 (ended-more before (release_mark node c ∷ []) g f))
  where
    same-gxid : (h k : Gxid) → (h.0 == k.0) ≡ true → h ≡ k
    same-gxid h k e = grind (arith, nat_tests)

-- who has none of some claims has none where one is taken away
find-less : (p q : Claim → Bool) (xs : List Claim) → find p xs ≡ None → find p (filter q xs) ≡ None
find-less p q [] e = refl
find-less p q (x ∷ xs) e = by_tests (p x) refl (q x) e (find-less p q xs)
  where
    by_tests : (b : Bool) → p x ≡ b → (d : Bool) → (if b then Some x else find p xs) ≡ None → (find p xs ≡ None → find p (filter q xs) ≡ None) → find p (cond d (x ∷ filter q xs) (filter q xs)) ≡ None
    by_tests true is d e f = absurd (cc)
    by_tests false is true e f = ap (λ b. if b then Some x else find p (filter q xs)) is ∙ f e
    by_tests false is false e f = f e

lets-releases : (node : Node) (g : Gxid) (before : List Mark) (waits cs : List Claim) → Each (λ c. is_of g c ≡ true) cs → MayGive before waits g → AreLet node before waits (map (release_mark node) cs)
lets-releases node g before waits [] e f = tt
lets-releases node g before waits (c ∷ cs) e f =
    (subst (MayGive before waits) (sym (same-gxid c.gxid g e.0)) f, lets-releases node g (before ++ release_mark node c ∷ []) (waits_from node waits (release_mark node c ∷ [])) cs e.1 (later (node.0 == node.0) f))
  where
    same-gxid : (h k : Gxid) → (h.0 == k.0) ≡ true → h ≡ k
    same-gxid h k e = grind (arith, nat_tests)

    later : (b : Bool) → MayGive before waits g → MayGive (before ++ release_mark node c ∷ []) (if b then without_claim c waits else waits) g
    later true (inl none) = inl (find-less (is_of g) (λ x. not (same_claim c x)) waits none)
    later false (inl none) = inl none
    later b (inr over) = inr (aborted-more before (release_mark node c ∷ []) g over)

module _ (l : Locks) (g : Gxid) where
  abbrev parted : Claim → Bool
  parted x = among (filter (is_of g) l.waits) x || among (in_order claim_order (filter (is_of g) l.holds)) x

  in-parts : (x : Claim) → among (has_there l g) x ≡ parted x
  in-parts x = list_any-append (λ c. same_claim c x) (filter (is_of g) l.waits) (in_order claim_order (filter (is_of g) l.holds))

  -- all that are its own go, of a list whose own are among what it has there
  all-of : (xs : List Claim) → Each (λ x. is_of g x ≡ true → parted x ≡ true) xs → filter (λ x. not (among (has_there l g) x)) xs ≡ without g xs
  all-of xs e =
      filter-alike (λ x. not (among (has_there l g) x)) (λ x. not (is_of g x)) xs
      (each_weaker (λ x. is_of g x ≡ true → parted x ≡ true) (λ x. not (among (has_there l g) x) ≡ not (is_of g x)) (λ x f. ap not (by_test x f (is_of g x) refl)) xs e)
    where
      by_test : (x : Claim) → (is_of g x ≡ true → parted x ≡ true) → (b : Bool) → is_of g x ≡ b → among (has_there l g) x ≡ b
      by_test x f true e = in-parts x ∙ f e
      by_test x f false e = not-among g x (has_there l g) (each-own l g) e

  held-parts : Each (λ x. is_of g x ≡ true → parted x ≡ true) l.holds
  held-parts =
      each_weaker (λ x. is_of g x ≡ true → among (filter (is_of g) l.holds) x ≡ true) (λ x. is_of g x ≡ true → parted x ≡ true)
      (λ x f e. or_right (among (filter (is_of g) l.waits) x) _ (any-in_order claim_order (λ c. same_claim c x) (filter (is_of g) l.holds) ∙ f e)) l.holds (own-among g l.holds)

  awaited-parts : Each (λ x. is_of g x ≡ true → parted x ≡ true) l.waits
  awaited-parts =
      each_weaker (λ x. is_of g x ≡ true → among (filter (is_of g) l.waits) x ≡ true) (λ x. is_of g x ≡ true → parted x ≡ true) (λ x f e. or_left (among (filter (is_of g) l.waits) x) _ (f e)) l.waits
      (own-among g l.waits)

  pub gives-back : (node : Node) (before : List Mark) → is_ended before g ≡ true → MayGive before l.waits g → Locking node before l (release_marks node l g) (released l g)
  gives-back node before e may =
      record {
        holds = holds-less node (has_there l g) l.holds ∙ all-of l.holds held-parts;
        waits = waits-less node (has_there l g) l.waits ∙ all-of l.waits awaited-parts;
        right = right-releases node (has_there l g) l.holds l.waits;
        late = late-releases node g before (has_there l g) (each-own l g) e;
        lets = lets-releases node g before l.waits (has_there l g) (each-own l g) may;
      }
