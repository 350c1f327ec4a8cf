-- Locks of rows among the holds of a segment: whether a transaction has one, but at this row.
use Rattle.std.proofs.Common.{◌≡◌, ℕ, List, [], ◌∷◌, ◌++◌, Option, Some, None, Bool, true, false, not, refl, ap, ◌∙◌, if◌then◌else◌, cond, ◌&&◌, ◌||◌, ◌==◌, arith, eqb}
use Rattle.std.proofs.lemmas.Bool.Decides.{nat_tests}
use Rattle.std.proofs.lemmas.List.Folds.{list_any-append}
use Rattle.std.specs.List.{list_any}
use Rattle.std.specs.Prelude.{filter}
use Rattle.gx_lemmas.proofs.Tests.{and-false}
use Rattle.gx_ids.specs.declared.ids.Gxid.{Gxid}
use Rattle.gx_ids.specs.declared.rid.Rid.{Rid}
use Rattle.gx_waits.specs.Claim.{is_tuple, same_claim}
use Rattle.gx_waits.specs.declared.claim.Claim.{Claim}
use Rattle.gx_waits.specs.Claims.{is_of, with_claim, without, without_claim}
use Rattle.gx_rules.specs.Changes.{tuple_lock}

abbrev pub is_at : Gxid → Option Rid → Claim → Bool
is_at g None hold = false
is_at g (Some rid) hold = same_claim (tuple_lock g rid) hold

-- a row's lock of the transaction, at another row than this
abbrev pub is_stray : Gxid → Option Rid → Claim → Bool
is_stray g row hold = (is_of g hold && is_tuple hold.object) && not (is_at g row hold)

abbrev pub strays : Gxid → Option Rid → List Claim → Bool
strays g row holds = list_any (is_stray g row) holds

-- LISTS
or-parts : (a b : Bool) → (a || b) ≡ false → (a ≡ false) × (b ≡ false)
or-parts true b e = absurd (cc)
or-parts false b e = (refl, e)

or-both : (a b : Bool) → a ≡ false → b ≡ false → (a || b) ≡ false
or-both true b e f = absurd (cc)
or-both false b e f = f

module _ {X : Type 0} (p q : X → Bool) where
  pub none-less : ((x : X) → q x ≡ false → p x ≡ false) → (xs : List X) → list_any q xs ≡ false → list_any p xs ≡ false
  none-less f [] e = refl
  none-less f (x ∷ xs) e = let h = or-parts (q x) (list_any q xs) e in or-both (p x) (list_any p xs) (f x h.0) (none-less f xs h.1)

  -- of a part, where what is left out doesn't count
  pub none-left : (keep : X → Bool) → ((x : X) → keep x ≡ true → q x ≡ false → p x ≡ false) → (xs : List X) → list_any q xs ≡ false → list_any p (filter keep xs) ≡ false
  none-left keep f [] e = refl
  none-left keep f (x ∷ xs) e = let h = or-parts (q x) (list_any q xs) e in by_test (keep x) refl h.0 (none-left keep f xs h.1)
    where
      by_test : (b : Bool) → keep x ≡ b → q x ≡ false → list_any p (filter keep xs) ≡ false → list_any p (cond b (x ∷ filter keep xs) (filter keep xs)) ≡ false
      by_test true k e rest = or-both (p x) (list_any p (filter keep xs)) (f x k e) rest
      by_test false k e rest = rest

-- with one more that doesn't count
pub none-with : (p : Claim → Bool) (wanted : Claim) (holds : List Claim) → p wanted ≡ false → list_any p holds ≡ false → list_any p (with_claim wanted holds) ≡ false
none-with p wanted holds f e = by_test (list_any (same_claim wanted) holds)
  where
    by_test : (b : Bool) → list_any p (if b then holds else holds ++ wanted ∷ []) ≡ false
    by_test true = e
    by_test false = list_any-append p holds (wanted ∷ []) ∙ or-both (list_any p holds) (p wanted || false) e (or-both (p wanted) false f refl)

-- HOLDS
-- at no row is more than at any but one
pub strays-none : (g : Gxid) (row : Option Rid) (holds : List Claim) → strays g None holds ≡ false → strays g row holds ≡ false
strays-none g row holds e = none-less (is_stray g row) (is_stray g None) (λ x f. fewer (is_of g x && is_tuple x.object) (not (is_at g row x)) f) holds e
  where
    fewer : (a b : Bool) → (a && true) ≡ false → (a && b) ≡ false
    fewer true b e = absurd (cc)
    fewer false b e = refl

pub strays-with : (g : Gxid) (row : Option Rid) (wanted : Claim) (holds : List Claim) → is_stray g row wanted ≡ false → strays g row holds ≡ false → strays g row (with_claim wanted holds) ≡ false
strays-with g row wanted holds f e = none-with (is_stray g row) wanted holds f e

pub strays-left : (g : Gxid) (row : Option Rid) (keep : Claim → Bool) (holds : List Claim) → strays g row holds ≡ false → strays g row (filter keep holds) ≡ false
strays-left g row keep holds e = none-left (is_stray g row) (is_stray g row) keep (λ x k f. f) holds e

-- its lock at the row is given back
pub strays-back : (g : Gxid) (rid : Rid) (holds : List Claim) → strays g (Some rid) holds ≡ false → strays g None (without_claim (tuple_lock g rid) holds) ≡ false
strays-back g rid holds e =
    none-left (is_stray g None) (is_stray g (Some rid)) (λ other. not (same_claim (tuple_lock g rid) other)) (λ x k f. same (is_of g x && is_tuple x.object) (not (same_claim (tuple_lock g rid) x)) k f) holds e
  where
    same : (a b : Bool) → b ≡ true → (a && b) ≡ false → (a && true) ≡ false
    same true b k f = absurd (cc)
    same false b k f = refl

-- or isn't held
pub strays-unheld : (g : Gxid) (rid : Rid) (holds : List Claim) → list_any (same_claim (tuple_lock g rid)) holds ≡ false → strays g (Some rid) holds ≡ false → strays g None holds ≡ false
strays-unheld g rid [] n e = refl
strays-unheld g rid (x ∷ xs) n e =
    let h = or-parts (same_claim (tuple_lock g rid) x) (list_any (same_claim (tuple_lock g rid)) xs) n in
    let k = or-parts (is_stray g (Some rid) x) (strays g (Some rid) xs) e in
    or-both (is_stray g None x) (strays g None xs) (same (is_of g x && is_tuple x.object) (same_claim (tuple_lock g rid) x) h.0 k.0) (strays-unheld g rid xs h.1 k.1)
  where
    same : (a b : Bool) → b ≡ false → (a && not b) ≡ false → (a && true) ≡ false
    same true true k f = absurd (cc)
    same true false k f = absurd (cc)
    same false b k f = refl

-- who has ended there has none
pub strays-ended : (g : Gxid) (row : Option Rid) (holds : List Claim) → strays g row (without g holds) ≡ false
strays-ended g row [] = refl
strays-ended g row (x ∷ xs) = by_test (is_of g x) refl (strays-ended g row xs)
  where
    by_test : (b : Bool) → is_of g x ≡ b → strays g row (without g xs) ≡ false → strays g row (cond (not b) (x ∷ without g xs) (without g xs)) ≡ false
    by_test true q e = e
    by_test false q e = or-both (is_stray g row x) (strays g row (without g xs)) (ap (λ b. (b && is_tuple x.object) && not (is_at g row x)) q) e

-- ONE CLAIM
-- another's, or no row's
pub stray-other : (h g : Gxid) (row : Option Rid) (wanted : Claim) → wanted.gxid ≡ g → eqb h.0 g.0 ≡ false → is_stray h row wanted ≡ false
stray-other h g row wanted own n = ap (λ b. (b && is_tuple wanted.object) && not (is_at h row wanted)) (ap (λ (k : Gxid). k.0 == h.0) own ∙ turned h.0 g.0 n)
  where
    turned : (a b : ℕ) → eqb a b ≡ false → (b == a) ≡ false
    turned a b e = grind (arith, nat_tests)

pub stray-no-row : (h : Gxid) (row : Option Rid) (wanted : Claim) → is_tuple wanted.object ≡ false → is_stray h row wanted ≡ false
stray-no-row h row wanted e = ap (λ b. (is_of h wanted && b) && not (is_at h row wanted)) e ∙ ap (λ b. b && not (is_at h row wanted)) (and-false (is_of h wanted))

-- its own at the row
pub stray-itself : (g : Gxid) (rid : Rid) → is_stray g (Some rid) (tuple_lock g rid) ≡ false
stray-itself g rid = ap (λ b. (is_of g (tuple_lock g rid) && true) && not b) itself ∙ and-false (is_of g (tuple_lock g rid) && true)
  where
    itself : same_claim (tuple_lock g rid) (tuple_lock g rid) ≡ true
    itself = grind (arith, nat_tests)
