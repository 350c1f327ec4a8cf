-- The test of what a LOCK has done decides the definition.
use Rattle.std.proofs.Common.{add-one, ◌≡◌, ◌∙◌, ℕ, zero, suc, ◌+◌, ◌==◌, ◌<◌, ◌&&◌, ◌||◌, Bool, true, false, not, if◌then◌else◌, List, [], ◌∷◌, ◌++◌, refl, sym, ap, arith}
use Rattle.std.proofs.lemmas.Bool.{and_from}
use Rattle.std.proofs.lemmas.Bool.Decides.{nat_tests}
use Rattle.std.proofs.lemmas.List.Folds.{list_any-append}
use Rattle.std.specs.List.{list_any}
use Rattle.gx_ids.specs.declared.ids.Gxid.{Gxid}
use Rattle.gx_ids.specs.declared.ids.Node.{Node}
use Rattle.gx_ids.specs.declared.ids.Table.{Table}
use Rattle.gx_lemmas.proofs.Numbers.{same-of}
use Rattle.gx_lemmas.proofs.Tests.{and-first, and-second, or-false}
use Rattle.gx_locks.proofs.Filed.{other_claim-turned, same_claim-along, same_claim-turned}
use Rattle.gx_modes.specs.declared.modes.Mode.{Mode}
use Rattle.gx_script.specs.declared.Script.{Script}
use Rattle.gx_waits.specs.declared.claim.Claim.{Claim}
use Rattle.gx_waits.specs.declared.object.Object.TheVariants.{Relation}
use Rattle.gx_waits.specs.Claim.{same_claim}
use Rattle.gx_store.specs.declared.mark.Mark.{Mark}
use Rattle.gx_store.specs.declared.mark.Mark.TheVariants as mark
use Rattle.gx_store.specs.Answers.{Locks}
use Rattle.gx_store.specs.Waits.{holds_at, holds_from}
use Rattle.gx_waits.specs.Claims.{claim, with_claim, without_claim}
use Rattle.gx_legal.specs.Told.{has_locked, held_from, is_held_below}
use Rattle.gx_legal.proofs.Decided.{no_more}

any-along : (a b : Claim) (xs : List Claim) → same_claim a b ≡ true → list_any (same_claim b) xs ≡ list_any (same_claim a) xs
any-along a b [] same = refl
any-along a b (x ∷ xs) same = ap (λ t. t || list_any (same_claim b) xs) (sym (same_claim-along a b x same)) ∙ ap (λ t. same_claim a x || t) (any-along a b xs same)

-- a claim is as near to another as one that is the same
near : (old c x : Claim) → same_claim c x ≡ true → same_claim old c ≡ same_claim old x
near old c x same = by_test (same_claim old x) refl
  where
    by_test : (b : Bool) → same_claim old x ≡ b → same_claim old c ≡ b
    by_test true e = same_claim-along old x c e ∙ same_claim-turned c x same
    by_test false e = other_claim-turned c old (same_claim-along c x old same ∙ other_claim-turned old x e)

module _ (c : Claim) where
  -- A CLAIM THAT IS ADDED
  there : (new : Claim) (xs : List Claim) (b : Bool) → same_claim c new ≡ b → list_any (same_claim new) xs ≡ true → list_any (same_claim c) xs ≡ (list_any (same_claim c) xs || b)
  there new xs true same among = all (list_any (same_claim c) xs) (sym (any-along c new xs same) ∙ among)
    where
      all : (b : Bool) → b ≡ true → b ≡ (b || true)
      all true e = refl
      all false e = e
  there new xs false same among = sym (or-false (list_any (same_claim c) xs))

  added-any : (new : Claim) (xs : List Claim) → list_any (same_claim c) (with_claim new xs) ≡ (list_any (same_claim c) xs || same_claim c new)
  added-any new xs = by_test (list_any (same_claim new) xs) refl
    where
      by_test : (b : Bool) → list_any (same_claim new) xs ≡ b → list_any (same_claim c) (if b then xs else xs ++ new ∷ []) ≡ (list_any (same_claim c) xs || same_claim c new)
      by_test true e = there new xs (same_claim c new) refl e
      by_test false e = list_any-append (same_claim c) xs (new ∷ []) ∙ ap (λ b. list_any (same_claim c) xs || b) (or-false (same_claim c new))

  -- A CLAIM THAT IS TAKEN OUT
  taken-out : (old x : Claim) (xs : List Claim) (a : Bool) → same_claim c x ≡ a → same_claim old x ≡ true → list_any (same_claim c) (without_claim old xs) ≡ (list_any (same_claim c) xs && not (same_claim old c)) → list_any (same_claim c) (without_claim old xs) ≡ ((a || list_any (same_claim c) xs) && not (same_claim old c))
  taken-out old x xs true same gone more = more ∙ none (same_claim old c) (list_any (same_claim c) xs) (near old c x same ∙ gone)
    where
      none : (b d : Bool) → b ≡ true → (d && not b) ≡ (true && not b)
      none true true e = refl
      none true false e = refl
      none false d e = no_more _ e
  taken-out old x xs false same gone more = more

  left-in : (old x : Claim) (xs : List Claim) (a : Bool) → same_claim c x ≡ a → same_claim old x ≡ false → list_any (same_claim c) (without_claim old xs) ≡ (list_any (same_claim c) xs && not (same_claim old c)) → (a || list_any (same_claim c) (without_claim old xs)) ≡ ((a || list_any (same_claim c) xs) && not (same_claim old c))
  left-in old x xs true same stays more = sym (ap not (near old c x same ∙ stays))
  left-in old x xs false same stays more = more

  without-any : (old : Claim) (xs : List Claim) → list_any (same_claim c) (without_claim old xs) ≡ (list_any (same_claim c) xs && not (same_claim old c))
  without-any old [] = refl
  without-any old (x ∷ xs) = by_test (same_claim old x) refl (without-any old xs)
    where
      by_test : (b : Bool) → same_claim old x ≡ b → list_any (same_claim c) (without_claim old xs) ≡ (list_any (same_claim c) xs && not (same_claim old c))
          → list_any (same_claim c) (if not b then x ∷ without_claim old xs else without_claim old xs) ≡ ((same_claim c x || list_any (same_claim c) xs) && not (same_claim old c))
      by_test true e more = taken-out old x xs (same_claim c x) refl e more
      by_test false e more = left-in old x xs (same_claim c x) refl e more

  -- AT ONE NODE
  held-more : (b : Bool) (new : Claim) (xs : List Claim) → list_any (same_claim c) (if b then with_claim new xs else xs) ≡ (list_any (same_claim c) xs || (b && same_claim c new))
  held-more true new xs = added-any new xs
  held-more false new xs = sym (or-false (list_any (same_claim c) xs))

  all-of : (b : Bool) → b ≡ (b && true)
  all-of true = refl
  all-of false = refl

  held-less : (b : Bool) (old : Claim) (xs : List Claim) → list_any (same_claim c) (if b then without_claim old xs else xs) ≡ (list_any (same_claim c) xs && not (b && same_claim old c))
  held-less true old xs = without-any old xs
  held-less false old xs = all-of (list_any (same_claim c) xs)

  held-same : (node : Node) (xs : List Claim) (ms : List Mark) → list_any (same_claim c) (holds_from node xs ms) ≡ held_from node.0 c (list_any (same_claim c) xs) ms
  held-same node xs [] = refl
  held-same node xs (mark.Hold n g object mode ∷ ms) =
      held-same node (if n.0 == node.0 then with_claim (claim g object mode) xs else xs) ms
      ∙ ap (λ b. held_from node.0 c b ms) (held-more (n.0 == node.0) (claim g object mode) xs)
  held-same node xs (mark.Release n g object mode ∷ ms) =
      held-same node (if n.0 == node.0 then without_claim (claim g object mode) xs else xs) ms
      ∙ ap (λ b. held_from node.0 c b ms) (held-less (n.0 == node.0) (claim g object mode) xs)
  held-same node xs (mark.Start g s ∷ ms) = held-same node xs ms
  held-same node xs (mark.Snap g d s ∷ ms) = held-same node xs ms
  held-same node xs (mark.Write g d n t r i ∷ ms) = held-same node xs ms
  held-same node xs (mark.Skip g d r ∷ ms) = held-same node xs ms
  held-same node xs (mark.Fault g d r i ∷ ms) = held-same node xs ms
  held-same node xs (mark.Commit g ∷ ms) = held-same node xs ms
  held-same node xs (mark.Abort g ∷ ms) = held-same node xs ms
  held-same node xs (mark.Answer s k a ∷ ms) = held-same node xs ms
  held-same node xs (mark.Wait n g object mode ∷ ms) = held-same node xs ms
  held-same node xs (mark.Prepared n g ∷ ms) = held-same node xs ms
  held-same node xs (mark.LocalCommit n g ∷ ms) = held-same node xs ms
  held-same node xs (mark.Decided g ∷ ms) = held-same node xs ms
  held-same node xs (mark.JournalFailed n g ∷ ms) = held-same node xs ms
  held-same node xs (mark.Restart n ∷ ms) = held-same node xs ms
  held-same node xs (mark.Sent to k m ∷ ms) = held-same node xs ms
  held-same node xs (mark.Report n k graph ∷ ms) = held-same node xs ms
  held-same node xs (mark.Recheck k own verdict ∷ ms) = held-same node xs ms

-- AT ALL NODES
pub below_next : (marks : List Mark) (c : Claim) (k : ℕ) → is_held_below marks c (k + 1) ≡ (is_held_below marks c k && held_from k c false marks)
below_next marks c k = ap (is_held_below marks c) (add-one k)

apart : (m k : ℕ) → m < suc k → (m == k) ≡ false → m < k
apart m k low e = grind (arith, nat_tests)

module _ (marks : List Mark) (c : Claim) where
  below-is : (k : ℕ) → is_held_below marks c k ≡ true → (node : Node) → node.0 < k → list_any (same_claim c) (holds_at marks node) ≡ true
  below-is zero e node low = absurd (omega (arith, low))
  below-is (suc k) e node low = by_place (node.0 == k) refl (below-is k (and-first (is_held_below marks c k) _ e) node)
    where
      by_place : (b : Bool) → (node.0 == k) ≡ b → (node.0 < k → list_any (same_claim c) (holds_at marks node) ≡ true) → list_any (same_claim c) (holds_at marks node) ≡ true
      by_place true at lower =
          held-same c node [] marks ∙ ap (λ (n : ℕ). held_from n c false marks) (same-of node.0 k at)
          ∙ and-second (is_held_below marks c k) _ e
      by_place false at lower = lower (apart node.0 k low at)

  is-below : (k : ℕ) → ((node : Node) → node.0 < k → list_any (same_claim c) (holds_at marks node) ≡ true) → is_held_below marks c k ≡ true
  is-below zero h = refl
  is-below (suc k) h =
      and_from (is_held_below marks c k) _ (is-below k (λ node low. h node (omega (arith, low))))
      (sym (held-same c (record { 0 = k }) [] marks) ∙ h (record { 0 = k }) (omega arith))

module _ (script : Script) (marks : List Mark) (g : Gxid) (table : Table) (mode : Mode) where
  pub locked-is : has_locked marks script.segments g table mode ≡ true → Locks script marks g table mode
  locked-is e node low = below-is marks (claim g (Relation table) mode) (script.segments + 1) e node (omega (arith, low))

  pub is-locked : Locks script marks g table mode → has_locked marks script.segments g table mode ≡ true
  is-locked h = is-below marks (claim g (Relation table) mode) (script.segments + 1) (λ node low. h node (omega (arith, low)))
