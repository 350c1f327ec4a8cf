-- What stays held.
use Rattle.std.proofs.Common.{◌≡◌, ◌==◌, ◌||◌, ◌&&◌, ◌⊎◌, inl, inr, ℕ, Bool, true, false, not, cond, List, [], ◌∷◌, ◌++◌, refl, sym, subst, ap, ◌∙◌, if◌then◌else◌, append_assoc, append-nil, arith}
use Rattle.std.proofs.lemmas.Bool.Decides.{nat_tests}
use Rattle.std.proofs.lemmas.List.Folds.{list_any-append}
use Rattle.std.specs.List.{list_any}
use Rattle.std.specs.Prelude.{filter}
use Rattle.std.proofs.lemmas.Bool.{or_left, or_right}
use Rattle.gx_lemmas.proofs.Tests.{true-false}
use Rattle.gx_ids.specs.declared.ids.Gxid.{Gxid}
use Rattle.gx_ids.specs.declared.ids.Node.{Node}
use Rattle.gx_modes.specs.Table.{number_of}
use Rattle.gx_modes.specs.declared.modes.Mode.{Mode}
use Rattle.gx_modes.specs.declared.modes.Mode.TheVariants.{AccessExclusive, AccessShare, Exclusive, RowExclusive, RowShare, Share, ShareRowExclusive, ShareUpdateExclusive}
use Rattle.gx_waits.specs.Claim.{same_claim, same_object}
use Rattle.gx_waits.specs.declared.claim.Claim.{Claim}
use Rattle.gx_waits.specs.declared.object.Object.{Object}
use Rattle.gx_waits.specs.declared.object.Object.TheVariants.{Relation, Transaction, Tuple}
use Rattle.gx_locks.proofs.Filed.{other_claim-turned, same_claim-along}
use Rattle.gx_locks.proofs.Meets.{same_object-same}
use Rattle.gx_waits.specs.Claims.{claim, is_of, with_claim, without, without_claim}
use Rattle.gx_store.proofs.Exclusive.{holds_from-append}
use Rattle.gx_store.specs.declared.mark.Mark.{Mark}
use Rattle.gx_store.specs.declared.mark.Mark.TheVariants as mark
use Rattle.gx_store.specs.Locks.{IsMomentary}
use Rattle.gx_store.specs.Marks.{is_ended}
use Rattle.gx_store.specs.Waits.{holds_at, is_held}
use Rattle.gx_law_order.specs.Lists.{Each}
use Rattle.gx_law_locks.specs.Lasting.{IsLasting}
use Rattle.gx_law_locks.specs.Late.{AreReleasesLate}
use Rattle.gx_law_locks.proofs.Claims.{claim-itself}
use Rattle.gx_law_locks.proofs.Marks.{Quiet, ended-more, node-itself, quiet-holds}

abbrev pub IsIn : List Claim → Claim → Type 0
IsIn holds c = list_any (same_claim c) holds ≡ true

-- HOLDS
pub in-filter : (p : Claim → Bool) (c : Claim) (xs : List Claim) → ((x : Claim) → same_claim c x ≡ true → p x ≡ true) → IsIn xs c → IsIn (filter p xs) c
in-filter p c [] f e = e
in-filter p c (x ∷ xs) f e = by_tests (p x) refl (same_claim c x) refl e (in-filter p c xs f)
  where
    by_tests : (b : Bool) → p x ≡ b → (q : Bool) → same_claim c x ≡ q → (q || list_any (same_claim c) xs) ≡ true → (IsIn xs c → IsIn (filter p xs) c) → IsIn (cond b (x ∷ filter p xs) (filter p xs)) c
    by_tests true pe true qe e r = or_left (same_claim c x) _ qe
    by_tests true pe false qe e r = or_right (same_claim c x) _ (r e)
    by_tests false pe true qe e r = absurd (true-false (p x) (f x qe) pe)
    by_tests false pe false qe e r = r e

pub in-added : (new c : Claim) (xs : List Claim) → IsIn xs c → IsIn (with_claim new xs) c
in-added new c xs e = by_test (list_any (same_claim new) xs)
  where
    by_test : (b : Bool) → IsIn (if b then xs else xs ++ new ∷ []) c
    by_test true = e
    by_test false = list_any-append (same_claim c) xs (new ∷ []) ∙ or_left (list_any (same_claim c) xs) _ e

pub in-new : (c : Claim) (xs : List Claim) → IsIn (with_claim c xs) c
in-new c xs = by_test (list_any (same_claim c) xs) refl
  where
    by_test : (b : Bool) → list_any (same_claim c) xs ≡ b → IsIn (if b then xs else xs ++ c ∷ []) c
    by_test true e = e
    by_test false e = list_any-append (same_claim c) xs (c ∷ []) ∙ or_right (list_any (same_claim c) xs) _ (or_left (same_claim c c) false (claim-itself c))

apart : (a b d : ℕ) (r s : Bool) → (a == b) ≡ false → ((a == d) && r) ≡ true → not ((b == d) && s) ≡ true
apart a b d r s e f = grind (arith, nat_tests)

pub in-without : (old c : Claim) (xs : List Claim) → (c.gxid.0 == old.gxid.0) ≡ false → IsIn xs c → IsIn (without_claim old xs) c
in-without old c xs e f = in-filter (λ x. not (same_claim old x)) c xs (λ x s. apart c.gxid.0 old.gxid.0 x.gxid.0 _ _ e s) f

-- another claim is taken away
pub in-less : (old c : Claim) (xs : List Claim) → same_claim old c ≡ false → IsIn xs c → IsIn (without_claim old xs) c
in-less old c xs e f = in-filter (λ x. not (same_claim old x)) c xs (λ x s. ap not (other_claim-turned x old (sym (same_claim-along c x old s) ∙ other_claim-turned old c e))) f

-- LOCKS THAT LAST
share-alone : (mode : Mode) → (number_of Share == number_of mode) ≡ true → mode ≡ Share
share-alone Share e = refl
share-alone AccessShare e = absurd (cc)
share-alone RowShare e = absurd (cc)
share-alone RowExclusive e = absurd (cc)
share-alone ShareUpdateExclusive e = absurd (cc)
share-alone ShareRowExclusive e = absurd (cc)
share-alone Exclusive e = absurd (cc)
share-alone AccessExclusive e = absurd (cc)

momentary-mode : (node : Node) (o : Object) (a b : Mode) → (number_of a == number_of b) ≡ true → IsMomentary node o a → IsMomentary node o b
momentary-mode node (Relation t) a b e m = m
momentary-mode node (Tuple r) a b e m = m
momentary-mode node (Transaction h) a b e m = (m.0, share-alone b (subst (λ (x : Mode). (number_of x == number_of b) ≡ true) m.1 e))

-- a lasting claim is none that is given back before the end
pub lasting-apart : (node : Node) (old c : Claim) → IsMomentary node old.object old.mode → IsLasting node c → same_claim old c ≡ false
lasting-apart node old c brief lasts = by_test (same_claim old c) refl
  where
    parts : (a b d : Bool) → (a && (b && d)) ≡ true → (b ≡ true) × (d ≡ true)
    parts true true true e = (refl, refl)
    parts true true false e = absurd (cc)
    parts true false d e = absurd (cc)
    parts false b d e = absurd (cc)

    by_test : (b : Bool) → same_claim old c ≡ b → b ≡ false
    by_test true e =
        let p = parts (old.gxid.0 == c.gxid.0) (same_object old.object c.object) (number_of old.mode == number_of c.mode) e in
        absurd (lasts (momentary-mode node c.object old.mode c.mode p.1 (subst (λ o. IsMomentary node o old.mode) (same_object-same old.object c.object p.0) brief)))
    by_test false e = refl

-- so it stays when such a one is given back
pub in-given : (node : Node) (old c : Claim) (xs : List Claim) → IsMomentary node old.object old.mode → IsLasting node c → IsIn xs c → IsIn (without_claim old xs) c
in-given node old c xs brief lasts f = in-less old c xs (lasting-apart node old c brief lasts) f

others : (a b d : ℕ) (r : Bool) → (a == b) ≡ false → ((a == d) && r) ≡ true → not (d == b) ≡ true
others a b d r e f = grind (arith, nat_tests)

pub in-released : (g : Gxid) (c : Claim) (xs : List Claim) → (c.gxid.0 == g.0) ≡ false → IsIn xs c → IsIn (without g xs) c
in-released g c xs e f = in-filter (λ x. not (is_of g x)) c xs (λ x s. others c.gxid.0 g.0 x.gxid.0 _ e s) f

-- MARKS
pub late-front : (before xs ys : List Mark) → AreReleasesLate before (xs ++ ys) → AreReleasesLate before xs
late-front before [] ys e = tt
late-front before (mark.Release n g object mode ∷ xs) ys e = (e.0, late-front (before ++ mark.Release n g object mode ∷ []) xs ys e.1)
late-front before (m ∷ xs) ys e = late-front (before ++ m ∷ []) xs ys e

pub late-behind : (before xs ys : List Mark) → AreReleasesLate before (xs ++ ys) → AreReleasesLate (before ++ xs) ys
late-behind before [] ys e = subst (λ b. AreReleasesLate b ys) (sym (append-nil before)) e
late-behind before (mark.Release n g object mode ∷ xs) ys e = subst (λ b. AreReleasesLate b ys) (append_assoc before (mark.Release n g object mode ∷ []) xs) (late-behind (before ++ mark.Release n g object mode ∷ []) xs ys e.1)
late-behind before (m ∷ xs) ys e = subst (λ b. AreReleasesLate b ys) (append_assoc before (m ∷ []) xs) (late-behind (before ++ m ∷ []) xs ys e)

-- behind one mark more
added-on : (new c : Claim) (xs : List Claim) → IsIn xs c → (b : Bool) → IsIn (if b then with_claim new xs else xs) c
added-on new c xs f true = in-added new c xs f
added-on new c xs f false = f

runs-on : (before ms : List Mark) (g h : Gxid) → is_ended before g ≡ true → is_ended (before ++ ms) h ≡ false → (h.0 == g.0) ≡ false
runs-on before ms g h e f = by_test (h.0 == g.0) refl
  where
    same-gxid : (a b : Gxid) → (a.0 == b.0) ≡ true → b ≡ a
    same-gxid a b q = grind (arith, nat_tests)

    by_test : (b : Bool) → (h.0 == g.0) ≡ b → b ≡ false
    by_test true q = absurd (true-false (is_ended (before ++ ms) h) (ended-more before ms h (subst (λ (k : Gxid). is_ended before k ≡ true) (same-gxid h g q) e)) f)
    by_test false q = refl

-- a release leaves a lasting hold of who hasn't ended
held-on : (node n : Node) (g : Gxid) (object : Object) (mode : Mode) (c : Claim) (before ms : List Mark) → IsLasting node c
    → IsMomentary n object mode ⊎ (is_ended before g ≡ true) → is_ended (before ++ ms) c.gxid ≡ false → (xs : List Claim) → IsIn xs c
    → IsIn (if n.0 == node.0 then without_claim (claim g object mode) xs else xs) c
held-on node n g object mode c before ms lasts late run xs f = by_node (n.0 == node.0) refl late
  where
    same-node : (a b : Node) → (a.0 == b.0) ≡ true → a ≡ b
    same-node a b e = grind (arith, nat_tests)

    by_node : (b : Bool) → (n.0 == node.0) ≡ b → IsMomentary n object mode ⊎ (is_ended before g ≡ true) → IsIn (if b then without_claim (claim g object mode) xs else xs) c
    by_node false e l = f
    by_node true e (inl brief) = in-given node (claim g object mode) c xs (subst (λ (k : Node). IsMomentary k object mode) (same-node n node e) brief) lasts f
    by_node true e (inr over) = in-without (claim g object mode) c xs (runs-on before ms g c.gxid over run) f

pub still-held : (node : Node) (c : Claim) → IsLasting node c → (before ms : List Mark) → AreReleasesLate before ms → is_ended (before ++ ms) c.gxid ≡ false
    → IsIn (holds_at before node) c → IsIn (holds_at (before ++ ms) node) c
still-held node c lasts before [] e f h = subst (λ b. IsIn (holds_at b node) c) (sym (append-nil before)) h
still-held node c lasts before (mark.Hold n g object mode ∷ ms) e f h =
    subst (λ b. IsIn (holds_at b node) c) (append_assoc before (mark.Hold n g object mode ∷ []) ms)
    (still-held node c lasts (before ++ mark.Hold n g object mode ∷ []) ms e (subst (λ b. is_ended b c.gxid ≡ false) (sym (append_assoc before (mark.Hold n g object mode ∷ []) ms)) f)
    (subst (λ xs. IsIn xs c) (sym (holds_from-append node [] before (mark.Hold n g object mode ∷ []))) (added-on (claim g object mode) c (holds_at before node) h (n.0 == node.0))))
still-held node c lasts before (mark.Release n g object mode ∷ ms) e f h =
    subst (λ b. IsIn (holds_at b node) c) (append_assoc before (mark.Release n g object mode ∷ []) ms)
    (still-held node c lasts (before ++ mark.Release n g object mode ∷ []) ms e.1 (subst (λ b. is_ended b c.gxid ≡ false) (sym (append_assoc before (mark.Release n g object mode ∷ []) ms)) f)
    (subst (λ xs. IsIn xs c) (sym (holds_from-append node [] before (mark.Release n g object mode ∷ [])))
    (held-on node n g object mode c before (mark.Release n g object mode ∷ ms) lasts e.0 f (holds_at before node) h)))
still-held node c lasts before (m ∷ ms) e f h =
    subst (λ b. IsIn (holds_at b node) c) (append_assoc before (m ∷ []) ms)
    (still-held node c lasts (before ++ m ∷ []) ms e (subst (λ b. is_ended b c.gxid ≡ false) (sym (append_assoc before (m ∷ []) ms)) f) (subst (λ xs. IsIn xs c) (sym (holds_from-append node [] before (m ∷ []))) h))

pub holds-last : (before later : List Mark) (node : Node) (g : Gxid) (object : Object) (mode : Mode) → IsLasting node (claim g object mode)
    → AreReleasesLate [] (before ++ mark.Hold node g object mode ∷ later) → is_ended (before ++ mark.Hold node g object mode ∷ later) g ≡ false
    → is_held (before ++ mark.Hold node g object mode ∷ later) node g object mode ≡ true
holds-last before later node g object mode lasts e f =
    subst (λ b. IsIn (holds_at b node) (claim g object mode)) (append_assoc before (mark.Hold node g object mode ∷ []) later)
    (still-held node (claim g object mode) lasts (before ++ mark.Hold node g object mode ∷ []) later (late-behind [] before (mark.Hold node g object mode ∷ later) e)
    (subst (λ b. is_ended b g ≡ false) (sym (append_assoc before (mark.Hold node g object mode ∷ []) later)) f)
    (subst (λ xs. IsIn xs (claim g object mode)) (sym (holds_from-append node [] before (mark.Hold node g object mode ∷ [])))
    (subst (λ b. IsIn (if b then with_claim (claim g object mode) (holds_at before node) else holds_at before node) (claim g object mode)) (sym (node-itself node)) (in-new (claim g object mode) (holds_at before node)))))

-- a grant stands behind marks that change no hold
pub granted-held : (before ms : List Mark) (node : Node) (g : Gxid) (object : Object) (mode : Mode) → Each Quiet ms → is_held (before ++ mark.Hold node g object mode ∷ ms) node g object mode ≡ true
granted-held before ms node g object mode quiet =
    subst (λ hs. IsIn hs (claim g object mode)) (sym (holds_from-append node [] before (mark.Hold node g object mode ∷ ms) ∙ quiet-holds node (if node.0 == node.0 then with_claim (claim g object mode) (holds_at before node) else holds_at before node) ms quiet))
    (subst (λ b. IsIn (if b then with_claim (claim g object mode) (holds_at before node) else holds_at before node) (claim g object mode)) (sym (node-itself node)) (in-new (claim g object mode) (holds_at before node)))
