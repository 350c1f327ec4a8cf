-- Legal locks exclude one another at each point.
use Rattle.std.proofs.Common.{◌≡◌, ◌<◌, ◌==◌, ℕ, Bool, true, false, List, [], ◌∷◌, ◌++◌, refl, sym, subst, ap, ◌∙◌, if◌then◌else◌, append_assoc, append-nil, arith}
use Rattle.std.proofs.lemmas.Bool.Decides.{nat_tests}
use Rattle.std.proofs.lemmas.List.{get_or_append_left, length-append}
use Rattle.std.proofs.lemmas.List.Concat.{flat_map-append}
use Rattle.std.proofs.lemmas.List.Elements.{All-get_or}
use Rattle.std.proofs.lemmas.List.Kept.{AllPairs-filter}
use Rattle.std.proofs.lemmas.List.Quantifiers.{all_pairs_push}
use Rattle.std.specs.List.{list_any}
use Rattle.std.specs.Prelude.{All, AllPairs, filter, not}
use Rattle.gx_ids.specs.declared.ids.Node.{Node}
use Rattle.gx_script.specs.declared.Script.{Script}
use Rattle.gx_waits.specs.Claim.{Meets, ahead, is_ahead, same_claim}
use Rattle.gx_waits.specs.declared.claim.Claim.{Claim}
use Rattle.gx_store.specs.declared.event.Event.{Event}
use Rattle.gx_store.specs.declared.mark.Mark.{Mark}
use Rattle.gx_store.specs.declared.mark.Mark.TheVariants as mark
use Rattle.gx_store.specs.declared.run.Step.{Step}
use Rattle.gx_store.specs.Locks.{AreExclusive, AreGranted, AreLockedMarks, AreLockedSteps, LegalHold}
use Rattle.gx_store.specs.Points.{IsPointOf, Point, before, marks_in}
use Rattle.gx_store.specs.Waits.{holds_at, holds_from, waits_at}
use Rattle.gx_waits.specs.Claims.{claim, with_claim, without_claim}
use Rattle.gx_store.proofs.Runs.{marks_in-push}

abbrev Apart : Claim → Claim → Type 0
Apart earlier later = Meets later earlier → ⊥

-- LISTS
pub holds_from-append : (node : Node) (holds : List Claim) (xs ys : List Mark) → holds_from node holds (xs ++ ys) ≡ holds_from node (holds_from node holds xs) ys
holds_from-append node holds [] ys = refl
holds_from-append node holds (mark.Hold n g object mode ∷ xs) ys = holds_from-append node (if n.0 == node.0 then with_claim (claim g object mode) holds else holds) xs ys
holds_from-append node holds (mark.Release n g object mode ∷ xs) ys = holds_from-append node (if n.0 == node.0 then without_claim (claim g object mode) holds else holds) xs ys
holds_from-append node holds (m ∷ xs) ys = holds_from-append node holds xs ys

pub granted-front : (marks xs ys : List Mark) → AreGranted marks (xs ++ ys) → AreGranted marks xs
granted-front marks [] ys h = tt
granted-front marks (mark.Hold n g object mode ∷ xs) ys h = (h.0, granted-front (marks ++ mark.Hold n g object mode ∷ []) xs ys h.1)
granted-front marks (m ∷ xs) ys h = granted-front (marks ++ m ∷ []) xs ys h

pub granted-more : (marks xs ys : List Mark) → AreGranted marks xs → AreGranted (marks ++ xs) ys → AreGranted marks (xs ++ ys)
granted-more marks [] ys h k = subst (λ m. AreGranted m ys) (append-nil marks) k
granted-more marks (mark.Hold n g object mode ∷ xs) ys h k = (h.0, granted-more (marks ++ mark.Hold n g object mode ∷ []) xs ys h.1 (subst (λ m. AreGranted m ys) (sym (append_assoc marks (mark.Hold n g object mode ∷ []) xs)) k))
granted-more marks (m ∷ xs) ys h k = granted-more (marks ++ m ∷ []) xs ys h (subst (λ m. AreGranted m ys) (sym (append_assoc marks (m ∷ []) xs)) k)

-- HOLDS
with-more : (new : Claim) (holds : List Claim) → All (λ hold. Meets new hold → ⊥) holds → AllPairs Apart holds → AllPairs Apart (with_claim new holds)
with-more new holds free apart = by_test (list_any (same_claim new) holds)
  where
    by_test : (b : Bool) → AllPairs Apart (if b then holds else holds ++ new ∷ [])
    by_test true = apart
    by_test false = all_pairs_push Apart holds new apart (λ k d below. All-get_or (λ hold. Meets new hold → ⊥) holds k d below free)

-- what meets nobody in its way meets no hold
all-front : {A : Type 0} (P : A → Type 0) (xs ys : List A) → All P (xs ++ ys) → All P xs
all-front P xs ys all k d below = subst P (get_or_append_left xs ys d k below) (all k d (omega (below, length-append xs ys, arith)))

pub meets-no-hold : (marks : List Mark) (node : Node) (new : Claim) → LegalHold marks node new → All (λ hold. Meets new hold → ⊥) (holds_at marks node)
meets-no-hold marks node new legal = all-front (λ other. Meets new other → ⊥) (holds_at marks node) (filter (is_ahead (holds_at marks node) new) (ahead new (waits_at marks node))) legal

abbrev Exclusive : Node → List Mark → Type 0
Exclusive node marks = AllPairs Apart (holds_at marks node)

-- behind one mark more
behind-hold : (node n : Node) (new : Claim) (marks : List Mark) → LegalHold marks n new → Exclusive node marks → (b : Bool) → (n.0 == node.0) ≡ b → AllPairs Apart (if b then with_claim new (holds_at marks node) else holds_at marks node)
behind-hold node n new marks free apart true same = with-more new (holds_at marks node) (meets-no-hold marks node new (subst (λ (k : Node). LegalHold marks k new) (same-node n.0 node.0 same) free)) apart
  where
    same-node : (a b : ℕ) → (a == b) ≡ true → (let n : Node = record { 0 = a } in n) ≡ record { 0 = b }
    same-node a b e = ap (λ k. let n : Node = record { 0 = k } in n) (same-number a b e)
      where
        same-number : (a b : ℕ) → (a == b) ≡ true → a ≡ b
        same-number a b e = grind (arith, nat_tests)
behind-hold node n new marks free apart false same = apart

behind-release : (old : Claim) (holds : List Claim) → AllPairs Apart holds → (b : Bool) → AllPairs Apart (if b then without_claim old holds else holds)
behind-release old holds apart true = AllPairs-filter Apart (λ other. not (same_claim old other)) holds apart
behind-release old holds apart false = apart

exclusive-on : (node : Node) (marks ms : List Mark) → AreGranted marks ms → Exclusive node marks → Exclusive node (marks ++ ms)
exclusive-on node marks [] h e = subst (Exclusive node) (sym (append-nil marks)) e
exclusive-on node marks (mark.Hold n g object mode ∷ ms) h e =
    subst (Exclusive node) (append_assoc marks (mark.Hold n g object mode ∷ []) ms)
    (exclusive-on node (marks ++ mark.Hold n g object mode ∷ []) ms h.1
    (subst (AllPairs Apart) (sym (holds_from-append node [] marks (mark.Hold n g object mode ∷ []))) (behind-hold node n (claim g object mode) marks h.0 e (n.0 == node.0) refl)))
exclusive-on node marks (mark.Release n g object mode ∷ ms) h e =
    subst (Exclusive node) (append_assoc marks (mark.Release n g object mode ∷ []) ms)
    (exclusive-on node (marks ++ mark.Release n g object mode ∷ []) ms h
    (subst (AllPairs Apart) (sym (holds_from-append node [] marks (mark.Release n g object mode ∷ []))) (behind-release (claim g object mode) (holds_at marks node) e (n.0 == node.0))))
exclusive-on node marks (m ∷ ms) h e =
    subst (Exclusive node) (append_assoc marks (m ∷ []) ms)
    (exclusive-on node (marks ++ m ∷ []) ms h (subst (AllPairs Apart) (sym (holds_from-append node [] marks (m ∷ []))) e))

-- behind marks that grant so
pub exclusive-behind : (marks : List Mark) → AreGranted [] marks → AreExclusive marks
exclusive-behind marks h node = exclusive-on node [] marks h (λ i j d l below. absurd (none j below))
  where
    none : (j : ℕ) → j < 0 → ⊥
    none j l = omega arith

-- STEPS
marks-granted : (script : Script) (steps : List Step) (event : Event) (earlier ms : List Mark) → AreLockedMarks script steps event earlier ms → AreGranted (marks_in steps ++ earlier) ms
marks-granted script steps event earlier [] h = tt
marks-granted script steps event earlier (mark.Hold n g object mode ∷ ms) h =
    (h.0.here, subst (λ m. AreGranted m ms) (sym (append_assoc (marks_in steps) earlier (mark.Hold n g object mode ∷ []))) (marks-granted script steps event (earlier ++ mark.Hold n g object mode ∷ []) ms h.1))
marks-granted script steps event earlier (m ∷ ms) h = subst (λ b. AreGranted b ms) (sym (append_assoc (marks_in steps) earlier (m ∷ []))) (marks-granted script steps event (earlier ++ m ∷ []) ms h.1)

steps-granted : (script : Script) (steps ss : List Step) → AreLockedSteps script steps ss → AreGranted (marks_in steps) (marks_in ss)
steps-granted script steps [] h = tt
steps-granted script steps (s ∷ ss) h =
    granted-more (marks_in steps) s.marks (marks_in ss) (subst (λ m. AreGranted m s.marks) (append-nil (marks_in steps)) (marks-granted script steps s.event [] s.marks h.0))
    (subst (λ m. AreGranted m (marks_in ss)) (marks_in-push steps s) (steps-granted script (steps ++ s ∷ []) ss h.2))

pub exclusive-at : (script : Script) (steps : List Step) (point : Point) → AreLockedSteps script [] steps → IsPointOf steps point → AreExclusive (before point)
exclusive-at script steps point h of =
    exclusive-behind (before point) (granted-front [] (before point) (point.later ++ marks_in of.rest) (subst (AreGranted []) split (steps-granted script [] steps h)))
  where
    split : marks_in steps ≡ before point ++ (point.later ++ marks_in of.rest)
    split =
        ap marks_in of.among ∙ flat_map-append (λ (s : Step). s.marks) point.steps (of.step ∷ of.rest) ∙ ap (λ m. marks_in point.steps ++ (m ++ marks_in of.rest)) of.marks
        ∙ ap (λ m. marks_in point.steps ++ m) (append_assoc point.earlier point.later (marks_in of.rest)) ∙ sym (append_assoc (marks_in point.steps) point.earlier (point.later ++ marks_in of.rest))
