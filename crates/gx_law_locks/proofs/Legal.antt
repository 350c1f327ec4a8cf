-- Marks that are right where they stand are legal in a history.
use Rattle.std.proofs.Common.{◌≡◌, ◌||◌, Bool, true, false, not, cond, List, [], ◌∷◌, ◌++◌, Some, None, refl, sym, subst, append_assoc, append-nil, arith}
use Rattle.std.proofs.lemmas.List.Elements.{All-cons, All-nil}
use Rattle.std.proofs.lemmas.List.Folds.{Any-from_list_any}
use Rattle.std.specs.List.{list_any}
use Rattle.std.specs.Prelude.{All, Any, find}
use Rattle.gx_lemmas.proofs.Tests.{true-false}
use Rattle.gx_ids.specs.declared.ids.Gxid.{Gxid}
use Rattle.gx_ids.specs.declared.ids.Node.{Node}
use Rattle.gx_waits.specs.Claim.{Meets, in_the_way, meets}
use Rattle.gx_waits.specs.declared.claim.Claim.{Claim}
use Rattle.gx_locks.proofs.Meets.{Meets_from_test, test_from_Meets}
use Rattle.gx_waits.specs.Claims.{claim, is_free, is_of}
use Rattle.gx_script.specs.declared.Script.{Script}
use Rattle.gx_store.proofs.Exclusive.{holds_from-append}
use Rattle.gx_store.specs.declared.mark.Mark.{Mark}
use Rattle.gx_store.specs.declared.mark.Mark.TheVariants as mark
use Rattle.gx_store.specs.Locks.{AreGranted, LegalHold}
use Rattle.gx_store.specs.Ordered.{IsAtNode}
use Rattle.gx_store.specs.Waits.{holds_at, holds_from, waits_at, waits_from}
use Rattle.gx_law_order.specs.Lists.{Each}
use Rattle.gx_law_locks.specs.Marked.{AreWaitsLegal, IsWaitLegal}
use Rattle.gx_law_locks.proofs.Marks.{AreRight, waits_from-append}

-- GRANTS
not-both : (a b : Bool) → not (a || b) ≡ true → (a ≡ false) × (not b ≡ true)
not-both true b e = absurd (cc)
not-both false b e = (refl, e)

free-meets : (wanted : Claim) (holds : List Claim) → is_free holds wanted ≡ true → All (λ hold. Meets wanted hold → ⊥) holds
free-meets wanted [] e = All-nil (λ hold. Meets wanted hold → ⊥)
free-meets wanted (h ∷ hs) e =
    let two = not-both (meets wanted h) (list_any (meets wanted) hs) e in
    All-cons (λ hold. Meets wanted hold → ⊥) h hs (λ m. true-false (meets wanted h) (test_from_Meets wanted h m) two.0) (free-meets wanted hs two.1)

-- WHO BEGINS TO WAIT
met-some : (wanted : Claim) (holds : List Claim) → is_free holds wanted ≡ false → Any (λ hold. Meets wanted hold) holds
met-some wanted holds e = has-met (Any-from_list_any (meets wanted) holds (not-false (list_any (meets wanted) holds) e))
  where
    not-false : (b : Bool) → not b ≡ false → b ≡ true
    not-false b e = grind arith

    has-met : Any (λ hold. meets wanted hold ≡ true) holds → Any (λ hold. Meets wanted hold) holds
    has-met a = (a.0, a.1, a.2, a.3, Meets_from_test wanted a.1 a.4)

pub none-listed : (g : Gxid) (waits : List Claim) → find (is_of g) waits ≡ None → list_any (is_of g) waits ≡ false
none-listed g [] e = refl
none-listed g (x ∷ xs) e = by_test (is_of g x) e (none-listed g xs)
  where
    by_test : (b : Bool) → cond b (Some x) (find (is_of g) xs) ≡ None → (find (is_of g) xs ≡ None → list_any (is_of g) xs ≡ false) → (b || list_any (is_of g) xs) ≡ false
    by_test true q more = absurd (cc)
    by_test false q more = more q

-- ALL MARKS OF A NODE
abbrev IsRightAt : Node → List Mark → List Mark → Type 0
IsRightAt node marks ms = AreRight node (holds_at marks node) (waits_at marks node) ms

right-next : (node : Node) (marks : List Mark) (m : Mark) (ms : List Mark)
    → AreRight node (holds_from node (holds_at marks node) (m ∷ [])) (waits_from node (waits_at marks node) (m ∷ [])) ms → IsRightAt node (marks ++ m ∷ []) ms
right-next node marks m ms b =
    subst (λ h. AreRight node h (waits_at (marks ++ m ∷ []) node) ms) (sym (holds_from-append node [] marks (m ∷ [])))
    (subst (λ h. AreRight node (holds_from node (holds_at marks node) (m ∷ [])) h ms) (sym (waits_from-append node [] marks (m ∷ []))) b)

pub right-granted : (script : Script) (node : Node) (marks ms : List Mark) → Each (IsAtNode script node) ms → IsRightAt node marks ms → AreGranted marks ms
right-granted script node marks [] e f = tt
right-granted script node marks (mark.Hold n g object mode ∷ ms) e f = (
  subst (λ (k : Node). LegalHold marks k (claim g object mode)) (sym e.0) (free-meets (claim g object mode) (in_the_way (holds_at marks node) (waits_at marks node) (claim g object mode)) f.0),
  right-granted script node (marks ++ mark.Hold n g object mode ∷ []) ms e.1 (right-next node marks (mark.Hold n g object mode) ms f.1),
)
right-granted script node marks (mark.Wait n g object mode ∷ ms) e f = right-granted script node (marks ++ mark.Wait n g object mode ∷ []) ms e.1 (right-next node marks (mark.Wait n g object mode) ms f.1)
right-granted script node marks (mark.Release n g object mode ∷ ms) e f = right-granted script node (marks ++ mark.Release n g object mode ∷ []) ms e.1 (right-next node marks (mark.Release n g object mode) ms f)
right-granted script node marks (m ∷ ms) e f = right-granted script node (marks ++ m ∷ []) ms e.1 (right-next node marks m ms f)

pub right-waits : (script : Script) (node : Node) (marks ms : List Mark) → Each (IsAtNode script node) ms → IsRightAt node marks ms → AreWaitsLegal marks ms
right-waits script node marks [] e b = tt
right-waits script node marks (mark.Wait n g object mode ∷ ms) e b = (
  subst (λ (k : Node). IsWaitLegal marks k (claim g object mode)) (sym e.0) (record { meets = met-some (claim g object mode) (in_the_way (holds_at marks node) (waits_at marks node) (claim g object mode)) b.0.met; alone = none-listed g (waits_at marks node) b.0.alone }),
  right-waits script node (marks ++ mark.Wait n g object mode ∷ []) ms e.1 (right-next node marks (mark.Wait n g object mode) ms b.1),
)
right-waits script node marks (mark.Hold n g object mode ∷ ms) e b = right-waits script node (marks ++ mark.Hold n g object mode ∷ []) ms e.1 (right-next node marks (mark.Hold n g object mode) ms b.1)
right-waits script node marks (mark.Release n g object mode ∷ ms) e b = right-waits script node (marks ++ mark.Release n g object mode ∷ []) ms e.1 (right-next node marks (mark.Release n g object mode) ms b)
right-waits script node marks (m ∷ ms) e b = right-waits script node (marks ++ m ∷ []) ms e.1 (right-next node marks m ms b)

pub waits-more : (before xs ys : List Mark) → AreWaitsLegal before xs → AreWaitsLegal (before ++ xs) ys → AreWaitsLegal before (xs ++ ys)
waits-more before [] ys e f = subst (λ b. AreWaitsLegal b ys) (append-nil before) f
waits-more before (mark.Wait n g object mode ∷ xs) ys e f =
    (e.0, waits-more (before ++ mark.Wait n g object mode ∷ []) xs ys e.1 (subst (λ b. AreWaitsLegal b ys) (sym (append_assoc before (mark.Wait n g object mode ∷ []) xs)) f))
waits-more before (m ∷ xs) ys e f = waits-more (before ++ m ∷ []) xs ys e (subst (λ b. AreWaitsLegal b ys) (sym (append_assoc before (m ∷ []) xs)) f)
