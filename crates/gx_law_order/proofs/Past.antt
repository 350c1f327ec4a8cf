-- The ends of transactions in the marks, and their stages.
use Rattle.std.proofs.Common.{◌≡◌, ◌≤◌, ◌<◌, ℕ, suc, zero, ◌+◌, List, [], ◌∷◌, ◌++◌, Option, Some, None, Bool, true, false, refl, sym, subst, ap, ◌∙◌, cond, if◌then◌else◌, ◌&&◌, ◌||◌, not, arith, eqb, append-nil}
use Rattle.std.proofs.lemmas.Bool.{eqb-true}
use Rattle.std.proofs.lemmas.Bool.Decides.{nat_tests}
use Rattle.std.proofs.lemmas.List.{append_assoc}
use Rattle.std.specs.Prelude.{filter}
use Rattle.gx_lemmas.proofs.Tests.{or-assoc, true-false}
use Rattle.gx_ids.specs.declared.ids.Gxid.{Gxid}
use Rattle.gx_dsnap.specs.Gxids.{after_ended, is_below, is_listed}
use Rattle.gx_dsnap.specs.Snapshot.{sees}
use Rattle.gx_dtx.specs.Table.{find_txn, runs}
use Rattle.gx_dtx.specs.declared.txn.Txn.{Txn}
use Rattle.gx_store.specs.declared.mark.Mark.{Mark}
use Rattle.gx_store.specs.declared.mark.Mark.TheVariants as mark
use Rattle.gx_store.specs.Marks.{is_aborted, is_committed, is_ended, is_same_gxid}
use Rattle.gx_rules.specs.Coordinators.{Coord}
use Rattle.gx_rules.specs.Gxids.{gxids_from}
use Rattle.gx_rules.specs.Snapshots.{latest_number, running_below, snapshot_of}
use Rattle.gx_law_order.specs.Seen.{AreEndedSeen, SeesEnded}
use Rattle.gx_law_order.specs.Lists.{Each}
use Rattle.gx_law_order.specs.Stages.{Below, IsWhole, is_running, stage, stage_of}
use Rattle.gx_law_order.proofs.Stages.{at_gxid, first-at}
use Rattle.gx_law_order.specs.Standings.{gx}
use Rattle.gx_law_order.proofs.Statuses.{runs-stage}
use Rattle.gx_law_order.specs.Stages.Stage.{Absent}
use Rattle.gx_law_order.specs.Past.{Past}

-- MARKS
pub committed-append : (xs ys : List Mark) (g : Gxid) → is_committed (xs ++ ys) g ≡ is_committed xs g || is_committed ys g
committed-append [] ys g = refl
committed-append (mark.Commit h ∷ xs) ys g = ap (λ b. is_same_gxid h g || b) (committed-append xs ys g) ∙ or-assoc (is_same_gxid h g) (is_committed xs g) (is_committed ys g)
committed-append (m ∷ xs) ys g = committed-append xs ys g

pub aborted-append : (xs ys : List Mark) (g : Gxid) → is_aborted (xs ++ ys) g ≡ is_aborted xs g || is_aborted ys g
aborted-append [] ys g = refl
aborted-append (mark.Abort h ∷ xs) ys g = ap (λ b. is_same_gxid h g || b) (aborted-append xs ys g) ∙ or-assoc (is_same_gxid h g) (is_aborted xs g) (is_aborted ys g)
aborted-append (m ∷ xs) ys g = aborted-append xs ys g

pub seen-append : (before xs ys : List Mark) → AreEndedSeen before xs → AreEndedSeen (before ++ xs) ys → AreEndedSeen before (xs ++ ys)
seen-append before [] ys e f = subst (λ b. AreEndedSeen b ys) (append-nil before) f
seen-append before (mark.Snap g c x ∷ xs) ys e f = (e.0, seen-append (before ++ mark.Snap g c x ∷ []) xs ys e.1 (subst (λ b. AreEndedSeen b ys) (sym (append_assoc before (mark.Snap g c x ∷ []) xs)) f))
seen-append before (m ∷ xs) ys e f = seen-append (before ++ m ∷ []) xs ys e (subst (λ b. AreEndedSeen b ys) (sym (append_assoc before (m ∷ []) xs)) f)

-- marks that tell of no end and no snapshot
abbrev pub Still : Mark → Type 0
Still (mark.Commit g) = ⊥
Still (mark.Abort g) = ⊥
Still (mark.Snap g c x) = ⊥
Still _ = Unit {0}

pub still-committed : (ms : List Mark) (g : Gxid) → Each Still ms → is_committed ms g ≡ false
still-committed [] g e = refl
still-committed (mark.Commit h ∷ ms) g e = absurd e.0
still-committed (m ∷ ms) g e = still-committed ms g e.1

pub still-aborted : (ms : List Mark) (g : Gxid) → Each Still ms → is_aborted ms g ≡ false
still-aborted [] g e = refl
still-aborted (mark.Abort h ∷ ms) g e = absurd e.0
still-aborted (m ∷ ms) g e = still-aborted ms g e.1

pub still-seen : (before ms : List Mark) → Each Still ms → AreEndedSeen before ms
still-seen before [] e = tt
still-seen before (mark.Snap g c x ∷ ms) e = absurd e.0
still-seen before (m ∷ ms) e = still-seen (before ++ m ∷ []) ms e.1

-- a transaction in the table was drawn
pub there-drawn : (next h : ℕ) (es : List (Gxid × Txn)) (t : Txn) → Below next es → at_gxid h es ≡ Some t → (1 ≤ h) × (h < next)
there-drawn next h [] t b e = absurd (cc)
there-drawn next h (x ∷ xs) t b e = by_test (eqb h x.0.0) refl (sym (first-at h x xs) ∙ e) (λ f. there-drawn next h xs t b.1 f)
  where
    by_test : (q : Bool) → eqb h x.0.0 ≡ q → (if q then Some x.1 else at_gxid h xs) ≡ Some t → (at_gxid h xs ≡ Some t → (1 ≤ h) × (h < next)) → (1 ≤ h) × (h < next)
    by_test true q f r = subst (λ k. (1 ≤ k) × (k < next)) (sym (eqb-true h x.0.0 q)) b.0
    by_test false q f r = r f

pub running-drawn : (c : Coord) (h : ℕ) → IsWhole c.table → is_running (stage_of c h) ≡ true → (1 ≤ h) × (h < c.table.next.0)
running-drawn c h w e = by_found (find_txn c.table (gx h)) refl e
  where
    by_found : (t : Option Txn) → find_txn c.table (gx h) ≡ t → is_running (stage t) ≡ true → (1 ≤ h) × (h < c.table.next.0)
    by_found None f r = absurd (differ r)
      where
        differ : is_running Absent ≡ true → ⊥
        differ r = grind arith
    by_found (Some t) f r = there-drawn c.table.next.0 h c.table.txns t w.drawn f

-- SNAPSHOTS
pub listed-is : (p : Gxid → Bool) (a n h : ℕ) → is_listed (gx h) (filter p (gxids_from a n)) ≡ true → (a ≤ h) × (h < a + n) × (p (gx h) ≡ true)
listed-is p a zero h e = grind arith
listed-is p a (suc n) h e = by_test (p (gx a)) refl e (λ f. listed-is p (suc a) n h f)
  where
    widen : (suc a ≤ h) × (h < suc a + n) × (p (gx h) ≡ true) → (a ≤ h) × (h < a + suc n) × (p (gx h) ≡ true)
    widen x = (lower x.0, higher x.1, x.2)
      where
        lower : suc a ≤ h → a ≤ h
        lower y = omega arith

        higher : h < suc a + n → h < a + suc n
        higher y = omega arith

    at_head : (q : Bool) → eqb a h ≡ q → p (gx a) ≡ true → (q || is_listed (gx h) (filter p (gxids_from (suc a) n))) ≡ true → (is_listed (gx h) (filter p (gxids_from (suc a) n)) ≡ true → (suc a ≤ h) × (h < suc a + n) × (p (gx h) ≡ true)) → (a ≤ h) × (h < a + suc n) × (p (gx h) ≡ true)
    at_head true q x f r = subst (λ k. (a ≤ k) × (k < a + suc n) × (p (gx k) ≡ true)) (eqb-true a h q) (omega arith, omega arith, x)
    at_head false q x f r = widen (r f)

    by_test : (b : Bool) → p (gx a) ≡ b → is_listed (gx h) (cond b (gx a ∷ filter p (gxids_from (suc a) n)) (filter p (gxids_from (suc a) n))) ≡ true → (is_listed (gx h) (filter p (gxids_from (suc a) n)) ≡ true → (suc a ≤ h) × (h < suc a + n) × (p (gx h) ≡ true)) → (a ≤ h) × (h < a + suc n) × (p (gx h) ≡ true)
    by_test true x f r = at_head (eqb a h) refl x f r
    by_test false x f r = widen (r f)

listed-has : (p : Gxid → Bool) (a n h : ℕ) → a ≤ h → h < a + n → p (gx h) ≡ true → is_listed (gx h) (filter p (gxids_from a n)) ≡ true
listed-has p a zero h l m e = absurd (none l m)
  where
    none : a ≤ h → h < a + zero → ⊥
    none l m = omega arith
listed-has p a (suc n) h l m e = by_test (eqb a h) refl (λ k. listed-has p (suc a) n h k (lower m) e)
  where
    lower : h < a + suc n → h < suc a + n
    lower y = omega arith

    skip : (b : Bool) → is_listed (gx h) (filter p (gxids_from (suc a) n)) ≡ true → is_listed (gx h) (cond b (gx a ∷ filter p (gxids_from (suc a) n)) (filter p (gxids_from (suc a) n))) ≡ true
    skip true f = or-true (eqb a h) f
      where
        or-true : (q : Bool) → is_listed (gx h) (filter p (gxids_from (suc a) n)) ≡ true → (q || is_listed (gx h) (filter p (gxids_from (suc a) n))) ≡ true
        or-true true f = refl
        or-true false f = f
    skip false f = f

    head : (b : Bool) → b ≡ true → eqb a h ≡ true → is_listed (gx h) (cond b (gx a ∷ filter p (gxids_from (suc a) n)) (filter p (gxids_from (suc a) n))) ≡ true
    head true f q = ap (λ x. x || is_listed (gx h) (filter p (gxids_from (suc a) n))) q
    head false f q = grind arith

    by_test : (q : Bool) → eqb a h ≡ q → (suc a ≤ h → is_listed (gx h) (filter p (gxids_from (suc a) n)) ≡ true) → is_listed (gx h) (filter p (gxids_from a (suc n))) ≡ true
    by_test true q r = head (p (gx a)) (subst (λ k. p (gx k) ≡ true) (sym (eqb-true a h q)) e) q
    by_test false q r = skip (p (gx a)) (r (further a h l q))
      where
        further : (a h : ℕ) → a ≤ h → eqb a h ≡ false → suc a ≤ h
        further a h l q = grind (arith, nat_tests)

-- what is seen has ended, and who has committed is seen
pub seen-now : (c : Coord) (ms : List Mark) → Past c ms → SeesEnded ms (snapshot_of c.table)
seen-now c ms p = record { committed = λ h e. seen h (p.committed h.0 e); ended = λ h one e. past h one e }
  where
    limit : ℕ
    limit = latest_number c.table.latest_ended

    runs_at : Gxid → Bool
    runs_at g = runs (find_txn c.table g)

    below_is : (latest : Option Gxid) (h : Gxid) → h.0 ≤ latest_number latest → 1 ≤ h.0 → is_below (after_ended latest) h ≡ true
    below_is None h l o = absurd (none h.0 l o)
      where
        none : (k : ℕ) → k ≤ 0 → 1 ≤ k → ⊥
        none k l o = omega arith
    below_is (Some g) h l o = grind (arith, nat_tests)

    below_gives : (latest : Option Gxid) (h : Gxid) → 1 ≤ h.0 → is_below (after_ended latest) h ≡ true → h.0 ≤ latest_number latest
    below_gives None h o e = grind (arith, nat_tests)
    below_gives (Some g) h o e = grind (arith, nat_tests)

    not-listed : (h : Gxid) → runs_at h ≡ false → is_listed h (running_below c.table c.table.latest_ended) ≡ false
    not-listed h e = by_test (is_listed h (running_below c.table c.table.latest_ended)) refl
      where
        by_test : (b : Bool) → is_listed h (running_below c.table c.table.latest_ended) ≡ b → b ≡ false
        by_test true f = absurd (true-false (runs_at h) (listed-is runs_at 1 limit h.0 f).2 e)
        by_test false f = refl

    seen : (h : Gxid) → (1 ≤ h.0) × (h.0 < c.table.next.0) × (is_running (stage_of c h.0) ≡ false) → sees (snapshot_of c.table) h ≡ true
    seen h x =
        both (is_below (after_ended c.table.latest_ended) h) (is_listed h (running_below c.table c.table.latest_ended)) (below_is c.table.latest_ended h (p.latest h.0 x.0 x.1 x.2) x.0) (not-listed h (runs-stage (find_txn c.table h) ∙ x.2))
      where
        both : (a b : Bool) → a ≡ true → b ≡ false → (a && not b) ≡ true
        both a b e f = grind arith

    past : (h : Gxid) → 1 ≤ h.0 → sees (snapshot_of c.table) h ≡ true → is_ended ms h ≡ true
    past h one e = p.ended h.0 one (under (below_gives c.table.latest_ended h one (left _ _ e)) p.drawn) (still (is_running (stage_of c h.0)) refl)
      where
        left : (a b : Bool) → (a && not b) ≡ true → a ≡ true
        left a b e = grind arith

        right : (a b : Bool) → (a && not b) ≡ true → b ≡ false
        right a b e = grind arith

        under : {a b d : ℕ} → a ≤ b → b < d → a < d
        under l m = omega arith

        higher : (a b : ℕ) → a ≤ b → a < 1 + b
        higher a b l = omega arith

        still : (b : Bool) → is_running (stage_of c h.0) ≡ b → b ≡ false
        still true f =
            absurd (true-false (is_listed h (running_below c.table c.table.latest_ended)) (listed-has runs_at 1 limit h.0 one (higher h.0 limit (below_gives c.table.latest_ended h one (left _ _ e))) (runs-stage (find_txn c.table h) ∙ f)) (right _ _ e))
        still false f = refl
