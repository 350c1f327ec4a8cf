-- At read committed a command takes one snapshot.
use Rattle.std.proofs.Common.{◌≡◌, ◌≤◌, ◌<◌, ◌⊎◌, inl, inr, ℕ, zero, suc, List, [], ◌∷◌, ◌++◌, Some, Bool, true, false, refl, sym, subst, ap, ◌∙◌, ◌||◌, ◌&&◌, arith, eqb, append_assoc, append-nil}
use Rattle.std.proofs.lemmas.Bool.Decides.{nat_tests}
use Rattle.std.specs.Prelude.{slice_get, take}
use Rattle.std.proofs.lemmas.Bool.{or_left, or_right}
use Rattle.gx_lemmas.proofs.Tests.{true-false}
use Rattle.gx_lemmas.proofs.Options.{some-same}
use Rattle.gx_ids.specs.declared.ids.Cid.{Cid}
use Rattle.gx_ids.specs.declared.ids.Gxid.{Gxid}
use Rattle.gx_tree.specs.declared.stmt.Level.{Level}
use Rattle.gx_tree.specs.declared.stmt.Level.TheVariants.{ReadCommitted, RepeatableRead}
use Rattle.gx_dsnap.specs.declared.snapshot.Snapshot.{Snapshot}
use Rattle.gx_script.specs.declared.Script.{Script}
use Rattle.gx_store.specs.declared.event.Event.{Event}
use Rattle.gx_store.specs.declared.mark.Mark.{Mark}
use Rattle.gx_store.specs.declared.mark.Mark.TheVariants as mark
use Rattle.gx_store.specs.declared.run.Step.{Step}
use Rattle.gx_store.specs.Commands.{IsSnapshotAt, has_own_snapshot}
use Rattle.gx_store.specs.Legal.{LegalSnap}
use Rattle.gx_store.specs.Marks.{has_snapshot, is_same_gxid, is_snapped}
use Rattle.gx_store.specs.Points.{marks_in}
use Rattle.gx_rules.specs.Machine.{world_of}
use Rattle.gx_law_order.proofs.More.{marks-last}
use Rattle.gx_law_order.specs.Scanned.{began_from}
use Rattle.gx_law_order.specs.Rest.{EachMark}
use Rattle.gx_law_order.proofs.Given.{Given}
use Rattle.gx_law_order.proofs.LegalSteps.{AreGiven}
use Rattle.gx_law_order.proofs.Legality as histories
use Rattle.gx_law_order.specs.Orders.{level_of_began}
use Rattle.gx_law_answers.specs.Earned.{Events}
use Rattle.gx_law_answers.specs.Once.{AreSnapshotsOne, IsOneSnapshot}
use Rattle.gx_law_answers.proofs.Single.{are-readers}

pub record Once (ms : List Mark) (g : Gxid) (d : Cid) : Type 0 where
  pub level : Level
  pub once : has_own_snapshot level ms g d ≡ false

module _ (script : Script) (g : Gxid) (d : Cid) (x : Snapshot) where
  in-step : (steps : List Step) (e : Event) (earlier ms later : List Mark) (q : ℕ) → EachMark (Given script) steps e earlier ms later → slice_get ms q ≡ Some (mark.Snap g d x) → Once ((marks_in steps ++ earlier) ++ take q ms) g d
  in-step steps e earlier [] later q h f = absurd (cc)
  in-step steps e earlier (m ∷ ms) later zero h f =
      let l : LegalSnap script (record { steps = steps; event = e; earlier = earlier; later = ms ++ later }) g d x = subst (Given script (record { steps = steps; event = e; earlier = earlier; later = ms ++ later })) (some-same m (mark.Snap g d x) f) h.0 tt in
      subst (λ z. Once z g d) (sym (append-nil (marks_in steps ++ earlier))) (record { level = l.level; once = l.once })
  in-step steps e earlier (m ∷ ms) later (suc q) h f =
      subst (λ z. Once z g d) (ap (λ z. z ++ take q ms) (sym (append_assoc (marks_in steps) earlier (m ∷ []))) ∙ append_assoc (marks_in steps ++ earlier) (m ∷ []) (take q ms)) (in-step steps e (earlier ++ m ∷ []) ms later q h.1 f)

  split : (xs ys : List Mark) (q : ℕ) → slice_get (xs ++ ys) q ≡ Some (mark.Snap g d x) → ((slice_get xs q ≡ Some (mark.Snap g d x)) × (take q (xs ++ ys) ≡ take q xs)) ⊎ ((j : ℕ) × (slice_get ys j ≡ Some (mark.Snap g d x)) × (take q (xs ++ ys) ≡ xs ++ take j ys))
  split [] ys q f = inr (q, f, refl)
  split (y ∷ xs) ys zero f = inl (f, refl)
  split (y ∷ xs) ys (suc q) f = more (split xs ys q f)
    where
      more : ((slice_get xs q ≡ Some (mark.Snap g d x)) × (take q (xs ++ ys) ≡ take q xs)) ⊎ ((j : ℕ) × (slice_get ys j ≡ Some (mark.Snap g d x)) × (take q (xs ++ ys) ≡ xs ++ take j ys)) → ((slice_get xs q ≡ Some (mark.Snap g d x)) × (y ∷ take q (xs ++ ys) ≡ y ∷ take q xs)) ⊎ ((j : ℕ) × (slice_get ys j ≡ Some (mark.Snap g d x)) × (y ∷ take q (xs ++ ys) ≡ y ∷ (xs ++ take j ys)))
      more (inl a) = inl (a.0, ap (λ l. y ∷ l) a.1)
      more (inr a) = inr (a.0, a.1, ap (λ l. y ∷ l) a.2)

  snap-once : (before ss : List Step) (q : ℕ) → AreGiven script before ss → slice_get (marks_in ss) q ≡ Some (mark.Snap g d x) → Once (marks_in before ++ take q (marks_in ss)) g d
  snap-once before [] q h f = absurd (cc)
  snap-once before (s ∷ ss) q h f = by_split (split s.marks (marks_in ss) q f) (λ j k. snap-once (before ++ s ∷ []) ss j h.1 k)
    where
      by_split : ((slice_get s.marks q ≡ Some (mark.Snap g d x)) × (take q (s.marks ++ marks_in ss) ≡ take q s.marks)) ⊎ ((j : ℕ) × (slice_get (marks_in ss) j ≡ Some (mark.Snap g d x)) × (take q (s.marks ++ marks_in ss) ≡ s.marks ++ take j (marks_in ss))) → ((j : ℕ) → slice_get (marks_in ss) j ≡ Some (mark.Snap g d x) → Once (marks_in (before ++ s ∷ []) ++ take j (marks_in ss)) g d) → Once (marks_in before ++ take q (s.marks ++ marks_in ss)) g d
      by_split (inl a) more = subst (λ z. Once z g d) (ap (λ z. z ++ take q s.marks) (append-nil (marks_in before)) ∙ ap (λ z. marks_in before ++ z) (sym a.1)) (in-step before s.event [] s.marks [] q (h.0.2 []) a.0)
      by_split (inr a) more = subst (λ z. Once z g d) (ap (λ z. z ++ take a.0 (marks_in ss)) (marks-last before s) ∙ append_assoc (marks_in before) s.marks (take a.0 (marks_in ss)) ∙ ap (λ z. marks_in before ++ z) (sym a.2)) (more a.0 a.1)

self : (g : Gxid) (c : Cid) → (is_same_gxid g g && eqb c.0 c.0) ≡ true
self g c = grind (arith, nat_tests)

is-snapped : (g : Gxid) (c : Cid) (x : Snapshot) (ms : List Mark) (p q : ℕ) → p < q → slice_get ms p ≡ Some (mark.Snap g c x) → is_snapped (take q ms) g c ≡ true
is-snapped g c x [] p q l e = absurd (cc)
is-snapped g c x (m ∷ ms) p zero l e = absurd (omega (arith, l))
is-snapped g c x (m ∷ ms) zero (suc q) l e = subst (λ y. is_snapped (y ∷ take q ms) g c ≡ true) (sym (some-same m (mark.Snap g c x) e)) (or_left _ _ (self g c))
is-snapped g c x (mark.Snap h d y ∷ ms) (suc p) (suc q) l e = or_right _ _ (is-snapped g c x ms p q (omega (arith, l)) e)
is-snapped g c x (m ∷ ms) (suc p) (suc q) l e = is-snapped g c x ms p q (omega (arith, l)) e

has-snapped : (g : Gxid) (c : Cid) (ms : List Mark) → is_snapped ms g c ≡ true → has_snapshot ms g ≡ true
has-snapped g c [] e = cc
has-snapped g c (mark.Snap h d y ∷ ms) e = either (is_same_gxid h g) (eqb d.0 c.0) (is_snapped ms g c) (has_snapshot ms g) e (has-snapped g c ms)
  where
    either : (a b t u : Bool) → ((a && b) || t) ≡ true → (t ≡ true → u ≡ true) → (a || u) ≡ true
    either true b t u q f = refl
    either false b t u q f = f q
has-snapped g c (m ∷ ms) e = has-snapped g c ms e

module _ (script : Script) (some : 1 ≤ script.segments) (es : Events) (g : Gxid) (c : Cid) where
  abbrev ms : List Mark
  ms = marks_in (world_of script es).steps

  by-level : (l : Level) (before : List Mark) → has_own_snapshot l before g c ≡ false → is_snapped before g c ≡ true → ⊥
  by-level ReadCommitted before e f = true-false (is_snapped before g c) f e
  by-level RepeatableRead before e f = true-false (has_snapshot before g) (has-snapped g c before f) e

  no-two : (p q : ℕ) (x y : Snapshot) → p < q → slice_get ms p ≡ Some (mark.Snap g c x) → slice_get ms q ≡ Some (mark.Snap g c y) → ⊥
  no-two p q x y l e f =
      let o = snap-once script g c y [] (world_of script es).steps q (histories.world-holds script some es).given f in
      by-level o.level (take q ms) o.once (is-snapped g c x ms p q l e)

  same-place : (p q : ℕ) (x y : Snapshot) → slice_get ms p ≡ Some (mark.Snap g c x) → slice_get ms q ≡ Some (mark.Snap g c y) → p ≡ q
  same-place p q x y e f = by_test (eqb p q) (Rattle.std.specs.Prelude.nat_lt p q) refl refl
    where
      same : eqb p q ≡ true → p ≡ q
      same z = grind (arith, nat_tests)

      less : Rattle.std.specs.Prelude.nat_lt p q ≡ true → p < q
      less z = grind (arith, nat_tests)

      more : eqb p q ≡ false → Rattle.std.specs.Prelude.nat_lt p q ≡ false → q < p
      more y z = grind (arith, nat_tests)

      by_test : (a b : Bool) → eqb p q ≡ a → Rattle.std.specs.Prelude.nat_lt p q ≡ b → p ≡ q
      by_test true b z u = same z
      by_test false true z u = absurd (no-two p q x y (less u) e f)
      by_test false false z u = absurd (no-two q p y x (more z u) f e)

pub one-snapshot : (script : Script) (some : 1 ≤ script.segments) (once : AreSnapshotsOne script) (es : Events) → IsOneSnapshot script (marks_in (world_of script es).steps)
one-snapshot script some once es = λ g c p q. by-level' g c p q (level_of_began script (began_from [] (marks_in (world_of script es).steps) g)) refl
  where
    by-level' : (g : Gxid) (c : Cid) (p q : ℕ) (l : Level) → level_of_began script (began_from [] (marks_in (world_of script es).steps) g) ≡ l → IsSnapshotAt (marks_in (world_of script es).steps) l g c p → IsSnapshotAt (marks_in (world_of script es).steps) l g c q → p ≡ q
    by-level' g c p q ReadCommitted e a b = same-place script some es g c p q a.snapshot b.snapshot (a.taken ∙ ap (λ d. Some (mark.Snap g d a.snapshot)) a.serves) (b.taken ∙ ap (λ d. Some (mark.Snap g d b.snapshot)) b.serves)
    by-level' g c p q RepeatableRead e a b = once es g p q e (record { d = a.d; snapshot = a.snapshot; taken = a.taken; serves = tt }) (record { d = b.d; snapshot = b.snapshot; taken = b.taken; serves = tt })

-- a repeatable-read transaction takes one snapshot
pub snapshots-one : (script : Script) → 1 ≤ script.segments → AreSnapshotsOne script
snapshots-one script some es g p q rr a b = by_test (eqb p q) (Rattle.std.specs.Prelude.nat_lt p q) refl refl
  where
    both : (l : Level) → l ≡ ReadCommitted → l ≡ RepeatableRead → ⊥
    both l e f = cc

    apart : (i j : ℕ) → i < j → IsSnapshotAt (marks_in (world_of script es).steps) RepeatableRead g (record { 0 = 1 }) i → IsSnapshotAt (marks_in (world_of script es).steps) RepeatableRead g (record { 0 = 1 }) j → ⊥
    apart i j l s t =
        let r = are-readers script some es g i j s.d t.d s.snapshot t.snapshot l s.taken t.taken in
        both (level_of_began script (began_from [] (marks_in (world_of script es).steps) g)) (ap (level_of_began script) r.is ∙ r.level) rr

    same : eqb p q ≡ true → p ≡ q
    same z = grind (arith, nat_tests)

    less : Rattle.std.specs.Prelude.nat_lt p q ≡ true → p < q
    less z = grind (arith, nat_tests)

    more : eqb p q ≡ false → Rattle.std.specs.Prelude.nat_lt p q ≡ false → q < p
    more y z = grind (arith, nat_tests)

    by_test : (x y : Bool) → eqb p q ≡ x → Rattle.std.specs.Prelude.nat_lt p q ≡ y → p ≡ q
    by_test true y z u = same z
    by_test false true z u = absurd (apart p q (less u) a b)
    by_test false false z u = absurd (apart q p (more z u) b a)
