-- What each transfer has done: nothing before its block, then its commands, all of them or none by whether its snapshot sees the load.
use Rattle.std.proofs.Common.{◌≡◌, ◌≢◌, ◌⊎◌, inl, inr, ◌≤◌, ◌<◌, ℕ, zero, suc, ◌+◌, ℤ, pos, ◌+ℤ◌, Bool, true, false, if◌then◌else◌, ◌||◌, ◌==◌, List, [], ◌∷◌, ◌++◌, take, slice_get, Some, refl, sym, ap, ◌∙◌, subst, arith}
use Rattle.std.proofs.lemmas.Bool.Decides.{nat_tests}
use Rattle.std.proofs.lemmas.Int.{ints}
use Rattle.std.specs.Prelude.{neg_ℤ}
use Rattle.gx_ids.specs.declared.ids.Cid.{Cid}
use Rattle.gx_ids.specs.declared.ids.Gxid.{Gxid}
use Rattle.gx_ids.specs.declared.rid.Rid.{Rid}
use Rattle.gx_dsnap.specs.declared.snapshot.Snapshot.{Snapshot}
use Rattle.gx_work.specs.declared.transfer.Transfer.{Transfer}
use Rattle.gx_lemmas.proofs.Tests.{false-true, or-false, true-false}
use Rattle.gx_store.specs.declared.mark.Mark.{Mark}
use Rattle.gx_store.specs.declared.mark.Mark.TheVariants.{Snap}
use Rattle.gx_store.specs.Marks.{has_snapshot, is_committed, is_processed, is_same_gxid}
use Rattle.gx_store.proofs.Marks.{has_snapshot-append, is_processed-append}
use Rattle.gx_law_sums.proofs.Ledger.{Change, sum_of}
use Rattle.gx_law_sums.proofs.Neat.{row_of}
use Rattle.gx_law_sums.proofs.Writes.{account_of, moved}

abbrev pub command : ℕ → Cid
command j = record { 0 = j + 1 }

-- the transfer's command of this number, from 0, has written its account
abbrev pub is_done : List Mark → Gxid → Gxid → Transfer → ℕ → Bool
is_done N L g t j = is_processed N g (command j) (row_of L (account_of t j + 1))

-- and so has moved this much
abbrev pub done : List Mark → Gxid → Gxid → Transfer → ℕ → ℤ
done N L g t j = if is_done N L g t j then moved t j else pos 0

-- what a transfer behind so many of its commands has done
pub record IsOwn (N : List Mark) (L : Gxid) (ds : List Change) (g : Gxid) (t : Transfer) (k : ℕ) : Type 0 where
  pub sum : sum_of (is_same_gxid g) ds ≡ done N L g t 0 +ℤ done N L g t 1
  pub sees : Bool
  pub seen : (p : ℕ) (d : Cid) (x : Snapshot) → slice_get N p ≡ Some (Snap g d x) → is_committed (take p N) L ≡ sees
  pub back : (c : Cid) (rid : Rid) → is_processed N g c rid ≡ true → sees ≡ true
  pub forth : sees ≡ true → (j : ℕ) → j < k → is_done N L g t j ≡ true
  pub snapped : 1 ≤ k → has_snapshot N g ≡ true
  pub early : has_snapshot N g ≡ false → (c : Cid) (rid : Rid) → is_processed N g c rid ≡ false

-- a transaction has done nothing yet
pub record IsUnused (N : List Mark) (ds : List Change) (g : Gxid) : Type 0 where
  pub none : sum_of (is_same_gxid g) ds ≡ pos 0
  pub unsnapped : has_snapshot N g ≡ false
  pub undone : (c : Cid) (rid : Rid) → is_processed N g c rid ≡ false

-- PLAIN FACTS
pub snap-there : (N : List Mark) (p : ℕ) (g : Gxid) (d : Cid) (x : Snapshot) → slice_get N p ≡ Some (Snap g d x) → has_snapshot N g ≡ true
snap-there [] p g d x e = absurd (cc)
snap-there (m ∷ N) zero g d x e = here m (same m (Snap g d x) e)
  where
    same : (a b : Mark) → Some a ≡ Some b → b ≡ a
    same a b f = cc

    here : (a : Mark) → Snap g d x ≡ a → has_snapshot (a ∷ N) g ≡ true
    here a f = subst (λ z. has_snapshot (z ∷ N) g ≡ true) f (itself g.0)
      where
        itself : (n : ℕ) → ((n == n) || has_snapshot N g) ≡ true
        itself n = grind (arith, nat_tests)
snap-there (Snap h c y ∷ N) (suc p) g d x e = right (is_same_gxid h g) (has_snapshot N g) (snap-there N p g d x e)
  where
    right : (a b : Bool) → b ≡ true → (a || b) ≡ true
    right true b f = refl
    right false b f = f
snap-there (m ∷ N) (suc p) g d x e = snap-there N p g d x e

-- a place in a list with one more
pub place-more : (N : List Mark) (m : Mark) (p : ℕ) (y : Mark) → slice_get (N ++ m ∷ []) p ≡ Some y → ((slice_get N p ≡ Some y) × (take p (N ++ m ∷ []) ≡ take p N)) ⊎ ((m ≡ y) × (take p (N ++ m ∷ []) ≡ N))
place-more [] m zero y e = inr (same m y e, refl)
  where
    same : (a b : Mark) → Some a ≡ Some b → a ≡ b
    same a b f = cc
place-more [] m (suc p) y e = absurd (cc)
place-more (x ∷ N) m zero y e = inl (e, refl)
place-more (x ∷ N) m (suc p) y e = by_case (place-more N m p y e)
  where
    by_case : ((slice_get N p ≡ Some y) × (take p (N ++ m ∷ []) ≡ take p N)) ⊎ ((m ≡ y) × (take p (N ++ m ∷ []) ≡ N)) → ((slice_get N p ≡ Some y) × (x ∷ take p (N ++ m ∷ []) ≡ x ∷ take p N)) ⊎ ((m ≡ y) × (x ∷ take p (N ++ m ∷ []) ≡ x ∷ N))
    by_case (inl f) = inl (f.0, ap (λ z. x ∷ z) f.1)
    by_case (inr f) = inr (f.0, ap (λ z. x ∷ z) f.1)

-- A MARK THAT IS NOT OF THE TRANSACTION
-- it neither writes nor skips for it, nor takes its snapshot
pub record IsForeign (m : Mark) (g : Gxid) : Type 0 where
  pub snaps : has_snapshot (m ∷ []) g ≡ false
  pub processes : (c : Cid) (rid : Rid) → is_processed (m ∷ []) g c rid ≡ false

module _ (N : List Mark) (m : Mark) (L g : Gxid) (foreign : IsForeign m g) where
  processed-same : (c : Cid) (rid : Rid) → is_processed (N ++ m ∷ []) g c rid ≡ is_processed N g c rid
  processed-same c rid = is_processed-append N (m ∷ []) g c rid ∙ ap (λ b. is_processed N g c rid || b) (foreign.processes c rid) ∙ or-false (is_processed N g c rid)

  snapped-same : has_snapshot (N ++ m ∷ []) g ≡ has_snapshot N g
  snapped-same = has_snapshot-append N (m ∷ []) g ∙ ap (λ b. has_snapshot N g || b) foreign.snaps ∙ or-false (has_snapshot N g)

  pub unused-stays : (ds es : List Change) → sum_of (is_same_gxid g) es ≡ sum_of (is_same_gxid g) ds → IsUnused N ds g → IsUnused (N ++ m ∷ []) es g
  unused-stays ds es same u = record { none = same ∙ u.none; unsnapped = snapped-same ∙ u.unsnapped; undone = λ c rid. processed-same c rid ∙ u.undone c rid }

  foreign-seen : (sees : Bool) → ((p : ℕ) (d : Cid) (x : Snapshot) → slice_get N p ≡ Some (Snap g d x) → is_committed (take p N) L ≡ sees) → (p : ℕ) (d : Cid) (x : Snapshot) → slice_get (N ++ m ∷ []) p ≡ Some (Snap g d x) → is_committed (take p (N ++ m ∷ [])) L ≡ sees
  foreign-seen sees seen p d x e = by_case (place-more N m p (Snap g d x) e)
    where
      clash : has_snapshot (Snap g d x ∷ []) g ≡ false → ⊥
      clash f = true-false (has_snapshot (Snap g d x ∷ []) g) (itself g.0) f
        where
          itself : (n : ℕ) → ((n == n) || false) ≡ true
          itself n = grind (arith, nat_tests)

      by_case : ((slice_get N p ≡ Some (Snap g d x)) × (take p (N ++ m ∷ []) ≡ take p N)) ⊎ ((m ≡ Snap g d x) × (take p (N ++ m ∷ []) ≡ N)) → is_committed (take p (N ++ m ∷ [])) L ≡ sees
      by_case (inl f) = ap (λ z. is_committed z L) f.1 ∙ seen p d x f.0
      by_case (inr f) = absurd (clash (subst (λ z. has_snapshot (z ∷ []) g ≡ false) f.0 foreign.snaps))

  pub own-stays : (ds es : List Change) (t : Transfer) (k : ℕ) → sum_of (is_same_gxid g) es ≡ sum_of (is_same_gxid g) ds → IsOwn N L ds g t k → IsOwn (N ++ m ∷ []) L es g t k
  own-stays ds es t k same o =
      record {
        sum = same ∙ o.sum ∙ ap (λ (b : Bool). (if b then moved t 0 else pos 0) +ℤ done N L g t 1) (sym (processed-same (command 0) (row_of L (account_of t 0 + 1))))
            ∙ ap (λ (b : Bool). done (N ++ m ∷ []) L g t 0 +ℤ (if b then moved t 1 else pos 0)) (sym (processed-same (command 1) (row_of L (account_of t 1 + 1))));
        sees = o.sees;
        seen = foreign-seen o.sees o.seen;
        back = λ c rid e. o.back c rid (sym (processed-same c rid) ∙ e);
        forth = λ e j l. processed-same (command j) (row_of L (account_of t j + 1)) ∙ o.forth e j l;
        snapped = λ l. snapped-same ∙ o.snapped l;
        early = λ e c rid. processed-same c rid ∙ o.early (sym snapped-same ∙ e) c rid;
      }

-- ITS FIRST COMMAND COMES
pub own-first : (N : List Mark) (L : Gxid) (ds : List Change) (g : Gxid) (t : Transfer) → IsUnused N ds g → IsOwn N L ds g t 0
own-first N L ds g t u =
    record {
      sum = u.none ∙ zeros (is_done N L g t 0) (is_done N L g t 1) (moved t 0) (moved t 1) (u.undone (command 0) (row_of L (account_of t 0 + 1))) (u.undone (command 1) (row_of L (account_of t 1 + 1)));
      sees = false;
      seen = λ p d x e. absurd (true-false (has_snapshot N g) (snap-there N p g d x e) u.unsnapped);
      back = λ c rid e. absurd (true-false (is_processed N g c rid) e (u.undone c rid));
      forth = λ e j l. absurd (false-true e);
      snapped = λ l. absurd (none l);
      early = λ e. u.undone;
    }
  where
    none : 1 ≤ 0 → ⊥
    none l = omega arith

    zeros : (a b : Bool) (x y : ℤ) → a ≡ false → b ≡ false → pos 0 ≡ (if a then x else pos 0) +ℤ (if b then y else pos 0)
    zeros true b x y e f = absurd (true-false true refl e)
    zeros false true x y e f = absurd (true-false true refl f)
    zeros false false x y e f = refl

-- ITS SNAPSHOT
pub own-snapped : (N : List Mark) (L : Gxid) (ds : List Change) (g : Gxid) (t : Transfer) (d : Cid) (x : Snapshot) (k : ℕ) → has_snapshot N g ≡ false → IsOwn N L ds g t k → IsOwn (N ++ Snap g d x ∷ []) L ds g t k
own-snapped N L ds g t d x k once o =
    record {
      sum = o.sum ∙ ap (λ (b : Bool). (if b then moved t 0 else pos 0) +ℤ done N L g t 1) (sym (same (command 0) (row_of L (account_of t 0 + 1))))
          ∙ ap (λ (b : Bool). done (N ++ Snap g d x ∷ []) L g t 0 +ℤ (if b then moved t 1 else pos 0)) (sym (same (command 1) (row_of L (account_of t 1 + 1))));
      sees = is_committed N L;
      seen = λ p e y f. by_case p e y (place-more N (Snap g d x) p (Snap g e y) f);
      back = λ c rid e. absurd (true-false (is_processed N g c rid) (sym (same c rid) ∙ e) (o.early once c rid));
      forth = λ e j l. absurd (true-false (has_snapshot N g) (o.snapped (some j k l)) once);
      snapped = λ l. there;
      early = λ e. absurd (true-false (has_snapshot (N ++ Snap g d x ∷ []) g) there e);
    }
  where
    some : (j k : ℕ) → j < k → 1 ≤ k
    some j k l = omega arith

    there : has_snapshot (N ++ Snap g d x ∷ []) g ≡ true
    there = has_snapshot-append N (Snap g d x ∷ []) g ∙ itself (has_snapshot N g) g.0
      where
        itself : (b : Bool) (n : ℕ) → (b || ((n == n) || false)) ≡ true
        itself b n = grind (arith, nat_tests)

    same : (c : Cid) (rid : Rid) → is_processed (N ++ Snap g d x ∷ []) g c rid ≡ is_processed N g c rid
    same c rid = is_processed-append N (Snap g d x ∷ []) g c rid ∙ or-false (is_processed N g c rid)

    by_case : (p : ℕ) (e : Cid) (y : Snapshot) → ((slice_get N p ≡ Some (Snap g e y)) × (take p (N ++ Snap g d x ∷ []) ≡ take p N)) ⊎ ((Snap g d x ≡ Snap g e y) × (take p (N ++ Snap g d x ∷ []) ≡ N)) → is_committed (take p (N ++ Snap g d x ∷ [])) L ≡ is_committed N L
    by_case p e y (inl f) = absurd (true-false (has_snapshot N g) (snap-there N p g e y f.0) once)
    by_case p e y (inr f) = ap (λ z. is_committed z L) f.1

-- AT ITS COMMIT
-- both of its commands have moved, or neither
pub own-balanced : (N : List Mark) (L : Gxid) (ds : List Change) (g : Gxid) (t : Transfer) → IsOwn N L ds g t 2 → sum_of (is_same_gxid g) ds ≡ pos 0
own-balanced N L ds g t o = o.sum ∙ by_test (is_done N L g t 0) refl (is_done N L g t 1) refl
  where
    cancels : (a : ℕ) → neg_ℤ (pos a) +ℤ pos a ≡ pos 0
    cancels a = omega (arith, ints)

    by_test : (a : Bool) → is_done N L g t 0 ≡ a → (b : Bool) → is_done N L g t 1 ≡ b → (if a then moved t 0 else pos 0) +ℤ (if b then moved t 1 else pos 0) ≡ pos 0
    by_test true e true f = cancels t.amount
    by_test true e false f = absurd (true-false (is_done N L g t 1) (o.forth (o.back (command 0) (row_of L (account_of t 0 + 1)) e) 1 (omega arith)) f)
    by_test false e true f = absurd (true-false (is_done N L g t 0) (o.forth (o.back (command 1) (row_of L (account_of t 1 + 1)) f) 0 (omega arith)) e)
    by_test false e false f = refl

-- ITS WRITE
module _ (N : List Mark) (m : Mark) (L : Gxid) (ds : List Change) (g : Gxid) (t : Transfer) (k : ℕ) (few : k ≤ 1) (o : IsOwn N L ds g t k)
    (once : is_done N L g t k ≡ false) (here : is_processed (m ∷ []) g (command k) (row_of L (account_of t k + 1)) ≡ true) (other : (j : ℕ) → j ≢ k → is_processed (m ∷ []) g (command j) (row_of L (account_of t j + 1)) ≡ false)
    (snaps : (d : Cid) (x : Snapshot) → m ≡ Snap g d x → ⊥) (unsnapped : has_snapshot (m ∷ []) g ≡ false) (has : has_snapshot N g ≡ true) (loaded : o.sees ≡ true) where
  done-here : is_done (N ++ m ∷ []) L g t k ≡ true
  done-here = is_processed-append N (m ∷ []) g (command k) (row_of L (account_of t k + 1)) ∙ ap (λ b. is_done N L g t k || b) here ∙ right (is_done N L g t k)
    where
      right : (a : Bool) → (a || true) ≡ true
      right true = refl
      right false = refl

  done-other : (j : ℕ) → j ≢ k → is_done (N ++ m ∷ []) L g t j ≡ is_done N L g t j
  done-other j f = is_processed-append N (m ∷ []) g (command j) (row_of L (account_of t j + 1)) ∙ ap (λ b. is_done N L g t j || b) (other j f) ∙ or-false (is_done N L g t j)

  kept : (j : ℕ) → is_done N L g t j ≡ true → is_done (N ++ m ∷ []) L g t j ≡ true
  kept j e = is_processed-append N (m ∷ []) g (command j) (row_of L (account_of t j + 1)) ∙ ap (λ b. b || is_processed (m ∷ []) g (command j) (row_of L (account_of t j + 1))) e

  there : has_snapshot (N ++ m ∷ []) g ≡ true
  there = has_snapshot-append N (m ∷ []) g ∙ ap (λ b. b || has_snapshot (m ∷ []) g) has

  pub own-written : IsOwn (N ++ m ∷ []) L (record { by = g; amount = moved t k } ∷ ds) g t k
  own-written =
      record {
        sum = ap (λ (b : Bool). if b then moved t k +ℤ sum_of (is_same_gxid g) ds else sum_of (is_same_gxid g) ds) (itself g.0) ∙ ap (λ z. moved t k +ℤ z) o.sum ∙ by_command k refl;
        sees = o.sees;
        seen = λ p d x e. by_case p d x (place-more N m p (Snap g d x) e);
        back = λ c rid e. loaded;
        forth = λ e j l. kept j (o.forth e j l);
        snapped = λ l. there;
        early = λ e. absurd (true-false (has_snapshot (N ++ m ∷ []) g) there e);
      }
    where
      itself : (n : ℕ) → (n == n) ≡ true
      itself n = grind (arith, nat_tests)

      by_case : (p : ℕ) (d : Cid) (x : Snapshot) → ((slice_get N p ≡ Some (Snap g d x)) × (take p (N ++ m ∷ []) ≡ take p N)) ⊎ ((m ≡ Snap g d x) × (take p (N ++ m ∷ []) ≡ N)) → is_committed (take p (N ++ m ∷ [])) L ≡ o.sees
      by_case p d x (inl f) = ap (λ z. is_committed z L) f.1 ∙ o.seen p d x f.0
      by_case p d x (inr f) = absurd (snaps d x f.0)

      first : (a b x : Bool) (u v : ℤ) → x ≡ false → u +ℤ ((if x then u else pos 0) +ℤ (if b then v else pos 0)) ≡ u +ℤ (if b then v else pos 0)
      first a b true u v e = absurd (true-false true refl e)
      first a true false u v e = omega (arith, ints)
      first a false false u v e = omega (arith, ints)

      second : (a x : Bool) (u v : ℤ) → x ≡ false → v +ℤ ((if a then u else pos 0) +ℤ (if x then v else pos 0)) ≡ (if a then u else pos 0) +ℤ v
      second a true u v e = absurd (true-false true refl e)
      second true false u v e = omega (arith, ints)
      second false false u v e = omega (arith, ints)

      by_command : (i : ℕ) → k ≡ i → moved t k +ℤ (done N L g t 0 +ℤ done N L g t 1) ≡ done (N ++ m ∷ []) L g t 0 +ℤ done (N ++ m ∷ []) L g t 1
      by_command zero e =
          ap (λ j. moved t j +ℤ (done N L g t 0 +ℤ done N L g t 1)) e
          ∙ first true (is_done N L g t 1) (is_done N L g t 0) (moved t 0) (moved t 1) (subst (λ j. is_done N L g t j ≡ false) e once)
          ∙ ap (λ (b : Bool). (if b then moved t 0 else pos 0) +ℤ done N L g t 1) (sym (subst (λ j. is_done (N ++ m ∷ []) L g t j ≡ true) e done-here))
          ∙ ap (λ (b : Bool). done (N ++ m ∷ []) L g t 0 +ℤ (if b then moved t 1 else pos 0)) (sym (done-other 1 (λ f. apart k f e)))
        where
          apart : (k : ℕ) → 1 ≡ k → k ≡ 0 → ⊥
          apart k f e = omega arith
      by_command (suc zero) e =
          ap (λ j. moved t j +ℤ (done N L g t 0 +ℤ done N L g t 1)) e
          ∙ second (is_done N L g t 0) (is_done N L g t 1) (moved t 0) (moved t 1) (subst (λ j. is_done N L g t j ≡ false) e once)
          ∙ ap (λ (b : Bool). done N L g t 0 +ℤ (if b then moved t 1 else pos 0)) (sym (subst (λ j. is_done (N ++ m ∷ []) L g t j ≡ true) e done-here))
          ∙ ap (λ (b : Bool). (if b then moved t 0 else pos 0) +ℤ done (N ++ m ∷ []) L g t 1) (sym (done-other 0 (λ f. apart k f e)))
        where
          apart : (k : ℕ) → 0 ≡ k → k ≡ 1 → ⊥
          apart k f e = omega arith
      by_command (suc (suc i)) e = absurd (many k i e few)
        where
          many : (k i : ℕ) → k ≡ suc (suc i) → k ≤ 1 → ⊥
          many k i e l = omega arith

-- AN ANSWER TO ITS COMMAND
pub own-answered : (N : List Mark) (L : Gxid) (ds : List Change) (g : Gxid) (t : Transfer) (k : ℕ) → has_snapshot N g ≡ true → IsOwn N L ds g t k → ((o : IsOwn N L ds g t k) → o.sees ≡ true → is_done N L g t k ≡ true) → IsOwn N L ds g t (k + 1)
own-answered N L ds g t k has o does =
    record { sum = o.sum; sees = o.sees; seen = o.seen; back = o.back; forth = λ e j l. by_test e j l (j == k) refl; snapped = λ l. has; early = o.early }
  where
    last : (j : ℕ) → (j == k) ≡ true → k ≡ j
    last j e = grind (arith, nat_tests)

    below : (j : ℕ) → j < k + 1 → (j == k) ≡ false → j < k
    below j l e = grind (arith, nat_tests)

    by_test : o.sees ≡ true → (j : ℕ) → j < k + 1 → (b : Bool) → (j == k) ≡ b → is_done N L g t j ≡ true
    by_test e j l true f = subst (λ i. is_done N L g t i ≡ true) (last j f) (does o e)
    by_test e j l false f = o.forth e j (below j l f)
