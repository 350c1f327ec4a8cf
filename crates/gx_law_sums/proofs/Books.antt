-- The books of a legal history of transfers: a list of changes that says what every group of transactions shows.
use Rattle.std.proofs.Common.{◌≡◌, ◌⊎◌, inl, inr, ◌≤◌, ℕ, ◌+◌, ◌*◌, ℤ, pos, ◌+ℤ◌, Bool, true, false, if◌then◌else◌, not, ◌||◌, ◌&&◌, ◌==◌, List, [], ◌∷◌, ◌++◌, take, Option, Some, None, refl, sym, ap, ◌∙◌, subst, arith}
use Rattle.std.proofs.lemmas.Bool.{eqb-true}
use Rattle.std.proofs.lemmas.Bool.Decides.{nat_tests}
use Rattle.std.specs.Prelude.{nat_lt}
use Rattle.gx_ids.specs.declared.ids.Cid.{Cid}
use Rattle.gx_ids.specs.declared.ids.Gxid.{Gxid}
use Rattle.gx_ids.specs.declared.ids.Node.{Node}
use Rattle.gx_ids.specs.declared.ids.SessionId.{SessionId}
use Rattle.gx_ids.specs.declared.ids.Table.{Table}
use Rattle.gx_ids.specs.declared.rid.Rid.{Rid}
use Rattle.gx_tree.specs.declared.stmt.Level.TheVariants.{RepeatableRead}
use Rattle.gx_tree.specs.declared.value.Value.{Value}
use Rattle.gx_dsnap.specs.declared.snapshot.Snapshot.{Snapshot}
use Rattle.gx_script.specs.declared.Script.{Script}
use Rattle.gx_work.specs.declared.transfer.Transfer.{Transfer}
use Rattle.gx_lemmas.proofs.Options.{some-same}
use Rattle.gx_lemmas.proofs.Tests.{and-first, or-cases, true-false}
use Rattle.gx_store.specs.declared.mark.Mark.{Mark}
use Rattle.gx_store.specs.declared.mark.Mark.TheVariants.{Snap, Skip, Write}
use Rattle.gx_store.specs.Lines.{BlockState, Outside, InBlock, state_from, state_of}
use Rattle.gx_store.specs.Marks.{answer_count, is_aborted, is_begun, is_begun_after, is_command_of, is_committed, is_processed, is_same_gxid, is_same_rid, start_count, started_after}
use Rattle.gx_store.specs.Points.{Point, before}
use Rattle.gx_store.specs.View.{is_shown_to}
use Rattle.gx_store.specs.Writes.{Written}
use Rattle.gx_store.proofs.Lines.{state_from-append}
use Rattle.gx_store.proofs.Marks.{answer_count-append, is_begun_after-append, started_after-append}
use Rattle.gx_store.proofs.Rows.{is_same_rid-refl}
use Rattle.gx_law_groups.proofs.Marks.{start_count-append}
use Rattle.gx_law_sums.specs.Sums.{the_accounts}
use Rattle.gx_law_sums.specs.Transfers.{AreTransfers, loader}
use Rattle.gx_law_sums.proofs.Ledger.{Change, sum_of}
use Rattle.gx_law_sums.proofs.Neat.{AreAccounts, row_of, same-gxid, sessions-same, unaborted-before}
use Rattle.gx_law_sums.proofs.Own.{IsForeign, IsOwn, IsUnused, own-stays, own-written, snap-there, unused-stays}
use Rattle.gx_law_sums.proofs.Shows.{DoesShow, IsGood, IsHidden, good-before, hidden-shows, image_by, last-image, number_of, unwritten-image, write-shows}
use Rattle.gx_law_sums.proofs.Under.{IsIn}
use Rattle.gx_law_sums.proofs.Writes.{EachWrite, IsBehind, IsLast, IsMove, IsNeat, IsPut, account_of, each-weaker, last-each, moved}

-- this transaction is the load, or none has begun that it could be
abbrev pub IsLoader : List Mark → Gxid → Type 0
IsLoader N L = (started_after loader None N ≡ Some L) ⊎ ((started_after loader None N ≡ None) × (start_count N + 1 ≤ L.0))

pub record AreBooks (script : Script) (transfer : ℕ → ℕ → Option Transfer) (N : List Mark) (L : Gxid) (ds : List Change) : Type 0 where
  pub shows : DoesShow L N ds
  pub own : (g : Gxid) (t : Transfer) (k : ℕ) → IsIn script transfer N g t k → is_aborted N g ≡ false → IsOwn N L ds g t k
  pub begun : (s : SessionId) (g : Gxid) → 1 ≤ s.0 → state_of script s N ≡ Outside → is_begun s N ≡ true → started_after s None N ≡ Some g → is_aborted N g ≡ false → IsUnused N ds g
  pub fresh : (g : Gxid) → start_count N + 1 ≤ g.0 → is_aborted N g ≡ false → IsUnused N ds g

-- PLAIN FACTS
not-self : (n m : ℕ) → (n == m) ≡ false → n ≡ m → ⊥
not-self n m e f = grind (arith, nat_tests)

unlike : (n m : ℕ) → (n ≡ m → ⊥) → (n == m) ≡ false
unlike n m f = grind (arith, nat_tests)

unlike-back : (n m : ℕ) → (n ≡ m → ⊥) → (m == n) ≡ false
unlike-back n m f = grind (arith, nat_tests)

wider : (a b c g : ℕ) → c ≡ a + b → c + 1 ≤ g → a + 1 ≤ g
wider a b c g e l = omega arith

same-count : (a b : ℕ) → b ≡ 0 → a + b ≡ a
same-count a b e = omega arith

first-none : (a b : Bool) → (a || b) ≡ false → a ≡ false
first-none true b e = absurd (true-false true refl e)
first-none false b e = refl

-- a write of another, or its snapshot
pub write-foreign : (g h : Gxid) (c : Cid) (node : Node) (t : Table) (rid : Rid) (image : Option (List Value)) → (h.0 ≡ g.0 → ⊥) → IsForeign (Write h c node t rid image) g
write-foreign g h c node t rid image apart = record { snaps = refl; processes = λ d r. ap (λ b. ((b && (c.0 == d.0)) && is_same_rid rid r) || false) (unlike h.0 g.0 apart) }

pub skip-foreign : (g h : Gxid) (c : Cid) (rid : Rid) → (h.0 ≡ g.0 → ⊥) → IsForeign (Skip h c rid) g
skip-foreign g h c rid apart = record { snaps = refl; processes = λ d r. ap (λ b. ((b && (c.0 == d.0)) && is_same_rid rid r) || false) (unlike h.0 g.0 apart) }

no-write : (w : Written) → (let o : Option Written = None in o ≡ Some w) → ⊥
no-write w e = cc

no-snap : (h g : Gxid) (c d : Cid) (node : Node) (t : Table) (rid : Rid) (image : Option (List Value)) (x : Snapshot) → Write h c node t rid image ≡ Snap g d x → ⊥
no-snap h g c d node t rid image x e = cc

not-of : (b : Bool) → (b ≡ true → ⊥) → not b ≡ true
not-of true f = absurd (f refl)
not-of false f = refl

false-of : (b : Bool) → (b ≡ true → ⊥) → b ≡ false
false-of true f = absurd (f refl)
false-of false f = refl

same-place : (a b k c l : ℕ) → a ≡ 4 * b + 1 + k → a ≡ 4 * c + 1 + l → k ≤ 2 → l ≤ 2 → (b ≡ c) × (k ≡ l)
same-place a b k c l e f m n = (place a b k c l e f m n, number a b k c l e f m n)
  where
    place : (a b k c l : ℕ) → a ≡ 4 * b + 1 + k → a ≡ 4 * c + 1 + l → k ≤ 2 → l ≤ 2 → b ≡ c
    place a b k c l e f m n = omega arith

    number : (a b k c l : ℕ) → a ≡ 4 * b + 1 + k → a ≡ 4 * c + 1 + l → k ≤ 2 → l ≤ 2 → k ≡ l
    number a b k c l e f m n = omega arith

-- each write was processed
each-processed : (M N : List Mark) → ((g : Gxid) (c : Cid) (r : Rid) → is_processed M g c r ≡ true → is_processed N g c r ≡ true) → EachWrite (λ g c t r image. is_processed N g c r ≡ true) M
each-processed [] N f = tt
each-processed (Write g c node t r image ∷ M) N f = (f g c r (itself g.0 c.0 (is_same_rid r r) (is_same_rid-refl r) (is_processed M g c r)), each-processed M N (λ h d q e. f h d q (right (is_command_of h d g c && is_same_rid r q) (is_processed M h d q) e)))
  where
    itself : (n k : ℕ) (b : Bool) → b ≡ true → (x : Bool) → ((((n == n) && (k == k)) && b) || x) ≡ true
    itself n k b e x = grind (arith, nat_tests)

    right : (a b : Bool) → b ≡ true → (a || b) ≡ true
    right true b e = refl
    right false b e = e
each-processed (Skip g c r ∷ M) N f = (tt, each-processed M N (λ h d q e. f h d q (right (is_command_of h d g c && is_same_rid r q) (is_processed M h d q) e)))
  where
    right : (a b : Bool) → b ≡ true → (a || b) ≡ true
    right true b e = refl
    right false b e = e
each-processed (m ∷ M) N f = (tt, each-processed M N f)

module _ (script : Script) (transfer : ℕ → ℕ → Option Transfer) (N : List Mark) where
  -- A MARK THAT MOVES NO SESSION
  pub record IsStill (m : Mark) : Type 0 where
    pub states : (s : SessionId) (b : BlockState) → state_from script s b (m ∷ []) ≡ b
    pub counts : (s : SessionId) → answer_count s (m ∷ []) ≡ 0
    pub starters : (s : SessionId) (g : Option Gxid) → started_after s g (m ∷ []) ≡ g
    pub beginnings : (s : SessionId) (b : Bool) → is_begun_after s b (m ∷ []) ≡ b

  module _ (m : Mark) (still : IsStill m) where
    pub state-same : (s : SessionId) → state_of script s (N ++ m ∷ []) ≡ state_of script s N
    state-same s = state_from-append script s Outside N (m ∷ []) ∙ still.states s (state_of script s N)

    pub started-same : (s : SessionId) → started_after s None (N ++ m ∷ []) ≡ started_after s None N
    started-same s = started_after-append s None N (m ∷ []) ∙ still.starters s (started_after s None N)

    pub begun-same : (s : SessionId) → is_begun s (N ++ m ∷ []) ≡ is_begun s N
    begun-same s = is_begun_after-append s false N (m ∷ []) ∙ still.beginnings s (is_begun s N)

    pub in-before : (g : Gxid) (t : Transfer) (k : ℕ) → IsIn script transfer (N ++ m ∷ []) g t k → IsIn script transfer N g t k
    in-before g t k i = record {
      session = i.session;
      other = i.other;
      place = i.place;
      of = i.of;
      state = sym (state-same i.session) ∙ i.state;
      own = sym (started-same i.session) ∙ i.own;
      count = sym (answer_count-append i.session N (m ∷ []) ∙ same-count (answer_count i.session N) (answer_count i.session (m ∷ [])) (still.counts i.session)) ∙ i.count;
      few = i.few;
    }

    -- the books stay, where it is foreign to whom they are about
    module _ (L : Gxid) (ds : List Change) (b : AreBooks script transfer N L ds) (hidden : (C : Gxid → Bool) → IsGood L (N ++ m ∷ []) C → IsHidden C m) (foreign : (g : Gxid) → is_aborted (N ++ m ∷ []) g ≡ false → IsForeign m g) where
      pub still-books : AreBooks script transfer (N ++ m ∷ []) L ds
      still-books = record {
        shows = hidden-shows L N m ds hidden b.shows;
        own = λ g t k i e. own-stays N m L g (foreign g e) ds ds t k refl (b.own g t k (in-before g t k i) (unaborted-before N m g e));
        begun = λ s g l out start own e. unused-stays N m L g (foreign g e) ds ds refl (b.begun s g l (sym (state-same s) ∙ out) (sym (begun-same s) ∙ start) (sym (started-same s) ∙ own) (unaborted-before N m g e));
        fresh = λ g l e. unused-stays N m L g (foreign g e) ds ds refl (b.fresh g (wider (start_count N) (start_count (m ∷ [])) (start_count (N ++ m ∷ [])) g.0 (start_count-append N (m ∷ [])) l) (unaborted-before N m g e));
      }

-- A WRITE OF THE LOAD OR OF A TRANSFER
module _ (script : Script) (transfer : ℕ → ℕ → Option Transfer) (are : AreTransfers script transfer) (point : Point) (accounts : AreAccounts script transfer (before point)) (L : Gxid) (loads : IsLoader (before point) L) (ds : List Change) (b : AreBooks script transfer (before point) L ds) where
  abbrev N : List Mark
  N = before point

  load-is : (h : Gxid) → started_after loader None N ≡ Some h → h ≡ L
  load-is h e = by_case loads
    where
      clash : (o : Option Gxid) → o ≡ None → o ≡ Some h → ⊥
      clash o f g = cc

      by_case : IsLoader N L → h ≡ L
      by_case (inl f) = some-same h L (sym e ∙ f)
      by_case (inr f) = absurd (clash (started_after loader None N) f.0 e)

  row-is : (rid : Rid) → rid.gxid ≡ L → rid.cid.0 ≡ 1 → rid ≡ row_of L rid.ordinal
  row-is rid e f = ap (λ (g : Gxid). let r : Rid = record { gxid = g; cid = rid.cid; ordinal = rid.ordinal } in r) e ∙ ap (λ (c : ℕ). let r : Rid = record { gxid = L; cid = record { 0 = c }; ordinal = rid.ordinal } in r) f

  number-known : (s : SessionId) (g : Gxid) → started_after s None N ≡ Some g → g.0 ≤ start_count N
  number-known s g e = accounts.standing.owned.numbered g s (accounts.standing.owned.starters s g e)

  off-ledger : (g h : Gxid) (d : ℤ) → (h.0 ≡ g.0 → ⊥) → sum_of (is_same_gxid g) (record { by = h; amount = d } ∷ ds) ≡ sum_of (is_same_gxid g) ds
  off-ledger g h d apart = ap (λ (q : Bool). if q then d +ℤ sum_of (is_same_gxid g) ds else sum_of (is_same_gxid g) ds) (unlike-back h.0 g.0 apart)

  not-known : (g h : Gxid) → h.0 ≤ start_count N → start_count N + 1 ≤ g.0 → h.0 ≡ g.0 → ⊥
  not-known g h l k e = clash h.0 g.0 (start_count N) l k e
    where
      clash : (h g n : ℕ) → h ≤ n → n + 1 ≤ g → h ≡ g → ⊥
      clash h g n l k e = omega arith

  module _ (g : Gxid) (c : Cid) (node : Node) (t : Table) (rid : Rid) (image : Option (List Value)) where
    abbrev m : Mark
    m = Write g c node t rid image

    still : IsStill script transfer N m
    still = record { states = λ s b. refl; counts = λ s. refl; starters = λ s g. refl; beginnings = λ s b. refl }

    -- the books of everybody else
    others-begun : (s : SessionId) (h : Gxid) (d : ℤ) → (g.0 ≡ h.0 → ⊥) → 1 ≤ s.0 → state_of script s (N ++ m ∷ []) ≡ Outside → is_begun s (N ++ m ∷ []) ≡ true → started_after s None (N ++ m ∷ []) ≡ Some h → is_aborted (N ++ m ∷ []) h ≡ false
        → IsUnused (N ++ m ∷ []) (record { by = g; amount = d } ∷ ds) h
    others-begun s h d apart l out start own e =
        unused-stays N m L h (write-foreign h g c node t rid image apart) ds (record { by = g; amount = d } ∷ ds) (off-ledger h g d apart)
        (b.begun s h l (sym (state-same script transfer N m still s) ∙ out) (sym (begun-same script transfer N m still s) ∙ start) (sym (started-same script transfer N m still s) ∙ own) (unaborted-before N m h e))

    others-fresh : (h : Gxid) (d : ℤ) → g.0 ≤ start_count N → start_count (N ++ m ∷ []) + 1 ≤ h.0 → is_aborted (N ++ m ∷ []) h ≡ false → IsUnused (N ++ m ∷ []) (record { by = g; amount = d } ∷ ds) h
    others-fresh h d known l e =
        let low = wider (start_count N) (start_count (m ∷ [])) (start_count (N ++ m ∷ [])) h.0 (start_count-append N (m ∷ [])) l in
        unused-stays N m L h (write-foreign h g c node t rid image (not-known h g known low)) ds (record { by = g; amount = d } ∷ ds) (off-ledger h g d (not-known h g known low)) (b.fresh h low (unaborted-before N m h e))

    clean-others : (h : Gxid) (u : Transfer) (k : ℕ) (d : ℤ) → (g.0 ≡ h.0 → ⊥) → IsIn script transfer (N ++ m ∷ []) h u k → is_aborted (N ++ m ∷ []) h ≡ false → IsOwn (N ++ m ∷ []) L (record { by = g; amount = d } ∷ ds) h u k
    clean-others h u k d apart i e =
        own-stays N m L h (write-foreign h g c node t rid image apart) ds (record { by = g; amount = d } ∷ ds) u k (off-ledger h g d apart) (b.own h u k (in-before script transfer N m still h u k i) (unaborted-before N m h e))

    one-session : (s u : SessionId) (h : Gxid) → started_after s None N ≡ Some g → started_after u None N ≡ Some h → g.0 ≡ h.0 → s ≡ u
    one-session s u h e f same = sessions-same script transfer are point accounts.standing s u g e (subst (λ x. started_after u None N ≡ Some x) (sym (same-gxid g h same)) f)

    away-loader : (s u : SessionId) (h : Gxid) → s.0 ≡ 0 → 1 ≤ u.0 → started_after s None N ≡ Some g → started_after u None N ≡ Some h → g.0 ≡ h.0 → ⊥
    away-loader s u h zero-is l e f same = clash s.0 u.0 zero-is l (ap (λ (x : SessionId). x.0) (one-session s u h e f same))
      where
        clash : (a b : ℕ) → a ≡ 0 → 1 ≤ b → a ≡ b → ⊥
        clash a b e l f = omega arith

    pub put-books : IsPut N g c t rid image → AreBooks script transfer (N ++ m ∷ []) L (record { by = g; amount = pos 100 } ∷ ds)
    put-books p = record {
      shows = λ C good. write-shows L N g c node t rid image p.table (row-is rid (p.is.0 ∙ load-is g p.own) (ap (λ (x : Cid). x.0) (p.is.1 ∙ p.command))) C ds (pos 100) (pos 0) p.low p.high
          (λ e. ap number_of (unwritten-image (λ g c. C g) the_accounts rid None N p.once)) (ap number_of p.image_is) (b.shows C (good-before L N m C good));
      own = λ h u k i e. clean-others h u k (pos 100) (away-loader loader i.session h refl i.other p.own (sym (started-same script transfer N m still i.session) ∙ i.own)) i e;
      begun = λ s h l out start own e. others-begun s h (pos 100) (away-loader loader s h refl l p.own (sym (started-same script transfer N m still s) ∙ own)) l out start own e;
      fresh = λ h l e. others-fresh h (pos 100) (number-known loader g p.own) l e;
    }

    module _ (p : IsMove script transfer N g c t rid image) where
      L-is : rid.gxid ≡ L
      L-is = load-is rid.gxid p.old.loaded

      rid-is : rid ≡ row_of L (account_of p.t p.k + 1)
      rid-is = row-is rid L-is p.old.command ∙ ap (row_of L) p.account

      not-load : g.0 ≡ L.0 → ⊥
      not-load e = away g.0 L.0 e (λ f. away-loader' f)
        where
          away-loader' : L.0 ≡ g.0 → ⊥
          away-loader' f =
              clash p.within.session.0 p.within.other
              (ap (λ (x : SessionId). x.0) (sessions-same script transfer are point accounts.standing p.within.session loader g p.within.own (subst (λ x. started_after loader None N ≡ Some x) (L-is ∙ same-gxid L g f) p.old.loaded)))
            where
              clash : (a : ℕ) → 1 ≤ a → a ≡ 0 → ⊥
              clash a l e = omega arith

          away : (a b : ℕ) → a ≡ b → (b ≡ a → ⊥) → ⊥
          away a b e f = f (sym e)

      shown-before : (C : Gxid → Bool) → IsGood L N C → C g ≡ true → number_of (image_by C N rid) ≡ p.old.balance
      shown-before C good e =
          ap number_of
          (last-image (λ h. not (is_aborted N h)) C (λ h f. not-of (is_aborted N h) (λ k. true-false (C h) f (good.unaborted h k))) rid p.write (seen (or-cases (is_same_gxid p.write.gxid g) (is_committed N p.write.gxid) p.free)) 0 None None N
          (each-weaker (IsNeat N) (λ h d u r i. C h ≡ true → u.0 ≡ 0) (λ h d u r i neat f. (neat (false-of (is_aborted N h) (λ k. true-false (C h) f (good.unaborted h k)))).table) N accounts.neat) (λ x f. absurd (no-write x f)) p.now)
          ∙ ap number_of p.old.is
        where
          seen : (is_same_gxid p.write.gxid g ≡ true) ⊎ (is_committed N p.write.gxid ≡ true) → C p.write.gxid ≡ true
          seen (inl f) = subst (λ x. C x ≡ true) (sym (same-gxid p.write.gxid g (eqb-true p.write.gxid.0 g.0 f))) e
          seen (inr f) = good.closed g p.write.gxid e not-load f

      -- its snapshot sees the load
      module _ (o : IsOwn N L ds g p.t p.k) where
        sees-load : o.sees ≡ true
        sees-load = by_case (last-each (IsNeat N) (is_shown_to (Some (g, c)) (take p.place N)) rid 0 None N p.write accounts.neat p.shown) (last-each (λ h d u r i. is_processed N h d r ≡ true) (is_shown_to (Some (g, c)) (take p.place N)) rid 0 None N p.write (each-processed N N (λ h d q e. e)) p.shown)
          where
            committed-then : is_committed (take p.place N) L ≡ true → o.sees ≡ true
            committed-then e = sym (o.seen p.place p.taken.d p.taken.snapshot p.taken.taken) ∙ e

            by_writer : (p.write.gxid.0 ≡ rid.gxid.0) ⊎ IsBehind N p.write.gxid rid.gxid → is_committed (take p.place N) p.write.gxid ≡ true → o.sees ≡ true
            by_writer (inl f) e = committed-then (subst (λ x. is_committed (take p.place N) x ≡ true) (same-gxid p.write.gxid rid.gxid f ∙ L-is) e)
            by_writer (inr f) e = committed-then (subst (λ x. is_committed (take p.place N) x ≡ true) L-is (f.before p.place e))

            by_case : (let x : Option Written = None in x ≡ Some p.write) ⊎ IsLast (IsNeat N) (is_shown_to (Some (g, c)) (take p.place N)) rid p.write → (let x : Option Written = None in x ≡ Some p.write) ⊎ IsLast (λ h d u r i. is_processed N h d r ≡ true) (is_shown_to (Some (g, c)) (take p.place N)) rid p.write → o.sees ≡ true
            by_case (inl f) y = absurd (no-write p.write f)
            by_case (inr l) (inl f) = absurd (no-write p.write f)
            by_case (inr l) (inr q) = by_shown (or-cases (is_committed (take p.place N) p.write.gxid) (is_same_gxid g p.write.gxid && nat_lt p.write.cid.0 c.0) l.counted)
              where
                by_shown : (is_committed (take p.place N) p.write.gxid ≡ true) ⊎ ((is_same_gxid g p.write.gxid && nat_lt p.write.cid.0 c.0) ≡ true) → o.sees ≡ true
                by_shown (inl e) = by_writer p.old.behind e
                by_shown (inr e) = o.back p.write.cid rid (subst (λ x. is_processed N x p.write.cid rid ≡ true) (sym (same-gxid g p.write.gxid (eqb-true g.0 p.write.gxid.0 (and-first (is_same_gxid g p.write.gxid) (nat_lt p.write.cid.0 c.0) e)))) q.so)

        moves : IsOwn (N ++ m ∷ []) L (record { by = g; amount = moved p.t p.k } ∷ ds) g p.t p.k
        moves =
            own-written N m L ds g p.t p.k p.few o
            (subst (λ x. is_processed N g x (row_of L (account_of p.t p.k + 1)) ≡ false) p.command (subst (λ x. is_processed N g c x ≡ false) rid-is p.once))
            (subst (λ x. (((g.0 == g.0) && (x.0 == p.k + 1)) && is_same_rid rid (row_of L (account_of p.t p.k + 1))) || false ≡ true) (sym p.command) (subst (λ r. (((g.0 == g.0) && (p.k + 1 == p.k + 1)) && is_same_rid r (row_of L (account_of p.t p.k + 1))) || false ≡ true) (sym rid-is) (itself g.0 (p.k + 1) (is_same_rid (row_of L (account_of p.t p.k + 1)) (row_of L (account_of p.t p.k + 1))) (is_same_rid-refl (row_of L (account_of p.t p.k + 1))))))
            (λ j f. subst (λ x. (((g.0 == g.0) && (x.0 == j + 1)) && is_same_rid rid (row_of L (account_of p.t j + 1))) || false ≡ false) (sym p.command) (apart g.0 p.k j (is_same_rid rid (row_of L (account_of p.t j + 1))) f))
            (λ d x e. no-snap g g c d node t rid image x e) refl (snap-there N p.place g p.taken.d p.taken.snapshot p.taken.taken) sees-load
          where
            itself : (n k : ℕ) (b : Bool) → b ≡ true → ((((n == n) && (k == k)) && b) || false) ≡ true
            itself n k b e = grind (arith, nat_tests)

            apart : (n k j : ℕ) (b : Bool) → (j ≡ k → ⊥) → ((((n == n) && (k + 1 == j + 1)) && b) || false) ≡ false
            apart n k j b f = grind (arith, nat_tests)

      own-or-other : (h : Gxid) (u : Transfer) (k : ℕ) → IsIn script transfer (N ++ m ∷ []) h u k → is_aborted (N ++ m ∷ []) h ≡ false → (q : Bool) → (g.0 == h.0) ≡ q → IsOwn (N ++ m ∷ []) L (record { by = g; amount = moved p.t p.k } ∷ ds) h u k
      own-or-other h u k i e true f =
          let j = in-before script transfer N m still h u k i in
          let s_is = one-session p.within.session j.session h p.within.own j.own (eqb-true g.0 h.0 f) in
          let place = same-place (answer_count j.session N) p.within.place p.k j.place k (subst (λ s. answer_count s N ≡ 4 * p.within.place + 1 + p.k) s_is p.within.count) j.count p.within.few j.few in
          let t_is = some-same p.t u (sym p.within.of ∙ ap (λ (s : SessionId). transfer s.0 p.within.place) s_is ∙ ap (transfer j.session.0) place.0 ∙ j.of) in
          let g_is = same-gxid g h (eqb-true g.0 h.0 f) in
          subst (λ x. IsOwn (N ++ m ∷ []) L (record { by = g; amount = moved p.t p.k } ∷ ds) x u k) g_is
          (subst (λ x. IsOwn (N ++ m ∷ []) L (record { by = g; amount = moved p.t p.k } ∷ ds) g x k) t_is
          (subst (λ x. IsOwn (N ++ m ∷ []) L (record { by = g; amount = moved p.t p.k } ∷ ds) g p.t x) place.1
          (moves (b.own g p.t p.k p.within (subst (λ x. is_aborted N x ≡ false) (sym g_is) (unaborted-before N m h e))))))
      own-or-other h u k i e false f = clean-others h u k (moved p.t p.k) (not-self g.0 h.0 f) i e

      begun-apart : (s : SessionId) (h : Gxid) → state_of script s N ≡ Outside → started_after s None N ≡ Some h → g.0 ≡ h.0 → ⊥
      begun-apart s h out own e = states (state_of script s N) p.k out (subst (λ x. state_of script x N ≡ InBlock RepeatableRead p.k) (one-session p.within.session s h p.within.own own e) p.within.state)
        where
          states : (x : BlockState) (k : ℕ) → x ≡ Outside → x ≡ InBlock RepeatableRead k → ⊥
          states x k e f = cc

      pub move-books : AreBooks script transfer (N ++ m ∷ []) L (record { by = g; amount = moved p.t p.k } ∷ ds)
      move-books = record {
        shows = λ C good. write-shows L N g c node t rid image p.table_is (row-is rid L-is p.old.command) C ds (moved p.t p.k) p.old.balance p.old.low p.old.high (shown-before C (good-before L N m C good)) (ap number_of p.image_is) (b.shows C (good-before L N m C good));
        own = λ h u k i e. own-or-other h u k i e (g.0 == h.0) refl;
        begun = λ s h l out start own e. others-begun s h (moved p.t p.k) (begun-apart s h (sym (state-same script transfer N m still s) ∙ out) (sym (started-same script transfer N m still s) ∙ own)) l out start own e;
        fresh = λ h l e. others-fresh h (moved p.t p.k) (number-known p.within.session g p.within.own) l e;
      }
