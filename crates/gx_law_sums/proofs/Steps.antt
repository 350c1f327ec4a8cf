-- Each mark of a legal history of transfers leaves books.
use Rattle.std.proofs.Common.{◌≡◌, ◌⊎◌, inl, inr, ◌≤◌, ℕ, ◌+◌, Bool, true, false, if◌then◌else◌, ◌||◌, ◌==◌, List, [], ◌∷◌, ◌++◌, Option, Some, None, refl, sym, ap, ◌∙◌, subst, arith}
use Rattle.std.proofs.lemmas.Bool.{eqb-true}
use Rattle.std.proofs.lemmas.Bool.Decides.{nat_tests}
use Rattle.gx_ids.specs.declared.ids.Cid.{Cid}
use Rattle.gx_ids.specs.declared.ids.Gxid.{Gxid}
use Rattle.gx_ids.specs.declared.ids.Node.{Node}
use Rattle.gx_ids.specs.declared.ids.SessionId.{SessionId}
use Rattle.gx_ids.specs.declared.ids.Table.{Table}
use Rattle.gx_ids.specs.declared.rid.Rid.{Rid}
use Rattle.gx_tree.specs.declared.stmt.Level.TheVariants.{RepeatableRead}
use Rattle.gx_tree.specs.declared.value.Value.{Value}
use Rattle.gx_dsnap.specs.declared.snapshot.Snapshot.{Snapshot}
use Rattle.gx_script.specs.declared.Script.{Script}
use Rattle.gx_work.specs.declared.transfer.Transfer.{Transfer}
use Rattle.gx_lemmas.proofs.Options.{some-same}
use Rattle.gx_lemmas.proofs.Tests.{false-true, true-false}
use Rattle.gx_store.specs.declared.mark.Mark.{Mark}
use Rattle.gx_store.specs.declared.mark.Mark.TheVariants.{Snap, Start, Skip, Write}
use Rattle.gx_store.specs.Commands.{has_own_snapshot}
use Rattle.gx_store.specs.Legal.{LegalMark, draws}
use Rattle.gx_store.specs.Lines.{BlockState, Outside, InBlock, state_of}
use Rattle.gx_store.specs.Marks.{answer_count, has_snapshot, is_aborted, is_begun, is_same_session, start_count, started_after}
use Rattle.gx_store.specs.Points.{Point, before}
use Rattle.gx_store.specs.View.{image_after}
use Rattle.gx_store.proofs.Lines.{state_from-append}
use Rattle.gx_store.proofs.Marks.{answer_count-append, is_begun_after-append, started_after-append}
use Rattle.gx_law_groups.proofs.Marks.{start_count-append}
use Rattle.gx_law_sums.specs.Transfers.{AreTransfers, loader}
use Rattle.gx_law_sums.proofs.Books.{AreBooks, IsStill, in-before, skip-foreign, still-books, write-foreign, state-same, started-same, begun-same}
use Rattle.gx_law_sums.proofs.Ledger.{Change}
use Rattle.gx_law_sums.proofs.Neat.{AreAccounts, same-gxid, sessions-same, skip-mark, unaborted-before}
use Rattle.gx_law_sums.proofs.Own.{IsForeign, IsOwn, IsUnused, own-snapped, own-stays, unused-stays}
use Rattle.gx_law_sums.proofs.Shows.{hidden-shows, unseen-hidden}
use Rattle.gx_law_sums.proofs.Under.{IsIn, IsLoading, IsUpdating, under-way}

-- PLAIN FACTS
wider : (a b c g : ℕ) → c ≡ a + b → c + 1 ≤ g → a + 1 ≤ g
wider a b c g e l = omega arith

same-count : (a b : ℕ) → b ≡ 0 → a + b ≡ a
same-count a b e = omega arith

unlike : (n m : ℕ) → (n ≡ m → ⊥) → (n == m) ≡ false
unlike n m f = grind (arith, nat_tests)

not-self : (n m : ℕ) → (n == m) ≡ false → n ≡ m → ⊥
not-self n m e f = grind (arith, nat_tests)

too-new : (a n b : ℕ) → a ≤ n → n + 1 ≤ b → a ≡ b → ⊥
too-new a n b l k e = omega arith

states-apart : (x : BlockState) (k : ℕ) → x ≡ Outside → x ≡ InBlock RepeatableRead k → ⊥
states-apart x k e f = cc

module _ (script : Script) (transfer : ℕ → ℕ → Option Transfer) (are : AreTransfers script transfer) (point : Point) (accounts : AreAccounts script transfer (before point)) (L : Gxid) (ds : List Change) (b : AreBooks script transfer (before point) L ds) where
  abbrev N : List Mark
  N = before point

  -- WHO ABORTED BEFORE
  gone : (m : Mark) (g h : Gxid) → is_aborted (N ++ m ∷ []) h ≡ true → is_aborted (N ++ m ∷ []) g ≡ false → h.0 ≡ g.0 → ⊥
  gone m g h e f same = true-false (is_aborted (N ++ m ∷ []) g) (subst (λ x. is_aborted (N ++ m ∷ []) x ≡ true) (same-gxid h g same) e) f

  pub late-books : (g : Gxid) (c : Cid) (node : Node) (t : Table) (rid : Rid) (image : Option (List Value)) → is_aborted (N ++ Write g c node t rid image ∷ []) g ≡ true → AreBooks script transfer (N ++ Write g c node t rid image ∷ []) L ds
  late-books g c node t rid image e =
      still-books script transfer N (Write g c node t rid image) (record { states = λ s b. refl; counts = λ s. refl; starters = λ s g. refl; beginnings = λ s b. refl }) L ds b
      (λ C good. unseen-hidden C g c node t rid image (good.unaborted g e)) (λ h f. write-foreign h g c node t rid image (gone (Write g c node t rid image) h g e f))

  pub skip-books : (g : Gxid) (c : Cid) (rid : Rid) → LegalMark script point (Skip g c rid) → AreBooks script transfer (N ++ Skip g c rid ∷ []) L ds
  skip-books g c rid legal =
      still-books script transfer N (Skip g c rid) (record { states = λ s b. refl; counts = λ s. refl; starters = λ s g. refl; beginnings = λ s b. refl }) L ds b
      (λ C good q i. refl) (λ h f. skip-foreign h g c rid (gone (Skip g c rid) h g (skip-mark script transfer are point accounts.standing (Skip g c rid) legal) f))

  -- A SNAPSHOT
  snap-foreign : (g h : Gxid) (d : Cid) (x : Snapshot) → (h.0 ≡ g.0 → ⊥) → IsForeign (Snap h d x) g
  snap-foreign g h d x apart = record { snaps = ap (λ q. q || false) (unlike h.0 g.0 apart); processes = λ c rid. refl }

  module _ (g : Gxid) (d : Cid) (x : Snapshot) (legal : LegalMark script point (Snap g d x)) where
    abbrev m : Mark
    m = Snap g d x

    still : IsStill script transfer N m
    still = record { states = λ s b. refl; counts = λ s. refl; starters = λ s g. refl; beginnings = λ s b. refl }

    -- whose it is
    owner : IsLoading N g d legal.line ⊎ IsUpdating script transfer N g d legal.level legal.line
    owner = under-way script transfer are point accounts.standing legal.session legal.line legal.level g d legal.runs

    own-session : (s u : SessionId) (h : Gxid) → started_after s None N ≡ Some g → started_after u None N ≡ Some h → g.0 ≡ h.0 → s ≡ u
    own-session s u h e f same = sessions-same script transfer are point accounts.standing s u g e (subst (λ y. started_after u None N ≡ Some y) (sym (same-gxid g h same)) f)

    no-loader : (u : SessionId) → 1 ≤ u.0 → loader ≡ u → ⊥
    no-loader u l e = clash u.0 l (ap (λ (y : SessionId). y.0) e)
      where
        clash : (a : ℕ) → 1 ≤ a → 0 ≡ a → ⊥
        clash a l e = omega arith

    apart-outside : (s : SessionId) (h : Gxid) → 1 ≤ s.0 → state_of script s N ≡ Outside → started_after s None N ≡ Some h → IsLoading N g d legal.line ⊎ IsUpdating script transfer N g d legal.level legal.line → g.0 ≡ h.0 → ⊥
    apart-outside s h l out own (inl i) e = no-loader s l (own-session loader s h i.own own e)
    apart-outside s h l out own (inr i) e = states-apart (state_of script s N) i.k out (subst (λ y. state_of script y N ≡ InBlock RepeatableRead i.k) (own-session i.within.session s h i.within.own own e) i.within.state)

    owner-known : IsLoading N g d legal.line ⊎ IsUpdating script transfer N g d legal.level legal.line → g.0 ≤ start_count N
    owner-known (inl i) = accounts.standing.owned.numbered g loader (accounts.standing.owned.starters loader g i.own)
    owner-known (inr i) = accounts.standing.owned.numbered g i.within.session (accounts.standing.owned.starters i.within.session g i.within.own)

    own-snap : (h : Gxid) (t : Transfer) (k : ℕ) → IsIn script transfer N h t k → is_aborted N h ≡ false → IsLoading N g d legal.line ⊎ IsUpdating script transfer N g d legal.level legal.line → (q : Bool) → (g.0 == h.0) ≡ q → IsOwn (N ++ m ∷ []) L ds h t k
    own-snap h t k i e o false f = own-stays N m L h (snap-foreign h g d x (not-self g.0 h.0 f)) ds ds t k refl (b.own h t k i e)
    own-snap h t k i e (inl o) true f = absurd (no-loader i.session i.other (own-session loader i.session h o.own i.own (eqb-true g.0 h.0 f)))
    own-snap h t k i e (inr o) true f =
        let g_is = same-gxid g h (eqb-true g.0 h.0 f) in
        subst (λ y. IsOwn (N ++ Snap y d x ∷ []) L ds h t k) (sym g_is)
        (own-snapped N L ds h t d x k (subst (λ y. has_snapshot N y ≡ false) g_is (subst (λ y. has_own_snapshot y N g d ≡ false) o.level_is legal.once)) (b.own h t k i e))

    pub snap-books : AreBooks script transfer (N ++ m ∷ []) L ds
    snap-books = record {
      shows = hidden-shows L N m ds (λ C good q i. refl) b.shows;
      own = λ h t k i e. own-snap h t k (in-before script transfer N m still h t k i) (unaborted-before N m h e) owner (g.0 == h.0) refl;
      begun = λ s h l out start own e.
          let o = sym (state-same script transfer N m still s) ∙ out in
          let w = sym (started-same script transfer N m still s) ∙ own in
          unused-stays N m L h (snap-foreign h g d x (apart-outside s h l o w owner)) ds ds refl (b.begun s h l o (sym (begun-same script transfer N m still s) ∙ start) w (unaborted-before N m h e));
      fresh = λ h l e.
          let low = wider (start_count N) (start_count (m ∷ [])) (start_count (N ++ m ∷ [])) h.0 (start_count-append N (m ∷ [])) l in
          unused-stays N m L h (snap-foreign h g d x (too-new g.0 (start_count N) h.0 (owner-known owner) low)) ds ds refl (b.fresh h low (unaborted-before N m h e));
    }

  -- A START
  module _ (g : Gxid) (s : SessionId) (legal : LegalMark script point (Start g s)) where
    abbrev n : Mark
    n = Start g s

    start-foreign : (h : Gxid) → IsForeign n h
    start-foreign h = record { snaps = refl; processes = λ c rid. refl }

    state-on : (u : SessionId) → state_of script u (N ++ n ∷ []) ≡ state_of script u N
    state-on u = state_from-append script u Outside N (n ∷ [])

    started-on : (u : SessionId) → started_after u None (N ++ n ∷ []) ≡ (if is_same_session s u then Some g else started_after u None N)
    started-on u = started_after-append u None N (n ∷ [])

    the-session : (u : SessionId) → is_same_session s u ≡ true → s ≡ u
    the-session u e = ap (λ k. let y : SessionId = record { 0 = k } in y) (eqb-true s.0 u.0 e)

    no-draw : (st : BlockState) (k : ℕ) → st ≡ InBlock RepeatableRead k → draws st legal.line ≡ true → ⊥
    no-draw st k e f = false-true (subst (λ y. draws y legal.line ≡ true) e f)

    in-on : (h : Gxid) (t : Transfer) (k : ℕ) → IsIn script transfer (N ++ n ∷ []) h t k → IsIn script transfer N h t k
    in-on h t k i = record {
      session = i.session;
      other = i.other;
      place = i.place;
      of = i.of;
      state = state;
      own = by_test (is_same_session s i.session) refl (sym (started-on i.session) ∙ i.own);
      count = sym (answer_count-append i.session N (n ∷ []) ∙ same-count (answer_count i.session N) 0 refl) ∙ i.count;
      few = i.few;
    }
      where
        state : state_of script i.session N ≡ InBlock RepeatableRead k
        state = sym (state-on i.session) ∙ i.state

        by_test : (q : Bool) → is_same_session s i.session ≡ q → (if q then Some g else started_after i.session None N) ≡ Some h → started_after i.session None N ≡ Some h
        by_test true e f = absurd (no-draw (state_of script s N) k (subst (λ y. state_of script y N ≡ InBlock RepeatableRead k) (sym (the-session i.session e)) state) legal.drawing)
        by_test false e f = f

    newest : (h : ℕ) (a : ℕ) → h ≡ a + 1 → a + 1 ≤ h
    newest h a e = omega arith

    pub start-books : AreBooks script transfer (N ++ n ∷ []) L ds
    start-books = record {
      shows = hidden-shows L N n ds (λ C good q i. refl) b.shows;
      own = λ h t k i e. own-stays N n L h (start-foreign h) ds ds t k refl (b.own h t k (in-on h t k i) (unaborted-before N n h e));
      begun = λ u h l out start own e. unused-stays N n L h (start-foreign h) ds ds refl (by_test u h l (sym (state-on u) ∙ out) (unaborted-before N n h e) (is_same_session s u) refl (sym (started-on u) ∙ own) (sym (is_begun_after-append u false N (n ∷ [])) ∙ start));
      fresh = λ h l e. unused-stays N n L h (start-foreign h) ds ds refl (b.fresh h (wider (start_count N) (start_count (n ∷ [])) (start_count (N ++ n ∷ [])) h.0 (start_count-append N (n ∷ [])) l) (unaborted-before N n h e));
    }
      where
        by_test : (u : SessionId) (h : Gxid) → 1 ≤ u.0 → state_of script u N ≡ Outside → is_aborted N h ≡ false → (q : Bool) → is_same_session s u ≡ q → (if q then Some g else started_after u None N) ≡ Some h → (q || is_begun u N) ≡ true → IsUnused N ds h
        by_test u h l out e true f own start = subst (λ y. is_aborted N y ≡ false → IsUnused N ds y) (some-same g h own) (b.fresh g (newest g.0 (start_count N) legal.number)) e
        by_test u h l out e false f own start = b.begun u h l out start own e

  -- ANY OTHER MARK BUT AN ANSWER
  pub still-next : (m : Mark) → IsStill script transfer N m → ((C : Gxid → Bool) (q : Rid) (i : Option (List Value)) → image_after (λ g c. C g) (record { 0 = 0 }) q i (m ∷ []) ≡ i) → ((g : Gxid) → IsForeign m g) → AreBooks script transfer (N ++ m ∷ []) L ds
  still-next m still hidden foreign = still-books script transfer N m still L ds b (λ C good. hidden C) (λ g e. foreign g)
