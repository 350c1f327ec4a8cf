-- Whoever has committed shows 6400 in all, once the load has committed.
use Rattle.std.proofs.Common.{◌≡◌, ◌⊎◌, inl, inr, ◌≤◌, ℕ, zero, suc, ◌+◌, ◌*◌, ℤ, pos, ◌+ℤ◌, Bool, true, false, if◌then◌else◌, ◌||◌, ◌==◌, List, [], ◌∷◌, ◌++◌, Option, Some, None, refl, sym, ap, ◌∙◌, subst, arith}
use Rattle.std.proofs.lemmas.Bool.{eqb-true}
use Rattle.std.proofs.lemmas.Bool.Decides.{nat_tests}
use Rattle.std.proofs.lemmas.Int.{ints}
use Rattle.gx_ids.specs.declared.ids.Cid.{Cid}
use Rattle.gx_ids.specs.declared.ids.Gxid.{Gxid}
use Rattle.gx_ids.specs.declared.ids.Node.{Node}
use Rattle.gx_ids.specs.declared.ids.SessionId.{SessionId}
use Rattle.gx_ids.specs.declared.ids.Table.{Table}
use Rattle.gx_ids.specs.declared.rid.Rid.{Rid}
use Rattle.gx_tree.specs.declared.value.Value.{Value}
use Rattle.gx_script.specs.declared.Script.{Script}
use Rattle.gx_work.specs.declared.transfer.Transfer.{Transfer}
use Rattle.gx_lemmas.proofs.Options.{some-same}
use Rattle.gx_lemmas.proofs.Tests.{false-true, or-false, true-false}
use Rattle.gx_store.specs.declared.mark.Mark.{Mark}
use Rattle.gx_store.specs.declared.mark.Mark.TheVariants.{Snap, Start, Skip, Write, Commit, Answer}
use Rattle.gx_store.specs.Legal.{LegalMark}
use Rattle.gx_store.specs.Lines.{BlockState, Outside, InBlock, Failed, may_commit, state_of}
use Rattle.gx_store.specs.Marks.{answer_count, is_aborted, is_committed, is_same_gxid, start_count, started_after}
use Rattle.gx_store.specs.Points.{Point, before}
use Rattle.gx_store.specs.View.{image_after}
use Rattle.gx_store.proofs.Marks.{is_aborted-append, is_committed-append, started_after-append}
use Rattle.gx_law_groups.proofs.Marks.{start_count-append}
use Rattle.gx_law_sums.specs.Sums.{the_accounts}
use Rattle.gx_law_sums.specs.Transfers.{AreTransfers, loader}
use Rattle.gx_law_sums.proofs.Answered.{IsThere, account-there, answer-books}
use Rattle.gx_law_sums.proofs.Books.{AreBooks, IsLoader, move-books, put-books}
use Rattle.gx_law_sums.proofs.Ledger.{Change, sum_of, sum_of-both, sum_of-same, total-hundred}
use Rattle.gx_law_sums.proofs.Neat.{AreAccounts, of-session, row_of, same-gxid, sessions-same}
use Rattle.gx_law_sums.proofs.Own.{own-balanced}
use Rattle.gx_law_sums.proofs.Shows.{IsGood, balance_by, number_of}
use Rattle.gx_law_sums.proofs.Standing.{IsPlaced, is-giving, is-opened, is-taking}
use Rattle.gx_law_sums.proofs.Steps.{late-books, skip-books, snap-books, start-books, still-next}
use Rattle.gx_law_sums.proofs.Writes.{IsMove, IsNeat, IsPut, IsShown, image-each, live-write, load-stays, moved}

-- what whoever has committed has changed
abbrev pub in_all : Bool → ℤ
in_all true = pos 6400
in_all false = pos 0

pub record AreBalanced (script : Script) (transfer : ℕ → ℕ → Option Transfer) (N : List Mark) (L : Gxid) : Type 0 where
  pub changes : List Change
  pub books : AreBooks script transfer N L changes
  pub sum : sum_of (is_committed N) changes ≡ in_all (is_committed N L)

-- PLAIN FACTS
first-none : (a b : Bool) → (a || b) ≡ false → a ≡ false
first-none true b e = absurd (true-false true refl e)
first-none false b e = refl

second-none : (a b : Bool) → (a || b) ≡ false → b ≡ false
second-none true b e = absurd (true-false true refl e)
second-none false b e = e

false-of : (b : Bool) → (b ≡ true → ⊥) → b ≡ false
false-of true f = absurd (f refl)
false-of false f = refl

-- a mark that commits nobody
same-committed : (N : List Mark) (m : Mark) → ((g : Gxid) → is_committed (m ∷ []) g ≡ false) → (g : Gxid) → is_committed (N ++ m ∷ []) g ≡ is_committed N g
same-committed N m none g = is_committed-append N (m ∷ []) g ∙ ap (λ b. is_committed N g || b) (none g) ∙ or-false (is_committed N g)

module _ (script : Script) (transfer : ℕ → ℕ → Option Transfer) (are : AreTransfers script transfer) where
  same-balance : (N : List Mark) (m : Mark) (L : Gxid) (k : AreBalanced script transfer N L) → ((g : Gxid) → is_committed (m ∷ []) g ≡ false) → AreBooks script transfer (N ++ m ∷ []) L k.changes → AreBalanced script transfer (N ++ m ∷ []) L
  same-balance N m L k none books = record { changes = k.changes; books = books; sum = sum_of-same (is_committed (N ++ m ∷ [])) (is_committed N) (same-committed N m none) k.changes ∙ k.sum ∙ ap in_all (sym (same-committed N m none L)) }

  -- a change of somebody who hasn't committed
  more-balance : (N : List Mark) (m : Mark) (L g : Gxid) (d : ℤ) (k : AreBalanced script transfer N L) → ((h : Gxid) → is_committed (m ∷ []) h ≡ false) → is_committed N g ≡ false → AreBooks script transfer (N ++ m ∷ []) L (record { by = g; amount = d } ∷ k.changes) → AreBalanced script transfer (N ++ m ∷ []) L
  more-balance N m L g d k none uncommitted books = record {
    changes = record { by = g; amount = d } ∷ k.changes;
    books = books;
    sum = ap (λ (b : Bool). if b then d +ℤ sum_of (is_committed (N ++ m ∷ [])) k.changes else sum_of (is_committed (N ++ m ∷ [])) k.changes) (same-committed N m none g ∙ uncommitted)
        ∙ sum_of-same (is_committed (N ++ m ∷ [])) (is_committed N) (same-committed N m none) k.changes ∙ k.sum ∙ ap in_all (sym (same-committed N m none L));
  }

  module _ (point : Point) (accounts : AreAccounts script transfer (before point)) (L : Gxid) (loads : IsLoader (before point) L) (k : AreBalanced script transfer (before point) L) where
    abbrev N : List Mark
    N = before point

    write-balanced : (g : Gxid) (c : Cid) (node : Node) (t : Table) (rid : Rid) (image : Option (List Value)) → LegalMark script point (Write g c node t rid image) → AreBalanced script transfer (N ++ Write g c node t rid image ∷ []) L
    write-balanced g c node t rid image (inl live) = by_kind (live-write script transfer are point accounts.standing accounts.neat g c (second-none (is_committed N g) (is_aborted N g) live.runs.running) node t rid image live.session live.stmt live.level live.runs live.writes)
      where
        by_kind : IsPut N g c t rid image ⊎ IsMove script transfer N g c t rid image → AreBalanced script transfer (N ++ Write g c node t rid image ∷ []) L
        by_kind (inl p) = more-balance N (Write g c node t rid image) L g (pos 100) k (λ h. refl) (first-none (is_committed N g) (is_aborted N g) live.runs.running) (put-books script transfer are point accounts L loads k.changes k.books g c node t rid image p)
        by_kind (inr p) = more-balance N (Write g c node t rid image) L g (moved p.t p.k) k (λ h. refl) (first-none (is_committed N g) (is_aborted N g) live.runs.running) (move-books script transfer are point accounts L loads k.changes k.books g c node t rid image p)
    write-balanced g c node t rid image (inr late) =
        same-balance N (Write g c node t rid image) L k (λ h. refl)
        (late-books script transfer are point accounts L k.changes k.books g c node t rid image (is_aborted-append N (Write g c node t rid image ∷ []) g ∙ or-false (is_aborted N g) ∙ late.late.aborted))

    -- A COMMIT
    module _ (h : Gxid) (legal : LegalMark script point (Commit h)) (after : AreAccounts script transfer (N ++ Commit h ∷ [])) where
      abbrev m : Mark
      m = Commit h

      books : AreBooks script transfer (N ++ m ∷ []) L k.changes
      books = still-next script transfer are point accounts L k.changes k.books m (record { states = λ s b. refl; counts = λ s. refl; starters = λ s g. refl; beginnings = λ s b. refl }) (λ C q i. refl) (λ g. record { snaps = refl; processes = λ c rid. refl })

      uncommitted : is_committed N h ≡ false
      uncommitted = first-none (is_committed N h) (is_aborted N h) legal.running

      own : started_after legal.session None N ≡ Some h
      own = of-session script transfer are point accounts.standing legal.session h (state_of script legal.session N) legal.transaction

      now-committed : (g : Gxid) → is_committed (N ++ m ∷ []) g ≡ (is_committed N g || (is_same_gxid h g || false))
      now-committed g = is_committed-append N (m ∷ []) g

      apart : (g : Gxid) → is_same_gxid h g ≡ true → is_committed N g ≡ false
      apart g e = subst (λ x. is_committed N x ≡ false) (same-gxid h g (eqb-true h.0 g.0 e)) uncommitted

      split : sum_of (is_committed (N ++ m ∷ [])) k.changes ≡ sum_of (is_same_gxid h) k.changes +ℤ sum_of (is_committed N) k.changes
      split =
          sum_of-both (is_committed (N ++ m ∷ [])) (is_same_gxid h) (is_committed N) apart (λ g e. now-committed g ∙ ap (λ b. is_committed N g || (b || false)) e ∙ right (is_committed N g)) (λ g e. now-committed g ∙ ap (λ b. is_committed N g || (b || false)) e ∙ or-false (is_committed N g)) k.changes
        where
          right : (b : Bool) → (b || true) ≡ true
          right true = refl
          right false = refl

      none-more : (x y z : ℤ) → x ≡ pos 0 → y ≡ z → x +ℤ y ≡ z
      none-more x y z e f = omega (arith, ints)

      all-more : (x y : ℤ) → x ≡ pos 6400 → y ≡ pos 0 → x +ℤ y ≡ pos 6400
      all-more x y e f = omega (arith, ints)

      -- a transfer's commit
      transfers : (h.0 ≡ L.0 → ⊥) → sum_of (is_same_gxid h) k.changes ≡ pos 0 → AreBalanced script transfer (N ++ m ∷ []) L
      transfers other zero-sum = record {
        changes = k.changes;
        books = books;
        sum = split ∙ none-more (sum_of (is_same_gxid h) k.changes) (sum_of (is_committed N) k.changes) (in_all (is_committed N L)) zero-sum k.sum
            ∙ ap in_all (sym (now-committed L ∙ ap (λ b. is_committed N L || (b || false)) (unlike h.0 L.0 other) ∙ or-false (is_committed N L)));
      }
        where
          unlike : (n m : ℕ) → (n ≡ m → ⊥) → (n == m) ≡ false
          unlike n m f = grind (arith, nat_tests)

      -- the load's
      module _ (same : h ≡ L) where
        done : is_committed (N ++ m ∷ []) L ≡ true
        done = now-committed L ∙ ap (λ b. is_committed N L || (b || false)) (subst (λ x. is_same_gxid h x ≡ true) same (itself h.0)) ∙ right (is_committed N L)
          where
            itself : (n : ℕ) → (n == n) ≡ true
            itself n = grind (arith, nat_tests)

            right : (b : Bool) → (b || true) ≡ true
            right true = refl
            right false = refl

        only : (g : Gxid) → is_same_gxid L g ≡ true → L ≡ g
        only g e = same-gxid L g (eqb-true L.0 g.0 e)

        good : IsGood L (N ++ m ∷ []) (is_same_gxid L)
        good = record {
          unaborted = λ g e. false-of (is_same_gxid L g) (λ f. true-false (is_aborted (N ++ m ∷ []) g) e (subst (λ x. is_aborted (N ++ m ∷ []) x ≡ false) (only g f) (after.standing.once L done)));
          closed = λ g x e f q. absurd (f (ap (λ (y : Gxid). y.0) (sym (only g e))));
        }

        after-loads : IsLoader (N ++ m ∷ []) L
        after-loads = by_case loads
          where
            by_case : IsLoader N L → IsLoader (N ++ m ∷ []) L
            by_case (inl e) = inl (load-stays script transfer are point accounts.standing m L legal e)
            by_case (inr e) = inr (started_after-append loader None N (m ∷ []) ∙ e.0, subst (λ n. n + 1 ≤ L.0) (sym (start_count-append N (m ∷ []) ∙ plain (start_count N))) e.1)
              where
                plain : (n : ℕ) → n + 0 ≡ n
                plain n = omega arith

        abbrev shown : Gxid → Cid → Bool
        shown = λ g c. is_same_gxid L g

        unaborted : (g : Gxid) (c : Cid) → shown g c ≡ true → is_aborted (N ++ m ∷ []) g ≡ false
        unaborted g c e = subst (λ x. is_aborted (N ++ m ∷ []) x ≡ false) (only g e) (after.standing.once L done)

        hundred : (o : ℕ) → 1 ≤ o → o ≤ 64 → balance_by (is_same_gxid L) L (N ++ m ∷ []) o ≡ pos 100
        hundred o low high = by_case (image-each (IsNeat (N ++ m ∷ [])) shown the_accounts (row_of L o) None (N ++ m ∷ []) (image_after shown the_accounts (row_of L o) None (N ++ m ∷ [])) after.neat refl)
          where
            there : IsThere (image_after shown the_accounts (row_of L o) None (N ++ m ∷ []))
            there = account-there script transfer (N ++ m ∷ []) after L after-loads shown unaborted (itself L.0) done o low high
              where
                itself : (n : ℕ) → (n == n) ≡ true
                itself n = grind (arith, nat_tests)

            by_case : (let x : Option (List Value) = None in x ≡ image_after shown the_accounts (row_of L o) None (N ++ m ∷ [])) ⊎ IsShown (IsNeat (N ++ m ∷ [])) shown (row_of L o) (image_after shown the_accounts (row_of L o) None (N ++ m ∷ [])) → balance_by (is_same_gxid L) L (N ++ m ∷ []) o ≡ pos 100
            by_case (inl e) = absurd (subst IsThere (sym e) there)
            by_case (inr x) = let y = x.so (unaborted x.g x.c x.seen) in ap number_of y.is ∙ y.first (sym (ap (λ (z : Gxid). z.0) (only x.g x.seen)))

        whole : sum_of (is_same_gxid L) k.changes ≡ pos 6400
        whole = sym (books.shows (is_same_gxid L) good) ∙ total-hundred (balance_by (is_same_gxid L) L (N ++ m ∷ [])) 64 hundred

        load-balanced : AreBalanced script transfer (N ++ m ∷ []) L
        load-balanced = record {
          changes = k.changes;
          books = books;
          sum = split ∙ all-more (sum_of (is_same_gxid h) k.changes) (sum_of (is_committed N) k.changes) (subst (λ x. sum_of (is_same_gxid x) k.changes ≡ pos 6400) (sym same) whole) (k.sum ∙ ap in_all (subst (λ x. is_committed N x ≡ false) same uncommitted)) ∙ ap in_all (sym done);
        }

      -- whose commit it is
      pub commit-balanced : AreBalanced script transfer (N ++ m ∷ []) L
      commit-balanced = by_session legal.session.0 refl
        where
          none-is : (o : Option Gxid) (x : Gxid) → o ≡ None → o ≡ Some x → ⊥
          none-is o x e f = cc

          load-is : started_after loader None N ≡ Some h → IsLoader N L → h ≡ L
          load-is e (inl f) = some-same h L (sym e ∙ f)
          load-is e (inr f) = absurd (none-is (started_after loader None N) h f.0 e)

          module-free : (a n b : ℕ) → a ≤ n → n + 1 ≤ b → a ≡ b → ⊥
          module-free a n b l q e = omega arith

          clash : (a : ℕ) → 1 ≤ a → a ≡ 0 → ⊥
          clash a l e = omega arith

          not-load : 1 ≤ legal.session.0 → IsLoader N L → h.0 ≡ L.0 → ⊥
          not-load l (inl f) e = clash legal.session.0 l (ap (λ (s : SessionId). s.0) (sessions-same script transfer are point accounts.standing legal.session loader h own (subst (λ x. started_after loader None N ≡ Some x) (sym (same-gxid h L e)) f)))
          not-load l (inr f) e = module-free h.0 (start_count N) L.0 (accounts.standing.owned.numbered h legal.session (accounts.standing.owned.starters legal.session h own)) f.1 e

          one : (x y : ℕ) → x ≡ 4 * y → x + 1 ≡ 4 * y + 1
          one x y e = omega arith

          two : (x y : ℕ) → x ≡ 4 * y + 1 + 0 → x + 1 ≡ 4 * y + 2
          two x y e = omega arith

          three : (x y : ℕ) → x ≡ 4 * y + 1 + 1 → x + 1 ≡ 4 * y + 3
          three x y e = omega arith

          many : (x : ℕ) → suc (suc (suc x)) ≤ 2 → ⊥
          many x e = omega arith

          by_state : 1 ≤ legal.session.0 → (st : BlockState) → state_of script legal.session N ≡ st → IsPlaced transfer legal.session st (answer_count legal.session N) → may_commit st legal.line ≡ true → sum_of (is_same_gxid h) k.changes ≡ pos 0
          by_state l Outside is p may =
              let x = is-opened script transfer are legal.session l legal.line p.0 (answer_count legal.session N + 1) (one (answer_count legal.session N) p.0 p.1) legal.runs.line in
              absurd (false-true (subst (λ y. may_commit Outside y ≡ true) x.2 may))
          by_state l (InBlock lv zero) is p may =
              absurd (false-true (subst (λ y. may_commit (InBlock lv 0) y ≡ true) (is-taking script transfer are legal.session l legal.line p.0 (answer_count legal.session N + 1) p.1 p.2 legal.runs.line (two (answer_count legal.session N) p.0 p.4)) may))
          by_state l (InBlock lv (suc zero)) is p may =
              absurd (false-true (subst (λ y. may_commit (InBlock lv 1) y ≡ true) (is-giving script transfer are legal.session l legal.line p.0 (answer_count legal.session N + 1) p.1 p.2 legal.runs.line (three (answer_count legal.session N) p.0 p.4)) may))
          by_state l (InBlock lv (suc (suc zero))) is p may =
              own-balanced N L k.changes h p.1
              (k.books.own h p.1 2 (record { session = legal.session; other = l; place = p.0; of = p.2; state = is ∙ ap (λ y. InBlock y 2) p.3; own = own; count = p.4; few = p.5 }) (second-none (is_committed N h) (is_aborted N h) legal.running))
          by_state l (InBlock lv (suc (suc (suc j)))) is p may = absurd (many j p.5)
          by_state l Failed is p may = absurd (false-true may)

          by_session : (n : ℕ) → legal.session.0 ≡ n → AreBalanced script transfer (N ++ m ∷ []) L
          by_session zero e = load-balanced (load-is (subst (λ s. started_after s None N ≡ Some h) (ap (λ z. let y : SessionId = record { 0 = z } in y) e) own) loads)
          by_session (suc n) e =
              let l : 1 ≤ legal.session.0 = some legal.session.0 n e in
              transfers (not-load l loads) (by_state l (state_of script legal.session N) refl (accounts.standing.placed.sessions legal.session l) legal.committing)
            where
              some : (a n : ℕ) → a ≡ suc n → 1 ≤ a
              some a n e = omega arith

    pub balanced-next : (m : Mark) → LegalMark script point m → AreAccounts script transfer (N ++ m ∷ []) → AreBalanced script transfer (N ++ m ∷ []) L
    balanced-next (Write g c node t rid image) legal after = write-balanced g c node t rid image legal
    balanced-next (Commit h) legal after = commit-balanced h legal after
    balanced-next (Skip g c rid) legal after = same-balance N (Skip g c rid) L k (λ h. refl) (skip-books script transfer are point accounts L k.changes k.books g c rid legal)
    balanced-next (Snap g c x) legal after = same-balance N (Snap g c x) L k (λ h. refl) (snap-books script transfer are point accounts L k.changes k.books g c x legal)
    balanced-next (Start g s) legal after = same-balance N (Start g s) L k (λ h. refl) (start-books script transfer are point accounts L k.changes k.books g s legal)
    balanced-next (Answer s n a) legal after = same-balance N (Answer s n a) L k (λ h. refl) (answer-books script transfer are point accounts L loads k.changes k.books s n a legal)
    balanced-next m legal after =
        same-balance N m L k (λ h. refl)
        (still-next script transfer are point accounts L k.changes k.books m (record { states = λ s b. refl; counts = λ s. refl; starters = λ s g. refl; beginnings = λ s b. refl }) (λ C q i. refl) (λ g. record { snaps = refl; processes = λ c rid. refl }))
