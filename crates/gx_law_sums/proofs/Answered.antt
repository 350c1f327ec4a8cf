-- What an answer leaves of the books: a command that is answered has written its account, if its snapshot sees the load.
use Rattle.std.proofs.Common.{◌≡◌, ◌⊎◌, inl, inr, ◌≤◌, ◌<◌, ℕ, zero, suc, ◌+◌, ◌-◌, ◌*◌, ℤ, Bool, true, false, if◌then◌else◌, ◌||◌, ◌&&◌, ◌==◌, List, [], ◌∷◌, ◌++◌, take, slice_get, Option, Some, None, refl, sym, ap, ◌∙◌, subst, arith}
use Rattle.std.proofs.lemmas.Bool.{eqb-true}
use Rattle.std.proofs.lemmas.Bool.Decides.{nat_tests}
use Rattle.std.specs.Prelude.{nat_lt}
use Rattle.gx_ids.specs.declared.ids.Cid.{Cid}
use Rattle.gx_ids.specs.declared.ids.Gxid.{Gxid}
use Rattle.gx_ids.specs.declared.ids.SessionId.{SessionId}
use Rattle.gx_ids.specs.declared.rid.Rid.{Rid}
use Rattle.gx_tree.specs.declared.expr.ArithOp.{ArithOp}
use Rattle.gx_tree.specs.declared.expr.ArithOp.TheVariants as arith_op
use Rattle.gx_tree.specs.declared.stmt.Level.{Level}
use Rattle.gx_tree.specs.declared.stmt.Level.TheVariants.{RepeatableRead}
use Rattle.gx_tree.specs.declared.stmt.Stmt.TheVariants as stmt
use Rattle.gx_tree.specs.declared.value.Value.{Value}
use Rattle.gx_script.specs.declared.Script.{Script}
use Rattle.gx_work.specs.declared.transfer.Transfer.{Transfer}
use Rattle.gx_lemmas.proofs.Options.{some-same}
use Rattle.gx_lemmas.proofs.Tests.{false-true, true-false}
use Rattle.gx_store.specs.declared.answer.StmtAnswer.{StmtAnswer}
use Rattle.gx_store.specs.declared.answer.StmtAnswer.TheVariants as answer
use Rattle.gx_store.specs.declared.mark.Mark.{Mark}
use Rattle.gx_store.specs.declared.mark.Mark.TheVariants.{Snap, Skip, Write, Answer}
use Rattle.gx_store.specs.Answers.{Changes, IsAnswer}
use Rattle.gx_store.specs.Legal.{LegalMark}
use Rattle.gx_store.specs.Lines.{BlockState, Outside, InBlock, Failed, state_after, state_after_line, state_of, stmt_of}
use Rattle.gx_store.specs.Marks.{answer_count, has_snapshot, is_aborted, is_begun, is_command_of, is_committed, is_processed, is_same_gxid, is_same_rid, is_same_session, start_count, started_after}
use Rattle.gx_store.specs.Points.{Point, before}
use Rattle.gx_store.specs.View.{image_after, is_shown_to}
use Rattle.gx_store.proofs.Lines.{state_from-append}
use Rattle.gx_store.proofs.Marks.{answer_count-append, is_begun_after-append, started_after-append}
use Rattle.gx_law_groups.proofs.Marks.{start_count-append}
use Rattle.gx_work.specs.Work.{changing}
use Rattle.gx_law_sums.specs.Sums.{the_accounts}
use Rattle.gx_law_sums.specs.Transfers.{AreTransfers, loader}
use Rattle.gx_law_sums.proofs.Books.{AreBooks, IsLoader}
use Rattle.gx_law_sums.proofs.Ledger.{Change}
use Rattle.gx_law_sums.proofs.Loads.{the_first}
use Rattle.gx_law_sums.proofs.Meaning.{account_image, on_account, own-chosen}
use Rattle.gx_law_sums.proofs.Neat.{AreAccounts, EachSkip, row_of, unaborted-before}
use Rattle.gx_law_sums.proofs.Own.{IsForeign, IsOwn, IsUnused, command, is_done, own-answered, own-first, own-stays, snap-there, unused-stays}
use Rattle.gx_law_sums.proofs.Shows.{hidden-shows}
use Rattle.gx_law_sums.proofs.Standing.{IsPlaced, is-ending, is-giving, is-opened, is-taking}
use Rattle.gx_law_sums.proofs.Under.{IsIn}
use Rattle.gx_law_sums.proofs.Writes.{EachWrite, IsNeat, IsShown, account_of, committed-take, each-weaker, image-each, unaborted-shown}

-- A ROW THAT IS THERE
abbrev pub IsThere : Option (List Value) → Type 0
IsThere None = ⊥
IsThere (Some row) = Unit {0}

module _ (shown : Gxid → Cid → Bool) (rid : Rid) where
  -- some of these writes to the row are shown
  abbrev pub Processed : List Mark → Type 0
  Processed N = (g : Gxid) × (c : Cid) × (shown g c ≡ true) × (is_processed N g c rid ≡ true)

  pub some-image : (i : Option (List Value)) (N : List Mark) → EachWrite (λ g c t r image. shown g c ≡ true → (t.0 ≡ 0) × IsThere image) N → EachSkip (λ g. (c : Cid) → shown g c ≡ true → ⊥) N → IsThere i ⊎ Processed N
      → IsThere (image_after shown the_accounts rid i N)
  some-image i [] each skips (inl e) = e
  some-image i [] each skips (inr p) = absurd (false-true p.3)
  some-image i (Write h d node t r written ∷ N) each skips known =
      by_test (shown h d) refl (is_same_rid r rid) refl known (λ j k. some-image j N each.1 skips.1 k)
    where
      by_test : (a : Bool) → shown h d ≡ a → (s : Bool) → is_same_rid r rid ≡ s → IsThere i ⊎ Processed (Write h d node t r written ∷ N)
          → ((j : Option (List Value)) → IsThere j ⊎ Processed N → IsThere (image_after shown the_accounts rid j N)) → IsThere (image_after shown the_accounts rid (if a && ((t.0 == 0) && s) then written else i) N)
      by_test true e true f k more =
          let w = each.0 e in
          subst (λ (n : ℕ). IsThere (image_after shown the_accounts rid (if (n == 0) && true then written else i) N)) (sym w.0) (more written (inl w.1))
      by_test a e s f (inl k) more = by_value (a && ((t.0 == 0) && s)) refl
        where
          part : (x y z : Bool) → (x && (y && z)) ≡ true → x ≡ true
          part true y z e = refl
          part false y z e = absurd (false-true e)

          by_value : (q : Bool) → (a && ((t.0 == 0) && s)) ≡ q → IsThere (image_after shown the_accounts rid (if q then written else i) N)
          by_value true g = more written (inl ((each.0 (e ∙ part a (t.0 == 0) s g)).1))
          by_value false g = more i (inl k)
      by_test true e false f (inr p) more = subst (λ (q : Bool). IsThere (image_after shown the_accounts rid (if q then written else i) N)) (sym (off (t.0 == 0))) (more i (inr (p.0, p.1, p.2, rest (is_command_of p.0 p.1 h d) (is_same_rid r rid) (is_processed N p.0 p.1 rid) f p.3)))
        where
          off : (b : Bool) → (b && false) ≡ false
          off true = refl
          off false = refl

          rest : (x y z : Bool) → y ≡ false → ((x && y) || z) ≡ true → z ≡ true
          rest true true z e f = absurd (true-false true refl e)
          rest true false z e f = f
          rest false y z e f = f
      by_test false e s f (inr p) more = more i (inr (p.0, p.1, p.2, rest (is_command_of p.0 p.1 h d) refl p.3))
        where
          whose : is_command_of p.0 p.1 h d ≡ true → ⊥
          whose q =
              let g_is = eqb-true h.0 p.0.0 (first (h.0 == p.0.0) (d.0 == p.1.0) q) in
              let c_is = eqb-true d.0 p.1.0 (second (h.0 == p.0.0) (d.0 == p.1.0) q) in
              true-false (shown h d) (subst (λ n. shown (record { 0 = n }) d ≡ true) (sym g_is) (subst (λ n. shown p.0 (record { 0 = n }) ≡ true) (sym c_is) p.2)) e
            where
              first : (x y : Bool) → (x && y) ≡ true → x ≡ true
              first true y e = refl
              first false y e = e

              second : (x y : Bool) → (x && y) ≡ true → y ≡ true
              second true y e = e
              second false y e = absurd (false-true e)

          rest : (x : Bool) → is_command_of p.0 p.1 h d ≡ x → ((x && is_same_rid r rid) || is_processed N p.0 p.1 rid) ≡ true → is_processed N p.0 p.1 rid ≡ true
          rest true q k = absurd (whose q)
          rest false q k = k
  some-image i (Skip h d r ∷ N) each skips (inl k) = some-image i N each.1 skips.1 (inl k)
  some-image i (Skip h d r ∷ N) each skips (inr p) = some-image i N each.1 skips.1 (inr (p.0, p.1, p.2, rest (is_command_of p.0 p.1 h d) refl p.3))
    where
      first : (x y : Bool) → (x && y) ≡ true → x ≡ true
      first true y e = refl
      first false y e = e

      rest : (x : Bool) → is_command_of p.0 p.1 h d ≡ x → ((x && is_same_rid r rid) || is_processed N p.0 p.1 rid) ≡ true → is_processed N p.0 p.1 rid ≡ true
      rest true q k = absurd (skips.0 p.1 (subst (λ n. shown (record { 0 = n }) p.1 ≡ true) (sym (eqb-true h.0 p.0.0 (first (h.0 == p.0.0) (d.0 == p.1.0) q))) p.2))
      rest false q k = k
  some-image i (m ∷ N) each skips (inl k) = some-image i N each.1 skips.1 (inl k)
  some-image i (m ∷ N) each skips (inr p) = some-image i N each.1 skips.1 (inr p)

-- skips of who has aborted
pub skips-of : (P Q : Gxid → Type 0) → ((g : Gxid) → P g → Q g) → (xs : List Mark) → EachSkip P xs → EachSkip Q xs
skips-of P Q f [] a = tt
skips-of P Q f (Skip g c rid ∷ xs) a = (f g a.0, skips-of P Q f xs a.1)
skips-of P Q f (x ∷ xs) a = (tt, skips-of P Q f xs a.1)

module _ (script : Script) (transfer : ℕ → ℕ → Option Transfer) (N : List Mark) (accounts : AreAccounts script transfer N) (L : Gxid) (loads : IsLoader N L) where
  false-of : (b : Bool) → (b ≡ true → ⊥) → b ≡ false
  false-of true f = absurd (f refl)
  false-of false f = refl

  pub loader-done : is_committed N L ≡ true → started_after loader None N ≡ Some L
  loader-done e = by_case loads
    where
      above : (a b : ℕ) → a ≤ b → b + 1 ≤ a → ⊥
      above a b l k = omega arith

      by_case : IsLoader N L → started_after loader None N ≡ Some L
      by_case (inl f) = f
      by_case (inr f) = absurd (above L.0 (start_count N) (accounts.known L e) f.1)

  -- where the load is shown, and nobody who has aborted, each account is there
  pub account-there : (shown : Gxid → Cid → Bool) → ((g : Gxid) (c : Cid) → shown g c ≡ true → is_aborted N g ≡ false) → shown L the_first ≡ true → is_committed N L ≡ true → (o : ℕ) → 1 ≤ o → o ≤ 64
      → IsThere (image_after shown the_accounts (row_of L o) None N)
  account-there shown unaborted seen done o low high =
      some-image shown (row_of L o) None N
      (each-weaker (IsNeat N) (λ g c t r image. shown g c ≡ true → (t.0 ≡ 0) × IsThere image) (λ g c t r image neat e. let a = neat (unaborted g c e) in (a.table, subst IsThere (sym a.is) tt)) N accounts.neat)
      (skips-of (λ g. is_aborted N g ≡ true) (λ g. (c : Cid) → shown g c ≡ true → ⊥) (λ g e c f. true-false (is_aborted N g) e (unaborted g c f)) N accounts.skips)
      (inr (L, the_first, seen, accounts.whole L (loader-done done) done o low high))

  -- and has some balance
  pub account-shown : (shown : Gxid → Cid → Bool) → ((g : Gxid) (c : Cid) → shown g c ≡ true → is_aborted N g ≡ false) → (rid : Rid) → IsThere (image_after shown the_accounts rid None N) → (z : ℤ) × (image_after shown the_accounts rid None N ≡ Some (account_image (rid.ordinal - 1) z))
  account-shown shown unaborted rid there = by_case (image-each (IsNeat N) shown the_accounts rid None N (image_after shown the_accounts rid None N) accounts.neat refl)
    where
      by_case : (let o : Option (List Value) = None in o ≡ image_after shown the_accounts rid None N) ⊎ IsShown (IsNeat N) shown rid (image_after shown the_accounts rid None N) → (z : ℤ) × (image_after shown the_accounts rid None N ≡ Some (account_image (rid.ordinal - 1) z))
      by_case (inl e) = absurd (subst IsThere (sym e) there)
      by_case (inr s) = let a = s.so (unaborted s.g s.c s.seen) in (a.balance, a.is)

-- AN ANSWER
module _ (script : Script) (transfer : ℕ → ℕ → Option Transfer) (are : AreTransfers script transfer) (point : Point) (accounts : AreAccounts script transfer (before point)) (L : Gxid) (loads : IsLoader (before point) L) (ds : List Change) (b : AreBooks script transfer (before point) L ds)
    (s : SessionId) (n : ℕ) (a : StmtAnswer) (legal : LegalMark script point (Answer s n a)) where
  abbrev N : List Mark
  N = before point

  abbrev m : Mark
  m = Answer s n a

  foreign : (h : Gxid) → IsForeign m h
  foreign h = record { snaps = refl; processes = λ c rid. refl }

  states-of : (x : BlockState) (k : ℕ) → x ≡ Outside → x ≡ InBlock RepeatableRead k → ⊥
  states-of x k e f = cc

  states-failed : (x : BlockState) (k : ℕ) → x ≡ Failed → x ≡ InBlock RepeatableRead k → ⊥
  states-failed x k e f = cc

  blocks : (l : Level) (j k : ℕ) → InBlock l j ≡ InBlock RepeatableRead k → k ≡ j
  blocks l j k e = cc

  -- a command that is answered has its snapshot, and has written
  module _ (h : Gxid) (t : Transfer) (j : ℕ) (op : ArithOp) (amount account : ℕ) (account_is : account ≡ account_of t j) (low : account < 64) (own : started_after s None N ≡ Some h) where
    abbrev Says : Type 0
    Says = (has_snapshot N h ≡ true) × ((o : IsOwn N L ds h t j) → o.sees ≡ true → is_done N L h t j ≡ true)

    changes-say : (g : Gxid) (count : ℕ) → g ≡ h → is_aborted N h ≡ false → Changes N RepeatableRead g (command j) (record { 0 = 0 }) (Some (on_account account)) count → Says
    changes-say g count g_is running told =
        (subst (λ x. has_snapshot N x ≡ true) g_is (snap-there N told.sees.place g told.sees.taken.d told.sees.taken.snapshot told.sees.taken.taken), wrote)
      where
        shown : Gxid → Cid → Bool
        shown = is_shown_to (Some (g, command j)) (take told.sees.place N)

        unaborted : (x : Gxid) (d : Cid) → shown x d ≡ true → is_aborted N x ≡ false
        unaborted x d e = unaborted-shown script transfer are point accounts.standing accounts.neat told.sees.place g x (command j) d (subst (λ y. is_aborted N y ≡ false) (sym g_is) running) e

        left : (x y : Bool) → x ≡ true → (x || y) ≡ true
        left true y e = refl
        left false y e = absurd (false-true e)

        least : (x : ℕ) → 1 ≤ x + 1
        least x = omega arith

        below : (x : ℕ) → x < 64 → x + 1 ≤ 64
        below x l = omega arith

        back-to : (x : ℕ) → x + 1 - 1 ≡ x
        back-to x = omega arith

        wrote : (o : IsOwn N L ds h t j) → o.sees ≡ true → is_done N L h t j ≡ true
        wrote o e =
            let seen : is_committed (take told.sees.place N) L ≡ true = o.seen told.sees.place told.sees.taken.d told.sees.taken.snapshot (subst (λ x. slice_get N told.sees.place ≡ Some (Snap x told.sees.taken.d told.sees.taken.snapshot)) g_is told.sees.taken.taken) ∙ e in
            let there = account-there script transfer N accounts L loads shown unaborted (left (is_committed (take told.sees.place N) L) (is_same_gxid g L && nat_lt 1 (j + 1)) seen) (committed-take told.sees.place N L seen) (account + 1) (least account) (below account low) in
            let row = account-shown script transfer N accounts L loads shown unaborted (row_of L (account + 1)) there in
            subst (λ x. is_processed N x (command j) (row_of L (account_of t j + 1)) ≡ true) g_is
            (subst (λ x. is_processed N g (command j) (row_of L (x + 1)) ≡ true) account_is
            (told.each (row_of L (account + 1)) (account_image account row.0)
            (told.sees.view.images (row_of L (account + 1)) ∙ row.1 ∙ ap (λ x. Some (account_image x row.0)) (back-to account)) (own-chosen account row.0)))

    block-answer : (x : StmtAnswer) (k : ℕ) → is_aborted N h ≡ false → IsAnswer script point s (InBlock RepeatableRead j) (changing op amount account) x → state_after (InBlock RepeatableRead j) (changing op amount account) x ≡ InBlock RepeatableRead k → (k ≡ j + 1) × Says
    block-answer (answer.Refused r) k running d e = absurd (states-failed Failed k refl e)
    block-answer (answer.Updated count) k running d e = (blocks RepeatableRead (j + 1) k e, changes-say d.g count (some-same d.g h (sym d.transaction ∙ own)) running d.told)
    block-answer x k running d e = absurd d.told

  -- an answer to BEGIN tells that a transaction has begun
  begin-answer : (x : StmtAnswer) → IsAnswer script point s Outside (stmt.Begin RepeatableRead) x → is_begun s N ≡ true
  begin-answer answer.Begin d = d
  begin-answer (answer.Refused r) d = by_test (is_begun s N) refl d.transaction
    where
      by_test : (q : Bool) → is_begun s N ≡ q → (if q then started_after s None N else None) ≡ Some d.g → is_begun s N ≡ true
      by_test true e f = e
      by_test false e f = absurd (cc)
  begin-answer x d = absurd (false-true d.command)

  state-own : state_of script s (N ++ m ∷ []) ≡ state_after (state_of script s N) legal.line a
  state-own =
      state_from-append script s Outside N (m ∷ [])
      ∙ ap (λ (q : Bool). if q then state_after_line (state_of script s N) (stmt_of s n script.lines) a else state_of script s N) (itself s.0)
      ∙ ap (λ o. state_after_line (state_of script s N) o a) (ap (λ k. stmt_of s k script.lines) legal.order ∙ legal.runs.line)
    where
      itself : (n : ℕ) → (n == n) ≡ true
      itself n = grind (arith, nat_tests)

  count-own : answer_count s (N ++ m ∷ []) ≡ answer_count s N + 1
  count-own = answer_count-append s N (m ∷ []) ∙ ap (λ (q : Bool). answer_count s N + (if q then 0 + 1 else 0)) (itself s.0) ∙ plain (answer_count s N)
    where
      itself : (n : ℕ) → (n == n) ≡ true
      itself n = grind (arith, nat_tests)

      plain : (k : ℕ) → k + (0 + 1) ≡ k + 1
      plain k = omega arith

  started-on : (u : SessionId) → started_after u None (N ++ m ∷ []) ≡ started_after u None N
  started-on u = started_after-append u None N (m ∷ [])

  -- BEHIND THE ANSWER
  module _ (h : Gxid) (t : Transfer) (k place : ℕ) (l : 1 ≤ s.0) (of : transfer s.0 place ≡ Some t) (few : k ≤ 2) (count : answer_count s N + 1 ≡ 4 * place + 1 + k) (own : started_after s None N ≡ Some h) (running : is_aborted N h ≡ false) where
    one : (x y : ℕ) → x ≡ 4 * y → x + 1 ≡ 4 * y + 1
    one x y e = omega arith

    two : (x y : ℕ) → x ≡ 4 * y + 1 + 0 → x + 1 ≡ 4 * y + 2
    two x y e = omega arith

    three : (x y : ℕ) → x ≡ 4 * y + 1 + 1 → x + 1 ≡ 4 * y + 3
    three x y e = omega arith

    four : (x y : ℕ) → x ≡ 4 * y + 1 + 2 → x + 1 ≡ 4 * y + 4
    four x y e = omega arith

    three-failed : (x y : ℕ) → x ≡ 4 * y + 2 → x + 1 ≡ 4 * y + 3
    three-failed x y e = omega arith

    four-failed : (x y : ℕ) → x ≡ 4 * y + 3 → x + 1 ≡ 4 * y + 4
    four-failed x y e = omega arith

    many : (x : ℕ) → suc (suc (suc x)) ≤ 2 → ⊥
    many x e = omega arith

    places : (x y j : ℕ) → j ≤ 1 → x ≡ 4 * y + 1 + j → x + 1 ≡ 4 * place + 1 + k → y ≡ place
    places x y j low e f = omega (arith, few)

    in-block : (j : ℕ) (low : j ≤ 1) (lv : Level) (p : IsPlaced transfer s (InBlock lv j) (answer_count s N)) (op : ArithOp) (amount account : ℕ) → account ≡ account_of p.1 j → account < 64 → state_of script s N ≡ InBlock lv j → legal.line ≡ changing op amount account
        → state_after (InBlock lv j) legal.line a ≡ InBlock RepeatableRead k → IsAnswer script point s (InBlock lv j) legal.line a → IsOwn N L ds h t k
    in-block j low lv p op amount account account_is bound is line_is next said =
        let next' = subst (λ y. state_after (InBlock RepeatableRead j) y a ≡ InBlock RepeatableRead k) line_is (subst (λ y. state_after (InBlock y j) legal.line a ≡ InBlock RepeatableRead k) p.3 next) in
        let said' = subst (λ y. IsAnswer script point s (InBlock RepeatableRead j) y a) line_is (subst (λ y. IsAnswer script point s (InBlock y j) legal.line a) p.3 said) in
        let x = block-answer h p.1 j op amount account account_is bound own a k running said' next' in
        let t_is = some-same p.1 t (sym p.2 ∙ ap (transfer s.0) (places (answer_count s N) p.0 j low p.4 count) ∙ of) in
        let o = b.own h p.1 j (record { session = s; other = l; place = p.0; of = p.2; state = is ∙ ap (λ y. InBlock y j) p.3; own = own; count = p.4; few = p.5 }) running in
        subst (λ y. IsOwn N L ds h y k) t_is (subst (λ y. IsOwn N L ds h p.1 y) (sym x.0) (own-answered N L ds h p.1 j x.1.0 o x.1.1))

    by_state : (st : BlockState) → state_of script s N ≡ st → IsPlaced transfer s st (answer_count s N) → state_after st legal.line a ≡ InBlock RepeatableRead k → IsAnswer script point s st legal.line a → IsOwn N L ds h t k
    by_state Outside is p next said =
        let x = is-opened script transfer are s l legal.line p.0 (answer_count s N + 1) (one (answer_count s N) p.0 p.1) legal.runs.line in
        let k_is = blocks RepeatableRead 0 k (subst (λ y. state_after Outside y a ≡ InBlock RepeatableRead k) x.2 next) in
        subst (λ y. IsOwn N L ds h t y) (sym k_is) (own-first N L ds h t (b.begun s h l is (begin-answer a (subst (λ y. IsAnswer script point s Outside y a) x.2 said)) own running))
    by_state (InBlock lv zero) is p next said =
        in-block 0 (omega arith) lv p arith_op.Sub p.1.amount p.1.from refl (are.accounts s.0 p.0 p.1 p.2).0 is (is-taking script transfer are s l legal.line p.0 (answer_count s N + 1) p.1 p.2 legal.runs.line (two (answer_count s N) p.0 p.4)) next said
    by_state (InBlock lv (suc zero)) is p next said =
        in-block 1 (omega arith) lv p arith_op.Add p.1.amount p.1.to refl (are.accounts s.0 p.0 p.1 p.2).1 is (is-giving script transfer are s l legal.line p.0 (answer_count s N + 1) p.1 p.2 legal.runs.line (three (answer_count s N) p.0 p.4)) next said
    by_state (InBlock lv (suc (suc zero))) is p next said =
        absurd (states-of Outside k refl (subst (λ y. state_after (InBlock lv 2) y a ≡ InBlock RepeatableRead k) (is-ending script transfer are s l legal.line p.0 (answer_count s N + 1) p.1 p.2 legal.runs.line (four (answer_count s N) p.0 p.4)) next))
    by_state (InBlock lv (suc (suc (suc j)))) is p next said = absurd (many j p.5)
    by_state Failed is p next said = by_case p.3
      where
        by_case : (answer_count s N ≡ 4 * p.0 + 2) ⊎ (answer_count s N ≡ 4 * p.0 + 3) → IsOwn N L ds h t k
        by_case (inl e) = absurd (states-failed Failed k refl (subst (λ y. state_after Failed y a ≡ InBlock RepeatableRead k) (is-giving script transfer are s l legal.line p.0 (answer_count s N + 1) p.1 p.2 legal.runs.line (three-failed (answer_count s N) p.0 e)) next))
        by_case (inr e) = absurd (states-of Outside k refl (subst (λ y. state_after Failed y a ≡ InBlock RepeatableRead k) (is-ending script transfer are s l legal.line p.0 (answer_count s N + 1) p.1 p.2 legal.runs.line (four-failed (answer_count s N) p.0 e)) next))

    own-behind : state_of script s (N ++ m ∷ []) ≡ InBlock RepeatableRead k → IsOwn N L ds h t k
    own-behind state = by_state (state_of script s N) refl (accounts.standing.placed.sessions s l) (sym state-own ∙ state) legal.is

  other-state : (u : SessionId) → is_same_session s u ≡ false → state_of script u (N ++ m ∷ []) ≡ state_of script u N
  other-state u e = state_from-append script u Outside N (m ∷ []) ∙ ap (λ (q : Bool). if q then state_after_line (state_of script u N) (stmt_of u n script.lines) a else state_of script u N) e

  other-count : (u : SessionId) → is_same_session s u ≡ false → answer_count u (N ++ m ∷ []) ≡ answer_count u N
  other-count u e = answer_count-append u N (m ∷ []) ∙ ap (λ (q : Bool). answer_count u N + (if q then 0 + 1 else 0)) e ∙ plain (answer_count u N)
    where
      plain : (k : ℕ) → k + 0 ≡ k
      plain k = omega arith

  own-on : (h : Gxid) (t : Transfer) (k : ℕ) (i : IsIn script transfer (N ++ m ∷ []) h t k) → is_aborted N h ≡ false → (q : Bool) → is_same_session s i.session ≡ q → IsOwn N L ds h t k
  own-on h t k i running true e =
      let s_is : i.session ≡ s = sym (ap (λ z. let y : SessionId = record { 0 = z } in y) (eqb-true s.0 i.session.0 e)) in
      own-behind h t k i.place (subst (λ y. 1 ≤ y.0) s_is i.other) (subst (λ y. transfer y.0 i.place ≡ Some t) s_is i.of) i.few (sym count-own ∙ subst (λ y. answer_count y (N ++ m ∷ []) ≡ 4 * i.place + 1 + k) s_is i.count)
      (subst (λ y. started_after y None N ≡ Some h) s_is (sym (started-on i.session) ∙ i.own)) running (subst (λ y. state_of script y (N ++ m ∷ []) ≡ InBlock RepeatableRead k) s_is i.state)
  own-on h t k i running false e =
      b.own h t k (record { session = i.session; other = i.other; place = i.place; of = i.of; state = sym (other-state i.session e) ∙ i.state; own = sym (started-on i.session) ∙ i.own; count = sym (other-count i.session e) ∙ i.count; few = i.few }) running

  wider : (x y z g : ℕ) → z ≡ x + y → z + 1 ≤ g → x + 1 ≤ g
  wider x y z g e l = omega arith

  pub answer-books : AreBooks script transfer (N ++ m ∷ []) L ds
  answer-books = record {
    shows = hidden-shows L N m ds (λ C good q i. refl) b.shows;
    own = λ h t k i e. own-stays N m L h (foreign h) ds ds t k refl (own-on h t k i (unaborted-before N m h e) (is_same_session s i.session) refl);
    begun = λ u h l out start own e. unused-stays N m L h (foreign h) ds ds refl (by_test u h l (is_same_session s u) refl out (sym (is_begun_after-append u false N (m ∷ [])) ∙ start) (sym (started-on u) ∙ own) (unaborted-before N m h e));
    fresh = λ h l e. unused-stays N m L h (foreign h) ds ds refl (b.fresh h (wider (start_count N) (start_count (m ∷ [])) (start_count (N ++ m ∷ [])) h.0 (start_count-append N (m ∷ [])) l) (unaborted-before N m h e));
  }
    where
      by_test : (u : SessionId) (h : Gxid) → 1 ≤ u.0 → (q : Bool) → is_same_session s u ≡ q → state_of script u (N ++ m ∷ []) ≡ Outside → (if q then false else is_begun u N) ≡ true → started_after u None N ≡ Some h → is_aborted N h ≡ false → IsUnused N ds h
      by_test u h l true e out start own running = absurd (false-true start)
      by_test u h l false e out start own running = b.begun u h l (sym (other-state u e) ∙ out) start own running
