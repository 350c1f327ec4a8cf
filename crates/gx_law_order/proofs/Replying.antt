-- Answers to PREPARE, COMMIT, COMMIT PREPARED, FORGET and ABORT.
use Rattle.std.proofs.Common.{◌≡◌, ◌≤◌, inl, ℕ, ◌+◌, List, [], ◌∷◌, ◌++◌, Option, Some, None, Bool, true, false, refl, sym, subst, ap, ◌∙◌, if◌then◌else◌, ◌||◌, ◌==◌, arith, eqb}
use Rattle.std.proofs.lemmas.Bool.{eqb-true, or_from}
use Rattle.std.proofs.lemmas.Bool.Decides.{nat_tests}
use Rattle.std.specs.Prelude.{length, nat_le, take}
use Rattle.gx_lemmas.proofs.Numbers.{eqb-self}
use Rattle.gx_lemmas.proofs.Tests.{or-false, true-false}
use Rattle.gx_ids.specs.declared.ids.Node.{Node}
use Rattle.gx_dtx.specs.Nodes.{has, without}
use Rattle.gx_dtx.specs.Rules.{decides, ends_committed, finishes, forgets, gives_up, is_awaited, prepares, refuses, reply_found, stays, takes, turns}
use Rattle.gx_dtx.specs.Table.{find_txn}
use Rattle.gx_dtx.specs.declared.change.Change.{Change}
use Rattle.gx_dtx.specs.declared.outcome.Outcome.TheVariants as outcome
use Rattle.gx_dtx.specs.declared.phase.Phase.{Phase as Status}
use Rattle.gx_dtx.specs.declared.phase.Phase.TheVariants as status
use Rattle.gx_dtx.specs.declared.txn.Txn.{Txn}
use Rattle.gx_msg.specs.declared.message.Message.TheVariants as message
use Rattle.gx_msg.specs.declared.reply.Reply.{Reply}
use Rattle.gx_msg.specs.declared.reply.Reply.TheVariants as reply
use Rattle.gx_script.specs.declared.Script.{Script}
use Rattle.gx_store.specs.declared.answer.Refused.TheVariants as refused
use Rattle.gx_store.specs.declared.answer.StmtAnswer.TheVariants as told
use Rattle.gx_store.specs.declared.mark.Mark.{Mark}
use Rattle.gx_store.specs.declared.mark.Mark.TheVariants as mark
use Rattle.gx_store.specs.Marks.{is_aborted, is_committed}
use Rattle.gx_store.specs.Protocol.{AreSeveral, Decides, decided_count, is_writer, local_count, prepared_count, writers_of}
use Rattle.gx_store.specs.Refusals.{the_coordinator}
use Rattle.gx_rules.specs.AtCoordinator.{answer_mark, failure_marks, follows, on_status}
use Rattle.gx_rules.specs.AtSegment.{was_prepared}
use Rattle.gx_rules.specs.Coordinators.{Coord, CoordTurn, work_of}
use Rattle.gx_rules.specs.Segments.{Phase, has_committed}
use Rattle.gx_law_order.proofs.Lists.{each_weaker, get_last}
use Rattle.gx_law_order.specs.Lists.{Each}
use Rattle.gx_law_order.proofs.Stages.{left_of}
use Rattle.gx_law_order.specs.Stages.{IsWhole}
use Rattle.gx_law_order.specs.Places.{AreIn}
use Rattle.gx_law_order.specs.Pairs.{IsVote, Pair, bit}
use Rattle.gx_law_order.specs.Said.{Answers}
use Rattle.gx_law_order.specs.Standings.{Known, Part, Standing, at, gx, is_closing, is_undecided, known_at, known_of, standing, standing_in}
use Rattle.gx_law_order.specs.Standings.Standing.{Unborn, Live, Preparing, One, Two, Over}
use Rattle.gx_law_order.proofs.Calls.{CanEnd, Elsewhere, abort-led, becomes-calm, calm-led, committed-led, ended-follows, for-all, known, one-change, stands-as, still-led, to-nodes, unaborted, uncommitted, not-self, back-mute}
use Rattle.gx_law_order.proofs.Commits.{AtMostOne, Decision, few, filter-few, filter-many, many, several}
use Rattle.gx_law_order.proofs.Nodes.{AreApart, each-has, has-without}
use Rattle.gx_law_order.proofs.Shifts.{Shift, decide-shift, deciding, finished-shift, promised-shift, shift-same}
use Rattle.gx_law_order.proofs.Counts.{NoEnd, NoPart}
use Rattle.gx_law_order.proofs.Ways.{Agrees, AgreesIn, Fol, Led, Stands, at-one, becomes, known-here}
use Rattle.gx_rules.specs.Locks.{release_marks}

pub take-length : {A : Type 0} (xs ys : List A) → take (length xs) (xs ++ ys) ≡ xs
take-length [] ys = refl
take-length (x ∷ xs) ys = ap (λ zs. x ∷ zs) (take-length xs ys)

as-bit : (b : Bool) → bit b ≡ (if b then 1 else 0)
as-bit true = refl
as-bit false = refl

module _ (script : Script) (P : ℕ → ℕ → Part) (c : Coord) (ms : List Mark) (s : Stands script P c ms) (g : ℕ) (ins : AreIn script.segments (c.works g).writers) where
  -- two of the writers
  pub two-writers : ((i : ℕ) → is_writer ms (gx g) (at i) ≡ has (at i) (c.works g).writers) → AreSeveral (c.works g).writers → AtMostOne (writers_of script ms (gx g)) → ⊥
  two-writers writes = by_list (c.works g).writers refl
    where
      first : (x : ℕ) (b : Bool) → (eqb x x || b) ≡ true
      first x b = grind (arith, nat_tests)

      second : (x y : ℕ) (b : Bool) → (eqb x y || (eqb y y || b)) ≡ true
      second x y b = grind (arith, nat_tests)

      by_list : (zs : List Node) → (c.works g).writers ≡ zs → AreSeveral (c.works g).writers → AtMostOne (writers_of script ms (gx g)) → ⊥
      by_list [] q m = absurd (subst AreSeveral q m)
      by_list (x ∷ []) q m = absurd (subst AreSeveral q m)
      by_list (x ∷ y ∷ zs) q m =
          let apart : AreApart (x ∷ y ∷ zs) = subst AreApart q (s.works g).apart in
          let inside : AreIn script.segments (x ∷ y ∷ zs) = subst (AreIn script.segments) q ins in
          filter-many (is_writer ms (gx g)) script.segments x.0 y.0 (writes x.0 ∙ ap (has x) q ∙ first x.0 _) (writes y.0 ∙ ap (has y) q ∙ second x.0 y.0 _) inside.0.0 inside.0.1 inside.1.0.0 inside.1.0.1 apart.0.0

module _ (script : Script) (P : ℕ → ℕ → Part) (c : Coord) (ms : List Mark) (s : Stands script P c ms) (whole : IsWhole c.table) (g : ℕ) (ins : AreIn script.segments (c.works g).writers) where
  abbrev k : ℕ → Known
  k i = known_at c ms i g

  abbrev ws : List Node
  ws = (c.works g).writers

  pair : (i : ℕ) → Pair (k i) (P i g)
  pair i = s.pairs i g

  local-is : (i : ℕ) (b : Bool) → has_committed (P i g).phase ≡ b → local_count ms (at i) (gx g) ≡ bit b
  local-is i b e = (s.parts i g).commits ∙ (pair i).committed ∙ ap bit e

  promised-is : (i : ℕ) (b : Bool) → was_prepared (P i g).vote ≡ b → prepared_count ms (at i) (gx g) ≡ bit b
  promised-is i b e = (s.parts i g).promises ∙ (pair i).promised ∙ ap bit e

  writer-is : (i : ℕ) → is_closing (k i).at ≡ true → is_writer ms (gx g) (at i) ≡ has (at i) ws
  writer-is i e = (s.parts i g).wrote ∙ sym ((pair i).closing e)

  module _ (t : Txn) (f : find_txn c.table (gx g) ≡ Some t) where
    abbrev Gives : Change → Type 0
    Gives ch = Led script P c ms (follows c (gx g) (turns c.table (gx g) ch) ch.out.outcome)

    stands-in : (p : Status) → t.phase ≡ p → (i : ℕ) → (k i).at ≡ standing_in p i
    stands-in p e i = stands-as script P c ms s whole g t f i ∙ ap (λ q. standing_in q i) e

    agrees-in : (p : Status) → t.phase ≡ p → AgreesIn ms g p ws
    agrees-in p e = subst (λ q. AgreesIn ms g q ws) e (subst (λ o. Agrees ms g o ws) f (s.agrees g))

    -- a known standing
    not-over : (i : ℕ) → is_closing (k i).at ≡ true → (k i).at ≡ Over → ⊥
    not-over i e x = plain (k i).at e x
      where
        plain : (a : Standing) → is_closing a ≡ true → a ≡ Over → ⊥
        plain a e x = grind arith

    not-unborn : (i : ℕ) → is_closing (k i).at ≡ true → (k i).at ≡ Unborn → ⊥
    not-unborn i e x = plain (k i).at e x
      where
        plain : (a : Standing) → is_closing a ≡ true → a ≡ Unborn → ⊥
        plain a e x = grind arith

    -- A JOURNAL HAS FAILED
    failure-part : (n : Node) → Each NoPart (failure_marks n (gx g))
    failure-part n = by_test (n.0 == 0)
      where
        by_test : (b : Bool) → Each NoPart (if b then mark.JournalFailed the_coordinator (gx g) ∷ [] else [])
        by_test true = (tt, tt)
        by_test false = tt

    failure-end : (n : Node) → Each NoEnd (failure_marks n (gx g))
    failure-end n = by_test (n.0 == 0)
      where
        by_test : (b : Bool) → Each NoEnd (if b then mark.JournalFailed the_coordinator (gx g) ∷ [] else [])
        by_test true = (tt, tt)
        by_test false = tt

    -- the coordinator's own where it would have decided
    failure-fol : (n : Node) → ((n.0 == 0) ≡ true → Decides script ms (gx g)) → Fol script ms (failure_marks n (gx g))
    failure-fol n d = by_test (n.0 == 0) d
      where
        by_test : (b : Bool) → (b ≡ true → Decides script ms (gx g)) → Fol script ms (if b then mark.JournalFailed the_coordinator (gx g) ∷ [] else [])
        by_test true d = ((refl, d refl), tt)
        by_test false d = tt

    -- a segment's is another's
    not-own : (n : Node) → 1 ≤ n.0 → (n.0 == 0) ≡ true → Decides script ms (gx g)
    not-own n one q = absurd (plain n.0 one q)
      where
        plain : (a : ℕ) → 1 ≤ a → (a == 0) ≡ true → ⊥
        plain a x y = grind (arith, nat_tests)

    refused-led : (n : Node) → ((n.0 == 0) ≡ true → Decides script ms (gx g)) → CanEnd script P c ms s whole g t f → ((i : ℕ) → is_closing (k i).at ≡ true) → ((i : ℕ) → is_undecided (k i).at ≡ true) → ((i : ℕ) → has_committed (P i g).phase ≡ false) → Gives (refuses (gx g) t.participants n)
    refused-led n decides can closing undecided none =
        abort-led script P c ms s whole g t f (follows c (gx g) (turns c.table (gx g) (refuses (gx g) t.participants n)) (outcome.Refused n)) (refuses (gx g) t.participants n) (failure_marks n (gx g))
        (answer_mark c (work_of c (gx g)).session (told.Refused (refused.JournalFault n)) ∷ release_marks the_coordinator c.locks (gx g)) refl (failure-fol n decides) (failure-part n) (failure-end n) (tt, back-mute c.locks (gx g)) can ((pair 0).undecided (undecided 0)) (λ i. local-is i false (none i)) refl (λ h. refl) (λ i. refl) tt t.participants refl

    -- A PROMISE
    module _ (xs aw : List Node) (e : t.phase ≡ status.Preparing xs aw) (j : Node) (asked : has j aw ≡ true) where
      at-preparing : (i : ℕ) → (k i).at ≡ Preparing (has (at i) aw)
      at-preparing i = stands-in (status.Preparing xs aw) e i

      preparing-closing : (i : ℕ) → is_closing (k i).at ≡ true
      preparing-closing i = ap is_closing (at-preparing i)

      preparing-can : CanEnd script P c ms s whole g t f
      preparing-can =
          record { born = λ i. not-unborn i (preparing-closing i); going = λ i. not-over i (preparing-closing i); alone = λ i v x. one (k i).at (has (at i) aw) (at-preparing i) x; both = λ i x. absurd (two (k i).at (has (at i) aw) (at-preparing i) x) }
        where
          one : (a : Standing) (b : Bool) → a ≡ Preparing b → a ≡ One true → ⊥
          one a b x y = grind arith

          two : (a : Standing) (b : Bool) → a ≡ Preparing b → a ≡ Two true → ⊥
          two a b x y = grind arith

      jfault-led : (n : Node) → ((n.0 == 0) ≡ true → Decides script ms (gx g)) → Gives (refuses (gx g) t.participants n)
      jfault-led n decides = refused-led n decides preparing-can preparing-closing (λ i. ap is_undecided (at-preparing i)) (λ i. ((pair i).asked (has (at i) aw) (at-preparing i)).3)

      module _ (promised : was_prepared (P j.0 g).vote ≡ true) where
        -- all have promised
        all-promised : without j aw ≡ [] → (i : ℕ) → was_prepared (P i g).vote ≡ (k i).writes
        all-promised none i = by_same (eqb j.0 i) refl
          where
            by_same : (b : Bool) → eqb j.0 i ≡ b → was_prepared (P i g).vote ≡ (k i).writes
            by_same true q =
                subst (λ n. was_prepared (P n g).vote ≡ (k n).writes) (eqb-true j.0 i q)
                (promised ∙ sym (((pair j.0).asked (has j aw) (at-preparing j.0)).0 asked))
            by_same false q =
                ((pair i).asked (has (at i) aw) (at-preparing i)).1 (sym (has-without (at i) j aw ∙ ap (λ b. if b then false else has (at i) aw) q) ∙ ap (has (at i)) none)

        decides-here : without j aw ≡ [] → Decides script ms (gx g)
        decides-here none =
            record {
              running = or_from (is_committed ms (gx g)) (is_aborted ms (gx g)) (uncommitted script P c ms s whole g t f (k 0) (P 0 g) (pair 0) (not-over 0 (preparing-closing 0))) (unaborted script P c ms s whole g t f (k 0) (P 0 g) (pair 0) (not-over 0 (preparing-closing 0)));
              first = (pair 0).undecided (ap is_undecided (at-preparing 0));
              several = several (writers_of script ms (gx g)) (two-writers script P c ms s g ins (λ i. writer-is i (preparing-closing i)) (agrees-in (status.Preparing xs aw) e).1);
              promised = λ node. promised-is node.0 (has node ws) (all-promised none node.0) ∙ as-bit (has node ws) ∙ ap (λ b. if b then 1 else 0) (sym (writer-is node.0 (preparing-closing node.0)));
              uncommitted = λ node. local-is node.0 false (((pair node.0).asked (has node aw) (at-preparing node.0)).3);
            }

        decided-led : without j aw ≡ [] → Gives (decides (gx g) xs t.participants false)
        decided-led none =
            let ch : Change = decides (gx g) xs t.participants false in
            let turn : CoordTurn = follows c (gx g) (turns c.table (gx g) ch) outcome.Decided in
            let o = one-change script P c ms s whole g t f ch turn.coord turn.marks (c.works g) refl (λ h. same h (eqb h g) refl) (record { others = λ h n. (other h (not-self g h n), refl, refl) }) in
            record {
              way = at-one script P c turn.coord ms turn.marks g (left_of ch.step (Some t)) (c.works g) o s (λ i. subst (λ q. Shift (k i) q (P i g)) (sym (known-now i)) (decide-shift (has (at i) aw) (has (at i) xs) (k i) (P i g) (pair i) (at-preparing i) (all-promised none i) (ap (has (at i)) (agrees-in (status.Preparing xs aw) e).0)))
                  (s.works g) ((agrees-in (status.Preparing xs aw) e).1, decision) (decides-here none, tt);
              outs = to-nodes _ (message.CommitPrepared (gx g)) xs (each_weaker (λ (y : Node). has y xs ≡ true) _ (λ y h. (refl, inl (ap (λ (q : Known). q.at) (known-here script P c turn.coord ms turn.marks g (left_of ch.step (Some t)) (c.works g) o y.0) ∙ ap Two h), ap (λ (q : Known). q.at) (known-here script P c turn.coord ms turn.marks g (left_of ch.step (Some t)) (c.works g) o y.0) ∙ ap Two h)) xs (each-has xs));
            }
          where
            same : (h : ℕ) (b : Bool) → eqb h g ≡ b → c.works h ≡ (if b then c.works g else c.works h)
            same h true q = ap c.works (eqb-true h g q)
            same h false q = refl

            other : (h : ℕ) → eqb g h ≡ false → decided_count (mark.Decided (gx g) ∷ []) (gx h) ≡ 0
            other h q = ap (λ b. if b then 0 + 1 else 0) q

            one-decided : decided_count (mark.Decided (gx g) ∷ []) (gx g) ≡ 1
            one-decided = ap (λ b. if b then 0 + 1 else 0) (eqb-self g)

            known-now : (i : ℕ) → becomes script P c ms (mark.Decided (gx g) ∷ []) g (left_of (decides (gx g) xs t.participants false).step (Some t)) (c.works g) i ≡ deciding (has (at i) xs) (k i)
            known-now i =
                ap (λ n. known_of (Two (has (at i) xs)) (c.works g) i (decided_count ms (gx g) + n) (is_aborted ms (gx g) || false) (is_committed ms (gx g) || false)) one-decided
                ∙ ap (λ b. known_of (Two (has (at i) xs)) (c.works g) i (decided_count ms (gx g) + 1) b (is_committed ms (gx g) || false)) (or-false (is_aborted ms (gx g)))
                ∙ ap (λ b. known_of (Two (has (at i) xs)) (c.works g) i (decided_count ms (gx g) + 1) (is_aborted ms (gx g)) b) (or-false (is_committed ms (gx g)))

            decision : Decision (ms ++ mark.Decided (gx g) ∷ []) ws g
            decision =
                record {
                  place = length ms;
                  decided = get_last ms [] (mark.Decided (gx g));
                  promised = λ i. ap (λ x. prepared_count x (at i) (gx g)) (take-length ms (mark.Decided (gx g) ∷ [])) ∙ promised-is i (has (at i) ws) (all-promised none i);
                  uncommitted = λ i. ap (λ x. local_count x (at i) (gx g)) (take-length ms (mark.Decided (gx g) ∷ [])) ∙ local-is i false (((pair i).asked (has (at i) aw) (at-preparing i)).3);
                }

        decides-led : (fails : Bool) → without j aw ≡ [] → Gives (decides (gx g) xs t.participants fails)
        decides-led false none = decided-led none
        decides-led true none = jfault-led (record { 0 = 0 }) (λ q. decides-here none)

        prepares-led : (fails : Bool) (rest : List Node) → without j aw ≡ rest → Gives (prepares (gx g) xs t.participants rest fails)
        prepares-led fails [] r = decides-led fails r
        prepares-led fails (y ∷ ys) r =
            calm-led script P c ms s whole g t f (prepares (gx g) xs t.participants (y ∷ ys) fails) (λ i. by_same i (eqb j.0 i) refl) (agrees-in (status.Preparing xs aw) e) tt
          where
            now : (i : ℕ) (b : Bool) → eqb j.0 i ≡ b → has (at i) (y ∷ ys) ≡ (if b then false else has (at i) aw)
            now i b q = ap (has (at i)) (sym r) ∙ has-without (at i) j aw ∙ ap (λ b. if b then false else has (at i) aw) q

            asked-at : (i : ℕ) → eqb j.0 i ≡ true → has (at i) aw ≡ true
            asked-at i q = subst (λ n. has (at n) aw ≡ true) (eqb-true j.0 i q) asked

            by_same : (i : ℕ) (b : Bool) → eqb j.0 i ≡ b → Shift (k i) (known_of (Preparing (has (at i) (y ∷ ys))) (c.works g) i (decided_count ms (gx g)) (is_aborted ms (gx g)) (is_committed ms (gx g))) (P i g)
            by_same i true q =
                subst (λ b. Shift (k i) (record (k i) { at = Preparing b }) (P i g)) (sym (now i true q))
                (promised-shift (k i) (P i g) (pair i) (at-preparing i ∙ ap Preparing (asked-at i q)) (subst (λ n. was_prepared (P n g).vote ≡ true) (eqb-true j.0 i q) promised))
            by_same i false q =
                subst (λ b. Shift (k i) (record (k i) { at = Preparing b }) (P i g)) (sym (now i false q))
                (subst (λ a. Shift (k i) (record (k i) { at = a }) (P i g)) (at-preparing i) (shift-same (k i) (P i g) (pair i)))

    -- ONE WRITER
    module _ (w : Node) (e : t.phase ≡ status.CommittingOne w) (j : Node) (mine : eqb w.0 j.0 ≡ true) where
      at-one-writer : (i : ℕ) → (k i).at ≡ One (eqb w.0 i)
      at-one-writer i = stands-in (status.CommittingOne w) e i

      one-closing : (i : ℕ) → is_closing (k i).at ≡ true
      one-closing i = ap is_closing (at-one-writer i)

      j-is : j.0 ≡ w.0
      j-is = sym (eqb-true w.0 j.0 mine)

      no-vote : (p : Phase) (v : Option Reply) → IsVote p v → v ≡ None → has_committed p ≡ false
      no-vote p v x y = grind (arith, nat_tests)

      jfault-vote : (p : Phase) (v : Option Reply) → IsVote p v → v ≡ Some reply.Jfault → has_committed p ≡ false
      jfault-vote p v x y = grind (arith, nat_tests)

      one-can : ((P w.0 g).vote ≡ None → ⊥) → CanEnd script P c ms s whole g t f
      one-can voted =
          record { born = λ i. not-unborn i (one-closing i); going = λ i. not-over i (one-closing i); alone = λ i v x. voted (subst (λ n. (P n g).vote ≡ None) (sym (eqb-true w.0 i (one (k i).at (eqb w.0 i) (at-one-writer i) x))) v); both = λ i x. absurd (two (k i).at (eqb w.0 i) (at-one-writer i) x) }
        where
          one : (a : Standing) (b : Bool) → a ≡ One b → a ≡ One true → b ≡ true
          one a b x y = grind arith

          two : (a : Standing) (b : Bool) → a ≡ One b → a ≡ Two true → ⊥
          two a b x y = grind arith

      -- the writer alone may have committed
      other-uncommitted : (i : ℕ) → eqb w.0 i ≡ false → has_committed (P i g).phase ≡ false
      other-uncommitted i q = no-vote (P i g).phase (P i g).vote (pair i).vote (((pair i).alone (eqb w.0 i) (at-one-writer i)).2 q)

      one-refused : 1 ≤ j.0 → (P j.0 g).vote ≡ Some reply.Jfault → Gives (refuses (gx g) t.participants j)
      one-refused one v =
          refused-led j (not-own j one) (one-can (λ x. differ (sym (subst (λ n. (P n g).vote ≡ Some reply.Jfault) j-is v) ∙ x))) one-closing (λ i. ap is_undecided (at-one-writer i)) (λ i. by_same i (eqb w.0 i) refl)
        where
          differ : Some reply.Jfault ≡ None → ⊥
          differ x = cc

          by_same : (i : ℕ) (b : Bool) → eqb w.0 i ≡ b → has_committed (P i g).phase ≡ false
          by_same i true q = subst (λ n. has_committed (P n g).phase ≡ false) (j-is ∙ eqb-true w.0 i q) (jfault-vote (P j.0 g).phase (P j.0 g).vote (pair j.0).vote v)
          by_same i false q = other-uncommitted i q

      one-committed : has_committed (P j.0 g).phase ≡ true → Gives (ends_committed (gx g) t.participants)
      one-committed v =
          subst (Led script P c ms) (sym (ended-follows script P c ms s whole g t f t.participants))
          (committed-led script P c ms s whole g t f t.participants (one-can (λ x. true-false (has_committed (P w.0 g).phase) (subst (λ n. has_committed (P n g).phase ≡ true) j-is v) (no-vote (P w.0 g).phase (P w.0 g).vote (pair w.0).vote x)))
          (λ i x y. asked (k i).at (eqb w.0 i) (at-one-writer i) y) (λ i x. absurd (alive (k i).at (eqb w.0 i) (at-one-writer i) x))
          (few (writers_of script ms (gx g)) ms g (filter-few (is_writer ms (gx g)) w.0 (λ i x. sym (eqb-true w.0 i (sym (writes i) ∙ x))) 1 script.segments)
          (record {
            local = λ node. local-is node.0 (is_writer ms (gx g) node) (same-local node.0) ∙ as-bit (is_writer ms (gx g) node);
            unprepared = λ node. promised-is node.0 false (((pair node.0).alone (eqb w.0 node.0) (at-one-writer node.0)).1);
            undecided = (pair 0).undecided (ap is_undecided (at-one-writer 0));
          })))
        where
          asked : (a : Standing) (b : Bool) → a ≡ One b → a ≡ Preparing true → ⊥
          asked a b x y = grind arith

          alive : (a : Standing) (b : Bool) → a ≡ One b → a ≡ Live → ⊥
          alive a b x y = grind arith

          writes : (i : ℕ) → is_writer ms (gx g) (at i) ≡ eqb w.0 i
          writes i = writer-is i (one-closing i) ∙ sym ((pair i).alone (eqb w.0 i) (at-one-writer i)).0

          same-local : (i : ℕ) → has_committed (P i g).phase ≡ is_writer ms (gx g) (at i)
          same-local i = by_same (eqb w.0 i) refl ∙ sym (writes i)
            where
              by_same : (b : Bool) → eqb w.0 i ≡ b → has_committed (P i g).phase ≡ eqb w.0 i
              by_same true q = subst (λ n. has_committed (P n g).phase ≡ true) (j-is ∙ eqb-true w.0 i q) v ∙ sym q
              by_same false q = other-uncommitted i q ∙ sym q

    -- AS PROMISED
    module _ (aw : List Node) (e : t.phase ≡ status.CommittingTwo aw) (j : Node) (asked : has j aw ≡ true) (done : has_committed (P j.0 g).phase ≡ true) where
      at-two : (i : ℕ) → (k i).at ≡ Two (has (at i) aw)
      at-two i = stands-in (status.CommittingTwo aw) e i

      two-closing : (i : ℕ) → is_closing (k i).at ≡ true
      two-closing i = ap is_closing (at-two i)

      now : (rest : List Node) → without j aw ≡ rest → (i : ℕ) (b : Bool) → eqb j.0 i ≡ b → has (at i) rest ≡ (if b then false else has (at i) aw)
      now rest r i b q = ap (has (at i)) (sym r) ∙ has-without (at i) j aw ∙ ap (λ b. if b then false else has (at i) aw) q

      done-at : (i : ℕ) → eqb j.0 i ≡ true → has_committed (P i g).phase ≡ true
      done-at i q = subst (λ n. has_committed (P n g).phase ≡ true) (eqb-true j.0 i q) done

      asked-at : (i : ℕ) → eqb j.0 i ≡ true → has (at i) aw ≡ true
      asked-at i q = subst (λ n. has (at n) aw ≡ true) (eqb-true j.0 i q) asked

      all-committed : without j aw ≡ [] → (i : ℕ) → has_committed (P i g).phase ≡ (k i).writes
      all-committed r i = by_same (eqb j.0 i) refl
        where
          by_same : (b : Bool) → eqb j.0 i ≡ b → has_committed (P i g).phase ≡ (k i).writes
          by_same true q = done-at i q ∙ sym (((pair i).both (has (at i) aw) (at-two i)).0 (asked-at i q))
          by_same false q = ((pair i).both (has (at i) aw) (at-two i)).2 (sym (now [] r i false q))

      two-can : without j aw ≡ [] → CanEnd script P c ms s whole g t f
      two-can r =
          record {
            born = λ i. not-unborn i (two-closing i);
            going = λ i. not-over i (two-closing i);
            alone = λ i v x. one (k i).at (has (at i) aw) (at-two i) x;
            both = λ i x. all-committed r i ∙ ((pair i).both (has (at i) aw) (at-two i)).0 (two (k i).at (has (at i) aw) (at-two i) x);
          }
        where
          one : (a : Standing) (b : Bool) → a ≡ Two b → a ≡ One true → ⊥
          one a b x y = grind arith

          two : (a : Standing) (b : Bool) → a ≡ Two b → a ≡ Two true → b ≡ true
          two a b x y = grind arith

      writes : (i : ℕ) → is_writer ms (gx g) (at i) ≡ has (at i) ws
      writes i = writer-is i (two-closing i)

      all-finished : without j aw ≡ [] → Gives (ends_committed (gx g) t.participants)
      all-finished r =
          let d : Decision ms ws g = (agrees-in (status.CommittingTwo aw) e).1 in
          subst (Led script P c ms) (sym (ended-follows script P c ms s whole g t f t.participants))
          (committed-led script P c ms s whole g t f t.participants (two-can r) (λ i x y. never (k i).at (has (at i) aw) (at-two i) y) (λ i x. absurd (alive (k i).at (has (at i) aw) (at-two i) x))
          (many (writers_of script ms (gx g)) ms g (two-writers script P c ms s g ins writes (agrees-in (status.CommittingTwo aw) e).0)
          (record {
            prepared = λ node. promised-is node.0 (has node ws) (((pair node.0).both (has node aw) (at-two node.0)).1) ∙ as-bit (has node ws) ∙ ap (λ b. if b then 1 else 0) (sym (writes node.0));
            decision = d.place;
            decided = d.decided;
            once = (pair 0).decided (ap Rattle.gx_law_order.specs.Standings.is_decided (at-two 0));
            promised = λ node. d.promised node.0 ∙ as-bit (has node ws) ∙ ap (λ b. if b then 1 else 0) (sym (writes node.0));
            uncommitted = λ node. d.uncommitted node.0;
            local = λ node. local-is node.0 (has node ws) (all-committed r node.0) ∙ as-bit (has node ws) ∙ ap (λ b. if b then 1 else 0) (sym (writes node.0));
          })))
        where
          never : (a : Standing) (b : Bool) → a ≡ Two b → a ≡ Preparing true → ⊥
          never a b x y = grind arith

          alive : (a : Standing) (b : Bool) → a ≡ Two b → a ≡ Live → ⊥
          alive a b x y = grind arith

      finishes-led : (rest : List Node) → without j aw ≡ rest → Gives (finishes (gx g) t.participants rest)
      finishes-led [] r = all-finished r
      finishes-led (y ∷ ys) r = calm-led script P c ms s whole g t f (finishes (gx g) t.participants (y ∷ ys)) (λ i. by_same i (eqb j.0 i) refl) (agrees-in (status.CommittingTwo aw) e) tt
        where
          by_same : (i : ℕ) (b : Bool) → eqb j.0 i ≡ b → Shift (k i) (known_of (Two (has (at i) (y ∷ ys))) (c.works g) i (decided_count ms (gx g)) (is_aborted ms (gx g)) (is_committed ms (gx g))) (P i g)
          by_same i true q =
              subst (λ b. Shift (k i) (record (k i) { at = Two b }) (P i g)) (sym (now (y ∷ ys) r i true q))
              (finished-shift (k i) (P i g) (pair i) (at-two i ∙ ap Two (asked-at i q)) (done-at i q))
          by_same i false q =
              subst (λ b. Shift (k i) (record (k i) { at = Two b }) (P i g)) (sym (now (y ∷ ys) r i false q))
              (subst (λ a. Shift (k i) (record (k i) { at = a }) (P i g)) (at-two i) (shift-same (k i) (P i g) (pair i)))

    -- IT HAS ITS MARK
    over-same : ((i : ℕ) → (k i).at ≡ Over) → (now : Option Txn) → ((i : ℕ) → standing (nat_le c.table.next.0 g) now i ≡ Over) → (i : ℕ) → Shift (k i) (known_of (standing (nat_le c.table.next.0 g) now i) (c.works g) i (decided_count ms (gx g)) (is_aborted ms (gx g)) (is_committed ms (gx g))) (P i g)
    over-same over now still i = subst (λ a. Shift (k i) (record (k i) { at = a }) (P i g)) (over i ∙ sym (still i)) (shift-same (k i) (P i g) (pair i))

    forgets-led : (aw : List Node) → t.phase ≡ status.Ended aw → (rest : List Node) → Gives (forgets rest)
    forgets-led aw e [] = calm-led script P c ms s whole g t f (forgets []) (over-same (λ i. stands-in (status.Ended aw) e i) None (λ i. Rattle.gx_law_order.proofs.Calls.over-none script P c ms s whole g t f i)) tt tt
    forgets-led aw e (y ∷ ys) = calm-led script P c ms s whole g t f (forgets (y ∷ ys)) (over-same (λ i. stands-in (status.Ended aw) e i) (left_of (forgets (y ∷ ys)).step (Some t)) (λ i. refl)) (agrees-in (status.Ended aw) e) tt

    gives-up-led : (aw : List Node) → t.phase ≡ status.Aborting aw → (rest : List Node) → Gives (gives_up rest)
    gives-up-led aw e [] = let x = calm-led script P c ms s whole g t f (gives_up []) (over-same (λ i. stands-in (status.Aborting aw) e i) None (λ i. Rattle.gx_law_order.proofs.Calls.over-none script P c ms s whole g t f i)) tt tt in record { way = x.way; outs = x.outs }
    gives-up-led aw e (y ∷ ys) = calm-led script P c ms s whole g t f (gives_up (y ∷ ys)) (over-same (λ i. stands-in (status.Aborting aw) e i) (left_of (gives_up (y ∷ ys)).step (Some t)) (λ i. refl)) tt tt

    -- EVERY ANSWER
    takes-led : (j : Node) → 1 ≤ j.0 → (fails : Bool) (p : Status) (r : Reply) → t.phase ≡ p → is_awaited p j r ≡ true → Answers (k j.0) (P j.0 g) r → Gives (takes (gx g) t.participants j fails p r)
    takes-led j one fails (status.Preparing xs aw) reply.Prepared e a h = prepares-led xs aw e j a h fails (without j aw) refl
    takes-led j one fails (status.Preparing xs aw) reply.Jfault e a h = jfault-led xs aw e j a j (not-own j one)
    takes-led j one fails (status.CommittingOne w) reply.Committed e a h = one-committed w e j a h
    takes-led j one fails (status.CommittingOne w) reply.Jfault e a h = one-refused w e j a one h
    takes-led j one fails (status.CommittingTwo aw) reply.Committed e a h = finishes-led aw e j a h (without j aw) refl
    takes-led j one fails (status.Ended aw) reply.Forgotten e a h = forgets-led aw e (without j aw)
    takes-led j one fails (status.Aborting aw) reply.Aborted e a h = gives-up-led aw e (without j aw)
    takes-led j one fails p r e a h = still-led script P c ms s whole g

    found-led : (j : Node) → 1 ≤ j.0 → (fails : Bool) (r : Reply) → Answers (k j.0) (P j.0 g) r → Gives (reply_found (gx g) j r fails (Some t))
    found-led j one fails r h = by_test (is_awaited t.phase j r) refl
      where
        by_test : (b : Bool) → is_awaited t.phase j r ≡ b → Gives (if b then takes (gx g) t.participants j fails t.phase r else stays)
        by_test true a = takes-led j one fails t.phase r refl a h
        by_test false a = still-led script P c ms s whole g

  any-led : (j : Node) → 1 ≤ j.0 → (fails : Bool) (r : Reply) → Answers (k j.0) (P j.0 g) r → (o : Option Txn) → find_txn c.table (gx g) ≡ o → Led script P c ms (follows c (gx g) (turns c.table (gx g) (reply_found (gx g) j r fails o)) (reply_found (gx g) j r fails o).out.outcome)
  any-led j one fails r h None f = still-led script P c ms s whole g
  any-led j one fails r h (Some t) f = found-led t f j one fails r h

  pub status-led : (j : Node) → 1 ≤ j.0 → (fails : Bool) (r : Reply) → Answers (k j.0) (P j.0 g) r → Led script P c ms (on_status c (gx g) j r fails)
  status-led j one fails r h = let x = any-led j one fails r h (find_txn c.table (gx g)) refl in record { way = x.way; outs = x.outs }
