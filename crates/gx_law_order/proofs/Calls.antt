-- What the calls on the coordinator's transactions lead to: commits, aborts and answers.
use Rattle.std.proofs.Common.{◌≡◌, ◌≤◌, ◌<◌, ℕ, ◌+◌, List, [], ◌∷◌, ◌++◌, Option, Some, None, Bool, true, false, refl, sym, subst, ap, ◌∙◌, if◌then◌else◌, ◌||◌, arith, eqb, append-nil}
use Rattle.std.proofs.lemmas.Bool.{eqb-true, false_from_ne_true, or_left, or_right}
use Rattle.std.proofs.lemmas.Bool.Decides.{nat_tests}
use Rattle.std.specs.Prelude.{nat_le}
use Rattle.gx_lemmas.proofs.Tests.{false-true, or-false, true-false}
use Rattle.gx_lemmas.proofs.Numbers.{eqb-self, plus-none}
use Rattle.gx_ids.specs.declared.ids.Gxid.{Gxid}
use Rattle.gx_ids.specs.declared.ids.Node.{Node}
use Rattle.gx_dtx.specs.Nodes.{has, to_each}
use Rattle.gx_dtx.specs.Rules.{Turn, aborts, changed, commit_found, commits as commit_change, ends_committed, on_abort, on_commit, refuses, turns}
use Rattle.gx_dtx.specs.Table.{Table, find_txn}
use Rattle.gx_dtx.specs.declared.change.Change.{Change}
use Rattle.gx_dtx.specs.declared.outcome.Outcome.TheVariants as outcome
use Rattle.gx_dtx.specs.declared.phase.Phase.TheVariants as status
use Rattle.gx_dtx.specs.declared.txn.Txn.{Txn}
use Rattle.gx_msg.specs.declared.message.Message.{Message}
use Rattle.gx_msg.specs.declared.message.Message.TheVariants as message
use Rattle.gx_msg.specs.declared.message.Out.{Out}
use Rattle.gx_msg.specs.declared.reply.Reply.{Reply}
use Rattle.gx_script.specs.declared.Script.{Script}
use Rattle.gx_store.specs.declared.mark.Mark.{Mark}
use Rattle.gx_store.specs.declared.mark.Mark.TheVariants as mark
use Rattle.gx_store.specs.Marks.{is_aborted, is_committed}
use Rattle.gx_store.specs.Protocol.{AreSeveral, CommitsBy, decided_count, is_writer, local_count, prepared_count, writers_of}
use Rattle.gx_rules.specs.AtCoordinator.{answer_at_commit, answer_mark, commits, follows, is_committed as is_closed}
use Rattle.gx_rules.specs.AtSegment.{was_prepared}
use Rattle.gx_rules.specs.Coordinators.{Coord, CoordTurn, Work, no_work, session_of, work_of}
use Rattle.gx_rules.specs.Segments.{Phase, has_committed}
use Rattle.gx_law_order.proofs.Lists.{each_map, each_weaker}
use Rattle.gx_law_order.specs.Lists.{Each}
use Rattle.gx_law_order.proofs.Past.{aborted-append, committed-append, there-drawn}
use Rattle.gx_law_order.proofs.Stages.{changed-at, left_of}
use Rattle.gx_law_order.specs.Stages.{IsWhole}
use Rattle.gx_law_order.specs.Pairs.{IsVote, Pair, bit}
use Rattle.gx_law_order.specs.Said.{Said, gxid_in, is_answer}
use Rattle.gx_law_order.specs.Standings.{Known, Part, Standing, at, gx, is_closing, known_at, known_of, standing, waits_in}
use Rattle.gx_law_order.specs.Standings.Standing.{Unborn, Live, Preparing, One, Two, Over}
use Rattle.gx_law_order.proofs.Commits.{few, filter-few}
use Rattle.gx_law_order.proofs.Counts.{NoEnd, NoPart, decided-append, local-append, no-aborted, no-committed, no-decided, no-local}
use Rattle.gx_law_order.proofs.Nodes.{each-has}
use Rattle.gx_law_order.proofs.Shifts.{Shift, alone-shift, ask-shift, over-shift}
use Rattle.gx_law_order.proofs.Ways.{Agrees, Fol, FolAt, IsToldFrom, Led, One as OneChange, SaidOut, Stands, Working, asks-from, at-one, becomes, fol-append, known-here}
use Rattle.gx_locks.specs.Locks.{Locks}
use Rattle.gx_rules.specs.Locks.{release_marks}
use Rattle.gx_law_order.proofs.Releases.{each-released}
use Rattle.gx_store.specs.Refusals.{the_coordinator}

-- no work is in order
pub nothing-working : (g : ℕ) → Working g no_work
nothing-working g = record { apart = tt; command = tt }

pub to-nodes : (P : Out → Type 0) (m : Message) (nodes : List Node) → Each (λ i. P (record { node = i; message = m })) nodes → Each P (to_each m nodes)
to-nodes P m nodes e = each_map P (λ i. record { node = i; message = m }) nodes e

pub for-all : {A : Type 0} (P : A → Type 0) → ((x : A) → P x) → (xs : List A) → Each P xs
for-all P f [] = tt
for-all P f (x ∷ xs) = (f x, for-all P f xs)

-- marks that tell of no end and no part
abbrev pub Mute : Mark → Type 0
Mute (mark.Commit g) = ⊥
Mute (mark.Abort g) = ⊥
Mute (mark.Decided g) = ⊥
Mute (mark.Write g c n t r x) = ⊥
Mute (mark.Prepared n g) = ⊥
Mute (mark.LocalCommit n g) = ⊥
Mute (mark.Sent to number told) = ⊥
Mute (mark.Skip g c r) = ⊥
Mute (mark.Fault g c r x) = ⊥
Mute (mark.JournalFailed n g) = ⊥
Mute _ = Unit {0}

mute-at : (script : Script) (ms : List Mark) (m : Mark) → Mute m → FolAt script ms m
mute-at script ms (mark.Commit g) e = absurd e
mute-at script ms (mark.Abort g) e = absurd e
mute-at script ms (mark.Decided g) e = absurd e
mute-at script ms (mark.Write g c n t r x) e = e
mute-at script ms (mark.Prepared n g) e = e
mute-at script ms (mark.LocalCommit n g) e = e
mute-at script ms (mark.Sent to number told) e = e
mute-at script ms (mark.Skip g c r) e = e
mute-at script ms (mark.Fault g c r x) e = absurd e
mute-at script ms (mark.JournalFailed n g) e = absurd e
mute-at script ms m e = tt

pub mute-fol : (script : Script) (ms ns : List Mark) → Each Mute ns → Fol script ms ns
mute-fol script ms [] e = tt
mute-fol script ms (m ∷ ns) e = (mute-at script ms m e.0, mute-fol script (ms ++ m ∷ []) ns e.1)

mute-end : (m : Mark) → Mute m → NoEnd m
mute-end (mark.Commit g) e = e
mute-end (mark.Abort g) e = e
mute-end (mark.Decided g) e = e
mute-end m e = tt

mute-part : (m : Mark) → Mute m → NoPart m
mute-part (mark.Write g c n t r x) e = e
mute-part (mark.Prepared n g) e = e
mute-part (mark.LocalCommit n g) e = e
mute-part m e = tt

pub mute-ends : (ns : List Mark) → Each Mute ns → Each NoEnd ns
mute-ends ns e = each_weaker Mute NoEnd mute-end ns e

pub mute-parts : (ns : List Mark) → Each Mute ns → Each NoPart ns
mute-parts ns e = each_weaker Mute NoPart mute-part ns e

pub mute-decided : (ns : List Mark) (g : Gxid) → Each Mute ns → decided_count ns g ≡ 0
mute-decided ns g e = no-decided ns g (each_weaker Mute NoEnd mute-end ns e)

pub mute-aborted : (ns : List Mark) (g : Gxid) → Each Mute ns → is_aborted ns g ≡ false
mute-aborted ns g e = no-aborted ns g (each_weaker Mute NoEnd mute-end ns e)

pub mute-committed : (ns : List Mark) (g : Gxid) → Each Mute ns → is_committed ns g ≡ false
mute-committed ns g e = no-committed ns g (each_weaker Mute NoEnd mute-end ns e)

-- locks that are given back
pub back-mute : (locks : Locks) (g : Gxid) → Each Mute (release_marks the_coordinator locks g)
back-mute locks g = each-released Mute the_coordinator locks g (λ claim. tt)

pub mute-local : (ns : List Mark) (n : Node) (g : Gxid) → Each Mute ns → local_count ns n g ≡ 0
mute-local ns n g e = no-local ns n g (each_weaker Mute NoPart mute-part ns e)

-- marks of other transactions
pub record Elsewhere (ns : List Mark) (g : ℕ) : Type 0 where
  pub others : (h : ℕ) → eqb h g ≡ false → (decided_count ns (gx h) ≡ 0) × (is_aborted ns (gx h) ≡ false) × (is_committed ns (gx h) ≡ false)

pub apart-back : (g h : ℕ) → eqb h g ≡ false → (eqb g h || false) ≡ false
apart-back g h e = grind (arith, nat_tests)

pub not-self : (g h : ℕ) → eqb h g ≡ false → eqb g h ≡ false
not-self g h e = grind (arith, nat_tests)

abort-elsewhere : (why rest : List Mark) (g : ℕ) → Each NoEnd why → Each Mute rest → Elsewhere (why ++ mark.Abort (gx g) ∷ rest) g
abort-elsewhere why rest g a b =
    record {
      others = λ h e. (
        decided-append why (mark.Abort (gx g) ∷ rest) (gx h) ∙ ap (λ n. n + decided_count rest (gx h)) (no-decided why (gx h) a) ∙ ap (λ n. 0 + n) (mute-decided rest (gx h) b),
        aborted-append why (mark.Abort (gx g) ∷ rest) (gx h) ∙ ap (λ x. x || (eqb g h || is_aborted rest (gx h))) (no-aborted why (gx h) a) ∙ ap (λ x. eqb g h || x) (mute-aborted rest (gx h) b) ∙ apart-back g h e,
        committed-append why (mark.Abort (gx g) ∷ rest) (gx h) ∙ ap (λ x. x || is_committed rest (gx h)) (no-committed why (gx h) a) ∙ mute-committed rest (gx h) b,
      );
    }

module _ (script : Script) (P : ℕ → ℕ → Part) (c : Coord) (ms : List Mark) (s : Stands script P c ms) (whole : IsWhole c.table) (g : ℕ) where
  abbrev pub known : ℕ → Known
  known i = known_at c ms i g

  -- with marks that tell nothing of its end
  pub becomes-calm : (ns : List Mark) (now : Option Txn) (w : Work) (i : ℕ) → decided_count ns (gx g) ≡ 0 → is_aborted ns (gx g) ≡ false → is_committed ns (gx g) ≡ false → becomes script P c ms ns g now w i ≡ known_of (standing (nat_le c.table.next.0 g) now i) w i (decided_count ms (gx g)) (is_aborted ms (gx g)) (is_committed ms (gx g))
  becomes-calm ns now w i p q r =
      ap (λ n. known_of (standing (nat_le c.table.next.0 g) now i) w i n (is_aborted ms (gx g) || is_aborted ns (gx g)) (is_committed ms (gx g) || is_committed ns (gx g))) (ap (λ n. decided_count ms (gx g) + n) p ∙ plus-none (decided_count ms (gx g)))
      ∙ ap (λ b. known_of (standing (nat_le c.table.next.0 g) now i) w i (decided_count ms (gx g)) b (is_committed ms (gx g) || is_committed ns (gx g))) (ap (λ b. is_aborted ms (gx g) || b) q ∙ or-false (is_aborted ms (gx g)))
      ∙ ap (λ b. known_of (standing (nat_le c.table.next.0 g) now i) w i (decided_count ms (gx g)) (is_aborted ms (gx g)) b) (ap (λ b. is_committed ms (gx g) || b) r ∙ or-false (is_committed ms (gx g)))

  -- nothing changes
  pub still-led : Led script P c ms (follows c (gx g) (turns c.table (gx g) Rattle.gx_dtx.specs.Rules.stays) outcome.Pending)
  still-led =
      let d : Coord = record c { table = changed c.table (gx g) Rattle.gx_dtx.specs.Rules.stays } in
      record { way = at-one script P c d ms [] g (find_txn c.table (gx g)) (c.works g) one s (λ i. subst (λ k. Shift (known i) k (P i g)) (sym (becomes-calm [] (find_txn c.table (gx g)) (c.works g) i refl refl refl)) (Rattle.gx_law_order.proofs.Shifts.shift-same (known i) (P i g) (s.pairs i g))) (s.works g) (subst (λ m. Agrees m g (find_txn c.table (gx g)) (c.works g).writers) (sym (append-nil ms)) (s.agrees g)) tt; outs = tt }
    where
      same : (h : ℕ) (b : Bool) → eqb h g ≡ b → c.works h ≡ (if b then c.works g else c.works h)
      same h true e = ap c.works (eqb-true h g e)
      same h false e = refl

      one : OneChange script P c (record c { table = changed c.table (gx g) Rattle.gx_dtx.specs.Rules.stays }) ms [] g (find_txn c.table (gx g)) (c.works g)
      one = let a = changed-at c.table g Rattle.gx_dtx.specs.Rules.stays whole in record { next = a.next; finds = a.finds; works = λ h. same h (eqb h g) refl; others = λ h e. (refl, refl, refl) }

  module _ (t : Txn) (f : find_txn c.table (gx g) ≡ Some t) where
    drawn : nat_le c.table.next.0 g ≡ false
    drawn = above c.table.next.0 g (there-drawn c.table.next.0 g c.table.txns t whole.drawn f).1
      where
        above : (n g : ℕ) → g < n → nat_le n g ≡ false
        above n g l = grind (arith, nat_tests)

    pub stands-as : (i : ℕ) → (known i).at ≡ standing (nat_le c.table.next.0 g) (Some t) i
    stands-as i = ap (λ o. standing (nat_le c.table.next.0 g) o i) f

    -- a call that makes this change
    pub one-change : (ch : Change) (d : Coord) (ns : List Mark) (w : Work) → d.table ≡ changed c.table (gx g) ch → ((h : ℕ) → d.works h ≡ (if eqb h g then w else c.works h)) → Elsewhere ns g → OneChange script P c d ms ns g (left_of ch.step (Some t)) w
    one-change ch d ns w e works others =
        let a = changed-at c.table g ch whole in
        record {
          next = ap (λ (x : Table). x.next) e ∙ a.next;
          finds = λ h. ap (λ (x : Table). find_txn x (gx h)) e ∙ a.finds h ∙ ap (λ o. if eqb h g then left_of ch.step o else find_txn c.table (gx h)) f;
          works = works;
          others = others.others;
        }

    same-works : (h : ℕ) → c.works h ≡ (if eqb h g then c.works g else c.works h)
    same-works h = by_test (eqb h g) refl
      where
        by_test : (b : Bool) → eqb h g ≡ b → c.works h ≡ (if b then c.works g else c.works h)
        by_test true e = ap c.works (eqb-true h g e)
        by_test false e = refl

    -- WITHOUT A MARK
    pub calm-led : (ch : Change) → ((i : ℕ) → Shift (known i) (known_of (standing (nat_le c.table.next.0 g) (left_of ch.step (Some t)) i) (c.works g) i (decided_count ms (gx g)) (is_aborted ms (gx g)) (is_committed ms (gx g))) (P i g)) → Agrees ms g (left_of ch.step (Some t)) (c.works g).writers → Each (λ (o : Out). (is_answer o.message ≡ false) × (gxid_in o.message ≡ g) × Said (known_of (standing (nat_le c.table.next.0 g) (left_of ch.step (Some t)) o.node.0) (c.works g) o.node.0 (decided_count ms (gx g)) (is_aborted ms (gx g)) (is_committed ms (gx g))) (P o.node.0 g) o.message × IsToldFrom (standing (nat_le c.table.next.0 g) (left_of ch.step (Some t)) o.node.0) o.message) ch.out.outs → Led script P c ms (record { coord = record c { table = changed c.table (gx g) ch }; marks = []; outs = ch.out.outs; item = None })
    calm-led ch shift agree outs =
        let d : Coord = record c { table = changed c.table (gx g) ch } in
        let o = one-change ch d [] (c.works g) refl same-works (record { others = λ h e. (refl, refl, refl) }) in
        record {
          way = at-one script P c d ms [] g (left_of ch.step (Some t)) (c.works g) o s (λ i. subst (λ k. Shift (known i) k (P i g)) (sym (becomes-calm [] (left_of ch.step (Some t)) (c.works g) i refl refl refl)) (shift i)) (s.works g) (subst (λ m. Agrees m g (left_of ch.step (Some t)) (c.works g).writers) (sym (append-nil ms)) agree) tt;
          outs = each_weaker _ (SaidOut script P d (ms ++ [])) (λ q h. (h.0, moved d o q (h.0, h.1, h.2), asks-from d q.node.0 g _ q.message h.1 (ap (λ (x : Known). x.at) (now d o q.node.0)) h.3)) ch.out.outs outs;
        }
      where
        now : (d : Coord) → OneChange script P c d ms [] g (left_of ch.step (Some t)) (c.works g) → (i : ℕ) → known_at d (ms ++ []) i g ≡ known_of (standing (nat_le c.table.next.0 g) (left_of ch.step (Some t)) i) (c.works g) i (decided_count ms (gx g)) (is_aborted ms (gx g)) (is_committed ms (gx g))
        now d o i = known-here script P c d ms [] g (left_of ch.step (Some t)) (c.works g) o i ∙ becomes-calm [] (left_of ch.step (Some t)) (c.works g) i refl refl refl

        moved : (d : Coord) → OneChange script P c d ms [] g (left_of ch.step (Some t)) (c.works g) → (q : Out) → (is_answer q.message ≡ false) × (gxid_in q.message ≡ g) × Said (known_of (standing (nat_le c.table.next.0 g) (left_of ch.step (Some t)) q.node.0) (c.works g) q.node.0 (decided_count ms (gx g)) (is_aborted ms (gx g)) (is_committed ms (gx g))) (P q.node.0 g) q.message → Said (known_at d (ms ++ []) q.node.0 (gxid_in q.message)) (P q.node.0 (gxid_in q.message)) q.message
        moved d o q h =
            subst (λ j. Said (known_at d (ms ++ []) q.node.0 j) (P q.node.0 j) q.message) (sym h.1)
            (subst (λ k. Said k (P q.node.0 g) q.message) (sym (known-here script P c d ms [] g (left_of ch.step (Some t)) (c.works g) o q.node.0 ∙ becomes-calm [] (left_of ch.step (Some t)) (c.works g) q.node.0 refl refl refl)) h.2)

    -- THE COMMIT
    pub record CanEnd : Type 0 where
      pub born : (i : ℕ) → (known i).at ≡ Unborn → ⊥
      pub going : (i : ℕ) → (known i).at ≡ Over → ⊥
      pub alone : (i : ℕ) → (P i g).vote ≡ None → (known i).at ≡ One true → ⊥
      pub both : (i : ℕ) → (known i).at ≡ Two true → has_committed (P i g).phase ≡ true

    pub unaborted : (k : Known) (p : Part) → Pair k p → (k.at ≡ Over → ⊥) → k.aborted ≡ false
    unaborted k p e n = false_from_ne_true k.aborted (λ x. n (e.aborts x))

    pub uncommitted : (k : Known) (p : Part) → Pair k p → (k.at ≡ Over → ⊥) → k.committed ≡ false
    uncommitted k p e n = false_from_ne_true k.committed (λ x. n (e.ends x))

    pub over-none : (i : ℕ) → standing (nat_le c.table.next.0 g) None i ≡ Over
    over-none i = ap (λ b. if b then Unborn else Over) drawn

    ended-over : (parts : List Node) (i : ℕ) → standing (nat_le c.table.next.0 g) (left_of (ends_committed (gx g) parts).step (Some t)) i ≡ Over
    ended-over [] i = over-none i
    ended-over (x ∷ xs) i = refl

    ended-agrees : (xs : List Mark) (parts : List Node) → is_committed xs (gx g) ≡ true → Agrees xs g (left_of (ends_committed (gx g) parts).step (Some t)) []
    ended-agrees xs [] e = tt
    ended-agrees xs (y ∷ ys) e = e

    commit-elsewhere : (ns : List Mark) → Elsewhere ns g → Elsewhere (mark.Commit (gx g) ∷ ns) g
    commit-elsewhere ns e = record { others = λ h n. let x = e.others h n in (x.0, x.1, ap (λ b. eqb g h || b) x.2 ∙ apart-back g h n) }

    abbrev last_answer : Mark
    last_answer = answer_mark c (work_of c (gx g)).session (answer_at_commit (work_of c (gx g)) (session_of c (work_of c (gx g)).session).state.pending)

    -- what stands behind its mark
    abbrev tail : List Mark
    tail = last_answer ∷ release_marks the_coordinator c.locks (gx g)

    tail-mute : Each Mute tail
    tail-mute = (tt, back-mute c.locks (gx g))

    pub committed-led : (parts : List Node) → CanEnd → ((i : ℕ) → (P i g).vote ≡ None → (known i).at ≡ Preparing true → ⊥) → ((i : ℕ) → (known i).at ≡ Live → (known i).waits ≡ false) → CommitsBy (writers_of script ms (gx g)) ms (gx g) → Led script P c ms (is_closed c (gx g) (turns c.table (gx g) (ends_committed (gx g) parts)))
    committed-led parts can asked idle fol =
        let turn : CoordTurn = is_closed c (gx g) (turns c.table (gx g) (ends_committed (gx g) parts)) in
        let o = one-change (ends_committed (gx g) parts) turn.coord turn.marks no_work refl (λ h. refl) (commit-elsewhere tail (record { others = λ h e. (mute-decided tail (gx h) tail-mute, mute-aborted tail (gx h) tail-mute, mute-committed tail (gx h) tail-mute) })) in
        record {
          way = at-one script P c turn.coord ms turn.marks g (left_of (ends_committed (gx g) parts).step (Some t)) no_work o s shift (nothing-working g) (ended-agrees (ms ++ turn.marks) parts (committed-append ms turn.marks (gx g) ∙ or_right (is_committed ms (gx g)) (is_committed turn.marks (gx g)) (or_left (eqb g g) _ (eqb-self g)))) (fol, mute-fol script (ms ++ mark.Commit (gx g) ∷ []) tail tail-mute);
          outs = outs parts;
        }
      where
        none-aborted : (i : ℕ) → (is_aborted ms (gx g) || is_aborted tail (gx g)) ≡ false
        none-aborted i = ap (λ b. is_aborted ms (gx g) || b) (mute-aborted tail (gx g) tail-mute) ∙ or-false (is_aborted ms (gx g)) ∙ unaborted (known i) (P i g) (s.pairs i g) (can.going i)

        shift : (i : ℕ) → Shift (known i) (becomes script P c ms (is_closed c (gx g) (turns c.table (gx g) (ends_committed (gx g) parts))).marks g (left_of (ends_committed (gx g) parts).step (Some t)) no_work i) (P i g)
        shift i =
            over-shift (known i) _ (P i g) (s.pairs i g) (ended-over parts i) (can.born i) (λ x. or_left (is_aborted ms (gx g)) (is_aborted tail (gx g)) x) (λ x. or_left (is_committed ms (gx g)) _ x) (λ x. none-aborted i)
            (λ v x. absurd (asked i v x)) (can.alone i) (can.both i) (λ x f. idle i x)

        told : (d : Coord) (ns : List Mark) (x : Node) → SaidOut script P d (ms ++ mark.Commit (gx g) ∷ ns) (record { node = x; message = message.Forget (gx g) })
        told d ns x = (refl, committed-append ms (mark.Commit (gx g) ∷ ns) (gx g) ∙ or_right (is_committed ms (gx g)) (eqb g g || is_committed ns (gx g)) (or_left (eqb g g) (is_committed ns (gx g)) (eqb-self g)), tt)

        outs : (parts : List Node) → Each (SaidOut script P (is_closed c (gx g) (turns c.table (gx g) (ends_committed (gx g) parts))).coord (ms ++ (is_closed c (gx g) (turns c.table (gx g) (ends_committed (gx g) parts))).marks)) (ends_committed (gx g) parts).out.outs
        outs [] = tt
        outs (x ∷ xs) = to-nodes _ (message.Forget (gx g)) (x ∷ xs) (for-all _ (λ y. told (is_closed c (gx g) (turns c.table (gx g) (ends_committed (gx g) (x ∷ xs)))).coord tail y) (x ∷ xs))

    -- THE ABORT
    pub dropped-over : (parts : List Node) (i : ℕ) → standing (nat_le c.table.next.0 g) (left_of (aborts (gx g) parts).step (Some t)) i ≡ Over
    dropped-over [] i = over-none i
    dropped-over (x ∷ xs) i = refl

    -- by a change whose step drops it
    pub aborted-led : (turn : CoordTurn) (ch : Change) → CanEnd → turn.coord.table ≡ changed c.table (gx g) ch → ((h : ℕ) → turn.coord.works h ≡ (if eqb h g then no_work else c.works h)) → ((i : ℕ) → standing (nat_le c.table.next.0 g) (left_of ch.step (Some t)) i ≡ Over) → Agrees (ms ++ turn.marks) g (left_of ch.step (Some t)) [] → Elsewhere turn.marks g → is_aborted turn.marks (gx g) ≡ true → is_committed turn.marks (gx g) ≡ false → Fol script ms turn.marks → (parts : List Node) → turn.outs ≡ to_each (message.Abort (gx g)) parts → Led script P c ms turn
    aborted-led turn ch can e works over agree others ab co fol parts outs =
        let o = one-change ch turn.coord turn.marks no_work e works others in
        record {
          way = at-one script P c turn.coord ms turn.marks g (left_of ch.step (Some t)) no_work o s shift (nothing-working g) agree fol;
          outs = subst (Each (SaidOut script P turn.coord (ms ++ turn.marks))) (sym outs) (to-nodes _ (message.Abort (gx g)) parts (for-all _ (λ x. (refl, aborted-append ms turn.marks (gx g) ∙ or_right (is_aborted ms (gx g)) (is_aborted turn.marks (gx g)) ab, tt)) parts));
        }
      where
        none-committed : (i : ℕ) → (is_committed ms (gx g) || is_committed turn.marks (gx g)) ≡ false
        none-committed i = ap (λ b. is_committed ms (gx g) || b) co ∙ or-false (is_committed ms (gx g)) ∙ uncommitted (known i) (P i g) (s.pairs i g) (can.going i)

        shift : (i : ℕ) → Shift (known i) (becomes script P c ms turn.marks g (left_of ch.step (Some t)) no_work i) (P i g)
        shift i =
            over-shift (known i) _ (P i g) (s.pairs i g) (over i) (can.born i) (λ x. or_left (is_aborted ms (gx g)) (is_aborted turn.marks (gx g)) x) (λ x. or_left (is_committed ms (gx g)) (is_committed turn.marks (gx g)) x)
            (λ x. absurd (true-false _ x (none-committed i))) (λ v x. or_right (is_aborted ms (gx g)) (is_aborted turn.marks (gx g)) ab) (can.alone i) (can.both i)
            (λ x f. absurd (true-false _ (or_right (is_aborted ms (gx g)) (is_aborted turn.marks (gx g)) ab) f))

    -- with marks around it that tell of nothing
    pub abort-led : (turn : CoordTurn) (ch : Change) (why rest : List Mark) → turn.marks ≡ why ++ mark.Abort (gx g) ∷ rest → Fol script ms why → Each NoPart why → Each NoEnd why → Each Mute rest → CanEnd → decided_count ms (gx g) ≡ 0 → ((i : ℕ) → local_count ms (at i) (gx g) ≡ 0) → turn.coord.table ≡ changed c.table (gx g) ch → ((h : ℕ) → turn.coord.works h ≡ (if eqb h g then no_work else c.works h)) → ((i : ℕ) → standing (nat_le c.table.next.0 g) (left_of ch.step (Some t)) i ≡ Over) → Agrees (ms ++ turn.marks) g (left_of ch.step (Some t)) [] → (parts : List Node) → turn.outs ≡ to_each (message.Abort (gx g)) parts → Led script P c ms turn
    abort-led turn ch why rest m fol part a b can dec loc e works over agree parts outs =
        aborted-led turn ch can e works over agree (subst (λ x. Elsewhere x g) (sym m) (abort-elsewhere why rest g a b)) (ap (λ x. is_aborted x (gx g)) m ∙ aborted-append why (mark.Abort (gx g) ∷ rest) (gx g) ∙ or_right (is_aborted why (gx g)) (eqb g g || is_aborted rest (gx g)) (or_left (eqb g g) (is_aborted rest (gx g)) (eqb-self g)))
        (ap (λ x. is_committed x (gx g)) m ∙ committed-append why (mark.Abort (gx g) ∷ rest) (gx g) ∙ ap (λ x. x || is_committed rest (gx g)) (no-committed why (gx g) a) ∙ mute-committed rest (gx g) b)
        (subst (Fol script ms) (sym m) (fol-append script ms why (mark.Abort (gx g) ∷ rest) fol
        ((decided-append ms why (gx g) ∙ ap (λ n. decided_count ms (gx g) + n) (no-decided why (gx g) a) ∙ plus-none (decided_count ms (gx g)) ∙ dec, λ n. local-append ms why n (gx g) ∙ ap (λ x. local_count ms n (gx g) + x) (no-local why n (gx g) part) ∙ plus-none (local_count ms n (gx g)) ∙ loc n.0), mute-fol script ((ms ++ why) ++ mark.Abort (gx g) ∷ []) rest b))) parts outs

    -- COMMIT IS ASKED FOR
    pub record IsReady : Type 0 where
      pub live : t.phase ≡ status.Active
      pub done : (i : ℕ) → waits_in (c.works g).command i ≡ false

    pub live-there : t.phase ≡ status.Active → (i : ℕ) → (known i).at ≡ Live
    live-there l i = stands-as i ∙ ap (λ p. Rattle.gx_law_order.specs.Standings.standing_in p i) l

    pub live-can : t.phase ≡ status.Active → CanEnd
    live-can l =
        record { born = λ i x. plain1 (known i).at (live-there l i) x; going = λ i x. plain2 (known i).at (live-there l i) x; alone = λ i v x. plain3 (known i).at (live-there l i) x; both = λ i x. absurd (plain4 (known i).at (live-there l i) x) }
      where
        plain1 : (a : Standing) → a ≡ Live → a ≡ Unborn → ⊥
        plain1 a x y = grind arith

        plain2 : (a : Standing) → a ≡ Live → a ≡ Over → ⊥
        plain2 a x y = grind arith

        plain3 : (a : Standing) → a ≡ Live → a ≡ One true → ⊥
        plain3 a x y = grind arith

        plain4 : (a : Standing) → a ≡ Live → a ≡ Two true → ⊥
        plain4 a x y = grind arith

    -- what is known of a live transaction's parts
    pub record Calm (i : ℕ) : Type 0 where
      pub unpromised : prepared_count ms (at i) (gx g) ≡ 0
      pub uncommitted_there : local_count ms (at i) (gx g) ≡ 0

    pub live-calm : t.phase ≡ status.Active → (i : ℕ) → Calm i
    live-calm l i =
        let e = s.pairs i g in
        let x = e.live (live-there l i) in
        record {
          unpromised = (s.parts i g).promises ∙ e.promised ∙ ap (λ v. bit (was_prepared v)) x.1;
          uncommitted_there = (s.parts i g).commits ∙ e.committed ∙ ap bit (none (P i g).phase (P i g).vote e.vote x.1);
        }
      where
        none : (p : Phase) (v : Option Reply) → IsVote p v → v ≡ None → has_committed p ≡ false
        none p v x y = grind (arith, nat_tests)

    writes-as : IsReady → (i : ℕ) → is_writer ms (gx g) (at i) ≡ has (at i) (c.works g).writers
    writes-as r i = (s.parts i g).wrote ∙ sym ((s.pairs i g).learned (live-there r.live i) (r.done i))

    none-commits : IsReady → (c.works g).writers ≡ [] → CommitsBy (writers_of script ms (gx g)) ms (gx g)
    none-commits r e =
        few (writers_of script ms (gx g)) ms g (filter-few (is_writer ms (gx g)) 0 (λ i x. absurd (false-true (sym (no-writes i) ∙ x))) 1 script.segments)
        (record {
          local = λ node. (live-calm r.live node.0).uncommitted_there ∙ ap bit (sym (no-writes node.0)) ∙ as-bit (is_writer ms (gx g) node);
          unprepared = λ node. (live-calm r.live node.0).unpromised;
          undecided = (s.pairs 0 g).undecided (ap Rattle.gx_law_order.specs.Standings.is_undecided (live-there r.live 0));
        })
      where
        no-writes : (i : ℕ) → is_writer ms (gx g) (at i) ≡ false
        no-writes i = writes-as r i ∙ ap (has (at i)) e

        as-bit : (b : Bool) → bit b ≡ (if b then 1 else 0)
        as-bit true = refl
        as-bit false = refl

    pub ended-follows : (parts : List Node) → follows c (gx g) (turns c.table (gx g) (ends_committed (gx g) parts)) (ends_committed (gx g) parts).out.outcome ≡ is_closed c (gx g) (turns c.table (gx g) (ends_committed (gx g) parts))
    ended-follows [] = refl
    ended-follows (x ∷ xs) = refl

    ready-shift : IsReady → (ws : List Node) → (c.works g).writers ≡ ws → (i : ℕ) → ((known i).at ≡ Live) × ((known i).waits ≡ false) × (has (at i) ws ≡ (known i).writes)
    ready-shift r ws e i = (live-there r.live i, r.done i, sym (ap (has (at i)) e))

    apart-writers : (ws : List Node) → (c.works g).writers ≡ ws → Rattle.gx_law_order.proofs.Nodes.AreApart ws
    apart-writers ws e = subst Rattle.gx_law_order.proofs.Nodes.AreApart e (s.works g).apart

    commit-writers : IsReady → (ws : List Node) → (c.works g).writers ≡ ws → Led script P c ms (follows c (gx g) (turns c.table (gx g) (commit_change (gx g) ws t)) (commit_change (gx g) ws t).out.outcome)
    commit-writers r [] e =
        subst (Led script P c ms) (sym (ended-follows t.participants)) (committed-led t.participants (live-can r.live) (λ i v x. never (known i).at (live-there r.live i) x) (λ i x. r.done i) (none-commits r e))
      where
        never : (a : Standing) → a ≡ Live → a ≡ Preparing true → ⊥
        never a x y = grind arith
    commit-writers r (w ∷ []) e =
        calm-led (commit_change (gx g) (w ∷ []) t) (λ i. let x = ready-shift r (w ∷ []) e i in alone-shift (eqb w.0 i) (known i) (P i g) (s.pairs i g) x.0 x.1 (sym (or-false (eqb w.0 i)) ∙ x.2)) tt ((refl, refl, λ v. ap One (eqb-self w.0), ap One (eqb-self w.0)), tt)
    commit-writers r (w ∷ x ∷ ws) e =
        calm-led (commit_change (gx g) (w ∷ x ∷ ws) t) (λ i. let y = ready-shift r (w ∷ x ∷ ws) e i in ask-shift (has (at i) (w ∷ x ∷ ws)) (known i) (P i g) (s.pairs i g) y.0 y.1 y.2) (sym e, subst AreSeveral (sym e) tt)
        (to-nodes _ (message.Prepare (gx g)) (w ∷ x ∷ ws) (each_weaker (λ (y : Node). has y (w ∷ x ∷ ws) ≡ true) _ (λ y h. (refl, refl, (wrote-there y h, λ v. Rattle.std.proofs.Common.inl (ap Preparing h)), ap Preparing h)) (w ∷ x ∷ ws) (each-has (w ∷ x ∷ ws))))
      where
        wrote-there : (y : Node) → has y (w ∷ x ∷ ws) ≡ true → (P y.0 g).wrote ≡ true
        wrote-there y h = sym ((s.pairs y.0 g).learned (live-there r.live y.0) (r.done y.0)) ∙ sym (ready-shift r (w ∷ x ∷ ws) e y.0).2 ∙ h

    pub commits-ready : IsReady → Led script P c ms (commits c (gx g))
    commits-ready r =
        subst (λ o. Led script P c ms (follows c (gx g) (turns c.table (gx g) (commit_found (gx g) (c.works g).writers o)) (commit_found (gx g) (c.works g).writers o).out.outcome)) (sym f) (commit-writers r (c.works g).writers refl)
