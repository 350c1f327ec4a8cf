-- To whom orders go, and when, by the marks before them; and that whatever the coordinator sends goes so.
use Rattle.std.proofs.Common.{◌≡◌, ℕ, ◌+◌, List, [], ◌∷◌, ◌++◌, Option, Some, None, Bool, true, false, refl, sym, subst, ap, ◌∙◌, ◌||◌, cond, eqb, arith}
use Rattle.std.proofs.lemmas.Bool.{eqb-true, false_from_ne_true, or_from}
use Rattle.std.specs.Prelude.{filter, nat_le}
use Rattle.gx_lemmas.proofs.Numbers.{eqb-swap, plus-none}
use Rattle.gx_lemmas.proofs.Tests.{or-false}
use Rattle.gx_ids.specs.declared.ids.Gxid.{Gxid}
use Rattle.gx_ids.specs.declared.ids.Node.{Node}
use Rattle.gx_dtx.specs.Table.{find_txn}
use Rattle.gx_dtx.specs.declared.phase.Phase.{Phase as Status}
use Rattle.gx_dtx.specs.declared.phase.Phase.TheVariants as status
use Rattle.gx_dtx.specs.declared.txn.Txn.{Txn}
use Rattle.gx_msg.specs.declared.message.Message.{Message}
use Rattle.gx_msg.specs.declared.message.Message.TheVariants as message
use Rattle.gx_meaning.specs.Plan.{nodes_from}
use Rattle.gx_script.specs.declared.Script.{Script}
use Rattle.gx_store.specs.declared.mark.Mark.{Mark}
use Rattle.gx_store.specs.Marks.{is_aborted, is_committed, is_ended}
use Rattle.gx_store.specs.Protocol.{AreSeveral, IsToCommit, IsToFinish, IsToPrepare, decided_count, is_writer, local_count, prepared_count, writers_of}
use Rattle.gx_rules.specs.Coordinators.{Coord}
use Rattle.gx_law_order.proofs.Commits.{several}
use Rattle.gx_law_order.proofs.Counts.{NoEnd, NoPart, decided-append, local-append, no-aborted, no-committed, no-decided, no-local, no-prepared, no-writer, prepared-append, writer-append}
use Rattle.gx_law_order.specs.Lists.{Each}
use Rattle.gx_law_order.proofs.Past.{aborted-append, committed-append}
use Rattle.gx_law_order.proofs.Replying.{two-writers}
use Rattle.gx_law_order.specs.Places.{AreIn}
use Rattle.gx_law_order.proofs.Ways.{Agrees, AgreesIn, AsksFor, Stands}
use Rattle.gx_law_order.specs.Pairs.{Pair, bit}
use Rattle.gx_law_order.specs.Said.{is_answer}
use Rattle.gx_law_order.specs.Standings.{Known, Part, Standing, at, is_closing, is_decided, is_undecided, known_at, standing, standing_in}
use Rattle.gx_law_order.specs.Standings.Standing.{Live, One, Over, Preparing}

-- behind these marks it may go there; an answer never does
abbrev pub IsRightOrder : Script → List Mark → Node → Message → Type 0
IsRightOrder script marks to (message.Answer g r) = ⊥
IsRightOrder script marks to (message.Prepare g) = IsToPrepare script marks to g
IsRightOrder script marks to (message.Commit g) = IsToCommit marks to g
IsRightOrder script marks to (message.CommitPrepared g) = IsToFinish marks to g
IsRightOrder script marks to _ = Unit {0}

-- two tests that are the same leave the same
filter-as : (p q : Node → Bool) → ((n : Node) → q n ≡ p n) → (xs : List Node) → filter q xs ≡ filter p xs
filter-as p q e [] = refl
filter-as p q e (x ∷ xs) = ap (λ b. cond b (x ∷ filter q xs) (filter q xs)) (e x) ∙ ap (λ ys. cond (p x) (x ∷ ys) ys) (filter-as p q e xs)

-- MARKS THAT TELL OF NOTHING
module _ (ms ns : List Mark) (part : Each NoPart ns) (end : Each NoEnd ns) where
  ended-on : (g : Gxid) → is_ended ms g ≡ false → is_ended (ms ++ ns) g ≡ false
  ended-on g e =
      ap (λ b. b || is_aborted (ms ++ ns) g) (committed-append ms ns g ∙ ap (λ b. is_committed ms g || b) (no-committed ns g end) ∙ or-false (is_committed ms g))
      ∙ ap (λ b. is_committed ms g || b) (aborted-append ms ns g ∙ ap (λ b. is_aborted ms g || b) (no-aborted ns g end) ∙ or-false (is_aborted ms g)) ∙ e

  writer-on : (g : Gxid) (n : Node) → is_writer (ms ++ ns) g n ≡ is_writer ms g n
  writer-on g n = writer-append ms ns g n ∙ ap (λ b. is_writer ms g n || b) (no-writer ns g n part) ∙ or-false (is_writer ms g n)

  prepared-on : (n : Node) (g : Gxid) → prepared_count (ms ++ ns) n g ≡ prepared_count ms n g
  prepared-on n g = prepared-append ms ns n g ∙ ap (λ x. prepared_count ms n g + x) (no-prepared ns n g part) ∙ plus-none (prepared_count ms n g)

  local-on : (n : Node) (g : Gxid) → local_count (ms ++ ns) n g ≡ local_count ms n g
  local-on n g = local-append ms ns n g ∙ ap (λ x. local_count ms n g + x) (no-local ns n g part) ∙ plus-none (local_count ms n g)

  decided-on : (g : Gxid) → decided_count (ms ++ ns) g ≡ decided_count ms g
  decided-on g = decided-append ms ns g ∙ ap (λ x. decided_count ms g + x) (no-decided ns g end) ∙ plus-none (decided_count ms g)

  several-on : (script : Script) (g : Gxid) → AreSeveral (writers_of script ms g) → AreSeveral (writers_of script (ms ++ ns) g)
  several-on script g e = subst AreSeveral (sym (filter-as (is_writer ms g) (is_writer (ms ++ ns) g) (writer-on g) (nodes_from 1 script.segments))) e

pub order-on : (script : Script) (ms ns : List Mark) (to : Node) (m : Message) → Each NoPart ns → Each NoEnd ns → IsRightOrder script ms to m → IsRightOrder script (ms ++ ns) to m
order-on script ms ns to (message.Prepare g) p e o =
    record { running = ended-on ms ns p e g o.running; writer = writer-on ms ns p e g to ∙ o.writer; several = several-on ms ns p e script g o.several; undecided = decided-on ms ns p e g ∙ o.undecided; uncommitted = λ n. local-on ms ns p e n g ∙ o.uncommitted n }
order-on script ms ns to (message.Commit g) p e o =
    record { running = ended-on ms ns p e g o.running; only = λ n. writer-on ms ns p e g n ∙ o.only n; unpromised = λ n. prepared-on ms ns p e n g ∙ o.unpromised n; undecided = decided-on ms ns p e g ∙ o.undecided }
order-on script ms ns to (message.CommitPrepared g) p e o =
    record { running = ended-on ms ns p e g o.running; writer = writer-on ms ns p e g to ∙ o.writer; promised = prepared-on ms ns p e to g ∙ o.promised; decided = decided-on ms ns p e g ∙ o.decided }
order-on script ms ns to (message.Answer g r) p e o = o
order-on script ms ns to (message.Exec g c level x h y) p e o = tt
order-on script ms ns to (message.Abort g) p e o = tt
order-on script ms ns to (message.Forget g) p e o = tt
order-on script ms ns to (message.Collect round) p e o = tt
order-on script ms ns to (message.Graph round graph) p e o = tt
order-on script ms ns to message.Up p e o = tt

-- A STANDING AT EVERY SEGMENT
-- where one writer alone is to commit, it stands so at every segment
pub one-of : (b : Bool) (o : Option Txn) (i j : ℕ) → standing b o i ≡ One true → standing b o j ≡ One (eqb i j)
one-of true None i j e = absurd (cc)
one-of false None i j e = absurd (cc)
one-of b (Some t) i j e = by_phase t.phase e
  where
    one-same : (a b : Bool) → One a ≡ One b → a ≡ b
    one-same a b e = cc

    by_phase : (p : Status) → standing_in p i ≡ One true → standing_in p j ≡ One (eqb i j)
    by_phase status.Active e = absurd (cc)
    by_phase (status.Preparing xs aw) e = absurd (cc)
    by_phase (status.CommittingOne w) e = ap (λ n. One (eqb n j)) (eqb-true w.0 i (one-same (eqb w.0 i) true e))
    by_phase (status.CommittingTwo aw) e = absurd (cc)
    by_phase (status.Ended aw) e = absurd (cc)
    by_phase (status.Aborting aw) e = absurd (cc)

-- so does who is asked to promise
abbrev IsPreparing : Standing → Type 0
IsPreparing a = (b : Bool) × (a ≡ Preparing b)

preparing-of : (b : Bool) (o : Option Txn) (i j : ℕ) → standing b o i ≡ Preparing true → IsPreparing (standing b o j)
preparing-of true None i j e = absurd (cc)
preparing-of false None i j e = absurd (cc)
preparing-of b (Some t) i j e = by_phase t.phase e
  where
    by_phase : (p : Status) → standing_in p i ≡ Preparing true → IsPreparing (standing_in p j)
    by_phase status.Active e = absurd (cc)
    by_phase (status.Preparing xs aw) e = (Rattle.gx_dtx.specs.Nodes.has (at j) aw, refl)
    by_phase (status.CommittingOne w) e = absurd (cc)
    by_phase (status.CommittingTwo aw) e = absurd (cc)
    by_phase (status.Ended aw) e = absurd (cc)
    by_phase (status.Aborting aw) e = absurd (cc)

-- and whose commands run
pub live-of : (b : Bool) (o : Option Txn) (i j : ℕ) → standing b o i ≡ Live → standing b o j ≡ Live
live-of true None i j e = absurd (cc)
live-of false None i j e = absurd (cc)
live-of b (Some t) i j e = by_phase t.phase e
  where
    by_phase : (p : Status) → standing_in p i ≡ Live → standing_in p j ≡ Live
    by_phase status.Active e = refl
    by_phase (status.Preparing xs aw) e = absurd (cc)
    by_phase (status.CommittingOne w) e = absurd (cc)
    by_phase (status.CommittingTwo aw) e = absurd (cc)
    by_phase (status.Ended aw) e = absurd (cc)
    by_phase (status.Aborting aw) e = absurd (cc)

-- WHAT IS SENT
module _ (script : Script) (P : ℕ → ℕ → Part) (d : Coord) (ms : List Mark) (s : Stands script P d ms) (ins : (g : ℕ) → AreIn script.segments (d.works g).writers) where
  abbrev known : ℕ → Gxid → Known
  known i g = known_at d ms i g.0

  not-ended : (i : ℕ) (g : Gxid) → is_closing (known i g).at ≡ true → is_ended ms g ≡ false
  not-ended i g e =
      let pair : Pair (known i g) (P i g.0) = s.pairs i g.0 in
      or_from (is_committed ms g) (is_aborted ms g) (false_from_ne_true (is_committed ms g) (λ x. not-over (known i g).at e (pair.ends x))) (false_from_ne_true (is_aborted ms g) (λ x. not-over (known i g).at e (pair.aborts x)))
    where
      not-over : (a : Standing) → is_closing a ≡ true → a ≡ Over → ⊥
      not-over a e x = grind arith

  writes : (i : ℕ) (g : Gxid) → is_closing (known i g).at ≡ true → is_writer ms g (at i) ≡ (known i g).writes
  writes i g e = (s.parts i g.0).wrote ∙ sym ((s.pairs i g.0).closing e)

  -- whose promises are awaited are several
  preparing-several : (g : ℕ) (o : Option Txn) (b : Bool) (i : ℕ) → standing b o i ≡ Preparing true → Agrees ms g o (d.works g).writers → AreSeveral (d.works g).writers
  preparing-several g None true i e q = absurd (cc)
  preparing-several g None false i e q = absurd (cc)
  preparing-several g (Some t) b i e q = by_phase t.phase e q
    where
      by_phase : (p : Status) → standing_in p i ≡ Preparing true → AgreesIn ms g p (d.works g).writers → AreSeveral (d.works g).writers
      by_phase status.Active e q = absurd (cc)
      by_phase (status.Preparing xs aw) e q = q.1
      by_phase (status.CommittingOne w) e q = absurd (cc)
      by_phase (status.CommittingTwo aw) e q = absurd (cc)
      by_phase (status.Ended aw) e q = absurd (cc)
      by_phase (status.Aborting aw) e q = absurd (cc)

  pub right-order : (to : Node) (m : Message) → is_answer m ≡ false → AsksFor d to.0 m → IsRightOrder script ms to m
  right-order to (message.Prepare g) n a =
      let pair : Pair (known to.0 g) (P to.0 g.0) = s.pairs to.0 g.0 in
      record {
        running = not-ended to.0 g (ap is_closing a);
        writer = writes to.0 g (ap is_closing a) ∙ (pair.asked true a).0 refl;
        several = several (writers_of script ms g)
            (two-writers script P d ms s g.0 (ins g.0) (λ i. let b = preparing-of (nat_le d.table.next.0 g.0) (find_txn d.table g) to.0 i a in writes i g (ap is_closing b.1))
            (preparing-several g.0 (find_txn d.table g) (nat_le d.table.next.0 g.0) to.0 a (s.agrees g.0)));
        undecided = pair.undecided (ap is_undecided a);
        uncommitted = λ n. let b = preparing-of (nat_le d.table.next.0 g.0) (find_txn d.table g) to.0 n.0 a in (s.parts n.0 g.0).commits ∙ (s.pairs n.0 g.0).committed ∙ ap bit ((s.pairs n.0 g.0).asked b.0 b.1).3;
      }
  right-order to (message.Commit g) n a =
      record {
        running = not-ended to.0 g (ap is_closing a);
        only = λ n. let one : (known n.0 g).at ≡ One (eqb to.0 n.0) = one-of (nat_le d.table.next.0 g.0) (find_txn d.table g) to.0 n.0 a in writes n.0 g (ap is_closing one) ∙ sym ((s.pairs n.0 g.0).alone (eqb to.0 n.0) one).0 ∙ eqb-swap to.0 n.0;
        unpromised = λ n. let one : (known n.0 g).at ≡ One (eqb to.0 n.0) = one-of (nat_le d.table.next.0 g.0) (find_txn d.table g) to.0 n.0 a in (s.parts n.0 g.0).promises ∙ (s.pairs n.0 g.0).promised ∙ ap bit ((s.pairs n.0 g.0).alone (eqb to.0 n.0) one).1;
        undecided = (s.pairs to.0 g.0).undecided (ap is_undecided a);
      }
  right-order to (message.CommitPrepared g) n a =
      let pair : Pair (known to.0 g) (P to.0 g.0) = s.pairs to.0 g.0 in
      let wrote : (known to.0 g).writes ≡ true = (pair.both true a).0 refl in
      record {
        running = not-ended to.0 g (ap is_closing a);
        writer = writes to.0 g (ap is_closing a) ∙ wrote;
        promised = (s.parts to.0 g.0).promises ∙ pair.promised ∙ ap bit ((pair.both true a).1 ∙ wrote);
        decided = pair.decided (ap is_decided a);
      }
  right-order to (message.Answer g r) n a = absurd (cc)
  right-order to (message.Exec g c level x h y) n a = tt
  right-order to (message.Abort g) n a = tt
  right-order to (message.Forget g) n a = tt
  right-order to (message.Collect round) n a = tt
  right-order to (message.Graph round graph) n a = absurd (cc)
  right-order to message.Up n a = absurd (cc)
