-- Answers of segments, and all events of the coordinator.
use Rattle.std.proofs.Common.{◌≡◌, ◌≤◌, ◌<◌, inl, inr, ℕ, List, [], ◌∷◌, ◌++◌, Option, Some, None, Bool, true, false, refl, sym, subst, ap, ◌∙◌, if◌then◌else◌, ◌==◌, ◌&&◌, ◌||◌, arith, eqb, append-nil}
use Rattle.std.specs.Prelude.{is_some}
use Rattle.std.proofs.lemmas.Bool.{and_parts, eqb-true}
use Rattle.gx_lemmas.proofs.Numbers.{eqb-self}
use Rattle.gx_lemmas.proofs.Tests.{and-first}
use Rattle.gx_lemmas.proofs.Options.{some-same}
use Rattle.gx_ids.specs.declared.ids.Cid.{Cid}
use Rattle.gx_ids.specs.declared.ids.Node.{Node}
use Rattle.gx_ids.specs.declared.ids.SessionId.{SessionId}
use Rattle.gx_tree.specs.declared.part.Part.{Part}
use Rattle.gx_dtx.specs.Nodes.{has, without}
use Rattle.gx_dtx.specs.Rules.{Turn, ends, on_abort, on_reply, with_ended}
use Rattle.gx_dtx.specs.Table.{find_txn}
use Rattle.gx_dtx.specs.declared.phase.Phase.{Phase}
use Rattle.gx_dtx.specs.declared.txn.Txn.{Txn}
use Rattle.gx_dtx.specs.declared.outcome.Outcome.{Outcome}
use Rattle.gx_dtx.specs.declared.outcome.Outcome.TheVariants as outcome
use Rattle.gx_msg.specs.declared.message.Message.{Message}
use Rattle.gx_msg.specs.declared.message.Message.TheVariants as message
use Rattle.gx_msg.specs.declared.reply.Cause.{Cause}
use Rattle.gx_msg.specs.declared.reply.Reply.{Reply}
use Rattle.gx_msg.specs.declared.reply.Reply.TheVariants as reply
use Rattle.gx_script.specs.declared.Script.{Script}
use Rattle.gx_script.specs.Session.{block_after_done, block_after_refusal}
use Rattle.gx_script.specs.declared.state.Block.{Block}
use Rattle.gx_script.specs.declared.state.Block.TheVariants.{Outside, Open, Failed}
use Rattle.gx_script.specs.declared.state.Pending.{Pending}
use Rattle.gx_store.specs.declared.answer.Refused.TheVariants.{Victim}
use Rattle.gx_store.specs.declared.mark.Mark.{Mark}
use Rattle.gx_store.specs.declared.mark.Mark.TheVariants as mark
use Rattle.gx_store.specs.declared.node.NodeEvent.{NodeEvent}
use Rattle.gx_store.specs.declared.node.NodeEvent.TheVariants as event
use Rattle.gx_store.specs.Marks.{is_aborted}
use Rattle.gx_store.specs.Refusals.{the_coordinator}
use Rattle.gx_rules.specs.AtCoordinator.{answers, awaited, awaited_collect, cancels, commits, completes, coord_can, is_idle, is_nothing, failure_marks, follows, goes_on, is_awaited, is_refused, next_line, on_answer, on_done, on_event, on_failed, on_message, on_status, reason_of, resends, resumes, takes_done, with_done, writers_with}
use Rattle.gx_rules.specs.Coordinators.{Command, Coord, Session, Work, rests, session_of, with_work, work_of}
use Rattle.gx_rules.specs.Fits.{fits_part}
use Rattle.gx_rules.specs.Maps.{with_at}
use Rattle.gx_rules.specs.Snapshots.{latest_number}
use Rattle.gx_law_order.proofs.Closings.{answers-good, commits-good, refuses-good}
use Rattle.gx_law_order.proofs.Commands.{held-good, same-finds}
use Rattle.gx_law_order.proofs.Ends.{at-falls, at-same, greater-facts, past-at}
use Rattle.gx_law_order.proofs.Lines.{end-good, past-still, rest-good, start-good}
use Rattle.gx_law_order.specs.Lists.{Each}
use Rattle.gx_law_order.proofs.Past.{Still, running-drawn, still-committed}
use Rattle.gx_law_order.specs.Past.{Past}
use Rattle.gx_law_order.proofs.Sessions.{IsQuiet, kept-quiet}
use Rattle.gx_law_order.specs.Sessions.{Kept, Tied, is_closing_in, is_live_in, is_nothing_in, is_open_in, is_said, is_working_in}
use Rattle.gx_law_order.specs.Stages.{Stage, is_running, stage, stage_in, stage_of}
use Rattle.gx_law_order.specs.Standings.{gx}
use Rattle.gx_law_order.proofs.Statuses.{Moves, Turned, reply-turns}
use Rattle.gx_law_order.specs.Stages.Stage.{Absent, Closing, Dropped, Live}
use Rattle.gx_law_order.proofs.Turns.{Base, Good, base-kept, closed-good, refused-good}
use Rattle.gx_law_order.proofs.Queued.{queue-released, queue-stays, queued-by}
use Rattle.gx_locks.specs.Locks.{resumed, wait_of}
use Rattle.gx_tree.specs.declared.stmt.Stmt.{Stmt}
use Rattle.gx_waits.specs.declared.claim.Claim.{Claim}
use Rattle.gx_waits.specs.declared.graph.LocalGraph.{LocalGraph}
use Rattle.gx_rules.specs.Rounds.{begins_round, is_active, is_live, on_graph, with_report}
use Rattle.gx_rules.proofs.Rounds.{cancel-ways, graph-ways}

closing-closed : (b : Block) (p : Pending) → is_closing_in b p ≡ true → is_open_in (block_after_done b p) ≡ false
closing-closed b p e = grind arith

closing-refused : (b : Block) (p : Pending) → is_closing_in b p ≡ true → is_open_in (block_after_refusal b p) ≡ false
closing-refused b p e = grind arith

module _ {script : Script} (c : Coord) (before : List Mark) (k : Kept script c) (p : Past c before) (g : ℕ) where
  abbrev home : ℕ
  home = (c.works g).session.0

  abbrev its : Session
  its = c.sessions home

  same-works : (w : Work) (j : ℕ) → with_at c.works g w j ≡ (if eqb j g then w else c.works j)
  same-works w j = refl

  same-sessions : (j : ℕ) → c.sessions j ≡ (if eqb j home then its else c.sessions j)
  same-sessions j = by_test (eqb j home) refl
    where
      by_test : (q : Bool) → eqb j home ≡ q → c.sessions j ≡ (if q then its else c.sessions j)
      by_test true q = ap c.sessions (eqb-true j home q)
      by_test false q = refl

  same-own : (j : ℕ) → c.works j ≡ (if eqb j g then c.works g else c.works j)
  same-own j = by_test (eqb j g) refl
    where
      by_test : (q : Bool) → eqb j g ≡ q → c.works j ≡ (if q then c.works g else c.works j)
      by_test true q = ap c.works (eqb-true j g q)
      by_test false q = refl

  -- the transaction and its session, where the work has changed
  base-work : (w : Work) (said : Stage) → w.session ≡ (c.works g).session → w.waiting ≡ (c.works g).waiting → stage_of c g ≡ said → its.transaction.0 ≡ g → Base script c (with_work c (gx g) w) g home w its said
  base-work w said e waits st mine =
      record {
        whole1 = k.whole;
        now1 = find_txn c.table (gx g);
        stage1 = st;
        finds1 = same-finds c.table g;
        works1 = λ j. refl;
        sessions1 = same-sessions;
        kind = inl (mine, refl);
        same_txn = mine;
        home1 = ap (λ (q : SessionId). q.0) e;
        queues1 = queue-stays c.locks.waits g w.waiting (queued-by g (c.works g).waiting w.waiting c.locks.waits waits (k.queued g));
      }

  base-itself : (said : Stage) → stage_of c g ≡ said → its.transaction.0 ≡ g → Base script c c g home (c.works g) its said
  base-itself said st mine =
      record {
        whole1 = k.whole;
        now1 = find_txn c.table (gx g);
        stage1 = st;
        finds1 = same-finds c.table g;
        works1 = same-own;
        sessions1 = same-sessions;
        kind = inl (mine, refl);
        same_txn = mine;
        home1 = refl;
        queues1 = queue-stays c.locks.waits g (c.works g).waiting (k.queued g);
      }

  past-work : (w : Work) → Past (with_work c (gx g) w) before
  past-work w = record { committed = p.committed; ended = p.ended; dropped = p.dropped; latest = p.latest; drawn = p.drawn }

  -- DONE
  module _ (m : Command) (has_it : (c.works g).command ≡ Some m) (i : Node) (taken : has i m.awaited ≡ true) where
    some-awaited : m.awaited ≡ [] → ⊥
    some-awaited e = differ (sym (ap (has i) e) ∙ taken)
      where
        differ : has i [] ≡ true → ⊥
        differ q = grind arith

    runs-it : (stage_of c g ≡ Live) × (is_working_in its.state.pending ≡ true)
    runs-it = (k.tied g).awaits m has_it some-awaited

    is-its : (its.transaction.0 ≡ g) × (is_live_in its.state.block its.state.pending ≡ true)
    is-its = (k.tied g).live runs-it.0

    -- no statement waits while a command is under way
    clashes : (line : Stmt) → (c.works g).waiting ≡ Some line → ⊥
    clashes line e = differ (sym ((k.tied g).waits line e).1 ∙ has_it)
      where
        differ : None ≡ Some m → ⊥
        differ q = cc

    unqueued : (c.works g).waiting ≡ None
    unqueued = none-is (c.works g).waiting clashes
      where
        none-is : (o : Option Stmt) → ((x : Stmt) → o ≡ Some x → ⊥) → o ≡ None
        none-is None f = refl
        none-is (Some x) f = absurd (f x refl)

    alone-closing : (b : Block) (q : Pending) → is_open_in b ≡ false → is_live_in b q ≡ true → is_closing_in b q ≡ true
    alone-closing b q e f = grind arith

    done-good : (wrote : Bool) (count : ℕ) (part : Part) → Good script before (takes_done c (gx g) i wrote count part m)
    done-good wrote count part = by_left (without i m.awaited) refl
      where
        w : Work
        w = record (c.works g) { writers = writers_with wrote i (c.works g).writers; command = Some (with_done m i count part) }

        c1 : Coord
        c1 = with_work c (gx g) w

        b : Base script c c1 g home w its Live
        b = base-work w Live refl refl runs-it.0 is-its.0

        work-now : c1.works g ≡ w
        work-now = ap (λ q. if q then w else c.works g) (eqb-self g)

        goes : (and-first : List Node) → without i m.awaited ≡ and-first → (x : Node) (xs : List Node) → and-first ≡ x ∷ xs → Good script before (rests c1)
        goes and-first e x xs f =
            rest-good c1 before
            (base-kept c c1 g home w its Live k b c1 (find_txn c.table (gx g)) w its k.whole (same-finds c.table g) (λ j. same-one j (eqb j g) refl) same-sessions
            (λ z q. subst (λ y. Tied (stage_of c g) g w y) (sym (q ∙ ap (λ t. if t then its else c.sessions home) (eqb-self home)))
            (record { live = (k.tied g).live; closing = (k.tied g).closing; awaits = λ r h n. runs-it; busy = λ r h. (ap is_said runs-it.0, runs-it.1); waits = λ o h. absurd (clashes o h) }))
            is-its.0 (record { stands = λ o. (inl runs-it.0, refl); free = λ o n. runs-it.0 }) (queue-stays c.locks.waits g w.waiting b.queues1.here))
            (past-work w)
          where
            same-one : (j : ℕ) (q : Bool) → eqb j g ≡ q → (if q then w else c.works j) ≡ (if q then w else (if q then w else c.works j))
            same-one j true q = refl
            same-one j false q = refl

        alone : is_open_in its.state.block ≡ false → without i m.awaited ≡ [] → Good script before (commits c1 (gx g))
        alone closed e =
            commits-good c c1 g home w its Live k b before (past-work w) refl (alone-closing its.state.block its.state.pending closed is-its.1) (λ r h n. n (same-command r h ∙ e)) (λ r h. runs-it.1) unqueued
          where
            same-command : (r : Command) → Some (with_done m i count part) ≡ Some r → r.awaited ≡ without i m.awaited
            same-command r h = ap (λ (q : Command). q.awaited) (sym (some-same (with_done m i count part) r h))

        inside : is_open_in its.state.block ≡ true → Good script before (answers c1 (gx g) (work_of c1 (gx g)))
        inside opened = answers-good c c1 g home w its Live k b before (past-work w) refl opened runs-it.1 (c1.works g) (ap (λ (q : Work). q.session.0) work-now) refl (ap (λ (q : Work). q.waiting) work-now ∙ unqueued)

        by_block : (x : Block) → its.state.block ≡ x → without i m.awaited ≡ [] → Good script before (completes c1 (gx g) x)
        by_block Outside e f = alone (ap is_open_in e) f
        by_block (Open level) e f = inside (ap is_open_in e)
        by_block Failed e f = absurd (not-failed its.state.block its.state.pending e is-its.1)
          where
            not-failed : (b : Block) (q : Pending) → b ≡ Failed → is_live_in b q ≡ true → ⊥
            not-failed b q e f = grind arith

        by_left : (and-first : List Node) → without i m.awaited ≡ and-first → Good script before (goes_on c1 (gx g) and-first)
        by_left [] e = by_block _ (ap (λ (q : Work). (c.sessions q.session.0).state.block) (sym work-now)) e
        by_left (x ∷ xs) e = goes (x ∷ xs) e x xs refl

    failed-good : (cause : Cause) → Good script before (is_refused c (gx g) (on_abort c.table (gx g)) [] (reason_of cause))
    failed-good cause =
        refuses-good c c g home (c.works g) its Live k (base-itself Live runs-it.0 is-its.0) before p refl [] (reason_of cause) tt (waits its.state.pending runs-it.1)
      where
        waits : (q : Pending) → is_working_in q ≡ true → is_nothing_in q ≡ false
        waits q e = grind arith

  on-done-good : (i : Node) (cid : Cid) (wrote : Bool) (count : ℕ) (part : Part) (m : Option Command) → (c.works g).command ≡ m → Good script before (on_done c (gx g) i cid wrote count part m)
  on-done-good i cid wrote count part None e = rest-good c before k p
  on-done-good i cid wrote count part (Some m) e = by_test (is_awaited m i cid && fits_part m.stmt part) refl
    where
      by_test : (b : Bool) → (is_awaited m i cid && fits_part m.stmt part) ≡ b → Good script before (if b then takes_done c (gx g) i wrote count part m else rests c)
      by_test true f = done-good m e i (and_parts _ _ (and_parts _ _ f).0).1 wrote count part
      by_test false f = rest-good c before k p

  on-failed-good : (i : Node) (cid : Cid) (cause : Cause) (m : Option Command) → (c.works g).command ≡ m → Good script before (on_failed c (gx g) i cid cause m)
  on-failed-good i cid cause None e = rest-good c before k p
  on-failed-good i cid cause (Some m) e = by_test (is_awaited m i cid) refl
    where
      by_test : (b : Bool) → is_awaited m i cid ≡ b → Good script before (if b then is_refused c (gx g) (on_abort c.table (gx g)) [] (reason_of cause) else rests c)
      by_test true f = failed-good m e i (and_parts _ _ f).1 cause
      by_test false f = rest-good c before k p

  -- STATUSES
  -- only the status changes
  quiet-kept : (turn : Turn) → (t : Turned c.table g turn Moves) → IsQuiet (stage_of c g) (stage t.now) → Kept script (record c { table = turn.table })
  quiet-kept turn t q = kept-quiet c (record c { table = turn.table }) k t.at.whole (λ j. by_test j (eqb j g) refl) (λ j. refl) (λ j. refl) refl
    where
      by_test : (j : ℕ) (b : Bool) → eqb j g ≡ b → IsQuiet (stage_of c j) (stage (find_txn turn.table (gx j)))
      by_test j true f = subst (λ x. IsQuiet (stage_of c j) (stage x)) (sym (t.at.finds j ∙ ap (λ b. if b then t.now else find_txn c.table (gx j)) f)) (subst (λ i. IsQuiet (stage_of c i) (stage t.now)) (sym (eqb-true j g f)) q)
      by_test j false f = inl (ap stage (t.at.finds j ∙ ap (λ b. if b then t.now else find_txn c.table (gx j)) f))

  module _ (turn : Turn) (t : Turned c.table g turn Moves) where
    latest-same : ends turn.out.outcome ≡ false → turn.table.latest_ended ≡ c.table.latest_ended
    latest-same e = t.latest ∙ ap (λ b. with_ended b (gx g) c.table.latest_ended) e

    -- as before, or forgotten
    stays-past : (ns : List Mark) → Each Still ns → ends turn.out.outcome ≡ false → is_running (stage t.now) ≡ is_running (stage_of c g) → (stage t.now ≡ Dropped → stage_of c g ≡ Dropped) → Past (record c { table = turn.table }) (before ++ ns)
    stays-past ns e o r d =
        past-at c (record c { table = turn.table }) before ns g t.now p t.at.next t.at.finds (λ h n. still-committed ns (gx h) e) (subst (λ q. latest_number c.table.latest_ended ≤ latest_number q) (sym (latest-same o)) (le-refl (latest_number c.table.latest_ended)))
        (subst (λ q. latest_number q < c.table.next.0) (sym (latest-same o)) p.drawn)
        (at-same c before ns p g (stage t.now) (latest_number turn.table.latest_ended) r d (still-committed ns (gx g) e) (subst (λ q. latest_number c.table.latest_ended ≤ latest_number q) (sym (latest-same o)) (le-refl (latest_number c.table.latest_ended))))
      where
        le-refl : (a : ℕ) → a ≤ a
        le-refl a = omega arith

    -- aborted everywhere
    gone-past : stage_of c g ≡ Dropped → stage t.now ≡ Absent → turn.out.outcome ≡ outcome.Ended → Past (record c { table = turn.table }) (before ++ [])
    gone-past a b o =
        past-at c (record c { table = turn.table }) before [] g t.now p t.at.next t.at.finds (λ h n. refl) (subst (λ q. latest_number c.table.latest_ended ≤ latest_number q) (sym t.latest) facts.0)
        (subst (λ q. latest_number q < c.table.next.0) (sym t.latest) facts.2)
        (at-falls c before [] p g (stage t.now) _ (ap is_running a) (ap is_running b) refl (subst (λ m. is_aborted m (gx g) ≡ true) (sym (append-nil before)) (p.dropped g a)) (subst (λ q. g ≤ latest_number q) (sym t.latest) (facts.1 (ap ends o))))
      where
        facts : (latest_number c.table.latest_ended ≤ latest_number (with_ended (ends turn.out.outcome) (gx g) c.table.latest_ended)) × (ends turn.out.outcome ≡ true → g ≤ latest_number (with_ended (ends turn.out.outcome) (gx g) c.table.latest_ended)) × (latest_number (with_ended (ends turn.out.outcome) (gx g) c.table.latest_ended) < c.table.next.0)
        facts = greater-facts (ends turn.out.outcome) g c.table.latest_ended c.table.next.0 p.drawn (λ e. (running-drawn c g k.whole (ap is_running a)).1)

    failure-still : (i : Node) → Each Still (failure_marks i (gx g))
    failure-still i = by_test (i.0 == 0)
      where
        by_test : (b : Bool) → Each Still (if b then mark.JournalFailed the_coordinator (gx g) ∷ [] else [])
        by_test true = (tt, tt)
        by_test false = tt

    status-good : (o : Outcome) → turn.out.outcome ≡ o → Moves (stage_of c g) (stage t.now) o → Good script before (follows c (gx g) turn o)
    status-good outcome.Pending e (inl s) = record { kept = quiet-kept turn t (inl s); past = stays-past [] tt (ap ends e) (ap is_running s) (λ d. sym s ∙ d); seen = tt }
    status-good outcome.Pending e (inr s) =
        record { kept = quiet-kept turn t (inr (ap is_said s.0, ap is_said s.1)); past = stays-past [] tt (ap ends e) (ap is_running s.1 ∙ sym (ap is_running s.0)) (λ d. absurd (differ (sym s.1 ∙ d))); seen = tt }
      where
        differ : Absent ≡ Dropped → ⊥
        differ z = cc
    status-good outcome.Decided e s = record { kept = quiet-kept turn t (inl (s.1 ∙ sym s.0)); past = stays-past (mark.Decided (gx g) ∷ []) (tt, tt) (ap ends e) (ap is_running (s.1 ∙ sym s.0)) (λ d. s.0 ∙ sym s.1 ∙ d); seen = tt }
    status-good outcome.Committed e s =
        let mine = (k.tied g).closing s.0 in
        closed-good c c g home (c.works g) its Closing k (base-itself Closing s.0 mine.0) before p turn Moves t refl e s.1 (closing-closed its.state.block its.state.pending mine.1)
    status-good (outcome.Refused i) e s =
        let mine = (k.tied g).closing s.0 in
        refused-good c c g home (c.works g) its Closing k (base-itself Closing s.0 mine.0) before p turn Moves (failure_marks i (gx g)) _ t refl (inl s.1) (failure-still i) (closing-refused its.state.block its.state.pending mine.1)
    status-good outcome.Ended e s = record { kept = quiet-kept turn t (inr (ap is_said s.0, ap is_said s.1)); past = gone-past s.0 s.1 e; seen = tt }

  on-status-good : (i : Node) (r : Reply) (fails : Bool) → Good script before (on_status c (gx g) i r fails)
  on-status-good i r fails =
      let t : Turned c.table g (on_reply c.table (gx g) i r fails) Moves = reply-turns c.table g i r fails k.whole in
      let x : Good script before (follows c (gx g) (on_reply c.table (gx g) i r fails) (on_reply c.table (gx g) i r fails).out.outcome) = status-good (on_reply c.table (gx g) i r fails) t (on_reply c.table (gx g) i r fails).out.outcome refl t.how in
      record { kept = x.kept; past = x.past; seen = x.seen }

  answer-good : (i : Node) (fails : Bool) (r : Reply) → Good script before (on_answer c (gx g) i fails r)
  answer-good i fails (reply.Done cid wrote count part) = on-done-good i cid wrote count part (c.works g).command refl
  answer-good i fails (reply.Failed cid cause) = on-failed-good i cid cause (c.works g).command refl
  answer-good i fails reply.Prepared = on-status-good i reply.Prepared fails
  answer-good i fails reply.Committed = on-status-good i reply.Committed fails
  answer-good i fails reply.Jfault = on-status-good i reply.Jfault fails
  answer-good i fails reply.Again = on-status-good i reply.Again fails
  answer-good i fails reply.Restarted = on-status-good i reply.Restarted fails
  answer-good i fails reply.Aborted = on-status-good i reply.Aborted fails
  answer-good i fails reply.Forgotten = on-status-good i reply.Forgotten fails

  -- VICTIMS
  live-stage : (t : Option Txn) → is_live t ≡ true → stage t ≡ Live
  live-stage None e = absurd (cc)
  live-stage (Some t) e = by_phase t.phase e
    where
      by_phase : (q : Phase) → is_active q ≡ true → stage_in q ≡ Live
      by_phase q e = grind arith

  -- who is active and has a statement under way, or one that waits, is refused
  pub cancel-good : Good script before (cancels c (gx g))
  cancel-good = cancel-ways (Good script before) c (gx g) (rest-good c before k p) (λ live busy. refused (live-stage (find_txn c.table (gx g)) live) (working (c.works g).command (c.works g).waiting refl refl busy))
    where
      working : (o : Option Command) (line : Option Stmt) → (c.works g).command ≡ o → (c.works g).waiting ≡ line → (is_some o || is_some line) ≡ true → is_working_in its.state.pending ≡ true
      working (Some m) line e f b = ((k.tied g).busy m e).1
      working None (Some line) e f b = ((k.tied g).waits line f).2
      working None None e f b = absurd (cc)

      waits : (q : Pending) → is_working_in q ≡ true → is_nothing_in q ≡ false
      waits q e = grind arith

      refused : stage_of c g ≡ Live → is_working_in its.state.pending ≡ true → Good script before (is_refused c (gx g) (on_abort c.table (gx g)) [] (Victim c.rounds))
      refused live busy = refuses-good c c g home (c.works g) its Live k (base-itself Live live ((k.tied g).live live).0) before p refl [] (Victim c.rounds) tt (waits its.state.pending busy)

module _ (script : Script) (c : Coord) (before : List Mark) (k : Kept script c) (p : Past c before) where
  -- rounds touch no transaction
  kept-round : (rounds : ℕ) (reports : Option (List (Option LocalGraph))) → Kept script (record c { rounds = rounds; reports = reports })
  kept-round rounds reports = record { whole = k.whole; tied = k.tied; placed = k.placed; queued = k.queued }

  past-round : (rounds : ℕ) (reports : Option (List (Option LocalGraph))) → Past (record c { rounds = rounds; reports = reports }) before
  past-round rounds reports = record { committed = p.committed; ended = p.ended; dropped = p.dropped; latest = p.latest; drawn = p.drawn }

  graph-good : (from : Node) (round : ℕ) (graph : LocalGraph) → Good script before (on_graph c from round graph)
  graph-good from round graph =
      graph-ways (Good script before) c from round graph (rest-good c before k p) (λ e. rest-good (with_report c graph) before (kept-round c.rounds _) (past-round c.rounds _))
      (λ e f. record { kept = kept-round c.rounds None; past = past-still c (record c { reports = None }) before _ p refl (tt, tt); seen = tt })

  begin-good : Good script before (begins_round script c)
  begin-good = let x = rest-good (begins_round script c).coord before (kept-round _ _) (past-round _ _) in record { kept = x.kept; past = x.past; seen = tt }

  message-good : (from : Node) (fails : Bool) (m : Message) → Good script before (on_message c from fails m)
  message-good from fails (message.Answer g r) = answer-good c before k p g.0 from fails r
  message-good from fails (message.Exec g cid level x h y) = rest-good c before k p
  message-good from fails (message.Prepare g) = rest-good c before k p
  message-good from fails (message.Commit g) = rest-good c before k p
  message-good from fails (message.CommitPrepared g) = rest-good c before k p
  message-good from fails (message.Abort g) = rest-good c before k p
  message-good from fails (message.Forget g) = rest-good c before k p
  message-good from fails (message.Collect round) = rest-good c before k p
  message-good from fails (message.Graph round graph) = graph-good from round graph
  message-good from fails message.Up = rest-good c before k p

  again-good : (i : Node) (m : Option Message) → Good script before (resends c i m)
  again-good i None = rest-good c before k p
  again-good i (Some m) = let x = rest-good c before k p in record { kept = k; past = x.past; seen = tt }

  idle-first : (s : SessionId) (b : Bool) → (is_idle (session_of c s) && b) ≡ true → is_nothing_in (session_of c s).state.pending ≡ true
  idle-first s b e = by_pending (session_of c s).state.pending (and-first (is_nothing (session_of c s).state.pending) b e)
    where
      by_pending : (q : Pending) → is_nothing q ≡ true → is_nothing_in q ≡ true
      by_pending q e = grind arith

  -- A statement that has waited goes out: its transaction is live, no command of it is under way, and it has its session.
  resume-good : (g : ℕ) (o : Option Claim) (line : Option Stmt) → (c.works g).waiting ≡ line → Good script before (resumes script c (gx g) o line)
  resume-good g None line e = rest-good c before k p
  resume-good g (Some wanted) None e = rest-good c before k p
  resume-good g (Some wanted) (Some line) e =
      held-good script c c1 g (c.works g).session.0 w (c.sessions (c.works g).session.0) k
      (record {
        whole1 = k.whole;
        now1 = find_txn c.table (gx g);
        stage1 = waits.0;
        finds1 = same-finds c.table g;
        works1 = λ j. refl;
        sessions1 = same-sessions c before k p g;
        kind = inl (its.0, refl);
        same_txn = its.0;
        home1 = refl;
        queues1 = queue-released c.locks.waits g;
      }) before past its.1 waits.2 waits.1 refl line (resumed c.locks (gx g) (Some wanted)) wanted refl
    where
      w : Work
      w = record (c.works g) { waiting = None }

      c1 : Coord
      c1 = with_work (record c { locks = resumed c.locks (gx g) (Some wanted) }) (gx g) w

      waits : (stage_of c g ≡ Live) × ((c.works g).command ≡ None) × (is_working_in (c.sessions (c.works g).session.0).state.pending ≡ true)
      waits = (k.tied g).waits line e

      its : ((c.sessions (c.works g).session.0).transaction.0 ≡ g) × (is_live_in (c.sessions (c.works g).session.0).state.block (c.sessions (c.works g).session.0).state.pending ≡ true)
      its = (k.tied g).live waits.0

      past : Past c1 before
      past = record { committed = p.committed; ended = p.ended; dropped = p.dropped; latest = p.latest; drawn = p.drawn }

  pub event-good : (x : NodeEvent) (fails : Bool) → coord_can script c x ≡ true → Good script before (on_event script c x fails)
  event-good (event.Deliver from envelope) fails e = message-good from fails envelope.message
  event-good (event.Start s) fails e = start-good script c before k p s (idle-first s _ e) (next_line script c s)
  event-good (event.End s) fails e = end-good script c before k p s (idle-first s _ e)
  event-good (event.Resend i (Some g)) fails e = again-good i (awaited c g i)
  event-good (event.Resend i None) fails e = again-good i (awaited_collect c i)
  event-good (event.Resume g) fails e = resume-good g.0 (wait_of c.locks g) (work_of c g).waiting refl
  event-good event.Round fails e = begin-good
