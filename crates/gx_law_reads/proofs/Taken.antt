-- A transaction commits once each segment has taken what was sent to it.
use Rattle.std.proofs.Common.{◌≡◌, ◌≤◌, ◌<◌, inl, inr, ℕ, ◌+◌, List, [], ◌∷◌, ◌++◌, Option, Some, None, Result, Ok, Err, Bool, true, false, refl, sym, subst, ap, ◌∙◌, if◌then◌else◌, ◌||◌, ◌&&◌, arith, eqb}
use Rattle.std.proofs.lemmas.Bool.{and_parts, both_ways, eqb-true}
use Rattle.std.proofs.lemmas.Bool.Decides.{nat_tests}
use Rattle.std.specs.Prelude.{nat_le}
use Rattle.gx_lemmas.proofs.Options.{none-some, some-same}
use Rattle.gx_lemmas.proofs.Numbers.{eqb-self}
use Rattle.gx_lemmas.proofs.Tests.{and-first}
use Rattle.gx_ids.specs.declared.ids.Cid.{Cid}
use Rattle.gx_ids.specs.declared.ids.Gxid.{Gxid}
use Rattle.gx_ids.specs.declared.ids.Node.{Node}
use Rattle.gx_ids.specs.declared.ids.SessionId.{SessionId}
use Rattle.gx_tree.specs.declared.part.Part.{Part as QueryPart}
use Rattle.gx_tree.specs.declared.stmt.Level.TheVariants.{ReadCommitted}
use Rattle.gx_tree.specs.declared.stmt.Stmt.{Stmt}
use Rattle.gx_tree.specs.declared.stmt.Stmt.TheVariants as stmt
use Rattle.gx_dsnap.specs.declared.snapshot.Snapshot.{Snapshot}
use Rattle.gx_dtx.specs.Nodes.{has, without}
use Rattle.gx_dtx.specs.Orders.{message_of}
use Rattle.gx_dtx.specs.Rules.{Turn, awaited_order, on_abort, on_commit, on_reply}
use Rattle.gx_dtx.specs.Table.{Table, find_txn, horizon_of, new_txn}
use Rattle.gx_dtx.specs.declared.order.Order.{Order}
use Rattle.gx_dtx.specs.declared.order.Order.TheVariants as order
use Rattle.gx_dtx.specs.declared.outcome.Outcome.{Outcome}
use Rattle.gx_dtx.specs.declared.outcome.Outcome.TheVariants as outcome
use Rattle.gx_dtx.specs.declared.phase.Phase.{Phase as Status}
use Rattle.gx_dtx.specs.declared.txn.Txn.{Txn}
use Rattle.gx_meaning.specs.declared.fault.ArithFault.{ArithFault}
use Rattle.gx_msg.specs.declared.message.Message.{Message}
use Rattle.gx_msg.specs.declared.message.Message.TheVariants as message
use Rattle.gx_msg.specs.declared.message.Out.{Out}
use Rattle.gx_msg.specs.declared.reply.Cause.{Cause}
use Rattle.gx_msg.specs.declared.reply.Reply.{Reply}
use Rattle.gx_msg.specs.declared.reply.Reply.TheVariants as reply
use Rattle.gx_meaning.specs.Plan.{plan_of}
use Rattle.gx_meaning.specs.declared.piece.Piece.{Piece}
use Rattle.gx_script.specs.declared.Script.{Script}
use Rattle.gx_script.specs.Session.{idle_outside, line_step}
use Rattle.gx_script.specs.declared.line_step.LineStep.{LineStep}
use Rattle.gx_script.specs.declared.line_step.LineStep.TheVariants as step
use Rattle.gx_script.specs.declared.state.Block.{Block}
use Rattle.gx_script.specs.declared.state.Block.TheVariants.{Failed, Open, Outside}
use Rattle.gx_script.specs.declared.state.Pending.{Pending}
use Rattle.gx_store.specs.declared.answer.Refused.{Refused}
use Rattle.gx_store.specs.declared.answer.Refused.TheVariants.{Victim}
use Rattle.gx_store.specs.declared.mark.Mark.{Mark}
use Rattle.gx_store.specs.declared.mark.Mark.TheVariants as mark
use Rattle.gx_store.specs.declared.node.NodeEvent.{NodeEvent}
use Rattle.gx_store.specs.declared.node.NodeEvent.TheVariants as event
use Rattle.gx_store.specs.Marks.{is_committed}
use Rattle.gx_store.specs.Points.{marks_in}
use Rattle.gx_store.specs.Writes.{dist_of}
use Rattle.gx_store.specs.declared.answer.StmtAnswer.TheVariants as told
use Rattle.gx_rules.specs.AtCoordinator as coordinator
use Rattle.gx_rules.specs.AtCoordinator.{Reading, answer_mark, answers, awaited, begins, command_order, completes, coord_can, dispatches, ends_in, enlisted_all, failure_marks, fault_mark, follows, goes, goes_on, goes_out, is_awaited, is_idle, is_nothing, is_refused, next_cid, next_line, nodes_in, on_answer, on_done, on_failed, on_line, on_message, on_status, order_to, orders_of, reads_by, reads_for, reason_of, refusal_of, resends, rolls_back, starts, starts_line, status_order, table_of, takes_done, takes_snapshot, with_done, goes_on_locked, if_granted, requests, resumes}
use Rattle.gx_store.specs.Locks.{table_lock}
use Rattle.gx_rules.specs.Coordinators.{Command, Coord, CoordTurn, Session, rests, session_of, with_state, with_work, work_of}
use Rattle.gx_rules.specs.Fits.{fits_part}
use Rattle.gx_rules.specs.Machine.{World}
use Rattle.gx_rules.specs.Rounds.{awaits_graph, begins_round, on_graph, rechecks, with_report}
use Rattle.gx_rules.proofs.Rounds.{cancel-ways, graph-ways}
use Rattle.gx_law_order.proofs.Lists.{each_append, each_weaker}
use Rattle.gx_law_order.specs.Lists.{Each}
use Rattle.gx_law_order.proofs.Lines.{asks}
use Rattle.gx_law_order.proofs.Past.{committed-append}
use Rattle.gx_law_order.proofs.Places.{collects-each}
use Rattle.gx_law_order.specs.Sessions.{is_nothing_in, is_open_in, is_working_in}
use Rattle.gx_law_order.specs.Stages.{stage, stage_in, stage_of}
use Rattle.gx_law_order.proofs.Statuses.{Moves, Turned, reply-turns}
use Rattle.gx_law_order.specs.Stages.Stage.{Closing, Live as Running}
use Rattle.gx_law_order.proofs.World.{Knows}
use Rattle.gx_law_order.specs.Said.{Answers, IsCommand, IsDone, Said, gxid_in, is_answer}
use Rattle.gx_law_order.specs.Standings.{Known, at, gx, is_closing, known_at, standing, standing_in, waits_in}
use Rattle.gx_law_order.specs.Standings.Standing.{Live}
use Rattle.gx_law_order.proofs.Everywhere.{Holds, parts_in}
use Rattle.gx_law_order.proofs.Nodes.{has-without}
use Rattle.gx_law_order.proofs.Ways.{CommandOf}
use Rattle.gx_law_reads.proofs.Going.{ReadsTo, all-enlist, begins-latest, begins-went, begun-find, reads-for, waiting-went}
use Rattle.gx_law_reads.proofs.Held.{Latest}
use Rattle.gx_law_reads.proofs.Low.{Lows, latest, live-standing}
use Rattle.gx_law_reads.proofs.Plain.{NoExec, abort-mild, commit-mild, reply-mild}
use Rattle.gx_law_reads.proofs.Reading.{CommandLow, OrderLow, Stood}
use Rattle.gx_law_order.proofs.Always.{SaidTo}
use Rattle.gx_rules.specs.Locks.{with_hold, hold_mark, release_marks}
use Rattle.gx_locks.specs.Locks.{Locks, resumed, wait_of}
use Rattle.gx_waits.specs.Claims.{is_clear}
use Rattle.gx_waits.specs.declared.claim.Claim.{Claim}
use Rattle.gx_waits.specs.declared.graph.LocalGraph.{LocalGraph}
use Rattle.gx_store.specs.Refusals.{the_coordinator}
use Rattle.gx_law_order.proofs.Releases.{each-released}
use Rattle.gx_law_order.proofs.Waiting.{going-out}

abbrev pub NoCommit : Mark → Type 0
NoCommit (mark.Commit g) = ⊥
NoCommit _ = Unit {0}

pub committed-none : (ms : List Mark) (g : Gxid) → Each NoCommit ms → is_committed ms g ≡ false
committed-none [] g e = refl
committed-none (mark.Commit h ∷ ms) g e = absurd e.0
committed-none (m ∷ ms) g e = committed-none ms g e.1

abbrev pub LiveMessage : Table → Message → Type 0
LiveMessage d (message.Exec g c level x h slice) = stage (find_txn d (gx g.0)) ≡ Running
LiveMessage d _ = Unit {0}

no-exec-live : (d : Table) (m : Message) → NoExec m → LiveMessage d m
no-exec-live d (message.Exec g c l x h s) e = absurd e
no-exec-live d (message.Prepare g) e = tt
no-exec-live d (message.Commit g) e = tt
no-exec-live d (message.CommitPrepared g) e = tt
no-exec-live d (message.Abort g) e = tt
no-exec-live d (message.Forget g) e = tt
no-exec-live d (message.Collect round) e = tt
no-exec-live d (message.Answer g r) e = tt
no-exec-live d (message.Graph round graph) e = tt
no-exec-live d message.Up e = tt

sent-live : (d : Table) (outs : List Out) → Each (λ (o : Out). NoExec o.message) outs → Each (λ (o : Out). LiveMessage d o.message) outs
sent-live d outs e = each_weaker (λ (o : Out). NoExec o.message) (λ (o : Out). LiveMessage d o.message) (λ o f. no-exec-live d o.message f) outs e

fault-none : (g : Gxid) (cid : Cid) (line : Stmt) → Each NoCommit (fault_mark g cid line)
fault-none g cid (stmt.Insert t x) = (tt, tt)
fault-none g cid (stmt.Begin level) = tt
fault-none g cid stmt.Commit = tt
fault-none g cid stmt.Rollback = tt
fault-none g cid (stmt.Select q) = tt
fault-none g cid (stmt.Update t x y) = tt
fault-none g cid (stmt.Delete t x) = tt
fault-none g cid (stmt.Lock t m) = tt

failure-none : (i : Node) (g : Gxid) → Each NoCommit (failure_marks i g)
failure-none i g = by_test (eqb i.0 0)
  where
    by_test : (b : Bool) → Each NoCommit (if b then mark.JournalFailed Rattle.gx_store.specs.Refusals.the_coordinator g ∷ [] else [])
    by_test true = (tt, tt)
    by_test false = tt

module _ (script : Script) (w : World) (k : Knows script w) (v : Holds script w) (q : Lows w) where
  abbrev c : Coord
  c = w.coord

  abbrev known : ℕ → ℕ → Known
  known i g = known_at w.coord (marks_in w.steps) i g

  -- each segment has taken what was sent to it for the transaction
  abbrev pub AllTaken : ℕ → Type 0
  AllTaken g = (i n : ℕ) → IsCommand (known_at w.coord (marks_in w.steps) i g) (parts_in w i g) n → n ≤ (parts_in w i g).last

  pub record Passes (turn : CoordTurn) : Type 0 where
    pub outs : Each (λ (o : Out). LiveMessage turn.coord.table o.message) turn.outs
    pub takes : (g : ℕ) → is_committed turn.marks (gx g) ≡ true → AllTaken g

  plain : (turn : CoordTurn) → Each (λ (o : Out). LiveMessage turn.coord.table o.message) turn.outs → Each NoCommit turn.marks → Passes turn
  plain turn e n = record { outs = e; takes = λ g f. absurd (both_ways (is_committed turn.marks (gx g)) (committed-none turn.marks (gx g) n) f) }

  rest : Passes (rests w.coord)
  rest = plain (rests w.coord) tt tt

  -- ENDS
  back-none : (locks : Locks) (g : Gxid) → Each NoCommit (release_marks the_coordinator locks g)
  back-none locks g = each-released NoCommit the_coordinator locks g (λ claim. tt)

  follows-pass : (c1 : Coord) (g : ℕ) (turn : Turn) (o : Outcome) → Each (λ (o : Out). NoExec o.message) turn.out.outs → (o ≡ outcome.Committed → AllTaken g) → Passes (follows c1 (gx g) turn o)
  follows-pass c1 g turn outcome.Pending e can = plain (follows c1 (gx g) turn outcome.Pending) (sent-live turn.table turn.out.outs e) tt
  follows-pass c1 g turn outcome.Decided e can = plain (follows c1 (gx g) turn outcome.Decided) (sent-live turn.table turn.out.outs e) (tt, tt)
  follows-pass c1 g turn (outcome.Refused i) e can = plain (follows c1 (gx g) turn (outcome.Refused i)) (sent-live turn.table turn.out.outs e) (each_append NoCommit (failure_marks i (gx g)) _ (failure-none i (gx g)) (tt, (tt, back-none c1.locks (gx g))))
  follows-pass c1 g turn outcome.Ended e can = plain (follows c1 (gx g) turn outcome.Ended) (sent-live turn.table turn.out.outs e) tt
  follows-pass c1 g turn outcome.Committed e can = record { outs = sent-live turn.table turn.out.outs e; takes = λ h f. subst AllTaken (same g h (ap (λ b. eqb g h || b) (sym (committed-none (release_marks the_coordinator c1.locks (gx g)) (gx h) (back-none c1.locks (gx g)))) ∙ f)) (can refl) }
    where
      same : (g h : ℕ) → (eqb g h || false) ≡ true → g ≡ h
      same g h f = grind (arith, nat_tests)

  refused-pass : (c1 : Coord) (g : ℕ) (why : List Mark) (reason : Refused) → Each NoCommit why → Passes (is_refused c1 (gx g) (on_abort c1.table (gx g)) why reason)
  refused-pass c1 g why reason e =
      plain (is_refused c1 (gx g) (on_abort c1.table (gx g)) why reason) (sent-live (on_abort c1.table (gx g)).table (on_abort c1.table (gx g)).out.outs (abort-mild (gx g) (find_txn c1.table (gx g))).sent) (each_append NoCommit why _ e (tt, (tt, back-none c1.locks (gx g))))

  rolled-pass : (c1 : Coord) (g : ℕ) (marks : List Mark) → Each NoCommit marks → Passes (rolls_back c1 (gx g) marks (on_abort c1.table (gx g)))
  rolled-pass c1 g marks e = plain (rolls_back c1 (gx g) marks (on_abort c1.table (gx g))) (sent-live (on_abort c1.table (gx g)).table (on_abort c1.table (gx g)).out.outs (abort-mild (gx g) (find_txn c1.table (gx g))).sent) (tt, each_append NoCommit marks _ e (back-none c1.locks (gx g)))

  commits-pass : (c1 : Coord) (g : ℕ) → AllTaken g → Passes (coordinator.commits c1 (gx g))
  commits-pass c1 g can = follows-pass c1 g (on_commit c1.table (gx g) (c1.works g).writers) (on_commit c1.table (gx g) (c1.works g).writers).out.outcome (commit-mild (gx g) (c1.works g).writers (find_txn c1.table (gx g))).sent (λ e. can)

  -- who waits for nobody has all taken
  at-live : (g i : ℕ) → stage_of w.coord g ≡ Running → (known i g).at ≡ Live
  at-live g i l = live-standing script w k g i l (nat_le w.coord.table.next.0 g)

  -- STATUSES
  pub closing-taken : (g : ℕ) → stage_of w.coord g ≡ Closing → AllTaken g
  closing-taken g e i n s = s.closed (by_found (find_txn w.coord.table (gx g)) e (nat_le w.coord.table.next.0 g))
    where
      by_phase : (p : Status) → stage_in p ≡ Closing → is_closing (standing_in p i) ≡ true
      by_phase p e = grind arith

      by_found : (o : Option Txn) → stage o ≡ Closing → (b : Bool) → is_closing (standing b o i) ≡ true
      by_found None e b = absurd (cc)
      by_found (Some t) e b = by_phase t.phase e

  status-pass : (g : ℕ) (i : Node) (r : Reply) (fails : Bool) → Passes (on_status w.coord (gx g) i r fails)
  status-pass g i r fails =
      let x = follows-pass w.coord g (on_reply w.coord.table (gx g) i r fails) (on_reply w.coord.table (gx g) i r fails).out.outcome (reply-mild (gx g) i r fails (find_txn w.coord.table (gx g))).sent (λ e. closing-taken g (first e)) in
      record { outs = x.outs; takes = x.takes }
    where
      t : Turned w.coord.table g (on_reply w.coord.table (gx g) i r fails) Moves
      t = reply-turns w.coord.table g i r fails k.kept.whole

      first : (on_reply w.coord.table (gx g) i r fails).out.outcome ≡ outcome.Committed → stage_of w.coord g ≡ Closing
      first e = (subst (Moves (stage (find_txn w.coord.table (gx g))) (stage t.now)) e t.how).0

  -- DONE
  module _ (g : ℕ) (m : Command) (has_it : (w.coord.works g).command ≡ Some m) (i : Node) (cid : Cid) (wrote : Bool) (same_cid : eqb m.cid.0 cid.0 ≡ true) (taken : has i m.awaited ≡ true) (said : IsDone (known i.0 g) (parts_in w i.0 g) cid.0 wrote) where
    some-awaited : m.awaited ≡ [] → ⊥
    some-awaited e = both_ways (has i m.awaited) (ap (has i) e) taken

    runs : stage_of w.coord g ≡ Running
    runs = ((k.kept.tied g).awaits m has_it some-awaited).0

    is-last : m.cid.0 ≡ (w.coord.works g).last
    is-last = (subst (CommandOf g (w.coord.works g).last) has_it (v.stands.works g).command).0

    all-done : without i m.awaited ≡ [] → AllTaken g
    all-done e j n s = by_test (eqb i.0 j) refl
      where
        others : eqb i.0 j ≡ false → has (at j) m.awaited ≡ false
        others f = sym (has-without (at j) i m.awaited ∙ ap (λ b. if b then false else has (at j) m.awaited) f) ∙ ap (has (at j)) e

        by_test : (b : Bool) → eqb i.0 j ≡ b → n ≤ (parts_in w j g).last
        by_test true f =
            subst (λ z. n ≤ (parts_in w z g).last) (eqb-true i.0 j f)
            (subst (λ z. n ≤ z) (sym ((said.same (at-live g i.0 runs) (sym (eqb-true m.cid.0 cid.0 same_cid) ∙ is-last)).0 ∙ sym (eqb-true m.cid.0 cid.0 same_cid) ∙ is-last)) (s.last (at-live g j runs)))
        by_test false f = s.taken (at-live g j runs) (ap (λ o. waits_in o j) has_it ∙ others f)

    done-pass : (count : ℕ) (part : QueryPart) → Passes (takes_done w.coord (gx g) i wrote count part m)
    done-pass count part = by_left (without i m.awaited) refl
      where
        c1 : Coord
        c1 = with_work w.coord (gx g) (record (w.coord.works g) { writers = coordinator.writers_with wrote i (w.coord.works g).writers; command = Some (with_done m i count part) })

        by_block : (b : Block) → without i m.awaited ≡ [] → Passes (completes c1 (gx g) b)
        by_block Outside e = commits-pass c1 g (all-done e)
        by_block (Open level) e = plain (answers c1 (gx g) (c1.works g)) tt (tt, tt)
        by_block Failed e = plain (answers c1 (gx g) (c1.works g)) tt (tt, tt)

        by_left : (and-first : List Node) → without i m.awaited ≡ and-first → Passes (goes_on c1 (gx g) and-first)
        by_left [] e = by_block (session_of c1 (work_of c1 (gx g)).session).state.block e
        by_left (x ∷ xs) e = plain (rests c1) tt tt

  on-done-pass : (g : ℕ) (i : Node) (cid : Cid) (wrote : Bool) (count : ℕ) (part : QueryPart) → IsDone (known i.0 g) (parts_in w i.0 g) cid.0 wrote → (m : Option Command) → (w.coord.works g).command ≡ m → Passes (on_done w.coord (gx g) i cid wrote count part m)
  on-done-pass g i cid wrote count part said None e = rest
  on-done-pass g i cid wrote count part said (Some m) e = by_test (is_awaited m i cid && fits_part m.stmt part) refl
    where
      by_test : (b : Bool) → (is_awaited m i cid && fits_part m.stmt part) ≡ b → Passes (if b then takes_done w.coord (gx g) i wrote count part m else rests w.coord)
      by_test true f = let x = and_parts _ _ (and_parts _ _ f).0 in done-pass g m e i cid wrote x.0 x.1 said count part
      by_test false f = rest

  failed-pass : (g : ℕ) (i : Node) (cid : Cid) (cause : Cause) (m : Option Command) → Passes (on_failed w.coord (gx g) i cid cause m)
  failed-pass g i cid cause None = rest
  failed-pass g i cid cause (Some m) = by_test (is_awaited m i cid)
    where
      by_test : (b : Bool) → Passes (if b then is_refused w.coord (gx g) (on_abort w.coord.table (gx g)) [] (reason_of cause) else rests w.coord)
      by_test true = refused-pass w.coord g [] (reason_of cause) tt
      by_test false = rest

  answer-pass : (g : ℕ) (i : Node) (fails : Bool) (r : Reply) → Answers (known i.0 g) (parts_in w i.0 g) r → Passes (on_answer w.coord (gx g) i fails r)
  answer-pass g i fails (reply.Done cid wrote count part) s = on-done-pass g i cid wrote count part s (w.coord.works g).command refl
  answer-pass g i fails (reply.Failed cid cause) s = failed-pass g i cid cause (w.coord.works g).command
  answer-pass g i fails reply.Prepared s = status-pass g i reply.Prepared fails
  answer-pass g i fails reply.Committed s = status-pass g i reply.Committed fails
  answer-pass g i fails reply.Jfault s = status-pass g i reply.Jfault fails
  answer-pass g i fails reply.Again s = status-pass g i reply.Again fails
  answer-pass g i fails reply.Restarted s = status-pass g i reply.Restarted fails
  answer-pass g i fails reply.Aborted s = status-pass g i reply.Aborted fails
  answer-pass g i fails reply.Forgotten s = status-pass g i reply.Forgotten fails

  -- ROUNDS
  begins-round-pass : Passes (begins_round script w.coord)
  begins-round-pass = plain (begins_round script w.coord) (collects-each (λ (o : Out). LiveMessage w.coord.table o.message) script.segments (w.coord.rounds + 1) (λ i one within. tt)) tt

  graph-pass : (from : Node) (round : ℕ) (graph : LocalGraph) → Passes (on_graph w.coord from round graph)
  graph-pass from round graph =
      graph-ways Passes w.coord from round graph rest (λ e. plain (rests (with_report w.coord graph)) tt tt) (λ e f. plain (rechecks (with_report w.coord graph)) tt (tt, tt))

  -- a victim
  pub cancel-pass : (g : Gxid) → Passes (coordinator.cancels w.coord g)
  cancel-pass g = cancel-ways Passes w.coord g rest (λ live busy. refused-pass w.coord g.0 [] (Victim w.coord.rounds) tt)

  message-pass : (from : Node) (fails : Bool) (m : Message) → (is_answer m ≡ true → Said (known from.0 (gxid_in m)) (parts_in w from.0 (gxid_in m)) m) → Passes (on_message w.coord from fails m)
  message-pass from fails (message.Answer g r) s = answer-pass g.0 from fails r (s refl)
  message-pass from fails (message.Exec g cid level x h y) s = rest
  message-pass from fails (message.Prepare g) s = rest
  message-pass from fails (message.Commit g) s = rest
  message-pass from fails (message.CommitPrepared g) s = rest
  message-pass from fails (message.Abort g) s = rest
  message-pass from fails (message.Forget g) s = rest
  message-pass from fails (message.Collect round) s = rest
  message-pass from fails (message.Graph round graph) s = graph-pass from round graph
  message-pass from fails message.Up s = rest

  -- COMMANDS THAT GO OUT
  module _ (c1 : Coord) (g : ℕ) (s1 : Stood c1.table c1.works) (l1 : Latest c1.table) (live : stage_of c1 g ≡ Running) where
    reading-none : (cid : Cid) (x : Option Snapshot) → Each NoCommit (reads_by c1 (gx g) cid (c1.works g) x).marks
    reading-none cid None = (tt, tt)
    reading-none cid (Some x) = tt

    for-none : (cid : Cid) (line : Stmt) → Each NoCommit (reads_for c1 (gx g) cid (c1.works g) line).marks
    for-none cid (stmt.Lock t m) = tt
    for-none cid (stmt.Begin level) = reading-none cid (c1.works g).snapshot
    for-none cid stmt.Commit = reading-none cid (c1.works g).snapshot
    for-none cid stmt.Rollback = reading-none cid (c1.works g).snapshot
    for-none cid (stmt.Select z) = reading-none cid (c1.works g).snapshot
    for-none cid (stmt.Insert t x) = reading-none cid (c1.works g).snapshot
    for-none cid (stmt.Update t x z) = reading-none cid (c1.works g).snapshot
    for-none cid (stmt.Delete t x) = reading-none cid (c1.works g).snapshot

    out-live : (u : Table) → stage (find_txn u (gx g)) ≡ Running → (cid : Cid) (level : Rattle.gx_tree.specs.declared.stmt.Level.Level) (x : Option Snapshot) (h : Gxid) (ps : List Piece) → Each (λ (o : Out). LiveMessage u o.message) (orders_of (gx g) cid level x h ps)
    out-live u e cid level x h [] = tt
    out-live u e cid level x h (p ∷ ps) = (e, out-live u e cid level x h ps)

    goes-pass : (line : Stmt) (r : Reading) → ReadsTo c1 g s1 l1 r → Each NoCommit r.marks → (plan : Result (List Piece) ArithFault) → Passes (goes (gx g) (next_cid (c1.works g)) line r plan)
    goes-pass line r f n (Ok pieces) =
        plain (goes_out (gx g) (next_cid (c1.works g)) line pieces r)
        (out-live (enlisted_all r.coord.table (gx g) (nodes_in pieces)) ((all-enlist (nodes_in pieces) r.coord.table g).same ∙ f.same ∙ live) (next_cid (c1.works g)) (r.coord.works g).level r.snapshot (horizon_of r.coord.table) pieces) n
    goes-pass line r f n (Err fault) = refused-pass r.coord g (r.marks ++ fault_mark (gx g) (next_cid (c1.works g)) line) (refusal_of fault) (each_append NoCommit r.marks _ n (fault-none (gx g) (next_cid (c1.works g)) line))

    locked-pass : (line : Stmt) → Passes (goes_on_locked script c1 (gx g) line)
    locked-pass line =
        goes-pass line (reads_for c1 (gx g) (next_cid (c1.works g)) (c1.works g) line) (reads-for c1 g s1 l1 (next_cid (c1.works g)) line) (for-none (next_cid (c1.works g)) line) (plan_of script.segments (dist_of script.tables (table_of line)) (gx g) (next_cid (c1.works g)) line)

  behind-pass : (m : Mark) (turn : CoordTurn) → NoCommit m → Passes turn → Passes (coordinator.behind (m ∷ []) turn)
  behind-pass m turn e f = record { outs = f.outs; takes = λ g z. f.takes g (sym (skip m g e) ∙ z) }
    where
      skip : (m : Mark) (g : ℕ) → NoCommit m → is_committed (m ∷ turn.marks) (gx g) ≡ is_committed turn.marks (gx g)
      skip m g e = committed-append (m ∷ []) turn.marks (gx g) ∙ ap (λ b. b || is_committed turn.marks (gx g)) (committed-none (m ∷ []) (gx g) (e, tt))

  -- WITH ITS TABLE'S LOCK
  module _ (c1 : Coord) (g : ℕ) (s1 : Stood c1.table c1.works) (l1 : Latest c1.table) (live : stage_of c1 g ≡ Running) (line : Stmt) where
    granted-pass : (wanted : Claim) (b : Bool) → Passes (if_granted script c1 (gx g) line wanted b)
    granted-pass wanted true = behind-pass (hold_mark the_coordinator wanted) (goes_on_locked script (record c1 { locks = with_hold c1.locks wanted }) (gx g) line) tt (locked-pass (record c1 { locks = with_hold c1.locks wanted }) g s1 l1 live line)
    granted-pass wanted false = plain (if_granted script c1 (gx g) line wanted false) tt (tt, tt)

    request-pass : (o : Option Claim) → Passes (requests script c1 (gx g) line o)
    request-pass None = locked-pass c1 g s1 l1 live line
    request-pass (Some wanted) = granted-pass wanted (is_clear c1.locks.holds c1.locks.waits wanted)

    dispatch-pass : Passes (dispatches script c1 (gx g) line)
    dispatch-pass = request-pass (table_lock script (gx g) line)

  -- and behind a wait
  resumes-pass : (g : ℕ) → stage_of w.coord g ≡ Running → (o : Option Claim) (line : Option Stmt) → Passes (resumes script w.coord (gx g) o line)
  resumes-pass g live None line = rest
  resumes-pass g live (Some wanted) None = rest
  resumes-pass g live (Some wanted) (Some line) =
      let c1 : Coord = with_work (record w.coord { locks = resumed w.coord.locks (gx g) (Some wanted) }) (gx g) (record (w.coord.works g) { waiting = None }) in
      behind-pass (hold_mark the_coordinator wanted) (goes_on_locked script c1 (gx g) line) tt (locked-pass c1 g (waiting-went w.coord.table w.coord.works g None q.stood).stood (latest script w k) live line)

  -- LINES
  module _ (s : SessionId) (idle : is_nothing_in (session_of w.coord s).state.pending ≡ true) where
    abbrev g1 : ℕ
    g1 = (session_of w.coord s).transaction.0

    not-work : (p : Pending) → is_nothing_in p ≡ true → is_working_in p ≡ true → ⊥
    not-work p e f = grind arith

    idle-waits : is_open_in (session_of w.coord s).state.block ≡ true → (i : ℕ) (o : Option Command) → (w.coord.works g1).command ≡ o → waits_in o i ≡ false
    idle-waits opened i None e = refl
    idle-waits opened i (Some m) e = by_list m.awaited refl
      where
        some : (x : Node) (xs : List Node) → m.awaited ≡ x ∷ xs → m.awaited ≡ [] → ⊥
        some x xs a b = differ x xs (sym a ∙ b)
          where
            differ : (x : Node) (xs : List Node) → x ∷ xs ≡ [] → ⊥
            differ x xs e = cc

        by_list : (xs : List Node) → m.awaited ≡ xs → has (at i) m.awaited ≡ false
        by_list [] f = ap (has (at i)) f
        by_list (x ∷ xs) f =
            absurd (not-work (session_of w.coord s).state.pending idle (subst (λ j. is_working_in (w.coord.sessions j).state.pending ≡ true) ((k.kept.placed s.0).stands opened).1 ((k.kept.tied g1).awaits m e (some x xs f)).1))

    own-live : is_open_in (session_of w.coord s).state.block ≡ true → stage_of w.coord g1 ≡ Running
    own-live opened = (k.kept.placed s.0).free opened idle

    idle-taken : is_open_in (session_of w.coord s).state.block ≡ true → AllTaken g1
    idle-taken opened i n z = z.taken (at-live g1 i (own-live opened)) (idle-waits opened i (w.coord.works g1).command refl)

    abbrev started : LineStep → Coord
    started asked = starts_line w.coord s asked

    own-same : (asked : LineStep) → (session_of (started asked) s).transaction.0 ≡ g1
    own-same asked = ap (λ b. (let x : Session = if b then record (session_of w.coord s) { lines = (session_of w.coord s).lines + 1; state = Rattle.gx_script.specs.Session.after_line (session_of w.coord s).state.block asked } else session_of w.coord s in x).transaction.0) (eqb-self s.0)

    line-pass : (line : Stmt) (asked : LineStep) → Rattle.gx_law_order.proofs.Lines.Asks (session_of w.coord s).state.block asked → Passes (on_line script (started asked) s line asked)
    line-pass line (step.Answer x) a = plain (on_line script (started (step.Answer x)) s line (step.Answer x)) tt (tt, tt)
    line-pass line step.InFailedBlock a = plain (on_line script (started step.InFailedBlock) s line step.InFailedBlock) tt (tt, tt)
    line-pass line step.NotInBlock a = plain (on_line script (started step.NotInBlock) s line step.NotInBlock) tt (tt, tt)
    line-pass line (step.BeginBlock level) a = plain (on_line script (started (step.BeginBlock level)) s line (step.BeginBlock level)) tt (tt, (tt, tt))
    line-pass line step.CommitBlock a = commits-pass (started step.CommitBlock) (session_of (started step.CommitBlock) s).transaction.0 (subst AllTaken (sym (own-same step.CommitBlock)) (idle-taken a))
    line-pass line step.RollbackBlock a = rolled-pass (started step.RollbackBlock) (session_of (started step.RollbackBlock) s).transaction.0 (answer_mark (started step.RollbackBlock) s told.Rollback ∷ []) (tt, tt)
    line-pass line (step.Command true) a =
        behind-pass (mark.Start w.coord.table.next s) (dispatches script (begins (started (step.Command true)) s ReadCommitted) w.coord.table.next line) tt
        (dispatch-pass (begins (started (step.Command true)) s ReadCommitted) w.coord.table.next.0 (begins-went w.coord.table w.coord.works s ReadCommitted q.stood).stood (begins-latest w.coord.table w.coord.works s ReadCommitted q.stood (latest script w k))
        (ap stage (begun-find w.coord.table w.coord.table.next.0 q.stood.sorted ∙ ap (λ b. Rattle.std.proofs.Common.cond b (Some new_txn) (find_txn w.coord.table w.coord.table.next)) (eqb-self w.coord.table.next.0))) line)
    line-pass line (step.Command false) a =
        dispatch-pass (started (step.Command false)) (session_of (started (step.Command false)) s).transaction.0 q.stood (latest script w k) (subst (λ z. stage_of w.coord z ≡ Running) (sym (own-same (step.Command false))) (own-live a)) line

    start-pass : (line : Option Stmt) → Passes (starts script w.coord s line)
    start-pass None = rest
    start-pass (Some line) = line-pass line (line_step (session_of w.coord s).state.block line) (asks (session_of w.coord s).state.block line)

    end-pass : (b : Block) → Passes (ends_in w.coord s b)
    end-pass (Open level) = rolled-pass (with_state w.coord s idle_outside) (session_of w.coord s).transaction.0 [] tt
    end-pass Failed = plain (rests (with_state w.coord s idle_outside)) tt tt
    end-pass Outside = rest

  -- SENT AGAIN
  order-live : (i : Node) (g : ℕ) → stage_of w.coord g ≡ Running → (os : List Out) → Each (OrderLow (horizon_of w.coord.table) g) os → (told : Message) → order_to i os ≡ Some told → LiveMessage w.coord.table told
  order-live i g live [] low told e = absurd (none-some (order_to i []) told refl e)
  order-live i g live (o ∷ os) low told e = by_test (eqb o.node.0 i.0) e (λ z. order-live i g live os low.1 told z)
    where
      one : (n : Message) → OrderLow (horizon_of w.coord.table) g (record { node = i; message = n }) → LiveMessage w.coord.table n
      one (message.Exec h cid level x horizon slice) l = subst (λ j. stage_of w.coord j ≡ Running) (sym l.1) live
      one (message.Prepare h) l = tt
      one (message.Commit h) l = tt
      one (message.CommitPrepared h) l = tt
      one (message.Abort h) l = tt
      one (message.Forget h) l = tt
      one (message.Answer h r) l = tt
      one (message.Collect round) l = tt
      one (message.Graph round graph) l = tt
      one message.Up l = tt

      by_test : (b : Bool) → (if b then Some o.message else order_to i os) ≡ Some told → (order_to i os ≡ Some told → LiveMessage w.coord.table told) → LiveMessage w.coord.table told
      by_test true z more = subst (LiveMessage w.coord.table) (some-same o.message told z) (one o.message low.0)
      by_test false z more = more z

  status-live : (g : Gxid) (o : Option Order) (told : Message) → status_order g o ≡ Some told → LiveMessage w.coord.table told
  status-live g None told e = absurd (none-some (status_order g None) told refl e)
  status-live g (Some o) told e = subst (LiveMessage w.coord.table) (some-same (message_of o g) told e) (one o)
    where
      one : (o : Order) → LiveMessage w.coord.table (message_of o g)
      one order.Prepare = tt
      one order.Commit = tt
      one order.CommitPrepared = tt
      one order.Abort = tt
      one order.Forget = tt

  awaited-live : (i : Node) (g : ℕ) (m : Option Command) → (w.coord.works g).command ≡ m → (told : Message) → command_order m i (status_order (gx g) (awaited_order w.coord.table (gx g) i)) ≡ Some told → LiveMessage w.coord.table told
  awaited-live i g None z told e = status-live (gx g) (awaited_order w.coord.table (gx g) i) told e
  awaited-live i g (Some m) z told e = by_test (has i m.awaited) refl e
    where
      by_test : (b : Bool) → has i m.awaited ≡ b → (if b then order_to i m.orders else status_order (gx g) (awaited_order w.coord.table (gx g) i)) ≡ Some told → LiveMessage w.coord.table told
      by_test true f e = order-live i g ((k.kept.tied g).awaits m z (λ n. both_ways (has i m.awaited) (ap (has i) n) f)).0 m.orders (subst (CommandLow (horizon_of w.coord.table) g) z (q.stood.orders g)) told e
      by_test false f e = status-live (gx g) (awaited_order w.coord.table (gx g) i) told e

  again-pass : (i : Node) (g : ℕ) (told : Option Message) → awaited w.coord (gx g) i ≡ told → Passes (resends w.coord i told)
  again-pass i g None e = rest
  again-pass i g (Some told) e = plain (resends w.coord i (Some told)) (awaited-live i g (w.coord.works g).command refl told e, tt) tt

  idle-first : (s : SessionId) (b : Bool) → (is_idle (session_of w.coord s) && b) ≡ true → is_nothing_in (session_of w.coord s).state.pending ≡ true
  idle-first s b e = by_pending (session_of w.coord s).state.pending (and-first (is_nothing (session_of w.coord s).state.pending) b e)
    where
      by_pending : (p : Pending) → is_nothing p ≡ true → is_nothing_in p ≡ true
      by_pending p e = grind arith

  pub event-pass : (x : NodeEvent) (fails : Bool) → coord_can script w.coord x ≡ true → SaidTo w x → Passes (coordinator.on_event script w.coord x fails)
  event-pass (event.Deliver from envelope) fails e d = message-pass from fails envelope.message d
  event-pass (event.Start s) fails e d = start-pass s (idle-first s _ e) (next_line script w.coord s)
  event-pass (event.End s) fails e d = end-pass s (idle-first s _ e) (session_of w.coord s).state.block
  event-pass (event.Resend i (Some g)) fails e d = again-pass i g.0 (awaited w.coord g i) refl
  event-pass (event.Resend i None) fails e d = by_test (awaits_graph w.coord i)
    where
      by_test : (b : Bool) → Passes (resends w.coord i (if b then Some (message.Collect w.coord.rounds) else None))
      by_test true = plain (resends w.coord i (Some (message.Collect w.coord.rounds))) (tt, tt) tt
      by_test false = rest
  event-pass (event.Resume g) fails e d = resumes-pass g.0 (going-out script w k g e).live (wait_of w.coord.locks g) (w.coord.works g.0).waiting
  event-pass event.Round fails e d = begins-round-pass
