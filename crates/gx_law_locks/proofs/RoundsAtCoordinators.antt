-- What the coordinator's rule leaves of rounds: all but a graph, a round's beginning and its requests sent again changes nothing that
-- is held of them.
use Rattle.std.proofs.Common.{◌≡◌, ℕ, List, [], ◌∷◌, Option, Some, None, Result, Ok, Err, Bool, true, false, refl, sym, subst, if◌then◌else◌, ◌==◌, ◌&&◌, eqb}
use Rattle.gx_ids.specs.declared.ids.Cid.{Cid}
use Rattle.gx_ids.specs.declared.ids.Gxid.{Gxid}
use Rattle.gx_ids.specs.declared.ids.Node.{Node}
use Rattle.gx_ids.specs.declared.ids.SessionId.{SessionId}
use Rattle.gx_tree.specs.declared.part.Part.{Part}
use Rattle.gx_tree.specs.declared.stmt.Level.{Level}
use Rattle.gx_tree.specs.declared.stmt.Level.TheVariants.{ReadCommitted}
use Rattle.gx_tree.specs.declared.stmt.Stmt.{Stmt}
use Rattle.gx_tree.specs.declared.stmt.Stmt.TheVariants as stmt
use Rattle.gx_dsnap.specs.declared.snapshot.Snapshot.{Snapshot}
use Rattle.gx_dtx.specs.Nodes.{has}
use Rattle.gx_dtx.specs.Rules.{Turn, awaited_order, on_abort, on_commit, on_reply}
use Rattle.gx_dtx.specs.declared.order.Order.{Order}
use Rattle.gx_dtx.specs.declared.outcome.Outcome.{Outcome}
use Rattle.gx_dtx.specs.declared.outcome.Outcome.TheVariants as outcome
use Rattle.gx_meaning.specs.Plan.{plan_of}
use Rattle.gx_meaning.specs.declared.fault.ArithFault.{ArithFault}
use Rattle.gx_meaning.specs.declared.piece.Piece.{Piece}
use Rattle.gx_msg.specs.declared.message.Envelope.{Envelope}
use Rattle.gx_msg.specs.declared.message.Message.{Message}
use Rattle.gx_msg.specs.declared.message.Message.TheVariants as message
use Rattle.gx_msg.specs.declared.message.Out.{Out}
use Rattle.gx_msg.specs.declared.reply.Cause.{Cause}
use Rattle.gx_msg.specs.declared.reply.Reply.{Reply}
use Rattle.gx_msg.specs.declared.reply.Reply.TheVariants as reply
use Rattle.gx_script.specs.Session.{idle_outside, line_step}
use Rattle.gx_script.specs.declared.Script.{Script}
use Rattle.gx_script.specs.declared.line_step.LineStep.{LineStep}
use Rattle.gx_script.specs.declared.line_step.LineStep.TheVariants as step
use Rattle.gx_script.specs.declared.state.Block.{Block}
use Rattle.gx_script.specs.declared.state.Block.TheVariants as block
use Rattle.gx_store.specs.declared.answer.Refused.{Refused}
use Rattle.gx_store.specs.declared.answer.Refused.TheVariants.{Victim}
use Rattle.gx_store.specs.declared.answer.StmtAnswer.{StmtAnswer}
use Rattle.gx_store.specs.declared.answer.StmtAnswer.TheVariants as told
use Rattle.gx_store.specs.declared.mark.Mark.{Mark}
use Rattle.gx_store.specs.declared.mark.Mark.TheVariants as mark
use Rattle.gx_store.specs.declared.node.NodeEvent.{NodeEvent}
use Rattle.gx_store.specs.declared.node.NodeEvent.TheVariants as event
use Rattle.gx_store.specs.Refusals.{the_coordinator}
use Rattle.gx_store.specs.Writes.{dist_of}
use Rattle.gx_locks.specs.Locks.{Locks, resumed, wait_of}
use Rattle.gx_waits.specs.Claims.{is_clear}
use Rattle.gx_waits.specs.declared.claim.Claim.{Claim}
use Rattle.gx_waits.specs.declared.graph.LocalGraph.{LocalGraph}
use Rattle.gx_rules.specs.AtCoordinator.{answer_mark, answers, answers_at_once, awaited_collect, begins, behind, cancels, command_order, commits, completes, dispatches, ends_in, failure_marks, fault_mark, follows, goes, goes_on, goes_on_locked, if_granted, is_awaited, is_committed, is_refused, next_cid, on_answer, on_done, on_event, on_failed, on_line, on_message, on_status, order_to, orders_of, reads_by, reads_for, reason_of, requests, resends, resumes, rolls_back, starts, starts_line, status_order, table_of, takes_done, Reading}
use Rattle.gx_store.specs.Locks.{table_lock}
use Rattle.gx_rules.specs.Coordinators.{Command, Coord, CoordTurn, Work, new_work, no_work, rests, session_of, with_state, with_work, work_of}
use Rattle.gx_rules.specs.Fits.{fits_part}
use Rattle.gx_rules.specs.Locks.{hold_mark, release_marks, with_hold}
use Rattle.gx_rules.specs.Maps.{with_at}
use Rattle.gx_rules.specs.Rounds.{begins_round, on_graph}
use Rattle.gx_rules.proofs.Rounds.{cancel-ways}
use Rattle.gx_law_order.proofs.Lists.{each_append}
use Rattle.gx_law_order.specs.Lists.{Each}
use Rattle.gx_law_order.proofs.Releases.{each-released}
use Rattle.gx_law_locks.proofs.Calls.{abort-own, commit-own, reply-own}
use Rattle.gx_law_locks.proofs.Silent.{AreOfOne, OfOne, Silent, order-of-one}

-- what a command has sent is of its transaction
abbrev pub IsOfOne : Option Command → Type 0
IsOfOne None = Unit {0}
IsOfOne (Some k) = AreOfOne k.orders

abbrev pub AreWorksOfOne : (ℕ → Work) → Type 0
AreWorksOfOne works = (g : ℕ) → IsOfOne (works g).command

-- a coordinator that holds the same of rounds
pub record IsLike (c d : Coord) : Type 0 where
  pub rounds : d.rounds ≡ c.rounds
  pub reports : d.reports ≡ c.reports
  pub place : d.locks.node ≡ c.locks.node
  pub works : AreWorksOfOne d.works

-- it holds of rounds what it has held, says nothing of them, and sends what is of transactions alone
pub record IsQuiet (c : Coord) (turn : CoordTurn) : Type 0 where
  pub coord : IsLike c turn.coord
  pub marks : Each Silent turn.marks
  pub outs : AreOfOne turn.outs

-- an event that neither brings a graph, nor asks for one, nor begins a round
abbrev pub NoGraph : Message → Type 0
NoGraph (message.Graph round graph) = ⊥
NoGraph _ = Unit {0}

abbrev pub HearsNone : NodeEvent → Type 0
HearsNone (event.Deliver from envelope) = NoGraph envelope.message
HearsNone (event.Resend i None) = ⊥
HearsNone event.Round = ⊥
HearsNone _ = Unit {0}

module _ (c : Coord) where
  abbrev Like : Coord → Type 0
  Like d = IsLike c d

  abbrev Quiet : CoordTurn → Type 0
  Quiet turn = IsQuiet c turn

  work_at : (works : ℕ → Work) (g : ℕ) (w : Work) → AreWorksOfOne works → IsOfOne w.command → AreWorksOfOne (with_at works g w)
  work_at works g w f h j = by_test (eqb j g)
    where
      by_test : (b : Bool) → IsOfOne (if b then w else works j).command
      by_test true = h
      by_test false = f j

  like-with : (d : Coord) (g : Gxid) (w : Work) → Like d → IsOfOne w.command → Like (with_work d g w)
  like-with d g w e h = record { rounds = e.rounds; reports = e.reports; place = e.place; works = work_at d.works g.0 w e.works h }

  rest : (d : Coord) → Like d → Quiet (rests d)
  rest d e = record { coord = e; marks = tt; outs = tt }

  back : (locks : Locks) (g : Gxid) → Each Silent (release_marks the_coordinator locks g)
  back locks g = each-released Silent the_coordinator locks g (λ claim. tt)

  committed : (d : Coord) (g : Gxid) (turn : Turn) → Like d → AreOfOne turn.out.outs → Quiet (is_committed d g turn)
  committed d g turn e o =
      record {
        coord = record { rounds = e.rounds; reports = e.reports; place = e.place; works = work_at d.works g.0 no_work e.works tt };
        marks = (tt, (tt, back d.locks g));
        outs = o;
      }

  refused : (d : Coord) (g : Gxid) (turn : Turn) (why : List Mark) (reason : Refused) → Like d → AreOfOne turn.out.outs → Each Silent why → Quiet (is_refused d g turn why reason)
  refused d g turn why reason e o m =
      record {
        coord = record { rounds = e.rounds; reports = e.reports; place = e.place; works = work_at d.works g.0 no_work e.works tt };
        marks = each_append Silent why _ m (tt, (tt, back d.locks g));
        outs = o;
      }

  rolled : (d : Coord) (g : Gxid) (marks : List Mark) (turn : Turn) → Like d → AreOfOne turn.out.outs → Each Silent marks → Quiet (rolls_back d g marks turn)
  rolled d g marks turn e o m =
      record {
        coord = record { rounds = e.rounds; reports = e.reports; place = e.place; works = work_at d.works g.0 no_work e.works tt };
        marks = (tt, each_append Silent marks _ m (back d.locks g));
        outs = o;
      }

  failure : (i : Node) (g : Gxid) → Each Silent (failure_marks i g)
  failure i g = by_test (i.0 == 0)
    where
      by_test : (b : Bool) → Each Silent (if b then mark.JournalFailed the_coordinator g ∷ [] else [])
      by_test true = (tt, tt)
      by_test false = tt

  same-table : (d : Coord) (turn : Turn) (marks : List Mark) → Like d → AreOfOne turn.out.outs → Each Silent marks
      → Quiet (record { coord = record d { table = turn.table }; marks = marks; outs = turn.out.outs; item = None })
  same-table d turn marks e o m = record { coord = record { rounds = e.rounds; reports = e.reports; place = e.place; works = e.works }; marks = m; outs = o }

  follow : (d : Coord) (g : Gxid) (turn : Turn) (o : Outcome) → Like d → AreOfOne turn.out.outs → Quiet (follows d g turn o)
  follow d g turn outcome.Pending e o = same-table d turn [] e o tt
  follow d g turn outcome.Decided e o = same-table d turn (mark.Decided g ∷ []) e o (tt, tt)
  follow d g turn outcome.Committed e o = committed d g turn e o
  follow d g turn (outcome.Refused i) e o = refused d g turn (failure_marks i g) _ e o (failure i g)
  follow d g turn outcome.Ended e o = same-table d turn [] e o tt

  commit : (d : Coord) (g : Gxid) → Like d → Quiet (commits d g)
  commit d g e = follow d g (on_commit d.table g (work_of d g).writers) (on_commit d.table g (work_of d g).writers).out.outcome e (commit-own d.table g (work_of d g).writers)

  -- COMMANDS
  record IsRead (r : Reading) : Type 0 where
    coord : Like r.coord
    marks : Each Silent r.marks

  read_by : (d : Coord) (g : Gxid) (cid : Cid) (w : Work) (x : Option Snapshot) → Like d → IsOfOne w.command → IsRead (reads_by d g cid w x)
  read_by d g cid w None e h = record { coord = record { rounds = e.rounds; reports = e.reports; place = e.place; works = work_at d.works g.0 _ e.works h }; marks = (tt, tt) }
  read_by d g cid w (Some x) e h = record { coord = e; marks = tt }

  read_for : (d : Coord) (g : Gxid) (cid : Cid) (w : Work) (line : Stmt) → Like d → IsOfOne w.command → IsRead (reads_for d g cid w line)
  read_for d g cid w (stmt.Lock table mode) e h = record { coord = e; marks = tt }
  read_for d g cid w (stmt.Begin level) e h = read_by d g cid w w.snapshot e h
  read_for d g cid w stmt.Commit e h = read_by d g cid w w.snapshot e h
  read_for d g cid w stmt.Rollback e h = read_by d g cid w w.snapshot e h
  read_for d g cid w (stmt.Select q) e h = read_by d g cid w w.snapshot e h
  read_for d g cid w (stmt.Insert t x) e h = read_by d g cid w w.snapshot e h
  read_for d g cid w (stmt.Update t x y) e h = read_by d g cid w w.snapshot e h
  read_for d g cid w (stmt.Delete t x) e h = read_by d g cid w w.snapshot e h

  fault : (g : Gxid) (cid : Cid) (line : Stmt) → Each Silent (fault_mark g cid line)
  fault g cid (stmt.Insert t x) = (tt, tt)
  fault g cid (stmt.Begin level) = tt
  fault g cid stmt.Commit = tt
  fault g cid stmt.Rollback = tt
  fault g cid (stmt.Select q) = tt
  fault g cid (stmt.Update t x y) = tt
  fault g cid (stmt.Delete t x) = tt
  fault g cid (stmt.Lock t m) = tt

  orders-are : (g : Gxid) (cid : Cid) (level : Level) (x : Option Snapshot) (h : Gxid) (pieces : List Piece) → AreOfOne (orders_of g cid level x h pieces)
  orders-are g cid level x h [] = tt
  orders-are g cid level x h (p ∷ ps) = (tt, orders-are g cid level x h ps)

  go : (g : Gxid) (cid : Cid) (line : Stmt) (r : Reading) (plan : Result (List Piece) ArithFault) → IsRead r → Quiet (goes g cid line r plan)
  go g cid line r (Ok pieces) e =
      record {
        coord = record { rounds = e.coord.rounds; reports = e.coord.reports; place = e.coord.place; works = work_at r.coord.works g.0 _ e.coord.works (orders-are g cid _ _ _ pieces) };
        marks = e.marks;
        outs = orders-are g cid _ _ _ pieces;
      }
  go g cid line r (Err f) e = refused r.coord g (on_abort r.coord.table g) _ _ e.coord (abort-own r.coord.table g) (each_append Silent r.marks _ e.marks (fault g cid line))

  module _ (script : Script) where
    go_locked : (d : Coord) (g : Gxid) (line : Stmt) → Like d → Quiet (goes_on_locked script d g line)
    go_locked d g line e =
        let cid : Cid = next_cid (work_of d g) in
        go g cid line (reads_for d g cid (work_of d g) line) (plan_of script.segments (dist_of script.tables (table_of line)) g cid line) (read_for d g cid (work_of d g) line e (e.works g.0))

    go_held : (d : Coord) (g : Gxid) (line : Stmt) (locks : Locks) (wanted : Claim) → Like d → locks.node ≡ c.locks.node
        → Quiet (behind (hold_mark the_coordinator wanted ∷ []) (goes_on_locked script (record d { locks = locks }) g line))
    go_held d g line locks wanted e p =
        let x = go_locked (record d { locks = locks }) g line (record { rounds = e.rounds; reports = e.reports; place = p; works = e.works }) in
        record { coord = x.coord; marks = (tt, x.marks); outs = x.outs }

    request : (d : Coord) (g : Gxid) (line : Stmt) (o : Option Claim) → Like d → Quiet (requests script d g line o)
    request d g line None e = go_locked d g line e
    request d g line (Some wanted) e = by_test (is_clear d.locks.holds d.locks.waits wanted)
      where
        by_test : (b : Bool) → Quiet (if_granted script d g line wanted b)
        by_test true = go_held d g line (with_hold d.locks wanted) wanted e e.place
        by_test false =
            record { coord = record { rounds = e.rounds; reports = e.reports; place = e.place; works = work_at d.works g.0 _ e.works (e.works g.0) }; marks = (tt, tt); outs = tt }

    dispatch : (d : Coord) (g : Gxid) (line : Stmt) → Like d → Quiet (dispatches script d g line)
    dispatch d g line e = request d g line (table_lock script g line) e

    resume : (d : Coord) (g : Gxid) (o : Option Claim) (line : Option Stmt) → Like d → Quiet (resumes script d g o line)
    resume d g None line e = rest d e
    resume d g (Some wanted) None e = rest d e
    resume d g (Some wanted) (Some line) e =
        let w : Work = record (work_of d g) { waiting = None } in
        go_held (with_work d g w) g line (resumed d.locks g (Some wanted)) wanted (like-with d g w e (e.works g.0)) e.place

    -- LINES
    begin : (d : Coord) (s : SessionId) (level : Level) → Like d → Like (begins d s level)
    begin d s level e = record { rounds = e.rounds; reports = e.reports; place = e.place; works = work_at d.works d.table.next.0 (new_work s level) e.works tt }

    at_once : (d : Coord) (s : SessionId) (a : StmtAnswer) → Like d → Quiet (answers_at_once d s a)
    at_once d s a e = record { coord = e; marks = (tt, tt); outs = tt }

    line_done : (d : Coord) (s : SessionId) (line : Stmt) (asked : LineStep) → Like d → Quiet (on_line script d s line asked)
    line_done d s line (step.Answer plain) e = at_once d s _ e
    line_done d s line step.InFailedBlock e = at_once d s _ e
    line_done d s line step.NotInBlock e = at_once d s _ e
    line_done d s line (step.BeginBlock level) e = record { coord = begin d s level e; marks = (tt, (tt, tt)); outs = tt }
    line_done d s line step.CommitBlock e = commit d (session_of d s).transaction e
    line_done d s line step.RollbackBlock e =
        rolled d (session_of d s).transaction (answer_mark d s told.Rollback ∷ []) (on_abort d.table (session_of d s).transaction) e (abort-own d.table (session_of d s).transaction) (tt, tt)
    line_done d s line (step.Command true) e =
        let x = dispatch (begins d s ReadCommitted) d.table.next line (begin d s ReadCommitted e) in
        record { coord = x.coord; marks = (tt, x.marks); outs = x.outs }
    line_done d s line (step.Command false) e = dispatch d (session_of d s).transaction line e

    start : (d : Coord) (s : SessionId) (line : Option Stmt) → Like d → Quiet (starts script d s line)
    start d s None e = rest d e
    start d s (Some line) e =
        let asked = line_step (session_of d s).state.block line in
        line_done (starts_line d s asked) s line asked (record { rounds = e.rounds; reports = e.reports; place = e.place; works = e.works })

    end : (d : Coord) (s : SessionId) (b : Block) → Like d → Quiet (ends_in d s b)
    end d s (block.Open level) e =
        rolled (with_state d s idle_outside) (session_of d s).transaction [] (on_abort d.table (session_of d s).transaction) (record { rounds = e.rounds; reports = e.reports; place = e.place; works = e.works })
        (abort-own d.table (session_of d s).transaction) tt
    end d s block.Failed e = record { coord = record { rounds = e.rounds; reports = e.reports; place = e.place; works = e.works }; marks = tt; outs = tt }
    end d s block.Outside e = rest d e

    -- ANSWERS OF SEGMENTS
    complete : (d : Coord) (g : Gxid) (b : Block) → Like d → Quiet (completes d g b)
    complete d g block.Outside e = commit d g e
    complete d g (block.Open level) e = answer d g e
      where
        answer : (d : Coord) (g : Gxid) → Like d → Quiet (answers d g (work_of d g))
        answer d g e = record { coord = record { rounds = e.rounds; reports = e.reports; place = e.place; works = work_at d.works g.0 _ e.works tt }; marks = (tt, tt); outs = tt }
    complete d g block.Failed e = record { coord = record { rounds = e.rounds; reports = e.reports; place = e.place; works = work_at d.works g.0 _ e.works tt }; marks = (tt, tt); outs = tt }

    go_on : (d : Coord) (g : Gxid) (left : List Node) → Like d → Quiet (goes_on d g left)
    go_on d g [] e = complete d g _ e
    go_on d g (i ∷ is) e = rest d e

    done : (d : Coord) (g : Gxid) (i : Node) (cid : Cid) (wrote : Bool) (count : ℕ) (part : Part) (k : Option Command) → Like d → IsOfOne k → Quiet (on_done d g i cid wrote count part k)
    done d g i cid wrote count part None e h = rest d e
    done d g i cid wrote count part (Some k) e h = by_test (is_awaited k i cid && fits_part k.stmt part)
      where
        by_test : (b : Bool) → Quiet (if b then takes_done d g i wrote count part k else rests d)
        by_test true = go_on _ g _ (like-with d g _ e h)
        by_test false = rest d e

    failed : (d : Coord) (g : Gxid) (i : Node) (cid : Cid) (cause : Cause) (k : Option Command) → Like d → Quiet (on_failed d g i cid cause k)
    failed d g i cid cause None e = rest d e
    failed d g i cid cause (Some k) e = by_test (is_awaited k i cid)
      where
        by_test : (b : Bool) → Quiet (if b then is_refused d g (on_abort d.table g) [] (reason_of cause) else rests d)
        by_test true = refused d g (on_abort d.table g) [] (reason_of cause) e (abort-own d.table g) tt
        by_test false = rest d e

    status : (d : Coord) (g : Gxid) (i : Node) (r : Reply) (fails : Bool) → Like d → Quiet (on_status d g i r fails)
    status d g i r fails e =
        let x = follow d g (on_reply d.table g i r fails) (on_reply d.table g i r fails).out.outcome e (reply-own d.table g i r fails) in
        record { coord = x.coord; marks = x.marks; outs = x.outs }

    answered : (d : Coord) (g : Gxid) (i : Node) (fails : Bool) (r : Reply) → Like d → Quiet (on_answer d g i fails r)
    answered d g i fails (reply.Done cid wrote count part) e = done d g i cid wrote count part _ e (e.works g.0)
    answered d g i fails (reply.Failed cid cause) e = failed d g i cid cause _ e
    answered d g i fails reply.Prepared e = status d g i _ fails e
    answered d g i fails reply.Committed e = status d g i _ fails e
    answered d g i fails reply.Jfault e = status d g i _ fails e
    answered d g i fails reply.Again e = status d g i _ fails e
    answered d g i fails reply.Restarted e = status d g i _ fails e
    answered d g i fails reply.Aborted e = status d g i _ fails e
    answered d g i fails reply.Forgotten e = status d g i _ fails e

    -- MESSAGES SENT AGAIN
    abbrev Own : Option Message → Type 0
    Own None = Unit {0}
    Own (Some m) = OfOne m

    again : (d : Coord) (i : Node) (m : Option Message) → Like d → Own m → Quiet (resends d i m)
    again d i None e h = rest d e
    again d i (Some m) e h = record { coord = e; marks = tt; outs = (h, tt) }

    order-own : (i : Node) (outs : List Out) → AreOfOne outs → Own (order_to i outs)
    order-own i [] e = tt
    order-own i (o ∷ outs) e = by_test (o.node.0 == i.0) (order-own i outs e.1)
      where
        by_test : (b : Bool) → Own (order_to i outs) → Own (if b then Some o.message else order_to i outs)
        by_test true later = e.0
        by_test false later = later

    status-own : (g : Gxid) (o : Option Order) → Own (status_order g o)
    status-own g None = tt
    status-own g (Some o) = order-of-one o g

    command-own : (k : Option Command) (i : Node) (other : Option Message) → IsOfOne k → Own other → Own (command_order k i other)
    command-own None i other h e = e
    command-own (Some k) i other h e = by_test (has i k.awaited)
      where
        by_test : (b : Bool) → Own (if b then order_to i k.orders else other)
        by_test true = order-own i k.orders h
        by_test false = e

    -- ALL EVENTS
    -- a graph, a round's beginning and its requests sent again apart
    pub coord-ways : (P : CoordTurn → Type 0) (x : NodeEvent) (fails : Bool) → AreWorksOfOne c.works → ((turn : CoordTurn) → HearsNone x → IsQuiet c turn → P turn)
        → ((from : Node) (envelope : Envelope) (round : ℕ) (graph : LocalGraph) → x ≡ event.Deliver from envelope → envelope.message ≡ message.Graph round graph → P (on_graph c from round graph))
        → ((i : Node) → x ≡ event.Resend i None → P (resends c i (awaited_collect c i))) → (x ≡ event.Round → P (begins_round script c)) → P (on_event script c x fails)
    coord-ways P x fails works quiet heard asked begun = by_event x refl
      where
        same : IsLike c c
        same = record { rounds = refl; reports = refl; place = refl; works = works }

        other : (from : Node) (envelope : Envelope) → x ≡ event.Deliver from envelope → (m : Message) → envelope.message ≡ m → NoGraph m → HearsNone x
        other from envelope e m f none = subst HearsNone (sym e) (subst NoGraph (sym f) none)

        by_message : (from : Node) (envelope : Envelope) → x ≡ event.Deliver from envelope → (m : Message) → envelope.message ≡ m → P (on_message c from fails m)
        by_message from envelope e (message.Graph round graph) f = heard from envelope round graph e f
        by_message from envelope e message.Up f = quiet _ (other from envelope e message.Up f tt) (rest _ same)
        by_message from envelope e (message.Answer g r) f = quiet _ (other from envelope e (message.Answer g r) f tt) (answered c g from fails r same)
        by_message from envelope e (message.Exec g c' level snapshot h y) f = quiet _ (other from envelope e (message.Exec g c' level snapshot h y) f tt) (rest _ same)
        by_message from envelope e (message.Prepare g) f = quiet _ (other from envelope e (message.Prepare g) f tt) (rest _ same)
        by_message from envelope e (message.Commit g) f = quiet _ (other from envelope e (message.Commit g) f tt) (rest _ same)
        by_message from envelope e (message.CommitPrepared g) f = quiet _ (other from envelope e (message.CommitPrepared g) f tt) (rest _ same)
        by_message from envelope e (message.Abort g) f = quiet _ (other from envelope e (message.Abort g) f tt) (rest _ same)
        by_message from envelope e (message.Forget g) f = quiet _ (other from envelope e (message.Forget g) f tt) (rest _ same)
        by_message from envelope e (message.Collect round) f = quiet _ (other from envelope e (message.Collect round) f tt) (rest _ same)

        by_event : (y : NodeEvent) → x ≡ y → P (on_event script c y fails)
        by_event (event.Deliver from envelope) e = by_message from envelope e envelope.message refl
        by_event (event.Resume g) e = quiet _ (subst HearsNone (sym e) tt) (resume c g (wait_of c.locks g) (work_of c g).waiting same)
        by_event (event.Start s) e = quiet _ (subst HearsNone (sym e) tt) (start c s _ same)
        by_event (event.End s) e = quiet _ (subst HearsNone (sym e) tt) (end c s _ same)
        by_event (event.Resend i (Some g)) e =
            quiet _ (subst HearsNone (sym e) tt) (again c i _ same (command-own (work_of c g).command i _ (works g.0) (status-own g (awaited_order c.table g i))))
        by_event (event.Resend i None) e = asked i e
        by_event event.Round e = begun e

  pub cancel-quiet : (g : Gxid) → AreWorksOfOne c.works → IsQuiet c (cancels c g)
  cancel-quiet g works =
      let same : IsLike c c = record { rounds = refl; reports = refl; place = refl; works = works } in
      cancel-ways Quiet c g (rest c same) (λ live busy. refused c g (on_abort c.table g) [] (Victim c.rounds) same (abort-own c.table g) tt)
