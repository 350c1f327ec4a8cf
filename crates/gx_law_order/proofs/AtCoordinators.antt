-- What the coordinator sends goes to segments, and its marks stand at the coordinator.
use Rattle.std.proofs.Common.{◌≡◌, ◌≤◌, ℕ, suc, ◌+◌, List, [], ◌∷◌, ◌∙◌, length, Option, Some, None, Result, Ok, Err, Bool, true, false, refl, if◌then◌else◌, ◌==◌, ◌&&◌, arith, eqb}
use Rattle.std.proofs.lemmas.Bool.Decides.{nat_tests}
use Rattle.std.specs.Prelude.{is_none, is_some}
use Rattle.std.proofs.lemmas.List.{length-replicate}
use Rattle.std.proofs.lemmas.Bool.{and_parts, eqb-true}
use Rattle.gx_ids.specs.declared.ids.Cid.{Cid}
use Rattle.gx_ids.specs.declared.ids.Gxid.{Gxid}
use Rattle.gx_ids.specs.declared.ids.Node.{Node}
use Rattle.gx_ids.specs.declared.ids.SessionId.{SessionId}
use Rattle.gx_tree.specs.declared.part.Part.{Part}
use Rattle.gx_tree.specs.declared.stmt.Level.{Level}
use Rattle.gx_tree.specs.declared.stmt.Level.TheVariants.{ReadCommitted, RepeatableRead}
use Rattle.gx_tree.specs.declared.stmt.Stmt.{Stmt}
use Rattle.gx_tree.specs.declared.stmt.Stmt.TheVariants as stmt
use Rattle.gx_dsnap.specs.declared.snapshot.Snapshot.{Snapshot}
use Rattle.gx_dtx.specs.Nodes.{has}
use Rattle.gx_dtx.specs.Rules.{Turn, on_abort, on_reply, enlisted, order_found, order_in}
use Rattle.gx_dtx.specs.Table.{Table, find_txn}
use Rattle.gx_dtx.specs.declared.order.Order.{Order}
use Rattle.gx_dtx.specs.declared.outcome.Outcome.{Outcome}
use Rattle.gx_dtx.specs.declared.outcome.Outcome.TheVariants as outcome
use Rattle.gx_dtx.specs.declared.phase.Phase.{Phase}
use Rattle.gx_dtx.specs.declared.phase.Phase.TheVariants.{Active, Preparing, CommittingOne, CommittingTwo, Ended, Aborting}
use Rattle.gx_dtx.specs.declared.txn.Txn.{Txn}
use Rattle.gx_detect.proofs.Places.{length-noted_from}
use Rattle.gx_detect.specs.Reports.{lacks_from}
use Rattle.gx_detect.specs.Rounds.{AreOfSegments, lacks}
use Rattle.gx_meaning.specs.declared.fault.ArithFault.{ArithFault}
use Rattle.gx_msg.specs.declared.message.Message.{Message}
use Rattle.gx_msg.specs.declared.message.Message.TheVariants as message
use Rattle.gx_msg.specs.declared.reply.Cause.{Cause}
use Rattle.gx_msg.specs.declared.reply.Reply.{Reply}
use Rattle.gx_msg.specs.declared.reply.Reply.TheVariants as reply
use Rattle.gx_meaning.specs.declared.piece.Piece.{Piece}
use Rattle.gx_script.specs.declared.Script.{Script}
use Rattle.gx_script.specs.Session.{idle_outside, line_step}
use Rattle.gx_script.specs.declared.line_step.LineStep.{LineStep}
use Rattle.gx_script.specs.declared.line_step.LineStep.TheVariants as step
use Rattle.gx_script.specs.declared.state.Block.{Block}
use Rattle.gx_script.specs.declared.state.Block.TheVariants as block
use Rattle.gx_store.specs.declared.answer.Refused.{Refused}
use Rattle.gx_store.specs.declared.answer.StmtAnswer.{StmtAnswer}
use Rattle.gx_store.specs.declared.mark.Mark.{Mark}
use Rattle.gx_store.specs.declared.node.NodeEvent.{NodeEvent}
use Rattle.gx_store.specs.declared.answer.StmtAnswer.TheVariants as told
use Rattle.gx_store.specs.declared.node.NodeEvent.TheVariants as event
use Rattle.gx_store.specs.Refusals.{the_coordinator}
use Rattle.gx_store.specs.Writes.{dist_of}
use Rattle.gx_rules.specs.AtCoordinator.{Reading, cancels, answers, answers_at_once, awaited, begins, behind, command_order, commits, completes, dispatches, ends_in, enlisted_all, failure_marks, fault_mark, follows, goes, goes_on, goes_out, is_awaited, is_committed, is_refused, next_cid, nodes_in, on_answer, on_done, on_event, on_failed, on_line, on_message, on_status, order_of, order_to, orders_of, reads_by, reads_for, resends, rolls_back, starts, starts_line, status_order, table_of, takes_done, takes_snapshot, unless_kept, writers_with, goes_on_locked, if_granted, requests, resumes, waits_for, answer_mark}
use Rattle.gx_store.specs.Locks.{table_lock}
use Rattle.gx_rules.specs.Coordinators.{Command, Coord, CoordTurn, Session, Work, new_work, no_work, rests, session_of, with_session, with_state, with_work, work_of}
use Rattle.gx_rules.specs.Fits.{fits_part}
use Rattle.gx_rules.specs.Maps.{with_at}
use Rattle.gx_law_order.proofs.AtSegments.{PlainAt}
use Rattle.gx_law_order.proofs.Lists.{each_append, each_map}
use Rattle.gx_law_order.specs.Lists.{Each}
use Rattle.gx_law_order.proofs.Places.{IsAtOneOf, PlanIn, collects-each, plan_in}
use Rattle.gx_law_order.specs.Places.{AreIn, IsOneOf, OutIn, PhaseIn, TableIn}
use Rattle.gx_law_order.proofs.Tables.{FoundIn, TurnIn, begun_in, enlisted_in, find_in, has_in, live_in, on_abort_in, on_commit_in, on_reply_in, with_in, without_in}
use Rattle.gx_rules.specs.Locks.{hold_mark, release_marks, with_hold}
use Rattle.gx_locks.specs.Locks.{Locks, resumed, wait_of}
use Rattle.gx_waits.specs.Claims.{is_clear}
use Rattle.gx_waits.specs.declared.claim.Claim.{Claim}
use Rattle.gx_waits.specs.declared.graph.LocalGraph.{LocalGraph}
use Rattle.gx_rules.specs.Rounds.{begins_round, noted_in, on_graph, with_report}
use Rattle.gx_rules.proofs.Rounds.{cancel-ways, graph-ways}
use Rattle.gx_law_order.proofs.Releases.{each-released}
use Rattle.gx_law_order.specs.Places.{CommandIn, CoordIn, UnderWay, WorkIn}

module _ (script : Script) where
  abbrev n : ℕ
  n = script.segments

  abbrev pub PlainHere : Mark → Type 0
  PlainHere m = PlainAt script the_coordinator m

  -- what an event keeps, and where what it does stands; `sent` is what was sent before it
  pub record CoordStays (sent : ℕ → ℕ) (turn : CoordTurn) : Type 0 where
    pub coord : CoordIn script turn.coord
    pub counts : turn.coord.sent ≡ sent
    pub marks : Each PlainHere turn.marks
    pub outs : Each (OutIn n) turn.outs

  none_in : WorkIn n no_work
  none_in = record { writers = tt; command = tt }

  work_at : (works : ℕ → Work) (g j : ℕ) (w : Work) → ((h : ℕ) → WorkIn n (works h)) → WorkIn n w → WorkIn n (with_at works g w j)
  work_at works g j w f h = at (eqb j g)
    where
      at : (b : Bool) → WorkIn n (if b then w else works j)
      at true = h
      at false = f j

  pub works_with : (c : Coord) (g : Gxid) (w : Work) → CoordIn script c → WorkIn n w → CoordIn script (with_work c g w)
  works_with c g w e h = record { table = e.table; works = λ j. work_at c.works g.0 j w e.works h; reports = e.reports }

  pub table_with : (c : Coord) (d : Table) → CoordIn script c → TableIn n d → CoordIn script (record c { table = d })
  table_with c d e h = record { table = h; works = e.works; reports = e.reports }

  pub state_with : (c : Coord) (s : SessionId) (x : Session) → CoordIn script c → CoordIn script (with_session c s x)
  state_with c s x e = record { table = e.table; works = e.works; reports = e.reports }

  rest : (c : Coord) → CoordIn script c → CoordStays c.sent (rests c)
  rest c e = record { coord = e; counts = refl; marks = tt; outs = tt }

  back_here : (locks : Locks) (g : Gxid) → Each PlainHere (release_marks the_coordinator locks g)
  back_here locks g = each-released PlainHere the_coordinator locks g (λ claim. refl)

  committed : (c : Coord) (g : Gxid) (turn : Turn) → CoordIn script c → TurnIn n turn → CoordStays c.sent (is_committed c g turn)
  committed c g turn e h =
      record { coord = record { table = h.table; works = λ j. work_at c.works g.0 j no_work e.works none_in; reports = e.reports }; counts = refl; marks = (refl, (refl, back_here c.locks g)); outs = h.outs }

  refused : (c : Coord) (g : Gxid) (turn : Turn) (why : List Mark) (reason : Refused) → CoordIn script c → TurnIn n turn → Each PlainHere why → CoordStays c.sent (is_refused c g turn why reason)
  refused c g turn why reason e h m =
      record { coord = record { table = h.table; works = λ j. work_at c.works g.0 j no_work e.works none_in; reports = e.reports }; counts = refl; marks = each_append PlainHere why _ m (refl, (refl, back_here c.locks g)); outs = h.outs }

  failure_in : (i : Node) (g : Gxid) → Each PlainHere (failure_marks i g)
  failure_in i g = at (i.0 == 0)
    where
      at : (b : Bool) → Each PlainHere (if b then Rattle.gx_store.specs.declared.mark.Mark.TheVariants.JournalFailed the_coordinator g ∷ [] else [])
      at true = (refl, tt)
      at false = tt

  follow : (c : Coord) (g : Gxid) (turn : Turn) (o : Outcome) → CoordIn script c → TurnIn n turn → CoordStays c.sent (follows c g turn o)
  follow c g turn outcome.Pending e h = record { coord = table_with c turn.table e h.table; counts = refl; marks = tt; outs = h.outs }
  follow c g turn outcome.Decided e h = record { coord = table_with c turn.table e h.table; counts = refl; marks = (refl, tt); outs = h.outs }
  follow c g turn outcome.Committed e h = committed c g turn e h
  follow c g turn (outcome.Refused i) e h = refused c g turn (failure_marks i g) _ e h (failure_in i g)
  follow c g turn outcome.Ended e h = record { coord = table_with c turn.table e h.table; counts = refl; marks = tt; outs = h.outs }

  commit : (c : Coord) (g : Gxid) → CoordIn script c → CoordStays c.sent (commits c g)
  commit c g e = let h = on_commit_in n c.table g (work_of c g).writers (e.works g.0).writers e.table in follow c g _ _ e h

  -- commands
  pub record ReadIn (sent : ℕ → ℕ) (r : Reading) : Type 0 where
    pub coord : CoordIn script r.coord
    pub counts : r.coord.sent ≡ sent
    pub marks : Each PlainHere r.marks

  snapshot_taken : (c : Coord) (g : Gxid) (cid : Cid) (w : Work) → CoordIn script c → WorkIn n w → ReadIn c.sent (takes_snapshot c g cid w)
  snapshot_taken c g cid w e h =
      record { coord = record { table = live_in n c.table g _ e.table; works = λ j. work_at c.works g.0 j _ e.works (record { writers = h.writers; command = h.command }); reports = e.reports }; counts = refl; marks = (refl, tt) }

  read_by : (c : Coord) (g : Gxid) (cid : Cid) (w : Work) (x : Option Snapshot) → CoordIn script c → WorkIn n w → ReadIn c.sent (reads_by c g cid w x)
  read_by c g cid w None e h = snapshot_taken c g cid w e h
  read_by c g cid w (Some x) e h = record { coord = e; counts = refl; marks = tt }

  read_for : (c : Coord) (g : Gxid) (cid : Cid) (w : Work) (line : Stmt) → CoordIn script c → WorkIn n w → ReadIn c.sent (reads_for c g cid w line)
  read_for c g cid w (stmt.Lock table mode) e h = record { coord = e; counts = refl; marks = tt }
  read_for c g cid w (stmt.Begin level) e h = read_by c g cid w w.snapshot e h
  read_for c g cid w stmt.Commit e h = read_by c g cid w w.snapshot e h
  read_for c g cid w stmt.Rollback e h = read_by c g cid w w.snapshot e h
  read_for c g cid w (stmt.Select q) e h = read_by c g cid w w.snapshot e h
  read_for c g cid w (stmt.Insert t x) e h = read_by c g cid w w.snapshot e h
  read_for c g cid w (stmt.Update t x y) e h = read_by c g cid w w.snapshot e h
  read_for c g cid w (stmt.Delete t x) e h = read_by c g cid w w.snapshot e h

  fault_in : (g : Gxid) (cid : Cid) (line : Stmt) → Each PlainHere (fault_mark g cid line)
  fault_in g cid (stmt.Insert t x) = (tt, tt)
  fault_in g cid (stmt.Begin level) = tt
  fault_in g cid stmt.Commit = tt
  fault_in g cid stmt.Rollback = tt
  fault_in g cid (stmt.Select q) = tt
  fault_in g cid (stmt.Update t x y) = tt
  fault_in g cid (stmt.Delete t x) = tt
  fault_in g cid (stmt.Lock t m) = tt

  nodes_are : (pieces : List Piece) → Each (IsAtOneOf n) pieces → AreIn n (nodes_in pieces)
  nodes_are pieces e = each_map (IsOneOf n) (λ piece. piece.node) pieces e

  orders_are : (g : Gxid) (cid : Cid) (level : Level) (x : Option Snapshot) (h : Gxid) (pieces : List Piece) → Each (IsAtOneOf n) pieces → Each (OutIn n) (orders_of g cid level x h pieces)
  orders_are g cid level x h pieces e = each_map (OutIn n) (order_of g cid level x h) pieces e

  all_enlisted : (g : Gxid) (nodes : List Node) (d : Table) → AreIn n nodes → TableIn n d → TableIn n (enlisted_all d g nodes)
  all_enlisted g [] d a e = e
  all_enlisted g (i ∷ is) d a e = all_enlisted g is (enlisted d g i) a.1 (enlisted_in n d g i a.0 e)

  go_out : (sent : ℕ → ℕ) (g : Gxid) (cid : Cid) (line : Stmt) (pieces : List Piece) (r : Reading) → ReadIn sent r → Each (IsAtOneOf n) pieces → CoordStays sent (goes_out g cid line pieces r)
  go_out sent g cid line pieces r e p =
      record {
        coord = record {
          table = all_enlisted g (nodes_in pieces) r.coord.table (nodes_are pieces p) e.coord.table;
          works = λ j. work_at r.coord.works g.0 j _ e.coord.works (record { writers = (e.coord.works g.0).writers; command = record { orders = orders_are g cid _ _ _ pieces p; awaited = nodes_are pieces p } });
          reports = e.coord.reports;
        };
        counts = e.counts;
        marks = e.marks;
        outs = orders_are g cid _ _ _ pieces p;
      }

  go : (sent : ℕ → ℕ) (g : Gxid) (cid : Cid) (line : Stmt) (r : Reading) (plan : Result (List Piece) ArithFault) → ReadIn sent r → PlanIn n plan → CoordStays sent (goes g cid line r plan)
  go sent g cid line r (Ok pieces) e p = go_out sent g cid line pieces r e p
  go sent g cid line r (Err f) e p =
      let x = refused r.coord g (on_abort r.coord.table g) _ _ e.coord (on_abort_in n r.coord.table g e.coord.table) (each_append PlainHere r.marks (fault_mark g cid line) e.marks (fault_in g cid line)) in
      record { coord = x.coord; counts = e.counts; marks = x.marks; outs = x.outs }

  module _ (some : 1 ≤ script.segments) where
    go_locked : (c : Coord) (g : Gxid) (line : Stmt) → CoordIn script c → CoordStays c.sent (goes_on_locked script c g line)
    go_locked c g line e =
        go c.sent g (next_cid (work_of c g)) line _ _ (read_for c g (next_cid (work_of c g)) (work_of c g) line e (e.works g.0))
        (plan_in n some (dist_of script.tables (table_of line)) g (next_cid (work_of c g)) line)

    -- with its table's lock
    go_held : (c : Coord) (g : Gxid) (line : Stmt) (locks : Locks) (wanted : Claim) → CoordIn script c → CoordStays c.sent (behind (hold_mark the_coordinator wanted ∷ []) (goes_on_locked script (record c { locks = locks }) g line))
    go_held c g line locks wanted e =
        let x = go_locked (record c { locks = locks }) g line (record { table = e.table; works = e.works; reports = e.reports }) in
        record { coord = x.coord; counts = x.counts; marks = (refl, x.marks); outs = x.outs }

    -- or it waits
    waits_here : (c : Coord) (g : Gxid) (line : Stmt) (wanted : Claim) → CoordIn script c → CoordStays c.sent (waits_for c g line wanted)
    waits_here c g line wanted e =
        record { coord = record { table = e.table; works = λ j. work_at c.works g.0 j _ e.works (record { writers = (e.works g.0).writers; command = (e.works g.0).command }); reports = e.reports }; counts = refl; marks = (refl, tt); outs = tt }

    request : (c : Coord) (g : Gxid) (line : Stmt) (o : Option Claim) → CoordIn script c → CoordStays c.sent (requests script c g line o)
    request c g line None e = go_locked c g line e
    request c g line (Some wanted) e = by_test (is_clear c.locks.holds c.locks.waits wanted)
      where
        by_test : (b : Bool) → CoordStays c.sent (if_granted script c g line wanted b)
        by_test true = go_held c g line (with_hold c.locks wanted) wanted e
        by_test false = waits_here c g line wanted e

    dispatch : (c : Coord) (g : Gxid) (line : Stmt) → CoordIn script c → CoordStays c.sent (dispatches script c g line)
    dispatch c g line e = request c g line (table_lock script g line) e

    -- a statement that has waited goes out with its lock
    resume : (c : Coord) (g : Gxid) (o : Option Claim) (line : Option Stmt) → CoordIn script c → CoordStays c.sent (resumes script c g o line)
    resume c g None line e = rest c e
    resume c g (Some wanted) None e = rest c e
    resume c g (Some wanted) (Some line) e =
        let w : Work = record (work_of c g) { waiting = None } in
        go_held (with_work c g w) g line (resumed c.locks g (Some wanted)) wanted (works_with c g w e (record { writers = (e.works g.0).writers; command = (e.works g.0).command }))

    -- lines
    begin : (c : Coord) (s : SessionId) (level : Level) → CoordIn script c → CoordIn script (begins c s level)
    begin c s level e = record { table = begun_in n c.table e.table; works = λ j. work_at c.works c.table.next.0 j (new_work s level) e.works (record { writers = tt; command = tt }); reports = e.reports }

    at_once : (c : Coord) (s : SessionId) (a : StmtAnswer) → CoordIn script c → CoordStays c.sent (answers_at_once c s a)
    at_once c s a e = record { coord = e; counts = refl; marks = (refl, tt); outs = tt }

    back : (c : Coord) (g : Gxid) (marks : List Mark) (turn : Turn) → CoordIn script c → TurnIn n turn → Each PlainHere marks → CoordStays c.sent (rolls_back c g marks turn)
    back c g marks turn e h m = record { coord = record { table = h.table; works = λ j. work_at c.works g.0 j no_work e.works none_in; reports = e.reports }; counts = refl; marks = (refl, each_append PlainHere marks _ m (back_here c.locks g)); outs = h.outs }

    line_done : (c : Coord) (s : SessionId) (line : Stmt) (asked : LineStep) → CoordIn script c → CoordStays c.sent (on_line script c s line asked)
    line_done c s line (step.Answer plain) e = at_once c s _ e
    line_done c s line step.InFailedBlock e = at_once c s _ e
    line_done c s line step.NotInBlock e = at_once c s _ e
    line_done c s line (step.BeginBlock level) e = record { coord = begin c s level e; counts = refl; marks = (refl, (refl, tt)); outs = tt }
    line_done c s line step.CommitBlock e = commit c (session_of c s).transaction e
    line_done c s line step.RollbackBlock e = back c (session_of c s).transaction (answer_mark c s told.Rollback ∷ []) _ e (on_abort_in n c.table (session_of c s).transaction e.table) (refl, tt)
    line_done c s line (step.Command true) e =
        let x = dispatch (begins c s ReadCommitted) c.table.next line (begin c s ReadCommitted e) in
        record { coord = x.coord; counts = x.counts; marks = (refl, x.marks); outs = x.outs }
    line_done c s line (step.Command false) e = dispatch c (session_of c s).transaction line e

    start : (c : Coord) (s : SessionId) (line : Option Stmt) → CoordIn script c → CoordStays c.sent (starts script c s line)
    start c s None e = rest c e
    start c s (Some line) e =
        let asked = line_step (session_of c s).state.block line in
        line_done (starts_line c s asked) s line asked (record { table = e.table; works = e.works; reports = e.reports })

    end : (c : Coord) (s : SessionId) (b : Block) → CoordIn script c → CoordStays c.sent (ends_in c s b)
    end c s (block.Open level) e =
        back (with_state c s idle_outside) (session_of c s).transaction [] _ (record { table = e.table; works = e.works; reports = e.reports }) (on_abort_in n c.table (session_of c s).transaction e.table) tt
    end c s block.Failed e = record { coord = record { table = e.table; works = e.works; reports = e.reports }; counts = refl; marks = tt; outs = tt }
    end c s block.Outside e = rest c e

    -- answers of segments
    writers_in : (wrote : Bool) (i : Node) (writers : List Node) → IsOneOf n i → AreIn n writers → AreIn n (writers_with wrote i writers)
    writers_in true i writers h e = with_in n i writers h e
    writers_in false i writers h e = e

    kept_table : (level : Level) (d : Table) (g : Gxid) → TableIn n d → TableIn n (unless_kept level d g)
    kept_table ReadCommitted d g e = live_in n d g None e
    kept_table RepeatableRead d g e = e

    answer : (c : Coord) (g : Gxid) (w : Work) → CoordIn script c → WorkIn n w → CoordStays c.sent (answers c g w)
    answer c g w e h =
        record {
          coord = record { table = kept_table w.level c.table g e.table; works = λ j. work_at c.works g.0 j _ e.works (record { writers = h.writers; command = tt }); reports = e.reports };
          counts = refl;
          marks = (refl, tt);
          outs = tt;
        }

    complete : (c : Coord) (g : Gxid) (b : Block) → CoordIn script c → CoordStays c.sent (completes c g b)
    complete c g block.Outside e = commit c g e
    complete c g (block.Open level) e = answer c g (work_of c g) e (e.works g.0)
    complete c g block.Failed e = answer c g (work_of c g) e (e.works g.0)

    go_on : (c : Coord) (g : Gxid) (left : List Node) → CoordIn script c → CoordStays c.sent (goes_on c g left)
    go_on c g [] e = complete c g _ e
    go_on c g (i ∷ is) e = rest c e

    done_taken : (c : Coord) (g : Gxid) (i : Node) (wrote : Bool) (count : ℕ) (part : Part) (k : Command) → CoordIn script c → CommandIn n k → IsOneOf n i → CoordStays c.sent (takes_done c g i wrote count part k)
    done_taken c g i wrote count part k e h a =
        go_on _ g _
        (works_with c g _ e (record { writers = writers_in wrote i (work_of c g).writers a (e.works g.0).writers; command = record { orders = h.orders; awaited = without_in n i k.awaited h.awaited } }))

    done : (c : Coord) (g : Gxid) (i : Node) (cid : Cid) (wrote : Bool) (count : ℕ) (part : Part) (k : Option Command) → CoordIn script c → UnderWay n k → CoordStays c.sent (on_done c g i cid wrote count part k)
    done c g i cid wrote count part None e h = rest c e
    done c g i cid wrote count part (Some k) e h = at (is_awaited k i cid && fits_part k.stmt part) refl
      where
        at : (b : Bool) → (is_awaited k i cid && fits_part k.stmt part) ≡ b → CoordStays c.sent (if b then takes_done c g i wrote count part k else rests c)
        at true f = done_taken c g i wrote count part k e h (has_in n i k.awaited h.awaited (and_parts _ _ (and_parts _ _ f).0).1)
        at false f = rest c e

    failed : (c : Coord) (g : Gxid) (i : Node) (cid : Cid) (cause : Cause) (k : Option Command) → CoordIn script c → CoordStays c.sent (on_failed c g i cid cause k)
    failed c g i cid cause None e = rest c e
    failed c g i cid cause (Some k) e = at (is_awaited k i cid)
      where
        at : (b : Bool) → CoordStays c.sent (if b then is_refused c g (on_abort c.table g) [] (Rattle.gx_rules.specs.AtCoordinator.reason_of cause) else rests c)
        at true = refused c g _ [] _ e (on_abort_in n c.table g e.table) tt
        at false = rest c e

    status : (c : Coord) (g : Gxid) (i : Node) (r : Reply) (fails : Bool) → CoordIn script c → CoordStays c.sent (on_status c g i r fails)
    status c g i r fails e =
        let x = follow c g (on_reply c.table g i r fails) (on_reply c.table g i r fails).out.outcome e (on_reply_in n c.table g i r fails e.table) in
        record { coord = x.coord; counts = x.counts; marks = x.marks; outs = x.outs }

    answered : (c : Coord) (g : Gxid) (i : Node) (fails : Bool) (r : Reply) → CoordIn script c → CoordStays c.sent (on_answer c g i fails r)
    answered c g i fails (reply.Done cid wrote count part) e = done c g i cid wrote count part _ e (e.works g.0).command
    answered c g i fails (reply.Failed cid cause) e = failed c g i cid cause _ e
    answered c g i fails reply.Prepared e = status c g i _ fails e
    answered c g i fails reply.Committed e = status c g i _ fails e
    answered c g i fails reply.Jfault e = status c g i _ fails e
    answered c g i fails reply.Again e = status c g i _ fails e
    answered c g i fails reply.Restarted e = status c g i _ fails e
    answered c g i fails reply.Aborted e = status c g i _ fails e
    answered c g i fails reply.Forgotten e = status c g i _ fails e

    -- graphs
    noted_of : (reports : Option (List (Option LocalGraph))) (graph : LocalGraph) → AreOfSegments n reports → AreOfSegments n (noted_in reports graph)
    noted_of None graph e = tt
    noted_of (Some reports) graph e = length-noted_from 1 reports graph ∙ e

    graph_taken : (c : Coord) (from : Node) (round : ℕ) (graph : LocalGraph) → CoordIn script c → CoordStays c.sent (on_graph c from round graph)
    graph_taken c from round graph e =
        graph-ways (CoordStays c.sent) c from round graph (rest c e)
        (λ r. rest (with_report c graph) (record { table = e.table; works = e.works; reports = noted_of c.reports graph e.reports }))
        (λ r a. record { coord = record { table = e.table; works = e.works; reports = tt }; counts = refl; marks = (refl, tt); outs = tt })

    message_taken : (c : Coord) (from : Node) (fails : Bool) (m : Message) → CoordIn script c → CoordStays c.sent (on_message c from fails m)
    message_taken c from fails (message.Answer g r) e = answered c g from fails r e
    message_taken c from fails (message.Exec g cid level x h y) e = rest c e
    message_taken c from fails (message.Prepare g) e = rest c e
    message_taken c from fails (message.Commit g) e = rest c e
    message_taken c from fails (message.CommitPrepared g) e = rest c e
    message_taken c from fails (message.Abort g) e = rest c e
    message_taken c from fails (message.Forget g) e = rest c e
    message_taken c from fails (message.Collect round) e = rest c e
    message_taken c from fails (message.Graph round graph) e = graph_taken c from round graph e
    message_taken c from fails message.Up e = rest c e

    -- messages sent again
    again : (c : Coord) (i : Node) (m : Option Message) → CoordIn script c → (is_some m ≡ true → IsOneOf n i) → CoordStays c.sent (resends c i m)
    again c i None e h = rest c e
    again c i (Some told) e h = record { coord = e; counts = refl; marks = tt; outs = (h refl, tt) }

    order_has : (g : Gxid) (i : Node) (b : Bool) (o : Order) → is_some (status_order g (if b then Some o else None)) ≡ true → b ≡ true
    order_has g i true o e = refl
    order_has g i false o e = grind arith

    phase_has : (g : Gxid) (i : Node) (p : Phase) → PhaseIn n p → is_some (status_order g (order_in p i)) ≡ true → IsOneOf n i
    phase_has g i Active h e = grind arith
    phase_has g i (Preparing writers awaited) h e = has_in n i awaited h.1 (order_has g i _ _ e)
    phase_has g i (CommittingOne w) h e = same_node w (order_has g i _ _ e) h
      where
        same_node : (w : Node) → (w.0 == i.0) ≡ true → IsOneOf n w → IsOneOf n i
        same_node w f k = grind (arith, nat_tests)
    phase_has g i (CommittingTwo awaited) h e = has_in n i awaited h (order_has g i _ _ e)
    phase_has g i (Ended awaited) h e = has_in n i awaited h (order_has g i _ _ e)
    phase_has g i (Aborting awaited) h e = has_in n i awaited h (order_has g i _ _ e)

    found_has : (g : Gxid) (i : Node) (t : Option Txn) → FoundIn n t → is_some (status_order g (order_found i t)) ≡ true → IsOneOf n i
    found_has g i None h e = grind arith
    found_has g i (Some t) h e = phase_has g i t.phase h.phase e

    command_has : (k : Option Command) (i : Node) (other : Option Message) → UnderWay n k → (is_some other ≡ true → IsOneOf n i) → is_some (command_order k i other) ≡ true → IsOneOf n i
    command_has None i other h f e = f e
    command_has (Some k) i other h f e = at (has i k.awaited) refl e
      where
        at : (b : Bool) → has i k.awaited ≡ b → is_some (if b then order_to i k.orders else other) ≡ true → IsOneOf n i
        at true a d = has_in n i k.awaited h.awaited a
        at false a d = f d

    awaited_has : (c : Coord) (g : Gxid) (i : Node) → CoordIn script c → is_some (awaited c g i) ≡ true → IsOneOf n i
    awaited_has c g i e h = command_has (work_of c g).command i _ (e.works g.0).command (found_has g i (find_txn c.table g) (find_in n c.table g e.table)) h

    -- rounds
    lacks_has : (i : Node) (k : ℕ) (reports : List (Option LocalGraph)) → 1 ≤ k → k + length reports ≤ n + 1 → lacks_from k reports i ≡ true → IsOneOf n i
    lacks_has i k [] one h e = absurd (cc)
    lacks_has i k (r ∷ rs) one h e = at (i.0 == k) refl (λ d. lacks_has i (k + 1) rs (omega arith) (next k (length rs) h) d) e
      where
        next : (k m : ℕ) → k + suc m ≤ n + 1 → k + 1 + m ≤ n + 1
        next k m h = omega arith

        here : (a k m : ℕ) → a ≡ k → 1 ≤ k → k + suc m ≤ n + 1 → (1 ≤ a) × (a ≤ n)
        here a k m q one h = (omega arith, omega arith)

        at : (b : Bool) → (i.0 == k) ≡ b → (lacks_from (k + 1) rs i ≡ true → IsOneOf n i) → (if b then is_none r else lacks_from (k + 1) rs i) ≡ true → IsOneOf n i
        at true q later d = here i.0 k (length rs) (eqb-true i.0 k q) one h
        at false q later d = later d

    collect_has : (c : Coord) (i : Node) (reports : Option (List (Option LocalGraph))) → AreOfSegments n reports → is_some (if lacks reports i then Some (message.Collect c.rounds) else None) ≡ true → IsOneOf n i
    collect_has c i None h e = absurd (cc)
    collect_has c i (Some reports) h e = at (lacks_from 1 reports i) refl e
      where
        at : (b : Bool) → lacks_from 1 reports i ≡ b → is_some (if b then Some (message.Collect c.rounds) else None) ≡ true → IsOneOf n i
        at true q d = lacks_has i 1 reports (omega arith) (within (length reports) h) q
          where
            within : (m : ℕ) → m ≡ n → 1 + m ≤ n + 1
            within m h = omega arith
        at false q d = absurd (cc)

    round_begun : (c : Coord) → CoordIn script c → CoordStays c.sent (begins_round script c)
    round_begun c e =
        record { coord = record { table = e.table; works = e.works; reports = length-replicate n None }; counts = refl; marks = tt; outs = collects-each (OutIn n) n (c.rounds + 1) (λ i one within. (one, within)) }

    pub coord_stays : (c : Coord) (e : NodeEvent) (fails : Bool) → CoordIn script c → CoordStays c.sent (on_event script c e fails)
    coord_stays c (event.Deliver from envelope) fails e = message_taken c from fails envelope.message e
    coord_stays c (event.Start s) fails e = start c s _ e
    coord_stays c (event.End s) fails e = end c s _ e
    coord_stays c (event.Resend i (Some g)) fails e = again c i _ e (awaited_has c g i e)
    coord_stays c (event.Resend i None) fails e = again c i _ e (collect_has c i c.reports e.reports)
    coord_stays c (event.Resume g) fails e = resume c g (wait_of c.locks g) (work_of c g).waiting e
    coord_stays c event.Round fails e = round_begun c e

    -- a victim
    pub cancel_stays : (c : Coord) (g : Gxid) → CoordIn script c → CoordStays c.sent (cancels c g)
    cancel_stays c g e = cancel-ways (CoordStays c.sent) c g (rest c e) (λ live busy. refused c g _ [] _ e (on_abort_in n c.table g e.table) tt)
