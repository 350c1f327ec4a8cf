-- A turn of the coordinator that brings a transaction on its way to a commit asks for its promise, or for its commit.
use Rattle.std.proofs.Common.{inl, ℕ, List, [], ◌∷◌, ◌++◌, Option, Some, None, Result, Ok, Err, Bool, true, false, if◌then◌else◌, ◌&&◌}
use Rattle.gx_ids.specs.declared.ids.Cid.{Cid}
use Rattle.gx_ids.specs.declared.ids.Gxid.{Gxid}
use Rattle.gx_ids.specs.declared.ids.Node.{Node}
use Rattle.gx_ids.specs.declared.ids.SessionId.{SessionId}
use Rattle.gx_tree.specs.declared.part.Part.{Part}
use Rattle.gx_tree.specs.declared.stmt.Level.{Level}
use Rattle.gx_tree.specs.declared.stmt.Level.TheVariants.{ReadCommitted, RepeatableRead}
use Rattle.gx_tree.specs.declared.stmt.Stmt.{Stmt}
use Rattle.gx_tree.specs.declared.stmt.Stmt.TheVariants as stmt
use Rattle.gx_dsnap.specs.declared.snapshot.Snapshot.{Snapshot}
use Rattle.gx_dtx.specs.Rules.{Turn, on_abort, on_commit, on_reply}
use Rattle.gx_dtx.specs.Table.{xmin_of}
use Rattle.gx_dtx.specs.declared.outcome.Outcome.{Outcome}
use Rattle.gx_dtx.specs.declared.outcome.Outcome.TheVariants as outcome
use Rattle.gx_meaning.specs.Plan.{plan_of}
use Rattle.gx_meaning.specs.declared.fault.ArithFault.{ArithFault}
use Rattle.gx_meaning.specs.declared.piece.Piece.{Piece}
use Rattle.gx_msg.specs.declared.message.Message.{Message}
use Rattle.gx_msg.specs.declared.message.Message.TheVariants as message
use Rattle.gx_msg.specs.declared.reply.Cause.{Cause}
use Rattle.gx_msg.specs.declared.reply.Reply.{Reply}
use Rattle.gx_msg.specs.declared.reply.Reply.TheVariants as reply
use Rattle.gx_script.specs.Session.{line_step}
use Rattle.gx_script.specs.declared.Script.{Script}
use Rattle.gx_script.specs.declared.line_step.LineStep.{LineStep}
use Rattle.gx_script.specs.declared.line_step.LineStep.TheVariants as step
use Rattle.gx_script.specs.declared.state.Block.{Block}
use Rattle.gx_script.specs.declared.state.Block.TheVariants as block
use Rattle.gx_store.specs.declared.answer.Refused.{Refused}
use Rattle.gx_store.specs.declared.answer.Refused.TheVariants.{Victim}
use Rattle.gx_store.specs.declared.mark.Mark.{Mark}
use Rattle.gx_store.specs.declared.node.NodeEvent.{NodeEvent}
use Rattle.gx_store.specs.declared.node.NodeEvent.TheVariants as event
use Rattle.gx_store.specs.Refusals.{the_coordinator}
use Rattle.gx_store.specs.Writes.{dist_of}
use Rattle.gx_locks.specs.Locks.{resumed, wait_of}
use Rattle.gx_waits.specs.Claims.{is_clear}
use Rattle.gx_waits.specs.declared.claim.Claim.{Claim}
use Rattle.gx_rules.specs.AtCoordinator.{Reading, awaited, awaited_collect, begins, behind, cancels, completes, dispatches, ends_in, enlisted_all, fault_mark, follows, goes, goes_on, goes_on_locked, if_granted, is_awaited, is_refused, next_cid, next_line, nodes_in, on_answer, on_done, on_event, on_failed, on_line, on_message, on_status, reads_by, reads_for, reason_of, refusal_of, requests, resends, resumes, starts, starts_line, table_of, takes_done, unless_kept, with_done, writers_with}
use Rattle.gx_store.specs.Locks.{table_lock}
use Rattle.gx_rules.specs.AtCoordinator as coordinator
use Rattle.gx_rules.specs.Coordinators.{Command, Coord, CoordTurn, Work, rests, session_of, with_work, work_of}
use Rattle.gx_rules.specs.Fits.{fits_part}
use Rattle.gx_rules.specs.Locks.{hold_mark, with_hold}
use Rattle.gx_rules.proofs.Rounds.{cancel-ways, graph-ways}
use Rattle.gx_law_order.specs.Stages.{IsWhole}
use Rattle.gx_law_locks.proofs.Closing.{Asks, Goes, abort-asks, begun-goes, commit-asks, live-goes, parts-go, reply-asks}

module _ (c : Coord) where
  abbrev Still : Coord → Type 0
  Still d = Goes c.table d.table

  abbrev pub Asked : CoordTurn → Type 0
  Asked turn = Asks c.table turn.coord.table turn.outs

  rest : (d : Coord) → Still d → Asked (rests d)
  rest d e = record { closing = λ h q. inl (e.closing h q) }

  follow : (d : Coord) (g : Gxid) (turn : Turn) (o : Outcome) → Asks c.table turn.table turn.out.outs → Asked (follows d g turn o)
  follow d g turn outcome.Pending a = record { closing = a.closing }
  follow d g turn outcome.Decided a = record { closing = a.closing }
  follow d g turn outcome.Committed a = record { closing = a.closing }
  follow d g turn (outcome.Refused i) a = record { closing = a.closing }
  follow d g turn outcome.Ended a = record { closing = a.closing }

  commit : (d : Coord) (g : Gxid) → Still d → Asked (coordinator.commits d g)
  commit d g e = follow d g (on_commit d.table g (work_of d g).writers) (on_commit d.table g (work_of d g).writers).out.outcome (commit-asks c.table d.table g (work_of d g).writers e)

  refused : (d : Coord) (g : Gxid) (why : List Mark) (reason : Refused) → Still d → Asked (is_refused d g (on_abort d.table g) why reason)
  refused d g why reason e = record { closing = (abort-asks c.table d.table g e).closing }

  -- COMMANDS
  read_by : (d : Coord) (g : Gxid) (cid : Cid) (w : Work) (x : Option Snapshot) → Still d → Still (reads_by d g cid w x).coord
  read_by d g cid w None e = live-goes c.table d.table g (Some (xmin_of d.table)) e
  read_by d g cid w (Some x) e = e

  read_for : (d : Coord) (g : Gxid) (cid : Cid) (w : Work) (line : Stmt) → Still d → Still (reads_for d g cid w line).coord
  read_for d g cid w (stmt.Lock table mode) e = e
  read_for d g cid w (stmt.Begin level) e = read_by d g cid w w.snapshot e
  read_for d g cid w stmt.Commit e = read_by d g cid w w.snapshot e
  read_for d g cid w stmt.Rollback e = read_by d g cid w w.snapshot e
  read_for d g cid w (stmt.Select q) e = read_by d g cid w w.snapshot e
  read_for d g cid w (stmt.Insert t x) e = read_by d g cid w w.snapshot e
  read_for d g cid w (stmt.Update t x y) e = read_by d g cid w w.snapshot e
  read_for d g cid w (stmt.Delete t x) e = read_by d g cid w w.snapshot e

  go : (g : Gxid) (cid : Cid) (line : Stmt) (r : Reading) (plan : Result (List Piece) ArithFault) → Still r.coord → Asked (goes g cid line r plan)
  go g cid line r (Ok pieces) e = record { closing = λ h q. inl ((parts-go c.table (nodes_in pieces) r.coord.table g e).closing h q) }
  go g cid line r (Err fault) e = refused r.coord g (r.marks ++ fault_mark g cid line) (refusal_of fault) e

  module _ (script : Script) where
    go_locked : (d : Coord) (g : Gxid) (line : Stmt) → Still d → Asked (goes_on_locked script d g line)
    go_locked d g line e =
        let cid : Cid = next_cid (work_of d g) in
        go g cid line (reads_for d g cid (work_of d g) line) (plan_of script.segments (dist_of script.tables (table_of line)) g cid line) (read_for d g cid (work_of d g) line e)

    go_held : (d : Coord) (g : Gxid) (line : Stmt) (wanted : Claim) → Still d → Asked (behind (hold_mark the_coordinator wanted ∷ []) (goes_on_locked script d g line))
    go_held d g line wanted e = record { closing = (go_locked d g line e).closing }

    request : (d : Coord) (g : Gxid) (line : Stmt) (o : Option Claim) → Still d → Asked (requests script d g line o)
    request d g line None e = go_locked d g line e
    request d g line (Some wanted) e = by_test (is_clear d.locks.holds d.locks.waits wanted)
      where
        by_test : (b : Bool) → Asked (if_granted script d g line wanted b)
        by_test true = go_held (record d { locks = with_hold d.locks wanted }) g line wanted e
        by_test false = record { closing = λ h q. inl (e.closing h q) }

    dispatch : (d : Coord) (g : Gxid) (line : Stmt) → Still d → Asked (dispatches script d g line)
    dispatch d g line e = request d g line (table_lock script g line) e

    resume : (d : Coord) (g : Gxid) (o : Option Claim) (line : Option Stmt) → Still d → Asked (resumes script d g o line)
    resume d g None line e = rest d e
    resume d g (Some wanted) None e = rest d e
    resume d g (Some wanted) (Some line) e =
        go_held (with_work (record d { locks = resumed d.locks g (Some wanted) }) g (record (work_of d g) { waiting = None })) g line wanted e

    -- LINES
    line_done : (d : Coord) (s : SessionId) (line : Stmt) (asked : LineStep) → Still d → Asked (on_line script d s line asked)
    line_done d s line (step.Answer plain) e = rest d e
    line_done d s line step.InFailedBlock e = rest d e
    line_done d s line step.NotInBlock e = rest d e
    line_done d s line (step.BeginBlock level) e = record { closing = λ h q. inl ((begun-goes c.table d.table e).closing h q) }
    line_done d s line step.CommitBlock e = commit d (session_of d s).transaction e
    line_done d s line step.RollbackBlock e = record { closing = (abort-asks c.table d.table (session_of d s).transaction e).closing }
    line_done d s line (step.Command true) e = record { closing = (dispatch (begins d s ReadCommitted) d.table.next line (begun-goes c.table d.table e)).closing }
    line_done d s line (step.Command false) e = dispatch d (session_of d s).transaction line e

    start_line : (d : Coord) (s : SessionId) (line : Option Stmt) → Still d → Asked (starts script d s line)
    start_line d s None e = rest d e
    start_line d s (Some line) e = let asked = line_step (session_of d s).state.block line in line_done (starts_line d s asked) s line asked e

    end : (d : Coord) (s : SessionId) (b : Block) → Still d → Asked (ends_in d s b)
    end d s (block.Open level) e = record { closing = (abort-asks c.table d.table (session_of d s).transaction e).closing }
    end d s block.Failed e = record { closing = λ h q. inl (e.closing h q) }
    end d s block.Outside e = rest d e

    -- ANSWERS OF SEGMENTS
    complete : (d : Coord) (g : Gxid) (b : Block) → Still d → Asked (completes d g b)
    complete d g b e = by_block b
      where
        by_level : (level : Level) → Goes c.table (unless_kept level d.table g)
        by_level ReadCommitted = live-goes c.table d.table g None e
        by_level RepeatableRead = e

        by_block : (b : Block) → Asked (completes d g b)
        by_block block.Outside = commit d g e
        by_block (block.Open level) = record { closing = λ h q. inl ((by_level (work_of d g).level).closing h q) }
        by_block block.Failed = record { closing = λ h q. inl ((by_level (work_of d g).level).closing h q) }

    go_on : (d : Coord) (g : Gxid) (left : List Node) → Still d → Asked (goes_on d g left)
    go_on d g [] e = complete d g _ e
    go_on d g (i ∷ is) e = rest d e

    done : (d : Coord) (g : Gxid) (i : Node) (cid : Cid) (wrote : Bool) (count : ℕ) (part : Part) (k : Option Command) → Still d → Asked (on_done d g i cid wrote count part k)
    done d g i cid wrote count part None e = rest d e
    done d g i cid wrote count part (Some k) e = by_test (is_awaited k i cid && fits_part k.stmt part)
      where
        by_test : (b : Bool) → Asked (if b then takes_done d g i wrote count part k else rests d)
        by_test true =
            go_on (with_work d g (record (work_of d g) { writers = writers_with wrote i (work_of d g).writers; command = Some (with_done k i count part) })) g (with_done k i count part).awaited e
        by_test false = rest d e

    failed : (d : Coord) (g : Gxid) (i : Node) (cid : Cid) (cause : Cause) (k : Option Command) → Still d → Asked (on_failed d g i cid cause k)
    failed d g i cid cause None e = rest d e
    failed d g i cid cause (Some k) e = by_test (is_awaited k i cid)
      where
        by_test : (b : Bool) → Asked (if b then is_refused d g (on_abort d.table g) [] (reason_of cause) else rests d)
        by_test true = refused d g [] (reason_of cause) e
        by_test false = rest d e

    status : (d : Coord) (g : Gxid) (i : Node) (r : Reply) (fails : Bool) → Still d → Asked (on_status d g i r fails)
    status d g i r fails e = record { closing = (follow d g (on_reply d.table g i r fails) (on_reply d.table g i r fails).out.outcome (reply-asks c.table d.table g i r fails e)).closing }

    answered : (d : Coord) (g : Gxid) (i : Node) (fails : Bool) (r : Reply) → Still d → Asked (on_answer d g i fails r)
    answered d g i fails (reply.Done cid wrote count part) e = done d g i cid wrote count part _ e
    answered d g i fails (reply.Failed cid cause) e = failed d g i cid cause _ e
    answered d g i fails reply.Prepared e = status d g i _ fails e
    answered d g i fails reply.Committed e = status d g i _ fails e
    answered d g i fails reply.Jfault e = status d g i _ fails e
    answered d g i fails reply.Again e = status d g i _ fails e
    answered d g i fails reply.Restarted e = status d g i _ fails e
    answered d g i fails reply.Aborted e = status d g i _ fails e
    answered d g i fails reply.Forgotten e = status d g i _ fails e

    by_message : (from : Node) (fails : Bool) (m : Message) → Still c → Asked (on_message c from fails m)
    by_message from fails (message.Answer g r) e = answered c g from fails r e
    by_message from fails (message.Graph round graph) e =
        graph-ways Asked c from round graph (rest c e) (λ q. record { closing = λ h q. inl (e.closing h q) }) (λ q a. record { closing = λ h q. inl (e.closing h q) })
    by_message from fails message.Up e = rest c e
    by_message from fails (message.Exec g cid level snapshot h y) e = rest c e
    by_message from fails (message.Prepare g) e = rest c e
    by_message from fails (message.Commit g) e = rest c e
    by_message from fails (message.CommitPrepared g) e = rest c e
    by_message from fails (message.Abort g) e = rest c e
    by_message from fails (message.Forget g) e = rest c e
    by_message from fails (message.Collect round) e = rest c e

    again : (i : Node) (m : Option Message) → Still c → Asked (resends c i m)
    again i None e = rest c e
    again i (Some m) e = record { closing = λ h q. inl (e.closing h q) }

    -- ALL EVENTS
    pub event-asks : IsWhole c.table → (x : NodeEvent) (fails : Bool) → Asked (on_event script c x fails)
    event-asks w x fails = by_event x
      where
        same : Still c
        same = record { whole = w; closing = λ h q. q }

        by_event : (y : NodeEvent) → Asked (on_event script c y fails)
        by_event (event.Deliver from envelope) = by_message from fails envelope.message same
        by_event (event.Resume g) = resume c g (wait_of c.locks g) (work_of c g).waiting same
        by_event (event.Start s) = start_line c s (next_line script c s) same
        by_event (event.End s) = end c s _ same
        by_event (event.Resend i (Some g)) = again i (awaited c g i) same
        by_event (event.Resend i None) = again i (awaited_collect c i) same
        by_event event.Round = record { closing = λ h q. inl q }

  pub cancel-asks : IsWhole c.table → (g : Gxid) → Asked (cancels c g)
  cancel-asks w g = let same : Still c = record { whole = w; closing = λ h q. q } in cancel-ways Asked c g (rest c same) (λ live busy. refused c g [] (Victim c.rounds) same)
