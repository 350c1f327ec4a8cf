-- A turn of the coordinator starts one transaction at most, and a victim's none.
use Rattle.std.proofs.Common.{◌≤◌, ℕ, ◌+◌, List, [], ◌∷◌, Option, Some, None, Result, Ok, Err, Bool, true, false, if◌then◌else◌, ◌&&◌, arith}
use Rattle.gx_ids.specs.declared.ids.Cid.{Cid}
use Rattle.gx_ids.specs.declared.ids.Gxid.{Gxid}
use Rattle.gx_ids.specs.declared.ids.Node.{Node}
use Rattle.gx_ids.specs.declared.ids.SessionId.{SessionId}
use Rattle.gx_tree.specs.declared.part.Part.{Part}
use Rattle.gx_tree.specs.declared.stmt.Level.{Level}
use Rattle.gx_tree.specs.declared.stmt.Level.TheVariants.{ReadCommitted, RepeatableRead}
use Rattle.gx_tree.specs.declared.stmt.Stmt.{Stmt}
use Rattle.gx_tree.specs.declared.stmt.Stmt.TheVariants as stmt
use Rattle.gx_dsnap.specs.declared.snapshot.Snapshot.{Snapshot}
use Rattle.gx_dtx.specs.Rules.{Turn, enlisted, on_abort, on_commit, on_reply}
use Rattle.gx_dtx.specs.Table.{Table}
use Rattle.gx_dtx.specs.declared.outcome.Outcome.{Outcome}
use Rattle.gx_dtx.specs.declared.outcome.Outcome.TheVariants as outcome
use Rattle.gx_meaning.specs.declared.fault.ArithFault.{ArithFault}
use Rattle.gx_msg.specs.declared.message.Message.{Message}
use Rattle.gx_msg.specs.declared.message.Message.TheVariants as message
use Rattle.gx_msg.specs.declared.reply.Cause.{Cause}
use Rattle.gx_msg.specs.declared.reply.Reply.{Reply}
use Rattle.gx_msg.specs.declared.reply.Reply.TheVariants as reply
use Rattle.gx_meaning.specs.Plan.{plan_of}
use Rattle.gx_meaning.specs.declared.piece.Piece.{Piece}
use Rattle.gx_script.specs.declared.Script.{Script}
use Rattle.gx_script.specs.Session.{line_step}
use Rattle.gx_script.specs.declared.line_step.LineStep.{LineStep}
use Rattle.gx_script.specs.declared.line_step.LineStep.TheVariants as step
use Rattle.gx_script.specs.declared.state.Block.{Block}
use Rattle.gx_script.specs.declared.state.Block.TheVariants.{Outside, Open, Failed}
use Rattle.gx_store.specs.declared.node.NodeEvent.{NodeEvent}
use Rattle.gx_store.specs.declared.node.NodeEvent.TheVariants as event
use Rattle.gx_store.specs.Writes.{dist_of}
use Rattle.gx_rules.specs.AtCoordinator.{Reading, awaited, awaited_collect, begins, cancels, commits, completes, dispatches, ends_in, enlisted_all, follows, goes, goes_on, is_awaited, is_refused, next_cid, next_line, nodes_in, on_answer, on_done, on_event, on_failed, on_line, on_message, on_status, reads_by, reads_for, reason_of, resends, starts, starts_line, table_of, takes_done, unless_kept, with_done, writers_with, goes_on_locked, if_granted, requests, resumes}
use Rattle.gx_store.specs.Locks.{table_lock}
use Rattle.gx_rules.specs.Coordinators.{Command, Coord, CoordTurn, Work, rests, session_of, with_work, work_of}
use Rattle.gx_rules.specs.Fits.{fits_part}
use Rattle.gx_rules.specs.Locks.{with_hold}
use Rattle.gx_waits.specs.declared.claim.Claim.{Claim}
use Rattle.gx_locks.specs.Locks.{resumed, wait_of}
use Rattle.gx_waits.specs.Claims.{is_clear}
use Rattle.gx_rules.proofs.Rounds.{cancel-ways, graph-ways}

-- gxids stay below this
abbrev pub IsStill : ℕ → CoordTurn → Type 0
IsStill limit turn = turn.coord.table.next.0 ≤ limit

module _ (limit : ℕ) where
  follow-still : (c : Coord) (g : Gxid) (turn : Turn) (o : Outcome) → turn.table.next.0 ≤ limit → IsStill limit (follows c g turn o)
  follow-still c g turn outcome.Pending n = n
  follow-still c g turn outcome.Decided n = n
  follow-still c g turn outcome.Committed n = n
  follow-still c g turn (outcome.Refused i) n = n
  follow-still c g turn outcome.Ended n = n

  commit-still : (c : Coord) (g : Gxid) → c.table.next.0 ≤ limit → IsStill limit (commits c g)
  commit-still c g n = follow-still c g (on_commit c.table g (work_of c g).writers) (on_commit c.table g (work_of c g).writers).out.outcome n

  -- COMMANDS
  abbrev ReadsStill : Reading → Type 0
  ReadsStill r = r.coord.table.next.0 ≤ limit

  by-still : (c : Coord) (g : Gxid) (cid : Cid) (w : Work) (x : Option Snapshot) → c.table.next.0 ≤ limit → ReadsStill (reads_by c g cid w x)
  by-still c g cid w None n = n
  by-still c g cid w (Some x) n = n

  for-still : (c : Coord) (g : Gxid) (cid : Cid) (w : Work) (line : Stmt) → c.table.next.0 ≤ limit → ReadsStill (reads_for c g cid w line)
  for-still c g cid w (stmt.Lock t m) n = n
  for-still c g cid w (stmt.Begin level) n = by-still c g cid w w.snapshot n
  for-still c g cid w stmt.Commit n = by-still c g cid w w.snapshot n
  for-still c g cid w stmt.Rollback n = by-still c g cid w w.snapshot n
  for-still c g cid w (stmt.Select q) n = by-still c g cid w w.snapshot n
  for-still c g cid w (stmt.Insert t x) n = by-still c g cid w w.snapshot n
  for-still c g cid w (stmt.Update t x y) n = by-still c g cid w w.snapshot n
  for-still c g cid w (stmt.Delete t x) n = by-still c g cid w w.snapshot n

  all-next : (d : Table) (g : Gxid) (nodes : List Node) → d.next.0 ≤ limit → (enlisted_all d g nodes).next.0 ≤ limit
  all-next d g [] n = n
  all-next d g (i ∷ is) n = all-next (enlisted d g i) g is n

  goes-still : (g : Gxid) (cid : Cid) (line : Stmt) (r : Reading) (plan : Result (List Piece) ArithFault) → ReadsStill r → IsStill limit (goes g cid line r plan)
  goes-still g cid line r (Ok pieces) f = all-next r.coord.table g (nodes_in pieces) f
  goes-still g cid line r (Err fault) f = f

  locked-still : (script : Script) (c : Coord) (g : Gxid) (line : Stmt) → c.table.next.0 ≤ limit → IsStill limit (goes_on_locked script c g line)
  locked-still script c g line n =
      goes-still g (next_cid (work_of c g)) line (reads_for c g (next_cid (work_of c g)) (work_of c g) line) (plan_of script.segments (dist_of script.tables (table_of line)) g (next_cid (work_of c g)) line) (for-still c g (next_cid (work_of c g)) (work_of c g) line n)

  -- with its table's lock, or behind a wait for it
  granted-still : (script : Script) (c : Coord) (g : Gxid) (line : Stmt) → c.table.next.0 ≤ limit → (wanted : Claim) (b : Bool) → IsStill limit (if_granted script c g line wanted b)
  granted-still script c g line n wanted true = locked-still script (record c { locks = with_hold c.locks wanted }) g line n
  granted-still script c g line n wanted false = n

  request-still : (script : Script) (c : Coord) (g : Gxid) (line : Stmt) → c.table.next.0 ≤ limit → (o : Option Claim) → IsStill limit (requests script c g line o)
  request-still script c g line n None = locked-still script c g line n
  request-still script c g line n (Some wanted) = granted-still script c g line n wanted (is_clear c.locks.holds c.locks.waits wanted)

  dispatch-still : (script : Script) (c : Coord) (g : Gxid) (line : Stmt) → c.table.next.0 ≤ limit → IsStill limit (dispatches script c g line)
  dispatch-still script c g line n = request-still script c g line n (table_lock script g line)

  resume-still : (script : Script) (c : Coord) (g : Gxid) → c.table.next.0 ≤ limit → (o : Option Claim) (line : Option Stmt) → IsStill limit (resumes script c g o line)
  resume-still script c g n (Some wanted) (Some line) = locked-still script (with_work (record c { locks = resumed c.locks g (Some wanted) }) g (record (work_of c g) { waiting = None })) g line n
  resume-still script c g n (Some wanted) None = n
  resume-still script c g n None line = n

  -- ANSWERS
  kept-next : (level : Level) (d : Table) (g : Gxid) → d.next.0 ≤ limit → (unless_kept level d g).next.0 ≤ limit
  kept-next ReadCommitted d g n = n
  kept-next RepeatableRead d g n = n

  complete-still : (c : Coord) (g : Gxid) (b : Block) → c.table.next.0 ≤ limit → IsStill limit (completes c g b)
  complete-still c g Outside n = commit-still c g n
  complete-still c g (Open level) n = kept-next (work_of c g).level c.table g n
  complete-still c g Failed n = kept-next (work_of c g).level c.table g n

  on-still : (c : Coord) (g : Gxid) (left : List Node) → c.table.next.0 ≤ limit → IsStill limit (goes_on c g left)
  on-still c g [] n = complete-still c g (session_of c (work_of c g).session).state.block n
  on-still c g (i ∷ is) n = n

  module _ (c : Coord) (n : c.table.next.0 ≤ limit) where
    done-still : (g : Gxid) (i : Node) (cid : Cid) (wrote : Bool) (count : ℕ) (part : Part) (k : Option Command) → IsStill limit (on_done c g i cid wrote count part k)
    done-still g i cid wrote count part None = n
    done-still g i cid wrote count part (Some k) = by_test (is_awaited k i cid && fits_part k.stmt part)
      where
        by_test : (b : Bool) → IsStill limit (if b then takes_done c g i wrote count part k else rests c)
        by_test true = on-still (with_work c g (record (work_of c g) { writers = writers_with wrote i (work_of c g).writers; command = Some (with_done k i count part) })) g (with_done k i count part).awaited n
        by_test false = n

    failed-still : (g : Gxid) (i : Node) (cid : Cid) (cause : Cause) (k : Option Command) → IsStill limit (on_failed c g i cid cause k)
    failed-still g i cid cause None = n
    failed-still g i cid cause (Some k) = by_test (is_awaited k i cid)
      where
        by_test : (b : Bool) → IsStill limit (if b then is_refused c g (on_abort c.table g) [] (reason_of cause) else rests c)
        by_test true = n
        by_test false = n

    status-still : (g : Gxid) (i : Node) (r : Reply) (fails : Bool) → IsStill limit (on_status c g i r fails)
    status-still g i r fails = follow-still c g (on_reply c.table g i r fails) (on_reply c.table g i r fails).out.outcome n

    answer-still : (g : Gxid) (i : Node) (fails : Bool) (r : Reply) → IsStill limit (on_answer c g i fails r)
    answer-still g i fails (reply.Done cid wrote count part) = done-still g i cid wrote count part (work_of c g).command
    answer-still g i fails (reply.Failed cid cause) = failed-still g i cid cause (work_of c g).command
    answer-still g i fails reply.Prepared = status-still g i reply.Prepared fails
    answer-still g i fails reply.Committed = status-still g i reply.Committed fails
    answer-still g i fails reply.Jfault = status-still g i reply.Jfault fails
    answer-still g i fails reply.Again = status-still g i reply.Again fails
    answer-still g i fails reply.Restarted = status-still g i reply.Restarted fails
    answer-still g i fails reply.Aborted = status-still g i reply.Aborted fails
    answer-still g i fails reply.Forgotten = status-still g i reply.Forgotten fails

    message-still : (from : Node) (fails : Bool) (m : Message) → IsStill limit (on_message c from fails m)
    message-still from fails (message.Answer g r) = answer-still g from fails r
    message-still from fails (message.Exec g cid level x h y) = n
    message-still from fails (message.Prepare g) = n
    message-still from fails (message.Commit g) = n
    message-still from fails (message.CommitPrepared g) = n
    message-still from fails (message.Abort g) = n
    message-still from fails (message.Forget g) = n
    message-still from fails (message.Collect round) = n
    message-still from fails (message.Graph round graph) = graph-ways (IsStill limit) c from round graph n (λ r. n) (λ r a. n)
    message-still from fails message.Up = n

    again-still : (i : Node) (m : Option Message) → IsStill limit (resends c i m)
    again-still i None = n
    again-still i (Some m) = n

    end-still : (s : SessionId) (b : Block) → IsStill limit (ends_in c s b)
    end-still s (Open level) = n
    end-still s Failed = n
    end-still s Outside = n

  -- LINES
  module _ (script : Script) (c : Coord) (n : c.table.next.0 ≤ limit) (more : c.table.next.0 + 1 ≤ limit) where
    line-still : (s : SessionId) (line : Stmt) (asked : LineStep) → IsStill limit (on_line script c s line asked)
    line-still s line (step.Answer plain) = n
    line-still s line step.InFailedBlock = n
    line-still s line step.NotInBlock = n
    line-still s line (step.BeginBlock level) = more
    line-still s line step.CommitBlock = commit-still c (session_of c s).transaction n
    line-still s line step.RollbackBlock = n
    line-still s line (step.Command true) = dispatch-still script (begins c s ReadCommitted) c.table.next line more
    line-still s line (step.Command false) = dispatch-still script c (session_of c s).transaction line n

  module _ (script : Script) (c : Coord) (n : c.table.next.0 ≤ limit) (more : c.table.next.0 + 1 ≤ limit) where
    start-still : (s : SessionId) (o : Option Stmt) → IsStill limit (starts script c s o)
    start-still s None = n
    start-still s (Some line) = line-still script (starts_line c s (line_step (session_of c s).state.block line)) n more s line (line_step (session_of c s).state.block line)

    event-in : (x : NodeEvent) (fails : Bool) → IsStill limit (on_event script c x fails)
    event-in (event.Deliver from envelope) fails = message-still c n from fails envelope.message
    event-in (event.Start s) fails = start-still s (next_line script c s)
    event-in (event.End s) fails = end-still c n s (session_of c s).state.block
    event-in (event.Resend i (Some g)) fails = again-still c n i (awaited c g i)
    event-in (event.Resend i None) fails = again-still c n i (awaited_collect c i)
    event-in (event.Resume g) fails = resume-still script c g n (wait_of c.locks g) (work_of c g).waiting
    event-in event.Round fails = n

pub event-still : (script : Script) (c : Coord) (x : NodeEvent) (fails : Bool) → IsStill (c.table.next.0 + 1) (on_event script c x fails)
event-still script c x fails = event-in (c.table.next.0 + 1) script c (less c.table.next.0) (same (c.table.next.0 + 1)) x fails
  where
    less : (a : ℕ) → a ≤ a + 1
    less a = omega arith

    same : (a : ℕ) → a ≤ a
    same a = omega arith

pub victim-still : (c : Coord) (g : Gxid) → IsStill c.table.next.0 (cancels c g)
victim-still c g = cancel-ways (IsStill c.table.next.0) c g (same c.table.next.0) (λ live busy. same c.table.next.0)
  where
    same : (a : ℕ) → a ≤ a
    same a = omega arith
