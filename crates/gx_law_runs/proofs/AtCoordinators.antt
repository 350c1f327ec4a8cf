-- What the coordinator's journal fails to take.
use Rattle.std.proofs.Common.{◌≡◌, ◌==◌, ℕ, ◌&&◌, Bool, true, false, if◌then◌else◌, List, [], ◌∷◌, ◌++◌, Ok, Err, Result, refl, arith}
use Rattle.std.proofs.lemmas.Bool.Decides.{nat_tests}
use Rattle.std.specs.Prelude.{None, Option, Some, map}
use Rattle.gx_ids.specs.declared.ids.Cid.{Cid}
use Rattle.gx_ids.specs.declared.ids.Gxid.{Gxid}
use Rattle.gx_ids.specs.declared.ids.Node.{Node}
use Rattle.gx_ids.specs.declared.ids.SessionId.{SessionId}
use Rattle.gx_tree.specs.declared.part.Part.{Part}
use Rattle.gx_tree.specs.declared.stmt.Level.TheVariants.{ReadCommitted}
use Rattle.gx_tree.specs.declared.stmt.Stmt.{Stmt}
use Rattle.gx_tree.specs.declared.stmt.Stmt.TheVariants as stmt
use Rattle.gx_dsnap.specs.declared.snapshot.Snapshot.{Snapshot}
use Rattle.gx_dtx.specs.Nodes.{without}
use Rattle.gx_dtx.specs.Rules as dtx
use Rattle.gx_dtx.specs.Table.{find_txn}
use Rattle.gx_dtx.specs.declared.change.Change.{Change}
use Rattle.gx_dtx.specs.declared.outcome.Outcome.{Outcome}
use Rattle.gx_dtx.specs.declared.outcome.Outcome.TheVariants as outcome
use Rattle.gx_dtx.specs.declared.phase.Phase.TheVariants as stage
use Rattle.gx_dtx.specs.declared.phase.Phase.{Phase as Stage}
use Rattle.gx_dtx.specs.declared.txn.Txn.{Txn}
use Rattle.gx_meaning.specs.declared.fault.ArithFault.{ArithFault}
use Rattle.gx_msg.specs.declared.message.Message.{Message}
use Rattle.gx_msg.specs.declared.message.Message.TheVariants as message
use Rattle.gx_msg.specs.declared.reply.Cause.{Cause}
use Rattle.gx_msg.specs.declared.reply.Reply.{Reply}
use Rattle.gx_msg.specs.declared.reply.Reply.TheVariants as reply
use Rattle.gx_meaning.specs.Plan.{plan_of}
use Rattle.gx_meaning.specs.declared.piece.Piece.{Piece}
use Rattle.gx_script.specs.declared.Script.{Script}
use Rattle.gx_script.specs.Session.{line_step}
use Rattle.gx_script.specs.declared.line_step.LineStep.{LineStep}
use Rattle.gx_script.specs.declared.line_step.LineStep.TheVariants as step
use Rattle.gx_script.specs.declared.state.Block.{Block}
use Rattle.gx_script.specs.declared.state.Block.TheVariants as block
use Rattle.gx_store.specs.declared.mark.Mark.{Mark}
use Rattle.gx_store.specs.declared.mark.Mark.TheVariants as mark
use Rattle.gx_store.specs.declared.node.NodeEvent.{NodeEvent}
use Rattle.gx_store.specs.declared.node.NodeEvent.TheVariants as here
use Rattle.gx_store.specs.Refusals.{the_coordinator}
use Rattle.gx_store.specs.Writes.{dist_of}
use Rattle.gx_rules.specs.AtCoordinator.{Reading, awaited, awaited_collect, begins, cancel_turn, cancels, commits, completes, coord_can, coord_rule, coord_turn, dispatches, ends_in, fault_mark, follows, goes, goes_on, is_awaited, is_refused, is_segment, next_cid, next_line, on_answer, on_done, on_event, on_failed, on_line, on_message, on_status, reads_by, reads_for, reason_of, resends, starts, starts_line, table_of, takes_done, with_done, writers_with, goes_on_locked, if_granted, requests, resumes}
use Rattle.gx_store.specs.Locks.{table_lock}
use Rattle.gx_rules.specs.Coordinators.{Command, Coord, CoordTurn, Work, rests, session_of, with_work, work_of}
use Rattle.gx_rules.specs.Fits.{fits_part}
use Rattle.gx_rules.specs.Rounds.{victims_at}
use Rattle.gx_rules.proofs.Rounds.{cancel-ways, graph-ways}
use Rattle.gx_rules.proofs.Turns.{cancels_all-each}
use Rattle.gx_law_runs.proofs.Marks.{MayFail, NoFailures, may-append, may-none, may-sent, none-append, none-sent}
use Rattle.gx_rules.specs.Locks.{has_there, release_mark, release_marks, with_hold}
use Rattle.gx_waits.specs.declared.claim.Claim.{Claim}
use Rattle.gx_locks.specs.Locks.{Locks, resumed, wait_of}
use Rattle.gx_waits.specs.Claims.{is_clear}

-- WHAT CALLS COME TO
-- the coordinator's own journal has failed
abbrev is_own : Outcome → Bool
is_own (outcome.Refused i) = i.0 == 0
is_own _ = false

-- where it has, the append fails
abbrev Fails : Bool → Change → Type 0
Fails fails change = is_own change.out.outcome ≡ true → fails ≡ true

ends-own : (g : Gxid) (ps : List Node) → is_own (dtx.ends_committed g ps).out.outcome ≡ false
ends-own g [] = refl
ends-own g (i ∷ is) = refl

commit-own : (g : Gxid) (writers : List Node) (o : Option Txn) → is_own (dtx.commit_found g writers o).out.outcome ≡ false
commit-own g writers None = refl
commit-own g [] (Some t) = ends-own g t.participants
commit-own g (i ∷ []) (Some t) = refl
commit-own g (i ∷ j ∷ is) (Some t) = refl

never : {fails : Bool} (b : Bool) → b ≡ false → b ≡ true → fails ≡ true
never b off on = cc

prepares-own : (g : Gxid) (writers ps awaited : List Node) (fails : Bool) → Fails fails (dtx.prepares g writers ps awaited fails)
prepares-own g writers ps [] true = λ on. refl
prepares-own g writers ps [] false = λ on. on
prepares-own g writers ps (i ∷ is) fails = λ on. absurd (cc)

finishes-own : (g : Gxid) (ps awaited : List Node) → is_own (dtx.finishes g ps awaited).out.outcome ≡ false
finishes-own g ps [] = ends-own g ps
finishes-own g ps (i ∷ is) = refl

forgets-own : (awaited : List Node) → is_own (dtx.forgets awaited).out.outcome ≡ false
forgets-own [] = refl
forgets-own (i ∷ is) = refl

gives-own : (awaited : List Node) → is_own (dtx.gives_up awaited).out.outcome ≡ false
gives-own [] = refl
gives-own (i ∷ is) = refl

takes-own : (g : Gxid) (ps : List Node) (i : Node) (fails : Bool) (p : Stage) (r : Reply) → (i.0 == 0) ≡ false → Fails fails (dtx.takes g ps i fails p r)
takes-own g ps i fails (stage.Preparing writers awaited) reply.Prepared off = prepares-own g writers ps (without i awaited) fails
takes-own g ps i fails (stage.Preparing writers awaited) reply.Jfault off = never (i.0 == 0) off
takes-own g ps i fails (stage.CommittingOne w) reply.Committed off = never (is_own (dtx.ends_committed g ps).out.outcome) (ends-own g ps)
takes-own g ps i fails (stage.CommittingOne w) reply.Jfault off = never (i.0 == 0) off
takes-own g ps i fails (stage.CommittingTwo awaited) reply.Committed off = never (is_own (dtx.finishes g ps (without i awaited)).out.outcome) (finishes-own g ps (without i awaited))
takes-own g ps i fails (stage.Ended awaited) reply.Forgotten off = never (is_own (dtx.forgets (without i awaited)).out.outcome) (forgets-own (without i awaited))
takes-own g ps i fails (stage.Aborting awaited) reply.Aborted off = never (is_own (dtx.gives_up (without i awaited)).out.outcome) (gives-own (without i awaited))
takes-own g ps i fails p r off = λ on. absurd (cc)

reply-own : (g : Gxid) (i : Node) (r : Reply) (fails : Bool) (o : Option Txn) → (i.0 == 0) ≡ false → Fails fails (dtx.reply_found g i r fails o)
reply-own g i r fails None off = λ on. absurd (cc)
reply-own g i r fails (Some t) off = by (dtx.is_awaited t.phase i r)
  where
    by : (b : Bool) → Fails fails (if b then dtx.takes g t.participants i fails t.phase r else dtx.stays)
    by true = takes-own g t.participants i fails t.phase r off
    by false = λ on. absurd (cc)

-- TRANSACTIONS
-- locks that are given back
releases-none : (claims : List Claim) → NoFailures (map (release_mark the_coordinator) claims)
releases-none [] = tt
releases-none (x ∷ xs) = releases-none xs

back-none : (locks : Locks) (g : Gxid) → NoFailures (release_marks the_coordinator locks g)
back-none locks g = releases-none (has_there locks g)

back-may : (fails : Bool) (locks : Locks) (g : Gxid) → MayFail the_coordinator fails (release_marks the_coordinator locks g)
back-may fails locks g = may-none the_coordinator fails (release_marks the_coordinator locks g) (back-none locks g)

refused-may : (b fails : Bool) (g : Gxid) (ms : List Mark) → NoFailures ms → (b ≡ true → fails ≡ true) → MayFail the_coordinator fails ((if b then mark.JournalFailed the_coordinator g ∷ [] else []) ++ mark.Abort g ∷ ms)
refused-may true fails g ms none so = (refl, so refl, none)
refused-may false fails g ms none so = may-none the_coordinator fails ms none

follows-may : (c : Coord) (g : Gxid) (turn : dtx.Turn) (fails : Bool) (o : Outcome) → (is_own o ≡ true → fails ≡ true) → MayFail the_coordinator fails (follows c g turn o).marks
follows-may c g turn fails outcome.Pending so = tt
follows-may c g turn fails outcome.Decided so = tt
follows-may c g turn fails outcome.Committed so = back-may fails c.locks g
follows-may c g turn fails (outcome.Refused i) so = refused-may (i.0 == 0) fails g _ (back-none c.locks g) so
follows-may c g turn fails outcome.Ended so = tt

module _ (fails : Bool) where
  abbrev May : List Mark → Type 0
  May ms = MayFail the_coordinator fails ms

  commits-may : (c : Coord) (g : Gxid) → May (commits c g).marks
  commits-may c g =
      let own = commit-own g (work_of c g).writers (find_txn c.table g) in
      follows-may c g (dtx.on_commit c.table g (work_of c g).writers) fails (dtx.on_commit c.table g (work_of c g).writers).out.outcome (never (is_own (dtx.on_commit c.table g (work_of c g).writers).out.outcome) own)

  status-may : (c : Coord) (g : Gxid) (i : Node) (r : Reply) → (i.0 == 0) ≡ false → May (on_status c g i r fails).marks
  status-may c g i r off = follows-may c g (dtx.on_reply c.table g i r fails) fails (dtx.on_reply c.table g i r fails).out.outcome (reply-own g i r fails (find_txn c.table g) off)

  -- COMMANDS
  fault-none : (g : Gxid) (c : Cid) (line : Stmt) → NoFailures (fault_mark g c line)
  fault-none g c (stmt.Insert table tuples) = tt
  fault-none g c line = tt

  goes-none : (g : Gxid) (c : Cid) (line : Stmt) (r : Reading) (pieces : Result (List Piece) ArithFault) → NoFailures r.marks → NoFailures (goes g c line r pieces).marks
  goes-none g c line r (Ok ps) none = none
  goes-none g c line r (Err fault) none = none-append (r.marks ++ fault_mark g c line) _ (none-append r.marks (fault_mark g c line) none (fault-none g c line)) (back-none r.coord.locks g)

  reads-none : (c : Coord) (g : Gxid) (d : Cid) (w : Work) (line : Stmt) → NoFailures (reads_for c g d w line).marks
  reads-none c g d w (stmt.Lock table mode) = tt
  reads-none c g d w line = by w.snapshot
    where
      by : (o : Option Snapshot) → NoFailures (reads_by c g d w o).marks
      by None = tt
      by (Some x) = tt

  locked-may : (script : Script) (c : Coord) (g : Gxid) (line : Stmt) → May (goes_on_locked script c g line).marks
  locked-may script c g line =
      let cid = next_cid (work_of c g) in
      may-none the_coordinator fails (goes_on_locked script c g line).marks (goes-none g cid line (reads_for c g cid (work_of c g) line) (plan_of script.segments (dist_of script.tables (table_of line)) g cid line) (reads-none c g cid (work_of c g) line))

  -- with its table's lock
  request-may : (script : Script) (c : Coord) (g : Gxid) (line : Stmt) (o : Option Claim) → May (requests script c g line o).marks
  request-may script c g line None = locked-may script c g line
  request-may script c g line (Some wanted) = by (is_clear c.locks.holds c.locks.waits wanted)
    where
      by : (b : Bool) → May (if_granted script c g line wanted b).marks
      by true = locked-may script (record c { locks = with_hold c.locks wanted }) g line
      by false = tt

  dispatch-may : (script : Script) (c : Coord) (g : Gxid) (line : Stmt) → May (dispatches script c g line).marks
  dispatch-may script c g line = request-may script c g line (table_lock script g line)

  resume-may : (script : Script) (c : Coord) (g : Gxid) (wait : Option Claim) (line : Option Stmt) → May (resumes script c g wait line).marks
  resume-may script c g (Some wanted) (Some line) =
      locked-may script (with_work (record c { locks = resumed c.locks g (Some wanted) }) g (record (work_of c g) { waiting = None })) g line
  resume-may script c g None line = tt
  resume-may script c g (Some wanted) None = tt

  -- LINES
  line-may : (script : Script) (c : Coord) (s : SessionId) (line : Stmt) (asked : LineStep) → May (on_line script c s line asked).marks
  line-may script c s line (step.Answer plain) = tt
  line-may script c s line step.InFailedBlock = tt
  line-may script c s line step.NotInBlock = tt
  line-may script c s line (step.BeginBlock level) = tt
  line-may script c s line step.CommitBlock = commits-may c (session_of c s).transaction
  line-may script c s line step.RollbackBlock = back-may fails c.locks (session_of c s).transaction
  line-may script c s line (step.Command true) = dispatch-may script (begins c s ReadCommitted) c.table.next line
  line-may script c s line (step.Command false) = dispatch-may script c (session_of c s).transaction line

  start-may : (script : Script) (c : Coord) (s : SessionId) (o : Option Stmt) → May (starts script c s o).marks
  start-may script c s None = tt
  start-may script c s (Some line) = line-may script (starts_line c s (line_step (session_of c s).state.block line)) s line (line_step (session_of c s).state.block line)

  end-may : (c : Coord) (s : SessionId) (b : Block) → May (ends_in c s b).marks
  end-may c s (block.Open l) = back-may fails c.locks (session_of c s).transaction
  end-may c s block.Failed = tt
  end-may c s block.Outside = tt

  -- ANSWERS
  completes-may : (c : Coord) (g : Gxid) (b : Block) → May (completes c g b).marks
  completes-may c g block.Outside = commits-may c g
  completes-may c g (block.Open l) = tt
  completes-may c g block.Failed = tt

  goes-on-may : (c : Coord) (g : Gxid) (is : List Node) → May (goes_on c g is).marks
  goes-on-may c g [] = completes-may c g (session_of c (work_of c g).session).state.block
  goes-on-may c g (i ∷ is) = tt

  done-may : (c : Coord) (g : Gxid) (i : Node) (d : Cid) (wrote : Bool) (count : ℕ) (part : Part) (o : Option Command) → May (on_done c g i d wrote count part o).marks
  done-may c g i d wrote count part None = tt
  done-may c g i d wrote count part (Some k) = by (is_awaited k i d && fits_part k.stmt part)
    where
      by : (b : Bool) → May (if b then takes_done c g i wrote count part k else rests c).marks
      by true = goes-on-may (with_work c g (record (work_of c g) { writers = writers_with wrote i (work_of c g).writers; command = Some (with_done k i count part) })) g (with_done k i count part).awaited
      by false = tt

  failed-may : (c : Coord) (g : Gxid) (i : Node) (d : Cid) (why : Cause) (o : Option Command) → May (on_failed c g i d why o).marks
  failed-may c g i d why None = tt
  failed-may c g i d why (Some k) = by (is_awaited k i d)
    where
      by : (b : Bool) → May (if b then is_refused c g (dtx.on_abort c.table g) [] (reason_of why) else rests c).marks
      by true = back-may fails c.locks g
      by false = tt

  answer-may : (c : Coord) (g : Gxid) (i : Node) (r : Reply) → (i.0 == 0) ≡ false → May (on_answer c g i fails r).marks
  answer-may c g i (reply.Done d wrote count part) off = done-may c g i d wrote count part (work_of c g).command
  answer-may c g i (reply.Failed d why) off = failed-may c g i d why (work_of c g).command
  answer-may c g i r off = status-may c g i r off

  message-may : (c : Coord) (from : Node) (m : Message) → (from.0 == 0) ≡ false → May (on_message c from fails m).marks
  message-may c from (message.Answer g r) off = answer-may c g from r off
  message-may c from (message.Graph round graph) off = graph-ways (λ (t : CoordTurn). May t.marks) c from round graph tt (λ r. tt) (λ r a. tt)
  message-may c from m off = tt

  resends-may : (c : Coord) (i : Node) (o : Option Message) → May (resends c i o).marks
  resends-may c i None = tt
  resends-may c i (Some m) = tt

  -- ALL EVENTS
  no-coordinator : (script : Script) (from : Node) → is_segment script from ≡ true → (from.0 == 0) ≡ false
  no-coordinator script from is = grind (arith, nat_tests)

  event-may : (script : Script) (c : Coord) (x : NodeEvent) → coord_can script c x ≡ true → May (on_event script c x fails).marks
  event-may script c (here.Deliver from envelope) can = message-may c from envelope.message (no-coordinator script from can)
  event-may script c (here.Start s) can = start-may script c s (next_line script c s)
  event-may script c (here.End s) can = end-may c s (session_of c s).state.block
  event-may script c (here.Resend i (Some g)) can = resends-may c i (awaited c g i)
  event-may script c (here.Resend i None) can = resends-may c i (awaited_collect c i)
  event-may script c (here.Resume g) can = resume-may script c g (wait_of c.locks g) (work_of c g).waiting
  event-may script c x can = tt

  turn-may : (script : Script) (c : Coord) (x : NodeEvent) → coord_can script c x ≡ true → May (coord_turn script c x fails).marks
  turn-may script c x can = may-sent the_coordinator fails (on_event script c x fails).marks (on_event script c x fails).coord.sent (on_event script c x fails).outs (event-may script c x can)

  -- a victim appends nothing
  cancel-none : (c : Coord) (g : Gxid) → NoFailures (cancel_turn c g).marks
  cancel-none c g =
      none-append (cancels c g).marks _ (cancel-ways (λ (t : CoordTurn). NoFailures t.marks) c g tt (λ live busy. back-none c.locks g)) (none-sent (cancels c g).coord.sent (cancels c g).outs)

  pub coordinator-may : (script : Script) (c : Coord) (x : NodeEvent) → coord_can script c x ≡ true → May (coord_rule script c x fails).marks
  coordinator-may script c x can =
      cancels_all-each (λ (t : CoordTurn). May t.marks) (λ turn g may. may-append the_coordinator fails turn.marks (cancel_turn turn.coord g).marks may (cancel-none turn.coord g)) (victims_at c x) (coord_turn script c x fails) (turn-may script c x can)
