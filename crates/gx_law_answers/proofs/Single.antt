-- A repeatable-read transaction takes one snapshot.
use Rattle.std.proofs.Common.{◌≡◌, ◌≤◌, ◌<◌, ◌⊎◌, inl, inr, ℕ, zero, suc, ◌+◌, List, [], ◌∷◌, ◌++◌, Option, Some, None, Result, Ok, Err, Bool, true, false, refl, sym, subst, ap, ◌∙◌, ◌||◌, ◌&&◌, if◌then◌else◌, arith, eqb, length}
use Rattle.std.proofs.lemmas.Bool.Decides.{nat_tests}
use Rattle.std.specs.Prelude.{◌==◌, slice_get, map}
use Rattle.std.proofs.lemmas.Bool.{or_right}
use Rattle.gx_lemmas.proofs.Numbers.{eqb-self, one-le-zero}
use Rattle.gx_lemmas.proofs.Tests.{true-false}
use Rattle.gx_lemmas.proofs.Options.{some-same}
use Rattle.gx_ids.specs.declared.ids.Cid.{Cid}
use Rattle.gx_ids.specs.declared.ids.Gxid.{Gxid}
use Rattle.gx_ids.specs.declared.ids.Node.{Node}
use Rattle.gx_ids.specs.declared.ids.SessionId.{SessionId}
use Rattle.gx_tree.specs.declared.stmt.Level.{Level}
use Rattle.gx_tree.specs.declared.stmt.Level.TheVariants.{ReadCommitted, RepeatableRead}
use Rattle.gx_tree.specs.declared.stmt.Stmt.{Stmt}
use Rattle.gx_tree.specs.declared.stmt.Stmt.TheVariants as stmt
use Rattle.gx_dsnap.specs.declared.snapshot.Snapshot.{Snapshot}
use Rattle.gx_dtx.specs.Rules.{Turn, on_abort, on_commit, on_reply}
use Rattle.gx_dtx.specs.declared.outcome.Outcome.{Outcome}
use Rattle.gx_dtx.specs.declared.outcome.Outcome.TheVariants as outcome
use Rattle.gx_meaning.specs.declared.fault.ArithFault.{ArithFault}
use Rattle.gx_msg.specs.declared.message.Message.{Message}
use Rattle.gx_msg.specs.declared.message.Message.TheVariants as message
use Rattle.gx_msg.specs.declared.message.Out.{Out}
use Rattle.gx_msg.specs.declared.reply.Reply.{Reply}
use Rattle.gx_msg.specs.declared.reply.Reply.TheVariants as reply
use Rattle.gx_meaning.specs.Plan.{plan_of}
use Rattle.gx_meaning.specs.declared.piece.Piece.{Piece}
use Rattle.gx_script.specs.declared.Script.{Script}
use Rattle.gx_script.specs.Session.{after_line, line_step}
use Rattle.gx_script.specs.declared.line_step.LineStep.{LineStep}
use Rattle.gx_script.specs.declared.line_step.LineStep.TheVariants as step
use Rattle.gx_script.specs.declared.state.Block.{Block}
use Rattle.gx_script.specs.declared.state.Block.TheVariants as block
use Rattle.gx_store.specs.declared.answer.Refused.TheVariants.{Victim}
use Rattle.gx_store.specs.declared.mark.Mark.{Mark}
use Rattle.gx_store.specs.declared.mark.Mark.TheVariants as mark
use Rattle.gx_store.specs.declared.node.NodeEvent.{NodeEvent}
use Rattle.gx_store.specs.declared.node.NodeEvent.TheVariants as here
use Rattle.gx_store.specs.declared.run.Step.{Step}
use Rattle.gx_store.specs.Lines.{stmt_of}
use Rattle.gx_store.specs.Marks.{has_snapshot, is_same_gxid}
use Rattle.gx_store.specs.Ordered.{IsAtNode}
use Rattle.gx_store.specs.Points.{marks_in}
use Rattle.gx_store.specs.Writes.{dist_of}
use Rattle.gx_store.specs.Refusals.{the_coordinator}
use Rattle.gx_rules.specs.AtCoordinator.{Reading, awaited, awaited_collect, begins, cancel_turn, commits, completes, coord_can, coord_turn, dispatches, ends_in, fault_mark, follows, goes, goes_on, is_refused, next_cid, next_line, on_answer, on_event, on_failed, on_done, on_line, on_message, on_status, reads_by, reads_for, resends, starts, starts_line, table_of, takes_done, with_done, writers_with, goes_on_locked, if_granted, requests, resumes}
use Rattle.gx_store.specs.Locks.{table_lock}
use Rattle.gx_rules.specs.Coordinators.{Command, Coord, CoordTurn, Work, rests, session_of, with_work, work_of}
use Rattle.gx_rules.specs.AtSegment.{seg_rule}
use Rattle.gx_rules.specs.Machine.{World, and_cancelled, coord_did, new_world, seg_did, world_of}
use Rattle.gx_rules.proofs.Rounds.{cancel-ways, graph-ways}
use Rattle.gx_rules.specs.Sending.{counted, numbered}
use Rattle.gx_law_order.proofs.Induction.{at-events, marks-by-event, marks-by-victim}
use Rattle.gx_law_order.specs.Lists.{Each}
use Rattle.gx_law_order.proofs.Ordered.{seg_marks}
use Rattle.gx_law_order.proofs.Sent.{at}
use Rattle.gx_law_order.proofs.More.{marks-last}
use Rattle.gx_law_order.proofs.World.{Knows, moves_knows}
use Rattle.gx_law_order.specs.Scanned.{began_from}
use Rattle.gx_law_order.specs.Orders.{level_by}
use Rattle.gx_law_order.specs.Standing.{HasSnapshot, IsStanding, Owns, Roots, Stands}
use Rattle.gx_law_order.proofs.Others.{began-kept}
use Rattle.gx_law_order.proofs.Stepping.{Holds}
use Rattle.gx_law_order.proofs.WaitingLines.{Began, going-began}
use Rattle.gx_law_order.proofs.Legality.{moves-holds}
use Rattle.gx_law_answers.specs.Earned.{Events}
use Rattle.gx_rules.specs.Locks.{has_there, release_mark, release_marks, with_hold}
use Rattle.gx_waits.specs.declared.claim.Claim.{Claim}
use Rattle.gx_locks.specs.Locks.{Locks, resumed, wait_of}
use Rattle.gx_waits.specs.Claims.{is_clear}

-- MARKS WITH ONE SNAPSHOT AT MOST
abbrev NoSnaps : List Mark → Type 0
NoSnaps [] = Unit {0}
NoSnaps (mark.Snap g d x ∷ ms) = ⊥
NoSnaps (_ ∷ ms) = NoSnaps ms

-- of a transaction of which this holds
abbrev OneSnap : (Gxid → Type 0) → List Mark → Type 0
OneSnap P [] = Unit {0}
OneSnap P (mark.Snap g d x ∷ ms) = P g × NoSnaps ms
OneSnap P (_ ∷ ms) = OneSnap P ms

none-append : (xs ys : List Mark) → NoSnaps xs → NoSnaps ys → NoSnaps (xs ++ ys)
none-append [] ys e f = f
none-append (mark.Snap g d x ∷ xs) ys e f = absurd e
none-append (m ∷ xs) ys e f = none-append xs ys e f

numbered-none : (f : ℕ → ℕ) (outs : List Out) → NoSnaps (numbered f outs)
numbered-none f [] = tt
numbered-none f (o ∷ outs) = numbered-none (counted f o) outs

-- locks that are given back
releases-none : (claims : List Claim) → NoSnaps (map (release_mark the_coordinator) claims)
releases-none [] = tt
releases-none (x ∷ xs) = releases-none xs

back-none : (locks : Locks) (g : Gxid) → NoSnaps (release_marks the_coordinator locks g)
back-none locks g = releases-none (has_there locks g)

module _ (P : Gxid → Type 0) where
  none-one : (ms : List Mark) → NoSnaps ms → OneSnap P ms
  none-one [] e = tt
  none-one (mark.Snap g d x ∷ ms) e = absurd e
  none-one (m ∷ ms) e = none-one ms e

  one-append : (xs ys : List Mark) → OneSnap P xs → NoSnaps ys → OneSnap P (xs ++ ys)
  one-append [] ys e f = none-one ys f
  one-append (mark.Snap g d x ∷ xs) ys e f = (e.0, none-append xs ys e.1 f)
  one-append (m ∷ xs) ys e f = one-append xs ys e f

  -- THE COORDINATOR'S EVENTS
  refused-none : (b : Bool) (n : Node) (g : Gxid) (ms : List Mark) → NoSnaps ms → NoSnaps ((if b then mark.JournalFailed n g ∷ [] else []) ++ mark.Abort g ∷ ms)
  refused-none true n g ms e = e
  refused-none false n g ms e = e

  follows-none : (c : Coord) (g : Gxid) (t : Turn) (o : Outcome) → NoSnaps (follows c g t o).marks
  follows-none c g t outcome.Pending = tt
  follows-none c g t outcome.Decided = tt
  follows-none c g t outcome.Committed = back-none c.locks g
  follows-none c g t (outcome.Refused i) = refused-none (i.0 == 0) the_coordinator g _ (back-none c.locks g)
  follows-none c g t outcome.Ended = tt

  commits-none : (c : Coord) (g : Gxid) → NoSnaps (commits c g).marks
  commits-none c g = follows-none c g (on_commit c.table g (work_of c g).writers) (on_commit c.table g (work_of c g).writers).out.outcome

  status-none : (c : Coord) (g : Gxid) (i : Node) (r : Reply) (fails : Bool) → NoSnaps (on_status c g i r fails).marks
  status-none c g i r fails = follows-none c g (on_reply c.table g i r fails) (on_reply c.table g i r fails).out.outcome

  fault-none : (g : Gxid) (c : Cid) (line : Stmt) → NoSnaps (fault_mark g c line)
  fault-none g c (stmt.Insert table tuples) = tt
  fault-none g c line = tt

  goes-one : (g : Gxid) (c : Cid) (line : Stmt) (r : Reading) (pieces : Result (List Piece) ArithFault) → OneSnap P r.marks → OneSnap P (goes g c line r pieces).marks
  goes-one g c line r (Ok ps) e = e
  goes-one g c line r (Err fault) e = one-append (r.marks ++ fault_mark g c line) _ (one-append r.marks (fault_mark g c line) e (fault-none g c line)) (back-none r.coord.locks g)

  reads-one : (c : Coord) (g : Gxid) (d : Cid) (w : Work) (line : Stmt) → (w.snapshot ≡ None → P g) → OneSnap P (reads_for c g d w line).marks
  reads-one c g d w (stmt.Lock table mode) p = tt
  reads-one c g d w line p = by w.snapshot p
    where
      by : (o : Option Snapshot) → (o ≡ None → P g) → OneSnap P (reads_by c g d w o).marks
      by None q = (q refl, tt)
      by (Some x) q = tt

  locked-one : (script : Script) (c : Coord) (g : Gxid) (line : Stmt) → ((work_of c g).snapshot ≡ None → P g) → OneSnap P (goes_on_locked script c g line).marks
  locked-one script c g line p = goes-one g (next_cid (work_of c g)) line (reads_for c g (next_cid (work_of c g)) (work_of c g) line) (plan_of script.segments (dist_of script.tables (table_of line)) g (next_cid (work_of c g)) line) (reads-one c g (next_cid (work_of c g)) (work_of c g) line p)

  -- with its table's lock
  request-one : (script : Script) (c : Coord) (g : Gxid) (line : Stmt) → ((work_of c g).snapshot ≡ None → P g) → (o : Option Claim) → OneSnap P (requests script c g line o).marks
  request-one script c g line p None = locked-one script c g line p
  request-one script c g line p (Some wanted) = by_test (is_clear c.locks.holds c.locks.waits wanted)
    where
      by_test : (b : Bool) → OneSnap P (if_granted script c g line wanted b).marks
      by_test true = locked-one script (record c { locks = with_hold c.locks wanted }) g line p
      by_test false = tt

  dispatch-one : (script : Script) (c : Coord) (g : Gxid) (line : Stmt) → ((work_of c g).snapshot ≡ None → P g) → OneSnap P (dispatches script c g line).marks
  dispatch-one script c g line p = request-one script c g line p (table_lock script g line)

  on-one : (script : Script) (c : Coord) (s : SessionId) (line : Stmt) (asked : LineStep) → P c.table.next → (asked ≡ step.Command false → (work_of c (session_of c s).transaction).snapshot ≡ None → P (session_of c s).transaction) → OneSnap P (on_line script c s line asked).marks
  on-one script c s line (step.Answer plain) new inside = tt
  on-one script c s line step.InFailedBlock new inside = tt
  on-one script c s line step.NotInBlock new inside = tt
  on-one script c s line (step.BeginBlock level) new inside = tt
  on-one script c s line step.CommitBlock new inside = none-one (commits c (session_of c s).transaction).marks (commits-none c (session_of c s).transaction)
  on-one script c s line step.RollbackBlock new inside = none-one (release_marks the_coordinator c.locks (session_of c s).transaction) (back-none c.locks (session_of c s).transaction)
  on-one script c s line (step.Command true) new inside = dispatch-one script (begins c s ReadCommitted) c.table.next line (λ e. new)
  on-one script c s line (step.Command false) new inside = dispatch-one script c (session_of c s).transaction line (inside refl)

  completes-none : (c : Coord) (g : Gxid) (b : Block) → NoSnaps (completes c g b).marks
  completes-none c g block.Outside = commits-none c g
  completes-none c g (block.Open l) = tt
  completes-none c g block.Failed = tt

  goes_on-none : (c : Coord) (g : Gxid) (is : List Node) → NoSnaps (goes_on c g is).marks
  goes_on-none c g [] = completes-none c g (session_of c (work_of c g).session).state.block
  goes_on-none c g (i ∷ is) = tt

  done-none : (c : Coord) (g : Gxid) (i : Node) (d : Cid) (wrote : Bool) (count : ℕ) (part : Rattle.gx_tree.specs.declared.part.Part.Part) (o : Option Command) → NoSnaps (on_done c g i d wrote count part o).marks
  done-none c g i d wrote count part None = tt
  done-none c g i d wrote count part (Some k) = by (Rattle.gx_rules.specs.AtCoordinator.is_awaited k i d && Rattle.gx_rules.specs.Fits.fits_part k.stmt part)
    where
      by : (b : Bool) → NoSnaps (if b then takes_done c g i wrote count part k else rests c).marks
      by true = goes_on-none (with_work c g (record (work_of c g) { writers = writers_with wrote i (work_of c g).writers; command = Some (with_done k i count part) })) g (with_done k i count part).awaited
      by false = tt

  failed-none : (c : Coord) (g : Gxid) (i : Node) (d : Cid) (why : Rattle.gx_msg.specs.declared.reply.Cause.Cause) (o : Option Command) → NoSnaps (on_failed c g i d why o).marks
  failed-none c g i d why None = tt
  failed-none c g i d why (Some k) = by (Rattle.gx_rules.specs.AtCoordinator.is_awaited k i d)
    where
      by : (b : Bool) → NoSnaps (if b then is_refused c g (on_abort c.table g) [] (Rattle.gx_rules.specs.AtCoordinator.reason_of why) else rests c).marks
      by true = back-none c.locks g
      by false = tt

  answer-none : (c : Coord) (g : Gxid) (i : Node) (fails : Bool) (r : Reply) → NoSnaps (on_answer c g i fails r).marks
  answer-none c g i fails (reply.Done d wrote count part) = done-none c g i d wrote count part (work_of c g).command
  answer-none c g i fails (reply.Failed d why) = failed-none c g i d why (work_of c g).command
  answer-none c g i fails r = status-none c g i r fails

  message-none : (c : Coord) (from : Node) (fails : Bool) (m : Message) → NoSnaps (on_message c from fails m).marks
  message-none c from fails (message.Answer g r) = answer-none c g from fails r
  message-none c from fails (message.Graph round graph) = graph-ways (λ (t : CoordTurn). NoSnaps t.marks) c from round graph tt (λ noted. tt) (λ noted all. tt)
  message-none c from fails m = tt

  cancel-none : (c : Coord) (g : Gxid) → NoSnaps (cancel_turn c g).marks
  cancel-none c g =
      cancel-ways (λ (t : CoordTurn). NoSnaps (t.marks ++ numbered t.coord.sent t.outs)) c g tt
      (λ live busy.
      let turn : CoordTurn = is_refused c g (on_abort c.table g) [] (Victim c.rounds) in
      none-append turn.marks (numbered turn.coord.sent turn.outs) (back-none c.locks g) (numbered-none turn.coord.sent turn.outs))

  resends-none : (c : Coord) (i : Node) (o : Option Message) → NoSnaps (resends c i o).marks
  resends-none c i None = tt
  resends-none c i (Some m) = tt

  ends-none : (c : Coord) (s : SessionId) (b : Block) → NoSnaps (ends_in c s b).marks
  ends-none c s (block.Open l) = back-none c.locks (session_of c s).transaction
  ends-none c s block.Failed = tt
  ends-none c s block.Outside = tt

-- only a line in an open block is a command of its block's transaction
in-block : (b : Block) (line : Stmt) → line_step b line ≡ step.Command false → (l : Level) × (b ≡ block.Open l)
in-block (block.Open l) line e = (l, refl)
in-block block.Outside (stmt.Begin l) e = absurd (cc)
in-block block.Outside stmt.Commit e = absurd (cc)
in-block block.Outside stmt.Rollback e = absurd (cc)
in-block block.Outside (stmt.Select q) e = absurd (cc)
in-block block.Outside (stmt.Insert t x) e = absurd (cc)
in-block block.Outside (stmt.Update t x y) e = absurd (cc)
in-block block.Outside (stmt.Delete t x) e = absurd (cc)
in-block block.Outside (stmt.Lock t m) e = absurd (cc)
in-block block.Failed (stmt.Begin l) e = absurd (cc)
in-block block.Failed stmt.Commit e = absurd (cc)
in-block block.Failed stmt.Rollback e = absurd (cc)
in-block block.Failed (stmt.Select q) e = absurd (cc)
in-block block.Failed (stmt.Insert t x) e = absurd (cc)
in-block block.Failed (stmt.Update t x y) e = absurd (cc)
in-block block.Failed (stmt.Delete t x) e = absurd (cc)
in-block block.Failed (stmt.Lock t m) e = absurd (cc)

-- WHO MAY TAKE A SNAPSHOT
-- the line that began the transaction is known, and makes it read committed
pub record IsCommittedReader (script : Script) (ms : List Mark) (g : Gxid) : Type 0 where
  pub began : SessionId × ℕ
  pub is : began_from [] ms g ≡ Some began
  pub level : level_by (stmt_of began.0 began.1 script.lines) ≡ ReadCommitted

abbrev MayTake : Script → List Mark → Gxid → Type 0
MayTake script ms g = (has_snapshot ms g ≡ false) ⊎ IsCommittedReader script ms g

module _ (script : Script) (k : SessionId) (ms : List Mark) (next commands lines : ℕ) (g : Gxid) (v : Work) where
  takes-in : (l : Level) → Owns k commands ms next (block.Open l) g v → (p : Rattle.gx_script.specs.declared.state.Pending.Pending) → Roots script k ms (block.Open l) p lines g v → v.snapshot ≡ None → MayTake script ms g
  takes-in ReadCommitted o p r e = inr (record { began = (k, r.first); is = r.began; level = ap level_by r.opening })
  takes-in RepeatableRead o p r e = inl (subst (λ x. HasSnapshot RepeatableRead ms g x) e (subst (λ y. HasSnapshot y ms g v.snapshot) o.level o.snapshot))

module _ (script : Script) (w : World) (h : Holds script w) where
  abbrev before : List Mark
  before = marks_in w.steps

  abbrev May : Gxid → Type 0
  May g = MayTake script before g

  new-may : May w.coord.table.next
  new-may = inl (h.fresh.unread w.coord.table.next (same w.coord.table.next.0))
    where
      same : (a : ℕ) → a ≤ a
      same a = omega arith

  inside-may : (s : SessionId) (l : Level) → (session_of w.coord s).state.block ≡ block.Open l → (work_of w.coord (session_of w.coord s).transaction).snapshot ≡ None → May (session_of w.coord s).transaction
  inside-may s l b none = by (h.sessions s).stands
    where
      no-block : block.Open l ≡ block.Outside → ⊥
      no-block e = cc

      by : IsStanding script s before w.coord.table.next.0 (session_of w.coord s).state.block (session_of w.coord s).state.pending (session_of w.coord s).lines (session_of w.coord s).transaction (work_of w.coord (session_of w.coord s).transaction) (Rattle.gx_store.specs.Points.ends_in s w.steps) → May (session_of w.coord s).transaction
      by (inl a) =
          let stands = subst (λ x. Stands script s before w.coord.table.next.0 x (session_of w.coord s).state.pending (session_of w.coord s).lines (session_of w.coord s).transaction (work_of w.coord (session_of w.coord s).transaction)) b a.1 in
          let owned = stands.owns refl in
          takes-in script s before w.coord.table.next.0 stands.commands (session_of w.coord s).lines (session_of w.coord s).transaction (work_of w.coord (session_of w.coord s).transaction) l owned.0 (session_of w.coord s).state.pending owned.2 none
      by (inr a) = absurd (no-block (sym b ∙ a.1.outside))

  start-one : (s : SessionId) (o : Option Stmt) → OneSnap May (starts script w.coord s o).marks
  start-one s None = tt
  start-one s (Some line) = on-one May script (starts_line w.coord s asked) s line asked new-may inside
    where
      asked : LineStep
      asked = line_step (session_of w.coord s).state.block line

      same : (session_of (starts_line w.coord s (line_step (session_of w.coord s).state.block line)) s).transaction ≡ (session_of w.coord s).transaction
      same = ap (λ b. (if b then record (session_of w.coord s) { lines = (session_of w.coord s).lines + 1; state = after_line (session_of w.coord s).state.block (line_step (session_of w.coord s).state.block line) } else session_of w.coord s).transaction) (eqb-self s.0)

      inside : line_step (session_of w.coord s).state.block line ≡ step.Command false → (work_of w.coord (session_of (starts_line w.coord s (line_step (session_of w.coord s).state.block line)) s).transaction).snapshot ≡ None → May (session_of (starts_line w.coord s (line_step (session_of w.coord s).state.block line)) s).transaction
      inside e none =
          let b = in-block (session_of w.coord s).state.block line e in
          subst May (sym same) (inside-may s b.0 b.1 (subst (λ g. (work_of w.coord g).snapshot ≡ None) same none))

  -- a statement that goes out behind a wait
  begun-may : (g : Gxid) → Began script before g (work_of w.coord g) → (work_of w.coord g).snapshot ≡ None → May g
  begun-may g b none = by_level (work_of w.coord g).level refl
    where
      by_level : (l : Level) → (work_of w.coord g).level ≡ l → May g
      by_level ReadCommitted e = inr (record { began = b.by; is = b.is; level = sym b.level ∙ e })
      by_level RepeatableRead e = inl (subst (λ x. HasSnapshot RepeatableRead before g x) none (subst (λ l. HasSnapshot l before g (work_of w.coord g).snapshot) e b.snapshot))

  resume-one : (g : Gxid) → Began script before g (work_of w.coord g) → (wanted : Option Claim) (line : Option Stmt) → OneSnap May (resumes script w.coord g wanted line).marks
  resume-one g b (Some wanted) (Some line) =
      locked-one May script (with_work (record w.coord { locks = resumed w.coord.locks g (Some wanted) }) g (record (work_of w.coord g) { waiting = None })) g line
      (λ none. begun-may g b (sym same ∙ none))
    where
      same : (if eqb g.0 g.0 then record (work_of w.coord g) { waiting = None } else work_of w.coord g).snapshot ≡ (work_of w.coord g).snapshot
      same = ap (λ b. (if b then record (work_of w.coord g) { waiting = None } else work_of w.coord g).snapshot) (eqb-self g.0)
  resume-one g b (Some wanted) None = tt
  resume-one g b None line = tt

  event-one : Knows script w → (x : NodeEvent) (fails : Bool) → coord_can script w.coord x ≡ true → OneSnap May (on_event script w.coord x fails).marks
  event-one n (here.Deliver from envelope) fails ok = none-one May (on_message w.coord from fails envelope.message).marks (message-none May w.coord from fails envelope.message)
  event-one n (here.Start s) fails ok = start-one s (next_line script w.coord s)
  event-one n (here.End s) fails ok = none-one May (ends_in w.coord s (session_of w.coord s).state.block).marks (ends-none May w.coord s (session_of w.coord s).state.block)
  event-one n (here.Resend i None) fails ok = none-one May (resends w.coord i (awaited_collect w.coord i)).marks (resends-none May w.coord i (awaited_collect w.coord i))
  event-one n (here.Resend i (Some g)) fails ok = none-one May (resends w.coord i (awaited w.coord g i)).marks (resends-none May w.coord i (awaited w.coord g i))
  event-one n (here.Resume g) fails ok = resume-one g (going-began script w n h g ok) (wait_of w.coord.locks g) (work_of w.coord g).waiting
  event-one n here.Round fails ok = tt

  turn-one : Knows script w → (x : NodeEvent) (fails : Bool) → coord_can script w.coord x ≡ true → OneSnap May (coord_turn script w.coord x fails).marks
  turn-one n x fails ok =
      one-append May (on_event script w.coord x fails).marks (numbered (on_event script w.coord x fails).coord.sent (on_event script w.coord x fails).outs) (event-one n x fails ok)
      (numbered-none (on_event script w.coord x fails).coord.sent (on_event script w.coord x fails).outs)

-- TWO SNAPSHOTS
-- of who has two snapshots among the marks
abbrev pub AreReaders : Script → List Mark → Type 0
AreReaders script ms = (g : Gxid) (p q : ℕ) (d e : Cid) (x y : Snapshot) → p < q → slice_get ms p ≡ Some (mark.Snap g d x) → slice_get ms q ≡ Some (mark.Snap g e y) → IsCommittedReader script ms g

has-snap : (g : Gxid) (d : Cid) (x : Snapshot) (ms : List Mark) (p : ℕ) → slice_get ms p ≡ Some (mark.Snap g d x) → has_snapshot ms g ≡ true
has-snap g d x [] p e = absurd (cc)
has-snap g d x (m ∷ ms) zero e = subst (λ y. has_snapshot (y ∷ ms) g ≡ true) (sym (some-same m (mark.Snap g d x) e)) (first g (has_snapshot ms g))
  where
    first : (g : Gxid) (b : Bool) → (is_same_gxid g g || b) ≡ true
    first g b = grind (arith, nat_tests)
has-snap g d x (mark.Snap h f y ∷ ms) (suc p) e = or_right (is_same_gxid h g) (has_snapshot ms g) (has-snap g d x ms p e)
has-snap g d x (m ∷ ms) (suc p) e = has-snap g d x ms p e

none-at : (g : Gxid) (d : Cid) (x : Snapshot) (ms : List Mark) (p : ℕ) → NoSnaps ms → slice_get ms p ≡ Some (mark.Snap g d x) → ⊥
none-at g d x [] p n e = cc
none-at g d x (m ∷ ms) zero n e = subst (λ y. NoSnaps (y ∷ ms)) (some-same m (mark.Snap g d x) e) n
none-at g d x (mark.Snap h f y ∷ ms) (suc p) n e = n
none-at g d x (m ∷ ms) (suc p) n e = none-at g d x ms p n e

one-at : (P : Gxid → Type 0) (g : Gxid) (d : Cid) (x : Snapshot) (ms : List Mark) (q : ℕ) → OneSnap P ms → slice_get ms q ≡ Some (mark.Snap g d x) → P g
one-at P g d x [] q o e = absurd (cc)
one-at P g d x (m ∷ ms) zero o e = (subst (λ y. OneSnap P (y ∷ ms)) (some-same m (mark.Snap g d x) e) o).0
one-at P g d x (mark.Snap h f y ∷ ms) (suc q) o e = absurd (none-at g d x ms q o.1 e)
one-at P g d x (m ∷ ms) (suc q) o e = one-at P g d x ms q o e

no-two : (P : Gxid → Type 0) (g : Gxid) (d e : Cid) (x y : Snapshot) (ms : List Mark) (p q : ℕ) → OneSnap P ms → p < q → slice_get ms p ≡ Some (mark.Snap g d x) → slice_get ms q ≡ Some (mark.Snap g e y) → ⊥
no-two P g d e x y [] p q o l a b = cc
no-two P g d e x y (m ∷ ms) p zero o l a b = absurd (omega (arith, l))
no-two P g d e x y (m ∷ ms) zero (suc q) o l a b = none-at g e y ms q (subst (λ z. OneSnap P (z ∷ ms)) (some-same m (mark.Snap g d x) a) o).1 b
no-two P g d e x y (mark.Snap h f z ∷ ms) (suc p) (suc q) o l a b = none-at g d x ms p o.1 a
no-two P g d e x y (m ∷ ms) (suc p) (suc q) o l a b = no-two P g d e x y ms p q o (omega (arith, l)) a b

-- a place in an append is old or new
get-split : (xs ys : List Mark) (q : ℕ) (m : Mark) → slice_get (xs ++ ys) q ≡ Some m → ((slice_get xs q ≡ Some m) × (q < length xs)) ⊎ ((j : ℕ) × (slice_get ys j ≡ Some m) × (q ≡ length xs + j))
get-split [] ys q m e = inr (q, e, none q)
  where
    none : (q : ℕ) → q ≡ 0 + q
    none q = omega arith
get-split (x ∷ xs) ys zero m e = inl (e, omega arith)
get-split (x ∷ xs) ys (suc q) m e = more (get-split xs ys q m e)
  where
    more : ((slice_get xs q ≡ Some m) × (q < length xs)) ⊎ ((j : ℕ) × (slice_get ys j ≡ Some m) × (q ≡ length xs + j)) → ((slice_get xs q ≡ Some m) × (suc q < suc (length xs))) ⊎ ((j : ℕ) × (slice_get ys j ≡ Some m) × (suc q ≡ suc (length xs) + j))
    more (inl a) = inl (a.0, omega (arith, a.1))
    more (inr a) = inr (a.0, a.1, omega (arith, a.2))

reader-kept : (script : Script) (ms ns : List Mark) (g : Gxid) → IsCommittedReader script ms g → IsCommittedReader script (ms ++ ns) g
reader-kept script ms ns g r = record { began = r.began; is = began-kept [] ms ns g r.began r.is; level = r.level }

readers-more : (script : Script) (ms ns : List Mark) → AreReaders script ms → OneSnap (MayTake script ms) ns → AreReaders script (ms ++ ns)
readers-more script ms ns u o g p q d e x y l a b = by (get-split ms ns p (mark.Snap g d x) a) (get-split ms ns q (mark.Snap g e y) b)
  where
    from-may : MayTake script ms g → (p : ℕ) → slice_get ms p ≡ Some (mark.Snap g d x) → IsCommittedReader script (ms ++ ns) g
    from-may (inl z) p f = absurd (true-false (has_snapshot ms g) (has-snap g d x ms p f) z)
    from-may (inr r) p f = reader-kept script ms ns g r

    by : ((slice_get ms p ≡ Some (mark.Snap g d x)) × (p < length ms)) ⊎ ((j : ℕ) × (slice_get ns j ≡ Some (mark.Snap g d x)) × (p ≡ length ms + j)) → ((slice_get ms q ≡ Some (mark.Snap g e y)) × (q < length ms)) ⊎ ((j : ℕ) × (slice_get ns j ≡ Some (mark.Snap g e y)) × (q ≡ length ms + j)) → IsCommittedReader script (ms ++ ns) g
    by (inl s) (inl t) = reader-kept script ms ns g (u g p q d e x y l s.0 t.0)
    by (inl s) (inr t) = from-may (one-at (MayTake script ms) g e y ns t.0 o t.1) p s.0
    by (inr s) (inl t) = absurd (omega (arith, l, s.2, t.1))
    by (inr s) (inr t) = absurd (no-two (MayTake script ms) g d e x y ns s.0 t.0 o (omega (arith, l, s.2, t.2)) s.1 t.1)

-- ALL EVENTS
away-none : (script : Script) (i : ℕ) → 1 ≤ i → (ms : List Mark) → Each (IsAtNode script (at i)) ms → NoSnaps ms
away-none script i one [] e = tt
away-none script i one (mark.Snap g d x ∷ ms) e = absurd (one-le-zero i one (ap (λ (n : Node). n.0) e.0))
away-none script i one (m ∷ ms) e = away-none script i one ms e.1

module _ (script : Script) (some : 1 ≤ script.segments) where
  abbrev Known : World → Type 0
  Known w = Knows script w × Holds script w

  abbrev U : World → Type 0
  U w = AreReaders script (marks_in w.steps)

  more : (w : World) (steps : List Step) (ns : List Mark) → U w → marks_in steps ≡ marks_in w.steps ++ ns → OneSnap (MayTake script (marks_in w.steps)) ns → AreReaders script (marks_in steps)
  more w steps ns u same o = subst (AreReaders script) (sym same) (readers-more script (marks_in w.steps) ns u o)

  none : U new_world
  none g p q d e x y l a b = absurd (nothing p g d x a)
    where
      nothing : (p : ℕ) (g : Gxid) (d : Cid) (x : Snapshot) → slice_get [] p ≡ Some (mark.Snap g d x) → ⊥
      nothing p g d x a = cc

  pub are-readers : (es : Events) → AreReaders script (marks_in (world_of script es).steps)
  are-readers =
      at-events script some Known U (λ ms. (moves_knows script some ms, moves-holds script some ms)) none
      (λ w k u e x fails t ok next. more w (coord_did w e (coord_turn script w.coord x fails)).steps (coord_turn script w.coord x fails).marks u (marks-by-event script w e x fails) (turn-one script w k.1 k.0 x fails ok))
      (λ w k u g h next.
      more w (and_cancelled w g).steps (cancel_turn w.coord g).marks u (marks-by-victim w g h) (none-one (MayTake script (marks_in w.steps)) (cancel_turn w.coord g).marks (cancel-none (MayTake script (marks_in w.steps)) w.coord g)))
      (λ w k u e x fails i place t ok next.
      more w (seg_did w (at i) e (seg_rule script (w.segs i) x fails)).steps (seg_rule script (w.segs i) x fails).marks u (marks-last w.steps _)
      (none-one (MayTake script (marks_in w.steps)) (seg_rule script (w.segs i) x fails).marks (away-none script i place.0 (seg_rule script (w.segs i) x fails).marks (seg_marks script w k.0.well e x fails i place))))
