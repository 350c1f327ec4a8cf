-- Where the coordinator's answers stand among its marks.
use Rattle.std.proofs.Common.{◌≡◌, ◌==◌, ◌&&◌, ◌+◌, ◌⊎◌, inl, inr, ℕ, List, [], ◌∷◌, ◌++◌, Option, Some, None, Result, Ok, Err, Bool, true, false, refl, sym, subst, ◌∙◌, if◌then◌else◌}
use Rattle.gx_lemmas.proofs.Options.{none-some}
use Rattle.gx_store.specs.declared.answer.StmtAnswer.{StmtAnswer}
use Rattle.gx_msg.specs.declared.message.Out.{Out}
use Rattle.gx_rules.specs.Sending.{counted, numbered}
use Rattle.gx_law_order.proofs.Releases.{each-released}
use Rattle.gx_dtx.specs.Table.{find_txn}
use Rattle.gx_law_order.proofs.Lists.{each_append}
use Rattle.gx_law_order.specs.Lists.{Each}
use Rattle.gx_law_order.specs.Sessions.{Kept, is_said}
use Rattle.gx_law_order.specs.Stages.{Stage, stage, stage_of}
use Rattle.gx_law_order.specs.Standings.{gx}
use Rattle.gx_law_order.proofs.Statuses.{Moves, Turned, reply-turns}
use Rattle.gx_law_order.specs.Stages.Stage.{Absent, Closing, Dropped, Finished, Live}
use Rattle.gx_law_reads.proofs.Reading.{at-self}
use Rattle.gx_ids.specs.declared.ids.Cid.{Cid}
use Rattle.gx_ids.specs.declared.ids.Gxid.{Gxid}
use Rattle.gx_ids.specs.declared.ids.Node.{Node}
use Rattle.gx_ids.specs.declared.ids.SessionId.{SessionId}
use Rattle.gx_tree.specs.declared.part.Part.{Part}
use Rattle.gx_tree.specs.declared.stmt.Level.TheVariants.{ReadCommitted}
use Rattle.gx_tree.specs.declared.stmt.Stmt.{Stmt}
use Rattle.gx_tree.specs.declared.stmt.Stmt.TheVariants as stmt
use Rattle.gx_dsnap.specs.declared.snapshot.Snapshot.{Snapshot}
use Rattle.gx_dtx.specs.Rules.{Turn, on_abort, on_commit, on_reply}
use Rattle.gx_dtx.specs.declared.outcome.Outcome.{Outcome}
use Rattle.gx_dtx.specs.declared.outcome.Outcome.TheVariants as outcome
use Rattle.gx_locks.specs.Locks.{Locks, resumed}
use Rattle.gx_waits.specs.Claims.{is_clear}
use Rattle.gx_meaning.specs.declared.fault.ArithFault.{ArithFault}
use Rattle.gx_meaning.specs.declared.piece.Piece.{Piece}
use Rattle.gx_msg.specs.declared.message.Message.{Message}
use Rattle.gx_msg.specs.declared.message.Message.TheVariants as message
use Rattle.gx_msg.specs.declared.reply.Cause.{Cause}
use Rattle.gx_msg.specs.declared.reply.Reply.{Reply}
use Rattle.gx_msg.specs.declared.reply.Reply.TheVariants as reply
use Rattle.gx_script.specs.declared.Script.{Script}
use Rattle.gx_script.specs.Session.{line_step}
use Rattle.gx_script.specs.declared.state.Block.{Block}
use Rattle.gx_script.specs.declared.state.Block.TheVariants as block
use Rattle.gx_store.specs.declared.answer.Refused.{Refused}
use Rattle.gx_store.specs.declared.answer.StmtAnswer.TheVariants as told
use Rattle.gx_store.specs.declared.mark.Mark.{Mark}
use Rattle.gx_store.specs.declared.mark.Mark.TheVariants as mark
use Rattle.gx_store.specs.Refusals.{the_coordinator}
use Rattle.gx_store.specs.Writes.{dist_of}
use Rattle.gx_rules.specs.AtCoordinator.{Reading, answer_mark, begins, completes, ends_in, failure_marks, fault_mark, follows, goes, goes_on, goes_on_locked, if_granted, is_awaited, is_refused, next_cid, on_answer, on_done, on_failed, on_line, on_message, on_status, reads_by, reads_for, reason_of, requests, resumes, table_of, takes_done, with_done, writers_with}
use Rattle.gx_store.specs.Locks.{table_lock}
use Rattle.gx_meaning.specs.Plan.{plan_of}
use Rattle.gx_rules.specs.Coordinators.{Command, Coord, CoordTurn, Work, rests, session_of, with_work, work_of}
use Rattle.gx_rules.specs.Fits.{fits_part}
use Rattle.gx_rules.specs.Locks.{release_marks, with_hold}
use Rattle.gx_rules.proofs.Rounds.{graph-ways}
use Rattle.gx_waits.specs.declared.claim.Claim.{Claim}

abbrev pub NoAnswer : Mark → Type 0
NoAnswer (mark.Answer s n a) = ⊥
NoAnswer _ = Unit {0}

-- nor a start, nor a release
abbrev pub Dull : Mark → Type 0
Dull (mark.Answer s n a) = ⊥
Dull (mark.Start g s) = ⊥
Dull (mark.Release n g object mode) = ⊥
Dull _ = Unit {0}

-- only one answer stands among the marks, of which this holds, and of the marks before it that
abbrev pub OneAnswer : (Mark → Type 0) → (SessionId → StmtAnswer → Type 0) → List Mark → Type 0
OneAnswer B Q [] = Unit {0}
OneAnswer B Q (mark.Answer s n a ∷ ms) = Q s a × Each NoAnswer ms
OneAnswer B Q (m ∷ ms) = B m × OneAnswer B Q ms

pub one-more : (B : Mark → Type 0) (Q : SessionId → StmtAnswer → Type 0) (ms : List Mark) (f : ℕ → ℕ) (outs : List Out) → ((to : Node) (number : ℕ) (told : Message) → B (mark.Sent to number told)) → OneAnswer B Q ms → OneAnswer B Q (ms ++ numbered f outs)
one-more B Q [] f [] b e = tt
one-more B Q [] f (o ∷ outs) b e = (b o.node (f o.node.0 + 1) o.message, one-more B Q [] (counted f o) outs b tt)
one-more B Q (mark.Answer s n a ∷ ms) f outs b e = (e.0, each_append NoAnswer ms (numbered f outs) e.1 (sent-none f outs))
  where
    sent-none : (f : ℕ → ℕ) (outs : List Out) → Each NoAnswer (numbered f outs)
    sent-none f [] = tt
    sent-none f (o ∷ outs) = (tt, sent-none (counted f o) outs)
one-more B Q (m ∷ ms) f outs b e = (e.0, one-more B Q ms f outs b e.1)

pushed : (B : Mark → Type 0) (Q : SessionId → StmtAnswer → Type 0) (xs ys : List Mark) → ((s : SessionId) (n : ℕ) (a : StmtAnswer) → B (mark.Answer s n a) → ⊥) → Each B xs → OneAnswer B Q ys → OneAnswer B Q (xs ++ ys)
pushed B Q [] ys apart e f = f
pushed B Q (mark.Answer s n a ∷ xs) ys apart e f = absurd (apart s n a e.0)
pushed B Q (m ∷ xs) ys apart e f = (e.0, pushed B Q xs ys apart e.1 f)

back-none : (locks : Locks) (g : Gxid) → Each NoAnswer (release_marks the_coordinator locks g)
back-none locks g = each-released NoAnswer the_coordinator locks g (λ claim. tt)

-- ANSWERS OF SEGMENTS
abbrev pub IsRefusal : StmtAnswer → Type 0
IsRefusal (told.Refused reason) = Unit {0}
IsRefusal _ = ⊥

-- the session's transaction has no statement that waits
abbrev pub IsServed : Coord → SessionId → Type 0
IsServed c s = (work_of c (session_of c s).transaction).waiting ≡ None

-- who has a command under way, or is on its way to a commit, is served
module _ {script : Script} (c : Coord) (kept : Kept script c) (g : Gxid) where
  is-home : (session_of c (work_of c g).session).transaction.0 ≡ g.0 → (work_of c g).waiting ≡ None → IsServed c (work_of c g).session
  is-home e f = subst (λ j. (c.works j).waiting ≡ None) (sym e) f

  idle-busy : (k : Command) → (work_of c g).command ≡ Some k → (o : Option Stmt) → (work_of c g).waiting ≡ o → o ≡ None
  idle-busy k e None f = refl
  idle-busy k e (Some line) f = absurd (none-some (work_of c g).command k ((kept.tied g.0).waits line f).1 e)

  served-busy : (k : Command) → (work_of c g).command ≡ Some k → IsServed c (work_of c g).session
  served-busy k e = by_stage (stage_of c g.0) refl ((kept.tied g.0).busy k e).0
    where
      by_stage : (a : Stage) → stage_of c g.0 ≡ a → is_said a ≡ true → IsServed c (work_of c g).session
      by_stage Live f q = is-home ((kept.tied g.0).live f).0 (idle-busy k e (work_of c g).waiting refl)
      by_stage Closing f q = is-home ((kept.tied g.0).closing f).0 (idle-busy k e (work_of c g).waiting refl)
      by_stage Absent f q = absurd (cc)
      by_stage Dropped f q = absurd (cc)
      by_stage Finished f q = absurd (cc)

  served-closing : stage_of c g.0 ≡ Closing → IsServed c (work_of c g).session
  served-closing e = is-home ((kept.tied g.0).closing e).0 (by_line (work_of c g).waiting refl)
    where
      apart : Live ≡ Closing → ⊥
      apart q = cc

      by_line : (o : Option Stmt) → (work_of c g).waiting ≡ o → o ≡ None
      by_line None f = refl
      by_line (Some line) f = absurd (apart (sym ((kept.tied g.0).waits line f).0 ∙ e))

failure_dull : (i : Node) (g : Gxid) → Each Dull (failure_marks i g)
failure_dull i g = by_test (i.0 == 0)
  where
    by_test : (b : Bool) → Each Dull (if b then mark.JournalFailed the_coordinator g ∷ [] else [])
    by_test true = (tt, tt)
    by_test false = tt

-- an answer is a refusal, or to who is served
module _ (c0 : Coord) where
  abbrev Says : SessionId → StmtAnswer → Type 0
  Says s a = IsRefusal a ⊎ IsServed c0 s

  abbrev pub Deals : CoordTurn → Type 0
  Deals turn = OneAnswer Dull (λ s a. IsRefusal a ⊎ IsServed c0 s) turn.marks

  refused : (c : Coord) (g : Gxid) (turn : Turn) (why : List Mark) (reason : Refused) → Each Dull why → Deals (is_refused c g turn why reason)
  refused c g turn why reason e = pushed Dull Says why (mark.Abort g ∷ answer_mark c (work_of c g).session (told.Refused reason) ∷ release_marks the_coordinator c.locks g) (λ s n a b. b) e (tt, (inl tt, back-none c.locks g))

  follow : (c : Coord) (g : Gxid) (turn : Turn) (o : Outcome) → (o ≡ outcome.Committed → IsServed c0 (work_of c g).session) → Deals (follows c g turn o)
  follow c g turn outcome.Pending e = tt
  follow c g turn outcome.Decided e = (tt, tt)
  follow c g turn outcome.Committed e = (tt, (inr (e refl), back-none c.locks g))
  follow c g turn (outcome.Refused i) e = refused c g turn (failure_marks i g) _ (failure_dull i g)
  follow c g turn outcome.Ended e = tt

  complete : (c : Coord) (g : Gxid) (b : Block) → IsServed c0 (work_of c g).session → Deals (completes c g b)
  complete c g block.Outside e = follow c g (on_commit c.table g (work_of c g).writers) (on_commit c.table g (work_of c g).writers).out.outcome (λ q. e)
  complete c g (block.Open level) e = (inr e, tt)
  complete c g block.Failed e = (inr e, tt)

  go_on : (c : Coord) (g : Gxid) (left : List Node) → IsServed c0 (work_of c g).session → Deals (goes_on c g left)
  go_on c g [] e = complete c g (session_of c (work_of c g).session).state.block e
  go_on c g (i ∷ is) e = tt

  either : (b : Bool) (x y : CoordTurn) → Deals x → Deals y → Deals (if b then x else y)
  either true x y e f = e
  either false x y e f = f

module _ {script : Script} (c : Coord) (kept : Kept script c) where
  done : (g : Gxid) (i : Node) (cid : Cid) (wrote : Bool) (count : ℕ) (part : Part) (k : Option Command) → (work_of c g).command ≡ k → Deals c (on_done c g i cid wrote count part k)
  done g i cid wrote count part None e = tt
  done g i cid wrote count part (Some k) e =
      either c (is_awaited k i cid && fits_part k.stmt part) (takes_done c g i wrote count part k) (rests c) (go_on c (with_work c g w) g (with_done k i count part).awaited (subst (λ (v : Work). IsServed c v.session) (sym (at-self c.works g.0 w)) (served-busy c kept g k e))) tt
    where
      w : Work
      w = record (work_of c g) { writers = writers_with wrote i (work_of c g).writers; command = Some (with_done k i count part) }

  failed : (g : Gxid) (i : Node) (cid : Cid) (cause : Cause) (k : Option Command) → Deals c (on_failed c g i cid cause k)
  failed g i cid cause None = tt
  failed g i cid cause (Some k) = either c (is_awaited k i cid) (is_refused c g (on_abort c.table g) [] (reason_of cause)) (rests c) (refused c c g (on_abort c.table g) [] (reason_of cause) tt) tt

  status : (g : Gxid) (i : Node) (r : Reply) (fails : Bool) → Deals c (on_status c g i r fails)
  status g i r fails = follow c c g (on_reply c.table g i r fails) (on_reply c.table g i r fails).out.outcome (λ e. served-closing c kept g (first e))
    where
      t : Turned c.table g.0 (on_reply c.table (gx g.0) i r fails) Moves
      t = reply-turns c.table g.0 i r fails kept.whole

      first : (on_reply c.table g i r fails).out.outcome ≡ outcome.Committed → stage_of c g.0 ≡ Closing
      first e = (subst (Moves (stage (find_txn c.table (gx g.0))) (stage t.now)) e t.how).0

  answered : (g : Gxid) (i : Node) (fails : Bool) (r : Reply) → Deals c (on_answer c g i fails r)
  answered g i fails (reply.Done cid wrote count part) = done g i cid wrote count part (work_of c g).command refl
  answered g i fails (reply.Failed cid cause) = failed g i cid cause (work_of c g).command
  answered g i fails reply.Prepared = status g i reply.Prepared fails
  answered g i fails reply.Committed = status g i reply.Committed fails
  answered g i fails reply.Jfault = status g i reply.Jfault fails
  answered g i fails reply.Again = status g i reply.Again fails
  answered g i fails reply.Restarted = status g i reply.Restarted fails
  answered g i fails reply.Aborted = status g i reply.Aborted fails
  answered g i fails reply.Forgotten = status g i reply.Forgotten fails

  pub message-deals : (from : Node) (fails : Bool) (m : Message) → Deals c (on_message c from fails m)
  message-deals from fails (message.Answer g r) = answered g from fails r
  message-deals from fails (message.Exec g cid level x h y) = tt
  message-deals from fails (message.Prepare g) = tt
  message-deals from fails (message.Commit g) = tt
  message-deals from fails (message.CommitPrepared g) = tt
  message-deals from fails (message.Abort g) = tt
  message-deals from fails (message.Forget g) = tt
  message-deals from fails (message.Collect round) = tt
  message-deals from fails (message.Graph round graph) = graph-ways (λ (turn : CoordTurn). Deals c turn) c from round graph tt (λ r. tt) (λ r a. (tt, tt))
  message-deals from fails message.Up = tt

-- LINES
-- the answer is to the line that starts, which takes no lock, or a refusal
abbrev pub AtOnce : Script → SessionId → Stmt → SessionId → StmtAnswer → Type 0
AtOnce script s line k a = ((k ≡ s) × ((g : Gxid) → table_lock script g line ≡ None)) ⊎ IsRefusal a

abbrev pub Starts : Script → SessionId → Stmt → List Mark → Type 0
Starts script s line ms = OneAnswer NoAnswer (AtOnce script s line) ms

-- only refusals
abbrev pub Refuses : List Mark → Type 0
Refuses ms = OneAnswer NoAnswer (λ k a. IsRefusal a) ms

refuses-starts : (script : Script) (s : SessionId) (line : Stmt) (ms : List Mark) → Refuses ms → Starts script s line ms
refuses-starts script s line [] e = tt
refuses-starts script s line (mark.Answer k n a ∷ ms) e = (inr e.0, e.1)
refuses-starts script s line (m ∷ ms) e = (e.0, refuses-starts script s line ms e.1)

refused_one : (c : Coord) (g : Gxid) (turn : Turn) (why : List Mark) (reason : Refused) → Each NoAnswer why → Refuses (is_refused c g turn why reason).marks
refused_one c g turn why reason e = pushed NoAnswer (λ k a. IsRefusal a) why (mark.Abort g ∷ answer_mark c (work_of c g).session (told.Refused reason) ∷ release_marks the_coordinator c.locks g) (λ k n a b. b) e (tt, (tt, back-none c.locks g))

failure_none : (i : Node) (g : Gxid) → Each NoAnswer (failure_marks i g)
failure_none i g = by_test (i.0 == 0)
  where
    by_test : (b : Bool) → Each NoAnswer (if b then mark.JournalFailed the_coordinator g ∷ [] else [])
    by_test true = (tt, tt)
    by_test false = tt

none-one : (ms : List Mark) → Each NoAnswer ms → Refuses ms
none-one [] e = tt
none-one (mark.Answer k n a ∷ ms) e = absurd e.0
none-one (m ∷ ms) e = (e.0, none-one ms e.1)

read_none : (c : Coord) (g : Gxid) (cid : Cid) (w : Work) (x : Option Snapshot) → Each NoAnswer (reads_by c g cid w x).marks
read_none c g cid w None = (tt, tt)
read_none c g cid w (Some x) = tt

reading_none : (c : Coord) (g : Gxid) (cid : Cid) (w : Work) (l : Stmt) → Each NoAnswer (reads_for c g cid w l).marks
reading_none c g cid w (stmt.Lock table mode) = tt
reading_none c g cid w (stmt.Begin level) = read_none c g cid w w.snapshot
reading_none c g cid w stmt.Commit = read_none c g cid w w.snapshot
reading_none c g cid w stmt.Rollback = read_none c g cid w w.snapshot
reading_none c g cid w (stmt.Select q) = read_none c g cid w w.snapshot
reading_none c g cid w (stmt.Insert t x) = read_none c g cid w w.snapshot
reading_none c g cid w (stmt.Update t x y) = read_none c g cid w w.snapshot
reading_none c g cid w (stmt.Delete t x) = read_none c g cid w w.snapshot

fault_none : (g : Gxid) (cid : Cid) (l : Stmt) → Each NoAnswer (fault_mark g cid l)
fault_none g cid (stmt.Insert t x) = (tt, tt)
fault_none g cid (stmt.Begin level) = tt
fault_none g cid stmt.Commit = tt
fault_none g cid stmt.Rollback = tt
fault_none g cid (stmt.Select q) = tt
fault_none g cid (stmt.Update t x y) = tt
fault_none g cid (stmt.Delete t x) = tt
fault_none g cid (stmt.Lock t m) = tt

go_one : (g : Gxid) (cid : Cid) (l : Stmt) (r : Reading) (plan : Result (List Piece) ArithFault) → Each NoAnswer r.marks → Refuses (goes g cid l r plan).marks
go_one g cid l r (Ok pieces) e = none-one r.marks e
go_one g cid l r (Err f) e = refused_one r.coord g (on_abort r.coord.table g) (r.marks ++ fault_mark g cid l) _ (each_append NoAnswer r.marks (fault_mark g cid l) e (fault_none g cid l))

locked_one : (script : Script) (c : Coord) (g : Gxid) (l : Stmt) → Refuses (goes_on_locked script c g l).marks
locked_one script c g l =
    go_one g (next_cid (work_of c g)) l (reads_for c g (next_cid (work_of c g)) (work_of c g) l) (plan_of script.segments (dist_of script.tables (table_of l)) g (next_cid (work_of c g)) l) (reading_none c g (next_cid (work_of c g)) (work_of c g) l)

-- a statement that goes out behind a wait
pub resume-refuses : (script : Script) (c : Coord) (g : Gxid) (o : Option Claim) (line : Option Stmt) → Refuses (resumes script c g o line).marks
resume-refuses script c g None line = tt
resume-refuses script c g (Some wanted) None = tt
resume-refuses script c g (Some wanted) (Some line) = (tt, locked_one script (with_work (record c { locks = resumed c.locks g (Some wanted) }) g (record (work_of c g) { waiting = None })) g line)

module _ (script : Script) (s : SessionId) (line : Stmt) where
  refused_starts : (c : Coord) (g : Gxid) (turn : Turn) (why : List Mark) (reason : Refused) → Each NoAnswer why → Starts script s line (is_refused c g turn why reason).marks
  refused_starts c g turn why reason e = refuses-starts script s line (is_refused c g turn why reason).marks (refused_one c g turn why reason e)

  follow_starts : (c : Coord) (g : Gxid) (turn : Turn) (o : Outcome) → (work_of c g).session ≡ s → ((h : Gxid) → table_lock script h line ≡ None) → Starts script s line (follows c g turn o).marks
  follow_starts c g turn outcome.Pending home free = tt
  follow_starts c g turn outcome.Decided home free = (tt, tt)
  follow_starts c g turn outcome.Committed home free = (tt, (inl (home, free), back-none c.locks g))
  follow_starts c g turn (outcome.Refused i) home free = refused_starts c g turn (failure_marks i g) _ (failure_none i g)
  follow_starts c g turn outcome.Ended home free = tt

  locked_starts : (c : Coord) (g : Gxid) (l : Stmt) → Starts script s line (goes_on_locked script c g l).marks
  locked_starts c g l = refuses-starts script s line (goes_on_locked script c g l).marks (locked_one script c g l)

  dispatch_starts : (c : Coord) (g : Gxid) (l : Stmt) (o : Option Claim) → Starts script s line (requests script c g l o).marks
  dispatch_starts c g l None = locked_starts c g l
  dispatch_starts c g l (Some wanted) = by_test (is_clear c.locks.holds c.locks.waits wanted)
    where
      by_test : (b : Bool) → Starts script s line (if_granted script c g l wanted b).marks
      by_test true = (tt, locked_starts (record c { locks = with_hold c.locks wanted }) g l)
      by_test false = (tt, tt)

  command_starts : (c : Coord) (g : Gxid) → Starts script s line (requests script c g line (table_lock script g line)).marks
  command_starts c g = dispatch_starts c g line (table_lock script g line)

-- a line that starts, by the block of its session
abbrev pub IsHome : Coord → SessionId → Block → Type 0
IsHome c s (block.Open level) = (work_of c (session_of c s).transaction).session ≡ s
IsHome c s _ = Unit {0}

pub line-starts : (script : Script) (c : Coord) (s : SessionId) (b : Block) (line : Stmt) → IsHome c s b → Starts script s line (on_line script c s line (line_step b line)).marks
line-starts script c s block.Outside (stmt.Begin level) h = (tt, (inl (refl, λ g. refl), tt))
line-starts script c s block.Outside stmt.Commit h = (inl (refl, λ g. refl), tt)
line-starts script c s block.Outside stmt.Rollback h = (inl (refl, λ g. refl), tt)
line-starts script c s block.Outside (stmt.Lock table mode) h = (inr tt, tt)
line-starts script c s block.Outside (stmt.Select q) h = (tt, command_starts script s (stmt.Select q) (begins c s ReadCommitted) c.table.next)
line-starts script c s block.Outside (stmt.Insert t x) h = (tt, command_starts script s (stmt.Insert t x) (begins c s ReadCommitted) c.table.next)
line-starts script c s block.Outside (stmt.Update t x y) h = (tt, command_starts script s (stmt.Update t x y) (begins c s ReadCommitted) c.table.next)
line-starts script c s block.Outside (stmt.Delete t x) h = (tt, command_starts script s (stmt.Delete t x) (begins c s ReadCommitted) c.table.next)
line-starts script c s (block.Open l) (stmt.Begin level) h = (inl (refl, λ g. refl), tt)
line-starts script c s (block.Open l) stmt.Commit h = follow_starts script s stmt.Commit c (session_of c s).transaction (on_commit c.table (session_of c s).transaction (work_of c (session_of c s).transaction).writers) (on_commit c.table (session_of c s).transaction (work_of c (session_of c s).transaction).writers).out.outcome h (λ g. refl)
line-starts script c s (block.Open l) stmt.Rollback h = (tt, (inl (refl, λ g. refl), back-none c.locks (session_of c s).transaction))
line-starts script c s (block.Open l) (stmt.Lock table mode) h = command_starts script s (stmt.Lock table mode) c (session_of c s).transaction
line-starts script c s (block.Open l) (stmt.Select q) h = command_starts script s (stmt.Select q) c (session_of c s).transaction
line-starts script c s (block.Open l) (stmt.Insert t x) h = command_starts script s (stmt.Insert t x) c (session_of c s).transaction
line-starts script c s (block.Open l) (stmt.Update t x y) h = command_starts script s (stmt.Update t x y) c (session_of c s).transaction
line-starts script c s (block.Open l) (stmt.Delete t x) h = command_starts script s (stmt.Delete t x) c (session_of c s).transaction
line-starts script c s block.Failed (stmt.Begin level) h = (inr tt, tt)
line-starts script c s block.Failed stmt.Commit h = (inl (refl, λ g. refl), tt)
line-starts script c s block.Failed stmt.Rollback h = (inl (refl, λ g. refl), tt)
line-starts script c s block.Failed (stmt.Lock table mode) h = (inr tt, tt)
line-starts script c s block.Failed (stmt.Select q) h = (inr tt, tt)
line-starts script c s block.Failed (stmt.Insert t x) h = (inr tt, tt)
line-starts script c s block.Failed (stmt.Update t x y) h = (inr tt, tt)
line-starts script c s block.Failed (stmt.Delete t x) h = (inr tt, tt)

pub end-none : (c : Coord) (s : SessionId) (b : Block) → Each NoAnswer (ends_in c s b).marks
end-none c s (block.Open level) = (tt, back-none c.locks (session_of c s).transaction)
end-none c s block.Failed = tt
end-none c s block.Outside = tt
