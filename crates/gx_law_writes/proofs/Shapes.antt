-- What a coordinator's turn does to one session, by its marks.
use Rattle.std.proofs.Common.{◌≡◌, ◌==◌, ◌&&◌, ◌⊎◌, inl, inr, ℕ, List, [], ◌∷◌, ◌++◌, Option, Some, None, Result, Ok, Err, Bool, true, false, refl, sym, subst, ap, if◌then◌else◌}
use Rattle.gx_dtx.specs.Rules.{Turn, on_abort, on_commit, on_reply}
use Rattle.gx_dtx.specs.declared.outcome.Outcome.{Outcome}
use Rattle.gx_dtx.specs.declared.outcome.Outcome.TheVariants as outcome
use Rattle.gx_dsnap.specs.declared.snapshot.Snapshot.{Snapshot}
use Rattle.gx_ids.specs.declared.ids.Cid.{Cid}
use Rattle.gx_ids.specs.declared.ids.Gxid.{Gxid}
use Rattle.gx_ids.specs.declared.ids.Node.{Node}
use Rattle.gx_ids.specs.declared.ids.SessionId.{SessionId}
use Rattle.gx_locks.specs.Locks.{Locks}
use Rattle.gx_waits.specs.Claims.{is_clear}
use Rattle.gx_meaning.specs.Plan.{plan_of}
use Rattle.gx_meaning.specs.declared.fault.ArithFault.{ArithFault}
use Rattle.gx_meaning.specs.declared.piece.Piece.{Piece}
use Rattle.gx_msg.specs.declared.message.Message.{Message}
use Rattle.gx_msg.specs.declared.message.Message.TheVariants as message
use Rattle.gx_msg.specs.declared.message.Out.{Out}
use Rattle.gx_msg.specs.declared.reply.Cause.{Cause}
use Rattle.gx_msg.specs.declared.reply.Reply.{Reply}
use Rattle.gx_msg.specs.declared.reply.Reply.TheVariants as reply
use Rattle.gx_script.specs.Session.{line_step}
use Rattle.gx_script.specs.declared.Script.{Script}
use Rattle.gx_script.specs.declared.state.Block.{Block}
use Rattle.gx_script.specs.declared.state.Block.TheVariants as block
use Rattle.gx_store.specs.Marks.{is_same_session}
use Rattle.gx_store.specs.Refusals.{the_coordinator}
use Rattle.gx_store.specs.Writes.{dist_of}
use Rattle.gx_store.specs.declared.answer.Refused.{Refused}
use Rattle.gx_store.specs.declared.answer.Refused.TheVariants.{Victim}
use Rattle.gx_store.specs.declared.mark.Mark.{Mark}
use Rattle.gx_store.specs.declared.mark.Mark.TheVariants as mark
use Rattle.gx_tree.specs.declared.part.Part.{Part}
use Rattle.gx_tree.specs.declared.stmt.Level.TheVariants.{ReadCommitted}
use Rattle.gx_tree.specs.declared.stmt.Stmt.{Stmt}
use Rattle.gx_tree.specs.declared.stmt.Stmt.TheVariants as stmt
use Rattle.gx_waits.specs.declared.claim.Claim.{Claim}
use Rattle.gx_rules.specs.AtCoordinator.{Reading, begins, completes, ends_in, failure_marks, fault_mark, follows, goes, goes_on, goes_on_locked, if_granted, is_awaited, is_refused, next_cid, on_answer, on_done, on_failed, on_line, on_message, on_status, reads_by, reads_for, reason_of, requests, table_of, takes_done, with_done, writers_with, cancels}
use Rattle.gx_store.specs.Locks.{table_lock}
use Rattle.gx_rules.specs.Coordinators.{Command, Coord, CoordTurn, Work, new_work, rests, session_of, with_work, work_of}
use Rattle.gx_rules.specs.Fits.{fits_part}
use Rattle.gx_rules.specs.Locks.{hold_mark, release_marks, with_hold}
use Rattle.gx_rules.proofs.Rounds.{cancel-ways, graph-ways}
use Rattle.gx_rules.specs.Sending.{counted, numbered}
use Rattle.gx_law_order.proofs.Lists.{each_append}
use Rattle.gx_law_order.specs.Lists.{Each}
use Rattle.gx_law_order.proofs.Releases.{each-released}
use Rattle.gx_law_reads.proofs.Reading.{at-self}
use Rattle.gx_law_writes.proofs.Answering.{IsHome}

-- MARKS
-- it starts and answers nothing of the session, and nothing is granted at the coordinator
abbrev pub Ebbs : SessionId → Mark → Type 0
Ebbs k (mark.Start h s) = is_same_session s k ≡ false
Ebbs k (mark.Answer s n a) = is_same_session s k ≡ false
Ebbs k (mark.Hold n h object mode) = (n.0 == 0) ≡ false
Ebbs k _ = Unit {0}

-- it starts and answers nothing, and no lock is granted or given back
abbrev pub Plain : Mark → Type 0
Plain (mark.Start h s) = ⊥
Plain (mark.Answer s n a) = ⊥
Plain (mark.Hold n h object mode) = ⊥
Plain (mark.Release n h object mode) = ⊥
Plain _ = Unit {0}

-- nor does a command go out
abbrev pub Silent : Mark → Type 0
Silent (mark.Start h s) = ⊥
Silent (mark.Answer s n a) = ⊥
Silent (mark.Hold n h object mode) = ⊥
Silent (mark.Release n h object mode) = ⊥
Silent (mark.Snap g c x) = ⊥
Silent (mark.Sent to number told) = ⊥
Silent _ = Unit {0}

abbrev pub Anyone : SessionId → Type 0
Anyone s = Unit {0}

-- an answer to such a session stands behind marks of which this holds, and before those that ebb
abbrev pub Ends : (Mark → Type 0) → (SessionId → Type 0) → SessionId → List Mark → Type 0
Ends B Q k [] = ⊥
Ends B Q k (mark.Answer s n a ∷ ms) = Q s × Each (Ebbs k) ms
Ends B Q k (m ∷ ms) = B m × Ends B Q k ms

abbrev pub Shape : (Mark → Type 0) → (SessionId → Type 0) → SessionId → List Mark → Type 0
Shape B Q k ms = Each (Ebbs k) ms ⊎ Ends B Q k ms

pub each-behind : {A : Type 0} (P : A → Type 0) (xs ys : List A) → Each P (xs ++ ys) → Each P ys
each-behind P [] ys e = e
each-behind P (x ∷ xs) ys e = each-behind P xs ys e.1

pub sent-ebbs : (k : SessionId) (f : ℕ → ℕ) (outs : List Out) → Each (Ebbs k) (numbered f outs)
sent-ebbs k f [] = tt
sent-ebbs k f (o ∷ outs) = (tt, sent-ebbs k (counted f o) outs)

ends-more : (B : Mark → Type 0) (Q : SessionId → Type 0) (k : SessionId) (ms ns : List Mark) → Each (Ebbs k) ns → Ends B Q k ms → Ends B Q k (ms ++ ns)
ends-more B Q k [] ns n e = absurd e
ends-more B Q k (mark.Answer s i a ∷ ms) ns n e = (e.0, each_append (Ebbs k) ms ns e.1 n)
ends-more B Q k (m ∷ ms) ns n e = (e.0, ends-more B Q k ms ns n e.1)

pub shape-more : (B : Mark → Type 0) (Q : SessionId → Type 0) (k : SessionId) (ms ns : List Mark) → Each (Ebbs k) ns → Shape B Q k ms → Shape B Q k (ms ++ ns)
shape-more B Q k ms ns n (inl e) = inl (each_append (Ebbs k) ms ns e n)
shape-more B Q k ms ns n (inr e) = inr (ends-more B Q k ms ns n e)

ends-weaker : (B C : Mark → Type 0) (Q : SessionId → Type 0) (k : SessionId) → ((m : Mark) → B m → C m) → (ms : List Mark) → Ends B Q k ms → Ends C Q k ms
ends-weaker B C Q k f [] e = absurd e
ends-weaker B C Q k f (mark.Answer s n a ∷ ms) e = e
ends-weaker B C Q k f (m ∷ ms) e = (f m e.0, ends-weaker B C Q k f ms e.1)

ends-pushed : (B : Mark → Type 0) (Q : SessionId → Type 0) (k : SessionId) (xs ys : List Mark) → ((s : SessionId) (n : ℕ) (a : _) → B (mark.Answer s n a) → ⊥) → Each B xs → Ends B Q k ys → Ends B Q k (xs ++ ys)
ends-pushed B Q k [] ys apart e f = f
ends-pushed B Q k (mark.Answer s n a ∷ xs) ys apart e f = absurd (apart s n a e.0)
ends-pushed B Q k (m ∷ xs) ys apart e f = (e.0, ends-pushed B Q k xs ys apart e.1 f)

-- a point is behind the answer or before it
pub ends-split : (B : Mark → Type 0) (Q : SessionId → Type 0) (k : SessionId) (xs ys : List Mark) → Ends B Q k (xs ++ ys) → Each (Ebbs k) ys ⊎ (Each B xs × Ends B Q k ys)
ends-split B Q k [] ys e = inr (tt, e)
ends-split B Q k (mark.Answer s n a ∷ xs) ys e = inl (each-behind (Ebbs k) xs ys e.1)
ends-split B Q k (m ∷ xs) ys e = by_part (ends-split B Q k xs ys e.1)
  where
    by_part : Each (Ebbs k) ys ⊎ (Each B xs × Ends B Q k ys) → Each (Ebbs k) ys ⊎ (Each B (m ∷ xs) × Ends B Q k ys)
    by_part (inl f) = inl f
    by_part (inr f) = inr ((e.0, f.0), f.1)

-- who is answered is another session
pub ends-other : (B : Mark → Type 0) (Q : SessionId → Type 0) (k : SessionId) → ((m : Mark) → B m → Ebbs k m) → ((s : SessionId) → Q s → is_same_session s k ≡ false) → (ms : List Mark) → Ends B Q k ms → Each (Ebbs k) ms
ends-other B Q k f other [] e = tt
ends-other B Q k f other (mark.Answer s n a ∷ ms) e = (other s e.0, e.1)
ends-other B Q k f other (m ∷ ms) e = (f m e.0, ends-other B Q k f other ms e.1)

pub plain-ebbs : (k : SessionId) (m : Mark) → Plain m → Ebbs k m
plain-ebbs k (mark.Start h s) e = absurd e
plain-ebbs k (mark.Answer s n a) e = absurd e
plain-ebbs k (mark.Hold n h object mode) e = absurd e
plain-ebbs k m e = tt

silent-plain : (m : Mark) → Silent m → Plain m
silent-plain (mark.Start h s) e = e
silent-plain (mark.Answer s n a) e = e
silent-plain (mark.Hold n h object mode) e = e
silent-plain (mark.Release n h object mode) e = e
silent-plain m e = tt

-- TURNS
module _ (k : SessionId) where
  back-ebbs : (locks : Locks) (g : Gxid) → Each (Ebbs k) (release_marks the_coordinator locks g)
  back-ebbs locks g = each-released (Ebbs k) the_coordinator locks g (λ claim. tt)

  failure-silent : (i : Node) (g : Gxid) → Each Silent (failure_marks i g)
  failure-silent i g = by_test (i.0 == 0)
    where
      by_test : (b : Bool) → Each Silent (if b then mark.JournalFailed the_coordinator g ∷ [] else [])
      by_test true = (tt, tt)
      by_test false = tt

  refused : (Q : SessionId → Type 0) (c : Coord) (g : Gxid) (turn : Turn) (why : List Mark) (reason : Refused) → Each Silent why → Q (work_of c g).session → Ends Silent Q k (is_refused c g turn why reason).marks
  refused Q c g turn why reason e q = ends-pushed Silent Q k why _ (λ s n a b. b) e (tt, (q, back-ebbs c.locks g))

  follow : (Q : SessionId → Type 0) (c : Coord) (g : Gxid) (turn : Turn) (o : Outcome) → Q (work_of c g).session → Shape Silent Q k (follows c g turn o).marks
  follow Q c g turn outcome.Pending q = inl tt
  follow Q c g turn outcome.Decided q = inl (tt, tt)
  follow Q c g turn outcome.Committed q = inr (tt, (q, back-ebbs c.locks g))
  follow Q c g turn (outcome.Refused i) q = inr (refused Q c g turn (failure_marks i g) _ (failure-silent i g) q)
  follow Q c g turn outcome.Ended q = inl tt

  -- ANSWERS OF SEGMENTS
  abbrev pub Told : CoordTurn → Type 0
  Told turn = Shape Silent Anyone k turn.marks

  complete : (c : Coord) (g : Gxid) (b : Block) → Told (completes c g b)
  complete c g block.Outside = follow Anyone c g (on_commit c.table g (work_of c g).writers) (on_commit c.table g (work_of c g).writers).out.outcome tt
  complete c g (block.Open level) = inr (tt, tt)
  complete c g block.Failed = inr (tt, tt)

  go_on : (c : Coord) (g : Gxid) (left : List Node) → Told (goes_on c g left)
  go_on c g [] = complete c g (session_of c (work_of c g).session).state.block
  go_on c g (i ∷ is) = inl tt

  either : (b : Bool) (x y : CoordTurn) → Told x → Told y → Told (if b then x else y)
  either true x y e f = e
  either false x y e f = f

  done : (c : Coord) (g : Gxid) (i : Node) (cid : Cid) (wrote : Bool) (count : ℕ) (part : Part) (m : Option Command) → Told (on_done c g i cid wrote count part m)
  done c g i cid wrote count part None = inl tt
  done c g i cid wrote count part (Some m) =
      either (is_awaited m i cid && fits_part m.stmt part) (takes_done c g i wrote count part m) (rests c)
      (go_on (with_work c g (record (work_of c g) { writers = writers_with wrote i (work_of c g).writers; command = Some (with_done m i count part) })) g (with_done m i count part).awaited) (inl tt)

  failed : (c : Coord) (g : Gxid) (i : Node) (cid : Cid) (cause : Cause) (m : Option Command) → Told (on_failed c g i cid cause m)
  failed c g i cid cause None = inl tt
  failed c g i cid cause (Some m) = either (is_awaited m i cid) (is_refused c g (on_abort c.table g) [] (reason_of cause)) (rests c) (inr (refused Anyone c g (on_abort c.table g) [] (reason_of cause) tt tt)) (inl tt)

  status : (c : Coord) (g : Gxid) (i : Node) (r : Reply) (fails : Bool) → Told (on_status c g i r fails)
  status c g i r fails = follow Anyone c g (on_reply c.table g i r fails) (on_reply c.table g i r fails).out.outcome tt

  answered : (c : Coord) (g : Gxid) (i : Node) (fails : Bool) (r : Reply) → Told (on_answer c g i fails r)
  answered c g i fails (reply.Done cid wrote count part) = done c g i cid wrote count part (work_of c g).command
  answered c g i fails (reply.Failed cid cause) = failed c g i cid cause (work_of c g).command
  answered c g i fails reply.Prepared = status c g i reply.Prepared fails
  answered c g i fails reply.Committed = status c g i reply.Committed fails
  answered c g i fails reply.Jfault = status c g i reply.Jfault fails
  answered c g i fails reply.Again = status c g i reply.Again fails
  answered c g i fails reply.Restarted = status c g i reply.Restarted fails
  answered c g i fails reply.Aborted = status c g i reply.Aborted fails
  answered c g i fails reply.Forgotten = status c g i reply.Forgotten fails

  pub message-told : (c : Coord) (from : Node) (fails : Bool) (m : Message) → Told (on_message c from fails m)
  message-told c from fails (message.Answer g r) = answered c g from fails r
  message-told c from fails (message.Exec g cid level x h y) = inl tt
  message-told c from fails (message.Prepare g) = inl tt
  message-told c from fails (message.Commit g) = inl tt
  message-told c from fails (message.CommitPrepared g) = inl tt
  message-told c from fails (message.Abort g) = inl tt
  message-told c from fails (message.Forget g) = inl tt
  message-told c from fails (message.Collect round) = inl tt
  message-told c from fails (message.Graph round graph) = graph-ways (λ (turn : CoordTurn). Told turn) c from round graph (inl tt) (λ r. inl tt) (λ r a. inl (tt, tt))
  message-told c from fails message.Up = inl tt

  -- a victim
  pub cancel-told : (c : Coord) (g : Gxid) → Told (cancels c g)
  cancel-told c g = cancel-ways (λ (turn : CoordTurn). Told turn) c g (inl tt) (λ live busy. inr (refused Anyone c g (on_abort c.table g) [] (Victim c.rounds) tt tt))

  -- COMMANDS
  read-each : (P : Mark → Type 0) (c : Coord) (g : Gxid) (cid : Cid) (w : Work) (x : Option Snapshot) → ((y : Snapshot) → P (mark.Snap g cid y)) → Each P (reads_by c g cid w x).marks
  read-each P c g cid w None f = (f _, tt)
  read-each P c g cid w (Some x) f = tt

  read-home : (c : Coord) (g : Gxid) (cid : Cid) (x : Option Snapshot) → (work_of (reads_by c g cid (work_of c g) x).coord g).session ≡ (work_of c g).session
  read-home c g cid None = ap (λ (v : Work). v.session) (at-self c.works g.0 _)
  read-home c g cid (Some x) = refl

  -- a command that reads stays its session's
  record Reads (c : Coord) (g : Gxid) (r : Reading) : Type 0 where
    ebbs : Each (Ebbs k) r.marks
    plain : Each Plain r.marks
    home : (work_of r.coord g).session ≡ (work_of c g).session

  read-by : (c : Coord) (g : Gxid) (cid : Cid) → Reads c g (reads_by c g cid (work_of c g) (work_of c g).snapshot)
  read-by c g cid = record { ebbs = read-each (Ebbs k) c g cid (work_of c g) (work_of c g).snapshot (λ y. tt); plain = read-each Plain c g cid (work_of c g) (work_of c g).snapshot (λ y. tt); home = read-home c g cid (work_of c g).snapshot }

  reading : (c : Coord) (g : Gxid) (cid : Cid) (l : Stmt) → Reads c g (reads_for c g cid (work_of c g) l)
  reading c g cid (stmt.Lock table mode) = record { ebbs = tt; plain = tt; home = refl }
  reading c g cid (stmt.Begin level) = read-by c g cid
  reading c g cid stmt.Commit = read-by c g cid
  reading c g cid stmt.Rollback = read-by c g cid
  reading c g cid (stmt.Select q) = read-by c g cid
  reading c g cid (stmt.Insert t x) = read-by c g cid
  reading c g cid (stmt.Update t x y) = read-by c g cid
  reading c g cid (stmt.Delete t x) = read-by c g cid

  fault-plain : (g : Gxid) (cid : Cid) (l : Stmt) → Each Plain (fault_mark g cid l)
  fault-plain g cid (stmt.Insert t x) = (tt, tt)
  fault-plain g cid (stmt.Begin level) = tt
  fault-plain g cid stmt.Commit = tt
  fault-plain g cid stmt.Rollback = tt
  fault-plain g cid (stmt.Select q) = tt
  fault-plain g cid (stmt.Update t x y) = tt
  fault-plain g cid (stmt.Delete t x) = tt
  fault-plain g cid (stmt.Lock t m) = tt

  went : (Q : SessionId → Type 0) (c : Coord) (g : Gxid) (cid : Cid) (l : Stmt) (r : Reading) (plan : Result (List Piece) ArithFault) → Reads c g r → Q (work_of c g).session → Shape Plain Q k (goes g cid l r plan).marks
  went Q c g cid l r (Ok pieces) reads q = inl reads.ebbs
  went Q c g cid l r (Err f) reads q =
      inr (ends-pushed Plain Q k (r.marks ++ fault_mark g cid l) _ (λ s n a b. b) (each_append Plain r.marks (fault_mark g cid l) reads.plain (fault-plain g cid l)) (tt, (subst Q (sym reads.home) q, back-ebbs r.coord.locks g)))

  pub locked-shape : (Q : SessionId → Type 0) (script : Script) (c : Coord) (g : Gxid) (l : Stmt) → Q (work_of c g).session → Shape Plain Q k (goes_on_locked script c g l).marks
  locked-shape Q script c g l q =
      went Q c g (next_cid (work_of c g)) l (reads_for c g (next_cid (work_of c g)) (work_of c g) l) (plan_of script.segments (dist_of script.tables (table_of l)) g (next_cid (work_of c g)) l) (reading c g (next_cid (work_of c g)) l) q

-- LINES
-- a statement of the transaction goes out behind its lock
pub record Locking (script : Script) (k : SessionId) (h : Gxid) (line : Stmt) (Q : SessionId → Type 0) (ms : List Mark) : Type 0 where
  pub wanted : Claim
  pub takes : table_lock script h line ≡ Some wanted
  pub rest : List Mark
  pub is : ms ≡ hold_mark the_coordinator wanted ∷ rest
  pub shape : Shape Plain Q k rest

-- without a lock
abbrev pub Free : Script → Gxid → Stmt → Mark → Type 0
Free script h line m = Plain m × (table_lock script h line ≡ None)

-- a line's marks behind the beginning of its transaction
abbrev pub Body : Script → SessionId → Gxid → Stmt → (SessionId → Type 0) → List Mark → Type 0
Body script k h line Q ms = Each (Ebbs k) ms ⊎ (Locking script k h line Q ms ⊎ Ends (Free script h line) Q k ms)

pub body-more : (script : Script) (k : SessionId) (h : Gxid) (line : Stmt) (Q : SessionId → Type 0) (ms ns : List Mark)
    → Each (Ebbs k) ns → Body script k h line Q ms → Body script k h line Q (ms ++ ns)
body-more script k h line Q ms ns n (inl e) = inl (each_append (Ebbs k) ms ns e n)
body-more script k h line Q ms ns n (inr (inl e)) = inr (inl (record { wanted = e.wanted; takes = e.takes; rest = e.rest ++ ns; is = ap (λ m. m ++ ns) e.is; shape = shape-more Plain Q k e.rest ns n e.shape }))
body-more script k h line Q ms ns n (inr (inr e)) = inr (inr (ends-more (Free script h line) Q k ms ns n e))

module _ (k : SessionId) (script : Script) (s : SessionId) where
  abbrev Own : SessionId → Type 0
  Own x = x ≡ s

  free-body : (h : Gxid) (line : Stmt) (B : Mark → Type 0) (ms : List Mark) → ((m : Mark) → B m → Plain m) → table_lock script h line ≡ None → Shape B Own k ms → Body script k h line Own ms
  free-body h line B ms f none (inl e) = inl e
  free-body h line B ms f none (inr e) = inr (inr (ends-weaker B (Free script h line) Own k (λ m b. (f m b, none)) ms e))

  dispatched : (c : Coord) (h : Gxid) (line : Stmt) → (work_of c h).session ≡ s → Body script k h line Own (requests script c h line (table_lock script h line)).marks
  dispatched c h line home = by_lock (table_lock script h line) refl
    where
      by_test : (wanted : Claim) (b : Bool) → table_lock script h line ≡ Some wanted → Body script k h line Own (if_granted script c h line wanted b).marks
      by_test wanted true e = inr (inl (record { wanted = wanted; takes = e; rest = _; is = refl; shape = locked-shape k Own script (record c { locks = with_hold c.locks wanted }) h line home }))
      by_test wanted false e = inl (tt, tt)

      by_lock : (o : Option Claim) → table_lock script h line ≡ o → Body script k h line Own (requests script c h line o).marks
      by_lock None e = free-body h line Plain _ (λ m b. b) e (locked-shape k Own script c h line home)
      by_lock (Some wanted) e = by_test wanted (is_clear c.locks.holds c.locks.waits wanted) e

  -- in the session's transaction, or behind the start of a new one
  abbrev pub Opening : Coord → Stmt → List Mark → Type 0
  Opening c line ms = Body script k (session_of c s).transaction line Own ms ⊎ ((body : List Mark) × (ms ≡ mark.Start c.table.next s ∷ body) × Body script k c.table.next line Own body)

  alone : (c : Coord) (line : Stmt) → Opening c line (mark.Start c.table.next s ∷ (requests script (begins c s ReadCommitted) c.table.next line (table_lock script c.table.next line)).marks)
  alone c line = inr (_, refl, dispatched (begins c s ReadCommitted) c.table.next line (ap (λ (v : Work). v.session) (at-self c.works c.table.next.0 (new_work s ReadCommitted))))

  pub line-opens : (c : Coord) (b : Block) (line : Stmt) → IsHome c s b → Opening c line (on_line script c s line (line_step b line)).marks
  line-opens c block.Outside (stmt.Begin level) h = inr (_, refl, inr (inr (refl, tt)))
  line-opens c block.Outside stmt.Commit h = inl (inr (inr (refl, tt)))
  line-opens c block.Outside stmt.Rollback h = inl (inr (inr (refl, tt)))
  line-opens c block.Outside (stmt.Lock table mode) h = inl (inr (inr (refl, tt)))
  line-opens c block.Outside (stmt.Select q) h = alone c (stmt.Select q)
  line-opens c block.Outside (stmt.Insert t x) h = alone c (stmt.Insert t x)
  line-opens c block.Outside (stmt.Update t x y) h = alone c (stmt.Update t x y)
  line-opens c block.Outside (stmt.Delete t x) h = alone c (stmt.Delete t x)
  line-opens c (block.Open l) (stmt.Begin level) h = inl (inr (inr (refl, tt)))
  line-opens c (block.Open l) stmt.Commit h =
      inl
      (free-body (session_of c s).transaction stmt.Commit Silent _ silent-plain refl
      (follow k Own c (session_of c s).transaction (on_commit c.table (session_of c s).transaction (work_of c (session_of c s).transaction).writers) (on_commit c.table (session_of c s).transaction (work_of c (session_of c s).transaction).writers).out.outcome h))
  line-opens c (block.Open l) stmt.Rollback h = inl (inr (inr ((tt, refl), (refl, back-ebbs k c.locks (session_of c s).transaction))))
  line-opens c (block.Open l) (stmt.Lock table mode) h = inl (dispatched c (session_of c s).transaction (stmt.Lock table mode) h)
  line-opens c (block.Open l) (stmt.Select q) h = inl (dispatched c (session_of c s).transaction (stmt.Select q) h)
  line-opens c (block.Open l) (stmt.Insert t x) h = inl (dispatched c (session_of c s).transaction (stmt.Insert t x) h)
  line-opens c (block.Open l) (stmt.Update t x y) h = inl (dispatched c (session_of c s).transaction (stmt.Update t x y) h)
  line-opens c (block.Open l) (stmt.Delete t x) h = inl (dispatched c (session_of c s).transaction (stmt.Delete t x) h)
  line-opens c block.Failed (stmt.Begin level) h = inl (inr (inr (refl, tt)))
  line-opens c block.Failed stmt.Commit h = inl (inr (inr (refl, tt)))
  line-opens c block.Failed stmt.Rollback h = inl (inr (inr (refl, tt)))
  line-opens c block.Failed (stmt.Lock table mode) h = inl (inr (inr (refl, tt)))
  line-opens c block.Failed (stmt.Select q) h = inl (inr (inr (refl, tt)))
  line-opens c block.Failed (stmt.Insert t x) h = inl (inr (inr (refl, tt)))
  line-opens c block.Failed (stmt.Update t x y) h = inl (inr (inr (refl, tt)))
  line-opens c block.Failed (stmt.Delete t x) h = inl (inr (inr (refl, tt)))

pub end-ebbs : (k : SessionId) (c : Coord) (s : SessionId) (b : Block) → Each (Ebbs k) (ends_in c s b).marks
end-ebbs k c s (block.Open level) = (tt, back-ebbs k c.locks (session_of c s).transaction)
end-ebbs k c s block.Failed = tt
end-ebbs k c s block.Outside = tt
