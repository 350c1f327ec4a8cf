-- Commands go out with their table's lock at the coordinator.
use Rattle.std.proofs.Common.{◌≡◌, ◌==◌, ◌&&◌, ℕ, ◌+◌, List, [], ◌∷◌, Option, Some, None, Result, Ok, Err, Bool, true, false, refl, sym, subst, ap, ◌∙◌, if◌then◌else◌, eqb}
use Rattle.std.proofs.lemmas.Bool.{eqb-true}
use Rattle.std.specs.Prelude.{map}
use Rattle.gx_lemmas.proofs.Options.{some-same}
use Rattle.gx_ids.specs.declared.ids.Table.{Table}
use Rattle.gx_tree.specs.declared.row.KeyedRow.{KeyedRow}
use Rattle.gx_tree.specs.declared.slice.Slice.{Slice}
use Rattle.gx_tree.specs.declared.slice.Slice.TheVariants as slice
use Rattle.gx_tree.specs.declared.expr.Expr.{Expr}
use Rattle.gx_tree.specs.declared.schema.Dist.{Dist}
use Rattle.gx_tree.specs.declared.stmt.Level.{Level}
use Rattle.gx_dtx.specs.Table.{horizon_of}
use Rattle.gx_dtx.specs.Nodes.{has}
use Rattle.gx_dtx.specs.Rules.{awaited_order}
use Rattle.gx_dtx.specs.declared.order.Order.{Order}
use Rattle.gx_dtx.specs.declared.order.Order.TheVariants as order
use Rattle.gx_locks.specs.Locks.{Locks, wait_of}
use Rattle.gx_waits.specs.Claims.{is_clear, with_claim, without}
use Rattle.gx_locks.specs.Locks as locks
use Rattle.gx_meaning.specs.Constants.{rows_of}
use Rattle.gx_meaning.specs.Expressions.{and_then}
use Rattle.gx_meaning.specs.Plan.{insert_pieces, nodes_from, nodes_of, piece, plan_of, row_pieces, rows_at}
use Rattle.gx_meaning.specs.Target.{target_of}
use Rattle.gx_meaning.specs.declared.target.Target.TheVariants.{All as AllOfThem}
use Rattle.gx_msg.specs.declared.message.Out.{Out}
use Rattle.gx_rules.specs.AtCoordinator.{Reading, awaited, awaited_collect, begins, cancels, command_order, commits, completes, dispatches, ends_in, follows, failure_marks, goes, goes_on, goes_on_locked, if_granted, is_awaited, is_committed, is_refused, next_cid, next_line, on_answer, on_done, on_event, on_failed, on_line, on_message, on_status, order_of, order_to, orders_of, reads_by, reads_for, reason_of, requests, resends, resumes, rolls_back, starts, starts_line, status_order, table_of, takes_done, with_done, writers_with, answer_mark}
use Rattle.gx_store.specs.Locks.{slice_lock, table_lock}
use Rattle.gx_rules.specs.Locks.{with_hold}
use Rattle.gx_rules.specs.Maps.{with_at}
use Rattle.gx_rules.specs.Rounds.{awaits_graph}
use Rattle.gx_rules.proofs.Rounds.{cancel-ways, graph-ways}
use Rattle.gx_law_order.proofs.Places.{collects-each}
use Rattle.gx_law_order.proofs.Waiting.{GoesOut}
use Rattle.gx_law_order.proofs.Lists.{each_flat, each_map, each_weaker}
use Rattle.gx_law_order.specs.Lists.{Each}
use Rattle.gx_law_order.proofs.Outs.{IsBare, NoExec, abort-bare, commit-bare, reply-bare}
use Rattle.gx_law_locks.proofs.Lasting.{IsIn, in-added, in-new, in-released}
use Rattle.gx_law_order.proofs.Queued.{lock-of}
use Rattle.gx_law_locks.proofs.Claims.{each-of}
use Rattle.gx_law_locks.proofs.Tables.{own-gxid}
use Rattle.gx_ids.specs.declared.ids.Cid.{Cid}
use Rattle.gx_ids.specs.declared.ids.Gxid.{Gxid}
use Rattle.gx_ids.specs.declared.ids.Node.{Node}
use Rattle.gx_ids.specs.declared.ids.SessionId.{SessionId}
use Rattle.gx_tree.specs.declared.part.Part.{Part}
use Rattle.gx_tree.specs.declared.stmt.Level.TheVariants.{ReadCommitted}
use Rattle.gx_tree.specs.declared.stmt.Stmt.{Stmt}
use Rattle.gx_tree.specs.declared.stmt.Stmt.TheVariants as stmt
use Rattle.gx_dsnap.specs.declared.snapshot.Snapshot.{Snapshot}
use Rattle.gx_dtx.specs.Rules.{Turn, on_abort, on_commit, on_reply}
use Rattle.gx_dtx.specs.declared.outcome.Outcome.{Outcome}
use Rattle.gx_dtx.specs.declared.outcome.Outcome.TheVariants as outcome
use Rattle.gx_meaning.specs.declared.fault.ArithFault.{ArithFault}
use Rattle.gx_meaning.specs.declared.piece.Piece.{Piece}
use Rattle.gx_msg.specs.declared.message.Message.{Message}
use Rattle.gx_msg.specs.declared.message.Message.TheVariants as message
use Rattle.gx_msg.specs.declared.reply.Cause.{Cause}
use Rattle.gx_msg.specs.declared.reply.Reply.{Reply}
use Rattle.gx_msg.specs.declared.reply.Reply.TheVariants as reply
use Rattle.gx_script.specs.declared.Script.{Script}
use Rattle.gx_script.specs.Session.{idle_outside, line_step}
use Rattle.gx_script.specs.declared.line_step.LineStep.{LineStep}
use Rattle.gx_script.specs.declared.line_step.LineStep.TheVariants as step
use Rattle.gx_script.specs.declared.state.Block.{Block}
use Rattle.gx_script.specs.declared.state.Block.TheVariants as block
use Rattle.gx_store.specs.declared.answer.Refused.{Refused}
use Rattle.gx_store.specs.declared.answer.Refused.TheVariants.{Victim}
use Rattle.gx_store.specs.declared.answer.StmtAnswer.TheVariants as told
use Rattle.gx_store.specs.declared.mark.Mark.{Mark}
use Rattle.gx_store.specs.declared.node.NodeEvent.{NodeEvent}
use Rattle.gx_store.specs.declared.node.NodeEvent.TheVariants as event
use Rattle.gx_store.specs.Writes.{dist_of}
use Rattle.gx_rules.specs.Coordinators.{new_work, no_work, Command, Coord, CoordTurn, Work, rests, session_of, with_state, with_work, work_of}
use Rattle.gx_rules.specs.Fits.{fits_part}
use Rattle.gx_waits.specs.declared.claim.Claim.{Claim}

-- this is held which the slice will ask for at its segment
abbrev pub Locked : Script → List Claim → Message → Type 0
Locked script holds (message.Exec g c level snapshot horizon slice) = IsIn holds (slice_lock script g slice)
Locked script holds _ = Unit {0}

abbrev pub LockedOut : Script → List Claim → Out → Type 0
LockedOut script holds o = Locked script holds o.message

abbrev pub Own : ℕ → Message → Type 0
Own g (message.Exec h c level snapshot horizon slice) = h.0 ≡ g
Own g _ = Unit {0}

abbrev pub OrderLocked : Script → List Claim → ℕ → Out → Type 0
OrderLocked script holds g o = Own g o.message × Locked script holds o.message

-- the lock that a statement takes at the coordinator
abbrev pub HasLock : Script → List Claim → Gxid → Stmt → Type 0
HasLock script holds g line = (wanted : Claim) → table_lock script g line ≡ Some wanted → IsIn holds wanted

abbrev pub CommandLocked : Script → List Claim → ℕ → Option Command → Type 0
CommandLocked script holds g None = Unit {0}
CommandLocked script holds g (Some k) = HasLock script holds (record { 0 = g }) k.stmt × Each (OrderLocked script holds g) k.orders

-- of each command under way
abbrev pub AreLocked : Script → List Claim → (ℕ → Work) → Type 0
AreLocked script holds works = (g : ℕ) → CommandLocked script holds g (works g).command

abbrev pub Good : Script → Coord → Type 0
Good script c = AreLocked script c.locks.holds c.works

pub record Going (script : Script) (turn : CoordTurn) : Type 0 where
  pub coord : AreLocked script turn.coord.locks.holds turn.coord.works
  pub outs : Each (LockedOut script turn.coord.locks.holds) turn.outs

-- LOCKS
module _ (script : Script) where
  locked-added : (new : Claim) (holds : List Claim) (m : Message) → Locked script holds m → Locked script (with_claim new holds) m
  locked-added new holds (message.Exec g c level x h slice) l = in-added new (slice_lock script g slice) holds l
  locked-added new holds (message.Prepare g) l = tt
  locked-added new holds (message.Commit g) l = tt
  locked-added new holds (message.CommitPrepared g) l = tt
  locked-added new holds (message.Abort g) l = tt
  locked-added new holds (message.Forget g) l = tt
  locked-added new holds (message.Collect round) l = tt
  locked-added new holds (message.Answer g r) l = tt
  locked-added new holds (message.Graph round graph) l = tt
  locked-added new holds message.Up l = tt

  locked-released : (g : Gxid) (holds : List Claim) (j : ℕ) (m : Message) → eqb j g.0 ≡ false → Own j m → Locked script holds m → Locked script (without g holds) m
  locked-released g holds j (message.Exec h c level x y slice) n own l = in-released g (slice_lock script h slice) holds (ap (λ k. eqb k g.0) (ap (λ (k : Gxid). k.0) (own-gxid script h slice) ∙ own) ∙ n) l
  locked-released g holds j (message.Prepare h) n own l = tt
  locked-released g holds j (message.Commit h) n own l = tt
  locked-released g holds j (message.CommitPrepared h) n own l = tt
  locked-released g holds j (message.Abort h) n own l = tt
  locked-released g holds j (message.Forget h) n own l = tt
  locked-released g holds j (message.Collect round) n own l = tt
  locked-released g holds j (message.Answer h r) n own l = tt
  locked-released g holds j (message.Graph round graph) n own l = tt
  locked-released g holds j message.Up n own l = tt

  bare-locked : (holds : List Claim) (m : Message) → NoExec m → Locked script holds m
  bare-locked holds (message.Exec g c level x h slice) e = absurd e
  bare-locked holds (message.Prepare g) e = tt
  bare-locked holds (message.Commit g) e = tt
  bare-locked holds (message.CommitPrepared g) e = tt
  bare-locked holds (message.Abort g) e = tt
  bare-locked holds (message.Forget g) e = tt
  bare-locked holds (message.Collect round) e = tt
  bare-locked holds (message.Answer g r) e = tt
  bare-locked holds (message.Graph round graph) e = tt
  bare-locked holds message.Up e = tt

  bare : (holds : List Claim) (outs : List Out) → Each IsBare outs → Each (LockedOut script holds) outs
  bare holds outs e = each_weaker IsBare (LockedOut script holds) (λ o h. bare-locked holds o.message h) outs e

  -- COMMANDS UNDER WAY
  command-added : (new : Claim) (holds : List Claim) (g : ℕ) (k : Option Command) → CommandLocked script holds g k → CommandLocked script (with_claim new holds) g k
  command-added new holds g None e = tt
  command-added new holds g (Some k) e =
      (λ wanted f. in-added new wanted holds (e.0 wanted f), each_weaker (OrderLocked script holds g) (OrderLocked script (with_claim new holds) g) (λ o h. (h.0, locked-added new holds o.message h.1)) k.orders e.1)

  command-released : (g : Gxid) (holds : List Claim) (j : ℕ) (k : Option Command) → eqb j g.0 ≡ false → CommandLocked script holds j k → CommandLocked script (without g holds) j k
  command-released g holds j None n e = tt
  command-released g holds j (Some k) n e = (
    λ wanted f. in-released g wanted holds (ap (λ (h : Gxid). eqb h.0 g.0) (lock-of script (record { 0 = j }) k.stmt wanted f) ∙ n) (e.0 wanted f),
    each_weaker (OrderLocked script holds j) (OrderLocked script (without g holds) j) (λ o h. (h.0, locked-released g holds j o.message n h.0 h.1)) k.orders e.1,
  )

  with-work : (holds : List Claim) (works : ℕ → Work) (g : ℕ) (w : Work) → AreLocked script holds works → CommandLocked script holds g w.command → AreLocked script holds (with_at works g w)
  with-work holds works g w e h j = by_test (eqb j g) refl
    where
      by_test : (b : Bool) → eqb j g ≡ b → CommandLocked script holds j (if b then w else works j).command
      by_test true q = subst (λ k. CommandLocked script holds k w.command) (sym (eqb-true j g q)) h
      by_test false q = e j

  closed : (c : Coord) (g : Gxid) → Good script c → AreLocked script (without g c.locks.holds) (with_at c.works g.0 no_work)
  closed c g e j = by_test (eqb j g.0) refl
    where
      by_test : (b : Bool) → eqb j g.0 ≡ b → CommandLocked script (without g c.locks.holds) j (if b then no_work else c.works j).command
      by_test true q = tt
      by_test false q = command-released g c.locks.holds j (c.works j).command q (e j)

  rest : (c : Coord) → Good script c → Going script (rests c)
  rest c e = record { coord = e; outs = tt }

  -- ENDS
  committed : (c : Coord) (g : Gxid) (turn : Turn) → Good script c → Each IsBare turn.out.outs → Going script (is_committed c g turn)
  committed c g turn e b = record { coord = closed c g e; outs = bare _ turn.out.outs b }

  refused : (c : Coord) (g : Gxid) (turn : Turn) (why : List Mark) (reason : Refused) → Good script c → Each IsBare turn.out.outs → Going script (is_refused c g turn why reason)
  refused c g turn why reason e b = record { coord = closed c g e; outs = bare _ turn.out.outs b }

  follow : (c : Coord) (g : Gxid) (turn : Turn) (o : Outcome) → Good script c → Each IsBare turn.out.outs → Going script (follows c g turn o)
  follow c g turn outcome.Pending e b = record { coord = e; outs = bare _ turn.out.outs b }
  follow c g turn outcome.Decided e b = record { coord = e; outs = bare _ turn.out.outs b }
  follow c g turn outcome.Committed e b = committed c g turn e b
  follow c g turn (outcome.Refused i) e b = refused c g turn (failure_marks i g) _ e b
  follow c g turn outcome.Ended e b = record { coord = e; outs = bare _ turn.out.outs b }

  commit : (c : Coord) (g : Gxid) → Good script c → Going script (commits c g)
  commit c g e = follow c g (on_commit c.table g (work_of c g).writers) (on_commit c.table g (work_of c g).writers).out.outcome e (commit-bare c.table g (work_of c g).writers)

  -- PLANS
  abbrev PieceLocked : Gxid → Stmt → Piece → Type 0
  PieceLocked g line p = table_lock script g line ≡ Some (slice_lock script g p.slice)

  abbrev PlanLocked : Gxid → Stmt → Result (List Piece) ArithFault → Type 0
  PlanLocked g line (Ok pieces) = Each (PieceLocked g line) pieces
  PlanLocked g line (Err f) = Unit {0}

  same_pieces : (g : Gxid) (line : Stmt) (x : Slice) (nodes : List Node) → table_lock script g line ≡ Some (slice_lock script g x) → Each (PieceLocked g line) (map (piece x) nodes)
  same_pieces g line x nodes e = each_map (PieceLocked g line) (piece x) nodes (each-of (λ node. PieceLocked g line (piece x node)) (λ node. e) nodes)

  row_pieces_locked : (g : Gxid) (table : Table) (tuples : List (List Expr)) (node : Node) (rows : List KeyedRow) → Each (PieceLocked g (stmt.Insert table tuples)) (row_pieces table node rows)
  row_pieces_locked g table tuples node [] = tt
  row_pieces_locked g table tuples node (r ∷ rs) = (refl, tt)

  rows_locked : (n : ℕ) (dist : Dist) (g : Gxid) (table : Table) (tuples : List (List Expr)) (r : Result (List KeyedRow) ArithFault) → PlanLocked g (stmt.Insert table tuples) (and_then r (λ rows. Ok (insert_pieces n dist table rows)))
  rows_locked n dist g table tuples (Ok rows) =
      each_flat (PieceLocked g (stmt.Insert table tuples)) (λ node. row_pieces table node (rows_at n dist rows node.0)) (nodes_from 1 n)
      (each-of (λ (node : Node). Each (PieceLocked g (stmt.Insert table tuples)) (row_pieces table node (rows_at n dist rows node.0))) (λ node. row_pieces_locked g table tuples node (rows_at n dist rows node.0)) (nodes_from 1 n))
  rows_locked n dist g table tuples (Err f) = tt

  plan_locked : (n : ℕ) (dist : Dist) (g : Gxid) (c : Cid) (line : Stmt) → PlanLocked g line (plan_of n dist g c line)
  plan_locked n dist g c (stmt.Select q) = same_pieces g (stmt.Select q) (slice.Select q) (nodes_of n (target_of n dist q.cond)) refl
  plan_locked n dist g c (stmt.Insert table tuples) = rows_locked n dist g table tuples (rows_of g c tuples)
  plan_locked n dist g c (stmt.Update table assigns cond) = same_pieces g (stmt.Update table assigns cond) (slice.Update table assigns cond) (nodes_of n (target_of n dist cond)) refl
  plan_locked n dist g c (stmt.Delete table cond) = same_pieces g (stmt.Delete table cond) (slice.Delete table cond) (nodes_of n (target_of n dist cond)) refl
  plan_locked n dist g c (stmt.Lock table mode) = same_pieces g (stmt.Lock table mode) (slice.Lock table mode) (nodes_of n AllOfThem) refl
  plan_locked n dist g c (stmt.Begin level) = tt
  plan_locked n dist g c stmt.Commit = tt
  plan_locked n dist g c stmt.Rollback = tt

  -- GOING OUT
  pub record ReadGood (l : Locks) (r : Reading) : Type 0 where
    pub locks : r.coord.locks ≡ l
    pub works : AreLocked script l.holds r.coord.works

  read_by : (c : Coord) (g : Gxid) (cid : Cid) (x : Option Snapshot) → Good script c → ReadGood c.locks (reads_by c g cid (work_of c g) x)
  read_by c g cid None e = record { locks = refl; works = with-work c.locks.holds c.works g.0 _ e (e g.0) }
  read_by c g cid (Some x) e = record { locks = refl; works = e }

  read_for : (c : Coord) (g : Gxid) (cid : Cid) (line : Stmt) → Good script c → ReadGood c.locks (reads_for c g cid (work_of c g) line)
  read_for c g cid (stmt.Lock table mode) e = record { locks = refl; works = e }
  read_for c g cid (stmt.Begin level) e = read_by c g cid (work_of c g).snapshot e
  read_for c g cid stmt.Commit e = read_by c g cid (work_of c g).snapshot e
  read_for c g cid stmt.Rollback e = read_by c g cid (work_of c g).snapshot e
  read_for c g cid (stmt.Select q) e = read_by c g cid (work_of c g).snapshot e
  read_for c g cid (stmt.Insert t x) e = read_by c g cid (work_of c g).snapshot e
  read_for c g cid (stmt.Update t x y) e = read_by c g cid (work_of c g).snapshot e
  read_for c g cid (stmt.Delete t x) e = read_by c g cid (work_of c g).snapshot e

  orders_locked : (holds : List Claim) (g : Gxid) (cid : Cid) (line : Stmt) (level : Level) (x : Option Snapshot) (h : Gxid) (pieces : List Piece) → HasLock script holds g line → Each (PieceLocked g line) pieces → Each (OrderLocked script holds g.0) (orders_of g cid level x h pieces)
  orders_locked holds g cid line level x h pieces has e =
      each_map (OrderLocked script holds g.0) (order_of g cid level x h) pieces
      (each_weaker (PieceLocked g line) (λ p. OrderLocked script holds g.0 (order_of g cid level x h p)) (λ p q. (refl, has (slice_lock script g p.slice) q)) pieces e)

  go : (l : Locks) (g : Gxid) (cid : Cid) (line : Stmt) (r : Reading) (plan : Result (List Piece) ArithFault) → ReadGood l r → HasLock script l.holds g line → PlanLocked g line plan → Going script (goes g cid line r plan)
  go l g cid line r (Ok pieces) e has p =
      let has_it = subst (λ (k : Locks). HasLock script k.holds g line) (sym e.locks) has in
      let orders = orders_locked r.coord.locks.holds g cid line (work_of r.coord g).level r.snapshot (horizon_of r.coord.table) pieces has_it p in
      record {
        coord = with-work r.coord.locks.holds r.coord.works g.0 _ (subst (λ (k : Locks). AreLocked script k.holds r.coord.works) (sym e.locks) e.works) (has_it, orders);
        outs = each_weaker (OrderLocked script r.coord.locks.holds g.0) (LockedOut script r.coord.locks.holds) (λ o h. h.1) _ orders;
      }
  go l g cid line r (Err f) e has p = refused r.coord g (on_abort r.coord.table g) _ _ (subst (λ (k : Locks). AreLocked script k.holds r.coord.works) (sym e.locks) e.works) (abort-bare r.coord.table g)

  go_locked : (c : Coord) (g : Gxid) (line : Stmt) → Good script c → HasLock script c.locks.holds g line → Going script (goes_on_locked script c g line)
  go_locked c g line e has =
      go c.locks g (next_cid (work_of c g)) line (reads_for c g (next_cid (work_of c g)) (work_of c g) line) (plan_of script.segments (dist_of script.tables (table_of line)) g (next_cid (work_of c g)) line)
      (read_for c g (next_cid (work_of c g)) line e) has (plan_locked script.segments (dist_of script.tables (table_of line)) g (next_cid (work_of c g)) line)

  request : (c : Coord) (g : Gxid) (line : Stmt) (o : Option Claim) → table_lock script g line ≡ o → Good script c → Going script (requests script c g line o)
  request c g line None is e = go_locked c g line e (λ wanted f. absurd (none (sym is ∙ f)))
    where
      none : {wanted : Claim} → None ≡ Some wanted → ⊥
      none q = cc
  request c g line (Some wanted) is e = by_test (is_clear c.locks.holds c.locks.waits wanted)
    where
      by_test : (b : Bool) → Going script (if_granted script c g line wanted b)
      by_test true =
          let x = go_locked (record c { locks = with_hold c.locks wanted }) g line (λ j. command-added wanted c.locks.holds j (c.works j).command (e j))
          (λ w f. subst (λ v. IsIn (with_claim wanted c.locks.holds) v) (some-same wanted w (sym is ∙ f)) (in-new wanted c.locks.holds)) in
          record { coord = x.coord; outs = x.outs }
      by_test false = record { coord = with-work c.locks.holds c.works g.0 _ e (e g.0); outs = tt }

  dispatch : (c : Coord) (g : Gxid) (line : Stmt) → Good script c → Going script (dispatches script c g line)
  dispatch c g line e = request c g line (table_lock script g line) refl e

  -- LINES
  rolled : (c : Coord) (g : Gxid) (marks : List Mark) → Good script c → Going script (rolls_back c g marks (on_abort c.table g))
  rolled c g marks e = record { coord = closed c g e; outs = bare _ _ (abort-bare c.table g) }

  begun : (c : Coord) (s : SessionId) (level : Level) → Good script c → Good script (begins c s level)
  begun c s level e = with-work c.locks.holds c.works c.table.next.0 (new_work s level) e tt

  line_done : (c : Coord) (s : SessionId) (line : Stmt) (asked : LineStep) → Good script c → Going script (on_line script c s line asked)
  line_done c s line (step.Answer plain) e = record { coord = e; outs = tt }
  line_done c s line step.InFailedBlock e = record { coord = e; outs = tt }
  line_done c s line step.NotInBlock e = record { coord = e; outs = tt }
  line_done c s line (step.BeginBlock level) e = record { coord = begun c s level e; outs = tt }
  line_done c s line step.CommitBlock e = commit c (session_of c s).transaction e
  line_done c s line step.RollbackBlock e = rolled c (session_of c s).transaction (answer_mark c s told.Rollback ∷ []) e
  line_done c s line (step.Command true) e =
      let x = dispatch (begins c s ReadCommitted) c.table.next line (begun c s ReadCommitted e) in
      record { coord = x.coord; outs = x.outs }
  line_done c s line (step.Command false) e = dispatch c (session_of c s).transaction line e

  start : (c : Coord) (s : SessionId) (line : Option Stmt) → Good script c → Going script (starts script c s line)
  start c s None e = rest c e
  start c s (Some line) e =
      let asked = line_step (session_of c s).state.block line in
      line_done (starts_line c s asked) s line asked e

  end : (c : Coord) (s : SessionId) (b : Block) → Good script c → Going script (ends_in c s b)
  end c s (block.Open level) e = rolled (with_state c s idle_outside) (session_of c s).transaction [] e
  end c s block.Failed e = record { coord = e; outs = tt }
  end c s block.Outside e = rest c e

  -- ANSWERS OF SEGMENTS
  complete : (c : Coord) (g : Gxid) (b : Block) → Good script c → Going script (completes c g b)
  complete c g block.Outside e = commit c g e
  complete c g (block.Open level) e = record { coord = with-work c.locks.holds c.works g.0 _ e tt; outs = tt }
  complete c g block.Failed e = record { coord = with-work c.locks.holds c.works g.0 _ e tt; outs = tt }

  go_on : (c : Coord) (g : Gxid) (left : List Node) → Good script c → Going script (goes_on c g left)
  go_on c g [] e = complete c g (session_of c (work_of c g).session).state.block e
  go_on c g (i ∷ is) e = rest c e

  either : (b : Bool) (x y : CoordTurn) → Going script x → Going script y → Going script (if b then x else y)
  either true x y e f = e
  either false x y e f = f

  done : (c : Coord) (g : Gxid) (i : Node) (cid : Cid) (wrote : Bool) (count : ℕ) (part : Part) (k : Option Command) → Good script c → CommandLocked script c.locks.holds g.0 k → Going script (on_done c g i cid wrote count part k)
  done c g i cid wrote count part None e h = rest c e
  done c g i cid wrote count part (Some k) e h =
      either (is_awaited k i cid && fits_part k.stmt part) (takes_done c g i wrote count part k) (rests c)
      (go_on (with_work c g (record (work_of c g) { writers = writers_with wrote i (work_of c g).writers; command = Some (with_done k i count part) })) g (with_done k i count part).awaited
      (with-work c.locks.holds c.works g.0 (record (work_of c g) { writers = writers_with wrote i (work_of c g).writers; command = Some (with_done k i count part) }) e h)) (rest c e)

  failed : (c : Coord) (g : Gxid) (i : Node) (cid : Cid) (cause : Cause) (k : Option Command) → Good script c → Going script (on_failed c g i cid cause k)
  failed c g i cid cause None e = rest c e
  failed c g i cid cause (Some k) e = either (is_awaited k i cid) (is_refused c g (on_abort c.table g) [] (reason_of cause)) (rests c) (refused c g (on_abort c.table g) [] (reason_of cause) e (abort-bare c.table g)) (rest c e)

  status : (c : Coord) (g : Gxid) (i : Node) (r : Reply) (fails : Bool) → Good script c → Going script (on_status c g i r fails)
  status c g i r fails e =
      let x = follow c g (on_reply c.table g i r fails) (on_reply c.table g i r fails).out.outcome e (reply-bare c.table g i r fails) in
      record { coord = x.coord; outs = x.outs }

  answered : (c : Coord) (g : Gxid) (i : Node) (fails : Bool) (r : Reply) → Good script c → Going script (on_answer c g i fails r)
  answered c g i fails (reply.Done cid wrote count part) e = done c g i cid wrote count part (work_of c g).command e (e g.0)
  answered c g i fails (reply.Failed cid cause) e = failed c g i cid cause (work_of c g).command e
  answered c g i fails reply.Prepared e = status c g i reply.Prepared fails e
  answered c g i fails reply.Committed e = status c g i reply.Committed fails e
  answered c g i fails reply.Jfault e = status c g i reply.Jfault fails e
  answered c g i fails reply.Again e = status c g i reply.Again fails e
  answered c g i fails reply.Restarted e = status c g i reply.Restarted fails e
  answered c g i fails reply.Aborted e = status c g i reply.Aborted fails e
  answered c g i fails reply.Forgotten e = status c g i reply.Forgotten fails e

  message_taken : (c : Coord) (from : Node) (fails : Bool) (m : Message) → Good script c → Going script (on_message c from fails m)
  message_taken c from fails (message.Answer g r) e = answered c g from fails r e
  message_taken c from fails (message.Exec g cid level x h y) e = rest c e
  message_taken c from fails (message.Prepare g) e = rest c e
  message_taken c from fails (message.Commit g) e = rest c e
  message_taken c from fails (message.CommitPrepared g) e = rest c e
  message_taken c from fails (message.Abort g) e = rest c e
  message_taken c from fails (message.Forget g) e = rest c e
  message_taken c from fails (message.Collect round) e = rest c e
  message_taken c from fails (message.Graph round graph) e =
      graph-ways (Going script) c from round graph (rest c e) (λ taken. record { coord = e; outs = tt }) (λ taken all. record { coord = e; outs = tt })
  message_taken c from fails message.Up e = rest c e

  -- MESSAGES SENT AGAIN
  abbrev MaybeLocked : List Claim → Option Message → Type 0
  MaybeLocked holds None = Unit {0}
  MaybeLocked holds (Some m) = Locked script holds m

  again : (c : Coord) (i : Node) (m : Option Message) → Good script c → MaybeLocked c.locks.holds m → Going script (resends c i m)
  again c i None e h = rest c e
  again c i (Some told) e h = record { coord = e; outs = (h, tt) }

  status_locked : (holds : List Claim) (g : Gxid) (o : Option Order) → MaybeLocked holds (status_order g o)
  status_locked holds g None = tt
  status_locked holds g (Some order.Prepare) = tt
  status_locked holds g (Some order.Commit) = tt
  status_locked holds g (Some order.CommitPrepared) = tt
  status_locked holds g (Some order.Abort) = tt
  status_locked holds g (Some order.Forget) = tt

  order_locked : (holds : List Claim) (g : ℕ) (i : Node) (outs : List Out) → Each (OrderLocked script holds g) outs → MaybeLocked holds (order_to i outs)
  order_locked holds g i [] e = tt
  order_locked holds g i (o ∷ outs) e = by_test (o.node.0 == i.0) (order_locked holds g i outs e.1)
    where
      by_test : (b : Bool) → MaybeLocked holds (order_to i outs) → MaybeLocked holds (if b then Some o.message else order_to i outs)
      by_test true h = e.0.1
      by_test false h = h

  command_locked : (holds : List Claim) (g : ℕ) (i : Node) (k : Option Command) (other : Option Message) → CommandLocked script holds g k → MaybeLocked holds other → MaybeLocked holds (command_order k i other)
  command_locked holds g i None other e h = h
  command_locked holds g i (Some k) other e h = by_test (has i k.awaited)
    where
      by_test : (b : Bool) → MaybeLocked holds (if b then order_to i k.orders else other)
      by_test true = order_locked holds g i k.orders e.1
      by_test false = h

  -- BEHIND A WAIT
  -- who resumes goes out
  abbrev pub GoneOut : Coord → NodeEvent → Type 0
  GoneOut c (event.Resume g) = GoesOut script c g
  GoneOut c _ = Unit {0}

  goes-out-is : (c : Coord) (g : Gxid) (wanted : Claim) (line : Stmt) → wait_of c.locks g ≡ Some wanted → (work_of c g).waiting ≡ Some line → resumes script c g (wait_of c.locks g) (work_of c g).waiting ≡ resumes script c g (Some wanted) (Some line)
  goes-out-is c g wanted line e f = cc

  resume : (c : Coord) (g : Gxid) → GoesOut script c g → Good script c → Going script (resumes script c g (wait_of c.locks g) (work_of c g).waiting)
  resume c g d e = subst (Going script) (sym (goes-out-is c g d.wanted d.line d.claims d.is)) (record { coord = x.coord; outs = x.outs })
    where
      w : Work
      w = record (work_of c g) { waiting = None }

      c1 : Coord
      c1 = with_work (record c { locks = locks.resumed c.locks g (Some d.wanted) }) g w

      held : AreLocked script (with_claim d.wanted c.locks.holds) c.works
      held j = command-added d.wanted c.locks.holds j (c.works j).command (e j)

      x : Going script (goes_on_locked script c1 g d.line)
      x =
          go_locked c1 g d.line (with-work (with_claim d.wanted c.locks.holds) c.works g.0 w held (held g.0))
          (λ v f. subst (λ u. IsIn (with_claim d.wanted c.locks.holds) u) (some-same d.wanted v (sym d.lock ∙ f)) (in-new d.wanted c.locks.holds))

  pub event-goes : (c : Coord) (e : NodeEvent) (fails : Bool) → GoneOut c e → Good script c → Going script (on_event script c e fails)
  event-goes c (event.Deliver from envelope) fails out e = message_taken c from fails envelope.message e
  event-goes c (event.Start s) fails out e = start c s (next_line script c s) e
  event-goes c (event.End s) fails out e = end c s (session_of c s).state.block e
  event-goes c (event.Resend i (Some g)) fails out e =
      again c i (awaited c g i) e (command_locked c.locks.holds g.0 i (work_of c g).command (status_order g (awaited_order c.table g i)) (e g.0) (status_locked c.locks.holds g (awaited_order c.table g i)))
  event-goes c (event.Resend i None) fails out e = again c i (awaited_collect c i) e (collect_locked (awaits_graph c i))
    where
      collect_locked : (b : Bool) → MaybeLocked c.locks.holds (if b then Some (message.Collect c.rounds) else None)
      collect_locked true = tt
      collect_locked false = tt
  event-goes c (event.Resume g) fails out e = resume c g out e
  event-goes c event.Round fails out e = record { coord = e; outs = collects-each (LockedOut script c.locks.holds) script.segments (c.rounds + 1) (λ i one within. tt) }

  -- a victim is refused
  pub cancel-goes : (c : Coord) (g : Gxid) → Good script c → Going script (cancels c g)
  cancel-goes c g e = cancel-ways (Going script) c g (rest c e) (λ live busy. refused c g (on_abort c.table g) [] (Victim c.rounds) e (abort-bare c.table g))
