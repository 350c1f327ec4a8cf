-- Every event of the coordinator keeps each horizon that was used low.
use Rattle.std.proofs.Common.{◌+◌, ◌≡◌, ℕ, List, [], ◌∷◌, ◌++◌, Option, Some, None, Result, Ok, Err, Bool, true, false, refl, subst, if◌then◌else◌, ◌==◌, ◌&&◌, eqb}
use Rattle.gx_ids.specs.declared.ids.Cid.{Cid}
use Rattle.gx_ids.specs.declared.ids.Gxid.{Gxid}
use Rattle.gx_ids.specs.declared.ids.Node.{Node}
use Rattle.gx_ids.specs.declared.ids.SessionId.{SessionId}
use Rattle.gx_tree.specs.declared.part.Part.{Part as QueryPart}
use Rattle.gx_tree.specs.declared.stmt.Level.{Level}
use Rattle.gx_tree.specs.declared.stmt.Level.TheVariants.{ReadCommitted, RepeatableRead}
use Rattle.gx_tree.specs.declared.stmt.Stmt.{Stmt}
use Rattle.gx_tree.specs.declared.stmt.Stmt.TheVariants as stmt
use Rattle.gx_dsnap.specs.declared.snapshot.Snapshot.{Snapshot}
use Rattle.gx_dtx.specs.Nodes.{has, to_each, without}
use Rattle.gx_dtx.specs.Rules.{abort_found, aborts, awaited_order, begun, changed, commit_found, commits as commit_change, decides, ends_committed, finishes, forgets, gives_up, is_awaited as is_awaited_in, on_abort, on_reply, prepares, reply_found, stays, takes, turns}
use Rattle.gx_dtx.specs.Table.{Table, find_txn, horizon_of}
use Rattle.gx_dtx.specs.declared.change.Change.{Change}
use Rattle.gx_dtx.specs.declared.order.Order.{Order}
use Rattle.gx_dtx.specs.declared.order.Order.TheVariants as order
use Rattle.gx_dtx.specs.declared.outcome.Outcome.{Outcome}
use Rattle.gx_dtx.specs.declared.outcome.Outcome.TheVariants as outcome
use Rattle.gx_dtx.specs.declared.phase.Phase.{Phase as Status}
use Rattle.gx_dtx.specs.declared.phase.Phase.TheVariants as status
use Rattle.gx_dtx.specs.declared.txn.Txn.{Txn}
use Rattle.gx_meaning.specs.declared.fault.ArithFault.{ArithFault}
use Rattle.gx_msg.specs.declared.message.Message.{Message}
use Rattle.gx_msg.specs.declared.message.Message.TheVariants as message
use Rattle.gx_msg.specs.declared.message.Out.{Out}
use Rattle.gx_msg.specs.declared.reply.Cause.{Cause}
use Rattle.gx_msg.specs.declared.reply.Reply.{Reply}
use Rattle.gx_msg.specs.declared.reply.Reply.TheVariants as reply
use Rattle.gx_meaning.specs.Plan.{plan_of}
use Rattle.gx_meaning.specs.declared.piece.Piece.{Piece}
use Rattle.gx_script.specs.declared.Script.{Script}
use Rattle.gx_script.specs.Session.{idle_outside, line_step}
use Rattle.gx_script.specs.declared.line_step.LineStep.{LineStep}
use Rattle.gx_script.specs.declared.line_step.LineStep.TheVariants as step
use Rattle.gx_script.specs.declared.state.Block.{Block}
use Rattle.gx_script.specs.declared.state.Block.TheVariants.{Outside, Open, Failed}
use Rattle.gx_store.specs.declared.answer.Refused.{Refused}
use Rattle.gx_store.specs.declared.mark.Mark.{Mark}
use Rattle.gx_store.specs.declared.mark.Mark.TheVariants as mark
use Rattle.gx_store.specs.declared.node.NodeEvent.{NodeEvent}
use Rattle.gx_store.specs.declared.node.NodeEvent.TheVariants as event
use Rattle.gx_store.specs.Writes.{dist_of}
use Rattle.gx_store.specs.declared.answer.StmtAnswer.TheVariants as told
use Rattle.gx_rules.specs.AtCoordinator.{Reading, answer_mark, answers, answers_at_once, awaited, awaited_collect, begins, cancels, behind, command_order, commits, completes, dispatches, ends_in, fault_mark, follows, goes, goes_on, goes_out, is_awaited, is_committed as is_closed, is_refused, kept_at, next_cid, next_line, nodes_in, on_answer, on_done, on_event, on_failed, on_line, on_message, on_status, order_to, orders_of, reads_by, reads_for, reason_of, refusal_of, resends, rolls_back, starts, starts_line, status_order, table_of, takes_done, takes_snapshot, with_done, writers_with, goes_on_locked, if_granted, requests, resumes}
use Rattle.gx_store.specs.Locks.{table_lock}
use Rattle.gx_rules.specs.Coordinators.{Command, Coord, CoordTurn, Session, Work, new_work, no_work, rests, session_of, with_session, with_state, with_work, work_of}
use Rattle.gx_rules.specs.Fits.{fits_part}
use Rattle.gx_rules.specs.Maps.{with_at}
use Rattle.gx_rules.specs.Rounds.{awaits_graph}
use Rattle.gx_rules.proofs.Rounds.{cancel-ways, graph-ways}
use Rattle.gx_law_order.proofs.Places.{collects-each}
use Rattle.gx_store.specs.declared.answer.Refused.TheVariants.{Victim}
use Rattle.gx_law_order.proofs.Lists.{each_weaker}
use Rattle.gx_law_order.specs.Lists.{Each}
use Rattle.gx_law_order.specs.Stages.{IsWhole}
use Rattle.gx_law_order.specs.Horizons.{IsLow, IsLowIn}
use Rattle.gx_law_order.proofs.Lows.{Fits, IsDense, all-fits, begun-dense, begun-fits, changed-fits, horizon-fits, live-dense, live-fits, none-fits}
use Rattle.gx_locks.specs.Locks.{Locks, resumed, wait_of}
use Rattle.gx_waits.specs.Claims.{is_clear}
use Rattle.gx_rules.specs.Locks.{hold_mark, with_hold}
use Rattle.gx_waits.specs.declared.claim.Claim.{Claim}
use Rattle.gx_store.specs.Refusals.{the_coordinator}

-- MESSAGES WITHOUT A HORIZON
abbrev pub NoExec : Message → Type 0
NoExec (message.Exec g c level snapshot horizon slice) = ⊥
NoExec _ = Unit {0}

no-exec-low : (d : Table) (m : Message) → NoExec m → IsLowIn d m
no-exec-low d (message.Exec g c level x h y) e = absurd e
no-exec-low d m e = tt

abbrev pub NoneOf : Change → Type 0
NoneOf ch = Each (λ (o : Out). NoExec o.message) ch.out.outs

pub to-each-none : (m : Message) (nodes : List Node) → NoExec m → Each (λ (o : Out). NoExec o.message) (to_each m nodes)
to-each-none m [] e = tt
to-each-none m (i ∷ is) e = (e, to-each-none m is e)

ends-none : (g : Gxid) (ps : List Node) → NoneOf (ends_committed g ps)
ends-none g [] = tt
ends-none g (i ∷ is) = to-each-none (message.Forget g) (i ∷ is) tt

commits-none : (g : Gxid) (ws : List Node) (t : Txn) → NoneOf (commit_change g ws t)
commits-none g [] t = ends-none g t.participants
commits-none g (i ∷ []) t = (tt, tt)
commits-none g (i ∷ j ∷ is) t = to-each-none (message.Prepare g) (i ∷ j ∷ is) tt

aborts-none : (g : Gxid) (ps : List Node) → NoneOf (aborts g ps)
aborts-none g [] = tt
aborts-none g (i ∷ is) = to-each-none (message.Abort g) (i ∷ is) tt

decides-none : (g : Gxid) (ws ps : List Node) (b : Bool) → NoneOf (decides g ws ps b)
decides-none g ws ps false = to-each-none (message.CommitPrepared g) ws tt
decides-none g ws ps true = to-each-none (message.Abort g) ps tt

prepares-none : (g : Gxid) (ws ps rest : List Node) (b : Bool) → NoneOf (prepares g ws ps rest b)
prepares-none g ws ps [] b = decides-none g ws ps b
prepares-none g ws ps (i ∷ is) b = tt

finishes-none : (g : Gxid) (ps rest : List Node) → NoneOf (finishes g ps rest)
finishes-none g ps [] = ends-none g ps
finishes-none g ps (i ∷ is) = tt

forgets-none : (rest : List Node) → NoneOf (forgets rest)
forgets-none [] = tt
forgets-none (i ∷ is) = tt

gives-up-none : (rest : List Node) → NoneOf (gives_up rest)
gives-up-none [] = tt
gives-up-none (i ∷ is) = tt

takes-none : (g : Gxid) (ps : List Node) (j : Node) (b : Bool) (p : Status) (r : Reply) → NoneOf (takes g ps j b p r)
takes-none g ps j b (status.Preparing ws aw) reply.Prepared = prepares-none g ws ps (without j aw) b
takes-none g ps j b (status.Preparing ws aw) reply.Jfault = to-each-none (message.Abort g) ps tt
takes-none g ps j b (status.CommittingOne w) reply.Committed = ends-none g ps
takes-none g ps j b (status.CommittingOne w) reply.Jfault = to-each-none (message.Abort g) ps tt
takes-none g ps j b (status.CommittingTwo aw) reply.Committed = finishes-none g ps (without j aw)
takes-none g ps j b (status.Ended aw) reply.Forgotten = forgets-none (without j aw)
takes-none g ps j b (status.Aborting aw) reply.Aborted = gives-up-none (without j aw)
takes-none g ps j b p r = tt

pub commit-none : (g : Gxid) (ws : List Node) (o : Option Txn) → NoneOf (commit_found g ws o)
commit-none g ws None = tt
commit-none g ws (Some t) = commits-none g ws t

pub abort-none : (g : Gxid) (o : Option Txn) → NoneOf (abort_found g o)
abort-none g None = tt
abort-none g (Some t) = aborts-none g t.participants

pub reply-none : (g : Gxid) (j : Node) (r : Reply) (b : Bool) (o : Option Txn) → NoneOf (reply_found g j r b o)
reply-none g j r b None = tt
reply-none g j r b (Some t) = by_test (is_awaited_in t.phase j r)
  where
    by_test : (q : Bool) → NoneOf (if q then takes g t.participants j b t.phase r else stays)
    by_test true = takes-none g t.participants j b t.phase r
    by_test false = tt

-- WHAT IS KEPT
abbrev pub OrdersIn : Table → Option Command → Type 0
OrdersIn d None = Unit {0}
OrdersIn d (Some k) = Each (λ (o : Out). IsLowIn d o.message) k.orders

abbrev pub OrdersLow : Table → (ℕ → Work) → Type 0
OrdersLow d works = (g : ℕ) → OrdersIn d (works g).command

-- from one table to the next
abbrev Goes : Table → Table → Type 0
Goes d u = (n : ℕ) → Fits n d → Fits n u

pub record Lowered (c : Coord) (turn : CoordTurn) : Type 0 where
  pub table : (n : ℕ) → Fits n c.table → Fits n turn.coord.table
  pub orders : OrdersLow turn.coord.table turn.coord.works
  pub outs : Each (λ (o : Out). IsLowIn turn.coord.table o.message) turn.outs

pub message-goes : (d u : Table) → IsWhole d → Goes d u → (m : Message) → IsLowIn d m → IsLowIn u m
message-goes d u w f (message.Exec g c level x h y) l = (f h.0 (record { whole = w; low = l })).low
message-goes d u w f (message.Prepare g) l = tt
message-goes d u w f (message.Commit g) l = tt
message-goes d u w f (message.CommitPrepared g) l = tt
message-goes d u w f (message.Abort g) l = tt
message-goes d u w f (message.Forget g) l = tt
message-goes d u w f (message.Collect round) l = tt
message-goes d u w f (message.Answer g r) l = tt
message-goes d u w f (message.Graph round graph) l = tt
message-goes d u w f message.Up l = tt

orders-go : (d u : Table) → IsWhole d → Goes d u → (o : Option Command) → OrdersIn d o → OrdersIn u o
orders-go d u w f None l = tt
orders-go d u w f (Some k) l = each_weaker (λ (o : Out). IsLowIn d o.message) (λ (o : Out). IsLowIn u o.message) (λ o e. message-goes d u w f o.message e) k.orders l

work-at : (d : Table) (works : ℕ → Work) (g : ℕ) (w : Work) → OrdersLow d works → OrdersIn d w.command → OrdersLow d (with_at works g w)
work-at d works g w f e h = by_test (eqb h g)
  where
    by_test : (b : Bool) → OrdersIn d (if b then w else works h).command
    by_test true = e
    by_test false = f h

module _ (script : Script) (c : Coord) (whole : IsWhole c.table) (ol : OrdersLow c.table c.works) where
  all-go : (u : Table) → Goes c.table u → OrdersLow u c.works
  all-go u f g = orders-go c.table u whole f (c.works g).command (ol g)

  rest-low : Lowered c (rests c)
  rest-low = record { table = λ n f. f; orders = ol; outs = tt }

  -- a call on the transactions
  abbrev after : Gxid → Change → Table
  after g ch = changed c.table g ch

  call-goes : (g : Gxid) (ch : Change) → Goes c.table (changed c.table g ch)
  call-goes g ch n f = changed-fits n c.table g.0 ch f

  none-outs : (d : Table) (ch : Change) → NoneOf ch → Each (λ (o : Out). IsLowIn d o.message) ch.out.outs
  none-outs d ch e = each_weaker (λ (o : Out). NoExec o.message) (λ (o : Out). IsLowIn d o.message) (λ o q. no-exec-low d o.message q) ch.out.outs e

  gone-orders : (g : Gxid) (ch : Change) → OrdersLow (changed c.table g ch) (with_at c.works g.0 no_work)
  gone-orders g ch = work-at (changed c.table g ch) c.works g.0 no_work (all-go (changed c.table g ch) (call-goes g ch)) tt

  closed-low : (g : Gxid) (ch : Change) → NoneOf ch → Lowered c (is_closed c g (turns c.table g ch))
  closed-low g ch e = record { table = call-goes g ch; orders = gone-orders g ch; outs = none-outs (changed c.table g ch) ch e }

  refused-low : (g : Gxid) (ch : Change) (why : List Mark) (reason : Refused) → NoneOf ch → Lowered c (is_refused c g (turns c.table g ch) why reason)
  refused-low g ch why reason e = record { table = call-goes g ch; orders = gone-orders g ch; outs = none-outs (changed c.table g ch) ch e }

  rolled-low : (g : Gxid) (ch : Change) (marks : List Mark) → NoneOf ch → Lowered c (rolls_back c g marks (turns c.table g ch))
  rolled-low g ch marks e = record { table = call-goes g ch; orders = gone-orders g ch; outs = none-outs (changed c.table g ch) ch e }

  same-low : (g : Gxid) (ch : Change) (ms : List Mark) → NoneOf ch → Lowered c (record { coord = record c { table = changed c.table g ch }; marks = ms; outs = ch.out.outs; item = None })
  same-low g ch ms e = record { table = call-goes g ch; orders = all-go (changed c.table g ch) (call-goes g ch); outs = none-outs (changed c.table g ch) ch e }

  follow-low : (g : Gxid) (ch : Change) (o : Outcome) → NoneOf ch → Lowered c (follows c g (turns c.table g ch) o)
  follow-low g ch outcome.Pending e = same-low g ch [] e
  follow-low g ch outcome.Decided e = same-low g ch (mark.Decided g ∷ []) e
  follow-low g ch outcome.Committed e = closed-low g ch e
  follow-low g ch (outcome.Refused i) e = refused-low g ch _ _ e
  follow-low g ch outcome.Ended e = same-low g ch [] e

  commit-low : (g : Gxid) → Lowered c (commits c g)
  commit-low g = follow-low g (commit_found g (c.works g.0).writers (find_txn c.table g)) _ (commit-none g (c.works g.0).writers (find_txn c.table g))

  status-low : (g : Gxid) (j : Node) (r : Reply) (fails : Bool) → Lowered c (on_status c g j r fails)
  status-low g j r fails =
      let x = follow-low g (reply_found g j r fails (find_txn c.table g)) (on_reply c.table g j r fails).out.outcome (reply-none g j r fails (find_txn c.table g)) in
      record { table = x.table; orders = x.orders; outs = x.outs }

  aborting-low : (g : Gxid) (why : List Mark) (reason : Refused) → Lowered c (is_refused c g (on_abort c.table g) why reason)
  aborting-low g why reason = refused-low g (abort_found g (find_txn c.table g)) why reason (abort-none g (find_txn c.table g))

  rolling-low : (g : Gxid) (marks : List Mark) → Lowered c (rolls_back c g marks (on_abort c.table g))
  rolling-low g marks = rolled-low g (abort_found g (find_txn c.table g)) marks (abort-none g (find_txn c.table g))

  answers-low : (g : Gxid) (w : Work) → Lowered c (answers c g w)
  answers-low g w = by_level w.level
    where
      by_level : (level : Level) → Lowered c (record (answers c g w) { coord = record (answers c g w).coord { table = Rattle.gx_rules.specs.AtCoordinator.unless_kept level c.table g } })
      by_level ReadCommitted =
          record { table = λ n f. none-fits n c.table g.0 f; orders = work-at _ c.works g.0 (record w { command = None }) (all-go _ (λ n f. none-fits n c.table g.0 f)) tt; outs = tt }
      by_level RepeatableRead = record { table = λ n f. f; orders = work-at c.table c.works g.0 (record w { command = None }) ol tt; outs = tt }

  complete-low : (g : Gxid) (b : Block) → Lowered c (completes c g b)
  complete-low g Outside = commit-low g
  complete-low g (Open level) = answers-low g (work_of c g)
  complete-low g Failed = answers-low g (work_of c g)

  go-on-low : (g : Gxid) (left : List Node) → Lowered c (goes_on c g left)
  go-on-low g [] = complete-low g _
  go-on-low g (x ∷ xs) = rest-low

-- ANSWERS
module _ (script : Script) (c : Coord) (whole : IsWhole c.table) (ol : OrdersLow c.table c.works) where
  on-done-low : (g : Gxid) (j : Node) (cid : Cid) (wrote : Bool) (count : ℕ) (part : QueryPart) (m : Option Command) → (c.works g.0).command ≡ m → Lowered c (on_done c g j cid wrote count part m)
  on-done-low g j cid wrote count part None e = rest-low script c whole ol
  on-done-low g j cid wrote count part (Some m) e = by_test (is_awaited m j cid && fits_part m.stmt part)
    where
      w1 : Work
      w1 = record (work_of c g) { writers = writers_with wrote j (work_of c g).writers; command = Some (with_done m j count part) }

      lowered : Lowered (with_work c g w1) (goes_on (with_work c g w1) g (without j m.awaited)) → Lowered c (takes_done c g j wrote count part m)
      lowered x = record { table = x.table; orders = x.orders; outs = x.outs }

      by_test : (b : Bool) → Lowered c (if b then takes_done c g j wrote count part m else rests c)
      by_test true = lowered (go-on-low script (with_work c g w1) whole (work-at c.table c.works g.0 w1 ol (subst (OrdersIn c.table) e (ol g.0))) g (without j m.awaited))
      by_test false = rest-low script c whole ol

  on-failed-low : (g : Gxid) (j : Node) (cid : Cid) (cause : Cause) (m : Option Command) → Lowered c (on_failed c g j cid cause m)
  on-failed-low g j cid cause None = rest-low script c whole ol
  on-failed-low g j cid cause (Some m) = by_test (is_awaited m j cid)
    where
      by_test : (b : Bool) → Lowered c (if b then is_refused c g (on_abort c.table g) [] (reason_of cause) else rests c)
      by_test true = aborting-low script c whole ol g [] (reason_of cause)
      by_test false = rest-low script c whole ol

  answer-low : (g : Gxid) (j : Node) (fails : Bool) (r : Reply) → Lowered c (on_answer c g j fails r)
  answer-low g j fails (reply.Done cid wrote count part) = on-done-low g j cid wrote count part (work_of c g).command refl
  answer-low g j fails (reply.Failed cid cause) = on-failed-low g j cid cause (work_of c g).command
  answer-low g j fails reply.Prepared = status-low script c whole ol g j reply.Prepared fails
  answer-low g j fails reply.Committed = status-low script c whole ol g j reply.Committed fails
  answer-low g j fails reply.Jfault = status-low script c whole ol g j reply.Jfault fails
  answer-low g j fails reply.Again = status-low script c whole ol g j reply.Again fails
  answer-low g j fails reply.Restarted = status-low script c whole ol g j reply.Restarted fails
  answer-low g j fails reply.Aborted = status-low script c whole ol g j reply.Aborted fails
  answer-low g j fails reply.Forgotten = status-low script c whole ol g j reply.Forgotten fails

  message-low : (j : Node) (fails : Bool) (m : Message) → Lowered c (on_message c j fails m)
  message-low j fails (message.Answer g r) = answer-low g j fails r
  message-low j fails (message.Exec g cid level x h y) = rest-low script c whole ol
  message-low j fails (message.Prepare g) = rest-low script c whole ol
  message-low j fails (message.Commit g) = rest-low script c whole ol
  message-low j fails (message.CommitPrepared g) = rest-low script c whole ol
  message-low j fails (message.Abort g) = rest-low script c whole ol
  message-low j fails (message.Forget g) = rest-low script c whole ol
  message-low j fails (message.Collect round) = rest-low script c whole ol
  message-low j fails (message.Graph round graph) =
      graph-ways (Lowered c) c j round graph (rest-low script c whole ol) (λ e. record { table = λ n f. f; orders = ol; outs = tt }) (λ e f. record { table = λ n f. f; orders = ol; outs = tt })
  message-low j fails message.Up = rest-low script c whole ol

  -- messages sent again
  abbrev AnyLow : Option Message → Type 0
  AnyLow None = Unit {0}
  AnyLow (Some m) = IsLowIn c.table m

  order-low : (i : Node) (outs : List Out) → Each (λ (o : Out). IsLowIn c.table o.message) outs → AnyLow (order_to i outs)
  order-low i [] e = tt
  order-low i (o ∷ outs) e = by_test (o.node.0 == i.0) (order-low i outs e.1)
    where
      by_test : (b : Bool) → AnyLow (order_to i outs) → AnyLow (if b then Some o.message else order_to i outs)
      by_test true r = e.0
      by_test false r = r

  status-any : (g : Gxid) (o : Option Order) → AnyLow (status_order g o)
  status-any g None = tt
  status-any g (Some order.Prepare) = tt
  status-any g (Some order.Commit) = tt
  status-any g (Some order.CommitPrepared) = tt
  status-any g (Some order.Abort) = tt
  status-any g (Some order.Forget) = tt

  command-any : (i : Node) (m : Option Command) (other : Option Message) → OrdersIn c.table m → AnyLow other → AnyLow (command_order m i other)
  command-any i None other e f = f
  command-any i (Some m) other e f = by_test (has i m.awaited)
    where
      by_test : (b : Bool) → AnyLow (if b then order_to i m.orders else other)
      by_test true = order-low i m.orders e
      by_test false = f

  again-low : (i : Node) (m : Option Message) → AnyLow m → Lowered c (resends c i m)
  again-low i None e = rest-low script c whole ol
  again-low i (Some m) e = record { table = λ n f. f; orders = ol; outs = (e, tt) }

-- COMMANDS THAT GO OUT
module _ (script : Script) (c : Coord) (whole : IsWhole c.table) (dense : IsDense c.table) (ol : OrdersLow c.table c.works) (g : Gxid) where
  record ReadsLow (r : Reading) : Type 0 where
    goes : Goes c.table r.coord.table
    whole_there : IsWhole r.coord.table
    dense_there : IsDense r.coord.table
    orders : OrdersLow r.coord.table r.coord.works

  keeps : (x : Option Snapshot) → ReadsLow (record { coord = c; snapshot = x; marks = [] })
  keeps x = record { goes = λ n f. f; whole_there = whole; dense_there = dense; orders = ol }

  takes-low : (cid : Cid) → ReadsLow (takes_snapshot c g cid (work_of c g))
  takes-low cid =
      record {
        goes = λ n f. live-fits n c.table g.0 f;
        whole_there = (Rattle.gx_law_order.proofs.Closings.live-at c.table g.0 _ whole).whole;
        dense_there = live-dense c.table g.0 _ whole dense;
        orders = work-at _ c.works g.0 _ (all-go script c whole ol _ (λ n f. live-fits n c.table g.0 f)) (orders-go c.table _ whole (λ n f. live-fits n c.table g.0 f) (c.works g.0).command (ol g.0));
      }

  by-low : (cid : Cid) (x : Option Snapshot) → ReadsLow (reads_by c g cid (work_of c g) x)
  by-low cid None = takes-low cid
  by-low cid (Some x) = keeps (Some x)

  for-low : (cid : Cid) (line : Stmt) → ReadsLow (reads_for c g cid (work_of c g) line)
  for-low cid (stmt.Lock t m) = keeps None
  for-low cid (stmt.Begin level) = by-low cid (work_of c g).snapshot
  for-low cid stmt.Commit = by-low cid (work_of c g).snapshot
  for-low cid stmt.Rollback = by-low cid (work_of c g).snapshot
  for-low cid (stmt.Select q) = by-low cid (work_of c g).snapshot
  for-low cid (stmt.Insert t x) = by-low cid (work_of c g).snapshot
  for-low cid (stmt.Update t x z) = by-low cid (work_of c g).snapshot
  for-low cid (stmt.Delete t x) = by-low cid (work_of c g).snapshot

  orders-all : (u : Table) (cid : Cid) (level : Level) (x : Option Snapshot) (h : Gxid) → IsLow h.0 u → (pieces : List Piece) → Each (λ (o : Out). IsLowIn u o.message) (orders_of g cid level x h pieces)
  orders-all u cid level x h l [] = tt
  orders-all u cid level x h l (p ∷ ps) = (l, orders-all u cid level x h l ps)

  goes-low : (cid : Cid) (line : Stmt) (r : Reading) (plan : Result (List Piece) ArithFault) → ReadsLow r → Lowered c (goes g cid line r plan)
  goes-low cid line r (Ok pieces) f =
      let u : Table = enlisted_all_of r pieces in
      let low : IsLow (horizon_of r.coord.table).0 u = (all-fits (horizon_of r.coord.table).0 (nodes_in pieces) r.coord.table g.0 (horizon-fits r.coord.table f.whole_there f.dense_there)).low in
      let outs : Each (λ (o : Out). IsLowIn u o.message) (orders_of g cid (work_of r.coord g).level r.snapshot (horizon_of r.coord.table) pieces) = orders-all u cid (work_of r.coord g).level r.snapshot (horizon_of r.coord.table) low pieces in
      record {
        table = λ n x. all-fits n (nodes_in pieces) r.coord.table g.0 (f.goes n x);
        orders = work-at u r.coord.works g.0 _ (λ h. orders-go r.coord.table u f.whole_there (λ n x. all-fits n (nodes_in pieces) r.coord.table g.0 x) (r.coord.works h).command (f.orders h)) outs;
        outs = outs;
      }
    where
      enlisted_all_of : Reading → List Piece → Table
      enlisted_all_of r pieces = Rattle.gx_rules.specs.AtCoordinator.enlisted_all r.coord.table g (nodes_in pieces)
  goes-low cid line r (Err fault) f =
      let x = aborting-low script r.coord f.whole_there f.orders g (r.marks ++ fault_mark g cid line) (refusal_of fault) in
      record { table = λ n y. x.table n (f.goes n y); orders = x.orders; outs = x.outs }

  locked-low : (line : Stmt) → Lowered c (goes_on_locked script c g line)
  locked-low line = goes-low (next_cid (work_of c g)) line _ (plan_of script.segments (dist_of script.tables (table_of line)) g (next_cid (work_of c g)) line) (for-low (next_cid (work_of c g)) line)

-- WITH ITS TABLE'S LOCK, OR WAITING FOR IT
module _ (script : Script) (c : Coord) (whole : IsWhole c.table) (dense : IsDense c.table) (ol : OrdersLow c.table c.works) (g : Gxid) where
  held-low : (line : Stmt) (locks : Locks) (wanted : Claim) → Lowered c (behind (hold_mark the_coordinator wanted ∷ []) (goes_on_locked script (record c { locks = locks }) g line))
  held-low line locks wanted = let x = locked-low script (record c { locks = locks }) whole dense ol g line in record { table = x.table; orders = x.orders; outs = x.outs }

  request-low : (line : Stmt) (o : Option Claim) → Lowered c (requests script c g line o)
  request-low line None = locked-low script c whole dense ol g line
  request-low line (Some wanted) = by_test (is_clear c.locks.holds c.locks.waits wanted)
    where
      by_test : (b : Bool) → Lowered c (if_granted script c g line wanted b)
      by_test true = held-low line (with_hold c.locks wanted) wanted
      by_test false = record { table = λ n f. f; orders = work-at c.table c.works g.0 (record (work_of c g) { waiting = Some line }) ol (ol g.0); outs = tt }

  dispatch-low : (line : Stmt) → Lowered c (dispatches script c g line)
  dispatch-low line = request-low line (table_lock script g line)

module _ (script : Script) (c : Coord) (whole : IsWhole c.table) (dense : IsDense c.table) (ol : OrdersLow c.table c.works) (g : Gxid) where
  resume-low : (o : Option Claim) (line : Option Stmt) → Lowered c (resumes script c g o line)
  resume-low None line = rest-low script c whole ol
  resume-low (Some wanted) None = rest-low script c whole ol
  resume-low (Some wanted) (Some line) =
      let x = held-low script (with_work c g (record (work_of c g) { waiting = None })) whole dense (work-at c.table c.works g.0 (record (work_of c g) { waiting = None }) ol (ol g.0)) g line (resumed c.locks g (Some wanted)) wanted in
      record { table = x.table; orders = x.orders; outs = x.outs }

-- LINES, AND ALL EVENTS
module _ (script : Script) (c : Coord) (whole : IsWhole c.table) (dense : IsDense c.table) (ol : OrdersLow c.table c.works) where
  moved-low : (s : SessionId) (x : Session) (turn : CoordTurn) → Lowered (with_session c s x) turn → Lowered c turn
  moved-low s x turn f = record { table = f.table; orders = f.orders; outs = f.outs }

  begins-low : (s : SessionId) (level : Level) (turn : CoordTurn) → Lowered (begins c s level) turn → Lowered c (behind (mark.Start c.table.next s ∷ []) turn)
  begins-low s level turn f = record { table = λ n x. f.table n (begun-fits n c.table x); orders = f.orders; outs = f.outs }

  begins-orders : (s : SessionId) (level : Level) → OrdersLow (begun c.table) (with_at c.works c.table.next.0 (new_work s level))
  begins-orders s level = work-at (begun c.table) c.works c.table.next.0 (new_work s level) (all-go script c whole ol (begun c.table) (λ n f. begun-fits n c.table f)) tt

  begins-whole : IsWhole (begun c.table)
  begins-whole = Rattle.gx_law_order.proofs.Lines.begun-whole c.table whole

  line-low : (s : SessionId) (line : Stmt) (asked : LineStep) → Lowered c (on_line script c s line asked)
  line-low s line (step.Answer plain) = record { table = λ n f. f; orders = ol; outs = tt }
  line-low s line step.InFailedBlock = record { table = λ n f. f; orders = ol; outs = tt }
  line-low s line step.NotInBlock = record { table = λ n f. f; orders = ol; outs = tt }
  line-low s line (step.BeginBlock level) = begins-low s level _ (record { table = λ n f. f; orders = begins-orders s level; outs = tt })
  line-low s line step.CommitBlock = commit-low script c whole ol (session_of c s).transaction
  line-low s line step.RollbackBlock = rolling-low script c whole ol (session_of c s).transaction (answer_mark c s told.Rollback ∷ [])
  line-low s line (step.Command true) = begins-low s ReadCommitted _ (dispatch-low script (begins c s ReadCommitted) begins-whole (begun-dense c.table whole dense) (begins-orders s ReadCommitted) c.table.next line)
  line-low s line (step.Command false) = dispatch-low script c whole dense ol (session_of c s).transaction line

module _ (script : Script) (c : Coord) (whole : IsWhole c.table) (dense : IsDense c.table) (ol : OrdersLow c.table c.works) where
  start-low : (s : SessionId) (line : Option Stmt) → Lowered c (starts script c s line)
  start-low s None = rest-low script c whole ol
  start-low s (Some line) = moved-low script c whole dense ol s _ _ (line-low script (starts_line c s (line_step (session_of c s).state.block line)) whole dense ol s line (line_step (session_of c s).state.block line))

  end-low : (s : SessionId) (b : Block) → Lowered c (ends_in c s b)
  end-low s (Open level) = moved-low script c whole dense ol s (record (session_of c s) { state = idle_outside }) _ (rolling-low script (with_state c s idle_outside) whole ol (session_of c s).transaction [])
  end-low s Failed = record { table = λ n f. f; orders = ol; outs = tt }
  end-low s Outside = rest-low script c whole ol

  pub event-low : (x : NodeEvent) (fails : Bool) → Lowered c (on_event script c x fails)
  event-low (event.Deliver from envelope) fails = message-low script c whole ol from fails envelope.message
  event-low (event.Start s) fails = start-low s (next_line script c s)
  event-low (event.End s) fails = end-low s (session_of c s).state.block
  event-low (event.Resend i (Some g)) fails = again-low script c whole ol i (awaited c g i) (command-any script c whole ol i (work_of c g).command _ (ol g.0) (status-any script c whole ol g (awaited_order c.table g i)))
  event-low (event.Resend i None) fails = again-low script c whole ol i (awaited_collect c i) (collect-any (awaits_graph c i))
    where
      collect-any : (b : Bool) → AnyLow script c whole ol (if b then Some (message.Collect c.rounds) else None)
      collect-any true = tt
      collect-any false = tt
  event-low (event.Resume g) fails = resume-low script c whole dense ol g (wait_of c.locks g) (work_of c g).waiting
  event-low event.Round fails = record { table = λ n f. f; orders = ol; outs = collects-each (λ (o : Out). IsLowIn c.table o.message) script.segments (c.rounds + 1) (λ i one within. tt) }

  -- a victim
  pub cancel-low : (g : Gxid) → Lowered c (cancels c g)
  cancel-low g = cancel-ways (Lowered c) c g (rest-low script c whole ol) (λ live busy. aborting-low script c whole ol g [] (Victim c.rounds))
