-- Every event of the coordinator goes on waiting for whoever has not ended.
use Rattle.std.proofs.Common.{◌≡◌, ◌⊎◌, inl, inr, ℕ, ◌+◌, List, [], ◌∷◌, ◌++◌, Option, Some, None, Result, Ok, Err, Bool, true, false, refl, sym, subst, ap, ◌∙◌, if◌then◌else◌, ◌==◌, ◌&&◌, arith, eqb}
use Rattle.std.proofs.lemmas.Bool.{and_from, eqb-true, or_left, or_right}
use Rattle.std.specs.Prelude.{option_map}
use Rattle.gx_lemmas.proofs.Numbers.{eqb-self}
use Rattle.gx_lemmas.proofs.Tests.{and-first, or-cases}
use Rattle.gx_ids.specs.declared.ids.Cid.{Cid}
use Rattle.gx_ids.specs.declared.ids.Gxid.{Gxid}
use Rattle.gx_ids.specs.declared.ids.Node.{Node}
use Rattle.gx_ids.specs.declared.ids.SessionId.{SessionId}
use Rattle.gx_tree.specs.declared.part.Part.{Part as QueryPart}
use Rattle.gx_tree.specs.declared.stmt.Level.{Level}
use Rattle.gx_tree.specs.declared.stmt.Level.TheVariants.{ReadCommitted, RepeatableRead}
use Rattle.gx_tree.specs.declared.stmt.Stmt.{Stmt}
use Rattle.gx_tree.specs.declared.stmt.Stmt.TheVariants as stmt
use Rattle.gx_dsnap.specs.declared.snapshot.Snapshot.{Snapshot}
use Rattle.gx_dtx.specs.Nodes.{has, with_node, without}
use Rattle.gx_dtx.specs.Rules.{abort_found, awaited_order, begun, changed, commit_found, enlisted, on_abort, on_reply, reply_found, turns, with_live}
use Rattle.gx_dtx.specs.Table.{Table, find_txn, horizon_of, new_txn, xmin_of}
use Rattle.gx_dtx.specs.declared.change.Change.{Change}
use Rattle.gx_dtx.specs.declared.order.Order.{Order}
use Rattle.gx_dtx.specs.declared.order.Order.TheVariants as order
use Rattle.gx_dtx.specs.declared.outcome.Outcome.{Outcome}
use Rattle.gx_dtx.specs.declared.outcome.Outcome.TheVariants as outcome
use Rattle.gx_dtx.specs.declared.phase.Phase.TheVariants as status
use Rattle.gx_dtx.specs.declared.txn.Txn.{Txn}
use Rattle.gx_meaning.specs.declared.fault.ArithFault.{ArithFault}
use Rattle.gx_msg.specs.declared.message.Message.{Message}
use Rattle.gx_msg.specs.declared.message.Message.TheVariants as message
use Rattle.gx_msg.specs.declared.message.Out.{Out}
use Rattle.gx_msg.specs.declared.reply.Cause.{Cause}
use Rattle.gx_msg.specs.declared.reply.Reply.{Reply}
use Rattle.gx_msg.specs.declared.reply.Reply.TheVariants as reply
use Rattle.gx_meaning.specs.Plan.{plan_of}
use Rattle.gx_meaning.specs.declared.piece.Piece.{Piece}
use Rattle.gx_script.specs.declared.Script.{Script}
use Rattle.gx_script.specs.Session.{after_line, idle_outside, line_step}
use Rattle.gx_script.specs.declared.line_step.LineStep.{LineStep}
use Rattle.gx_script.specs.declared.line_step.LineStep.TheVariants as step
use Rattle.gx_script.specs.declared.state.Block.{Block}
use Rattle.gx_script.specs.declared.state.Block.TheVariants.{Outside, Open, Failed}
use Rattle.gx_store.specs.declared.answer.Refused.{Refused}
use Rattle.gx_store.specs.declared.answer.Refused.TheVariants.{Victim}
use Rattle.gx_store.specs.declared.mark.Mark.{Mark}
use Rattle.gx_store.specs.declared.mark.Mark.TheVariants as mark
use Rattle.gx_store.specs.declared.node.NodeEvent.{NodeEvent}
use Rattle.gx_store.specs.declared.node.NodeEvent.TheVariants as event
use Rattle.gx_store.specs.Writes.{dist_of}
use Rattle.gx_store.specs.declared.answer.StmtAnswer.TheVariants as told
use Rattle.gx_rules.specs.AtCoordinator.{Reading, answers, awaited, awaited_collect, begins, behind, cancels, command_order, commits, completes, coord_can, dispatches, ends_in, enlisted_all, fault_mark, follows, goes, goes_on, is_awaited, is_committed as is_closed, is_idle, is_nothing, is_refused, kept_at, next_cid, next_line, nodes_in, on_answer, on_done, on_event, on_failed, on_line, on_message, on_status, order_to, orders_of, reads_by, reads_for, reason_of, refusal_of, resends, resumes, rolls_back, starts, starts_line, status_order, table_of, takes_done, takes_snapshot, unless_kept, with_done, writers_with, goes_on_locked, if_granted, requests, answer_mark}
use Rattle.gx_store.specs.Locks.{table_lock}
use Rattle.gx_rules.specs.Coordinators.{Command, Coord, CoordTurn, Session, Work, new_work, no_work, rests, session_of, with_session, with_state, with_work, work_of}
use Rattle.gx_rules.specs.Fits.{fits_part}
use Rattle.gx_rules.specs.Maps.{with_at}
use Rattle.gx_rules.specs.Rounds.{awaits_graph, begins_round, rechecks, with_report}
use Rattle.gx_rules.proofs.Rounds.{cancel-ways, graph-ways}
use Rattle.gx_rules.specs.Snapshots.{snapshot_of}
use Rattle.gx_law_order.proofs.Closings.{live-at, set_live}
use Rattle.gx_law_order.proofs.Ends.{begun-finds}
use Rattle.gx_law_order.proofs.Lines.{Asks, asks, begun-whole}
use Rattle.gx_law_order.proofs.Lists.{each_weaker}
use Rattle.gx_law_order.specs.Lists.{Each}
use Rattle.gx_law_order.proofs.Places.{collects-each}
use Rattle.gx_law_order.specs.Sessions.{Kept, is_nothing_in}
use Rattle.gx_law_order.specs.Stages.{IsWhole}
use Rattle.gx_law_order.proofs.Stages.{txn-at}
use Rattle.gx_law_order.specs.Standings.{at, gx}
use Rattle.gx_law_order.proofs.Dispatching.{IsLive, each-unmap, goes-out-is}
use Rattle.gx_law_order.proofs.Events.{live-stage}
use Rattle.gx_law_order.proofs.Held.{ChangeHeld, GoesOn, SaysEnded, abort-held, begun-held, changed-held, commit-held, held_in, is_awaited_at, is_held, live-held, one-held, reply-held}
use Rattle.gx_law_order.proofs.Lowered.{NoExec, NoneOf, abort-none, commit-none, reply-none}
use Rattle.gx_law_order.proofs.Nodes.{each-has, has-with}
use Rattle.gx_locks.specs.Locks.{resumed, wait_of}
use Rattle.gx_waits.specs.Claims.{is_clear}
use Rattle.gx_rules.specs.Locks.{with_hold}
use Rattle.gx_waits.specs.declared.claim.Claim.{Claim}
use Rattle.gx_waits.specs.declared.graph.LocalGraph.{LocalGraph}
use Rattle.gx_law_order.proofs.Waiting.{GoesOut}

module _ (E : ℕ → ℕ → Bool) where
  -- a command is for a segment that is waited for
  abbrev pub HeldFor : Table → ℕ → Message → Type 0
  HeldFor d i (message.Exec g c level snapshot horizon slice) = (held_in d i g.0 ≡ true) ⊎ (E i g.0 ≡ true)
  HeldFor d i _ = Unit {0}

  abbrev pub HeldOut : Table → Out → Type 0
  HeldOut d o = HeldFor d o.node.0 o.message

  abbrev pub OrdersHeldIn : Table → Option Command → Type 0
  OrdersHeldIn d None = Unit {0}
  OrdersHeldIn d (Some k) = Each (HeldOut d) k.orders

  abbrev pub OrdersHeld : Table → (ℕ → Work) → Type 0
  OrdersHeld d works = (g : ℕ) → OrdersHeldIn d (works g).command

  pub record Holding (c : Coord) (turn : CoordTurn) : Type 0 where
    pub table : GoesOn E c.table turn.coord.table
    pub orders : OrdersHeld turn.coord.table turn.coord.works
    pub outs : Each (HeldOut turn.coord.table) turn.outs

  pub held-goes : (d u : Table) → GoesOn E d u → (i : ℕ) (m : Message) → HeldFor d i m → HeldFor u i m
  held-goes d u f i (message.Exec g c level x h y) (inl e) = f i g.0 e
  held-goes d u f i (message.Exec g c level x h y) (inr e) = inr e
  held-goes d u f i (message.Prepare g) e = tt
  held-goes d u f i (message.Commit g) e = tt
  held-goes d u f i (message.CommitPrepared g) e = tt
  held-goes d u f i (message.Abort g) e = tt
  held-goes d u f i (message.Forget g) e = tt
  held-goes d u f i (message.Collect round) e = tt
  held-goes d u f i (message.Answer g r) e = tt
  held-goes d u f i (message.Graph round graph) e = tt
  held-goes d u f i message.Up e = tt

  no-exec-held : (d : Table) (i : ℕ) (m : Message) → NoExec m → HeldFor d i m
  no-exec-held d i (message.Exec g c level x h y) e = absurd e
  no-exec-held d i m e = tt

  orders-go : (d u : Table) → GoesOn E d u → (o : Option Command) → OrdersHeldIn d o → OrdersHeldIn u o
  orders-go d u f None e = tt
  orders-go d u f (Some k) e = each_weaker (HeldOut d) (HeldOut u) (λ o q. held-goes d u f o.node.0 o.message q) k.orders e

  work-at : (d : Table) (works : ℕ → Work) (g : ℕ) (w : Work) → OrdersHeld d works → OrdersHeldIn d w.command → OrdersHeld d (with_at works g w)
  work-at d works g w f e h = by_test (eqb h g)
    where
      by_test : (b : Bool) → OrdersHeldIn d (if b then w else works h).command
      by_test true = e
      by_test false = f h

  same-on : (d : Table) → GoesOn E d d
  same-on d i g e = inl e

  on-then : (d u v : Table) → GoesOn E d u → GoesOn E u v → GoesOn E d v
  on-then d u v f g i h e = either (f i h e)
    where
      either : (held_in u i h ≡ true) ⊎ (E i h ≡ true) → (held_in v i h ≡ true) ⊎ (E i h ≡ true)
      either (inl x) = g i h x
      either (inr x) = inr x

  module _ (c : Coord) (whole : IsWhole c.table) (ol : OrdersHeld c.table c.works) where
    rest-holds : Holding c (rests c)
    rest-holds = record { table = same-on c.table; orders = ol; outs = tt }

    all-go : (u : Table) → GoesOn E c.table u → OrdersHeld u c.works
    all-go u f g = orders-go c.table u f (c.works g).command (ol g)

    -- a call, with what it keeps
    module _ (g : Gxid) (ch : Change) (none : NoneOf ch) (held : ChangeHeld E g.0 (find_txn c.table g) ch) where
      goes-call : GoesOn E c.table (changed c.table g ch)
      goes-call = changed-held E c.table g.0 ch whole held

      call-outs : Each (HeldOut (changed c.table g ch)) ch.out.outs
      call-outs = each_weaker (λ (o : Out). NoExec o.message) (HeldOut (changed c.table g ch)) (λ o q. no-exec-held (changed c.table g ch) o.node.0 o.message q) ch.out.outs none

      gone-orders : OrdersHeld (changed c.table g ch) (with_at c.works g.0 no_work)
      gone-orders = work-at (changed c.table g ch) c.works g.0 no_work (all-go (changed c.table g ch) goes-call) tt

      closed-holds : Holding c (is_closed c g (turns c.table g ch))
      closed-holds = record { table = goes-call; orders = gone-orders; outs = call-outs }

      refused-holds : (why : List Mark) (reason : Refused) → Holding c (is_refused c g (turns c.table g ch) why reason)
      refused-holds why reason = record { table = goes-call; orders = gone-orders; outs = call-outs }

      rolled-holds : (marks : List Mark) → Holding c (rolls_back c g marks (turns c.table g ch))
      rolled-holds marks = record { table = goes-call; orders = gone-orders; outs = call-outs }

      same-holds : (ms : List Mark) → Holding c (record { coord = record c { table = changed c.table g ch }; marks = ms; outs = ch.out.outs; item = None })
      same-holds ms = record { table = goes-call; orders = all-go (changed c.table g ch) goes-call; outs = call-outs }

      follow-holds : (o : Outcome) → Holding c (follows c g (turns c.table g ch) o)
      follow-holds outcome.Pending = same-holds []
      follow-holds outcome.Decided = same-holds (mark.Decided g ∷ [])
      follow-holds outcome.Committed = closed-holds
      follow-holds (outcome.Refused i) = refused-holds _ _
      follow-holds outcome.Ended = same-holds []

    commit-holds : (g : Gxid) → Holding c (commits c g)
    commit-holds g = follow-holds g (commit_found g (c.works g.0).writers (find_txn c.table g)) (commit-none g (c.works g.0).writers (find_txn c.table g)) (commit-held E g.0 (c.works g.0).writers (find_txn c.table g)) _

    status-holds : (g : Gxid) (j : Node) (r : Reply) (fails : Bool) → SaysEnded E j.0 g.0 r → Holding c (on_status c g j r fails)
    status-holds g j r fails s =
        let x = follow-holds g (reply_found g j r fails (find_txn c.table g)) (reply-none g j r fails (find_txn c.table g)) (reply-held E g.0 j r fails (find_txn c.table g) s) (on_reply c.table g j r fails).out.outcome in
        record { table = x.table; orders = x.orders; outs = x.outs }

    aborting-holds : (g : Gxid) (why : List Mark) (reason : Refused) → Holding c (is_refused c g (on_abort c.table g) why reason)
    aborting-holds g why reason = refused-holds g (abort_found g (find_txn c.table g)) (abort-none g (find_txn c.table g)) (abort-held E g.0 (find_txn c.table g)) why reason

    rolling-holds : (g : Gxid) (marks : List Mark) → Holding c (rolls_back c g marks (on_abort c.table g))
    rolling-holds g marks = rolled-holds g (abort_found g (find_txn c.table g)) (abort-none g (find_txn c.table g)) (abort-held E g.0 (find_txn c.table g)) marks

    answers-holds : (g : Gxid) (w : Work) → Holding c (answers c g w)
    answers-holds g w = by_level w.level
      where
        by_level : (level : Level) → Holding c (record (answers c g w) { coord = record (answers c g w).coord { table = unless_kept level c.table g } })
        by_level ReadCommitted =
            record { table = live-held E c.table g.0 None whole; orders = work-at (with_live c.table g None) c.works g.0 (record w { command = None }) (all-go (with_live c.table g None) (live-held E c.table g.0 None whole)) tt; outs = tt }
        by_level RepeatableRead = record { table = same-on c.table; orders = work-at c.table c.works g.0 (record w { command = None }) ol tt; outs = tt }

    complete-holds : (g : Gxid) (b : Block) → Holding c (completes c g b)
    complete-holds g Outside = commit-holds g
    complete-holds g (Open level) = answers-holds g (work_of c g)
    complete-holds g Failed = answers-holds g (work_of c g)

    on-holds : (g : Gxid) (and-first : List Node) → Holding c (goes_on c g and-first)
    on-holds g [] = complete-holds g _
    on-holds g (x ∷ xs) = rest-holds

  -- ANSWERS
  module _ (c : Coord) (whole : IsWhole c.table) (ol : OrdersHeld c.table c.works) where
    done-holds : (g : Gxid) (j : Node) (cid : Cid) (wrote : Bool) (count : ℕ) (part : QueryPart) (m : Option Command) → (c.works g.0).command ≡ m → Holding c (on_done c g j cid wrote count part m)
    done-holds g j cid wrote count part None e = rest-holds c whole ol
    done-holds g j cid wrote count part (Some m) e = by_test (is_awaited m j cid && fits_part m.stmt part)
      where
        w1 : Work
        w1 = record (work_of c g) { writers = writers_with wrote j (work_of c g).writers; command = Some (with_done m j count part) }

        back : Holding (with_work c g w1) (goes_on (with_work c g w1) g (without j m.awaited)) → Holding c (takes_done c g j wrote count part m)
        back x = record { table = x.table; orders = x.orders; outs = x.outs }

        by_test : (b : Bool) → Holding c (if b then takes_done c g j wrote count part m else rests c)
        by_test true = back (on-holds (with_work c g w1) whole (work-at c.table c.works g.0 w1 ol (subst (OrdersHeldIn c.table) e (ol g.0))) g (without j m.awaited))
        by_test false = rest-holds c whole ol

    failed-holds : (g : Gxid) (j : Node) (cid : Cid) (cause : Cause) (m : Option Command) → Holding c (on_failed c g j cid cause m)
    failed-holds g j cid cause None = rest-holds c whole ol
    failed-holds g j cid cause (Some m) = by_test (is_awaited m j cid)
      where
        by_test : (b : Bool) → Holding c (if b then is_refused c g (on_abort c.table g) [] (reason_of cause) else rests c)
        by_test true = aborting-holds c whole ol g [] (reason_of cause)
        by_test false = rest-holds c whole ol

    answer-holds : (g : Gxid) (j : Node) (fails : Bool) (r : Reply) → SaysEnded E j.0 g.0 r → Holding c (on_answer c g j fails r)
    answer-holds g j fails (reply.Done cid wrote count part) s = done-holds g j cid wrote count part (work_of c g).command refl
    answer-holds g j fails (reply.Failed cid cause) s = failed-holds g j cid cause (work_of c g).command
    answer-holds g j fails reply.Prepared s = status-holds c whole ol g j reply.Prepared fails s
    answer-holds g j fails reply.Committed s = status-holds c whole ol g j reply.Committed fails s
    answer-holds g j fails reply.Jfault s = status-holds c whole ol g j reply.Jfault fails s
    answer-holds g j fails reply.Again s = status-holds c whole ol g j reply.Again fails s
    answer-holds g j fails reply.Restarted s = status-holds c whole ol g j reply.Restarted fails s
    answer-holds g j fails reply.Aborted s = status-holds c whole ol g j reply.Aborted fails s
    answer-holds g j fails reply.Forgotten s = status-holds c whole ol g j reply.Forgotten fails s

    abbrev pub SaysBy : ℕ → Message → Type 0
    SaysBy i (message.Answer g r) = SaysEnded E i g.0 r
    SaysBy i _ = Unit {0}

    -- rounds touch no transaction
    round-holds : (round : ℕ) (reports : Option (List (Option LocalGraph))) (ns : List Mark) → Holding c (record { coord = record c { rounds = round; reports = reports }; marks = ns; outs = []; item = None })
    round-holds round reports ns = record { table = same-on c.table; orders = ol; outs = tt }

    begins-round-holds : (script : Script) → Holding c (begins_round script c)
    begins-round-holds script = record { table = same-on c.table; orders = ol; outs = collects-each (HeldOut c.table) script.segments (c.rounds + 1) (λ i one within. tt) }

    -- a victim
    victim-holds : (g : Gxid) → Holding c (cancels c g)
    victim-holds g = cancel-ways (Holding c) c g (rest-holds c whole ol) (λ live busy. aborting-holds c whole ol g [] (Victim c.rounds))

    message-holds : (j : Node) (fails : Bool) (m : Message) → SaysBy j.0 m → Holding c (on_message c j fails m)
    message-holds j fails (message.Answer g r) s = answer-holds g j fails r s
    message-holds j fails (message.Exec g cid level x h y) s = rest-holds c whole ol
    message-holds j fails (message.Prepare g) s = rest-holds c whole ol
    message-holds j fails (message.Commit g) s = rest-holds c whole ol
    message-holds j fails (message.CommitPrepared g) s = rest-holds c whole ol
    message-holds j fails (message.Abort g) s = rest-holds c whole ol
    message-holds j fails (message.Forget g) s = rest-holds c whole ol
    message-holds j fails (message.Collect round) s = rest-holds c whole ol
    message-holds j fails (message.Graph round graph) s =
        graph-ways (Holding c) c j round graph (rest-holds c whole ol) (λ e. round-holds c.rounds (with_report c graph).reports []) (λ e f. round-holds c.rounds None (rechecks (with_report c graph)).marks)
    message-holds j fails message.Up s = rest-holds c whole ol

    -- messages sent again
    abbrev AnyHeld : ℕ → Option Message → Type 0
    AnyHeld i None = Unit {0}
    AnyHeld i (Some m) = HeldFor c.table i m

    order-any : (i : Node) (outs : List Out) → Each (HeldOut c.table) outs → AnyHeld i.0 (order_to i outs)
    order-any i [] e = tt
    order-any i (o ∷ outs) e = by_test (o.node.0 == i.0) refl (order-any i outs e.1)
      where
        by_test : (b : Bool) → (o.node.0 == i.0) ≡ b → AnyHeld i.0 (order_to i outs) → AnyHeld i.0 (if b then Some o.message else order_to i outs)
        by_test true q r = subst (λ n. HeldFor c.table n o.message) (eqb-true o.node.0 i.0 q) e.0
        by_test false q r = r

    status-any : (i : ℕ) (g : Gxid) (o : Option Order) → AnyHeld i (status_order g o)
    status-any i g None = tt
    status-any i g (Some order.Prepare) = tt
    status-any i g (Some order.Commit) = tt
    status-any i g (Some order.CommitPrepared) = tt
    status-any i g (Some order.Abort) = tt
    status-any i g (Some order.Forget) = tt

    command-any : (i : Node) (m : Option Command) (other : Option Message) → OrdersHeldIn c.table m → AnyHeld i.0 other → AnyHeld i.0 (command_order m i other)
    command-any i None other e f = f
    command-any i (Some m) other e f = by_test (has i m.awaited)
      where
        by_test : (b : Bool) → AnyHeld i.0 (if b then order_to i m.orders else other)
        by_test true = order-any i m.orders e
        by_test false = f

    again-holds : (i : Node) (m : Option Message) → AnyHeld i.0 m → Holding c (resends c i m)
    again-holds i None e = rest-holds c whole ol
    again-holds i (Some m) e = record { table = same-on c.table; orders = ol; outs = (e, tt) }

  -- ENLISTING

  all-held : (nodes : List Node) (d : Table) (g : ℕ) (t : Txn) → IsWhole d → find_txn d (gx g) ≡ Some t → t.phase ≡ status.Active → (i : ℕ) → (has (at i) t.participants ≡ true) ⊎ (has (at i) nodes ≡ true) → held_in (enlisted_all d (gx g) nodes) i g ≡ true
  all-held [] d g t w f a i (inl e) = ap (λ o. is_held o i) f ∙ and_from (has (at i) t.participants) (is_awaited_at t.phase i) e (ap (λ p. is_awaited_at p i) a)
  all-held [] d g t w f a i (inr e) = absurd (cc)
  all-held (j ∷ js) d g t w f a i e =
      let x = txn-at d g (λ (y : Txn). record y { participants = with_node j y.participants }) w in
      all-held js (enlisted d (gx g) j) g (record t { participants = with_node j t.participants }) (record { first = x.whole.first; apart = x.whole.apart; drawn = x.whole.drawn })
      (x.finds g ∙ ap (λ b. if b then option_map (λ (y : Txn). record y { participants = with_node j y.participants }) (find_txn d (gx g)) else find_txn d (gx g)) (eqb-self g) ∙ ap (option_map (λ (y : Txn). record y { participants = with_node j y.participants })) f) a i (next e)
    where
      next : (has (at i) t.participants ≡ true) ⊎ (has (at i) (j ∷ js) ≡ true) → (has (at i) (with_node j t.participants) ≡ true) ⊎ (has (at i) js ≡ true)
      next (inl q) = inl (has-with (at i) j t.participants ∙ or_right (eqb j.0 i) (has (at i) t.participants) q)
      next (inr q) = by_split (or-cases (eqb j.0 i) (has (at i) js) q)
        where
          by_split : (eqb j.0 i ≡ true) ⊎ (has (at i) js ≡ true) → (has (at i) (with_node j t.participants) ≡ true) ⊎ (has (at i) js ≡ true)
          by_split (inl z) = inl (has-with (at i) j t.participants ∙ or_left (eqb j.0 i) (has (at i) t.participants) z)
          by_split (inr z) = inr z

  enlist-on : (nodes : List Node) (d : Table) (g : ℕ) → IsWhole d → GoesOn E d (enlisted_all d (gx g) nodes)
  enlist-on [] d g w = same-on d
  enlist-on (j ∷ js) d g w =
      let x = txn-at d g (λ (y : Txn). record y { participants = with_node j y.participants }) w in
      on-then d (enlisted d (gx g) j) (enlisted_all (enlisted d (gx g) j) (gx g) js) (one-held E d g j w) (enlist-on js (enlisted d (gx g) j) g (record { first = x.whole.first; apart = x.whole.apart; drawn = x.whole.drawn }))

  -- COMMANDS THAT GO OUT
  module _ (c : Coord) (whole : IsWhole c.table) (ol : OrdersHeld c.table c.works) (g : ℕ) (live : IsLive c g) where
    record ReadsHeld (r : Reading) : Type 0 where
      goes_there : GoesOn E c.table r.coord.table
      whole_there : IsWhole r.coord.table
      orders : OrdersHeld r.coord.table r.coord.works
      live_there : IsLive r.coord g

    keeps : (x : Option Snapshot) → ReadsHeld (record { coord = c; snapshot = x; marks = [] })
    keeps x = record { goes_there = same-on c.table; whole_there = whole; orders = ol; live_there = live }

    takes-held : (cid : Cid) → ReadsHeld (takes_snapshot c (gx g) cid (c.works g))
    takes-held cid =
        let a = live-at c.table g (Some (xmin_of c.table)) whole in
        let f = live-held E c.table g (Some (xmin_of c.table)) whole in
        record {
          goes_there = f;
          whole_there = a.whole;
          orders = work-at (with_live c.table (gx g) (Some (xmin_of c.table))) c.works g (record (c.works g) { snapshot = kept_at (c.works g).level (snapshot_of c.table) }) (all-go c whole ol (with_live c.table (gx g) (Some (xmin_of c.table))) f) (orders-go c.table (with_live c.table (gx g) (Some (xmin_of c.table))) f (c.works g).command (ol g));
          live_there = record { txn = set_live (Some (xmin_of c.table)) live.txn; found = a.finds g ∙ ap (λ b. if b then option_map (set_live (Some (xmin_of c.table))) (find_txn c.table (gx g)) else find_txn c.table (gx g)) (eqb-self g) ∙ ap (option_map (set_live (Some (xmin_of c.table)))) live.found; active = live.active };
        }

    by-held : (cid : Cid) (x : Option Snapshot) → ReadsHeld (reads_by c (gx g) cid (c.works g) x)
    by-held cid None = takes-held cid
    by-held cid (Some x) = keeps (Some x)

    for-held : (cid : Cid) (line : Stmt) → ReadsHeld (reads_for c (gx g) cid (c.works g) line)
    for-held cid (stmt.Lock t m) = keeps None
    for-held cid (stmt.Begin level) = by-held cid (c.works g).snapshot
    for-held cid stmt.Commit = by-held cid (c.works g).snapshot
    for-held cid stmt.Rollback = by-held cid (c.works g).snapshot
    for-held cid (stmt.Select q) = by-held cid (c.works g).snapshot
    for-held cid (stmt.Insert t x) = by-held cid (c.works g).snapshot
    for-held cid (stmt.Update t x z) = by-held cid (c.works g).snapshot
    for-held cid (stmt.Delete t x) = by-held cid (c.works g).snapshot

    sent-held : (u : Table) (cid : Cid) (level : Level) (x : Option Snapshot) (h : Gxid) (all ps : List Piece) → ((i : ℕ) → has (at i) (nodes_in all) ≡ true → held_in u i g ≡ true) → Each (λ (p : Piece). has p.node (nodes_in all) ≡ true) ps → Each (HeldOut u) (orders_of (gx g) cid level x h ps)
    sent-held u cid level x h all [] f e = tt
    sent-held u cid level x h all (p ∷ ps) f e = (inl (f p.node.0 e.0), sent-held u cid level x h all ps f e.1)

    goes-holds : (cid : Cid) (line : Stmt) (r : Reading) (plan : Result (List Piece) ArithFault) → ReadsHeld r → Holding c (goes (gx g) cid line r plan)
    goes-holds cid line r (Ok pieces) f =
        let u : Table = enlisted_all r.coord.table (gx g) (nodes_in pieces) in
        let on : GoesOn E r.coord.table u = enlist-on (nodes_in pieces) r.coord.table g f.whole_there in
        let outs : Each (HeldOut u) (orders_of (gx g) cid (work_of r.coord (gx g)).level r.snapshot (horizon_of r.coord.table) pieces)
        = sent-held u cid (work_of r.coord (gx g)).level r.snapshot (horizon_of r.coord.table) pieces pieces (λ i e. all-held (nodes_in pieces) r.coord.table g f.live_there.txn f.whole_there f.live_there.found f.live_there.active i (inr e)) (each-unmap (λ (i : Node). has i (nodes_in pieces) ≡ true) (λ (p : Piece). p.node) pieces (each-has (nodes_in pieces))) in
        record {
          table = on-then c.table r.coord.table u f.goes_there on;
          orders = work-at u r.coord.works g _ (λ h. orders-go r.coord.table u on (r.coord.works h).command (f.orders h)) outs;
          outs = outs;
        }
    goes-holds cid line r (Err fault) f =
        let x = aborting-holds r.coord f.whole_there f.orders (gx g) (r.marks ++ fault_mark (gx g) cid line) (refusal_of fault) in
        record { table = on-then c.table r.coord.table (is_refused r.coord (gx g) (on_abort r.coord.table (gx g)) (r.marks ++ fault_mark (gx g) cid line) (refusal_of fault)).coord.table f.goes_there x.table; orders = x.orders; outs = x.outs }

    locked-holds : (script : Script) (line : Stmt) → Holding c (goes_on_locked script c (gx g) line)
    locked-holds script line = goes-holds (next_cid (c.works g)) line _ (plan_of script.segments (dist_of script.tables (table_of line)) (gx g) (next_cid (c.works g)) line) (for-held (next_cid (c.works g)) line)

  -- WITH ITS TABLE'S LOCK, OR WAITING FOR IT
  module _ (c : Coord) (whole : IsWhole c.table) (ol : OrdersHeld c.table c.works) (g : ℕ) (live : IsLive c g) (script : Script) (line : Stmt) where
    request-holds : (o : Option Claim) → Holding c (requests script c (gx g) line o)
    request-holds None = locked-holds c whole ol g live script line
    request-holds (Some wanted) = by_test (is_clear c.locks.holds c.locks.waits wanted)
      where
        by_test : (b : Bool) → Holding c (if_granted script c (gx g) line wanted b)
        by_test true = let x = locked-holds (record c { locks = with_hold c.locks wanted }) whole ol g (record { txn = live.txn; found = live.found; active = live.active }) script line in record { table = x.table; orders = x.orders; outs = x.outs }
        by_test false = record { table = same-on c.table; orders = work-at c.table c.works g (record (c.works g) { waiting = Some line }) ol (ol g); outs = tt }

    dispatch-holds : Holding c (dispatches script c (gx g) line)
    dispatch-holds = request-holds (table_lock script (gx g) line)

  -- LINES, AND ALL EVENTS
  module _ (script : Script) (c : Coord) (k : Kept script c) (ol : OrdersHeld c.table c.works) where
    moved-holds : (s : SessionId) (x : Session) (turn : CoordTurn) → Holding (with_session c s x) turn → Holding c turn
    moved-holds s x turn f = record { table = f.table; orders = f.orders; outs = f.outs }

    module _ (s : SessionId) (idle : is_nothing_in (session_of c s).state.pending ≡ true) where
      abbrev block : Block
      block = (session_of c s).state.block

      transaction-now : (asked : LineStep) → (session_of (starts_line c s asked) s).transaction ≡ (session_of c s).transaction
      transaction-now asked = ap (λ q. (if q then record (session_of c s) { lines = (session_of c s).lines + 1; state = after_line block asked } else session_of c s).transaction) (eqb-self s.0)

      begun-orders : (level : Level) → OrdersHeld (begun c.table) (with_at c.works c.table.next.0 (new_work s level))
      begun-orders level = work-at (begun c.table) c.works c.table.next.0 (new_work s level) (all-go c k.whole ol (begun c.table) (begun-held E c.table k.whole)) tt

      begun-live : (asked : LineStep) (level : Level) → IsLive (begins (starts_line c s asked) s level) c.table.next.0
      begun-live asked level = record { txn = new_txn; found = begun-finds c.table k.whole c.table.next.0 ∙ ap (λ b. if b then Some new_txn else find_txn c.table c.table.next) (eqb-self c.table.next.0); active = refl }

      begins-holds : (asked : LineStep) (level : Level) (turn : CoordTurn) → Holding (begins (starts_line c s asked) s level) turn → Holding c (behind (mark.Start c.table.next s ∷ []) turn)
      begins-holds asked level turn f = record { table = on-then c.table (begun c.table) turn.coord.table (begun-held E c.table k.whole) f.table; orders = f.orders; outs = f.outs }

      line-holds : (line : Stmt) (asked : LineStep) → Asks block asked → Holding c (on_line script (starts_line c s asked) s line asked)
      line-holds line (step.Answer plain) a = record { table = same-on c.table; orders = ol; outs = tt }
      line-holds line step.InFailedBlock a = record { table = same-on c.table; orders = ol; outs = tt }
      line-holds line step.NotInBlock a = record { table = same-on c.table; orders = ol; outs = tt }
      line-holds line (step.BeginBlock level) a = begins-holds (step.BeginBlock level) level _ (record { table = same-on (begun c.table); orders = begun-orders level; outs = tt })
      line-holds line step.CommitBlock a = moved-holds s _ _ (commit-holds (starts_line c s step.CommitBlock) k.whole ol (session_of (starts_line c s step.CommitBlock) s).transaction)
      line-holds line step.RollbackBlock a = moved-holds s _ _ (rolling-holds (starts_line c s step.RollbackBlock) k.whole ol (session_of (starts_line c s step.RollbackBlock) s).transaction (answer_mark (starts_line c s step.RollbackBlock) s told.Rollback ∷ []))
      line-holds line (step.Command true) a = begins-holds (step.Command true) ReadCommitted _ (dispatch-holds (begins (starts_line c s (step.Command true)) s ReadCommitted) (begun-whole c.table k.whole) (begun-orders ReadCommitted) c.table.next.0 (begun-live (step.Command true) ReadCommitted) script line)
      line-holds line (step.Command false) a =
          subst (λ g. Holding c (dispatches script (starts_line c s (step.Command false)) g line)) (sym (transaction-now (step.Command false)))
          (moved-holds s _ _ (dispatch-holds (starts_line c s (step.Command false)) k.whole ol (session_of c s).transaction.0 (let x = live-stage c (session_of c s).transaction.0 ((k.placed s.0).free a idle) in record { txn = x.txn; found = x.found; active = x.active }) script line))

      start-holds : (line : Option Stmt) → Holding c (starts script c s line)
      start-holds None = rest-holds c k.whole ol
      start-holds (Some line) = line-holds line (line_step block line) (asks block line)

    end-holds : (s : SessionId) (b : Block) → Holding c (ends_in c s b)
    end-holds s (Open level) = moved-holds s (record (session_of c s) { state = idle_outside }) _ (rolling-holds (with_state c s idle_outside) k.whole ol (session_of c s).transaction [])
    end-holds s Failed = record { table = same-on c.table; orders = ol; outs = tt }
    end-holds s Outside = rest-holds c k.whole ol

    abbrev pub IsEndedIn : NodeEvent → Type 0
    IsEndedIn (event.Deliver from envelope) = SaysBy c k.whole ol from.0 envelope.message
    IsEndedIn _ = Unit {0}

    idle-first : (s : SessionId) (b : Bool) → (is_idle (session_of c s) && b) ≡ true → is_nothing_in (session_of c s).state.pending ≡ true
    idle-first s b e = plain (session_of c s).state.pending (and-first _ _ e)
      where
        plain : (q : Rattle.gx_script.specs.declared.state.Pending.Pending) → is_nothing q ≡ true → is_nothing_in q ≡ true
        plain q e = grind arith

    pub event-holds : ((g : Gxid) → coord_can script c (event.Resume g) ≡ true → GoesOut script c g) → (x : NodeEvent) (fails : Bool) → coord_can script c x ≡ true → IsEndedIn x → Holding c (on_event script c x fails)
    event-holds out (event.Deliver from envelope) fails e d = message-holds c k.whole ol from fails envelope.message d
    event-holds out (event.Start s) fails e d = start-holds s (idle-first s _ e) (next_line script c s)
    event-holds out (event.End s) fails e d = end-holds s (session_of c s).state.block
    event-holds out (event.Resend i (Some g)) fails e d = again-holds c k.whole ol i (awaited c g i) (command-any c k.whole ol i (work_of c g).command _ (ol g.0) (status-any c k.whole ol i.0 g (awaited_order c.table g i)))
    event-holds out (event.Resend i None) fails e d = again-holds c k.whole ol i (awaited_collect c i) (collect-any (awaits_graph c i))
      where
        collect-any : (b : Bool) → AnyHeld c k.whole ol i.0 (if b then Some (message.Collect c.rounds) else None)
        collect-any true = tt
        collect-any false = tt
    event-holds out (event.Resume g) fails e d = resumed-holds (out g e)
      where
        resumed-holds : GoesOut script c g → Holding c (resumes script c g (wait_of c.locks g) (work_of c g).waiting)
        resumed-holds o =
            let free : Coord = with_work (record c { locks = resumed c.locks g (Some o.wanted) }) g (record (work_of c g) { waiting = None }) in
            let live = live-stage c g.0 o.live in
            let x = locked-holds free k.whole (work-at c.table c.works g.0 (record (work_of c g) { waiting = None }) ol (ol g.0)) g.0 (record { txn = live.txn; found = live.found; active = live.active }) script o.line in
            subst (Holding c) (goes-out-is script c g o.wanted o.line o.claims o.is) (record { table = x.table; orders = x.orders; outs = x.outs })
    event-holds out event.Round fails e d = begins-round-holds c k.whole ol script

    pub cancel-holds : (g : Gxid) → Holding c (cancels c g)
    cancel-holds g = victim-holds c k.whole ol g
