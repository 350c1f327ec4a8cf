-- Every event of the coordinator.
use Rattle.std.proofs.Common.{◌≡◌, ◌≤◌, inl, ℕ, ◌+◌, List, [], ◌∷◌, ◌++◌, Option, Some, None, Bool, true, false, refl, sym, subst, ap, ◌∙◌, if◌then◌else◌, ◌==◌, ◌&&◌, arith, eqb, append-nil}
use Rattle.std.proofs.lemmas.Bool.{and_parts, eqb-true}
use Rattle.std.proofs.lemmas.Bool.Decides.{nat_tests}
use Rattle.std.specs.Prelude.{nat_le}
use Rattle.gx_lemmas.proofs.Numbers.{eqb-self}
use Rattle.gx_ids.specs.declared.ids.Cid.{Cid}
use Rattle.gx_ids.specs.declared.ids.Node.{Node}
use Rattle.gx_ids.specs.declared.ids.SessionId.{SessionId}
use Rattle.gx_tree.specs.declared.part.Part.{Part as QueryPart}
use Rattle.gx_tree.specs.declared.stmt.Level.{Level}
use Rattle.gx_tree.specs.declared.stmt.Level.TheVariants.{ReadCommitted}
use Rattle.gx_ids.specs.declared.ids.Gxid.{Gxid}
use Rattle.gx_tree.specs.declared.stmt.Stmt.{Stmt}
use Rattle.gx_dtx.specs.Nodes.{has}
use Rattle.gx_dtx.specs.Rules.{on_abort, order_found, order_in}
use Rattle.gx_dtx.specs.Table.{find_txn, new_txn}
use Rattle.gx_dtx.specs.declared.order.Order.{Order}
use Rattle.gx_dtx.specs.declared.phase.Phase.{Phase as Status}
use Rattle.gx_dtx.specs.declared.phase.Phase.TheVariants as status
use Rattle.gx_dtx.specs.declared.txn.Txn.{Txn}
use Rattle.gx_msg.specs.declared.message.Message.{Message}
use Rattle.gx_msg.specs.declared.message.Message.TheVariants as message
use Rattle.gx_msg.specs.declared.message.Out.{Out}
use Rattle.gx_msg.specs.declared.reply.Cause.{Cause}
use Rattle.gx_msg.specs.declared.reply.Reply.{Reply}
use Rattle.gx_msg.specs.declared.reply.Reply.TheVariants as reply
use Rattle.gx_script.specs.declared.Script.{Script}
use Rattle.gx_script.specs.Session.{after_line, idle_outside, line_step}
use Rattle.gx_script.specs.declared.line_step.LineStep.{LineStep}
use Rattle.gx_script.specs.declared.line_step.LineStep.TheVariants as step
use Rattle.gx_script.specs.declared.state.Block.{Block}
use Rattle.gx_script.specs.declared.state.Block.TheVariants.{Outside, Open, Failed}
use Rattle.gx_script.specs.declared.state.Pending.{Pending}
use Rattle.gx_store.specs.declared.answer.Refused.TheVariants.{Victim}
use Rattle.gx_store.specs.declared.answer.StmtAnswer.{StmtAnswer}
use Rattle.gx_store.specs.declared.answer.StmtAnswer.TheVariants as told
use Rattle.gx_store.specs.declared.mark.Mark.{Mark}
use Rattle.gx_store.specs.declared.mark.Mark.TheVariants as mark
use Rattle.gx_store.specs.declared.node.NodeEvent.{NodeEvent}
use Rattle.gx_store.specs.declared.node.NodeEvent.TheVariants as event
use Rattle.gx_store.specs.Marks.{is_committed}
use Rattle.gx_rules.specs.AtCoordinator.{answer_mark, answers_at_once, awaited, awaited_collect, begins, behind, cancels, command_order, commits, coord_can, dispatches, ends_in, is_awaited, is_idle, is_nothing, is_refused, next_line, on_answer, on_done, on_event, on_failed, on_line, on_message, order_to, reason_of, resends, resumes, rolls_back, starts, starts_line, status_order, takes_done}
use Rattle.gx_rules.specs.Coordinators.{Command, Coord, CoordTurn, Session, new_work, rests, session_of, with_session, with_state, work_of}
use Rattle.gx_rules.specs.Fits.{fits_part}
use Rattle.gx_rules.specs.Rounds.{awaits_graph, begins_round, is_active, is_live, on_graph, rechecks, with_report}
use Rattle.gx_rules.proofs.Rounds.{cancel-ways, graph-ways}
use Rattle.gx_law_order.proofs.Ends.{begun-finds}
use Rattle.gx_law_order.proofs.Lines.{Asks, asks, begun-whole}
use Rattle.gx_law_order.specs.Lists.{Each}
use Rattle.gx_law_order.specs.Past.{Past}
use Rattle.gx_law_order.proofs.Places.{collects-each}
use Rattle.gx_law_order.specs.Places.{AreIn}
use Rattle.gx_law_order.specs.Sessions.{Kept, is_nothing_in, is_open_in, is_working_in}
use Rattle.gx_law_order.specs.Stages.{IsWhole, stage, stage_in, stage_of}
use Rattle.gx_law_order.specs.Stages.Stage.{Live as LiveStage}
use Rattle.gx_law_order.specs.Pairs.{Pair}
use Rattle.gx_law_order.specs.Said.{Answers, IsDone, Said, gxid_in, is_answer}
use Rattle.gx_law_order.specs.Standings.{Part, at, gx, is_closing, known_at, standing_in, waits_in}
use Rattle.gx_law_order.specs.Standings.Standing.{Live, One, Preparing, Two}
use Rattle.gx_law_order.proofs.Calls.{Mute, becomes-calm, commits-ready, mute-aborted, mute-committed, mute-decided, mute-fol, stands-as}
use Rattle.gx_law_order.proofs.Dispatching.{IsIdle, IsLive, dispatch-led, done-led, goes-out-is, live-at-all, refusing-led, resume-led, rolling-led}
use Rattle.gx_law_order.proofs.Replying.{status-led}
use Rattle.gx_law_order.proofs.Shifts.{Shift, is-sent, shift-same}
use Rattle.gx_law_order.proofs.Ways.{Agrees, AgreesIn, AsksFor, CommandOf, IsOrderOf, Led, Stands, Way, agrees-append, at-new, at-one, rest-led, way-then}
use Rattle.gx_law_order.proofs.Waiting.{GoesOut}
use Rattle.gx_locks.specs.Locks.{wait_of}
use Rattle.gx_waits.specs.declared.graph.LocalGraph.{LocalGraph}

-- the same table and work, another session
pub moved-stands : (script : Script) (P : ℕ → ℕ → Part) (c : Coord) (ms : List Mark) (s : SessionId) (x : Session) → Stands script P c ms → Stands script P (with_session c s x) ms
moved-stands script P c ms s x st = record { pairs = st.pairs; works = st.works; agrees = st.agrees; parts = st.parts }

pub moved-led : (script : Script) (P : ℕ → ℕ → Part) (c : Coord) (ms : List Mark) (s : SessionId) (x : Session) (turn : CoordTurn) → Led script P (with_session c s x) ms turn → Led script P c ms turn
moved-led script P c ms s x turn f = record { way = record { stands = f.way.stands; stays = f.way.stays; fol = f.way.fol }; outs = f.outs }

pub live-stage : (c : Coord) (g : ℕ) → stage_of c g ≡ LiveStage → IsLive c g
live-stage c g e = by_found (find_txn c.table (gx g)) refl e
  where
    active : (p : Status) → stage_in p ≡ LiveStage → p ≡ status.Active
    active p e = grind arith

    by_found : (o : Option Txn) → find_txn c.table (gx g) ≡ o → stage o ≡ LiveStage → IsLive c g
    by_found None f e = absurd (cc)
    by_found (Some t) f e = record { txn = t; found = f; active = active t.phase e }

-- a victim is active
victim-live : (c : Coord) (g : Gxid) → is_live (find_txn c.table g) ≡ true → IsLive c g.0
victim-live c g e = by_found (find_txn c.table g) refl e
  where
    active : (p : Status) → is_active p ≡ true → p ≡ status.Active
    active p e = grind arith

    by_found : (o : Option Txn) → find_txn c.table g ≡ o → is_live o ≡ true → IsLive c g.0
    by_found None f e = absurd (cc)
    by_found (Some t) f e = record { txn = t; found = f; active = active t.phase e }

-- marks that tell of nothing, and nothing changes
still : (script : Script) (P : ℕ → ℕ → Part) (c : Coord) (ms : List Mark) → Stands script P c ms → IsWhole c.table → (ns : List Mark) → Each Mute ns → Led script P c ms (record { coord = c; marks = ns; outs = []; item = None })
still script P c ms st whole ns e =
    record {
      way = at-one script P c c ms ns 0 (find_txn c.table (gx 0)) (c.works 0)
          (record { next = refl; finds = λ h. found h (eqb h 0) refl; works = λ h. work h (eqb h 0) refl; others = λ h q. (mute-decided ns (gx h) e, mute-aborted ns (gx h) e, mute-committed ns (gx h) e) }) st
          (λ i. subst (λ q. Shift (known_at c ms i 0) q (P i 0)) (sym (becomes-calm script P c ms st whole 0 ns (find_txn c.table (gx 0)) (c.works 0) i (mute-decided ns (gx 0) e) (mute-aborted ns (gx 0) e) (mute-committed ns (gx 0) e))) (shift-same (known_at c ms i 0) (P i 0) (st.pairs i 0)))
          (st.works 0) (agrees-append ms ns 0 (find_txn c.table (gx 0)) (c.works 0).writers (st.agrees 0)) (mute-fol script ms ns e);
      outs = tt;
    }
  where
    found : (h : ℕ) (b : Bool) → eqb h 0 ≡ b → find_txn c.table (gx h) ≡ (if b then find_txn c.table (gx 0) else find_txn c.table (gx h))
    found h true q = ap (λ j. find_txn c.table (gx j)) (eqb-true h 0 q)
    found h false q = refl

    work : (h : ℕ) (b : Bool) → eqb h 0 ≡ b → c.works h ≡ (if b then c.works 0 else c.works h)
    work h true q = ap c.works (eqb-true h 0 q)
    work h false q = refl

module _ (script : Script) (P : ℕ → ℕ → Part) (c : Coord) (ms : List Mark) (st : Stands script P c ms) (k : Kept script c) (p : Past c ms) (ins : (g : ℕ) → AreIn script.segments (c.works g).writers) where
  abbrev Leads : CoordTurn → Type 0
  Leads turn = Led script P c ms turn

  rest : Leads (rests c)
  rest = rest-led script P c ms c (record { stands = st; stays = λ i g m s. s })

  -- marks that tell of nothing, and another session
  quiet-led : (turn : CoordTurn) (x : SessionId) (y : Session) → turn ≡ record { coord = with_session c x y; marks = turn.marks; outs = []; item = None } → Each Mute turn.marks → Leads turn
  quiet-led turn x y q e =
      subst Leads (sym q) (moved-led script P c ms x y _ (still script P (with_session c x y) ms (moved-stands script P c ms x y st) k.whole turn.marks e))

  -- ANSWERS
  module _ (g : ℕ) (m : Command) (has_it : (c.works g).command ≡ Some m) (j : Node) (taken : has j m.awaited ≡ true) where
    some-awaited : m.awaited ≡ [] → ⊥
    some-awaited e = differ (sym (ap (has j) e) ∙ taken)
      where
        differ : has j [] ≡ true → ⊥
        differ q = grind arith

    awaited-live : IsLive c g
    awaited-live = live-stage c g ((k.tied g).awaits m has_it some-awaited).0

  on-done-led : (g : ℕ) (j : Node) (cid : Cid) (wrote : Bool) (count : ℕ) (part : QueryPart) (m : Option Command) → (c.works g).command ≡ m → IsDone (known_at c ms j.0 g) (P j.0 g) cid.0 wrote → Leads (on_done c (gx g) j cid wrote count part m)
  on-done-led g j cid wrote count part None e d = rest
  on-done-led g j cid wrote count part (Some m) e d = by_test (is_awaited m j cid && fits_part m.stmt part) refl
    where
      by_test : (b : Bool) → (is_awaited m j cid && fits_part m.stmt part) ≡ b → Leads (if b then takes_done c (gx g) j wrote count part m else rests c)
      by_test true f = let x = and_parts _ _ (and_parts _ _ f).0 in done-led script P c ms st k.whole g (awaited-live g m e j x.1) m e j x.1 cid x.0 wrote d count part
      by_test false f = rest

  on-failed-led : (g : ℕ) (j : Node) (cid : Cid) (cause : Cause) (m : Option Command) → (c.works g).command ≡ m → Leads (on_failed c (gx g) j cid cause m)
  on-failed-led g j cid cause None e = rest
  on-failed-led g j cid cause (Some m) e = by_test (is_awaited m j cid) refl
    where
      by_test : (b : Bool) → is_awaited m j cid ≡ b → Leads (if b then is_refused c (gx g) (on_abort c.table (gx g)) [] (reason_of cause) else rests c)
      by_test true f = refusing-led script P c ms st k.whole g (awaited-live g m e j (and_parts _ _ f).1) [] (reason_of cause) (λ e. tt) tt
      by_test false f = rest

  answer-led : (g : ℕ) (j : Node) → 1 ≤ j.0 → (fails : Bool) (r : Reply) → Answers (known_at c ms j.0 g) (P j.0 g) r → Leads (on_answer c (gx g) j fails r)
  answer-led g j one fails (reply.Done cid wrote count part) d = on-done-led g j cid wrote count part (c.works g).command refl d
  answer-led g j one fails (reply.Failed cid cause) d = on-failed-led g j cid cause (c.works g).command refl
  answer-led g j one fails reply.Prepared d = status-led script P c ms st k.whole g (ins g) j one fails reply.Prepared d
  answer-led g j one fails reply.Committed d = status-led script P c ms st k.whole g (ins g) j one fails reply.Committed d
  answer-led g j one fails reply.Jfault d = status-led script P c ms st k.whole g (ins g) j one fails reply.Jfault d
  answer-led g j one fails reply.Again d = status-led script P c ms st k.whole g (ins g) j one fails reply.Again d
  answer-led g j one fails reply.Restarted d = status-led script P c ms st k.whole g (ins g) j one fails reply.Restarted d
  answer-led g j one fails reply.Aborted d = status-led script P c ms st k.whole g (ins g) j one fails reply.Aborted d
  answer-led g j one fails reply.Forgotten d = status-led script P c ms st k.whole g (ins g) j one fails reply.Forgotten d

  -- ROUNDS
  -- which touch no transaction
  round-led : (rounds : ℕ) (reports : Option (List (Option LocalGraph))) (ns : List Mark) → Each Mute ns → Leads (record { coord = record c { rounds = rounds; reports = reports }; marks = ns; outs = []; item = None })
  round-led rounds reports ns m = record { way = record { stands = record { pairs = x.stands.pairs; works = x.stands.works; agrees = x.stands.agrees; parts = x.stands.parts }; stays = x.stays; fol = x.fol }; outs = tt }
    where
      x : Way script P c ms c ns
      x = (still script P c ms st k.whole ns m).way

  graph-led : (j : Node) (round : ℕ) (graph : LocalGraph) → Leads (on_graph c j round graph)
  graph-led j round graph =
      graph-ways Leads c j round graph rest (λ e. round-led c.rounds (with_report c graph).reports [] tt)
      (λ e f. round-led c.rounds None (rechecks (with_report c graph)).marks (tt, tt))

  begins-led : Leads (begins_round script c)
  begins-led = record { way = (round-led (c.rounds + 1) (begins_round script c).coord.reports [] tt).way; outs = collects-each _ script.segments (c.rounds + 1) (λ i one within. (refl, tt, tt)) }

  message-led : (j : Node) → 1 ≤ j.0 → (fails : Bool) (m : Message) → (is_answer m ≡ true → Said (known_at c ms j.0 (gxid_in m)) (P j.0 (gxid_in m)) m) → Leads (on_message c j fails m)
  message-led j one fails (message.Answer g r) d = answer-led g.0 j one fails r (d refl)
  message-led j one fails (message.Exec g cid level x h y) d = rest
  message-led j one fails (message.Prepare g) d = rest
  message-led j one fails (message.Commit g) d = rest
  message-led j one fails (message.CommitPrepared g) d = rest
  message-led j one fails (message.Abort g) d = rest
  message-led j one fails (message.Forget g) d = rest
  message-led j one fails (message.Collect round) d = rest
  message-led j one fails (message.Graph round graph) d = graph-led j round graph
  message-led j one fails message.Up d = rest

  -- MESSAGES SENT AGAIN
  abbrev IsSaidTo : ℕ → Node → Message → Type 0
  IsSaidTo g i m = (is_answer m ≡ false) × (gxid_in m ≡ g) × Said (known_at c ms i.0 g) (P i.0 g) m × AsksFor c i.0 m

  abbrev AnySaid : ℕ → Node → Option Message → Type 0
  AnySaid g i None = Unit {0}
  AnySaid g i (Some m) = IsSaidTo g i m

  order-said : (g : ℕ) (i : Node) (last : ℕ) → (known_at c ms i.0 g).at ≡ Live → (known_at c ms i.0 g).waits ≡ true → last ≡ (known_at c ms i.0 g).last → (m : Message) → IsOrderOf g last m → IsSaidTo g i m
  order-said g i last l w e (message.Exec h cid level x y z) o = (refl, o.0, is-sent (known_at c ms i.0 g) (P i.0 g) cid.0 l w (o.1 ∙ e), subst (λ j. (waits_in (c.works j).command i.0 ≡ true) × (cid.0 ≡ (c.works j).last)) (sym o.0) (w, o.1 ∙ e))
  order-said g i last l w e (message.Prepare h) o = absurd o
  order-said g i last l w e (message.Commit h) o = absurd o
  order-said g i last l w e (message.CommitPrepared h) o = absurd o
  order-said g i last l w e (message.Abort h) o = absurd o
  order-said g i last l w e (message.Forget h) o = absurd o
  order-said g i last l w e (message.Collect round) o = absurd o
  order-said g i last l w e (message.Answer h r) o = absurd o
  order-said g i last l w e (message.Graph round graph) o = absurd o
  order-said g i last l w e message.Up o = absurd o

  orders-said : (g : ℕ) (i : Node) (last : ℕ) → (known_at c ms i.0 g).at ≡ Live → (known_at c ms i.0 g).waits ≡ true → last ≡ (known_at c ms i.0 g).last → (outs : List Out) → Each (λ (o : Out). IsOrderOf g last o.message) outs → AnySaid g i (order_to i outs)
  orders-said g i last l w e [] f = tt
  orders-said g i last l w e (o ∷ outs) f = by_test (o.node.0 == i.0) (orders-said g i last l w e outs f.1)
    where
      by_test : (b : Bool) → AnySaid g i (order_to i outs) → AnySaid g i (if b then Some o.message else order_to i outs)
      by_test true r = order-said g i last l w e o.message f.0
      by_test false r = r

  status-said : (g : ℕ) (i : Node) (t : Txn) → find_txn c.table (gx g) ≡ Some t → (q : Status) → t.phase ≡ q → AnySaid g i (status_order (gx g) (order_in q i))
  status-said g i t f status.Active e = tt
  status-said g i t f (status.Preparing ws aw) e = by_test (has i aw) refl
    where
      by_test : (b : Bool) → has i aw ≡ b → AnySaid g i (status_order (gx g) (if b then Some Rattle.gx_dtx.specs.declared.order.Order.TheVariants.Prepare else None))
      by_test true h = (refl, refl, (sym (pair.closing (ap is_closing preparing)) ∙ (pair.asked true preparing).0 refl, λ v. inl preparing), preparing)
        where
          pair : Pair (known_at c ms i.0 g) (P i.0 g)
          pair = st.pairs i.0 g

          preparing : (known_at c ms i.0 g).at ≡ Preparing true
          preparing = stands-as script P c ms st k.whole g t f i.0 ∙ ap (λ q. standing_in q i.0) e ∙ ap Preparing h
      by_test false h = tt
  status-said g i t f (status.CommittingOne w) e = by_test (w.0 == i.0) refl
    where
      by_test : (b : Bool) → (w.0 == i.0) ≡ b → AnySaid g i (status_order (gx g) (if b then Some Rattle.gx_dtx.specs.declared.order.Order.TheVariants.Commit else None))
      by_test true h = (refl, refl, λ v. stands-as script P c ms st k.whole g t f i.0 ∙ ap (λ q. standing_in q i.0) e ∙ ap One h, stands-as script P c ms st k.whole g t f i.0 ∙ ap (λ q. standing_in q i.0) e ∙ ap One h)
      by_test false h = tt
  status-said g i t f (status.CommittingTwo aw) e = by_test (has i aw) refl
    where
      by_test : (b : Bool) → has i aw ≡ b → AnySaid g i (status_order (gx g) (if b then Some Rattle.gx_dtx.specs.declared.order.Order.TheVariants.CommitPrepared else None))
      by_test true h = (refl, refl, inl (stands-as script P c ms st k.whole g t f i.0 ∙ ap (λ q. standing_in q i.0) e ∙ ap Two h), stands-as script P c ms st k.whole g t f i.0 ∙ ap (λ q. standing_in q i.0) e ∙ ap Two h)
      by_test false h = tt
  status-said g i t f (status.Ended aw) e = by_test (has i aw)
    where
      committed : is_committed ms (gx g) ≡ true
      committed = subst (λ q. AgreesIn ms g q (c.works g).writers) e (subst (λ o. Agrees ms g o (c.works g).writers) f (st.agrees g))

      by_test : (b : Bool) → AnySaid g i (status_order (gx g) (if b then Some Rattle.gx_dtx.specs.declared.order.Order.TheVariants.Forget else None))
      by_test true = (refl, refl, committed, tt)
      by_test false = tt
  status-said g i t f (status.Aborting aw) e = by_test (has i aw)
    where
      by_test : (b : Bool) → AnySaid g i (status_order (gx g) (if b then Some Rattle.gx_dtx.specs.declared.order.Order.TheVariants.Abort else None))
      by_test true = (refl, refl, p.dropped g (ap stage f ∙ ap stage_in e), tt)
      by_test false = tt

  found-said : (g : ℕ) (i : Node) (o : Option Txn) → find_txn c.table (gx g) ≡ o → AnySaid g i (status_order (gx g) (order_found i o))
  found-said g i None f = tt
  found-said g i (Some t) f = status-said g i t f t.phase refl

  command-said : (g : ℕ) (i : Node) (m : Option Command) → (c.works g).command ≡ m → (other : Option Message) → AnySaid g i other → AnySaid g i (command_order m i other)
  command-said g i None e other d = d
  command-said g i (Some m) e other d = by_test (has i m.awaited) refl
    where
      by_test : (b : Bool) → has i m.awaited ≡ b → AnySaid g i (if b then order_to i m.orders else other)
      by_test true h =
          orders-said g i (c.works g).last (live-at-all script P c ms st k.whole g (awaited-live g m e i h) i.0) (ap (λ q. waits_in q i.0) e ∙ h) refl m.orders
          (subst (CommandOf g (c.works g).last) e (st.works g).command).1
      by_test false h = d

  again-led : (g : ℕ) (i : Node) (m : Option Message) → AnySaid g i m → Leads (resends c i m)
  again-led g i None d = rest
  again-led g i (Some m) d =
      record {
        way = rest.way;
        outs = ((d.0, subst (λ j. Said (known_at c (ms ++ []) i.0 j) (P i.0 j) m) (sym d.1) (subst (λ x. Said (known_at c x i.0 g) (P i.0 g) m) (sym (append-nil ms)) d.2), d.3), tt);
      }

  -- LINES
  module _ (s : SessionId) (idle : is_nothing_in (session_of c s).state.pending ≡ true) where
    abbrev block : Block
    block = (session_of c s).state.block

    abbrev moved : LineStep → Session
    moved asked = record (session_of c s) { lines = (session_of c s).lines + 1; state = after_line block asked }

    abbrev here : LineStep → Coord
    here asked = starts_line c s asked

    transaction-now : (asked : LineStep) → (session_of (starts_line c s asked) s).transaction ≡ (session_of c s).transaction
    transaction-now asked = ap (λ q. (if q then moved asked else session_of c s).transaction) (eqb-self s.0)

    here-stands : (asked : LineStep) → Stands script P (starts_line c s asked) ms
    here-stands asked = moved-stands script P c ms s (moved asked) st

    own-live : is_open_in block ≡ true → IsLive c (session_of c s).transaction.0
    own-live opened = live-stage c (session_of c s).transaction.0 ((k.placed s.0).free opened idle)

    pub own-idle : is_open_in block ≡ true → IsIdle c (session_of c s).transaction.0
    own-idle opened i = by_command (c.works (session_of c s).transaction.0).command refl
      where
        not-work : (q : Pending) → is_nothing_in q ≡ true → is_working_in q ≡ true → ⊥
        not-work q e f = grind arith

        by_awaited : (m : Command) → (c.works (session_of c s).transaction.0).command ≡ Some m → (xs : List Node) → m.awaited ≡ xs → has (at i) xs ≡ false
        by_awaited m e [] q = refl
        by_awaited m e (x ∷ xs) q =
            absurd (not-work (session_of c s).state.pending idle (subst (λ j. is_working_in (c.sessions j).state.pending ≡ true) ((k.placed s.0).stands opened).1 ((k.tied (session_of c s).transaction.0).awaits m e (λ z. differ (sym z ∙ q))).1))
          where
            differ : [] ≡ x ∷ xs → ⊥
            differ z = cc

        by_command : (o : Option Command) → (c.works (session_of c s).transaction.0).command ≡ o → waits_in o i ≡ false
        by_command None e = refl
        by_command (Some m) e = by_awaited m e m.awaited refl

    live-here : (asked : LineStep) → is_open_in block ≡ true → IsLive (starts_line c s asked) (session_of c s).transaction.0
    live-here asked opened = let x = own-live opened in record { txn = x.txn; found = x.found; active = x.active }

    commit-led : is_open_in block ≡ true → Leads (commits (starts_line c s step.CommitBlock) (session_of (starts_line c s step.CommitBlock) s).transaction)
    commit-led opened =
        subst (λ g. Leads (commits (starts_line c s step.CommitBlock) g)) (sym (transaction-now step.CommitBlock))
        (moved-led script P c ms s (moved step.CommitBlock) _ (let x = own-live opened in
        commits-ready script P (starts_line c s step.CommitBlock) ms (here-stands step.CommitBlock) k.whole (session_of c s).transaction.0 x.txn x.found (record { live = x.active; done = own-idle opened })))

    rollback-led : is_open_in block ≡ true → Leads (rolls_back (starts_line c s step.RollbackBlock) (session_of (starts_line c s step.RollbackBlock) s).transaction (answer_mark (starts_line c s step.RollbackBlock) s told.Rollback ∷ []) (on_abort c.table (session_of (starts_line c s step.RollbackBlock) s).transaction))
    rollback-led opened =
        subst (λ g. Leads (rolls_back (starts_line c s step.RollbackBlock) g (answer_mark (starts_line c s step.RollbackBlock) s told.Rollback ∷ []) (on_abort c.table g))) (sym (transaction-now step.RollbackBlock))
        (moved-led script P c ms s (moved step.RollbackBlock) _ (rolling-led script P (starts_line c s step.RollbackBlock) ms (here-stands step.RollbackBlock) k.whole (session_of c s).transaction.0 (live-here step.RollbackBlock opened) (answer_mark (starts_line c s step.RollbackBlock) s told.Rollback ∷ []) (tt, tt)))

    inside-led : (line : Stmt) → is_open_in block ≡ true → Leads (dispatches script (starts_line c s (step.Command false)) (session_of (starts_line c s (step.Command false)) s).transaction line)
    inside-led line opened =
        subst (λ g. Leads (dispatches script (starts_line c s (step.Command false)) g line)) (sym (transaction-now (step.Command false)))
        (moved-led script P c ms s (moved (step.Command false)) _ (dispatch-led script P (starts_line c s (step.Command false)) ms (here-stands (step.Command false)) k.whole (session_of c s).transaction.0 (live-here (step.Command false) opened) (own-idle opened) line))

    -- a new transaction
    begins-way : (asked : LineStep) (level : Level) → Way script P c ms (begins (starts_line c s asked) s level) (mark.Start c.table.next s ∷ [])
    begins-way asked level =
        let x = at-new script P (starts_line c s asked) (begins (starts_line c s asked) s level) ms (mark.Start c.table.next s) (new_work s level) k.whole refl (λ h. refl) (here-stands asked) refl refl refl (λ h. (refl, refl, refl)) tt in
        record { stands = x.stands; stays = x.stays; fol = x.fol }

    begins-live : (asked : LineStep) (level : Level) → IsLive (begins (starts_line c s asked) s level) c.table.next.0
    begins-live asked level = record { txn = new_txn; found = begun-finds c.table k.whole c.table.next.0 ∙ ap (λ b. if b then Some new_txn else find_txn c.table c.table.next) (eqb-self c.table.next.0); active = refl }

    begins-idle : (asked : LineStep) (level : Level) → IsIdle (begins (starts_line c s asked) s level) c.table.next.0
    begins-idle asked level i = ap (λ b. waits_in (if b then new_work s level else c.works c.table.next.0).command i) (eqb-self c.table.next.0)

    begin-led : (level : Level) → Leads (behind (mark.Start c.table.next s ∷ []) (answers_at_once (begins (starts_line c s (step.BeginBlock level)) s level) s told.Begin))
    begin-led level =
        way-then script P c ms (begins (starts_line c s (step.BeginBlock level)) s level) (mark.Start c.table.next s ∷ []) (answers_at_once (begins (starts_line c s (step.BeginBlock level)) s level) s told.Begin) _ (begins-way (step.BeginBlock level) level)
        (later (begins-way (step.BeginBlock level) level)) refl refl refl
      where
        d : Coord
        d = begins (starts_line c s (step.BeginBlock level)) s level

        later : Way script P c ms (begins (starts_line c s (step.BeginBlock level)) s level) (mark.Start c.table.next s ∷ []) → Led script P (begins (starts_line c s (step.BeginBlock level)) s level) (ms ++ mark.Start c.table.next s ∷ []) (answers_at_once (begins (starts_line c s (step.BeginBlock level)) s level) s told.Begin)
        later w = still script P (begins (starts_line c s (step.BeginBlock level)) s level) (ms ++ mark.Start c.table.next s ∷ []) w.stands (begun-whole c.table k.whole) (answer_mark (begins (starts_line c s (step.BeginBlock level)) s level) s told.Begin ∷ []) (tt, tt)

    alone-led : (line : Stmt) → Leads (behind (mark.Start c.table.next s ∷ []) (dispatches script (begins (starts_line c s (step.Command true)) s ReadCommitted) c.table.next line))
    alone-led line =
        let w = begins-way (step.Command true) ReadCommitted in
        way-then script P c ms (begins (starts_line c s (step.Command true)) s ReadCommitted) (mark.Start c.table.next s ∷ []) (dispatches script (begins (starts_line c s (step.Command true)) s ReadCommitted) c.table.next line) _ w
        (dispatch-led script P (begins (starts_line c s (step.Command true)) s ReadCommitted) (ms ++ mark.Start c.table.next s ∷ []) w.stands (begun-whole c.table k.whole) c.table.next.0 (begins-live (step.Command true) ReadCommitted) (begins-idle (step.Command true) ReadCommitted) line) refl refl refl

    at-once : (asked : LineStep) (a : StmtAnswer) → Leads (answers_at_once (starts_line c s asked) s a)
    at-once asked a = quiet-led (answers_at_once (starts_line c s asked) s a) s (moved asked) refl (tt, tt)

    line-led : (line : Stmt) (asked : LineStep) → Asks block asked → Leads (on_line script (starts_line c s asked) s line asked)
    line-led line (step.Answer plain) a = at-once (step.Answer plain) _
    line-led line step.InFailedBlock a = at-once step.InFailedBlock _
    line-led line step.NotInBlock a = at-once step.NotInBlock _
    line-led line (step.BeginBlock level) a = begin-led level
    line-led line step.CommitBlock a = commit-led a
    line-led line step.RollbackBlock a = rollback-led a
    line-led line (step.Command true) a = alone-led line
    line-led line (step.Command false) a = inside-led line a

    start-led : (line : Option Stmt) → Leads (starts script c s line)
    start-led None = rest
    start-led (Some line) = line-led line (line_step block line) (asks block line)

    end-led : Leads (ends_in c s block)
    end-led = by_block block refl
      where
        by_block : (b : Block) → b ≡ block → Leads (ends_in c s b)
        by_block (Open level) e =
            moved-led script P c ms s (record (session_of c s) { state = idle_outside }) _
            (rolling-led script P (with_state c s idle_outside) ms (moved-stands script P c ms s (record (session_of c s) { state = idle_outside }) st) k.whole (session_of c s).transaction.0 (let x = own-live (sym (ap is_open_in e)) in record { txn = x.txn; found = x.found; active = x.active }) [] tt)
        by_block Failed e = quiet-led (rests (with_state c s idle_outside)) s (record (session_of c s) { state = idle_outside }) refl tt
        by_block Outside e = rest

  pub idle-first : (s : SessionId) (b : Bool) → (is_idle (session_of c s) && b) ≡ true → is_nothing_in (session_of c s).state.pending ≡ true
  idle-first s b e = by_pending (session_of c s).state.pending (and_parts _ _ e).0
    where
      by_pending : (q : Pending) → is_nothing q ≡ true → is_nothing_in q ≡ true
      by_pending q e = grind arith

  -- what is delivered was said
  abbrev pub IsSaidIn : NodeEvent → Type 0
  IsSaidIn (event.Deliver from envelope) = is_answer envelope.message ≡ true → Said (known_at c ms from.0 (gxid_in envelope.message)) (P from.0 (gxid_in envelope.message)) envelope.message
  IsSaidIn _ = Unit {0}

  pub event-led : ((g : Gxid) → coord_can script c (event.Resume g) ≡ true → GoesOut script c g) → (x : NodeEvent) (fails : Bool) → coord_can script c x ≡ true → IsSaidIn x → Leads (on_event script c x fails)
  event-led out (event.Deliver from envelope) fails e d = message-led from (at-least from.0 (and_parts _ _ e).0) fails envelope.message d
    where
      at-least : (a : ℕ) → nat_le 1 a ≡ true → 1 ≤ a
      at-least a q = grind (arith, nat_tests)
  event-led out (event.Start s) fails e d = start-led s (idle-first s _ e) (next_line script c s)
  event-led out (event.End s) fails e d = end-led s (idle-first s _ e)
  event-led out (event.Resend i (Some g)) fails e d = again-led g.0 i (awaited c g i) (command-said g.0 i (c.works g.0).command refl _ (found-said g.0 i (find_txn c.table g) refl))
  event-led out (event.Resend i None) fails e d = again-led 0 i (awaited_collect c i) (collect-said (awaits_graph c i))
    where
      collect-said : (b : Bool) → AnySaid 0 i (if b then Some (message.Collect c.rounds) else None)
      collect-said true = (refl, refl, tt, tt)
      collect-said false = tt
  event-led out (event.Resume g) fails e d = resumed-led (out g e)
    where
      resumed-led : GoesOut script c g → Leads (resumes script c g (wait_of c.locks g) (work_of c g).waiting)
      resumed-led o =
          subst Leads (goes-out-is script c g o.wanted o.line o.claims o.is)
          (resume-led script P c ms st k.whole g.0 (live-stage c g.0 o.live) (λ i. ap (λ q. waits_in q i) o.idle) o.line o.wanted)
  event-led out event.Round fails e d = begins-led

  -- a victim
  pub cancel-led : (g : Gxid) → Leads (cancels c g)
  cancel-led g = cancel-ways Leads c g rest (λ live busy. refusing-led script P c ms st k.whole g.0 (victim-live c g live) [] (Victim c.rounds) (λ e. tt) tt)
