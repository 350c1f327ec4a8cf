-- What the coordinator's turns send is what they leave awaited: lines, ends, messages sent again, and all events.
use Rattle.std.proofs.Common.{◌≡◌, ◌≤◌, ℕ, ◌+◌, List, [], ◌∷◌, Option, Some, None, Bool, true, false, refl, sym, subst, ap, ◌∙◌, if◌then◌else◌, ◌&&◌, arith, eqb}
use Rattle.std.proofs.lemmas.Bool.{eqb-true}
use Rattle.gx_lemmas.proofs.Numbers.{eqb-self}
use Rattle.gx_lemmas.proofs.Tests.{and-first}
use Rattle.gx_ids.specs.declared.ids.Cid.{Cid}
use Rattle.gx_ids.specs.declared.ids.Node.{Node}
use Rattle.gx_ids.specs.declared.ids.SessionId.{SessionId}
use Rattle.gx_tree.specs.declared.stmt.Level.{Level}
use Rattle.gx_tree.specs.declared.stmt.Level.TheVariants.{ReadCommitted}
use Rattle.gx_tree.specs.declared.stmt.Stmt.{Stmt}
use Rattle.gx_dtx.specs.Nodes.{has}
use Rattle.gx_dtx.specs.Rules.{begun, on_abort, order_found}
use Rattle.gx_dtx.specs.Table.{find_txn, new_txn, participants_in}
use Rattle.gx_dtx.specs.declared.order.Order.{Order}
use Rattle.gx_dtx.specs.declared.order.Order.TheVariants as order
use Rattle.gx_dtx.specs.declared.txn.Txn.{Txn}
use Rattle.gx_msg.specs.declared.message.Message.{Message}
use Rattle.gx_msg.specs.declared.message.Message.TheVariants as message
use Rattle.gx_msg.specs.declared.message.Out.{Out}
use Rattle.gx_script.specs.declared.Script.{Script}
use Rattle.gx_script.specs.Session.{after_line, idle_outside, line_step}
use Rattle.gx_script.specs.declared.line_step.LineStep.{LineStep}
use Rattle.gx_script.specs.declared.line_step.LineStep.TheVariants as step
use Rattle.gx_script.specs.declared.state.Block.{Block}
use Rattle.gx_script.specs.declared.state.Block.TheVariants.{Outside, Open, Failed}
use Rattle.gx_script.specs.declared.state.Pending.{Pending}
use Rattle.gx_store.specs.declared.mark.Mark.{Mark}
use Rattle.gx_store.specs.declared.mark.Mark.TheVariants as mark
use Rattle.gx_store.specs.declared.node.NodeEvent.{NodeEvent}
use Rattle.gx_store.specs.declared.node.NodeEvent.TheVariants as event
use Rattle.gx_store.specs.Journals.{is_same_node}
use Rattle.gx_store.specs.Schedule.{is_about, is_answer_to}
use Rattle.gx_store.specs.declared.answer.Refused.TheVariants.{Victim}
use Rattle.gx_store.specs.declared.answer.StmtAnswer.TheVariants as told
use Rattle.gx_waits.specs.declared.graph.LocalGraph.{LocalGraph}
use Rattle.gx_rules.specs.AtCoordinator.{awaited, awaited_collect, begins, behind, cancels, commits, coord_can, dispatches, ends_in, is_idle, is_nothing, is_refused, next_line, on_event, on_line, on_message, order_to, resends, rolls_back, starts, starts_line, status_order, resumes, answer_mark}
use Rattle.gx_rules.specs.Coordinators.{Command, Coord, CoordTurn, Work, new_work, rests, session_of, with_state}
use Rattle.gx_rules.specs.Rounds.{awaits_graph, begins_round, on_graph, rechecks, with_report}
use Rattle.gx_rules.proofs.Rounds.{cancel-ways, graph-ways}
use Rattle.gx_law_order.proofs.Ends.{begun-finds}
use Rattle.gx_law_order.proofs.Lines.{Asks as Admits, asks as admits, begun-whole, undrawn}
use Rattle.gx_law_order.specs.Lists.{Each}
use Rattle.gx_law_order.proofs.Places.{collects-each}
use Rattle.gx_law_order.specs.Sessions.{Kept, is_nothing_in, is_open_in, is_working_in}
use Rattle.gx_law_order.specs.Standings.{gx}
use Rattle.gx_law_order.proofs.Dispatching.{IsLive}
use Rattle.gx_law_order.proofs.Events.{live-stage}
use Rattle.gx_law_runs.proofs.Answered.{FitsIn, answer-asks}
use Rattle.gx_law_runs.proofs.Replies.{left_by, no-answer, unanswered}
use Rattle.gx_law_runs.proofs.Asking.{AreNeat, Asks, OneOf, asks-by, commits-asks, dispatch-asks, live-none, nothing-sent, now_asked, one-asks, refused-asks, rest-asks, resume-asks, rolled-asks}
use Rattle.gx_law_runs.proofs.Neat.{IsDone, IsExecOf, Neat, NeatCommand, waiting, waiting-none}
use Rattle.gx_law_runs.proofs.Told.{sends, sends-collects, told-other}
use Rattle.gx_ids.specs.declared.ids.Gxid.{Gxid}
use Rattle.gx_locks.specs.Locks.{wait_of}
use Rattle.gx_law_order.proofs.Waiting.{GoesOut}

-- A MESSAGE THAT IS SENT AGAIN
-- what is awaited is about its transaction alone
abbrev IsAboutOne : ℕ → Option Message → Type 0
IsAboutOne g None = Unit {0}
IsAboutOne g (Some m) = (h : ℕ) → is_about (gx h) m ≡ eqb g h

exec-about : (g : ℕ) (c : Cid) (a : Option Message) → IsExecOf g c a → IsAboutOne g a
exec-about g c None e = absurd e
exec-about g c (Some (message.Exec h d l x y s)) e = λ i. ap (λ z. eqb z i) e.0
exec-about g c (Some (message.Prepare h)) e = absurd e
exec-about g c (Some (message.Commit h)) e = absurd e
exec-about g c (Some (message.CommitPrepared h)) e = absurd e
exec-about g c (Some (message.Abort h)) e = absurd e
exec-about g c (Some (message.Forget h)) e = absurd e
exec-about g c (Some (message.Collect h)) e = absurd e
exec-about g c (Some (message.Answer h x)) e = absurd e
exec-about g c (Some (message.Graph h x)) e = absurd e
exec-about g c (Some message.Up) e = absurd e

order-about : (g : ℕ) (o : Option Order) → IsAboutOne g (status_order (gx g) o)
order-about g None = tt
order-about g (Some order.Prepare) = λ i. refl
order-about g (Some order.Commit) = λ i. refl
order-about g (Some order.CommitPrepared) = λ i. refl
order-about g (Some order.Abort) = λ i. refl
order-about g (Some order.Forget) = λ i. refl

waiting-about : (g : ℕ) (w : Work) (t : Option Txn) (i : Node) → Neat g w t → IsAboutOne g (waiting w.command t (gx g) i)
waiting-about g w t i n = by_command w.command n.command
  where
    by_command : (o : Option Command) → NeatCommand g (participants_in t) o → IsAboutOne g (waiting o t (gx g) i)
    by_command None f = order-about g (order_found i t)
    by_command (Some m) f = by_test (has i m.awaited) refl
      where
        by_test : (b : Bool) → has i m.awaited ≡ b → IsAboutOne g (if b then order_to i m.orders else status_order (gx g) (order_found i t))
        by_test true q = exec-about g m.cid (order_to i m.orders) (f i q).1
        by_test false q = order-about g (order_found i t)

again-asks : (c : Coord) → AreNeat c → (g : ℕ) (i : Node) (o : Option Message) → awaited c (gx g) i ≡ o → IsAboutOne g o → Asks (now_asked c) (resends c i o)
again-asks c n g i None e a = rest-asks c n
again-asks c n g i (Some m) e a =
    record {
      asked = λ j h. by_node j h (is_same_node i j) refl;
      sends_one = λ j. one (is_same_node i j);
      neat = n;
    }
  where
    one : (b : Bool) → (if b then 0 + 1 else 0) ≤ 1
    one true = omega arith
    one false = omega arith

    same : (j : Node) → is_same_node i j ≡ true → (h : ℕ) (b : Bool) → eqb g h ≡ b → awaited c (gx h) j ≡ (if b then Some m else awaited c (gx h) j)
    same j q h true r = subst (λ x. awaited c (gx x) j ≡ Some m) (eqb-true g h r) (subst (λ x. awaited c (gx g) (record { 0 = x }) ≡ Some m) (eqb-true i.0 j.0 q) e)
    same j q h false r = refl

    by_node : (j : Node) (h : ℕ) (b : Bool) → is_same_node i j ≡ b → awaited c (gx h) j ≡ (if b && is_about (gx h) m then Some m else awaited c (gx h) j)
    by_node j h true q = same j q h (eqb g h) refl ∙ ap (λ (b : Bool). if b then Some m else awaited c (gx h) j) (sym (a h))
    by_node j h false q = refl

-- LINES
module _ (script : Script) (c : Coord) (k : Kept script c) (n : AreNeat c) where
  -- another session's data
  same-asks : (d : Coord) (turn : CoordTurn) → d.table ≡ c.table → d.works ≡ c.works → Asks (now_asked d) turn → Asks (now_asked c) turn
  same-asks d turn t w f =
      asks-by (now_asked d) (now_asked c) turn
      (λ i g. ap (λ (ws : ℕ → Work). waiting (ws g).command (find_txn c.table (gx g)) (gx g) i) (sym w) ∙ ap (λ x. waiting (d.works g).command (find_txn x (gx g)) (gx g) i) (sym t)) f

  quiet : (d : Coord) (marks : List Mark) → d.table ≡ c.table → d.works ≡ c.works → Asks (now_asked c) (record { coord = d; marks = marks; outs = []; item = None })
  quiet d marks t w =
      record {
        asked = λ i g. ap (λ (ws : ℕ → Work). waiting (ws g).command (find_txn d.table (gx g)) (gx g) i) w ∙ ap (λ x. waiting (c.works g).command (find_txn x (gx g)) (gx g) i) t;
        sends_one = λ i. nothing-sent;
        neat = λ g. subst (λ (ws : ℕ → Work). Neat g (ws g) (find_txn d.table (gx g))) (sym w) (subst (λ x. Neat g (c.works g) (find_txn x (gx g))) (sym t) (n g));
      }

  module _ (s : SessionId) (idle : is_nothing_in (session_of c s).state.pending ≡ true) where
    abbrev block : Block
    block = (session_of c s).state.block

    abbrev own : ℕ
    own = (session_of c s).transaction.0

    transaction-now : (asked : LineStep) → (session_of (starts_line c s asked) s).transaction ≡ (session_of c s).transaction
    transaction-now asked = ap (λ q. (if q then record (session_of c s) { lines = (session_of c s).lines + 1; state = after_line block asked } else session_of c s).transaction) (eqb-self s.0)

    own-live : is_open_in block ≡ true → IsLive c own
    own-live opened = live-stage c own ((k.placed s.0).free opened idle)

    own-done : is_open_in block ≡ true → IsDone (c.works own).command
    own-done opened = by_command (c.works own).command refl
      where
        not-work : (q : Pending) → is_nothing_in q ≡ true → is_working_in q ≡ true → ⊥
        not-work q e f = grind arith

        by_awaited : (m : Command) → (c.works own).command ≡ Some m → (xs : List Node) → m.awaited ≡ xs → (i : Node) → has i xs ≡ false
        by_awaited m e [] q i = refl
        by_awaited m e (x ∷ xs) q i =
            absurd (not-work (session_of c s).state.pending idle (subst (λ j. is_working_in (c.sessions j).state.pending ≡ true) ((k.placed s.0).stands opened).1 ((k.tied own).awaits m e (λ z. differ (sym z ∙ q))).1))
          where
            differ : [] ≡ x ∷ xs → ⊥
            differ z = cc

        by_command : (o : Option Command) → (c.works own).command ≡ o → IsDone o
        by_command None e = tt
        by_command (Some m) e = by_awaited m e m.awaited refl

    -- a new transaction of which nothing was asked
    undrawn-none : (i : Node) → awaited c c.table.next i ≡ None
    undrawn-none i = waiting-none c.table.next.0 (c.works c.table.next.0) (find_txn c.table c.table.next) i (n c.table.next.0) (ap (λ t. has i (participants_in t)) (undrawn c.table k.whole))

    begin-one : (d : Coord) → d.table ≡ c.table → d.works ≡ c.works → (level : Level) (marks : List Mark) → OneOf c (now_asked c) (record { coord = begins d s level; marks = marks; outs = []; item = None }) c.table.next.0 (new_work s level) (Some new_txn)
    begin-one d t w level marks =
        record {
          finds = λ h. ap (λ x. find_txn (begun x) (gx h)) t ∙ begun-finds c.table k.whole h;
          works = λ h. ap (λ x. if eqb h x.next.0 then new_work s level else d.works h) t ∙ ap (λ (ws : ℕ → Work). if eqb h c.table.next.0 then new_work s level else ws h) w;
          others = λ i h e. refl;
          about = λ h e. tt;
          here = λ i. sym (undrawn-none i);
          sends_one = λ i. nothing-sent;
          neat = record { writers = tt; txn = (tt, λ i e. absurd (cc)); command = tt };
        }

    begun-asks : (asked : LineStep) (level : Level) (marks : List Mark) → Asks (now_asked c) (record { coord = begins (starts_line c s asked) s level; marks = marks; outs = []; item = None })
    begun-asks asked level marks = one-asks c (now_asked c) _ c.table.next.0 (new_work s level) (Some new_txn) n (begin-one (starts_line c s asked) refl refl level marks)

    begun-live : (asked : LineStep) (level : Level) → IsLive (begins (starts_line c s asked) s level) c.table.next.0
    begun-live asked level = record { txn = new_txn; found = begun-finds c.table k.whole c.table.next.0 ∙ ap (λ b. if b then Some new_txn else find_txn c.table c.table.next) (eqb-self c.table.next.0); active = refl }

    begun-done : (asked : LineStep) (level : Level) → IsDone ((begins (starts_line c s asked) s level).works c.table.next.0).command
    begun-done asked level = subst (λ (w : Work). IsDone w.command) (sym (ap (λ b. if b then new_work s level else c.works c.table.next.0) (eqb-self c.table.next.0))) tt

    alone-asks : (line : Stmt) → Asks (now_asked c) (behind (mark.Start c.table.next s ∷ []) (dispatches script (begins (starts_line c s (step.Command true)) s ReadCommitted) c.table.next line))
    alone-asks line =
        let d : Coord = begins (starts_line c s (step.Command true)) s ReadCommitted in
        let b = begun-asks (step.Command true) ReadCommitted [] in
        let f = dispatch-asks d (begun-whole c.table k.whole) b.neat c.table.next.0 (begun-live (step.Command true) ReadCommitted) (begun-done (step.Command true) ReadCommitted) script line in
        let x = asks-by (now_asked d) (now_asked c) (dispatches script d c.table.next line) (λ i g. sym (b.asked i g)) f in
        record { asked = x.asked; sends_one = x.sends_one; neat = x.neat }

    inside-asks : (line : Stmt) → is_open_in block ≡ true → Asks (now_asked c) (dispatches script (starts_line c s (step.Command false)) (session_of (starts_line c s (step.Command false)) s).transaction line)
    inside-asks line opened =
        let l = own-live opened in
        subst (λ g. Asks (now_asked c) (dispatches script (starts_line c s (step.Command false)) g line)) (sym (transaction-now (step.Command false)))
        (same-asks (starts_line c s (step.Command false)) _ refl refl
        (dispatch-asks (starts_line c s (step.Command false)) k.whole n own (record { txn = l.txn; found = l.found; active = l.active }) (own-done opened) script line))

    commit-asks : is_open_in block ≡ true → Asks (now_asked c) (commits (starts_line c s step.CommitBlock) (session_of (starts_line c s step.CommitBlock) s).transaction)
    commit-asks opened =
        let l = own-live opened in
        let d : Coord = starts_line c s step.CommitBlock in
        let live : IsLive d own = record { txn = l.txn; found = l.found; active = l.active } in
        subst (λ g. Asks (now_asked c) (commits (starts_line c s step.CommitBlock) g)) (sym (transaction-now step.CommitBlock))
        (same-asks d _ refl refl (commits-asks d k.whole n own (now_asked d) (λ i h e. refl) live (own-done opened) (live-none d own live (own-done opened))))

    rollback-asks : is_open_in block ≡ true → (marks : List Mark) → Asks (now_asked c) (rolls_back (starts_line c s step.RollbackBlock) (session_of (starts_line c s step.RollbackBlock) s).transaction marks (on_abort c.table (session_of (starts_line c s step.RollbackBlock) s).transaction))
    rollback-asks opened marks =
        let l = own-live opened in
        let d : Coord = starts_line c s step.RollbackBlock in
        let live : IsLive d own = record { txn = l.txn; found = l.found; active = l.active } in
        subst (λ g. Asks (now_asked c) (rolls_back (starts_line c s step.RollbackBlock) g marks (on_abort c.table g))) (sym (transaction-now step.RollbackBlock))
        (same-asks d _ refl refl (rolled-asks d k.whole n own (now_asked d) (λ i h e. refl) (λ i e. live-none d own live (own-done opened) i) marks))

    line-asks : (line : Stmt) (asked : LineStep) → Admits block asked → Asks (now_asked c) (on_line script (starts_line c s asked) s line asked)
    line-asks line (step.Answer plain) a = quiet (starts_line c s (step.Answer plain)) _ refl refl
    line-asks line step.InFailedBlock a = quiet (starts_line c s step.InFailedBlock) _ refl refl
    line-asks line step.NotInBlock a = quiet (starts_line c s step.NotInBlock) _ refl refl
    line-asks line (step.BeginBlock level) a = begun-asks (step.BeginBlock level) level _
    line-asks line step.CommitBlock a = commit-asks a
    line-asks line step.RollbackBlock a = rollback-asks a (answer_mark (starts_line c s step.RollbackBlock) s told.Rollback ∷ [])
    line-asks line (step.Command true) a = alone-asks line
    line-asks line (step.Command false) a = inside-asks line a

    start-asks : (line : Option Stmt) → Asks (now_asked c) (starts script c s line)
    start-asks None = rest-asks c n
    start-asks (Some line) = line-asks line (line_step block line) (admits block line)

    end-asks : (b : Block) → b ≡ block → Asks (now_asked c) (ends_in c s b)
    end-asks (Open level) e =
        let l = own-live (sym (ap is_open_in e)) in
        let d : Coord = with_state c s idle_outside in
        let live : IsLive d own = record { txn = l.txn; found = l.found; active = l.active } in
        let done : IsDone (d.works own).command = own-done (sym (ap is_open_in e)) in
        same-asks d _ refl refl (rolled-asks d k.whole n own (now_asked d) (λ i h q. refl) (λ i q. live-none d own live done i) [])
    end-asks Failed e = quiet (with_state c s idle_outside) [] refl refl
    end-asks Outside e = rest-asks c n

  -- ROUNDS
  -- what is told of no transaction leaves all that is asked
  apart-asks : (turn : CoordTurn) → turn.coord.table ≡ c.table → turn.coord.works ≡ c.works → ((h : ℕ) → Each (λ (o : Out). is_about (gx h) o.message ≡ false) turn.outs) → ((i : Node) → sends i turn.outs ≤ 1) → Asks (now_asked c) turn
  apart-asks turn t w apart one =
      let x = quiet turn.coord turn.marks t w in
      record { asked = λ i g. x.asked i g ∙ sym (told-other i (gx g) (awaited c (gx g) i) turn.outs (apart g)); sends_one = one; neat = x.neat }

  graph-asks : (j : Node) (round : ℕ) (graph : LocalGraph) → Asks (now_asked c) (on_graph c j round graph)
  graph-asks j round graph =
      graph-ways (Asks (now_asked c)) c j round graph (rest-asks c n) (λ r. quiet (with_report c graph) [] refl refl)
      (λ r a. let turn : CoordTurn = rechecks (with_report c graph) in quiet turn.coord turn.marks refl refl)

  begun-round-asks : Asks (now_asked c) (begins_round script c)
  begun-round-asks =
      apart-asks (begins_round script c) refl refl (λ h. collects-each (λ (o : Out). is_about (gx h) o.message ≡ false) script.segments (c.rounds + 1) (λ i one within. refl)) (λ i. sends-collects i script.segments (c.rounds + 1))

  collect-asks : (i : Node) → Asks (now_asked c) (resends c i (awaited_collect c i))
  collect-asks i = by_test (awaits_graph c i)
    where
      once : (b : Bool) → (if b then 0 + 1 else 0) ≤ 1
      once true = omega arith
      once false = omega arith

      by_test : (b : Bool) → Asks (now_asked c) (resends c i (if b then Some (message.Collect c.rounds) else None))
      by_test true = apart-asks (resends c i (Some (message.Collect c.rounds))) refl refl (λ h. (refl, tt)) (λ j. once (is_same_node i j))
      by_test false = rest-asks c n

  -- A VICTIM
  pub victim-asks : (g : Gxid) → Asks (now_asked c) (is_refused c g (on_abort c.table g) [] (Victim c.rounds))
  victim-asks g = refused-asks c k.whole n g.0 (now_asked c) (λ i h e. refl) (λ i e. waiting-none g.0 (c.works g.0) (find_txn c.table g) i (n g.0) e) [] (Victim c.rounds)

  pub cancel-asks : (g : Gxid) → Asks (now_asked c) (cancels c g)
  cancel-asks g = cancel-ways (Asks (now_asked c)) c g (rest-asks c n) (λ live busy. victim-asks g)

  -- MESSAGES
  abbrev pub FitsMessage : Node → Message → Type 0
  FitsMessage j (message.Answer g r) = FitsIn c k n g.0 j r
  FitsMessage j _ = Unit {0}

  message-asks : (j : Node) (fails : Bool) (m : Message) → FitsMessage j m → Asks (λ i g. if is_same_node j i && is_answer_to (awaited c (gx g) i) (gx g) (Some m) then None else awaited c (gx g) i) (on_message c j fails m)
  message-asks j fails (message.Answer g r) f = answer-asks c k n g.0 j fails r f
  message-asks j fails (message.Exec g cid level x h y) f = asks-by (now_asked c) _ (rests c) (λ i b. unanswered i j _ _ (no-answer (awaited c (gx b) i) (gx b) (message.Exec g cid level x h y) tt)) (rest-asks c n)
  message-asks j fails (message.Prepare g) f = asks-by (now_asked c) _ (rests c) (λ i b. unanswered i j _ _ (no-answer (awaited c (gx b) i) (gx b) (message.Prepare g) tt)) (rest-asks c n)
  message-asks j fails (message.Commit g) f = asks-by (now_asked c) _ (rests c) (λ i b. unanswered i j _ _ (no-answer (awaited c (gx b) i) (gx b) (message.Commit g) tt)) (rest-asks c n)
  message-asks j fails (message.CommitPrepared g) f = asks-by (now_asked c) _ (rests c) (λ i b. unanswered i j _ _ (no-answer (awaited c (gx b) i) (gx b) (message.CommitPrepared g) tt)) (rest-asks c n)
  message-asks j fails (message.Abort g) f = asks-by (now_asked c) _ (rests c) (λ i b. unanswered i j _ _ (no-answer (awaited c (gx b) i) (gx b) (message.Abort g) tt)) (rest-asks c n)
  message-asks j fails (message.Forget g) f = asks-by (now_asked c) _ (rests c) (λ i b. unanswered i j _ _ (no-answer (awaited c (gx b) i) (gx b) (message.Forget g) tt)) (rest-asks c n)
  message-asks j fails (message.Collect round) f = asks-by (now_asked c) _ (rests c) (λ i b. unanswered i j _ _ (no-answer (awaited c (gx b) i) (gx b) (message.Collect round) tt)) (rest-asks c n)
  message-asks j fails (message.Graph round graph) f = asks-by (now_asked c) _ (on_graph c j round graph) (λ i b. unanswered i j _ _ (no-answer (awaited c (gx b) i) (gx b) (message.Graph round graph) tt)) (graph-asks j round graph)
  message-asks j fails message.Up f = asks-by (now_asked c) _ (rests c) (λ i b. unanswered i j _ _ (no-answer (awaited c (gx b) i) (gx b) message.Up tt)) (rest-asks c n)

  -- ALL EVENTS
  abbrev pub FitsEvent : NodeEvent → Type 0
  FitsEvent (event.Deliver from envelope) = FitsMessage from envelope.message
  FitsEvent _ = Unit {0}

  idle-first : (s : SessionId) (b : Bool) → (is_idle (session_of c s) && b) ≡ true → is_nothing_in (session_of c s).state.pending ≡ true
  idle-first s b e = plain (session_of c s).state.pending (and-first _ _ e)
    where
      plain : (q : Pending) → is_nothing q ≡ true → is_nothing_in q ≡ true
      plain q e = grind arith

  -- a statement that has waited goes out
  goes-out-asks : (g : Gxid) → GoesOut script c g → Asks (now_asked c) (resumes script c g (wait_of c.locks g) (c.works g.0).waiting)
  goes-out-asks g o =
      subst (λ w. Asks (now_asked c) (resumes script c g w (c.works g.0).waiting)) (sym o.claims)
      (subst (λ l. Asks (now_asked c) (resumes script c g (Some o.wanted) l)) (sym o.is)
      (resume-asks c k.whole n g.0 (live-stage c g.0 o.live) (subst IsDone (sym o.idle) tt) script o.line o.wanted))

  pub event-asks : ((g : Gxid) → coord_can script c (event.Resume g) ≡ true → GoesOut script c g) → (x : NodeEvent) (fails : Bool) → coord_can script c x ≡ true → FitsEvent x → Asks (λ i g. left_by i (gx g) (awaited c (gx g) i) x) (on_event script c x fails)
  event-asks out (event.Deliver from envelope) fails e f = message-asks from fails envelope.message f
  event-asks out (event.Start s) fails e f = start-asks s (idle-first s _ e) (next_line script c s)
  event-asks out (event.End s) fails e f = end-asks s (idle-first s _ e) (session_of c s).state.block refl
  event-asks out (event.Resend i (Some g)) fails e f = again-asks c n g.0 i (awaited c g i) refl (waiting-about g.0 (c.works g.0) (find_txn c.table g) i (n g.0))
  event-asks out (event.Resend i None) fails e f = collect-asks i
  event-asks out (event.Resume g) fails e f = goes-out-asks g (out g e)
  event-asks out event.Round fails e f = begun-round-asks
