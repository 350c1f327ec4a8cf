-- Lines that start and sessions that end, and all events: what stands when a line is answered.
use Rattle.std.proofs.Common.{◌≡◌, inl, inr, ℕ, ◌+◌, List, [], ◌∷◌, ◌++◌, Option, Some, None, Result, Ok, Err, Bool, true, false, refl, sym, subst, ap, ◌∙◌, if◌then◌else◌, arith, eqb}
use Rattle.std.proofs.lemmas.Bool.{eqb-true}
use Rattle.std.proofs.lemmas.Bool.Decides.{nat_tests}
use Rattle.std.specs.Prelude.{nat_le}
use Rattle.gx_lemmas.proofs.Options.{some-same}
use Rattle.gx_lemmas.proofs.Numbers.{same-plus-none}
use Rattle.gx_lemmas.proofs.Tests.{and-second, true-false}
use Rattle.gx_ids.specs.declared.ids.Cid.{Cid}
use Rattle.gx_ids.specs.declared.ids.Gxid.{Gxid}
use Rattle.gx_ids.specs.declared.ids.SessionId.{SessionId}
use Rattle.gx_tree.specs.declared.stmt.Level.{Level}
use Rattle.gx_tree.specs.declared.stmt.Level.TheVariants.{ReadCommitted}
use Rattle.gx_tree.specs.declared.stmt.Stmt.{Stmt}
use Rattle.gx_tree.specs.declared.stmt.Stmt.TheVariants as stmt
use Rattle.gx_dsnap.specs.declared.snapshot.Snapshot.{Snapshot}
use Rattle.gx_dtx.specs.Rules.{Turn, on_abort, on_commit}
use Rattle.gx_dtx.specs.Table.{horizon_of}
use Rattle.gx_dtx.specs.declared.outcome.Outcome.{Outcome}
use Rattle.gx_dtx.specs.declared.outcome.Outcome.TheVariants as outcome
use Rattle.gx_meaning.specs.declared.fault.ArithFault.{ArithFault}
use Rattle.gx_meaning.specs.Plan.{plan_of}
use Rattle.gx_meaning.specs.declared.piece.Piece.{Piece}
use Rattle.gx_script.specs.declared.Script.{Script}
use Rattle.gx_script.specs.Session.{after_line, idle_outside, line_step}
use Rattle.gx_script.specs.declared.line_step.LineStep.{LineStep}
use Rattle.gx_script.specs.declared.line_step.LineStep.TheVariants as step
use Rattle.gx_script.specs.declared.line_step.Plain.{Plain}
use Rattle.gx_script.specs.declared.line_step.Plain.TheVariants as plain
use Rattle.gx_script.specs.declared.state.Block.{Block}
use Rattle.gx_script.specs.declared.state.Block.TheVariants.{Outside, Open, Failed}
use Rattle.gx_script.specs.declared.state.SessionState.{SessionState}
use Rattle.gx_store.specs.declared.answer.StmtAnswer.{StmtAnswer}
use Rattle.gx_store.specs.declared.answer.StmtAnswer.TheVariants as told
use Rattle.gx_store.specs.declared.mark.Mark.{Mark}
use Rattle.gx_store.specs.declared.mark.Mark.TheVariants as mark
use Rattle.gx_store.specs.declared.node.NodeEvent.{NodeEvent}
use Rattle.gx_store.specs.declared.node.NodeEvent.TheVariants as event
use Rattle.gx_store.specs.Lines.{BlockState, is_command}
use Rattle.gx_store.specs.Marks.{started_after}
use Rattle.gx_store.specs.Writes.{dist_of}
use Rattle.gx_rules.specs.AtCoordinator.{Reading, kept_at, nodes_in, orders_of, answer_mark, answers_at_once, awaited, awaited_collect, begins, behind, cancels, commits, coord_can, dispatches, ends_in, fault_mark, follows, goes, goes_out, next_cid, next_line, on_event, on_line, plain_answer_of, reads_by, reads_for, refusal_of, resumes, rolls_back, starts, starts_line, table_of, takes_snapshot, goes_on_locked, if_granted, requests, waits_for}
use Rattle.gx_store.specs.Locks.{table_lock}
use Rattle.gx_rules.specs.Coordinators.{Coord, CoordTurn, Session, new_work, rests, session_of, with_state, with_work, work_of}
use Rattle.gx_rules.specs.Snapshots.{snapshot_of}
use Rattle.gx_law_order.proofs.Lines.{Asks, asks, undrawn}
use Rattle.gx_law_order.proofs.Lists.{each_append}
use Rattle.gx_law_order.specs.Lists.{Each}
use Rattle.gx_law_order.proofs.Numbers.{NoStart}
use Rattle.gx_law_order.specs.Past.{Past}
use Rattle.gx_law_order.specs.Sessions.{Kept, is_nothing_in, is_open_in}
use Rattle.gx_law_order.specs.Stages.{stage}
use Rattle.gx_law_order.proofs.Statuses.{Closes, Turned, commit-turns}
use Rattle.gx_law_order.specs.Places.{AreIn}
use Rattle.gx_store.proofs.Marks.{started_after-append}
use Rattle.gx_law_order.specs.Standings.{Part, gx, standing, waits_in}
use Rattle.gx_law_order.proofs.Answering.{IsPlain, MayAll, MayAnswer, NoAnswer, Settles, Tidy, WorksGo, closed-tidy, none-may, one-go, refused-tidy, rests-tidy, rolled-tidy}
use Rattle.gx_law_order.proofs.Completing.{GetsBy, again-tidy, begins-tidy, calm-started, cancel-tidy, home-settles, live-alive, message-tidy, rest-tidy}
use Rattle.gx_law_order.proofs.Events.{idle-first, live-stage, own-idle}
use Rattle.gx_law_order.proofs.Ways.{Stands}
use Rattle.gx_law_order.proofs.Waiting.{GoesOut}
use Rattle.gx_law_order.proofs.Dispatching.{goes-out-is}
use Rattle.gx_locks.specs.Locks.{Locks, resumed, wait_of}
use Rattle.gx_waits.specs.Claims.{is_clear}
use Rattle.gx_rules.specs.Locks.{hold_mark, with_hold}
use Rattle.gx_waits.specs.declared.claim.Claim.{Claim}
use Rattle.gx_store.specs.Refusals.{the_coordinator}

-- a line that is no command
abbrev IsPlainStep : LineStep → Type 0
IsPlainStep (step.Answer plain) = Unit {0}
IsPlainStep (step.BeginBlock level) = Unit {0}
IsPlainStep step.RollbackBlock = Unit {0}
IsPlainStep _ = ⊥

no-command : (line : Stmt) → (is_command Rattle.gx_store.specs.Lines.BlockState.Outside line ≡ false) → ((level : Level) (n : ℕ) → is_command (Rattle.gx_store.specs.Lines.BlockState.InBlock level n) line ≡ false) → (state : BlockState) → is_command state line ≡ false
no-command line a b Rattle.gx_store.specs.Lines.BlockState.Outside = a
no-command line a b (Rattle.gx_store.specs.Lines.BlockState.InBlock level n) = b level n
no-command line a b Rattle.gx_store.specs.Lines.BlockState.Failed = refl

plain-line : (b : Block) (line : Stmt) → IsPlainStep (line_step b line) → (state : BlockState) → is_command state line ≡ false
plain-line b (stmt.Begin level) e = no-command (stmt.Begin level) refl (λ l n. refl)
plain-line b stmt.Commit e = no-command stmt.Commit refl (λ l n. refl)
plain-line b stmt.Rollback e = no-command stmt.Rollback refl (λ l n. refl)
plain-line Outside (stmt.Select q) e = absurd e
plain-line (Open l) (stmt.Select q) e = absurd e
plain-line Failed (stmt.Select q) e = absurd e
plain-line Outside (stmt.Insert t x) e = absurd e
plain-line (Open l) (stmt.Insert t x) e = absurd e
plain-line Failed (stmt.Insert t x) e = absurd e
plain-line Outside (stmt.Update t x y) e = absurd e
plain-line (Open l) (stmt.Update t x y) e = absurd e
plain-line Failed (stmt.Update t x y) e = absurd e
plain-line Outside (stmt.Delete t x) e = absurd e
plain-line (Open l) (stmt.Delete t x) e = absurd e
plain-line Failed (stmt.Delete t x) e = absurd e
plain-line Outside (stmt.Lock t m) e = absurd e
plain-line (Open l) (stmt.Lock t m) e = absurd e
plain-line Failed (stmt.Lock t m) e = absurd e

fault-no-start : (g : Gxid) (cid : Cid) (line : Stmt) → Each NoStart (fault_mark g cid line)
fault-no-start g cid (stmt.Insert t x) = (tt, tt)
fault-no-start g cid (stmt.Begin level) = tt
fault-no-start g cid stmt.Commit = tt
fault-no-start g cid stmt.Rollback = tt
fault-no-start g cid (stmt.Select q) = tt
fault-no-start g cid (stmt.Update t x y) = tt
fault-no-start g cid (stmt.Delete t x) = tt
fault-no-start g cid (stmt.Lock t m) = tt

fault-no-answer : (g : Gxid) (cid : Cid) (line : Stmt) → Each NoAnswer (fault_mark g cid line)
fault-no-answer g cid (stmt.Insert t x) = (tt, tt)
fault-no-answer g cid (stmt.Begin level) = tt
fault-no-answer g cid stmt.Commit = tt
fault-no-answer g cid stmt.Rollback = tt
fault-no-answer g cid (stmt.Select q) = tt
fault-no-answer g cid (stmt.Update t x y) = tt
fault-no-answer g cid (stmt.Delete t x) = tt
fault-no-answer g cid (stmt.Lock t m) = tt

module _ (script : Script) (P : ℕ → ℕ → Part) (c : Coord) (ms : List Mark) (st : Stands script P c ms) (k : Kept script c) (p : Past c ms) (ins : (g : ℕ) → AreIn script.segments (c.works g).writers) (Gets : ℕ → ℕ → ℕ → Type 0) (starting : ℕ → Type 0) (last_is : (t : SessionId) (h : ℕ) → started_after t None ms ≡ Some (gx h) → (session_of c t).transaction.0 ≡ h) where
  abbrev TidyIn : (ℕ → Session) → List Mark → CoordTurn → Type 0
  TidyIn sessions earlier turn = Tidy script c ms Gets starting sessions earlier turn

  -- COMMANDS THAT GO OUT, from a coordinator on the way
  module _ (d : Coord) (g : ℕ) (others : (h : ℕ) → eqb h g ≡ false → d.works h ≡ c.works h) (earlier : List Mark) (idle : (i : ℕ) → waits_in (c.works g).command i ≡ false) where
    record ReadsTidy (r : Reading) : Type 0 where
      same_sessions : (t : ℕ) → r.coord.sessions t ≡ d.sessions t
      same_works : (h : ℕ) → eqb h g ≡ false → r.coord.works h ≡ c.works h
      no_start : Each NoStart r.marks
      no_answer : Each NoAnswer r.marks

    keeps : (x : Option Snapshot) → ReadsTidy (record { coord = d; snapshot = x; marks = [] })
    keeps x = record { same_sessions = λ t. refl; same_works = others; no_start = tt; no_answer = tt }

    takes : (cid : Cid) → ReadsTidy (takes_snapshot d (gx g) cid (d.works g))
    takes cid = record { same_sessions = λ t. refl; same_works = λ h e. ap (λ b. if b then record (d.works g) { snapshot = kept_at (d.works g).level (snapshot_of d.table) } else d.works h) e ∙ others h e; no_start = (tt, tt); no_answer = (tt, tt) }

    by : (cid : Cid) (x : Option Snapshot) → ReadsTidy (reads_by d (gx g) cid (d.works g) x)
    by cid None = takes cid
    by cid (Some x) = keeps (Some x)

    for : (cid : Cid) (line : Stmt) → ReadsTidy (reads_for d (gx g) cid (d.works g) line)
    for cid (stmt.Lock t m) = keeps None
    for cid (stmt.Begin level) = by cid (d.works g).snapshot
    for cid stmt.Commit = by cid (d.works g).snapshot
    for cid stmt.Rollback = by cid (d.works g).snapshot
    for cid (stmt.Select q) = by cid (d.works g).snapshot
    for cid (stmt.Insert t x) = by cid (d.works g).snapshot
    for cid (stmt.Update t x z) = by cid (d.works g).snapshot
    for cid (stmt.Delete t x) = by cid (d.works g).snapshot

    goes-tidy : (cid : Cid) (line : Stmt) (r : Reading) (plan : Result (List Piece) ArithFault) → ReadsTidy r → TidyIn d.sessions earlier (goes (gx g) cid line r plan)
    goes-tidy cid line r (Ok pieces) f =
        record {
          lines = λ t. ap (λ (x : Session). x.lines) (f.same_sessions t);
          transaction = λ t. ap (λ (x : Session). x.transaction) (f.same_sessions t);
          marks = f.no_start;
          works = one-go script c ms Gets starting (goes_out (gx g) cid line pieces r).coord.works r.marks g (λ h e. ap (λ b. if b then record (r.coord.works g) { last = cid.0; command = Some (record { stmt = line; cid = cid; orders = orders_of (gx g) cid (r.coord.works g).level r.snapshot (horizon_of r.coord.table) pieces; awaited = nodes_in pieces; count = 0; parts = [] }) } else r.coord.works h) e ∙ f.same_works h e) (λ i e. absurd (true-false (waits_in (c.works g).command i) e (idle i)));
          may = none-may script c ms Gets starting (goes_out (gx g) cid line pieces r).coord.works earlier r.marks f.no_answer;
        }
    goes-tidy cid line r (Err fault) f =
        let x = refused-tidy script c ms Gets starting r.coord g f.same_works earlier (on_abort r.coord.table (gx g)) (r.marks ++ fault_mark (gx g) cid line) (refusal_of fault) (each_append NoStart r.marks (fault_mark (gx g) cid line) f.no_start (fault-no-start (gx g) cid line)) (each_append NoAnswer r.marks (fault_mark (gx g) cid line) f.no_answer (fault-no-answer (gx g) cid line)) in
        record {
          lines = λ t. x.lines t ∙ ap (λ (y : Session). y.lines) (f.same_sessions t);
          transaction = λ t. x.transaction t ∙ ap (λ (y : Session). y.transaction) (f.same_sessions t);
          marks = x.marks;
          works = x.works;
          may = x.may;
        }

    locked-tidy : (line : Stmt) → TidyIn d.sessions earlier (goes_on_locked script d (gx g) line)
    locked-tidy line = goes-tidy (next_cid (d.works g)) line _ (plan_of script.segments (dist_of script.tables (table_of line)) (gx g) (next_cid (d.works g)) line) (for (next_cid (d.works g)) line)

  -- WITH ITS TABLE'S LOCK, OR WAITING FOR IT
  module _ (d : Coord) (g : ℕ) (others : (h : ℕ) → eqb h g ≡ false → d.works h ≡ c.works h) (earlier : List Mark) (idle : (i : ℕ) → waits_in (c.works g).command i ≡ false) (line : Stmt) where
    held-tidy : (locks : Locks) (wanted : Claim) → TidyIn d.sessions earlier (behind (hold_mark the_coordinator wanted ∷ []) (goes_on_locked script (record d { locks = locks }) (gx g) line))
    held-tidy locks wanted =
        let x = locked-tidy (record d { locks = locks }) g others (earlier ++ hold_mark the_coordinator wanted ∷ []) idle line in
        record { lines = x.lines; transaction = x.transaction; marks = (tt, x.marks); works = x.works; may = (tt, x.may) }

    waits-tidy : (wanted : Claim) → TidyIn d.sessions earlier (waits_for d (gx g) line wanted)
    waits-tidy wanted =
        record {
          lines = λ t. refl;
          transaction = λ t. refl;
          marks = (tt, tt);
          works = one-go script c ms Gets starting (waits_for d (gx g) line wanted).coord.works (waits_for d (gx g) line wanted).marks g (λ h e. ap (λ b. if b then record (d.works g) { waiting = Some line } else d.works h) e ∙ others h e) (λ i e. absurd (true-false (waits_in (c.works g).command i) e (idle i)));
          may = (tt, tt);
        }

    request-tidy : (o : Option Claim) → TidyIn d.sessions earlier (requests script d (gx g) line o)
    request-tidy None = locked-tidy d g others earlier idle line
    request-tidy (Some wanted) = by_test (is_clear d.locks.holds d.locks.waits wanted)
      where
        by_test : (b : Bool) → TidyIn d.sessions earlier (if_granted script d (gx g) line wanted b)
        by_test true = held-tidy (with_hold d.locks wanted) wanted
        by_test false = waits-tidy wanted

    dispatch-tidy : TidyIn d.sessions earlier (dispatches script d (gx g) line)
    dispatch-tidy = request-tidy (table_lock script (gx g) line)

  -- A WHOLE EVENT
  pub record Told (count : ℕ → ℕ) (turn : CoordTurn) : Type 0 where
    pub lines : (t : ℕ) → (turn.coord.sessions t).lines ≡ (c.sessions t).lines + count t
    pub last : (t : SessionId) (h : ℕ) → started_after t None (ms ++ turn.marks) ≡ Some (gx h) → (session_of turn.coord t).transaction.0 ≡ h
    pub works : WorksGo script c ms Gets starting turn.coord.works turn.marks
    pub may : MayAll script c ms Gets starting turn.coord.works [] turn.marks

  -- no transaction begins
  tidy-told : (f : ℕ → Session) (count : ℕ → ℕ) (turn : CoordTurn) → ((t : ℕ) → (f t).lines ≡ (c.sessions t).lines + count t) → ((t : ℕ) → (f t).transaction ≡ (c.sessions t).transaction) → TidyIn f [] turn → Told count turn
  tidy-told f count turn a b x =
      record {
        lines = λ t. x.lines t ∙ a t;
        last = λ t h e. ap (λ (q : Gxid). q.0) (x.transaction t.0 ∙ b t.0) ∙ last_is t h (sym (started_after-append t None ms turn.marks ∙ calm-started t (started_after t None ms) turn.marks x.marks) ∙ e);
        works = x.works;
        may = x.may;
      }

  quiet-told : (turn : CoordTurn) → TidyIn c.sessions [] turn → Told (λ t. 0) turn
  quiet-told turn x = tidy-told c.sessions (λ t. 0) turn (λ t. same-plus-none (c.sessions t).lines) (λ t. refl) x

  module _ (s : SessionId) (idle : is_nothing_in (session_of c s).state.pending ≡ true) where
    abbrev block : Block
    block = (session_of c s).state.block

    abbrev moved : LineStep → Session
    moved asked = record (session_of c s) { lines = (session_of c s).lines + 1; state = after_line block asked }

    abbrev one_line : ℕ → ℕ
    one_line t = if eqb s.0 t then 1 else 0

    moved-lines : (asked : LineStep) (t : ℕ) → ((starts_line c s asked).sessions t).lines ≡ (c.sessions t).lines + one_line t
    moved-lines asked t = by_test (eqb t s.0) refl
      where
        same-way : (a b : ℕ) (q : Bool) → eqb a b ≡ q → eqb b a ≡ q
        same-way a b q e = grind (arith, nat_tests)

        by_test : (b : Bool) → eqb t s.0 ≡ b → (if b then moved asked else c.sessions t).lines ≡ (c.sessions t).lines + one_line t
        by_test true e = ap (λ j. (c.sessions j).lines + 1) (sym (eqb-true t s.0 e)) ∙ ap (λ b. (c.sessions t).lines + (if b then 1 else 0)) (sym (same-way t s.0 true e))
        by_test false e = same-plus-none (c.sessions t).lines ∙ ap (λ b. (c.sessions t).lines + (if b then 1 else 0)) (sym (same-way t s.0 false e))

    moved-transaction : (asked : LineStep) (t : ℕ) → ((starts_line c s asked).sessions t).transaction ≡ (c.sessions t).transaction
    moved-transaction asked t = by_test (eqb t s.0) refl
      where
        by_test : (b : Bool) → eqb t s.0 ≡ b → (if b then moved asked else c.sessions t).transaction ≡ (c.sessions t).transaction
        by_test true e = ap (λ j. (c.sessions j).transaction) (sym (eqb-true t s.0 e))
        by_test false e = refl

    transaction-now : (asked : LineStep) → (session_of (starts_line c s asked) s).transaction ≡ (session_of c s).transaction
    transaction-now asked = moved-transaction asked s.0

    line-told : (asked : LineStep) (turn : CoordTurn) → TidyIn (starts_line c s asked).sessions [] turn → Told one_line turn
    line-told asked turn x = tidy-told (starts_line c s asked).sessions one_line turn (moved-lines asked) (moved-transaction asked) x

    -- the transaction of an open block
    block-idle : is_open_in block ≡ true → (i : ℕ) → waits_in (c.works (session_of c s).transaction.0).command i ≡ false
    block-idle opened = own-idle script P c ms st k p ins s idle opened

    block-settles : is_open_in block ≡ true → Settles script c ms Gets starting (session_of c s).transaction.0
    block-settles opened =
        record { waits = λ i e. absurd (true-false (waits_in (c.works (session_of c s).transaction.0).command i) e (block-idle opened i)); alive = live-alive script P c ms st k Gets starting last_is (session_of c s).transaction.0 (live-stage c (session_of c s).transaction.0 ((k.placed s.0).free opened idle)) }

    same-others : (asked : LineStep) (g : ℕ) (h : ℕ) → eqb h g ≡ false → (starts_line c s asked).works h ≡ c.works h
    same-others asked g h e = refl

    commit-told : is_open_in block ≡ true → Told one_line (commits (starts_line c s step.CommitBlock) (session_of (starts_line c s step.CommitBlock) s).transaction)
    commit-told opened = subst (λ g. Told one_line (commits (starts_line c s step.CommitBlock) g)) (sym (transaction-now step.CommitBlock)) (line-told step.CommitBlock _ (by_outcome turn.out.outcome refl t.how))
      where
        g : ℕ
        g = (session_of c s).transaction.0

        c1 : Coord
        c1 = starts_line c s step.CommitBlock

        turn : Turn
        turn = on_commit c.table (gx g) (c.works g).writers

        t : Turned c.table g turn (λ a b o. Closes b o)
        t = commit-turns c.table g (c.works g).writers k.whole ((k.placed s.0).free opened idle)

        mine : (session_of c (c.works g).session).transaction.0 ≡ g
        mine = ap (λ j. (c.sessions j).transaction.0) ((k.placed s.0).stands opened).1

        by_outcome : (o : Outcome) → turn.out.outcome ≡ o → Closes (stage t.now) o → TidyIn c1.sessions [] (follows c1 (gx g) turn o)
        by_outcome outcome.Pending q h = rests-tidy script c ms Gets starting c1 g (same-others step.CommitBlock g) [] turn.table turn.out.outs [] tt tt (λ i x. inl (x, refl))
        by_outcome outcome.Committed q h = closed-tidy script c ms Gets starting c1 g (same-others step.CommitBlock g) [] turn (block-settles opened) (home-settles script P c ms st k Gets starting last_is g (c.works g).session (mark.Commit (gx g) ∷ []) (tt, tt) mine (block-settles opened))
        by_outcome outcome.Decided q h = absurd h
        by_outcome (outcome.Refused i) q h = absurd h
        by_outcome outcome.Ended q h = absurd h

    at-once : (asked : LineStep) (a : StmtAnswer) → MayAnswer script c ms Gets starting c.works [] s a → Told one_line (answers_at_once (starts_line c s asked) s a)
    at-once asked a x =
        line-told asked (answers_at_once (starts_line c s asked) s a) (record { lines = λ t. refl; transaction = λ t. refl; marks = (tt, tt); works = λ h i e. inl (e, refl); may = (x, tt) })

    inside-told : (line : Stmt) → is_open_in block ≡ true → Told one_line (dispatches script (starts_line c s (step.Command false)) (session_of (starts_line c s (step.Command false)) s).transaction line)
    inside-told line opened =
        subst (λ g. Told one_line (dispatches script (starts_line c s (step.Command false)) g line)) (sym (transaction-now (step.Command false)))
        (line-told (step.Command false) _ (dispatch-tidy (starts_line c s (step.Command false)) (session_of c s).transaction.0 (same-others (step.Command false) (session_of c s).transaction.0) [] (block-idle opened) line))

    -- a new transaction
    new-idle : (i : ℕ) → waits_in (c.works c.table.next.0).command i ≡ false
    new-idle i = ((st.pairs i c.table.next.0).unborn (ap (λ t. standing (nat_le c.table.next.0 c.table.next.0) t i) (undrawn c.table k.whole) ∙ ap (λ b. standing b None i) (self-le c.table.next.0))).4
      where
        self-le : (a : ℕ) → nat_le a a ≡ true
        self-le a = grind (arith, nat_tests)

    begins-others : (asked : LineStep) (level : Level) (h : ℕ) → eqb h c.table.next.0 ≡ false → (begins (starts_line c s asked) s level).works h ≡ c.works h
    begins-others asked level h e = ap (λ b. if b then new_work s level else c.works h) e

    begins-lines : (asked : LineStep) (level : Level) (t : ℕ) → ((begins (starts_line c s asked) s level).sessions t).lines ≡ (c.sessions t).lines + one_line t
    begins-lines asked level t = by_test (eqb t s.0) refl
      where
        by_test : (b : Bool) → eqb t s.0 ≡ b → (if b then record (session_of (starts_line c s asked) s) { transaction = c.table.next } else (starts_line c s asked).sessions t).lines ≡ (c.sessions t).lines + one_line t
        by_test true e = ap (λ j. ((starts_line c s asked).sessions j).lines) (sym (eqb-true t s.0 e)) ∙ moved-lines asked t
        by_test false e = moved-lines asked t

    begins-transaction : (asked : LineStep) (level : Level) (t : ℕ) → ((begins (starts_line c s asked) s level).sessions t).transaction ≡ (if eqb t s.0 then c.table.next else (c.sessions t).transaction)
    begins-transaction asked level t = by_test (eqb t s.0) refl
      where
        by_test : (b : Bool) → eqb t s.0 ≡ b → (if b then record (session_of (starts_line c s asked) s) { transaction = c.table.next } else (starts_line c s asked).sessions t).transaction ≡ (if b then c.table.next else (c.sessions t).transaction)
        by_test true e = refl
        by_test false e = moved-transaction asked t

    begun-told : (asked : LineStep) (level : Level) (turn : CoordTurn) → TidyIn (begins (starts_line c s asked) s level).sessions (mark.Start c.table.next s ∷ []) turn → Told one_line (behind (mark.Start c.table.next s ∷ []) turn)
    begun-told asked level turn x =
        record {
          lines = λ t. x.lines t ∙ begins-lines asked level t;
          last = λ t h e. ap (λ (q : Gxid). q.0) (x.transaction t.0 ∙ begins-transaction asked level t.0) ∙ by_test t h (eqb s.0 t.0) refl (sym (started_after-append t None ms (mark.Start c.table.next s ∷ turn.marks) ∙ calm-started t _ turn.marks x.marks) ∙ e);
          works = works-behind x.works;
          may = (tt, x.may);
        }
      where
        same-way : (a b : ℕ) (q : Bool) → eqb a b ≡ q → eqb b a ≡ q
        same-way a b q e = grind (arith, nat_tests)

        by_test : (t : SessionId) (h : ℕ) (b : Bool) → eqb s.0 t.0 ≡ b → (if eqb s.0 t.0 then Some c.table.next else started_after t None ms) ≡ Some (gx h) → (if eqb t.0 s.0 then c.table.next else (c.sessions t.0).transaction).0 ≡ h
        by_test t h true q e = ap (λ b. (if b then c.table.next else (c.sessions t.0).transaction).0) (same-way s.0 t.0 true q) ∙ ap (λ (y : Gxid). y.0) (some-same c.table.next (gx h) (sym (ap (λ b. if b then Some c.table.next else started_after t None ms) q) ∙ e))
        by_test t h false q e = ap (λ b. (if b then c.table.next else (c.sessions t.0).transaction).0) (same-way s.0 t.0 false q) ∙ last_is t h (sym (ap (λ b. if b then Some c.table.next else started_after t None ms) q) ∙ e)

        works-behind : WorksGo script c ms Gets starting turn.coord.works turn.marks → WorksGo script c ms Gets starting turn.coord.works (mark.Start c.table.next s ∷ turn.marks)
        works-behind f = λ h i e. f h i e

    begin-told : (level : Level) → IsPlain script c ms Gets starting s → Told one_line (behind (mark.Start c.table.next s ∷ []) (answers_at_once (begins (starts_line c s (step.BeginBlock level)) s level) s told.Begin))
    begin-told level q =
        begun-told (step.BeginBlock level) level (answers_at_once (begins (starts_line c s (step.BeginBlock level)) s level) s told.Begin)
        (record { lines = λ t. refl; transaction = λ t. refl; marks = (tt, tt); works = one-go script c ms Gets starting (begins (starts_line c s (step.BeginBlock level)) s level).works ((answers_at_once (begins (starts_line c s (step.BeginBlock level)) s level) s told.Begin).marks) c.table.next.0 (begins-others (step.BeginBlock level) level) (λ i e. absurd (true-false (waits_in (c.works c.table.next.0).command i) e (new-idle i))); may = (inr q, tt) })

    alone-told : (line : Stmt) → Told one_line (behind (mark.Start c.table.next s ∷ []) (dispatches script (begins (starts_line c s (step.Command true)) s ReadCommitted) c.table.next line))
    alone-told line =
        begun-told (step.Command true) ReadCommitted _ (dispatch-tidy (begins (starts_line c s (step.Command true)) s ReadCommitted) c.table.next.0 (begins-others (step.Command true) ReadCommitted) (mark.Start c.table.next s ∷ []) new-idle line)

    rollback-told : is_open_in block ≡ true → IsPlain script c ms Gets starting s → Told one_line (rolls_back (starts_line c s step.RollbackBlock) (session_of (starts_line c s step.RollbackBlock) s).transaction (answer_mark (starts_line c s step.RollbackBlock) s told.Rollback ∷ []) (on_abort c.table (session_of (starts_line c s step.RollbackBlock) s).transaction))
    rollback-told opened q =
        line-told step.RollbackBlock _ (rolled-tidy script c ms Gets starting (starts_line c s step.RollbackBlock) (session_of (starts_line c s step.RollbackBlock) s).transaction.0 (same-others step.RollbackBlock _) [] (on_abort c.table (session_of (starts_line c s step.RollbackBlock) s).transaction) (answer_mark (starts_line c s step.RollbackBlock) s told.Rollback ∷ []) (tt, tt) (inr q, tt))

    plain-may : (plain : Plain) → IsPlain script c ms Gets starting s → MayAnswer script c ms Gets starting c.works [] s (plain_answer_of plain)
    plain-may plain.Begin q = inr q
    plain-may plain.Commit q = inr q
    plain-may plain.Rollback q = inr q

    line-all : (line : Stmt) (asked : LineStep) → Asks block asked → (IsPlainStep asked → IsPlain script c ms Gets starting s) → Told one_line (on_line script (starts_line c s asked) s line asked)
    line-all line (step.Answer plain) a q = at-once (step.Answer plain) _ (plain-may plain (q tt))
    line-all line step.InFailedBlock a q = at-once step.InFailedBlock _ tt
    line-all line step.NotInBlock a q = at-once step.NotInBlock _ tt
    line-all line (step.BeginBlock level) a q = begin-told level (q tt)
    line-all line step.CommitBlock a q = commit-told a
    line-all line step.RollbackBlock a q = rollback-told a (q tt)
    line-all line (step.Command true) a q = alone-told line
    line-all line (step.Command false) a q = inside-told line a

    start-told : starting s.0 → (line : Stmt) → next_line script c s ≡ Some line → Told one_line (starts script c s (Some line))
    start-told it line e = line-all line (line_step block line) (asks block line) (λ q. record { line = line; next = e; plain = plain-line block line q; starts_it = it })

    state-told : (x : SessionState) (turn : CoordTurn) → TidyIn (with_state c s x).sessions [] turn → Told (λ t. 0) turn
    state-told x turn f =
        tidy-told (with_state c s x).sessions (λ t. 0) turn (λ t. by_lines t (eqb t s.0) refl ∙ same-plus-none (c.sessions t).lines) (λ t. by_txn t (eqb t s.0) refl) f
      where
        by_lines : (t : ℕ) (b : Bool) → eqb t s.0 ≡ b → (if b then record (session_of c s) { state = x } else c.sessions t).lines ≡ (c.sessions t).lines
        by_lines t true e = ap (λ j. (c.sessions j).lines) (sym (eqb-true t s.0 e))
        by_lines t false e = refl

        by_txn : (t : ℕ) (b : Bool) → eqb t s.0 ≡ b → (if b then record (session_of c s) { state = x } else c.sessions t).transaction ≡ (c.sessions t).transaction
        by_txn t true e = ap (λ j. (c.sessions j).transaction) (sym (eqb-true t s.0 e))
        by_txn t false e = refl

    end-told : (b : Block) → Told (λ t. 0) (ends_in c s b)
    end-told (Open level) =
        state-told idle_outside _ (rolled-tidy script c ms Gets starting (with_state c s idle_outside) (session_of c s).transaction.0 (λ h e. refl) [] (on_abort c.table (session_of c s).transaction) [] tt tt)
    end-told Failed = state-told idle_outside _ (rests-tidy script c ms Gets starting (with_state c s idle_outside) 0 (λ h e. refl) [] c.table [] [] tt tt (λ i e. inl (e, refl)))
    end-told Outside = quiet-told (rests c) (rest-tidy script P c ms st k Gets starting last_is)

  -- ALL EVENTS
  abbrev pub IsGot : NodeEvent → Type 0
  IsGot (event.Deliver from envelope) = GetsBy script P c ms st k Gets starting last_is from envelope.message
  IsGot (event.Start s) = starting s.0
  IsGot _ = Unit {0}

  abbrev pub counted : NodeEvent → ℕ → ℕ
  counted (event.Start s) t = if eqb s.0 t then 1 else 0
  counted _ t = 0

  start-any : (s : SessionId) → is_nothing_in (session_of c s).state.pending ≡ true → starting s.0 → (o : Option Stmt) → next_line script c s ≡ o → Rattle.gx_rules.specs.AtCoordinator.is_left o ≡ true → Told (counted (event.Start s)) (starts script c s o)
  start-any s idle it None e f = absurd (cc)
  start-any s idle it (Some line) e f = start-told s idle it line e

  pub event-told : ((g : Gxid) → coord_can script c (event.Resume g) ≡ true → GoesOut script c g) → (x : NodeEvent) (fails : Bool) → coord_can script c x ≡ true → IsGot x → Told (counted x) (on_event script c x fails)
  event-told out (event.Deliver from envelope) fails e d = quiet-told _ (message-tidy script P c ms st k Gets starting last_is from fails envelope.message d)
  event-told out (event.Start s) fails e d = start-any s (idle-first script P c ms st k p ins s _ e) d (next_line script c s) refl (and-second _ _ e)
  event-told out (event.End s) fails e d = end-told s (idle-first script P c ms st k p ins s _ e) (session_of c s).state.block
  event-told out (event.Resend i (Some g)) fails e d = quiet-told _ (again-tidy script P c ms st k Gets starting last_is i (awaited c g i))
  event-told out (event.Resend i None) fails e d = quiet-told _ (again-tidy script P c ms st k Gets starting last_is i (awaited_collect c i))
  event-told out (event.Resume g) fails e d = resumed-told (out g e)
    where
      free : Coord
      free = with_work c g (record (work_of c g) { waiting = None })

      resumed-told : GoesOut script c g → Told (λ t. 0) (resumes script c g (wait_of c.locks g) (work_of c g).waiting)
      resumed-told o =
          subst (Told (λ t. 0)) (goes-out-is script c g o.wanted o.line o.claims o.is)
          (quiet-told _ (held-tidy free g.0 (λ h q. ap (λ b. if b then record (work_of c g) { waiting = None } else c.works h) q) [] (λ i. ap (λ q. waits_in q i) o.idle) o.line (resumed c.locks g (Some o.wanted)) o.wanted))
  event-told out event.Round fails e d = quiet-told _ (begins-tidy script P c ms st k Gets starting last_is)

  -- a victim
  pub cancel-told : (g : Gxid) → Told (λ t. 0) (cancels c g)
  cancel-told g = quiet-told _ (cancel-tidy script P c ms st k Gets starting last_is g)
