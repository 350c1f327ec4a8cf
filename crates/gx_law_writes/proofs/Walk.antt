-- What each event does to the commands under way, and which of them it answers.
use Rattle.std.proofs.Common.{◌≡◌, ◌⊎◌, inl, inr, ℕ, ◌+◌, List, [], ◌∷◌, ◌++◌, Option, Some, None, Result, Ok, Err, Bool, true, false, refl, sym, subst, ap, ◌∙◌, if◌then◌else◌, ◌==◌, ◌&&◌, arith, eqb, append-nil}
use Rattle.std.proofs.lemmas.Bool.{and_from, and_parts, eqb-true, or_left, or_right}
use Rattle.std.proofs.lemmas.List.{append_assoc}
use Rattle.gx_lemmas.proofs.Numbers.{eqb-self}
use Rattle.gx_ids.specs.declared.ids.Cid.{Cid}
use Rattle.gx_ids.specs.declared.ids.Gxid.{Gxid}
use Rattle.gx_ids.specs.declared.ids.Node.{Node}
use Rattle.gx_ids.specs.declared.ids.SessionId.{SessionId}
use Rattle.gx_ids.specs.declared.ids.Table.{Table}
use Rattle.gx_modes.specs.declared.modes.Mode.{Mode}
use Rattle.gx_tree.specs.declared.expr.Expr.{Expr}
use Rattle.gx_tree.specs.declared.part.Part.{Part as QueryPart}
use Rattle.gx_tree.specs.declared.stmt.Level.{Level}
use Rattle.gx_tree.specs.declared.stmt.Level.TheVariants.{ReadCommitted}
use Rattle.gx_tree.specs.declared.stmt.Stmt.{Stmt}
use Rattle.gx_tree.specs.declared.stmt.Stmt.TheVariants as stmt
use Rattle.gx_dsnap.specs.declared.snapshot.Snapshot.{Snapshot}
use Rattle.gx_dtx.specs.Nodes.{has, without}
use Rattle.gx_dtx.specs.Rules.{Turn, on_abort, on_commit, on_reply}
use Rattle.gx_dtx.specs.Table.{horizon_of}
use Rattle.gx_dtx.specs.declared.outcome.Outcome.{Outcome}
use Rattle.gx_dtx.specs.declared.outcome.Outcome.TheVariants as outcome
use Rattle.gx_meaning.specs.declared.fault.ArithFault.{ArithFault}
use Rattle.gx_msg.specs.declared.message.Envelope.{Envelope}
use Rattle.gx_msg.specs.declared.message.Message.{Message}
use Rattle.gx_msg.specs.declared.message.Message.TheVariants as message
use Rattle.gx_msg.specs.declared.message.Out.{Out}
use Rattle.gx_msg.specs.declared.reply.Cause.{Cause}
use Rattle.gx_msg.specs.declared.reply.Reply.{Reply}
use Rattle.gx_msg.specs.declared.reply.Reply.TheVariants as reply
use Rattle.gx_meaning.specs.Plan.{plan_of}
use Rattle.gx_meaning.specs.declared.piece.Piece.{Piece}
use Rattle.gx_script.specs.declared.Script.{Script}
use Rattle.gx_script.specs.Session.{after_line, idle_outside, line_step}
use Rattle.gx_script.specs.declared.line_step.LineStep.{LineStep}
use Rattle.gx_script.specs.declared.line_step.LineStep.TheVariants as step
use Rattle.gx_script.specs.declared.line_step.Plain.{Plain}
use Rattle.gx_script.specs.declared.line_step.Plain.TheVariants as plain
use Rattle.gx_script.specs.declared.state.Block.{Block}
use Rattle.gx_script.specs.declared.state.Block.TheVariants.{Failed, Open, Outside}
use Rattle.gx_script.specs.declared.state.Pending.{Pending}
use Rattle.gx_script.specs.declared.state.Pending.TheVariants as pending
use Rattle.gx_store.specs.declared.answer.Refused.{Refused}
use Rattle.gx_store.specs.declared.answer.Refused.TheVariants.{Victim}
use Rattle.gx_store.specs.declared.answer.StmtAnswer.{StmtAnswer}
use Rattle.gx_store.specs.declared.answer.StmtAnswer.TheVariants as told
use Rattle.gx_store.specs.declared.mark.Mark.{Mark}
use Rattle.gx_store.specs.declared.mark.Mark.TheVariants as mark
use Rattle.gx_store.specs.declared.node.NodeEvent.{NodeEvent}
use Rattle.gx_store.specs.declared.node.NodeEvent.TheVariants as event
use Rattle.gx_store.specs.Marks.{has_snapshot, is_snapped}
use Rattle.gx_store.specs.Refusals.{the_coordinator}
use Rattle.gx_store.specs.Writes.{dist_of}
use Rattle.gx_rules.specs.AtCoordinator.{Reading, answer_at_commit, answer_mark, answer_of_command, answers, answers_at_once, awaited, awaited_collect, begins, behind, cancels, command_answer, commits, completes, coord_can, dispatches, ends_in, failure_marks, fault_mark, follows, goes, goes_on, goes_out, is_awaited, is_committed, is_idle, is_nothing, is_refused, kept_at, next_cid, next_line, nodes_in, on_answer, on_done, on_event, on_failed, on_line, on_message, on_status, orders_of, plain_answer_of, reads_by, reads_for, reason_of, refusal_of, resends, rolls_back, starts, starts_line, table_of, takes_done, takes_snapshot, with_done, writers_with, goes_on_locked, if_granted, requests, resumes, waits_for}
use Rattle.gx_store.specs.Locks.{table_lock}
use Rattle.gx_rules.specs.Coordinators.{Command, Coord, CoordTurn, Session, Work, new_work, no_work, rests, session_of, with_state, with_work, work_of}
use Rattle.gx_rules.specs.Fits.{fits_part}
use Rattle.gx_rules.specs.Maps.{with_at}
use Rattle.gx_rules.specs.Snapshots.{snapshot_of}
use Rattle.gx_rules.proofs.Rounds.{cancel-ways, graph-ways}
use Rattle.gx_law_order.proofs.Lines.{Asks, asks}
use Rattle.gx_law_order.proofs.Lists.{each_append}
use Rattle.gx_law_order.specs.Lists.{Each}
use Rattle.gx_law_order.specs.Sessions.{Kept, is_nothing_in, is_open_in}
use Rattle.gx_law_order.specs.Stages.{stage, stage_of}
use Rattle.gx_law_order.specs.Stages.Stage.{Closing, Live as LiveStage}
use Rattle.gx_law_order.proofs.Statuses.{Moves, Turned, reply-turns}
use Rattle.gx_law_order.specs.Standings.{gx}
use Rattle.gx_rules.specs.Locks.{with_hold, hold_mark, release_marks}
use Rattle.gx_locks.specs.Locks.{Locks, resumed, wait_of}
use Rattle.gx_waits.specs.Claims.{is_clear}
use Rattle.gx_waits.specs.declared.claim.Claim.{Claim}
use Rattle.gx_law_order.proofs.Releases.{each-released}
use Rattle.gx_law_order.proofs.Waiting.{GoesOut}

-- a mark that starts and answers nothing
abbrev pub Still : Mark → Type 0
Still (mark.Start g s) = ⊥
Still (mark.Answer s n a) = ⊥
Still _ = Unit {0}

module _ (script : Script) (c : Coord) (x : NodeEvent) where
  -- the event is the segment's answer to the command, which is awaited
  pub record IsDoneBy (g : ℕ) (m : Command) (i : Node) (count : ℕ) : Type 0 where
    pub envelope : Envelope
    pub is : x ≡ event.Deliver i envelope
    pub cid : Cid
    pub wrote : Bool
    pub part : QueryPart
    pub told : envelope.message ≡ message.Answer (gx g) (reply.Done cid wrote count part)
    pub number : m.cid.0 ≡ cid.0
    pub awaited : has i m.awaited ≡ true

  pub record Took (g : ℕ) (old new : Work) : Type 0 where
    pub m : Command
    pub i : Node
    pub count : ℕ
    pub part : QueryPart
    pub has_it : old.command ≡ Some m
    pub now : new.command ≡ Some (with_done m i count part)
    pub by : IsDoneBy g m i count
    pub level : new.level ≡ old.level

  -- a command goes out, by a snapshot that is taken or was
  pub record New (g : ℕ) (ns : List Mark) (old new : Work) : Type 0 where
    pub line : Stmt
    pub cid : Cid
    pub pieces : List Piece
    pub orders : List Out
    pub now : new.command ≡ Some (record { stmt = line; cid = cid; orders = orders; awaited = nodes_in pieces; count = 0; parts = [] })
    pub plan : plan_of script.segments (dist_of script.tables (table_of line)) (gx g) cid line ≡ Ok pieces
    pub read : (t : Table) (tuples : List (List Expr)) → line ≡ stmt.Insert t tuples → ((has_snapshot ns (gx g) ≡ true) × (is_snapped ns (gx g) cid ≡ true)) ⊎ ((stage_of c g ≡ LiveStage) × ((y : Snapshot) × (old.snapshot ≡ Some y)) × (new.level ≡ old.level))

  abbrev pub Goes : ℕ → List Mark → Work → Work → Type 0
  Goes g ns old new = ((new.command ≡ old.command) × (new.level ≡ old.level)) ⊎ (new.command ≡ None) ⊎ Took g old new ⊎ New g ns old new

  -- a command that is answered: nothing of it is awaited any more
  pub record Completes (s : SessionId) (a : StmtAnswer) : Type 0 where
    pub g : ℕ
    pub home : (c.works g).session ≡ s
    pub from : Node
    pub envelope : Envelope
    pub heard : x ≡ event.Deliver from envelope
    pub m : Command
    pub says : command_answer m m.stmt ≡ a
    pub all : m.awaited ≡ []
    pub how : (((c.works g).command ≡ Some m) × (stage_of c g ≡ Closing) × ((session_of c s).state.pending ≡ pending.Command)) ⊎ ((k : Command) × (i : Node) × (count : ℕ) × (part : QueryPart) × ((c.works g).command ≡ Some k) × (m ≡ with_done k i count part) × IsDoneBy g k i count)

  abbrev pub AnswerOk : List Mark → SessionId → StmtAnswer → Type 0
  AnswerOk earlier s told.Begin = Unit {0}
  AnswerOk earlier s told.Commit = Unit {0}
  AnswerOk earlier s told.Rollback = Unit {0}
  AnswerOk earlier s (told.Refused reason) = Unit {0}
  AnswerOk earlier s a = Completes s a × Each Still earlier

  -- constants fault where their command goes out: its line starts, or it has waited
  abbrev pub IsGoingOut : NodeEvent → Type 0
  IsGoingOut (event.Start s) = Unit {0}
  IsGoingOut (event.Resume g) = Unit {0}
  IsGoingOut _ = ⊥

  abbrev pub AnswerAt : List Mark → Mark → Type 0
  AnswerAt earlier (mark.Answer s n a) = AnswerOk earlier s a
  AnswerAt earlier (mark.Fault g d r i) = IsGoingOut x
  AnswerAt earlier m = Unit {0}

  abbrev pub AnswersOk : List Mark → List Mark → Type 0
  AnswersOk earlier [] = Unit {0}
  AnswersOk earlier (m ∷ ns) = AnswerAt earlier m × AnswersOk (earlier ++ m ∷ []) ns

  abbrev NoAnswer : Mark → Type 0
  NoAnswer (mark.Answer s n a) = ⊥
  NoAnswer (mark.Fault g d r i) = IsGoingOut x
  NoAnswer _ = Unit {0}

  none-one : (earlier : List Mark) (m : Mark) → NoAnswer m → AnswerAt earlier m
  none-one earlier (mark.Answer s n a) e = absurd e
  none-one earlier (mark.Fault g d r i) e = e
  none-one earlier m e = tt

  none-ok : (earlier ns : List Mark) → Each NoAnswer ns → AnswersOk earlier ns
  none-ok earlier [] e = tt
  none-ok earlier (m ∷ ns) e = (none-one earlier m e.0, none-ok (earlier ++ m ∷ []) ns e.1)

  ok-append : (earlier xs ys : List Mark) → AnswersOk earlier xs → AnswersOk (earlier ++ xs) ys → AnswersOk earlier (xs ++ ys)
  ok-append earlier [] ys e f = subst (λ b. AnswersOk b ys) (append-nil earlier) f
  ok-append earlier (m ∷ xs) ys e f = (e.0, ok-append (earlier ++ m ∷ []) xs ys e.1 (subst (λ b. AnswersOk b ys) (sym (append_assoc earlier (m ∷ []) xs)) f))

  -- locks that are given back
  back-none : (locks : Locks) (g : Gxid) → Each NoAnswer (release_marks the_coordinator locks g)
  back-none locks g = each-released NoAnswer the_coordinator locks g (λ claim. tt)

  pub record Walk (earlier : List Mark) (turn : CoordTurn) : Type 0 where
    pub works : (h : ℕ) → Goes h (earlier ++ turn.marks) (c.works h) (turn.coord.works h)
    pub answers : AnswersOk earlier turn.marks

  one-goes : (works : ℕ → Work) (ns : List Mark) (g : ℕ) → ((h : ℕ) → eqb h g ≡ false → works h ≡ c.works h) → Goes g ns (c.works g) (works g) → (h : ℕ) → Goes h ns (c.works h) (works h)
  one-goes works ns g others here h = by_test (eqb h g) refl
    where
      by_test : (b : Bool) → eqb h g ≡ b → Goes h ns (c.works h) (works h)
      by_test true q = subst (λ j. Goes j ns (c.works j) (works j)) (sym (eqb-true h g q)) here
      by_test false q = inl (ap (λ (w : Work). w.command) (others h q), ap (λ (w : Work). w.level) (others h q))

  rest-walk : Walk [] (rests c)
  rest-walk = record { works = λ h. inl (refl, refl); answers = tt }

  -- the answer to a command that succeeded
  abbrev is_success : StmtAnswer → Bool
  is_success told.Begin = false
  is_success told.Commit = false
  is_success told.Rollback = false
  is_success (told.Refused reason) = false
  is_success a = true

  -- the transaction's work is as before, but for its statement that waits, or new
  pub record AsBefore (c1 : Coord) (g : ℕ) : Type 0 where
    pub live : stage_of c g ≡ LiveStage
    pub command : (c1.works g).command ≡ (c.works g).command
    pub level : (c1.works g).level ≡ (c.works g).level
    pub snapshot : (c1.works g).snapshot ≡ (c.works g).snapshot

  pub record IsNew (c1 : Coord) (g : ℕ) : Type 0 where
    pub command : (c1.works g).command ≡ None
    pub snapshot : (c1.works g).snapshot ≡ None

  abbrev Base : Coord → ℕ → Type 0
  Base c1 g = AsBefore c1 g ⊎ IsNew c1 g

  -- TURNS of a coordinator on the way, whose works but one are as before
  module _ (c1 : Coord) (g : ℕ) (others : (h : ℕ) → eqb h g ≡ false → c1.works h ≡ c.works h) (earlier : List Mark) where
    with-others : (w : Work) (h : ℕ) → eqb h g ≡ false → with_at c1.works g w h ≡ c.works h
    with-others w h e = ap (λ b. if b then w else c1.works h) e ∙ others h e

    with-here : (w : Work) → with_at c1.works g w g ≡ w
    with-here w = ap (λ b. if b then w else c1.works g) (eqb-self g)

    -- an answer to a command
    by-answer : (before : List Mark) (s : SessionId) (a : StmtAnswer) → (is_success a ≡ true → Completes s a × Each Still before) → AnswerOk before s a
    by-answer before s (told.Inserted n) f = f refl
    by-answer before s told.Begin f = tt
    by-answer before s told.Commit f = tt
    by-answer before s told.Rollback f = tt
    by-answer before s told.Locked f = f refl
    by-answer before s (told.Updated n) f = f refl
    by-answer before s (told.Deleted n) f = f refl
    by-answer before s (told.Rows rows) f = f refl
    by-answer before s (told.Refused r) f = tt

    at-commit : (before : List Mark) (s : SessionId) (w : Work) (p : Pending) → (p ≡ pending.Command → is_success (answer_of_command w.command) ≡ true → Completes s (answer_of_command w.command) × Each Still before) → AnswerOk before s (answer_at_commit w p)
    at-commit before s w pending.Command f = by-answer before s (answer_of_command w.command) (f refl)
    at-commit before s w pending.Nothing f = tt
    at-commit before s w pending.Commit f = tt

    closed-walk : (turn : Turn) → AnswerOk (earlier ++ mark.Commit (gx g) ∷ []) (work_of c1 (gx g)).session (answer_at_commit (work_of c1 (gx g)) (session_of c1 (work_of c1 (gx g)).session).state.pending) → Walk earlier (is_committed c1 (gx g) turn)
    closed-walk turn ok =
        record {
          works = one-goes _ (earlier ++ (is_committed c1 (gx g) turn).marks) g (with-others no_work) (inr (inl (ap (λ (w : Work). w.command) (with-here no_work))));
          answers = (tt, (ok, none-ok _ _ (back-none c1.locks (gx g))));
        }

    refused-walk : (turn : Turn) (why : List Mark) (reason : Refused) → Each NoAnswer why → Walk earlier (is_refused c1 (gx g) turn why reason)
    refused-walk turn why reason n =
        record {
          works = one-goes _ (earlier ++ (is_refused c1 (gx g) turn why reason).marks) g (with-others no_work) (inr (inl (ap (λ (w : Work). w.command) (with-here no_work))));
          answers = ok-append earlier why _ (none-ok earlier why n) (tt, (tt, none-ok _ _ (back-none c1.locks (gx g))));
        }

    rolled-walk : (turn : Turn) (marks : List Mark) → AnswersOk (earlier ++ mark.Abort (gx g) ∷ []) marks → Walk earlier (rolls_back c1 (gx g) marks turn)
    rolled-walk turn marks ok =
        record { works = one-goes _ (earlier ++ (rolls_back c1 (gx g) marks turn).marks) g (with-others no_work) (inr (inl (ap (λ (w : Work). w.command) (with-here no_work)))); answers = (tt, ok-append (earlier ++ mark.Abort (gx g) ∷ []) marks _ ok (none-ok _ _ (back-none c1.locks (gx g)))) }

    answered-walk : AnswerOk earlier (work_of c1 (gx g)).session (answer_of_command (work_of c1 (gx g)).command) → Walk earlier (answers c1 (gx g) (work_of c1 (gx g)))
    answered-walk ok =
        record {
          works = one-goes _ (earlier ++ (answers c1 (gx g) (work_of c1 (gx g))).marks) g (with-others (record (work_of c1 (gx g)) { command = None })) (inr (inl (ap (λ (w : Work). w.command) (with-here (record (work_of c1 (gx g)) { command = None })))));
          answers = (ok, tt);
        }

    -- the works as they stand on the way
    rests-walk : (table : Rattle.gx_dtx.specs.Table.Table) (outs : List Out) (ns : List Mark) → Each NoAnswer ns → Goes g (earlier ++ ns) (c.works g) (c1.works g) → Walk earlier (record { coord = record c1 { table = table }; marks = ns; outs = outs; item = None })
    rests-walk table outs ns n here = record { works = one-goes c1.works (earlier ++ ns) g others here; answers = none-ok earlier ns n }

    failure-none : (i : Node) (h : Gxid) → Each NoAnswer (failure_marks i h)
    failure-none i h = by_test (i.0 == 0)
      where
        by_test : (b : Bool) → Each NoAnswer (if b then mark.JournalFailed the_coordinator h ∷ [] else [])
        by_test true = (tt, tt)
        by_test false = tt

    -- a call, whatever it comes to
    follows-walk : (turn : Turn) (o : Outcome) → ((ns : List Mark) → Goes g ns (c.works g) (c1.works g)) → (turn.out.outcome ≡ o → o ≡ outcome.Committed → AnswerOk (earlier ++ mark.Commit (gx g) ∷ []) (work_of c1 (gx g)).session (answer_at_commit (work_of c1 (gx g)) (session_of c1 (work_of c1 (gx g)).session).state.pending)) → turn.out.outcome ≡ o → Walk earlier (follows c1 (gx g) turn o)
    follows-walk turn outcome.Pending here ok e = rests-walk turn.table turn.out.outs [] tt (here _)
    follows-walk turn outcome.Decided here ok e = rests-walk turn.table turn.out.outs (mark.Decided (gx g) ∷ []) (tt, tt) (here _)
    follows-walk turn outcome.Committed here ok e = closed-walk turn (ok e refl)
    follows-walk turn (outcome.Refused i) here ok e = refused-walk turn (failure_marks i (gx g)) _ (failure-none i (gx g))
    follows-walk turn outcome.Ended here ok e = rests-walk turn.table turn.out.outs [] tt (here _)

    -- COMMANDS THAT GO OUT
    pub record Reads (cid : Cid) (line : Stmt) (r : Reading) : Type 0 where
      pub works : (h : ℕ) → eqb h g ≡ false → r.coord.works h ≡ c.works h
      pub level : (r.coord.works g).level ≡ (c1.works g).level
      pub marks : Each NoAnswer r.marks
      pub read : (t : Table) (tuples : List (List Expr)) → line ≡ stmt.Insert t tuples → ((has_snapshot r.marks (gx g) ≡ true) × (is_snapped r.marks (gx g) cid ≡ true)) ⊎ ((y : Snapshot) × ((c1.works g).snapshot ≡ Some y))

    reads-new : (cid : Cid) (line : Stmt) → Reads cid line (takes_snapshot c1 (gx g) cid (c1.works g))
    reads-new cid line =
        record {
          works = λ h e. with-others _ h e;
          level = ap (λ (w : Work). w.level) (with-here (record (c1.works g) { snapshot = kept_at (c1.works g).level (snapshot_of c1.table) }));
          marks = (tt, tt);
          read = λ t tuples e. inl (or_left _ _ (eqb-self g), or_left _ _ (and_from _ _ (eqb-self g) (eqb-self cid.0)));
        }

    reads-old : (cid : Cid) (line : Stmt) (o : Option Snapshot) → (c1.works g).snapshot ≡ o → Reads cid line (reads_by c1 (gx g) cid (c1.works g) o)
    reads-old cid line None e = reads-new cid line
    reads-old cid line (Some y) e = record { works = others; level = refl; marks = tt; read = λ t tuples f. inr (y, e) }

    reads-lock : (cid : Cid) (t : Table) (m : Mode) → Reads cid (stmt.Lock t m) (record { coord = c1; snapshot = None; marks = [] })
    reads-lock cid t m = record { works = others; level = refl; marks = tt; read = λ u tuples e. absurd (differ u tuples e) }
      where
        differ : (u : Table) (tuples : List (List Expr)) → stmt.Lock t m ≡ stmt.Insert u tuples → ⊥
        differ u tuples e = cc

    reads : (cid : Cid) (line : Stmt) → Reads cid line (reads_for c1 (gx g) cid (c1.works g) line)
    reads cid (stmt.Lock t m) = reads-lock cid t m
    reads cid (stmt.Begin level) = reads-old cid _ (c1.works g).snapshot refl
    reads cid stmt.Commit = reads-old cid _ (c1.works g).snapshot refl
    reads cid stmt.Rollback = reads-old cid _ (c1.works g).snapshot refl
    reads cid (stmt.Select q) = reads-old cid _ (c1.works g).snapshot refl
    reads cid (stmt.Insert t v) = reads-old cid _ (c1.works g).snapshot refl
    reads cid (stmt.Update t a v) = reads-old cid _ (c1.works g).snapshot refl
    reads cid (stmt.Delete t v) = reads-old cid _ (c1.works g).snapshot refl

    fault-none : IsGoingOut x → (h : Gxid) (cid : Cid) (line : Stmt) → Each NoAnswer (fault_mark h cid line)
    fault-none it h cid (stmt.Insert t v) = (it, tt)
    fault-none it h cid (stmt.Begin level) = tt
    fault-none it h cid stmt.Commit = tt
    fault-none it h cid stmt.Rollback = tt
    fault-none it h cid (stmt.Select q) = tt
    fault-none it h cid (stmt.Update t a v) = tt
    fault-none it h cid (stmt.Delete t v) = tt
    fault-none it h cid (stmt.Lock t m) = tt

    has-more : (ns ms : List Mark) (g : Gxid) → has_snapshot ms g ≡ true → has_snapshot (ns ++ ms) g ≡ true
    has-more ns ms g e = Rattle.gx_store.proofs.Marks.has_snapshot-append ns ms g ∙ or_right (has_snapshot ns g) (has_snapshot ms g) e

    snapped-more : (ns ms : List Mark) (g : Gxid) (cid : Cid) → is_snapped ms g cid ≡ true → is_snapped (ns ++ ms) g cid ≡ true
    snapped-more ns ms g cid e = Rattle.gx_store.proofs.Marks.is_snapped-append ns ms g cid ∙ or_right (is_snapped ns g cid) (is_snapped ms g cid) e

    some-none : (y : Snapshot) → None ≡ Some y → ⊥
    some-none y e = cc

    goes-walk : IsGoingOut x → Base c1 g → (cid : Cid) (line : Stmt) (r : Reading) → Reads cid line r → (plan : Result (List Piece) ArithFault) → plan_of script.segments (dist_of script.tables (table_of line)) (gx g) cid line ≡ plan → Walk earlier (goes (gx g) cid line r plan)
    goes-walk it base cid line r f (Ok pieces) e =
        record {
          works = one-goes (goes_out (gx g) cid line pieces r).coord.works (earlier ++ r.marks) g (λ h q. ap (λ b. if b then after else r.coord.works h) q ∙ f.works h q) (inr (inr (inr new)));
          answers = none-ok earlier r.marks f.marks;
        }
      where
        after : Work
        after = record (r.coord.works g) { last = cid.0; command = Some (record { stmt = line; cid = cid; orders = orders_of (gx g) cid (r.coord.works g).level r.snapshot (horizon_of r.coord.table) pieces; awaited = nodes_in pieces; count = 0; parts = [] }) }

        here : (goes_out (gx g) cid line pieces r).coord.works g ≡ after
        here = ap (λ b. if b then after else r.coord.works g) (eqb-self g)

        by_read : Base c1 g → ((has_snapshot r.marks (gx g) ≡ true) × (is_snapped r.marks (gx g) cid ≡ true)) ⊎ ((y : Snapshot) × ((c1.works g).snapshot ≡ Some y)) → ((has_snapshot (earlier ++ r.marks) (gx g) ≡ true) × (is_snapped (earlier ++ r.marks) (gx g) cid ≡ true)) ⊎ ((stage_of c g ≡ LiveStage) × ((y : Snapshot) × ((c.works g).snapshot ≡ Some y)) × (((goes_out (gx g) cid line pieces r).coord.works g).level ≡ (c.works g).level))
        by_read b (inl z) = inl (has-more earlier r.marks (gx g) z.0, snapped-more earlier r.marks (gx g) cid z.1)
        by_read (inl b) (inr z) = inr (b.live, (z.0, sym b.snapshot ∙ z.1), ap (λ (w : Work). w.level) here ∙ f.level ∙ b.level)
        by_read (inr b) (inr z) = absurd (some-none z.0 (sym b.snapshot ∙ z.1))

        new : New g (earlier ++ r.marks) (c.works g) ((goes_out (gx g) cid line pieces r).coord.works g)
        new =
            record {
              line = line;
              cid = cid;
              pieces = pieces;
              orders = orders_of (gx g) cid (r.coord.works g).level r.snapshot (horizon_of r.coord.table) pieces;
              now = ap (λ (w : Work). w.command) here;
              plan = e;
              read = λ t tuples q. by_read base (f.read t tuples q);
            }
    goes-walk it base cid line r f (Err fault) e =
        let y = refused-walk-at r.coord f.works (on_abort r.coord.table (gx g)) (r.marks ++ fault_mark (gx g) cid line) (refusal_of fault) (each_append NoAnswer r.marks (fault_mark (gx g) cid line) f.marks (fault-none it (gx g) cid line)) in
        record { works = y.works; answers = y.answers }
      where
        refused-walk-at : (d : Coord) → ((h : ℕ) → eqb h g ≡ false → d.works h ≡ c.works h) → (turn : Turn) (why : List Mark) (reason : Refused) → Each NoAnswer why → Walk earlier (is_refused d (gx g) turn why reason)
        refused-walk-at d away turn why reason n =
            record {
              works = one-goes _ (earlier ++ (is_refused d (gx g) turn why reason).marks) g (λ h q. ap (λ b. if b then no_work else d.works h) q ∙ away h q) (inr (inl (ap (λ (w : Work). w.command) (ap (λ b. if b then no_work else d.works g) (eqb-self g)))));
              answers = ok-append earlier why _ (none-ok earlier why n) (tt, (tt, none-ok _ _ (back-none d.locks (gx g))));
            }

    pub locked-walk : IsGoingOut x → Base c1 g → (line : Stmt) → Walk earlier (goes_on_locked script c1 (gx g) line)
    locked-walk it base line = goes-walk it base (next_cid (c1.works g)) line _ (reads (next_cid (c1.works g)) line) (plan_of script.segments (dist_of script.tables (table_of line)) (gx g) (next_cid (c1.works g)) line) refl

  -- WITH ITS TABLE'S LOCK, OR WAITING FOR IT
  module _ (c1 : Coord) (g : ℕ) (others : (h : ℕ) → eqb h g ≡ false → c1.works h ≡ c.works h) (earlier : List Mark) (it : IsGoingOut x) (base : Base c1 g) (line : Stmt) where
    pub held-walk : (locks : Locks) (wanted : Claim) → Walk earlier (behind (hold_mark the_coordinator wanted ∷ []) (goes_on_locked script (record c1 { locks = locks }) (gx g) line))
    held-walk locks wanted =
        let y = locked-walk (record c1 { locks = locks }) g others (earlier ++ hold_mark the_coordinator wanted ∷ []) it (base-held base) line in
        record {
          works = λ h. subst (λ ms. Goes h ms (c.works h) ((goes_on_locked script (record c1 { locks = locks }) (gx g) line).coord.works h)) (append_assoc earlier (hold_mark the_coordinator wanted ∷ []) (goes_on_locked script (record c1 { locks = locks }) (gx g) line).marks) (y.works h);
          answers = (tt, y.answers);
        }
      where
        base-held : Base c1 g → Base (record c1 { locks = locks }) g
        base-held (inl b) = inl (record { live = b.live; command = b.command; level = b.level; snapshot = b.snapshot })
        base-held (inr b) = inr (record { command = b.command; snapshot = b.snapshot })

    waits-walk : (wanted : Claim) → Walk earlier (waits_for c1 (gx g) line wanted)
    waits-walk wanted =
        record {
          works = one-goes _ (earlier ++ (waits_for c1 (gx g) line wanted).marks) g (with-others c1 g others earlier waits) (here base);
          answers = (tt, tt);
        }
      where
        waits : Work
        waits = record (c1.works g) { waiting = Some line }

        now : (waits_for c1 (gx g) line wanted).coord.works g ≡ waits
        now = with-here c1 g others earlier waits

        here : Base c1 g → Goes g (earlier ++ (waits_for c1 (gx g) line wanted).marks) (c.works g) ((waits_for c1 (gx g) line wanted).coord.works g)
        here (inl b) = inl (ap (λ (w : Work). w.command) now ∙ b.command, ap (λ (w : Work). w.level) now ∙ b.level)
        here (inr b) = inr (inl (ap (λ (w : Work). w.command) now ∙ b.command))

    request-walk : (o : Option Claim) → Walk earlier (requests script c1 (gx g) line o)
    request-walk None = locked-walk c1 g others earlier it base line
    request-walk (Some wanted) = by_test (is_clear c1.locks.holds c1.locks.waits wanted)
      where
        by_test : (b : Bool) → Walk earlier (if_granted script c1 (gx g) line wanted b)
        by_test true = held-walk (with_hold c1.locks wanted) wanted
        by_test false = waits-walk wanted

    pub dispatch-walk : Walk earlier (dispatches script c1 (gx g) line)
    dispatch-walk = request-walk (table_lock script (gx g) line)

  -- A STATEMENT THAT HAS WAITED
  module _ (g : Gxid) (it : IsGoingOut x) (o : GoesOut script c g) where
    abbrev out : Work
    out = record (work_of c g) { waiting = None }

    abbrev unlocked : Coord
    unlocked = with_work c g out

    out-others : (h : ℕ) → eqb h g.0 ≡ false → unlocked.works h ≡ c.works h
    out-others h e = ap (λ b. if b then out else c.works h) e

    out-here : unlocked.works g.0 ≡ out
    out-here = ap (λ b. if b then out else c.works g.0) (eqb-self g.0)

    out-base : Base unlocked g.0
    out-base = inl (record { live = o.live; command = ap (λ (w : Work). w.command) out-here; level = ap (λ (w : Work). w.level) out-here; snapshot = ap (λ (w : Work). w.snapshot) out-here })

    pub resume-walk : Walk [] (resumes script c g (wait_of c.locks g) (work_of c g).waiting)
    resume-walk =
        subst (λ q. Walk [] (resumes script c g q (work_of c g).waiting)) (sym o.claims)
        (subst (λ q. Walk [] (resumes script c g (Some o.wanted) q)) (sym o.is) (held-walk unlocked g.0 out-others [] it out-base o.line (resumed c.locks g (Some o.wanted)) o.wanted))

  -- ANSWERS OF SEGMENTS
  module _ (k : Kept script c) where
    same-others : (g : ℕ) (h : ℕ) → eqb h g ≡ false → c.works h ≡ c.works h
    same-others g h e = refl

    module _ (g : ℕ) (m : Command) (has_it : (c.works g).command ≡ Some m) (i : Node) (wrote : Bool) (count : ℕ) (part : QueryPart) (by : IsDoneBy g m i count) where
      abbrev done : Command
      done = with_done m i count part

      abbrev w1 : Work
      w1 = record (c.works g) { writers = writers_with wrote i (c.works g).writers; command = Some (with_done m i count part) }

      abbrev c1 : Coord
      c1 = with_work c (gx g) w1

      others1 : (h : ℕ) → eqb h g ≡ false → c1.works h ≡ c.works h
      others1 h e = ap (λ b. if b then w1 else c.works h) e

      work-now : c1.works g ≡ w1
      work-now = ap (λ q. if q then w1 else c.works g) (eqb-self g)

      took : (ns : List Mark) → Goes g ns (c.works g) (c1.works g)
      took ns = inr (inr (inl (record { m = m; i = i; count = count; part = part; has_it = has_it; now = ap (λ (w : Work). w.command) work-now; by = by; level = ap (λ (w : Work). w.level) work-now })))

      completes-it : without i m.awaited ≡ [] → (before : List Mark) → Each Still before → Completes (c1.works g).session (answer_of_command (c1.works g).command) × Each Still before
      completes-it e before still = (
        record {
          g = g;
          home = ap (λ (w : Work). w.session) (sym work-now);
          from = i;
          envelope = by.envelope;
          heard = by.is;
          m = with_done m i count part;
          says = ap (λ (w : Work). answer_of_command w.command) (sym work-now);
          all = e;
          how = inr (m, i, count, part, has_it, refl, by);
        },
        still,
      )

      commit-walk : without i m.awaited ≡ [] → Walk [] (commits c1 (gx g))
      commit-walk e = follows-walk c1 g others1 [] (on_commit c1.table (gx g) (work_of c1 (gx g)).writers) _ took (λ q r. at-commit c1 g others1 [] (mark.Commit (gx g) ∷ []) (c1.works g).session (c1.works g) _ (λ p a. completes-it e (mark.Commit (gx g) ∷ []) (tt, tt))) refl

      inside-walk : without i m.awaited ≡ [] → Walk [] (answers c1 (gx g) (work_of c1 (gx g)))
      inside-walk e = answered-walk c1 g others1 [] (by-answer c1 g others1 [] [] (c1.works g).session (answer_of_command (c1.works g).command) (λ a. completes-it e [] tt))

      complete-walk : (b : Block) → without i m.awaited ≡ [] → Walk [] (completes c1 (gx g) b)
      complete-walk Outside e = commit-walk e
      complete-walk (Open level) e = inside-walk e
      complete-walk Failed e = inside-walk e

      on-walk : (left : List Node) → without i m.awaited ≡ left → Walk [] (goes_on c1 (gx g) left)
      on-walk [] e = complete-walk _ e
      on-walk (y ∷ ys) e = rests-walk c1 g others1 [] c1.table [] [] tt (took [])

      done-walk : Walk [] (takes_done c (gx g) i wrote count part m)
      done-walk = on-walk (without i m.awaited) refl

    on-done-walk : (g : ℕ) (i : Node) (cid : Cid) (wrote : Bool) (count : ℕ) (part : QueryPart) (envelope : Envelope) → x ≡ event.Deliver i envelope → envelope.message ≡ message.Answer (gx g) (reply.Done cid wrote count part) → (m : Option Command) → (c.works g).command ≡ m → Walk [] (on_done c (gx g) i cid wrote count part m)
    on-done-walk g i cid wrote count part envelope is told None e = rest-walk
    on-done-walk g i cid wrote count part envelope is told (Some m) e = by_test (is_awaited m i cid && fits_part m.stmt part) refl
      where
        by_test : (b : Bool) → (is_awaited m i cid && fits_part m.stmt part) ≡ b → Walk [] (if b then takes_done c (gx g) i wrote count part m else rests c)
        by_test true f =
            let y = and_parts _ _ (and_parts _ _ f).0 in
            done-walk g m e i wrote count part (record { envelope = envelope; is = is; cid = cid; wrote = wrote; part = part; told = told; number = eqb-true m.cid.0 cid.0 y.0; awaited = y.1 })
        by_test false f = rest-walk

    on-failed-walk : (g : ℕ) (i : Node) (cid : Cid) (cause : Cause) (m : Option Command) → Walk [] (on_failed c (gx g) i cid cause m)
    on-failed-walk g i cid cause None = rest-walk
    on-failed-walk g i cid cause (Some m) = by_test (is_awaited m i cid)
      where
        by_test : (b : Bool) → Walk [] (if b then is_refused c (gx g) (on_abort c.table (gx g)) [] (reason_of cause) else rests c)
        by_test true = refused-walk c g (same-others g) [] (on_abort c.table (gx g)) [] (reason_of cause) tt
        by_test false = rest-walk

    -- a transaction that is on its way to a commit awaits no answer to a command
    none-awaited : (g : ℕ) (m : Command) → (c.works g).command ≡ Some m → stage_of c g ≡ Closing → m.awaited ≡ []
    none-awaited g m e closing = by_list m.awaited refl
      where
        differ : Closing ≡ LiveStage → ⊥
        differ z = cc

        some-one : (y : Node) (ys : List Node) → m.awaited ≡ y ∷ ys → m.awaited ≡ [] → ⊥
        some-one y ys p q = cc

        by_list : (ys : List Node) → m.awaited ≡ ys → m.awaited ≡ []
        by_list [] p = p
        by_list (y ∷ ys) p = absurd (differ (sym closing ∙ ((k.tied g).awaits m e (some-one y ys p)).0))

    status-ok : (g : ℕ) (i : Node) (envelope : Envelope) → x ≡ event.Deliver i envelope → stage_of c g ≡ Closing → AnswerOk (mark.Commit (gx g) ∷ []) (c.works g).session (answer_at_commit (c.works g) (session_of c (c.works g).session).state.pending)
    status-ok g i envelope is closing = at-commit c g (same-others g) [] (mark.Commit (gx g) ∷ []) (c.works g).session (c.works g) (session_of c (c.works g).session).state.pending (λ p a. by_command (c.works g).command refl p a)
      where
        by_command : (o : Option Command) → (c.works g).command ≡ o → (session_of c (c.works g).session).state.pending ≡ pending.Command → is_success (answer_of_command o) ≡ true → Completes (c.works g).session (answer_of_command o) × Each Still (mark.Commit (gx g) ∷ [])
        by_command None e p a = absurd (cc)
        by_command (Some m) e p a = (record { g = g; home = refl; from = i; envelope = envelope; heard = is; m = m; says = refl; all = none-awaited g m e closing; how = inl (e, closing, p) }, (tt, tt))

    on-status-walk : (g : ℕ) (i : Node) (r : Reply) (fails : Bool) (envelope : Envelope) → x ≡ event.Deliver i envelope → Walk [] (on_status c (gx g) i r fails)
    on-status-walk g i r fails envelope is =
        let t : Turned c.table g (on_reply c.table (gx g) i r fails) Moves = reply-turns c.table g i r fails k.whole in
        let y : Walk [] (follows c (gx g) (on_reply c.table (gx g) i r fails) (on_reply c.table (gx g) i r fails).out.outcome) = follows-walk c g (same-others g) [] (on_reply c.table (gx g) i r fails) (on_reply c.table (gx g) i r fails).out.outcome (λ ns. inl (refl, refl)) (λ q z. status-ok g i envelope is (closing t z)) refl in
        record { works = y.works; answers = y.answers }
      where
        closing : (t : Turned c.table g (on_reply c.table (gx g) i r fails) Moves) → (on_reply c.table (gx g) i r fails).out.outcome ≡ outcome.Committed → stage_of c g ≡ Closing
        closing t z = (subst (Moves (stage_of c g) (stage t.now)) z t.how).0

    answer-walk : (g : ℕ) (i : Node) (fails : Bool) (r : Reply) (envelope : Envelope) → x ≡ event.Deliver i envelope → envelope.message ≡ message.Answer (gx g) r → Walk [] (on_answer c (gx g) i fails r)
    answer-walk g i fails (reply.Done cid wrote count part) envelope is told = on-done-walk g i cid wrote count part envelope is told (c.works g).command refl
    answer-walk g i fails (reply.Failed cid cause) envelope is told = on-failed-walk g i cid cause (c.works g).command
    answer-walk g i fails reply.Prepared envelope is told = on-status-walk g i reply.Prepared fails envelope is
    answer-walk g i fails reply.Committed envelope is told = on-status-walk g i reply.Committed fails envelope is
    answer-walk g i fails reply.Jfault envelope is told = on-status-walk g i reply.Jfault fails envelope is
    answer-walk g i fails reply.Again envelope is told = on-status-walk g i reply.Again fails envelope is
    answer-walk g i fails reply.Restarted envelope is told = on-status-walk g i reply.Restarted fails envelope is
    answer-walk g i fails reply.Aborted envelope is told = on-status-walk g i reply.Aborted fails envelope is
    answer-walk g i fails reply.Forgotten envelope is told = on-status-walk g i reply.Forgotten fails envelope is

    message-walk : (i : Node) (fails : Bool) (envelope : Envelope) → x ≡ event.Deliver i envelope → (m : Message) → envelope.message ≡ m → Walk [] (on_message c i fails m)
    message-walk i fails envelope is (message.Answer g r) told = answer-walk g.0 i fails r envelope is told
    message-walk i fails envelope is (message.Exec g cid level a h y) told = rest-walk
    message-walk i fails envelope is (message.Prepare g) told = rest-walk
    message-walk i fails envelope is (message.Commit g) told = rest-walk
    message-walk i fails envelope is (message.CommitPrepared g) told = rest-walk
    message-walk i fails envelope is (message.Abort g) told = rest-walk
    message-walk i fails envelope is (message.Forget g) told = rest-walk
    message-walk i fails envelope is (message.Collect round) told = rest-walk
    message-walk i fails envelope is (message.Graph round graph) told =
        graph-ways (Walk []) c i round graph rest-walk (λ noted. record { works = λ h. inl (refl, refl); answers = tt }) (λ noted all. record { works = λ h. inl (refl, refl); answers = (tt, tt) })
    message-walk i fails envelope is message.Up told = rest-walk

    again-walk : (i : Node) (o : Option Message) → Walk [] (resends c i o)
    again-walk i None = rest-walk
    again-walk i (Some m) = record { works = λ h. inl (refl, refl); answers = tt }

    -- LINES
    module _ (s : SessionId) (it : IsGoingOut x) (idle : is_nothing_in (session_of c s).state.pending ≡ true) where
      abbrev block : Block
      block = (session_of c s).state.block

      abbrev moved : LineStep → Session
      moved asked = record (session_of c s) { lines = (session_of c s).lines + 1; state = after_line block asked }

      transaction-now : (asked : LineStep) → (session_of (starts_line c s asked) s).transaction ≡ (session_of c s).transaction
      transaction-now asked = ap (λ q. (if q then moved asked else session_of c s).transaction) (eqb-self s.0)

      own-live : is_open_in block ≡ true → stage_of c (session_of c s).transaction.0 ≡ LiveStage
      own-live opened = (k.placed s.0).free opened idle

      commit-line : is_open_in block ≡ true → Walk [] (commits (starts_line c s step.CommitBlock) (session_of (starts_line c s step.CommitBlock) s).transaction)
      commit-line opened =
          subst (λ g. Walk [] (commits (starts_line c s step.CommitBlock) g)) (sym (transaction-now step.CommitBlock))
          (follows-walk d g (same-others g) [] (on_commit d.table (gx g) (work_of d (gx g)).writers) _ (λ ns. inl (refl, refl)) (λ q z. at-commit d g (same-others g) [] (mark.Commit (gx g) ∷ []) (c.works g).session (c.works g) (session_of d (c.works g).session).state.pending (λ p a. absurd (differ (sym commit-pending ∙ p)))) refl)
        where
          g : ℕ
          g = (session_of c s).transaction.0

          d : Coord
          d = starts_line c s step.CommitBlock

          home : (c.works (session_of c s).transaction.0).session.0 ≡ s.0
          home = ((k.placed s.0).stands opened).1

          commit-pending : (session_of (starts_line c s step.CommitBlock) (c.works (session_of c s).transaction.0).session).state.pending ≡ pending.Commit
          commit-pending = ap (λ j. (with_at c.sessions s.0 (moved step.CommitBlock) j).state.pending) home ∙ ap (λ q. (if q then moved step.CommitBlock else session_of c s).state.pending) (eqb-self s.0)

          differ : pending.Commit ≡ pending.Command → ⊥
          differ z = cc

      rollback-line : Walk [] (rolls_back (starts_line c s step.RollbackBlock) (session_of (starts_line c s step.RollbackBlock) s).transaction (answer_mark (starts_line c s step.RollbackBlock) s told.Rollback ∷ []) (on_abort c.table (session_of (starts_line c s step.RollbackBlock) s).transaction))
      rollback-line = rolled-walk (starts_line c s step.RollbackBlock) (session_of (starts_line c s step.RollbackBlock) s).transaction.0 (same-others _) [] (on_abort c.table (session_of (starts_line c s step.RollbackBlock) s).transaction) (answer_mark (starts_line c s step.RollbackBlock) s told.Rollback ∷ []) (tt, tt)

      inside-line : (line : Stmt) → is_open_in block ≡ true → Walk [] (dispatches script (starts_line c s (step.Command false)) (session_of (starts_line c s (step.Command false)) s).transaction line)
      inside-line line opened =
          subst (λ g. Walk [] (dispatches script (starts_line c s (step.Command false)) g line)) (sym (transaction-now (step.Command false)))
          (dispatch-walk (starts_line c s (step.Command false)) (session_of c s).transaction.0 (same-others (session_of c s).transaction.0) [] it (inl (record { live = own-live opened; command = refl; level = refl; snapshot = refl })) line)

      -- a new transaction
      begun-others : (asked : LineStep) (level : Level) (h : ℕ) → eqb h c.table.next.0 ≡ false → (begins (starts_line c s asked) s level).works h ≡ c.works h
      begun-others asked level h e = ap (λ b. if b then new_work s level else c.works h) e

      begun-here : (asked : LineStep) (level : Level) → (begins (starts_line c s asked) s level).works c.table.next.0 ≡ new_work s level
      begun-here asked level = ap (λ b. if b then new_work s level else c.works c.table.next.0) (eqb-self c.table.next.0)

      behind-walk : (turn : CoordTurn) → Walk (mark.Start c.table.next s ∷ []) turn → Walk [] (behind (mark.Start c.table.next s ∷ []) turn)
      behind-walk turn y = record { works = y.works; answers = (tt, y.answers) }

      begin-line : (level : Level) → Walk [] (behind (mark.Start c.table.next s ∷ []) (answers_at_once (begins (starts_line c s (step.BeginBlock level)) s level) s told.Begin))
      begin-line level =
          behind-walk (answers_at_once (begins (starts_line c s (step.BeginBlock level)) s level) s told.Begin)
          (record { works = one-goes (begins (starts_line c s (step.BeginBlock level)) s level).works _ c.table.next.0 (begun-others (step.BeginBlock level) level) (inr (inl (ap (λ (w : Work). w.command) (begun-here (step.BeginBlock level) level)))); answers = (tt, tt) })

      alone-line : (line : Stmt) → Walk [] (behind (mark.Start c.table.next s ∷ []) (dispatches script (begins (starts_line c s (step.Command true)) s ReadCommitted) c.table.next line))
      alone-line line =
          behind-walk _ (dispatch-walk (begins (starts_line c s (step.Command true)) s ReadCommitted) c.table.next.0 (begun-others (step.Command true) ReadCommitted) (mark.Start c.table.next s ∷ []) it (inr (record { command = ap (λ (w : Work). w.command) (begun-here (step.Command true) ReadCommitted); snapshot = ap (λ (w : Work). w.snapshot) (begun-here (step.Command true) ReadCommitted) })) line)

      plain-ok : (p : Plain) → AnswerOk [] s (plain_answer_of p)
      plain-ok plain.Begin = tt
      plain-ok plain.Commit = tt
      plain-ok plain.Rollback = tt

      at-once : (asked : LineStep) (a : StmtAnswer) → AnswerOk [] s a → Walk [] (answers_at_once (starts_line c s asked) s a)
      at-once asked a ok = record { works = λ h. inl (refl, refl); answers = (ok, tt) }

      line-walk : (line : Stmt) (asked : LineStep) → Asks block asked → Walk [] (on_line script (starts_line c s asked) s line asked)
      line-walk line (step.Answer p) a = at-once (step.Answer p) _ (plain-ok p)
      line-walk line step.InFailedBlock a = at-once step.InFailedBlock _ tt
      line-walk line step.NotInBlock a = at-once step.NotInBlock _ tt
      line-walk line (step.BeginBlock level) a = begin-line level
      line-walk line step.CommitBlock a = commit-line a
      line-walk line step.RollbackBlock a = rollback-line
      line-walk line (step.Command true) a = alone-line line
      line-walk line (step.Command false) a = inside-line line a

      start-walk : (o : Option Stmt) → Walk [] (starts script c s o)
      start-walk None = rest-walk
      start-walk (Some line) = line-walk line (line_step block line) (asks block line)

    end-walk : (s : SessionId) (b : Block) → Walk [] (ends_in c s b)
    end-walk s (Open level) = rolled-walk (with_state c s idle_outside) (session_of c s).transaction.0 (same-others _) [] (on_abort c.table (session_of c s).transaction) [] tt
    end-walk s Failed = record { works = λ h. inl (refl, refl); answers = tt }
    end-walk s Outside = rest-walk

    idle-first : (s : SessionId) (b : Bool) → (is_idle (session_of c s) && b) ≡ true → is_nothing_in (session_of c s).state.pending ≡ true
    idle-first s b e = by_pending (session_of c s).state.pending (and_parts _ _ e).0
      where
        by_pending : (q : Pending) → is_nothing q ≡ true → is_nothing_in q ≡ true
        by_pending q e = grind arith

    pub event-walk : ((g : Gxid) → coord_can script c (event.Resume g) ≡ true → GoesOut script c g) → (y : NodeEvent) → x ≡ y → (fails : Bool) → coord_can script c y ≡ true → Walk [] (on_event script c y fails)
    event-walk going (event.Deliver from envelope) is fails can = message-walk from fails envelope is envelope.message refl
    event-walk going (event.Start s) is fails can = start-walk s (subst IsGoingOut (sym is) tt) (idle-first s _ can) (next_line script c s)
    event-walk going (event.End s) is fails can = end-walk s (session_of c s).state.block
    event-walk going (event.Resend i (Some g)) is fails can = again-walk i (awaited c g i)
    event-walk going (event.Resend i None) is fails can = again-walk i (awaited_collect c i)
    event-walk going (event.Resume g) is fails can = resume-walk g (subst IsGoingOut (sym is) tt) (going g can)
    event-walk going event.Round is fails can = record { works = λ h. inl (refl, refl); answers = tt }

  -- A VICTIM
  pub cancel-walk : (g : Gxid) → Walk [] (cancels c g)
  cancel-walk g = cancel-ways (Walk []) c g rest-walk (λ live busy. refused-walk c g.0 (λ h e. refl) [] (on_abort c.table g) [] (Victim c.rounds) tt)
