-- What the start of a line and the end of a session make of it: it is idle, or it waits for some node's answer.
use Rattle.std.proofs.Common.{◌≡◌, ◌≤◌, inl, inr, ℕ, ◌+◌, List, [], ◌∷◌, ◌++◌, Option, Some, None, Result, Ok, Err, Bool, true, false, refl, sym, subst, ap, ◌∙◌, if◌then◌else◌, arith, eqb}
use Rattle.std.specs.Prelude.{is_some}
use Rattle.gx_lemmas.proofs.Numbers.{eqb-self}
use Rattle.gx_ids.specs.declared.ids.Cid.{Cid}
use Rattle.gx_ids.specs.declared.ids.SessionId.{SessionId}
use Rattle.gx_tree.specs.declared.schema.Schema.{Schema}
use Rattle.gx_tree.specs.declared.stmt.Level.{Level}
use Rattle.gx_tree.specs.declared.stmt.Level.TheVariants.{ReadCommitted}
use Rattle.gx_tree.specs.declared.stmt.Stmt.{Stmt}
use Rattle.gx_tree.specs.declared.stmt.Stmt.TheVariants as stmt
use Rattle.gx_dsnap.specs.declared.snapshot.Snapshot.{Snapshot}
use Rattle.gx_dtx.specs.Rules.{on_abort}
use Rattle.gx_dtx.specs.Table.{horizon_of}
use Rattle.gx_meaning.specs.declared.fault.ArithFault.{ArithFault}
use Rattle.gx_meaning.specs.declared.piece.Piece.{Piece}
use Rattle.gx_script.specs.declared.Script.{Script}
use Rattle.gx_script.specs.Session.{after_line, idle_outside, line_step}
use Rattle.gx_script.specs.declared.line_step.LineStep.{LineStep}
use Rattle.gx_script.specs.declared.line_step.LineStep.TheVariants as step
use Rattle.gx_script.specs.declared.state.Block.{Block}
use Rattle.gx_script.specs.declared.state.Block.TheVariants.{Outside, Open, Failed}
use Rattle.gx_script.specs.declared.state.Pending.{Pending}
use Rattle.gx_store.specs.declared.mark.Mark.TheVariants as mark
use Rattle.gx_store.specs.Writes.{dist_of}
use Rattle.gx_rules.specs.AtCoordinator.{Reading, begins, behind, commits, dispatches, ends_in, fault_mark, goes, is_idle, kept_at, next_cid, nodes_in, on_line, order_of, order_to, orders_of, reads_by, reads_for, refusal_of, starts_line, table_of, goes_on_locked, if_granted, requests, resumes}
use Rattle.gx_store.specs.Locks.{table_lock}
use Rattle.gx_rules.specs.Coordinators.{Command, Coord, CoordTurn, Session, new_work, session_of, work_of}
use Rattle.gx_rules.specs.Snapshots.{snapshot_of}
use Rattle.gx_store.specs.Whole.{IsWholeStmt}
use Rattle.gx_law_order.proofs.Lines.{Asks as Admits}
use Rattle.gx_law_order.specs.Sessions.{Kept, is_nothing_in, is_open_in, is_working_in}
use Rattle.gx_law_order.specs.Standings.{gx}
use Rattle.gx_law_order.proofs.Dispatching.{IsLive}
use Rattle.gx_law_order.proofs.Events.{live-stage}
use Rattle.gx_law_runs.proofs.Asking.{with_waiting}
use Rattle.gx_law_runs.proofs.Neat.{IsDone, clash}
use Rattle.gx_law_runs.proofs.Asked.{IsBusy, command-asked, done-unless, has-first}
use Rattle.gx_law_runs.proofs.Plans.{IsFilled, IsPlanFull, plan-full}
use Rattle.gx_law_runs.proofs.Turns.{Goes, commits-goes, goes-by, refused-settles}
use Rattle.gx_rules.specs.Locks.{hold_mark, released, with_hold}
use Rattle.gx_waits.specs.declared.claim.Claim.{Claim}
use Rattle.gx_locks.specs.Locks.{Locks, resumed, wait_of}
use Rattle.gx_waits.specs.Claims.{is_clear}
use Rattle.std.proofs.lemmas.Bool.{eqb-true}
use Rattle.gx_ids.specs.declared.ids.Gxid.{Gxid}
use Rattle.gx_law_order.proofs.Queued.{lock-of}
use Rattle.gx_law_runs.proofs.Sparing.{released-spares, resumed-spares, waits-own, waits-spares}
use Rattle.gx_store.specs.Refusals.{the_coordinator}

-- a command whose INSERT has a tuple
pub command-filled : (tables : List Schema) (b : Block) (line : Stmt) (alone : Bool) → line_step b line ≡ step.Command alone → IsWholeStmt tables line → IsFilled line
command-filled tables b (stmt.Select q) alone e w = tt
command-filled tables b (stmt.Insert t []) alone e w = absurd w
command-filled tables b (stmt.Insert t (x ∷ xs)) alone e w = tt
command-filled tables b (stmt.Update t x y) alone e w = tt
command-filled tables b (stmt.Delete t x) alone e w = tt
command-filled tables b (stmt.Lock t m) alone e w = tt
command-filled tables Outside (stmt.Begin l) alone e w = absurd (cc)
command-filled tables (Open o) (stmt.Begin l) alone e w = absurd (cc)
command-filled tables Failed (stmt.Begin l) alone e w = absurd (cc)
command-filled tables Outside stmt.Commit alone e w = absurd (cc)
command-filled tables (Open o) stmt.Commit alone e w = absurd (cc)
command-filled tables Failed stmt.Commit alone e w = absurd (cc)
command-filled tables Outside stmt.Rollback alone e w = absurd (cc)
command-filled tables (Open o) stmt.Rollback alone e w = absurd (cc)
command-filled tables Failed stmt.Rollback alone e w = absurd (cc)

-- A COMMAND GOES OUT
module _ (script : Script) (some : 1 ≤ script.segments) (c : Coord) (g : ℕ) where
  -- a snapshot changes no session
  record Reads (r : Reading) : Type 0 where
    sessions : r.coord.sessions ≡ c.sessions
    home : (r.coord.works g).session ≡ (c.works g).session
    locks : r.coord.locks ≡ c.locks

  reads-by : (cid : Cid) (o : Option Snapshot) → Reads (reads_by c (gx g) cid (work_of c (gx g)) o)
  reads-by cid None = record { sessions = refl; home = ap (λ (b : Bool). (if b then record (work_of c (gx g)) { snapshot = kept_at (work_of c (gx g)).level (snapshot_of c.table) } else c.works g).session) (eqb-self g); locks = refl }
  reads-by cid (Some x) = record { sessions = refl; home = refl; locks = refl }

  reads-so : (cid : Cid) (line : Stmt) → Reads (reads_for c (gx g) cid (work_of c (gx g)) line)
  reads-so cid (stmt.Lock t m) = record { sessions = refl; home = refl; locks = refl }
  reads-so cid (stmt.Begin l) = reads-by cid _
  reads-so cid stmt.Commit = reads-by cid _
  reads-so cid stmt.Rollback = reads-by cid _
  reads-so cid (stmt.Select q) = reads-by cid _
  reads-so cid (stmt.Insert t x) = reads-by cid _
  reads-so cid (stmt.Update t x y) = reads-by cid _
  reads-so cid (stmt.Delete t x) = reads-by cid _

  goes-so : (cid : Cid) (line : Stmt) (r : Reading) (plan : Result (List Piece) ArithFault) → IsPlanFull plan → Goes (Unit {0}) r.coord g (goes (gx g) cid line r plan)
  goes-so cid line r (Err fault) f = inr (refused-settles (Unit {0}) r.coord g (on_abort r.coord.table (gx g)) (r.marks ++ fault_mark (gx g) cid line) (refusal_of fault))
  goes-so cid line r (Ok []) f = absurd f
  goes-so cid line r (Ok (p ∷ ps)) f = inl (record { sessions = λ j. refl; asked = λ b. inl (command-asked turn.coord g m p.node own (has-first p.node (nodes_in ps)) first); spares = λ h e. refl })
    where
      turn : CoordTurn
      turn = goes (gx g) cid line r (Ok (p ∷ ps))

      m : Command
      m = record { stmt = line; cid = cid; orders = orders_of (gx g) cid (work_of r.coord (gx g)).level r.snapshot (horizon_of r.coord.table) (p ∷ ps); awaited = nodes_in (p ∷ ps); count = 0; parts = [] }

      own : (turn.coord.works g).command ≡ Some m
      own = ap (λ (b : Bool). (if b then record (work_of r.coord (gx g)) { last = cid.0; command = Some m } else r.coord.works g).command) (eqb-self g)

      first : is_some (order_to p.node m.orders) ≡ true
      first = ap (λ (b : Bool). is_some (if b then Some (order_of (gx g) cid (work_of r.coord (gx g)).level r.snapshot (horizon_of r.coord.table) p).message else order_to p.node (orders_of (gx g) cid (work_of r.coord (gx g)).level r.snapshot (horizon_of r.coord.table) ps))) (eqb-self p.node.0)

  locked-goes : (line : Stmt) → IsFilled line → Goes (Unit {0}) c g (goes_on_locked script c (gx g) line)
  locked-goes line f =
      let cid : Cid = next_cid (work_of c (gx g)) in
      let r = reads-so cid line in
      goes-by (Unit {0}) (reads_for c (gx g) cid (work_of c (gx g)) line).coord c g _ r.sessions r.home (λ h e. ap (λ (l : Locks). wait_of l (gx h)) r.locks)
      (goes-so cid line (reads_for c (gx g) cid (work_of c (gx g)) line) _ (plan-full script.segments some (dist_of script.tables (table_of line)) (gx g) cid line f))

-- WITH ITS TABLE'S LOCK
module _ (script : Script) (some : 1 ≤ script.segments) (c : Coord) (g : ℕ) (line : Stmt) (f : IsFilled line) where
  held-goes : (d : Coord) (wanted : Claim) → Goes (Unit {0}) c g (goes_on_locked script d (gx g) line) → Goes (Unit {0}) c g (behind (hold_mark the_coordinator wanted ∷ []) (goes_on_locked script d (gx g) line))
  held-goes d wanted (inl w) = inl (record { sessions = w.sessions; asked = w.asked; spares = w.spares })
  held-goes d wanted (inr t) = inr (record { others = t.others; idle = t.idle; spares = t.spares })

  -- it has it, or it waits for it
  granted-goes : (wanted : Claim) → wanted.gxid ≡ gx g → (b : Bool) → Goes (Unit {0}) c g (if_granted script c (gx g) line wanted b)
  granted-goes wanted own true =
      let d : Coord = record c { locks = with_hold c.locks wanted } in
      held-goes d wanted (goes-by (Unit {0}) d c g (goes_on_locked script d (gx g) line) refl refl (λ h e. refl) (locked-goes script some d g line f))
  granted-goes wanted own false = inl (record { sessions = λ j. refl; asked = λ b. inr (waits-own c.locks g wanted own); spares = waits-spares c.locks g wanted own })

  request-goes : (o : Option Claim) → table_lock script (gx g) line ≡ o → Goes (Unit {0}) c g (requests script c (gx g) line o)
  request-goes None e = locked-goes script some c g line f
  request-goes (Some wanted) e = granted-goes wanted (lock-of script (gx g) line wanted e) (is_clear c.locks.holds c.locks.waits wanted)

  dispatch-goes : Goes (Unit {0}) c g (dispatches script c (gx g) line)
  dispatch-goes = request-goes (table_lock script (gx g) line) refl

  -- and once it has waited
  pub resume-goes : (wanted : Claim) → Goes (Unit {0}) c g (resumes script c (gx g) (Some wanted) (Some line))
  resume-goes wanted =
      let d : Coord = with_waiting c g (resumed c.locks (gx g) (Some wanted)) None in
      held-goes d wanted
      (goes-by (Unit {0}) d c g (goes_on_locked script d (gx g) line) refl (ap (λ (b : Bool). (if b then record (c.works g) { waiting = None } else c.works g).session) (eqb-self g)) (resumed-spares c.locks g wanted) (locked-goes script some d g line f))

-- THE SESSION
module _ (c : Coord) (s : SessionId) where
  -- the waits of other sessions' transactions that have begun are as they were
  abbrev Elsewhere : CoordTurn → Type 0
  Elsewhere turn = (h : ℕ) → eqb (c.works h).session.0 s.0 ≡ false → eqb h c.table.next.0 ≡ false → wait_of turn.coord.locks (gx h) ≡ wait_of c.locks (gx h)

  pub record Stays (turn : CoordTurn) : Type 0 where
    pub others : (j : ℕ) → eqb j s.0 ≡ false → turn.coord.sessions j ≡ c.sessions j
    pub asked : is_idle (turn.coord.sessions s.0) ≡ false → IsBusy turn.coord (turn.coord.sessions s.0).transaction.0
    pub spares : Elsewhere turn

  -- it is idle
  quiet : (turn : CoordTurn) (y : Session) → ((j : ℕ) → turn.coord.sessions j ≡ (if eqb j s.0 then y else c.sessions j)) → is_idle y ≡ true → Elsewhere turn → Stays turn
  quiet turn y all i spared =
      record {
        others = λ j e. all j ∙ ap (λ (b : Bool). if b then y else c.sessions j) e;
        asked = λ e. clash (is_idle (turn.coord.sessions s.0)) (ap is_idle (all s.0 ∙ ap (λ (b : Bool). if b then y else c.sessions s.0) (eqb-self s.0)) ∙ i) e;
        spares = spared;
      }

  -- its transaction does something, from data in which this session alone has changed
  does : (d : Coord) (g : ℕ) (turn : CoordTurn) → ((j : ℕ) → eqb j s.0 ≡ false → d.sessions j ≡ c.sessions j) → (d.works g).session ≡ s → (d.sessions s.0).transaction.0 ≡ g → d.locks ≡ c.locks → ((h : ℕ) → eqb (c.works h).session.0 s.0 ≡ false → eqb h c.table.next.0 ≡ false → eqb h g ≡ false) → Goes (Unit {0}) d g turn → Stays turn
  does d g turn same home own locks apart (inl w) =
      record {
        others = λ j e. w.sessions j ∙ same j e;
        asked = λ e. subst (IsBusy turn.coord) (sym (ap (λ (y : Session). y.transaction.0) (w.sessions s.0) ∙ own)) (w.asked tt);
        spares = λ h e n. w.spares h (apart h e n) ∙ ap (λ (l : Locks). wait_of l (gx h)) locks;
      }
  does d g turn same home own locks apart (inr t) =
      record {
        others = λ j e. t.others j (ap (λ (x : SessionId). eqb j x.0) home ∙ e) ∙ same j e;
        asked = λ e. clash (is_idle (turn.coord.sessions s.0)) (subst (λ (x : SessionId). is_idle (turn.coord.sessions x.0) ≡ true) home t.idle) e;
        spares = λ h e n. t.spares h (apart h e n) ∙ ap (λ (l : Locks). wait_of l (gx h)) locks;
      }

-- LINES
module _ (script : Script) (some : 1 ≤ script.segments) (c : Coord) (k : Kept script c) (s : SessionId) (idle : is_nothing_in (session_of c s).state.pending ≡ true) where
  abbrev block : Block
  block = (session_of c s).state.block

  abbrev own : ℕ
  own = (session_of c s).transaction.0

  own-live : is_open_in block ≡ true → IsLive c own
  own-live opened = live-stage c own ((k.placed s.0).free opened idle)

  own-home : is_open_in block ≡ true → (c.works own).session ≡ s
  own-home opened = ap (λ n. let x : SessionId = record { 0 = n } in x) ((k.placed s.0).stands opened).1

  -- a transaction of another session is another one
  own-apart : is_open_in block ≡ true → (h : ℕ) → eqb (c.works h).session.0 s.0 ≡ false → eqb h own ≡ false
  own-apart opened h e = by_test (eqb h own) refl
    where
      by_test : (b : Bool) → eqb h own ≡ b → eqb h own ≡ false
      by_test true q = clash (eqb (c.works h).session.0 s.0) (ap (λ k. eqb (c.works k).session.0 s.0) (eqb-true h own q) ∙ ap (λ (x : SessionId). eqb x.0 s.0) (own-home opened) ∙ eqb-self s.0) e
      by_test false q = q

  -- it is idle, so no answer to a command is awaited
  own-done : is_open_in block ≡ true → IsDone (c.works own).command
  own-done opened =
      done-unless (c.works own).command
      (λ m e waits. not-work (session_of c s).state.pending idle (subst (λ j. is_working_in (c.sessions j).state.pending ≡ true) ((k.placed s.0).stands opened).1 ((k.tied own).awaits m e waits).1))
    where
      not-work : (q : Pending) → is_nothing_in q ≡ true → is_working_in q ≡ true → ⊥
      not-work q e f = grind arith

  -- where the line has led the session
  abbrev led : LineStep → Session
  led asked = record (session_of c s) { lines = (session_of c s).lines + 1; state = after_line block asked }

  led-now : (asked : LineStep) → session_of (starts_line c s asked) s ≡ led asked
  led-now asked = ap (λ (b : Bool). if b then led asked else session_of c s) (eqb-self s.0)

  led-others : (asked : LineStep) (j : ℕ) → eqb j s.0 ≡ false → (starts_line c s asked).sessions j ≡ c.sessions j
  led-others asked j e = ap (λ (b : Bool). if b then led asked else c.sessions j) e

  -- a transaction of its own
  abbrev fresh : LineStep → Level → Coord
  fresh asked level = begins (starts_line c s asked) s level

  fresh-at : (asked : LineStep) (level : Level) (j : ℕ) → (fresh asked level).sessions j ≡ (if eqb j s.0 then record (led asked) { transaction = c.table.next } else c.sessions j)
  fresh-at asked level j = ap (λ (y : Session). if eqb j s.0 then record y { transaction = c.table.next } else (if eqb j s.0 then led asked else c.sessions j)) (led-now asked) ∙ twice (eqb j s.0)
    where
      twice : (b : Bool) → (if b then record (led asked) { transaction = c.table.next } else (if b then led asked else c.sessions j)) ≡ (if b then record (led asked) { transaction = c.table.next } else c.sessions j)
      twice true = refl
      twice false = refl

  alone-stays : (line : Stmt) → IsFilled line → Stays c s (behind (mark.Start c.table.next s ∷ []) (dispatches script (fresh (step.Command true) ReadCommitted) c.table.next line))
  alone-stays line f =
      does c s (fresh (step.Command true) ReadCommitted) c.table.next.0 _
      (λ j e. fresh-at (step.Command true) ReadCommitted j ∙ ap (λ (b : Bool). if b then record (led (step.Command true)) { transaction = c.table.next } else c.sessions j) e)
      (ap (λ (b : Bool). (if b then new_work s ReadCommitted else c.works c.table.next.0).session) (eqb-self c.table.next.0))
      (ap (λ (y : Session). y.transaction.0) (fresh-at (step.Command true) ReadCommitted s.0 ∙ ap (λ (b : Bool). if b then record (led (step.Command true)) { transaction = c.table.next } else c.sessions s.0) (eqb-self s.0)))
      refl (λ h e n. n) (behind-goes (dispatch-goes script some (fresh (step.Command true) ReadCommitted) c.table.next.0 line f))
    where
      behind-goes : Goes (Unit {0}) (fresh (step.Command true) ReadCommitted) c.table.next.0 (dispatches script (fresh (step.Command true) ReadCommitted) c.table.next line) → Goes (Unit {0}) (fresh (step.Command true) ReadCommitted) c.table.next.0 (behind (mark.Start c.table.next s ∷ []) (dispatches script (fresh (step.Command true) ReadCommitted) c.table.next line))
      behind-goes (inl w) = inl (record { sessions = w.sessions; asked = w.asked; spares = w.spares })
      behind-goes (inr t) = inr (record { others = t.others; idle = t.idle; spares = t.spares })

  transaction-now : (asked : LineStep) → (session_of (starts_line c s asked) s).transaction ≡ (session_of c s).transaction
  transaction-now asked = ap (λ (y : Session). y.transaction) (led-now asked)

  -- in its block
  inside : (asked : LineStep) (turn : CoordTurn) → is_open_in block ≡ true → Goes (Unit {0}) (starts_line c s asked) own turn → Stays c s turn
  inside asked turn opened z = does c s (starts_line c s asked) own turn (led-others asked) (own-home opened) (ap (λ (y : Session). y.transaction.0) (led-now asked)) refl (λ h e n. own-apart opened h e) z

  inside-stays : (line : Stmt) → IsFilled line → is_open_in block ≡ true → Stays c s (dispatches script (starts_line c s (step.Command false)) (session_of (starts_line c s (step.Command false)) s).transaction line)
  inside-stays line f opened =
      subst (λ g. Stays c s (dispatches script (starts_line c s (step.Command false)) g line)) (sym (transaction-now (step.Command false)))
      (inside (step.Command false) _ opened (dispatch-goes script some (starts_line c s (step.Command false)) own line f))

  commit-stays : is_open_in block ≡ true → Stays c s (commits (starts_line c s step.CommitBlock) (session_of (starts_line c s step.CommitBlock) s).transaction)
  commit-stays opened =
      let l = own-live opened in
      subst (λ g. Stays c s (commits (starts_line c s step.CommitBlock) g)) (sym (transaction-now step.CommitBlock))
      (inside step.CommitBlock _ opened (commits-goes (Unit {0}) (starts_line c s step.CommitBlock) own k.whole (record { txn = l.txn; found = l.found; active = l.active }) (own-done opened)))

  pub line-stays : (line : Stmt) (asked : LineStep) → line_step block line ≡ asked → Admits block asked → IsWholeStmt script.tables line → Stays c s (on_line script (starts_line c s asked) s line asked)
  line-stays line (step.Answer plain) e a w = quiet c s _ (led (step.Answer plain)) (λ j. refl) refl (λ h e n. refl)
  line-stays line step.InFailedBlock e a w = quiet c s _ (led step.InFailedBlock) (λ j. refl) refl (λ h e n. refl)
  line-stays line step.NotInBlock e a w = quiet c s _ (led step.NotInBlock) (λ j. refl) refl (λ h e n. refl)
  line-stays line (step.BeginBlock level) e a w = quiet c s _ (record (led (step.BeginBlock level)) { transaction = c.table.next }) (fresh-at (step.BeginBlock level) level) refl (λ h e n. refl)
  line-stays line step.CommitBlock e a w = commit-stays a
  line-stays line step.RollbackBlock e a w = quiet c s _ (led step.RollbackBlock) (λ j. refl) refl (λ h e n. ap (λ (g : Gxid). wait_of (released c.locks g) (gx h)) (transaction-now step.RollbackBlock) ∙ released-spares c.locks own h (own-apart a h e))
  line-stays line (step.Command true) e a w = alone-stays line (command-filled script.tables block line true e w)
  line-stays line (step.Command false) e a w = inside-stays line (command-filled script.tables block line false e w) a

  pub end-stays : is_idle (session_of c s) ≡ true → (b : Block) → block ≡ b → Stays c s (ends_in c s b)
  end-stays i (Open level) q = quiet c s _ (record (session_of c s) { state = idle_outside }) (λ j. refl) refl (λ h e n. released-spares c.locks own h (own-apart (ap is_open_in q) h e))
  end-stays i Failed q = quiet c s _ (record (session_of c s) { state = idle_outside }) (λ j. refl) refl (λ h e n. refl)
  end-stays i Outside q = record { others = λ j e. refl; asked = λ e. clash (is_idle (session_of c s)) i e; spares = λ h e n. refl }
