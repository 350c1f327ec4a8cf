-- A command that goes out has a new number, and its orders are of its statement.
use Rattle.std.proofs.Common.{◌≡◌, ◌⊎◌, inl, inr, ℕ, ◌+◌, List, [], ◌∷◌, ◌++◌, Option, Some, None, Result, Ok, Err, Bool, true, false, refl, sym, subst, ap, ◌∙◌, if◌then◌else◌, ◌&&◌, arith, eqb}
use Rattle.std.proofs.lemmas.Bool.{eqb-true}
use Rattle.gx_lemmas.proofs.Numbers.{eqb-self}
use Rattle.gx_lemmas.proofs.Tests.{and-first}
use Rattle.gx_ids.specs.declared.ids.Cid.{Cid}
use Rattle.gx_ids.specs.declared.ids.Gxid.{Gxid}
use Rattle.gx_ids.specs.declared.ids.Node.{Node}
use Rattle.gx_ids.specs.declared.ids.SessionId.{SessionId}
use Rattle.gx_tree.specs.declared.stmt.Level.{Level}
use Rattle.gx_tree.specs.declared.stmt.Level.TheVariants.{ReadCommitted}
use Rattle.gx_tree.specs.declared.stmt.Stmt.{Stmt}
use Rattle.gx_tree.specs.declared.stmt.Stmt.TheVariants as stmt
use Rattle.gx_dsnap.specs.declared.snapshot.Snapshot.{Snapshot}
use Rattle.gx_dtx.specs.Nodes.{has}
use Rattle.gx_dtx.specs.Rules.{awaited_order}
use Rattle.gx_dtx.specs.Table.{find_txn, horizon_of, participants_in}
use Rattle.gx_meaning.specs.declared.fault.ArithFault.{ArithFault}
use Rattle.gx_msg.specs.declared.message.Message.{Message}
use Rattle.gx_msg.specs.declared.message.Message.TheVariants as message
use Rattle.gx_msg.specs.declared.message.Out.{Out}
use Rattle.gx_meaning.specs.Plan.{plan_of}
use Rattle.gx_meaning.specs.declared.piece.Piece.{Piece}
use Rattle.gx_script.specs.declared.Script.{Script}
use Rattle.gx_script.specs.Session.{after_line, idle_outside, line_step}
use Rattle.gx_script.specs.declared.line_step.LineStep.{LineStep}
use Rattle.gx_script.specs.declared.line_step.LineStep.TheVariants as step
use Rattle.gx_script.specs.declared.state.Block.{Block}
use Rattle.gx_script.specs.declared.state.Block.TheVariants.{Outside, Open, Failed}
use Rattle.gx_script.specs.declared.state.Pending.{Pending}
use Rattle.gx_store.specs.declared.mark.Mark.{Mark}
use Rattle.gx_store.specs.declared.mark.Mark.TheVariants as mark
use Rattle.gx_store.specs.declared.node.NodeEvent.{NodeEvent}
use Rattle.gx_store.specs.declared.node.NodeEvent.TheVariants as event
use Rattle.gx_store.specs.Writes.{dist_of}
use Rattle.gx_store.specs.declared.answer.StmtAnswer.TheVariants as told
use Rattle.gx_rules.specs.AtCoordinator.{Reading, awaited, awaited_collect, begins, behind, command_order, coord_can, dispatches, ends_in, fault_mark, goes, goes_out, is_idle, is_nothing, next_cid, next_line, on_event, on_line, order_to, orders_of, reads_by, reads_for, refusal_of, starts, starts_line, status_order, table_of, takes_snapshot, goes_on_locked, if_granted, requests, resumes, answer_mark}
use Rattle.gx_store.specs.Locks.{table_lock}
use Rattle.gx_rules.specs.Coordinators.{Command, Coord, CoordTurn, new_work, session_of}
use Rattle.gx_law_order.proofs.Lines.{Asks as Admits, asks as admits}
use Rattle.gx_law_order.proofs.Lists.{each_weaker}
use Rattle.gx_law_order.specs.Lists.{Each}
use Rattle.gx_law_order.specs.Sessions.{Kept, is_nothing_in, is_open_in}
use Rattle.gx_law_order.specs.Standings.{gx}
use Rattle.gx_law_order.proofs.Dispatching.{IsLive}
use Rattle.gx_law_order.proofs.Events.{live-stage}
use Rattle.gx_law_runs.proofs.Asking.{with_waiting}
use Rattle.gx_law_runs.proofs.Neat.{IsExecOf, Neat, NeatCommand}
use Rattle.gx_law_runs.proofs.Parts.{IsFor, PlanFor, plan-for}
use Rattle.gx_law_runs.proofs.Serving.{AnyServes, AreFor, ForOut, IsFresh, IsOld, OrdersServe, OutServes, Serves, again, commit, no-command, old-same, order-collect, order-status, received, refused, rest-serves, rolled, round-begun, same, serves-map, some-same}
use Rattle.gx_rules.specs.Locks.{with_hold, with_wait}
use Rattle.gx_locks.specs.Locks.{Locks, resumed, wait_of}
use Rattle.gx_waits.specs.Claims.{is_clear}
use Rattle.gx_waits.specs.declared.claim.Claim.{Claim}
use Rattle.gx_law_order.proofs.Waiting.{GoesOut}

module _ (g : ℕ) (last : ℕ) where
  abbrev pub FreshAt : ℕ → Command → Type 0
  FreshAt h m = (h ≡ g) × IsFresh last m

  pub record ReadsServe (c : Coord) (r : Reading) : Type 0 where
    pub commands : (h : ℕ) → (r.coord.works h).command ≡ (c.works h).command

  module _ (c : Coord) where
    takes-serve : (cid : Cid) → ReadsServe c (takes_snapshot c (gx g) cid (c.works g))
    takes-serve cid = record { commands = λ h. by h (eqb h g) refl }
      where
        by : (h : ℕ) (b : Bool) → eqb h g ≡ b → (if b then record (c.works g) { snapshot = Rattle.gx_rules.specs.AtCoordinator.kept_at (c.works g).level (Rattle.gx_rules.specs.Snapshots.snapshot_of c.table) } else c.works h).command ≡ (c.works h).command
        by h true e = ap (λ n. (c.works n).command) (sym (eqb-true h g e))
        by h false e = refl

    by-serve : (cid : Cid) (x : Option Snapshot) → ReadsServe c (reads_by c (gx g) cid (c.works g) x)
    by-serve cid None = takes-serve cid
    by-serve cid (Some x) = record { commands = λ h. refl }

    for-serve : (cid : Cid) (line : Stmt) → ReadsServe c (reads_for c (gx g) cid (c.works g) line)
    for-serve cid (stmt.Lock t m) = record { commands = λ h. refl }
    for-serve cid (stmt.Begin level) = by-serve cid (c.works g).snapshot
    for-serve cid stmt.Commit = by-serve cid (c.works g).snapshot
    for-serve cid stmt.Rollback = by-serve cid (c.works g).snapshot
    for-serve cid (stmt.Select q) = by-serve cid (c.works g).snapshot
    for-serve cid (stmt.Insert t x) = by-serve cid (c.works g).snapshot
    for-serve cid (stmt.Update t x z) = by-serve cid (c.works g).snapshot
    for-serve cid (stmt.Delete t x) = by-serve cid (c.works g).snapshot

    orders-for : (line : Stmt) (cid : Cid) (level : Level) (x : Option Snapshot) (h : Gxid) (ps : List Piece) → Each (λ (p : Piece). IsFor line p.slice) ps → AreFor line (orders_of (gx g) cid level x h ps)
    orders-for line cid level x h [] e = tt
    orders-for line cid level x h (p ∷ ps) e = (e.0, orders-for line cid level x h ps e.1)

    goes-serves : (cid : Cid) (line : Stmt) (r : Reading) (plan : Result (List Piece) ArithFault) → cid.0 ≡ last + 1 → ReadsServe c r → PlanFor line plan → Serves c FreshAt (goes (gx g) cid line r plan)
    goes-serves cid line r (Err fault) counted f p =
        serves-map c r.coord FreshAt FreshAt _ (λ h m o. record { was = o.was; is = sym (f.commands h) ∙ o.is; line = o.line; counted = o.counted; orders = o.orders }) (λ h m x. x)
        (refused FreshAt r.coord (gx g) (r.marks ++ fault_mark (gx g) cid line) (refusal_of fault))
    goes-serves cid line r (Ok ps) counted f p =
        record {
          commands = λ h m e. by h m (eqb h g) refl e;
          outs = each_weaker (λ (o : Out). Sent o.message) (λ (o : Out). OutServes turn.coord o.message) (λ o q. served o.message q) turn.outs (sent-for ps p);
        }
      where
        new : Command
        new = record { stmt = line; cid = cid; orders = orders_of (gx g) cid (r.coord.works g).level r.snapshot (horizon_of r.coord.table) ps; awaited = Rattle.gx_rules.specs.AtCoordinator.nodes_in ps; count = 0; parts = [] }

        turn : CoordTurn
        turn = goes_out (gx g) cid line ps r

        same-command : (a b : Command) → Some a ≡ Some b → a ≡ b
        same-command a b e = (cc)

        fresh : (m : Command) → record { stmt = line; cid = cid; orders = orders_of (gx g) cid (r.coord.works g).level r.snapshot (horizon_of r.coord.table) ps; awaited = Rattle.gx_rules.specs.AtCoordinator.nodes_in ps; count = 0; parts = [] } ≡ m → IsFresh last m
        fresh m s = subst (IsFresh last) s (record { counted = counted; orders = orders-for line cid (r.coord.works g).level r.snapshot (horizon_of r.coord.table) ps p })

        by : (h : ℕ) (m : Command) (b : Bool) → eqb h g ≡ b → (if b then record (r.coord.works g) { last = cid.0; command = Some new } else r.coord.works h).command ≡ Some m → IsOld c h m ⊎ FreshAt h m
        by h m true q e = inr (eqb-true h g q, fresh m (same-command new m e))
        by h m false q e = inl (old-same c h m (sym (f.commands h) ∙ e))

        -- what is sent
        Sent : Message → Type 0
        Sent (message.Exec h d level snapshot horizon slice) = (h.0 ≡ g) × IsFor line slice
        Sent _ = ⊥

        sent-for : (qs : List Piece) → Each (λ (x : Piece). IsFor line x.slice) qs → Each (λ (o : Out). Sent o.message) (orders_of (gx g) cid (r.coord.works g).level r.snapshot (horizon_of r.coord.table) qs)
        sent-for [] e = tt
        sent-for (x ∷ xs) e = ((refl, e.0), sent-for xs e.1)

        served : (m : Message) → Sent m → OutServes turn.coord m
        served (message.Exec h d level snapshot horizon slice) s = λ m e counted. subst (λ l. IsFor l slice) (ap (λ (z : Command). z.stmt) (same-command new m (sym (ap (λ b. (if b then record (r.coord.works g) { last = cid.0; command = Some new } else r.coord.works h.0).command) (ap (λ n. eqb n g) s.0 ∙ eqb-self g)) ∙ e))) s.1
        served (message.Prepare h) s = absurd s
        served (message.Commit h) s = absurd s
        served (message.CommitPrepared h) s = absurd s
        served (message.Abort h) s = absurd s
        served (message.Forget h) s = absurd s
        served (message.Collect round) s = absurd s
        served (message.Answer h a) s = absurd s
        served (message.Graph round graph) s = absurd s
        served message.Up s = absurd s

    pub locked-serves : (script : Script) (line : Stmt) → (c.works g).last ≡ last → Serves c FreshAt (goes_on_locked script c (gx g) line)
    locked-serves script line e =
        goes-serves (next_cid (c.works g)) line _ (plan_of script.segments (dist_of script.tables (table_of line)) (gx g) (next_cid (c.works g)) line) (ap (λ n. n + 1) e) (for-serve (next_cid (c.works g)) line)
        (plan-for script.segments (dist_of script.tables (table_of line)) (gx g) (next_cid (c.works g)) line)

  -- IT WAITS, OR HAS WAITED
  module _ (c : Coord) where
    old-waiting : (locks : Locks) (line : Option Stmt) (h : ℕ) (m : Command) → IsOld (with_waiting c g locks line) h m → IsOld c h m
    old-waiting locks line h m o = record { was = o.was; is = by (eqb h g) refl o.is; line = o.line; counted = o.counted; orders = o.orders }
      where
        by : (b : Bool) → eqb h g ≡ b → (if b then record (c.works g) { waiting = line } else c.works h).command ≡ Some o.was → (c.works h).command ≡ Some o.was
        by true q e = ap (λ k. (c.works k).command) (eqb-true h g q) ∙ e
        by false q e = e

  -- WITH ITS TABLE'S LOCK
  module _ (c : Coord) (script : Script) (line : Stmt) (e : (c.works g).last ≡ last) where
    granted-serves : (wanted : Claim) (b : Bool) → Serves c FreshAt (if_granted script c (gx g) line wanted b)
    granted-serves wanted true =
        let d : Coord = record c { locks = with_hold c.locks wanted } in
        let x = serves-map c d FreshAt FreshAt (goes_on_locked script d (gx g) line) (λ h m o. record { was = o.was; is = o.is; line = o.line; counted = o.counted; orders = o.orders }) (λ h m f. f) (locked-serves d script line e) in
        record { commands = x.commands; outs = x.outs }
    granted-serves wanted false = record { commands = λ h m q. inl (old-waiting c (with_wait c.locks wanted) (Some line) h m (old-same (with_waiting c g (with_wait c.locks wanted) (Some line)) h m q)); outs = tt }

    request-serves : (o : Option Claim) → Serves c FreshAt (requests script c (gx g) line o)
    request-serves None = locked-serves c script line e
    request-serves (Some wanted) = granted-serves wanted (is_clear c.locks.holds c.locks.waits wanted)

    pub dispatch-serves : Serves c FreshAt (dispatches script c (gx g) line)
    dispatch-serves = request-serves (table_lock script (gx g) line)

    -- behind a wait
    pub resume-serves : (wanted : Claim) → Serves c FreshAt (resumes script c (gx g) (Some wanted) (Some line))
    resume-serves wanted =
        let locks : Locks = resumed c.locks (gx g) (Some wanted) in
        let d : Coord = with_waiting c g locks None in
        let x = serves-map c d FreshAt FreshAt (goes_on_locked script d (gx g) line) (old-waiting c locks None) (λ h m f. f)
        (locked-serves d script line (ap (λ (b : Bool). (if b then record (c.works g) { waiting = None } else c.works g).last) (eqb-self g) ∙ e)) in
        record { commands = x.commands; outs = x.outs }

-- ALL EVENTS
-- a command that goes out is the next of a transaction that runs, or the and-first of one that begins
abbrev pub IsNew : Coord → ℕ → Command → Type 0
IsNew c h m = ((IsLive c h × IsFresh (c.works h).last m) ⊎ ((h ≡ c.table.next.0) × IsFresh 0 m))

module _ (script : Script) (c : Coord) (k : Kept script c) (own : OrdersServe c) where
  abbrev Done : CoordTurn → Type 0
  Done turn = Serves c (IsNew c) turn

  module _ (s : SessionId) (idle : is_nothing_in (session_of c s).state.pending ≡ true) where
    abbrev block : Block
    block = (session_of c s).state.block

    transaction-now : (asked : LineStep) → (session_of (starts_line c s asked) s).transaction ≡ (session_of c s).transaction
    transaction-now asked = ap (λ q. (if q then record (session_of c s) { lines = (session_of c s).lines + 1; state = after_line block asked } else session_of c s).transaction) (eqb-self s.0)

    same-base : (asked : LineStep) (turn : CoordTurn) → Serves (starts_line c s asked) (IsNew c) turn → Done turn
    same-base asked turn f = record { commands = λ h m e. by h m (f.commands h m e); outs = f.outs }
      where
        by : (h : ℕ) (m : Command) → IsOld (starts_line c s asked) h m ⊎ IsNew c h m → IsOld c h m ⊎ IsNew c h m
        by h m (inl o) = inl (record { was = o.was; is = o.is; line = o.line; counted = o.counted; orders = o.orders })
        by h m (inr x) = inr x

    -- what begins has no command yet
    old-begun : (asked : LineStep) (level : Level) (h : ℕ) (m : Command) → IsOld (begins (starts_line c s asked) s level) h m → IsOld c h m
    old-begun asked level h m o = by (eqb h c.table.next.0) o.is
      where
        by : (b : Bool) → (if b then new_work s level else c.works h).command ≡ Some o.was → IsOld c h m
        by true e = absurd (no-command o.was e)
        by false e = record { was = o.was; is = e; line = o.line; counted = o.counted; orders = o.orders }

    begun-serves : (asked : LineStep) (level : Level) (marks : List Mark) → Done (record { coord = begins (starts_line c s asked) s level; marks = marks; outs = []; item = None })
    begun-serves asked level marks = record { commands = λ h m e. inl (old-begun asked level h m (old-same (begins (starts_line c s asked) s level) h m e)); outs = tt }

    alone-serves : (line : Stmt) → Done (behind (mark.Start c.table.next s ∷ []) (dispatches script (begins (starts_line c s (step.Command true)) s ReadCommitted) c.table.next line))
    alone-serves line =
        let d : Coord = begins (starts_line c s (step.Command true)) s ReadCommitted in
        let f = serves-map c d (FreshAt c.table.next.0 0) (IsNew c) (dispatches script d c.table.next line) (old-begun (step.Command true) ReadCommitted) (λ h m x. inr x)
        (dispatch-serves c.table.next.0 0 d script line (ap (λ b. (if b then new_work s ReadCommitted else c.works c.table.next.0).last) (eqb-self c.table.next.0))) in
        record { commands = f.commands; outs = f.outs }

    inside-serves : (line : Stmt) → is_open_in block ≡ true → Done (dispatches script (starts_line c s (step.Command false)) (session_of (starts_line c s (step.Command false)) s).transaction line)
    inside-serves line opened =
        let g : ℕ = (session_of c s).transaction.0 in
        let l : IsLive c g = live-stage c g ((k.placed s.0).free opened idle) in
        subst (λ x. Done (dispatches script (starts_line c s (step.Command false)) x line)) (sym (transaction-now (step.Command false)))
        (same-base (step.Command false) _
        (serves-map (starts_line c s (step.Command false)) (starts_line c s (step.Command false)) (FreshAt g (c.works g).last) (IsNew c) _ (λ h m o. o) (λ h m x. inl (subst (λ y. IsLive c y × IsFresh (c.works y).last m) (sym x.0) (l, x.1)))
        (dispatch-serves g (c.works g).last (starts_line c s (step.Command false)) script line refl)))

    line-serves : (line : Stmt) (asked : LineStep) → Admits block asked → Done (on_line script (starts_line c s asked) s line asked)
    line-serves line (step.Answer plain) a = same (IsNew c) c _ (λ h. refl) tt
    line-serves line step.InFailedBlock a = same (IsNew c) c _ (λ h. refl) tt
    line-serves line step.NotInBlock a = same (IsNew c) c _ (λ h. refl) tt
    line-serves line (step.BeginBlock level) a = begun-serves (step.BeginBlock level) level _
    line-serves line step.CommitBlock a = same-base step.CommitBlock _ (commit (IsNew c) (starts_line c s step.CommitBlock) (session_of (starts_line c s step.CommitBlock) s).transaction)
    line-serves line step.RollbackBlock a = same-base step.RollbackBlock _ (rolled (IsNew c) (starts_line c s step.RollbackBlock) (session_of (starts_line c s step.RollbackBlock) s).transaction (answer_mark (starts_line c s step.RollbackBlock) s told.Rollback ∷ []))
    line-serves line (step.Command true) a = alone-serves line
    line-serves line (step.Command false) a = inside-serves line a

    start-serves : (line : Option Stmt) → Done (starts script c s line)
    start-serves None = rest-serves (IsNew c) c
    start-serves (Some line) = line-serves line (line_step block line) (admits block line)

  end-serves : (s : SessionId) (b : Block) → Done (ends_in c s b)
  end-serves s (Open level) =
      let f = rolled (IsNew c) (Rattle.gx_rules.specs.Coordinators.with_state c s idle_outside) (session_of c s).transaction [] in
      record { commands = λ h m e. by h m (f.commands h m e); outs = f.outs }
    where
      by : (h : ℕ) (m : Command) → IsOld (Rattle.gx_rules.specs.Coordinators.with_state c s idle_outside) h m ⊎ IsNew c h m → IsOld c h m ⊎ IsNew c h m
      by h m (inl o) = inl (record { was = o.was; is = o.is; line = o.line; counted = o.counted; orders = o.orders })
      by h m (inr x) = inr x
  end-serves s Failed = same (IsNew c) c _ (λ h. refl) tt
  end-serves s Outside = rest-serves (IsNew c) c

  -- the order of a command that is sent again
  for-serves : (line : Stmt) (cid : Cid) (g : ℕ) (m : Message) → ForOut line m → ((x : Command) → (c.works g).command ≡ Some x → x.stmt ≡ line) → IsExecOf g cid (Some m) → OutServes c m
  for-serves line cid g (message.Exec h d l x y slice) f one e = λ z q counted. subst (λ w. IsFor w slice) (sym (one z (ap (λ n. (c.works n).command) (sym e.0) ∙ q))) f
  for-serves line cid g (message.Prepare h) f one e = tt
  for-serves line cid g (message.Commit h) f one e = tt
  for-serves line cid g (message.CommitPrepared h) f one e = tt
  for-serves line cid g (message.Abort h) f one e = tt
  for-serves line cid g (message.Forget h) f one e = tt
  for-serves line cid g (message.Collect h) f one e = tt
  for-serves line cid g (message.Answer h x) f one e = tt
  for-serves line cid g (message.Graph h x) f one e = tt
  for-serves line cid g message.Up f one e = tt

  order-for : (line : Stmt) (i : Node) (outs : List Out) (o : Option Message) → order_to i outs ≡ o → AreFor line outs → (m : Message) → o ≡ Some m → ForOut line m
  order-for line i [] o q e m s = absurd (none (q ∙ s))
    where
      none : (let z : Option Message = None in z) ≡ Some m → ⊥
      none x = cc
  order-for line i (out ∷ outs) o q e m s = by (eqb out.node.0 i.0) (q ∙ s) (λ r. order-for line i outs (Some m) r e.1 m refl)
    where
      some-message : (a b : Message) → Some a ≡ Some b → a ≡ b
      some-message a b x = (cc)

      by : (b : Bool) → (if b then Some out.message else order_to i outs) ≡ Some m → (order_to i outs ≡ Some m → ForOut line m) → ForOut line m
      by true x r = subst (ForOut line) (some-message out.message m x) e.0
      by false x r = r x

  module _ (neat : (g : ℕ) → Neat g (c.works g) (find_txn c.table (gx g))) where
    resent : (g : ℕ) (i : Node) → AnyServes (IsNew c) c own (awaited c (gx g) i)
    resent g i = by_command (c.works g).command refl (neat g).command
      where
        by_order : (m : Command) → (c.works g).command ≡ Some m → (o : Option Message) → order_to i m.orders ≡ o → IsExecOf g m.cid o → AnyServes (IsNew c) c own o
        by_order m e None q f = tt
        by_order m e (Some told) q f = for-serves m.stmt m.cid g told (order-for m.stmt i m.orders (Some told) q (own g m e) told refl) (λ x r. ap (λ (z : Command). z.stmt) (some-same (IsNew c) x m (sym r ∙ e))) f

        by_command : (o : Option Command) → (c.works g).command ≡ o → NeatCommand g (participants_in (find_txn c.table (gx g))) o → AnyServes (IsNew c) c own (command_order o i (status_order (gx g) (awaited_order c.table (gx g) i)))
        by_command None e f = order-status (IsNew c) c own (gx g) (awaited_order c.table (gx g) i)
        by_command (Some m) e f = by_test (has i m.awaited) refl
          where
            by_test : (b : Bool) → has i m.awaited ≡ b → AnyServes (IsNew c) c own (if b then order_to i m.orders else status_order (gx g) (awaited_order c.table (gx g) i))
            by_test true q = by_order m e (order_to i m.orders) refl (f i q).1
            by_test false q = order-status (IsNew c) c own (gx g) (awaited_order c.table (gx g) i)

    idle-first : (s : SessionId) (b : Bool) → (is_idle (session_of c s) && b) ≡ true → is_nothing_in (session_of c s).state.pending ≡ true
    idle-first s b e = plain (session_of c s).state.pending (and-first _ _ e)
      where
        plain : (q : Pending) → is_nothing q ≡ true → is_nothing_in q ≡ true
        plain q e = grind arith

    -- a statement that has waited goes out
    goes-out-serves : (g : Gxid) → GoesOut script c g → Done (resumes script c g (wait_of c.locks g) (c.works g.0).waiting)
    goes-out-serves g o =
        subst (λ w. Done (resumes script c g w (c.works g.0).waiting)) (sym o.claims)
        (subst (λ l. Done (resumes script c g (Some o.wanted) l)) (sym o.is)
        (serves-map c c (FreshAt g.0 (c.works g.0).last) (IsNew c) _ (λ h m y. y) (λ h m x. inl (subst (λ y. IsLive c y × IsFresh (c.works y).last m) (sym x.0) (live-stage c g.0 o.live, x.1)))
        (resume-serves g.0 (c.works g.0).last c script o.line refl o.wanted)))

    pub event-serves : ((g : Gxid) → coord_can script c (event.Resume g) ≡ true → GoesOut script c g) → (x : NodeEvent) (fails : Bool) → coord_can script c x ≡ true → Done (on_event script c x fails)
    event-serves out (event.Deliver from envelope) fails e = received (IsNew c) c from fails envelope.message
    event-serves out (event.Start s) fails e = start-serves s (idle-first s _ e) (next_line script c s)
    event-serves out (event.End s) fails e = end-serves s (session_of c s).state.block
    event-serves out (event.Resend i (Some g)) fails e = again (IsNew c) c own i (awaited c g i) (resent g.0 i)
    event-serves out (event.Resend i None) fails e = again (IsNew c) c own i (awaited_collect c i) (order-collect (IsNew c) c own i)
    event-serves out (event.Resume g) fails e = goes-out-serves g (out g e)
    event-serves out event.Round fails e = round-begun (IsNew c) script c
