-- Commands that go out, lines, and all events of the coordinator.
use Rattle.std.proofs.Common.{◌≡◌, ◌≤◌, ◌<◌, ℕ, ◌+◌, List, [], ◌∷◌, Option, Some, None, Result, Ok, Err, Bool, true, false, refl, sym, subst, ap, ◌∙◌, cond, if◌then◌else◌, arith, eqb, eqb-true}
use Rattle.std.proofs.lemmas.Bool.Decides.{nat_tests}
use Rattle.std.specs.Prelude.{option_map}
use Rattle.gx_lemmas.proofs.Options.{none-some, some-same}
use Rattle.gx_lemmas.proofs.Numbers.{eqb-self, lt-next}
use Rattle.gx_ids.specs.declared.ids.Cid.{Cid}
use Rattle.gx_ids.specs.declared.ids.Gxid.{Gxid}
use Rattle.gx_ids.specs.declared.ids.Node.{Node}
use Rattle.gx_ids.specs.declared.ids.SessionId.{SessionId}
use Rattle.gx_tree.specs.declared.stmt.Level.{Level}
use Rattle.gx_tree.specs.declared.stmt.Level.TheVariants.{ReadCommitted, RepeatableRead}
use Rattle.gx_tree.specs.declared.stmt.Stmt.{Stmt}
use Rattle.gx_tree.specs.declared.stmt.Stmt.TheVariants as stmt
use Rattle.gx_dsnap.specs.declared.snapshot.Snapshot.{Snapshot}
use Rattle.gx_dtx.specs.Lives.{live_of}
use Rattle.gx_dtx.specs.Nodes.{has, with_node}
use Rattle.gx_dtx.specs.Orders.{message_of}
use Rattle.gx_dtx.specs.Rules.{abort_found, awaited_order, begun, changed, enlisted, with_live}
use Rattle.gx_dtx.specs.Table.{Table, find_txn, horizon_of, new_txn, runs, xmin_of}
use Rattle.gx_dtx.specs.declared.order.Order.{Order}
use Rattle.gx_dtx.specs.declared.order.Order.TheVariants as order
use Rattle.gx_dtx.specs.declared.txn.Txn.{Txn}
use Rattle.gx_dtx.proofs.Finds.{find-push, find-with}
use Rattle.gx_meaning.specs.declared.fault.ArithFault.{ArithFault}
use Rattle.gx_msg.specs.declared.message.Message.{Message}
use Rattle.gx_msg.specs.declared.message.Message.TheVariants as message
use Rattle.gx_msg.specs.declared.message.Out.{Out}
use Rattle.gx_meaning.specs.Plan.{plan_of}
use Rattle.gx_meaning.specs.declared.piece.Piece.{Piece}
use Rattle.gx_script.specs.declared.Script.{Script}
use Rattle.gx_script.specs.Session.{line_step}
use Rattle.gx_script.specs.declared.line_step.LineStep.{LineStep}
use Rattle.gx_script.specs.declared.line_step.LineStep.TheVariants as step
use Rattle.gx_script.specs.declared.state.Block.{Block}
use Rattle.gx_script.specs.declared.state.Block.TheVariants.{Failed, Open, Outside}
use Rattle.gx_store.specs.Writes.{dist_of}
use Rattle.gx_store.specs.declared.node.NodeEvent.{NodeEvent}
use Rattle.gx_store.specs.declared.node.NodeEvent.TheVariants as event
use Rattle.gx_rules.specs.AtCoordinator.{Reading, awaited, begins, command_order, dispatches, ends_in, enlisted_all, goes, goes_out, kept_at, next_cid, next_line, nodes_in, on_event, on_line, order_to, orders_of, reads_by, reads_for, resends, starts, starts_line, status_order, table_of, takes_snapshot, goes_on_locked, if_granted, requests, resumes}
use Rattle.gx_store.specs.Locks.{table_lock}
use Rattle.gx_rules.specs.Coordinators.{with_work, Command, Coord, CoordTurn, Work, new_work, no_work, session_of, work_of}
use Rattle.gx_rules.specs.Maps.{with_at}
use Rattle.gx_rules.specs.Rounds.{awaits_graph}
use Rattle.gx_rules.specs.Snapshots.{snapshot_of}
use Rattle.gx_law_order.specs.Lists.{Each}
use Rattle.gx_law_order.specs.Standings.{gx}
use Rattle.gx_law_order.specs.Stages.{Stage, stage}
use Rattle.gx_law_order.specs.Stages.Stage.{Live}
use Rattle.gx_law_reads.proofs.Heights.{Rises, Sorted, begun-rises, changed-rises, enlisted-rises, live-rises, rises-same, rises-then}
use Rattle.gx_law_reads.proofs.Held.{Held, Latest, held-now, horizon-xmin}
use Rattle.gx_law_reads.proofs.Plain.{abort-mild, sent-fine}
use Rattle.gx_law_reads.proofs.Reading.{CommandLow, CountedIn, Fine, OrderHeld, OrderLow, OutFine, Reads, Stood, Went, Works, apart-same, at-self, le-refl, one-went, reads-none, step-apart}
use Rattle.gx_law_reads.proofs.Turns.{WentBy, begins-round-went, commits-went, counted-by, live-apart, live-here, message-went, rest-went, rolled-went, went-then, work-went}
use Rattle.gx_rules.specs.Locks.{with_hold}
use Rattle.gx_waits.specs.declared.claim.Claim.{Claim}
use Rattle.gx_locks.specs.Locks.{resumed, wait_of}
use Rattle.gx_waits.specs.Claims.{is_clear}

-- ENLISTING
pub record Enlists (d u : Table) (g : ℕ) : Type 0 where
  pub finds : (j : ℕ) → eqb j g ≡ false → find_txn u (gx j) ≡ find_txn d (gx j)
  pub same : stage (find_txn u (gx g)) ≡ stage (find_txn d (gx g))
  pub live : live_of (find_txn u (gx g)) ≡ live_of (find_txn d (gx g))

kept-both : (f : Txn → Txn) → ((t : Txn) → (f t).phase ≡ t.phase) → ((t : Txn) → (f t).live ≡ t.live) → (o : Option Txn) → (stage (option_map f o) ≡ stage o) × (live_of (option_map f o) ≡ live_of o)
kept-both f p l None = (refl, refl)
kept-both f p l (Some t) = (ap Rattle.gx_law_order.specs.Stages.stage_in (p t), l t)

abbrev joins : Node → Txn → Txn
joins i t = record t { participants = with_node i t.participants }

one-enlists : (d : Table) (g : ℕ) (i : Node) → Enlists d (enlisted d (gx g) i) g
one-enlists d g i =
    let here : find_txn (enlisted d (gx g) i) (gx g) ≡ option_map (joins i) (find_txn d (gx g)) = find-with (gx g) (gx g) (joins i) d.txns ∙ ap (λ b. cond b (option_map (joins i) (find_txn d (gx g))) (find_txn d (gx g))) (eqb-self g) in
    let k = kept-both (joins i) (λ t. refl) (λ t. refl) (find_txn d (gx g)) in
    record {
      finds = λ j e. find-with (gx g) (gx j) (joins i) d.txns ∙ ap (λ b. cond b (option_map (joins i) (find_txn d (gx g))) (find_txn d (gx j))) e;
      same = ap stage here ∙ k.0;
      live = ap live_of here ∙ k.1;
    }

pub all-enlist : (nodes : List Node) (d : Table) (g : ℕ) → Enlists d (enlisted_all d (gx g) nodes) g
all-enlist [] d g = record { finds = λ j e. refl; same = refl; live = refl }
all-enlist (i ∷ is) d g = joined (one-enlists d g i) (all-enlist is (enlisted d (gx g) i) g)
  where
    joined : Enlists d (enlisted d (gx g) i) g → Enlists (enlisted d (gx g) i) (enlisted_all (enlisted d (gx g) i) (gx g) is) g → Enlists d (enlisted_all (enlisted d (gx g) i) (gx g) is) g
    joined a b = record { finds = λ j e. b.finds j e ∙ a.finds j e; same = b.same ∙ a.same; live = b.live ∙ a.live }

-- READING
module _ (c : Coord) (g : ℕ) (s : Stood c.table c.works) (latest : Latest c.table) where
  pub record ReadsTo (r : Reading) : Type 0 where
    pub rises : Rises c.table r.coord.table
    pub finds : (j : ℕ) → eqb j g ≡ false → find_txn r.coord.table (gx j) ≡ find_txn c.table (gx j)
    pub same : stage (find_txn r.coord.table (gx g)) ≡ stage (find_txn c.table (gx g))
    pub works : (j : ℕ) → eqb j g ≡ false → r.coord.works j ≡ c.works j
    pub plain : (r.coord.works g).level ≡ ReadCommitted → (r.coord.works g).snapshot ≡ None
    pub kept : stage (find_txn r.coord.table (gx g)) ≡ Live → (x : Snapshot) → (r.coord.works g).snapshot ≡ Some x → Held (live_of (find_txn r.coord.table (gx g))) x
    pub held : stage (find_txn r.coord.table (gx g)) ≡ Live → (x : Snapshot) → r.snapshot ≡ Some x → Held (live_of (find_txn r.coord.table (gx g))) x

  reads-nothing : ReadsTo (record { coord = c; snapshot = None; marks = [] })
  reads-nothing = record { rises = rises-same c.table s.sorted; finds = λ j e. refl; same = refl; works = λ j e. refl; plain = (s.reads g).plain; kept = (s.reads g).kept; held = λ l x e. absurd (cc) }

  reads-kept : (x : Snapshot) → (c.works g).snapshot ≡ Some x → ReadsTo (record { coord = c; snapshot = Some x; marks = [] })
  reads-kept x is =
      record { rises = rises-same c.table s.sorted; finds = λ j e. refl; same = refl; works = λ j e. refl; plain = (s.reads g).plain; kept = (s.reads g).kept; held = λ l y e. (s.reads g).kept l y (is ∙ e) }

  reads-now : (cid : Cid) → ReadsTo (takes_snapshot c (gx g) cid (c.works g))
  reads-now cid =
      record {
        rises = live-rises c.table (gx g) (Some (xmin_of c.table)) s.sorted (horizon-xmin c.table latest);
        finds = λ j e. live-apart c.table g j (Some (xmin_of c.table)) e;
        same = ap stage (live-here c.table g (Some (xmin_of c.table))) ∙ same_stage (find_txn c.table (gx g));
        works = λ j e. apart-same c.works g w j e;
        plain = λ e. ap (λ (v : Work). v.snapshot) (at-self c.works g w) ∙ ap (λ l. kept_at l (snapshot_of c.table)) (sym (ap (λ (v : Work). v.level) (at-self c.works g w)) ∙ e);
        kept = λ l x e. held_now l x (kept_is w.level x (sym (ap (λ (v : Work). v.snapshot) (at-self c.works g w)) ∙ e));
        held = λ l x e. held_now l x (some-same (snapshot_of c.table) x e);
      }
    where
      w : Work
      w = record (c.works g) { snapshot = kept_at (c.works g).level (snapshot_of c.table) }

      same_stage : (o : Option Txn) → stage (option_map (λ (t : Txn). record t { live = Some (xmin_of c.table) }) o) ≡ stage o
      same_stage None = refl
      same_stage (Some t) = refl

      kept_is : (l : Level) (x : Snapshot) → kept_at l (snapshot_of c.table) ≡ Some x → snapshot_of c.table ≡ x
      kept_is ReadCommitted x e = absurd (none-some (kept_at ReadCommitted (snapshot_of c.table)) x refl e)
      kept_is RepeatableRead x e = some-same (snapshot_of c.table) x e

      absent-live : (o : Option Txn) → stage o ≡ Live → (live_of (option_map (λ (t : Txn). record t { live = Some (xmin_of c.table) }) o) ≡ Some (xmin_of c.table))
      absent-live None e = absurd (differ e)
        where
          differ : Rattle.gx_law_order.specs.Stages.Stage.Absent ≡ Live → ⊥
          differ e = cc
      absent-live (Some t) e = refl

      held_now : stage (find_txn (with_live c.table (gx g) (Some (xmin_of c.table))) (gx g)) ≡ Live → (x : Snapshot) → snapshot_of c.table ≡ x → Held (live_of (find_txn (with_live c.table (gx g) (Some (xmin_of c.table))) (gx g))) x
      held_now l x e =
          subst (λ (y : Option Gxid). Held y x) (sym (ap live_of (live-here c.table g (Some (xmin_of c.table))) ∙ absent-live (find_txn c.table (gx g)) (sym (same_stage (find_txn c.table (gx g))) ∙ sym (ap stage (live-here c.table g (Some (xmin_of c.table)))) ∙ l)))
          (subst (Held (Some (xmin_of c.table))) e (held-now c.table s.sorted))

  reads-by : (cid : Cid) (x : Option Snapshot) → (c.works g).snapshot ≡ x → ReadsTo (reads_by c (gx g) cid (c.works g) x)
  reads-by cid None e = reads-now cid
  reads-by cid (Some x) e = reads-kept x e

  pub reads-for : (cid : Cid) (line : Stmt) → ReadsTo (reads_for c (gx g) cid (c.works g) line)
  reads-for cid (stmt.Lock t m) = reads-nothing
  reads-for cid (stmt.Begin level) = reads-by cid (c.works g).snapshot refl
  reads-for cid stmt.Commit = reads-by cid (c.works g).snapshot refl
  reads-for cid stmt.Rollback = reads-by cid (c.works g).snapshot refl
  reads-for cid (stmt.Select q) = reads-by cid (c.works g).snapshot refl
  reads-for cid (stmt.Insert t x) = reads-by cid (c.works g).snapshot refl
  reads-for cid (stmt.Update t x z) = reads-by cid (c.works g).snapshot refl
  reads-for cid (stmt.Delete t x) = reads-by cid (c.works g).snapshot refl

  -- GOING OUT
  module _ (line : Stmt) (pieces : List Piece) (r : Reading) (f : ReadsTo r) where
    abbrev cid : Cid
    cid = next_cid (c.works g)

    abbrev u : Table
    u = enlisted_all r.coord.table (gx g) (nodes_in pieces)

    abbrev orders : List Out
    orders = orders_of (gx g) cid (r.coord.works g).level r.snapshot (horizon_of r.coord.table) pieces

    abbrev sent : Command
    sent = record { stmt = line; cid = cid; orders = orders; awaited = nodes_in pieces; count = 0; parts = [] }

    abbrev v : Work
    v = record (r.coord.works g) { last = cid.0; command = Some sent }

    abbrev vs : Works
    vs = with_at r.coord.works g v

    e : Enlists r.coord.table u g
    e = all-enlist (nodes_in pieces) r.coord.table g

    up : Rises r.coord.table u
    up = enlisted-rises (nodes_in pieces) r.coord.table (gx g) f.rises.sorted

    held-at : stage (find_txn u (gx g)) ≡ Live → (x : Snapshot) → r.snapshot ≡ Some x → Held (live_of (find_txn u (gx g))) x
    held-at l x q = subst (λ (y : Option Gxid). Held y x) (sym e.live) (f.held (sym e.same ∙ l) x q)

    order-held : stage (find_txn u (gx g)) ≡ Live → (o : Option Snapshot) → r.snapshot ≡ o → (ps : List Piece) → Each (λ (x : Out). OrderHeld (live_of (find_txn u (gx g))) x.message) (orders_of (gx g) cid (r.coord.works g).level o (horizon_of r.coord.table) ps)
    order-held l o q [] = tt
    order-held l (Some x) q (p ∷ ps) = (held-at l x q, order-held l (Some x) q ps)
    order-held l None q (p ∷ ps) = (tt, order-held l None q ps)

    order-low : (ps : List Piece) → Each (OrderLow (horizon_of u) g) (orders_of (gx g) cid (r.coord.works g).level r.snapshot (horizon_of r.coord.table) ps)
    order-low [] = tt
    order-low (p ∷ ps) = ((up.low, refl), order-low ps)

    one-more : (a n : ℕ) → a + 1 ≡ n → n ≤ a → ⊥
    one-more a n e l = omega arith

    out-reads : Reads (find_txn u (gx g)) v
    out-reads =
        record {
          plain = f.plain;
          kept = λ l x q. subst (λ (y : Option Gxid). Held y x) (sym e.live) (f.kept (sym e.same ∙ l) x q);
          ordered = λ l m q. subst (λ (z : Command). Each (λ (o : Out). OrderHeld (live_of (find_txn u (gx g))) o.message) z.orders) (some-same sent m q) (order-held l r.snapshot refl pieces);
        }

    out-fine : (o : Option Snapshot) → r.snapshot ≡ o → (ps : List Piece) → Each (OutFine u vs) (orders_of (gx g) cid (r.coord.works g).level o (horizon_of r.coord.table) ps)
    out-fine o q [] = tt
    out-fine (Some x) q (p ∷ ps) = ((up.low, λ l m k h. held-at l x q), out-fine (Some x) q ps)
    out-fine None q (p ∷ ps) = ((up.low, tt), out-fine None q ps)

    out-went : WentBy c (goes_out (gx g) cid line pieces r)
    out-went =
        record {
          went = one-went c.table u c.works vs g s (rises-then c.table r.coord.table u f.rises up) (λ j q. e.finds j q ∙ f.finds j q) (λ j q. apart-same r.coord.works g v j q ∙ f.works j q)
              (subst (Reads (find_txn u (gx g))) (sym (at-self r.coord.works g v)) out-reads)
              (subst (λ (w : Work). CommandLow (horizon_of u) g w.command) (sym (at-self r.coord.works g v)) (order-low pieces))
              (λ n x below k h. subst (λ w. Fine (find_txn u (gx g)) w n x) (sym (at-self r.coord.works g v)) (λ l m q z. absurd (one-more (c.works g).last n (ap (λ (y : Command). y.cid.0) (some-same sent m q) ∙ z) (k (sym f.same ∙ sym e.same ∙ l)))));
          outs = out-fine r.snapshot refl pieces;
        }

  -- a constant faults
  fault-went : (line : Stmt) (fault : ArithFault) (r : Reading) → ReadsTo r → WentBy c (goes (gx g) (next_cid (c.works g)) line r (Err fault))
  fault-went line fault r f =
      record {
        went = one-went c.table (changed r.coord.table (gx g) (abort_found (gx g) (find_txn r.coord.table (gx g)))) c.works (with_at r.coord.works g no_work) g s
            (rises-then c.table r.coord.table _ f.rises (changed-rises r.coord.table (gx g) (abort_found (gx g) (find_txn r.coord.table (gx g))) f.rises.sorted))
            (λ j q. step-apart r.coord.table g j (abort_found (gx g) (find_txn r.coord.table (gx g))).step f.rises.sorted q ∙ f.finds j q) (λ j q. apart-same r.coord.works g no_work j q ∙ f.works j q)
            (subst (Reads (find_txn (changed r.coord.table (gx g) (abort_found (gx g) (find_txn r.coord.table (gx g)))) (gx g))) (sym (at-self r.coord.works g no_work)) (reads-none _))
            (subst (λ (w : Work). CommandLow (horizon_of (changed r.coord.table (gx g) (abort_found (gx g) (find_txn r.coord.table (gx g))))) g w.command) (sym (at-self r.coord.works g no_work)) tt)
            (λ n x below k h. subst (λ w. Fine (find_txn (changed r.coord.table (gx g) (abort_found (gx g) (find_txn r.coord.table (gx g)))) (gx g)) w n x) (sym (at-self r.coord.works g no_work)) (λ l m q z. absurd (none-some no_work.command m refl q)));
        outs = sent-fine (changed r.coord.table (gx g) (abort_found (gx g) (find_txn r.coord.table (gx g)))) (with_at r.coord.works g no_work) (abort_found (gx g) (find_txn r.coord.table (gx g))).out.outs (abort-mild (gx g) (find_txn r.coord.table (gx g))).sent;
      }

  goes-went : (line : Stmt) (r : Reading) (plan : Result (List Piece) ArithFault) → ReadsTo r → WentBy c (goes (gx g) (next_cid (c.works g)) line r plan)
  goes-went line r (Ok pieces) f = out-went line pieces r f
  goes-went line r (Err fault) f = fault-went line fault r f

  pub locked-went : (script : Script) (line : Stmt) → WentBy c (goes_on_locked script c (gx g) line)
  locked-went script line = goes-went line _ (plan_of script.segments (dist_of script.tables (table_of line)) (gx g) (next_cid (c.works g)) line) (reads-for (next_cid (c.works g)) line)

-- WITH ITS TABLE'S LOCK
-- that a statement waits says nothing of snapshots
pub waiting-went : (d : Table) (ws : Works) (g : ℕ) (o : Option Stmt) → Stood d ws → Went d ws d (with_at ws g (record (ws g) { waiting = o }))
waiting-went d ws g o s = work-went d ws g (record (ws g) { waiting = o }) s (record { plain = (s.reads g).plain; kept = (s.reads g).kept; ordered = (s.reads g).ordered }) (s.orders g) (λ cid x f. f)

waiting-counts : (d : Table) (ws : Works) (g : ℕ) (o : Option Stmt) (m : Message) → CountedIn d ws m → CountedIn d (with_at ws g (record (ws g) { waiting = o })) m
waiting-counts d ws g o = counted-by d d ws (with_at ws g (record (ws g) { waiting = o })) (le-refl d.next.0) (λ j n. refl) (λ j n. last-same j)
  where
    last-same : (j : ℕ) → (with_at ws g (record (ws g) { waiting = o }) j).last ≡ (ws j).last
    last-same j = by_test (eqb j g) refl
      where
        by_test : (b : Bool) → eqb j g ≡ b → (if b then record (ws g) { waiting = o } else ws j).last ≡ (ws j).last
        by_test true e = ap (λ k. (ws k).last) (sym (eqb-true j g e))
        by_test false e = refl

module _ (c : Coord) (g : ℕ) (s : Stood c.table c.works) (latest : Latest c.table) (script : Script) (line : Stmt) where
  granted-went : (wanted : Claim) (b : Bool) → WentBy c (if_granted script c (gx g) line wanted b)
  granted-went wanted true = let x = locked-went (record c { locks = with_hold c.locks wanted }) g s latest script line in record { went = x.went; outs = x.outs }
  granted-went wanted false = record { went = waiting-went c.table c.works g (Some line) s; outs = tt }

  request-went : (o : Option Claim) → WentBy c (requests script c (gx g) line o)
  request-went None = locked-went c g s latest script line
  request-went (Some wanted) = granted-went wanted (is_clear c.locks.holds c.locks.waits wanted)

  pub dispatch-went : WentBy c (dispatches script c (gx g) line)
  dispatch-went = request-went (table_lock script (gx g) line)

-- and behind a wait
resumes-went : (c : Coord) (g : ℕ) → Stood c.table c.works → Latest c.table → (script : Script) (o : Option Claim) (line : Option Stmt) → WentBy c (resumes script c (gx g) o line)
resumes-went c g s latest script None line = rest-went c s
resumes-went c g s latest script (Some wanted) None = rest-went c s
resumes-went c g s latest script (Some wanted) (Some line) =
    let w = waiting-went c.table c.works g None s in
    let x = locked-went (with_work (record c { locks = resumed c.locks (gx g) (Some wanted) }) (gx g) (record (c.works g) { waiting = None })) g w.stood latest script line in
    record { went = went-then c.table c.works c.table (with_at c.works g (record (c.works g) { waiting = None })) _ _ w (waiting-counts c.table c.works g None) x.went; outs = x.outs }

-- A TRANSACTION BEGINS
pub begun-find : (d : Table) (j : ℕ) → Sorted d → find_txn (begun d) (gx j) ≡ cond (eqb j d.next.0) (Some new_txn) (find_txn d (gx j))
begun-find d j s = find-push d.next (gx j) new_txn d.txns s.drawn

module _ (d : Table) (ws : Works) (session : SessionId) (level : Level) (s : Stood d ws) where
  abbrev new : ℕ
  new = d.next.0

  apart-find : (j : ℕ) → eqb j new ≡ false → find_txn (begun d) (gx j) ≡ find_txn d (gx j)
  apart-find j e = begun-find d j s.sorted ∙ ap (λ b. cond b (Some new_txn) (find_txn d (gx j))) e

  pub begins-went : Went d ws (begun d) (with_at ws new (new_work session level))
  begins-went =
      one-went d (begun d) ws (with_at ws new (new_work session level)) new s (begun-rises d s.sorted) (λ j e. apart-find j e) (λ j e. apart-same ws new (new_work session level) j e)
      (subst (Reads (find_txn (begun d) (gx new))) (sym (at-self ws new (new_work session level))) (record { plain = λ e. refl; kept = λ l x e. absurd (none-some (new_work session level).snapshot x refl e); ordered = λ l m e. absurd (none-some (new_work session level).command m refl e) }))
      (subst (λ (w : Work). CommandLow (horizon_of (begun d)) new w.command) (sym (at-self ws new (new_work session level))) tt)
      (λ cid x n k f. absurd (over new n))
    where
      over : (a : ℕ) → a < a → ⊥
      over a l = omega arith

  differs : (j n : ℕ) → j < n → eqb j n ≡ false
  differs j n l = grind (arith, nat_tests)

  more : (a : ℕ) → a ≤ a + 1
  more a = omega arith

  pub begins-counts : (m : Message) → CountedIn d ws m → CountedIn (begun d) (with_at ws new (new_work session level)) m
  begins-counts =
      counted-by d (begun d) ws (with_at ws new (new_work session level)) (more d.next.0) (λ j l. ap stage (apart-find j (differs j new l))) (λ j l. ap (λ (w : Work). w.last) (apart-same ws new (new_work session level) j (differs j new l)))

  pub begins-latest : Latest d → Latest (begun d)
  begins-latest k = record { all = λ h one l e. by_test h one l e (eqb h new) refl; drawn = less k.drawn }
    where
      less : {a b : ℕ} → a < b → a < b + 1
      less l = omega arith

      clash : true ≡ false → ⊥
      clash e = cc

      by_test : (h : ℕ) → 1 ≤ h → h < new + 1 → runs (find_txn (begun d) (gx h)) ≡ false → (b : Bool) → eqb h new ≡ b → h ≤ Rattle.gx_rules.specs.Snapshots.latest_number d.latest_ended
      by_test h one l e true q = absurd (clash (sym (ap runs (begun-find d h s.sorted ∙ ap (λ b. cond b (Some new_txn) (find_txn d (gx h))) q)) ∙ e))
      by_test h one l e false q = k.all h one (lt-next h new l q) (sym (ap runs (apart-find h q)) ∙ e)

-- LINES
module _ (script : Script) (c : Coord) (s : Stood c.table c.works) (latest : Latest c.table) where
  alone-went : (c0 : Coord) → (session : SessionId) (line : Stmt) → c0.table ≡ c.table → c0.works ≡ c.works → Stood c0.table c0.works → Latest c0.table → WentBy c0 (dispatches script (begins c0 session ReadCommitted) c0.table.next line)
  alone-went c0 session line a b z k =
      let w = begins-went c0.table c0.works session ReadCommitted z in
      let t = dispatch-went (begins c0 session ReadCommitted) c0.table.next.0 w.stood (begins-latest c0.table c0.works session ReadCommitted z k) script line in
      record { went = went-then c0.table c0.works (begun c0.table) (with_at c0.works c0.table.next.0 (new_work session ReadCommitted)) _ _ w (begins-counts c0.table c0.works session ReadCommitted z) t.went; outs = t.outs }

  line-went : (session : SessionId) (line : Stmt) (asked : LineStep) → WentBy c (on_line script (starts_line c session asked) session line asked)
  line-went session line (step.Answer plain) = let x = rest-went c s in record { went = x.went; outs = tt }
  line-went session line step.InFailedBlock = let x = rest-went c s in record { went = x.went; outs = tt }
  line-went session line step.NotInBlock = let x = rest-went c s in record { went = x.went; outs = tt }
  line-went session line (step.BeginBlock level) = record { went = begins-went c.table c.works session level s; outs = tt }
  line-went session line step.CommitBlock =
      let x = commits-went (starts_line c session step.CommitBlock) (session_of (starts_line c session step.CommitBlock) session).transaction.0 s in record { went = x.went; outs = x.outs }
  line-went session line step.RollbackBlock =
      let x = rolled-went (starts_line c session step.RollbackBlock) (session_of (starts_line c session step.RollbackBlock) session).transaction.0 [] s in record { went = x.went; outs = x.outs }
  line-went session line (step.Command true) =
      let x = alone-went (starts_line c session (step.Command true)) session line refl refl s latest in record { went = x.went; outs = x.outs }
  line-went session line (step.Command false) =
      let x = dispatch-went (starts_line c session (step.Command false)) (session_of (starts_line c session (step.Command false)) session).transaction.0 s latest script line in record { went = x.went; outs = x.outs }

  start-went : (session : SessionId) (line : Option Stmt) → WentBy c (starts script c session line)
  start-went session None = rest-went c s
  start-went session (Some line) = line-went session line (line_step (session_of c session).state.block line)

  end-went : (session : SessionId) (b : Block) → WentBy c (ends_in c session b)
  end-went session (Open level) = let x = rolled-went (Rattle.gx_rules.specs.Coordinators.with_state c session Rattle.gx_script.specs.Session.idle_outside) (session_of c session).transaction.0 [] s in record { went = x.went; outs = x.outs }
  end-went session Failed = let x = rest-went c s in record { went = x.went; outs = tt }
  end-went session Outside = rest-went c s

  -- SENT AGAIN
  order-found : (i : Node) (g : ℕ) (m : Command) → (c.works g).command ≡ Some m → (os : List Out) → Each (OrderLow (horizon_of c.table) g) os → (stage (find_txn c.table (gx g)) ≡ Live → Each (λ (o : Out). OrderHeld (live_of (find_txn c.table (gx g))) o.message) os) → (told : Message) → order_to i os ≡ Some told → OutFine c.table c.works (record { node = i; message = told })
  order-found i g m has_it [] low held told e = absurd (none-some (order_to i []) told refl e)
  order-found i g m has_it (o ∷ os) low held told e = by_test (eqb o.node.0 i.0) e (λ q. order-found i g m has_it os low.1 (λ l. (held l).1) told q)
    where
      one : (n : Message) → OrderLow (horizon_of c.table) g (record { node = i; message = n }) → (stage (find_txn c.table (gx g)) ≡ Live → OrderHeld (live_of (find_txn c.table (gx g))) n) → OutFine c.table c.works (record { node = i; message = n })
      one (message.Exec h k level (Some x) horizon slice) l f = (l.0, subst (λ j. Fine (find_txn c.table (gx j)) (c.works j) k.0 x) (sym l.1) (λ live q z y. f live))
      one (message.Exec h k level None horizon slice) l f = (l.0, tt)
      one (message.Prepare h) l f = (tt, tt)
      one (message.Commit h) l f = (tt, tt)
      one (message.CommitPrepared h) l f = (tt, tt)
      one (message.Abort h) l f = (tt, tt)
      one (message.Forget h) l f = (tt, tt)
      one (message.Answer h r) l f = (tt, tt)
      one (message.Collect round) l f = (tt, tt)
      one (message.Graph round graph) l f = (tt, tt)
      one message.Up l f = (tt, tt)

      by_test : (b : Bool) → (if b then Some o.message else order_to i os) ≡ Some told → (order_to i os ≡ Some told → OutFine c.table c.works (record { node = i; message = told })) → OutFine c.table c.works (record { node = i; message = told })
      by_test true q more = subst (λ n. OutFine c.table c.works (record { node = i; message = n })) (some-same o.message told q) (one o.message low.0 (λ l. (held l).0))
      by_test false q more = more q

  status-fine : (i : Node) (g : Gxid) (o : Option Order) (told : Message) → status_order g o ≡ Some told → OutFine c.table c.works (record { node = i; message = told })
  status-fine i g None told e = absurd (none-some (status_order g None) told refl e)
  status-fine i g (Some o) told e = subst (λ n. OutFine c.table c.works (record { node = i; message = n })) (some-same (message_of o g) told e) (one o)
    where
      one : (o : Order) → OutFine c.table c.works (record { node = i; message = message_of o g })
      one order.Prepare = (tt, tt)
      one order.Commit = (tt, tt)
      one order.CommitPrepared = (tt, tt)
      one order.Abort = (tt, tt)
      one order.Forget = (tt, tt)

  awaited-fine : (i : Node) (g : ℕ) (m : Option Command) → (c.works g).command ≡ m → (told : Message) → command_order m i (status_order (gx g) (awaited_order c.table (gx g) i)) ≡ Some told → OutFine c.table c.works (record { node = i; message = told })
  awaited-fine i g None q told e = status-fine i (gx g) (awaited_order c.table (gx g) i) told e
  awaited-fine i g (Some m) q told e = by_test (has i m.awaited) e
    where
      by_test : (b : Bool) → (if b then order_to i m.orders else status_order (gx g) (awaited_order c.table (gx g) i)) ≡ Some told → OutFine c.table c.works (record { node = i; message = told })
      by_test true e = order-found i g m q m.orders (subst (CommandLow (horizon_of c.table) g) q (s.orders g)) (λ l. (s.reads g).ordered l m q) told e
      by_test false e = status-fine i (gx g) (awaited_order c.table (gx g) i) told e

  again-went : (i : Node) (g : ℕ) (told : Option Message) → awaited c (gx g) i ≡ told → WentBy c (resends c i told)
  again-went i g None e = rest-went c s
  again-went i g (Some told) e = let x = rest-went c s in record { went = x.went; outs = (awaited-fine i g (c.works g).command refl told e, tt) }

  pub event-went : (x : NodeEvent) (fails : Bool) → WentBy c (on_event script c x fails)
  event-went (event.Deliver from envelope) fails = message-went c s from fails envelope.message
  event-went (event.Start session) fails = start-went session (next_line script c session)
  event-went (event.End session) fails = end-went session (session_of c session).state.block
  event-went (event.Resend i (Some g)) fails = again-went i g.0 (awaited c g i) refl
  event-went (event.Resend i None) fails = by_test (awaits_graph c i)
    where
      by_test : (b : Bool) → WentBy c (resends c i (if b then Some (message.Collect c.rounds) else None))
      by_test true = let x = rest-went c s in record { went = x.went; outs = ((tt, tt), tt) }
      by_test false = rest-went c s
  event-went (event.Resume g) fails = resumes-went c g.0 s latest script (wait_of c.locks g) (work_of c g).waiting
  event-went event.Round fails = begins-round-went script c s
