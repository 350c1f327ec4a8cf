-- Commands that go out, and lines that start.
use Rattle.std.proofs.Common.{◌≡◌, inl, ℕ, List, [], ◌∷◌, ◌++◌, Option, Some, None, Result, Ok, Err, Bool, true, false, refl, sym, subst, ap, ◌∙◌, if◌then◌else◌, arith, eqb, append-nil}
use Rattle.std.proofs.lemmas.Bool.{eqb-true}
use Rattle.std.proofs.lemmas.List.{append_assoc}
use Rattle.std.specs.Prelude.{option_map}
use Rattle.gx_lemmas.proofs.Numbers.{eqb-self}
use Rattle.gx_ids.specs.declared.ids.Cid.{Cid}
use Rattle.gx_ids.specs.declared.ids.Gxid.{Gxid}
use Rattle.gx_ids.specs.declared.ids.Node.{Node}
use Rattle.gx_tree.specs.declared.stmt.Stmt.{Stmt}
use Rattle.gx_tree.specs.declared.stmt.Stmt.TheVariants as stmt
use Rattle.gx_dsnap.specs.declared.snapshot.Snapshot.{Snapshot}
use Rattle.gx_dtx.specs.Nodes.{with_node}
use Rattle.gx_dtx.specs.Rules.{enlisted, on_abort}
use Rattle.gx_dtx.specs.Table.{Table, find_txn, xmin_of}
use Rattle.gx_dtx.specs.declared.txn.Txn.{Txn}
use Rattle.gx_meaning.specs.declared.fault.ArithFault.{ArithFault}
use Rattle.gx_meaning.specs.Plan.{plan_of}
use Rattle.gx_meaning.specs.declared.piece.Piece.{Piece}
use Rattle.gx_script.specs.declared.Script.{Script}
use Rattle.gx_script.specs.declared.state.Pending.{Pending}
use Rattle.gx_store.specs.declared.mark.Mark.{Mark}
use Rattle.gx_store.specs.declared.mark.Mark.TheVariants as mark
use Rattle.gx_store.specs.Writes.{dist_of}
use Rattle.gx_rules.specs.AtCoordinator.{Reading, dispatches, enlisted_all, fault_mark, goes, goes_out, is_refused, kept_at, next_cid, nodes_in, reads_by, reads_for, refusal_of, table_of, takes_snapshot, behind, goes_on_locked, if_granted, requests, waits_for}
use Rattle.gx_store.specs.Locks.{table_lock}
use Rattle.gx_rules.specs.Coordinators.{Command, Coord, Session, Work}
use Rattle.gx_rules.specs.Snapshots.{snapshot_of}
use Rattle.gx_law_order.specs.Seen.{AreEndedSeen}
use Rattle.gx_law_order.proofs.Closings.{behind-good, kept-stage, live-at, past-same, refuses-good, set_live}
use Rattle.gx_law_order.specs.Lists.{Each}
use Rattle.gx_law_order.proofs.Past.{Still, seen-now, still-committed}
use Rattle.gx_law_order.specs.Past.{Past}
use Rattle.gx_law_order.specs.Sessions.{Kept, Placed, Tied, is_live_in, is_nothing_in, is_said, is_working_in}
use Rattle.gx_law_order.specs.Stages.{IsWhole, Stage, stage, stage_of}
use Rattle.gx_law_order.proofs.Stages.{At, txn-at}
use Rattle.gx_law_order.specs.Standings.{gx}
use Rattle.gx_law_order.specs.Stages.Stage.{Closing, Live}
use Rattle.gx_law_order.proofs.Turns.{Base, Good, base-kept, home-is, merged, same-sessions, stage-is, work-is}
use Rattle.gx_rules.specs.Locks.{hold_mark, wait_mark, with_hold}
use Rattle.gx_locks.specs.Locks.{Locks}
use Rattle.gx_waits.specs.Claims.{is_clear}
use Rattle.gx_waits.specs.declared.claim.Claim.{Claim}
use Rattle.gx_law_order.proofs.Queued.{Queues, queue-stays, queue-waits, queued-by}
use Rattle.gx_store.specs.Refusals.{the_coordinator}

-- looking up what is there
pub same-finds : (d : Table) (g j : ℕ) → find_txn d (gx j) ≡ (if eqb j g then find_txn d (gx g) else find_txn d (gx j))
same-finds d g j = by_test (eqb j g) refl
  where
    by_test : (q : Bool) → eqb j g ≡ q → find_txn d (gx j) ≡ (if q then find_txn d (gx g) else find_txn d (gx j))
    by_test true q = ap (λ i. find_txn d (gx i)) (eqb-true j g q)
    by_test false q = refl

-- ENLISTING KEEPS THE STAGE
pub record Enlists (d u : Table) (g : ℕ) : Type 0 where
  pub now : Option Txn
  pub at : At d u g now
  pub same : stage now ≡ stage (find_txn d (gx g))
  pub latest : u.latest_ended ≡ d.latest_ended

abbrev with_part : Node → Txn → Txn
with_part i t = record t { participants = with_node i t.participants }

one-enlists : (d : Table) (g : ℕ) (i : Node) → IsWhole d → Enlists d (enlisted d (gx g) i) g
one-enlists d g i w =
    let a = txn-at d g (with_part i) w in
    record { now = option_map (with_part i) (find_txn d (gx g)); at = record { whole = record { first = a.whole.first; apart = a.whole.apart; drawn = a.whole.drawn }; next = refl; finds = a.finds }; same = kept-stage (with_part i) (λ t. refl) (find_txn d (gx g)); latest = refl }

pub all-enlists : (nodes : List Node) (d : Table) (g : ℕ) → IsWhole d → Enlists d (enlisted_all d (gx g) nodes) g
all-enlists [] d g w = record { now = find_txn d (gx g); at = record { whole = w; next = refl; finds = same-finds d g }; same = refl; latest = refl }
all-enlists (i ∷ is) d g w = joined (one-enlists d g i w) (all-enlists is (enlisted d (gx g) i) g (one-enlists d g i w).at.whole)
  where
    joined : (a : Enlists d (enlisted d (gx g) i) g) → Enlists (enlisted d (gx g) i) (enlisted_all (enlisted d (gx g) i) (gx g) is) g → Enlists d (enlisted_all (enlisted d (gx g) i) (gx g) is) g
    joined a b =
        record {
          now = b.now;
          at = record { whole = b.at.whole; next = b.at.next ∙ a.at.next; finds = λ h. b.at.finds h ∙ merged (eqb h g) b.now a.now (find_txn d (gx h)) (find_txn (enlisted d (gx g) i) (gx h)) (a.at.finds h) };
          same = b.same ∙ ap stage (a.at.finds g ∙ ap (λ q. if q then a.now else find_txn d (gx g)) (eqb-self g)) ∙ a.same;
          latest = b.latest ∙ a.latest;
        }

fault-still : (g : Gxid) (cid : Cid) (line : Stmt) → Each Still (fault_mark g cid line)
fault-still g cid (stmt.Insert t x) = (tt, tt)
fault-still g cid (stmt.Begin level) = tt
fault-still g cid stmt.Commit = tt
fault-still g cid stmt.Rollback = tt
fault-still g cid (stmt.Select q) = tt
fault-still g cid (stmt.Update t x y) = tt
fault-still g cid (stmt.Delete t x) = tt
fault-still g cid (stmt.Lock t m) = tt

working-waits : (p : Pending) → is_working_in p ≡ true → is_nothing_in p ≡ false
working-waits p e = grind arith

module _ {script : Script} (c c1 : Coord) (g s : ℕ) (w1 : Work) (y : Session) (k : Kept script c) (b : Base script c c1 g s w1 y Live) (before : List Mark) (p : Past c1 before) (unqueued : w1.waiting ≡ None) where
  -- with the snapshot by which the command reads
  record ReadsWell (r : Reading) : Type 0 where
    w2 : Work
    none : w2.waiting ≡ None
    base : Base script c r.coord g s w2 y Live
    past : Past r.coord (before ++ r.marks)
    seen : AreEndedSeen before r.marks

  keeps-reading : (x : Option Snapshot) → ReadsWell (record { coord = c1; snapshot = x; marks = [] })
  keeps-reading x = record { w2 = w1; none = unqueued; base = b; past = subst (λ m. Past c1 m) (sym (append-nil before)) p; seen = tt }

  takes-reading : (cid : Cid) → ReadsWell (takes_snapshot c1 (gx g) cid (c1.works g))
  takes-reading cid =
      let a = live-at c1.table g (Some (xmin_of c1.table)) b.whole1 in
      let st : stage (option_map (set_live (Some (xmin_of c1.table))) (find_txn c1.table (gx g))) ≡ stage_of c1 g = kept-stage (set_live (Some (xmin_of c1.table))) (λ t. refl) (find_txn c1.table (gx g)) in
      let w : Work = record (c1.works g) { snapshot = kept_at (c1.works g).level (snapshot_of c1.table) } in
      record {
        w2 = w;
        none = same-waiting ∙ unqueued;
        base = record {
          whole1 = a.whole;
          now1 = option_map (set_live (Some (xmin_of c1.table))) (find_txn c1.table (gx g));
          stage1 = st ∙ stage-is c c1 g s w1 y Live k b;
          finds1 = λ j. a.finds j ∙ merged (eqb j g) _ b.now1 (find_txn c.table (gx j)) (find_txn c1.table (gx j)) (b.finds1 j);
          works1 = λ j. merged (eqb j g) w w1 (c.works j) (c1.works j) (b.works1 j);
          sessions1 = b.sessions1;
          kind = b.kind;
          same_txn = b.same_txn;
          home1 = home-is c c1 g s w1 y Live k b;
          queues1 = record { others = b.queues1.others; here = queued-by g w1.waiting w.waiting c1.locks.waits same-waiting b.queues1.here };
        };
        past = past-same c1 _ before (mark.Snap (gx g) cid (snapshot_of c1.table) ∷ []) g _ p refl a.finds st refl (λ h. refl);
        seen = (seen-now c1 before p, tt);
      }
    where
      same-waiting : (c1.works g).waiting ≡ w1.waiting
      same-waiting = ap (λ (v : Work). v.waiting) (work-is c c1 g s w1 y Live k b)

  by-reading : (cid : Cid) (x : Option Snapshot) → ReadsWell (reads_by c1 (gx g) cid (c1.works g) x)
  by-reading cid None = takes-reading cid
  by-reading cid (Some x) = keeps-reading (Some x)

  for-reading : (cid : Cid) (line : Stmt) → ReadsWell (reads_for c1 (gx g) cid (c1.works g) line)
  for-reading cid (stmt.Lock t m) = keeps-reading None
  for-reading cid (stmt.Begin level) = by-reading cid (c1.works g).snapshot
  for-reading cid stmt.Commit = by-reading cid (c1.works g).snapshot
  for-reading cid stmt.Rollback = by-reading cid (c1.works g).snapshot
  for-reading cid (stmt.Select q) = by-reading cid (c1.works g).snapshot
  for-reading cid (stmt.Insert t x) = by-reading cid (c1.works g).snapshot
  for-reading cid (stmt.Update t x z) = by-reading cid (c1.works g).snapshot
  for-reading cid (stmt.Delete t x) = by-reading cid (c1.works g).snapshot

  module _ (live : is_live_in y.state.block y.state.pending ≡ true) (working : is_working_in y.state.pending ≡ true) where
    out-good : (cid : Cid) (line : Stmt) (pieces : List Piece) (r : Reading) → ReadsWell r → Good script before (goes_out (gx g) cid line pieces r)
    out-good cid line pieces r f =
        let e = all-enlists (nodes_in pieces) r.coord.table g f.base.whole1 in
        let here : stage e.now ≡ Live = e.same ∙ stage-is c r.coord g s f.w2 y Live k f.base in
        let w : Work = (goes_out (gx g) cid line pieces r).coord.works g in
        let d : Coord = (goes_out (gx g) cid line pieces r).coord in
        record {
          kept = base-kept c r.coord g s f.w2 y Live k f.base d e.now (sent r cid line pieces) y e.at.whole e.at.finds (λ j. refl) (same-sessions c r.coord g s f.w2 y Live k f.base)
              (λ z q. tied r cid line pieces (ap (λ (v : Work). v.waiting) (work-is c r.coord g s f.w2 y Live k f.base) ∙ f.none) (home-is c r.coord g s f.w2 y Live k f.base) (stage e.now) here z q) f.base.same_txn (sits r cid line pieces (home-is c r.coord g s f.w2 y Live k f.base) (stage e.now) here)
              (queue-stays r.coord.locks.waits g (r.coord.works g).waiting (queued-by g f.w2.waiting (r.coord.works g).waiting r.coord.locks.waits (ap (λ (v : Work). v.waiting) (work-is c r.coord g s f.w2 y Live k f.base)) f.base.queues1.here));
          past = subst (λ m. Past d m) (append-nil (before ++ r.marks)) (past-same r.coord d (before ++ r.marks) [] g e.now f.past e.at.next e.at.finds e.same e.latest (λ h. refl));
          seen = f.seen;
        }
      where
        differ : Live ≡ Closing → ⊥
        differ z = cc

        clash : (q : Pending) → is_working_in q ≡ true → is_nothing_in q ≡ true → ⊥
        clash q e f = grind arith

        sent : Reading → Cid → Stmt → List Piece → Work
        sent r cid line pieces = record (r.coord.works g) { last = cid.0; command = Some (record { stmt = line; cid = cid; orders = (goes_out (gx g) cid line pieces r).outs; awaited = nodes_in pieces; count = 0; parts = [] }) }

        nothing : (o : Option Stmt) (l : Stmt) → o ≡ None → o ≡ Some l → ⊥
        nothing o l e f = cc

        tied : (r : Reading) (cid : Cid) (line : Stmt) (pieces : List Piece) → (r.coord.works g).waiting ≡ None → (r.coord.works g).session.0 ≡ s → (a : Stage) → a ≡ Live → (z : Session) → z ≡ (if eqb (r.coord.works g).session.0 s then y else c.sessions (r.coord.works g).session.0) → Tied a g (sent r cid line pieces) z
        tied r cid line pieces none home a l z q =
            subst (λ x. Tied a g (sent r cid line pieces) x) (sym (q ∙ ap (λ x. if x then y else c.sessions (r.coord.works g).session.0) (ap (λ x. eqb x s) home ∙ eqb-self s)))
            (record { live = λ m. (b.same_txn, live); closing = λ m. absurd (differ (sym l ∙ m)); awaits = λ m f n. (l, working); busy = λ m f. (ap is_said l, working); waits = λ o f. absurd (nothing (r.coord.works g).waiting o none f) })

        sits : (r : Reading) (cid : Cid) (line : Stmt) (pieces : List Piece) → (r.coord.works g).session.0 ≡ s → (a : Stage) → a ≡ Live → Placed s y a (sent r cid line pieces)
        sits r cid line pieces home a l = record { stands = λ o. (inl l, home); free = λ o n. absurd (clash y.state.pending working n) }

    goes-good : (cid : Cid) (line : Stmt) (r : Reading) (plan : Result (List Piece) ArithFault) → ReadsWell r → Good script before (goes (gx g) cid line r plan)
    goes-good cid line r (Ok pieces) f = out-good cid line pieces r f
    goes-good cid line r (Err fault) f =
        behind-good before r.marks (is_refused r.coord (gx g) (on_abort r.coord.table (gx g)) (fault_mark (gx g) cid line) (refusal_of fault)) (goes (gx g) cid line r (Err fault)) f.seen
        (refuses-good c r.coord g s f.w2 y Live k f.base (before ++ r.marks) f.past refl (fault_mark (gx g) cid line) (refusal_of fault) (fault-still (gx g) cid line) (working-waits y.state.pending working))
        refl (append_assoc r.marks (fault_mark (gx g) cid line) _)

    pub locked-good : (line : Stmt) → Good script before (goes_on_locked script c1 (gx g) line)
    locked-good line = goes-good (next_cid (c1.works g)) line _ (plan_of script.segments (dist_of script.tables (table_of line)) (gx g) (next_cid (c1.works g)) line) (for-reading (next_cid (c1.works g)) line)

-- A command takes its table's lock, where it takes one, or waits for it. Neither is seen by statuses.
module _ (script : Script) (c c1 : Coord) (g s : ℕ) (w1 : Work) (y : Session) (k : Kept script c) (b : Base script c c1 g s w1 y Live) (before : List Mark) (p : Past c1 before) (live : is_live_in y.state.block y.state.pending ≡ true) (working : is_working_in y.state.pending ≡ true) (idle : w1.command ≡ None) (unqueued : w1.waiting ≡ None) (line : Stmt) where
  past-stays : (d : Coord) (ns : List Mark) → d.table ≡ c1.table → Each Still ns → Past d (before ++ ns)
  past-stays d ns same e =
      past-same c1 d before ns 0 (find_txn c1.table (gx 0)) p (ap (λ (q : Table). q.next) same) (λ h. ap (λ (q : Table). find_txn q (gx h)) same ∙ same-finds c1.table 0 h) refl (ap (λ (q : Table). q.latest_ended) same) (λ h. still-committed ns (gx h) e)

  pub held-good : (locks : Locks) (wanted : Claim) → locks.waits ≡ c1.locks.waits → Good script before (behind (hold_mark the_coordinator wanted ∷ []) (goes_on_locked script (record c1 { locks = locks }) (gx g) line))
  held-good locks wanted same =
      behind-good before (hold_mark the_coordinator wanted ∷ []) (goes_on_locked script (record c1 { locks = locks }) (gx g) line) _ tt
      (locked-good c (record c1 { locks = locks }) g s w1 y k
      (record { whole1 = b.whole1; now1 = b.now1; stage1 = b.stage1; finds1 = b.finds1; works1 = b.works1; sessions1 = b.sessions1; kind = b.kind; same_txn = b.same_txn; home1 = b.home1; queues1 = subst (λ l. Queues script c.locks.waits l g w1.waiting) (sym same) b.queues1 })
      (before ++ hold_mark the_coordinator wanted ∷ []) (past-stays (record c1 { locks = locks }) (hold_mark the_coordinator wanted ∷ []) refl (tt, tt)) unqueued live working line) refl refl

  -- it waits: its session keeps it as its line under way
  waits-good : (wanted : Claim) → table_lock script (gx g) line ≡ Some wanted → Good script before (waits_for c1 (gx g) line wanted)
  waits-good wanted e =
      record {
        kept = base-kept c c1 g s w1 y Live k b (waits_for c1 (gx g) line wanted).coord (find_txn c1.table (gx g)) w y b.whole1 (same-finds c1.table g) (λ j. refl) (same-sessions c c1 g s w1 y Live k b)
            (λ z q. tied (stage_of c1 g) (stage-is c c1 g s w1 y Live k b) z q) b.same_txn
            (record { stands = λ o. (inl (stage-is c c1 g s w1 y Live k b), home); free = λ o n. absurd (clash y.state.pending working n) })
            (queue-waits c1.locks.waits g line wanted (queued-by g w1.waiting None c1.locks.waits (sym unqueued) b.queues1.here) e);
        past = past-stays (waits_for c1 (gx g) line wanted).coord (wait_mark the_coordinator wanted ∷ []) refl (tt, tt);
        seen = tt;
      }
    where
      w : Work
      w = record (c1.works g) { waiting = Some line }

      home : (c1.works g).session.0 ≡ s
      home = home-is c c1 g s w1 y Live k b

      no-command : (c1.works g).command ≡ None
      no-command = ap (λ (v : Work). v.command) (work-is c c1 g s w1 y Live k b) ∙ idle

      clash : (q : Pending) → is_working_in q ≡ true → is_nothing_in q ≡ true → ⊥
      clash q e f = grind arith

      differ : Live ≡ Closing → ⊥
      differ z = cc

      nothing : (o : Option Command) (m : Command) → o ≡ None → o ≡ Some m → ⊥
      nothing o m e f = cc

      tied : (a : Stage) → a ≡ Live → (z : Session) → z ≡ (if eqb w.session.0 s then y else c.sessions w.session.0) → Tied a g w z
      tied a l z q =
          subst (λ x. Tied a g w x) (sym (q ∙ ap (λ x. if x then y else c.sessions w.session.0) (ap (λ x. eqb x s) home ∙ eqb-self s)))
          (record {
            live = λ m. (b.same_txn, live);
            closing = λ m. absurd (differ (sym l ∙ m));
            awaits = λ m f n. absurd (nothing (c1.works g).command m no-command f);
            busy = λ m f. absurd (nothing (c1.works g).command m no-command f);
            waits = λ o f. (l, no-command, working);
          })

  request-good : (o : Option Claim) → table_lock script (gx g) line ≡ o → Good script before (requests script c1 (gx g) line o)
  request-good None e = locked-good c c1 g s w1 y k b before p unqueued live working line
  request-good (Some wanted) e = by_test (is_clear c1.locks.holds c1.locks.waits wanted)
    where
      by_test : (q : Bool) → Good script before (if_granted script c1 (gx g) line wanted q)
      by_test true = held-good (with_hold c1.locks wanted) wanted refl
      by_test false = waits-good wanted e

  pub dispatch-good : Good script before (dispatches script c1 (gx g) line)
  dispatch-good = request-good (table_lock script (gx g) line) refl
