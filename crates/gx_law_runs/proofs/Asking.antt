-- What the coordinator's turns send is what they leave awaited: calls and commands.
use Rattle.std.proofs.Common.{◌≡◌, ◌≤◌, ℕ, List, [], ◌∷◌, ◌++◌, Option, Some, None, Result, Ok, Err, Bool, true, false, refl, sym, subst, ap, ◌∙◌, if◌then◌else◌, ◌||◌, arith, eqb}
use Rattle.std.proofs.lemmas.Bool.{eqb-true, or_right}
use Rattle.std.specs.Prelude.{option_map}
use Rattle.gx_lemmas.proofs.Numbers.{eqb-self, eqb-turned}
use Rattle.gx_ids.specs.declared.ids.Cid.{Cid}
use Rattle.gx_ids.specs.declared.ids.Gxid.{Gxid}
use Rattle.gx_ids.specs.declared.ids.Node.{Node}
use Rattle.gx_tree.specs.declared.stmt.Level.{Level}
use Rattle.gx_tree.specs.declared.stmt.Level.TheVariants.{ReadCommitted, RepeatableRead}
use Rattle.gx_tree.specs.declared.stmt.Stmt.{Stmt}
use Rattle.gx_tree.specs.declared.stmt.Stmt.TheVariants as stmt
use Rattle.gx_dsnap.specs.declared.snapshot.Snapshot.{Snapshot}
use Rattle.gx_dtx.specs.Nodes.{has, with_node}
use Rattle.gx_dtx.specs.Rules.{abort_found, changed, commit_found, enlisted, on_abort, order_found, turns}
use Rattle.gx_dtx.specs.Table.{Table, find_txn, horizon_of, participants_in, xmin_of}
use Rattle.gx_dtx.specs.declared.change.Change.{Change}
use Rattle.gx_dtx.specs.declared.outcome.Outcome.{Outcome}
use Rattle.gx_dtx.specs.declared.outcome.Outcome.TheVariants as outcome
use Rattle.gx_dtx.specs.declared.txn.Txn.{Txn}
use Rattle.gx_meaning.specs.declared.fault.ArithFault.{ArithFault}
use Rattle.gx_msg.specs.declared.message.Message.{Message}
use Rattle.gx_msg.specs.declared.message.Message.TheVariants as message
use Rattle.gx_msg.specs.declared.message.Out.{Out}
use Rattle.gx_meaning.specs.Plan.{plan_of}
use Rattle.gx_meaning.specs.declared.piece.Piece.{Piece}
use Rattle.gx_script.specs.declared.Script.{Script}
use Rattle.gx_script.specs.declared.state.Block.{Block}
use Rattle.gx_script.specs.declared.state.Block.TheVariants.{Outside, Open, Failed}
use Rattle.gx_store.specs.declared.answer.Refused.{Refused}
use Rattle.gx_store.specs.declared.mark.Mark.{Mark}
use Rattle.gx_store.specs.Schedule.{is_about}
use Rattle.gx_waits.specs.Claims.{is_clear}
use Rattle.gx_store.specs.Writes.{dist_of}
use Rattle.gx_rules.specs.AtCoordinator.{Reading, answers, awaited, commits, completes, dispatches, enlisted_all, fault_mark, follows, goes, goes_out, is_refused, kept_at, next_cid, nodes_in, order_to, orders_of, reads_by, reads_for, refusal_of, rolls_back, status_order, table_of, takes_snapshot, unless_kept, goes_on_locked, if_granted, requests, resumes}
use Rattle.gx_store.specs.Locks.{table_lock}
use Rattle.gx_rules.specs.Coordinators.{Command, Coord, CoordTurn, Work, no_work, rests, with_work, work_of}
use Rattle.gx_rules.specs.Snapshots.{snapshot_of}
use Rattle.gx_law_order.proofs.Closings.{live-at, set_live}
use Rattle.gx_law_order.specs.Lists.{Each}
use Rattle.gx_law_order.proofs.Stages.{At, changed-at, left_of, txn-at}
use Rattle.gx_law_order.specs.Stages.{IsWhole}
use Rattle.gx_law_order.specs.Standings.{gx}
use Rattle.gx_law_order.proofs.Dispatching.{IsLive}
use Rattle.gx_law_order.proofs.Nodes.{AreApart, apart-with, has-with}
use Rattle.gx_law_runs.proofs.Neat.{CallAsks, IsDone, IsExecOf, Neat, NeatCommand, NeatPhase, NeatTxn, abort-asks, commit-asks, done-neat, done-waiting, txn-less, waiting}
use Rattle.gx_law_runs.proofs.Told.{ArePlanApart, orders-other, plan-apart, sends, sends-orders, told-orders, told-other, told_by}
use Rattle.gx_rules.specs.Locks.{with_hold, with_wait}
use Rattle.gx_waits.specs.declared.claim.Claim.{Claim}
use Rattle.gx_locks.specs.Locks.{Locks, resumed}

-- what was asked before, by node and transaction
abbrev pub Asked : Type 0
Asked = Node → ℕ → Option Message

abbrev pub AreNeat : Coord → Type 0
AreNeat c = (g : ℕ) → Neat g (c.works g) (find_txn c.table (gx g))

-- with what the turn sends it is what is awaited, and each node is sent one message at most
pub record Asks (A : Asked) (turn : CoordTurn) : Type 0 where
  pub asked : (i : Node) (g : ℕ) → awaited turn.coord (gx g) i ≡ told_by i (gx g) (A i g) turn.outs
  pub sends_one : (i : Node) → sends i turn.outs ≤ 1
  pub neat : AreNeat turn.coord

abbrev pub now_asked : Coord → Asked
now_asked c i g = awaited c (gx g) i

pub asks-by : (A B : Asked) (turn : CoordTurn) → ((i : Node) (g : ℕ) → B i g ≡ A i g) → Asks A turn → Asks B turn
asks-by A B turn same f = record { asked = λ i g. f.asked i g ∙ ap (λ a. told_by i (gx g) a turn.outs) (sym (same i g)); sends_one = f.sends_one; neat = f.neat }

pub nothing-sent : 0 ≤ 1
nothing-sent = omega arith

pub rest-asks : (c : Coord) → AreNeat c → Asks (now_asked c) (rests c)
rest-asks c n = record { asked = λ i g. refl; sends_one = λ i. nothing-sent; neat = n }

-- ONE TRANSACTION CHANGES
pub record OneOf (c : Coord) (A : Asked) (turn : CoordTurn) (g : ℕ) (w : Work) (t : Option Txn) : Type 0 where
  pub finds : (h : ℕ) → find_txn turn.coord.table (gx h) ≡ (if eqb h g then t else find_txn c.table (gx h))
  pub works : (h : ℕ) → turn.coord.works h ≡ (if eqb h g then w else c.works h)
  pub others : (i : Node) (h : ℕ) → eqb h g ≡ false → A i h ≡ awaited c (gx h) i
  pub about : (h : ℕ) → eqb h g ≡ false → Each (λ (o : Out). is_about (gx h) o.message ≡ false) turn.outs
  pub here : (i : Node) → waiting w.command t (gx g) i ≡ told_by i (gx g) (A i g) turn.outs
  pub sends_one : (i : Node) → sends i turn.outs ≤ 1
  pub neat : Neat g w t

pub one-asks : (c : Coord) (A : Asked) (turn : CoordTurn) (g : ℕ) (w : Work) (t : Option Txn) → AreNeat c → OneOf c A turn g w t → Asks A turn
one-asks c A turn g w t n o =
    record {
      asked = λ i h. ap (λ (v : Work). waiting v.command (find_txn turn.coord.table (gx h)) (gx h) i) (o.works h) ∙ ap (λ x. waiting (if eqb h g then w else c.works h).command x (gx h) i) (o.finds h) ∙ by_test i h (eqb h g) refl;
      sends_one = o.sends_one;
      neat = λ h. subst (λ v. Neat h v (find_txn turn.coord.table (gx h))) (sym (o.works h)) (subst (Neat h (if eqb h g then w else c.works h)) (sym (o.finds h)) (neat-test h (eqb h g) refl));
    }
  where
    by_test : (i : Node) (h : ℕ) (b : Bool) → eqb h g ≡ b → waiting (if b then w else c.works h).command (if b then t else find_txn c.table (gx h)) (gx h) i ≡ told_by i (gx h) (A i h) turn.outs
    by_test i h true e = subst (λ k. waiting w.command t (gx k) i ≡ told_by i (gx k) (A i k) turn.outs) (sym (eqb-true h g e)) (o.here i)
    by_test i h false e = sym (told-other i (gx h) (A i h) turn.outs (o.about h e) ∙ o.others i h e)

    neat-test : (h : ℕ) (b : Bool) → eqb h g ≡ b → Neat h (if b then w else c.works h) (if b then t else find_txn c.table (gx h))
    neat-test h true e = subst (λ k. Neat k w t) (sym (eqb-true h g e)) o.neat
    neat-test h false e = n h

pub same-works : (c : Coord) (g h : ℕ) → c.works h ≡ (if eqb h g then c.works g else c.works h)
same-works c g h = by_test (eqb h g) refl
  where
    by_test : (b : Bool) → eqb h g ≡ b → c.works h ≡ (if b then c.works g else c.works h)
    by_test true e = ap c.works (eqb-true h g e)
    by_test false e = refl

-- CALLS
module _ (c : Coord) (whole : IsWhole c.table) (n : AreNeat c) (g : ℕ) (A : Asked) (others : (i : Node) (h : ℕ) → eqb h g ≡ false → A i h ≡ awaited c (gx h) i) where
  module _ (ch : Change) (f : CallAsks g (c.works g).writers (λ i. A i g) (find_txn c.table (gx g)) ch) where
    -- with nothing known of it any more, or with a work that awaits nothing
    call-asks : (turn : CoordTurn) (w : Work) → turn.coord.table ≡ changed c.table (gx g) ch → ((h : ℕ) → turn.coord.works h ≡ (if eqb h g then w else c.works h)) → turn.outs ≡ ch.out.outs → IsDone w.command → AreApart w.writers → ((i : Node) → has i w.writers ≡ true → has i (c.works g).writers ≡ true) → Asks A turn
    call-asks turn w table works outs done apart less =
        one-asks c A turn g w (left_of ch.step (find_txn c.table (gx g))) n
        (record {
          finds = λ h. ap (λ (d : Table). find_txn d (gx h)) table ∙ (changed-at c.table g ch whole).finds h;
          works = works;
          others = others;
          about = λ h e. subst (Each (λ (o : Out). is_about (gx h) o.message ≡ false)) (sym outs) (f.about h e);
          here = λ i. done-waiting w.command (left_of ch.step (find_txn c.table (gx g))) (gx g) i done ∙ f.asked i ∙ ap (told_by i (gx g) (A i g)) (sym outs);
          sends_one = λ i. subst (λ os. sends i os ≤ 1) (sym outs) (f.sends_one i);
          neat = record { writers = apart; txn = txn-less (c.works g).writers w.writers (left_of ch.step (find_txn c.table (gx g))) less f.neat; command = done-neat g (participants_in (left_of ch.step (find_txn c.table (gx g)))) w.command done };
        })

    gone-asks : (turn : CoordTurn) → turn.coord.table ≡ changed c.table (gx g) ch → ((h : ℕ) → turn.coord.works h ≡ (if eqb h g then no_work else c.works h)) → turn.outs ≡ ch.out.outs → Asks A turn
    gone-asks turn table works outs = call-asks turn no_work table works outs tt tt (λ i e. absurd (cc))

    pub follow-asks : IsDone (c.works g).command → (o : Outcome) → Asks A (follows c (gx g) (turns c.table (gx g) ch) o)
    follow-asks done outcome.Pending = call-asks _ (c.works g) refl (same-works c g) refl done (n g).writers (λ i e. e)
    follow-asks done outcome.Decided = call-asks _ (c.works g) refl (same-works c g) refl done (n g).writers (λ i e. e)
    follow-asks done outcome.Committed = gone-asks _ refl (λ h. refl) refl
    follow-asks done (outcome.Refused i) = gone-asks _ refl (λ h. refl) refl
    follow-asks done outcome.Ended = call-asks _ (c.works g) refl (same-works c g) refl done (n g).writers (λ i e. e)

  module _ (outside : (i : Node) → has i (participants_in (find_txn c.table (gx g))) ≡ false → A i g ≡ None) where
    abort-call : CallAsks g (c.works g).writers (λ i. A i g) (find_txn c.table (gx g)) (abort_found (gx g) (find_txn c.table (gx g)))
    abort-call = abort-asks g (c.works g).writers (λ i. A i g) (find_txn c.table (gx g)) (n g).txn outside

    pub refused-asks : (why : List Mark) (reason : Refused) → Asks A (is_refused c (gx g) (on_abort c.table (gx g)) why reason)
    refused-asks why reason = gone-asks (abort_found (gx g) (find_txn c.table (gx g))) abort-call _ refl (λ h. refl) refl

    pub rolled-asks : (marks : List Mark) → Asks A (rolls_back c (gx g) marks (on_abort c.table (gx g)))
    rolled-asks marks = gone-asks (abort_found (gx g) (find_txn c.table (gx g))) abort-call _ refl (λ h. refl) refl

  module _ (live : IsLive c g) (done : IsDone (c.works g).command) (none : (i : Node) → A i g ≡ None) where
    commit-call : CallAsks g (c.works g).writers (λ i. A i g) (find_txn c.table (gx g)) (commit_found (gx g) (c.works g).writers (find_txn c.table (gx g)))
    commit-call =
        subst (λ t. CallAsks g (c.works g).writers (λ i. A i g) t (commit_found (gx g) (c.works g).writers t)) (sym live.found)
        (commit-asks g (c.works g).writers (λ i. A i g) live.txn live.active (subst (NeatTxn (c.works g).writers) live.found (n g).txn) (n g).writers none)

    pub commits-asks : Asks A (commits c (gx g))
    commits-asks = follow-asks (commit_found (gx g) (c.works g).writers (find_txn c.table (gx g))) commit-call done _

-- nothing is awaited of a transaction whose commands are answered
pub live-none : (c : Coord) (g : ℕ) → IsLive c g → IsDone (c.works g).command → (i : Node) → awaited c (gx g) i ≡ None
live-none c g live done i = done-waiting (c.works g).command (find_txn c.table (gx g)) (gx g) i done ∙ ap (λ t. status_order (gx g) (order_found i t)) live.found ∙ ap (λ p. status_order (gx g) (Rattle.gx_dtx.specs.Rules.order_in p i)) live.active

-- A CHANGE THAT LEAVES PHASE AND PARTICIPANTS
module _ (f : Txn → Txn) (phase : (t : Txn) → (f t).phase ≡ t.phase) (parts : (t : Txn) → (f t).participants ≡ t.participants) where
  map-order : (i : Node) (t : Option Txn) → order_found i (option_map f t) ≡ order_found i t
  map-order i None = refl
  map-order i (Some t) = ap (λ p. Rattle.gx_dtx.specs.Rules.order_in p i) (phase t)

  map-parts : (t : Option Txn) → participants_in (option_map f t) ≡ participants_in t
  map-parts None = refl
  map-parts (Some t) = parts t

  map-neat : (ws : List Node) (t : Option Txn) → NeatTxn ws t → NeatTxn ws (option_map f t)
  map-neat ws None n = tt
  map-neat ws (Some t) n = (subst AreApart (sym (parts t)) n.0, subst (λ ps. NeatPhase ws ps (f t).phase) (sym (parts t)) (subst (NeatPhase ws t.participants) (sym (phase t)) n.1))

  map-waiting : (m : Option Command) (g : Gxid) (i : Node) (t : Option Txn) → waiting m (option_map f t) g i ≡ waiting m t g i
  map-waiting m g i t = ap (λ o. Rattle.gx_rules.specs.AtCoordinator.command_order m i (status_order g o)) (map-order i t)

  map-all : (g : ℕ) (w v : Work) (t : Option Txn) → v.writers ≡ w.writers → NeatCommand g (participants_in t) v.command → Neat g w t → Neat g v (option_map f t)
  map-all g w v t same command n =
      record {
        writers = subst AreApart (sym same) n.writers;
        txn = map-neat v.writers t (subst (λ ws. NeatTxn ws t) (sym same) n.txn);
        command = subst (λ ps. NeatCommand g ps v.command) (sym (map-parts t)) command;
      }

-- A COMMAND IS ANSWERED
module _ (c : Coord) (whole : IsWhole c.table) (n : AreNeat c) (g : ℕ) (done : IsDone (c.works g).command) where
  answers-asks : (w : Work) → w.writers ≡ (c.works g).writers → Asks (now_asked c) (answers c (gx g) w)
  answers-asks w same = by_level w.level
    where
      by_level : (level : Level) → Asks (now_asked c) (record (answers c (gx g) w) { coord = record (answers c (gx g) w).coord { table = unless_kept level c.table (gx g) } })
      by_level ReadCommitted =
          one-asks c (now_asked c) _ g (record w { command = None }) (option_map (set_live None) (find_txn c.table (gx g))) n
          (record {
            finds = (live-at c.table g None whole).finds;
            works = λ h. refl;
            others = λ i h e. refl;
            about = λ h e. tt;
            here = λ i. map-waiting (set_live None) (λ t. refl) (λ t. refl) None (gx g) i (find_txn c.table (gx g)) ∙ sym (done-waiting (c.works g).command (find_txn c.table (gx g)) (gx g) i done);
            sends_one = λ i. nothing-sent;
            neat = map-all (set_live None) (λ t. refl) (λ t. refl) g (c.works g) (record w { command = None }) (find_txn c.table (gx g)) same tt (n g);
          })
      by_level RepeatableRead =
          one-asks c (now_asked c) _ g (record w { command = None }) (find_txn c.table (gx g)) n
          (record {
            finds = λ h. same-find h (eqb h g) refl;
            works = λ h. refl;
            others = λ i h e. refl;
            about = λ h e. tt;
            here = λ i. sym (done-waiting (c.works g).command (find_txn c.table (gx g)) (gx g) i done);
            sends_one = λ i. nothing-sent;
            neat = record { writers = subst AreApart (sym same) (n g).writers; txn = subst (λ ws. NeatTxn ws (find_txn c.table (gx g))) (sym same) (n g).txn; command = tt };
          })
        where
          same-find : (h : ℕ) (b : Bool) → eqb h g ≡ b → find_txn c.table (gx h) ≡ (if b then find_txn c.table (gx g) else find_txn c.table (gx h))
          same-find h true e = ap (λ k. find_txn c.table (gx k)) (eqb-true h g e)
          same-find h false e = refl

  pub complete-asks : IsLive c g → (b : Block) → Asks (now_asked c) (completes c (gx g) b)
  complete-asks live Outside = commits-asks c whole n g (now_asked c) (λ i h e. refl) live done (live-none c g live done)
  complete-asks live (Open level) = answers-asks (c.works g) refl
  complete-asks live Failed = answers-asks (c.works g) refl

-- A COMMAND GOES OUT
-- the nodes are enlisted
pub record Enlisted (d u : Table) (g : ℕ) (t : Txn) (nodes : List Node) : Type 0 where
  pub now : Txn
  pub phase : now.phase ≡ t.phase
  pub at : At d u g (Some now)
  pub apart : AreApart now.participants
  pub old : (i : Node) → has i t.participants ≡ true → has i now.participants ≡ true
  pub new : (i : Node) → has i nodes ≡ true → has i now.participants ≡ true

enlist : (nodes : List Node) (d : Table) (g : ℕ) (t : Txn) → IsWhole d → find_txn d (gx g) ≡ Some t → AreApart t.participants → Enlisted d (enlisted_all d (gx g) nodes) g t nodes
enlist [] d g t whole f a =
    record { now = t; phase = refl; at = record { whole = whole; next = refl; finds = λ h. by_test h (eqb h g) refl }; apart = a; old = λ i e. e; new = λ i e. absurd (cc) }
  where
    by_test : (h : ℕ) (b : Bool) → eqb h g ≡ b → find_txn d (gx h) ≡ (if b then Some t else find_txn d (gx h))
    by_test h true e = ap (λ k. find_txn d (gx k)) (eqb-true h g e) ∙ f
    by_test h false e = refl
enlist (j ∷ js) d g t whole f a =
    let add : Txn → Txn = λ (x : Txn). record x { participants = with_node j x.participants } in
    let x = txn-at d g add whole in
    let d1 : Table = enlisted d (gx g) j in
    let r : Enlisted d1 (enlisted_all d1 (gx g) js) g (add t) js
    = enlist js d1 g (add t) (record { first = x.whole.first; apart = x.whole.apart; drawn = x.whole.drawn })
    (x.finds g ∙ ap (λ b. if b then option_map add (find_txn d (gx g)) else find_txn d (gx g)) (eqb-self g) ∙ ap (option_map add) f) (apart-with j t.participants a) in
    record {
      now = r.now;
      phase = r.phase;
      at = record { whole = r.at.whole; next = r.at.next; finds = λ h. r.at.finds h ∙ ap (λ o. if eqb h g then Some r.now else o) (x.finds h) ∙ merged (eqb h g) (Some r.now) (option_map add (find_txn d (gx g))) (find_txn d (gx h)) };
      apart = r.apart;
      old = λ i e. r.old i (has-with i j t.participants ∙ or_right (eqb j.0 i.0) (has i t.participants) e);
      new = λ i e. by_split i (eqb j.0 i.0) refl e r;
    }
  where
    merged : (b : Bool) (x y z : Option Txn) → (if b then x else (if b then y else z)) ≡ (if b then x else z)
    merged true x y z = refl
    merged false x y z = refl

    by_split : (i : Node) (b : Bool) → eqb j.0 i.0 ≡ b → (b || has i js) ≡ true → (r : Enlisted (enlisted d (gx g) j) (enlisted_all (enlisted d (gx g) j) (gx g) js) g (record t { participants = with_node j t.participants }) js) → has i r.now.participants ≡ true
    by_split i true q e r = r.old i (has-with i j t.participants ∙ ap (λ b. b || has i t.participants) q)
    by_split i false q e r = r.new i e

-- the order of a node of the command
ordered : (g : ℕ) (c : Cid) (level : Level) (x : Option Snapshot) (horizon : Gxid) (i : Node) (ps : List Piece) → has i (nodes_in ps) ≡ true → IsExecOf g c (order_to i (orders_of (gx g) c level x horizon ps))
ordered g c level x horizon i [] e = absurd (cc)
ordered g c level x horizon i (p ∷ ps) e = by_test (eqb p.node.0 i.0) e (λ q. ordered g c level x horizon i ps q)
  where
    by_test : (b : Bool) → (b || has i (nodes_in ps)) ≡ true → (has i (nodes_in ps) ≡ true → IsExecOf g c (order_to i (orders_of (gx g) c level x horizon ps))) → IsExecOf g c (if b then Some (message.Exec (gx g) c level x horizon p.slice) else order_to i (orders_of (gx g) c level x horizon ps))
    by_test true e r = (refl, refl)
    by_test false e r = r e

module _ (c : Coord) (whole : IsWhole c.table) (n : AreNeat c) (g : ℕ) (live : IsLive c g) (done : IsDone (c.works g).command) where
  pub record ReadsAsks (r : Reading) : Type 0 where
    pub whole_there : IsWhole r.coord.table
    pub neat : AreNeat r.coord
    pub same : (i : Node) (h : ℕ) → awaited r.coord (gx h) i ≡ awaited c (gx h) i
    pub live_there : IsLive r.coord g
    pub done_there : IsDone (r.coord.works g).command

  keeps : (x : Option Snapshot) → ReadsAsks (record { coord = c; snapshot = x; marks = [] })
  keeps x = record { whole_there = whole; neat = n; same = λ i h. refl; live_there = live; done_there = done }

  takes-asks : (cid : Cid) → ReadsAsks (takes_snapshot c (gx g) cid (c.works g))
  takes-asks cid =
      let x : Option Gxid = Some (xmin_of c.table) in
      let a = live-at c.table g x whole in
      let w : Work = record (c.works g) { snapshot = kept_at (c.works g).level (snapshot_of c.table) } in
      let r : CoordTurn = rests (takes_snapshot c (gx g) cid (c.works g)).coord in
      let f : Asks (now_asked c) r
      = one-asks c (now_asked c) r g w (option_map (set_live x) (find_txn c.table (gx g))) n
      (record {
        finds = a.finds;
        works = λ h. refl;
        others = λ i h e. refl;
        about = λ h e. tt;
        here = λ i. map-waiting (set_live x) (λ t. refl) (λ t. refl) (c.works g).command (gx g) i (find_txn c.table (gx g));
        sends_one = λ i. nothing-sent;
        neat = map-all (set_live x) (λ t. refl) (λ t. refl) g (c.works g) w (find_txn c.table (gx g)) refl (n g).command (n g);
      }) in
      record {
        whole_there = a.whole;
        neat = f.neat;
        same = f.asked;
        live_there = record { txn = set_live x live.txn; found = a.finds g ∙ ap (λ b. if b then option_map (set_live x) (find_txn c.table (gx g)) else find_txn c.table (gx g)) (eqb-self g) ∙ ap (option_map (set_live x)) live.found; active = live.active };
        done_there = subst IsDone (sym (ap (λ b. (if b then w else c.works g).command) (eqb-self g))) done;
      }

  by-asks : (cid : Cid) (x : Option Snapshot) → ReadsAsks (reads_by c (gx g) cid (c.works g) x)
  by-asks cid None = takes-asks cid
  by-asks cid (Some x) = keeps (Some x)

  for-asks : (cid : Cid) (line : Stmt) → ReadsAsks (reads_for c (gx g) cid (c.works g) line)
  for-asks cid (stmt.Lock t m) = keeps None
  for-asks cid (stmt.Begin level) = by-asks cid (c.works g).snapshot
  for-asks cid stmt.Commit = by-asks cid (c.works g).snapshot
  for-asks cid stmt.Rollback = by-asks cid (c.works g).snapshot
  for-asks cid (stmt.Select q) = by-asks cid (c.works g).snapshot
  for-asks cid (stmt.Insert t x) = by-asks cid (c.works g).snapshot
  for-asks cid (stmt.Update t x z) = by-asks cid (c.works g).snapshot
  for-asks cid (stmt.Delete t x) = by-asks cid (c.works g).snapshot

  goes-asks : (cid : Cid) (line : Stmt) (r : Reading) → ReadsAsks r → (plan : Result (List Piece) ArithFault) → ArePlanApart plan → Asks (now_asked c) (goes (gx g) cid line r plan)
  goes-asks cid line r f (Err fault) a =
      asks-by (now_asked r.coord) (now_asked c) _ (λ i h. sym (f.same i h))
      (refused-asks r.coord f.whole_there f.neat g (now_asked r.coord) (λ i h e. refl) (λ i e. live-none r.coord g f.live_there f.done_there i) (r.marks ++ fault_mark (gx g) cid line) (refusal_of fault))
  goes-asks cid line r f (Ok ps) a =
      asks-by (now_asked r.coord) (now_asked c) (goes_out (gx g) cid line ps r) (λ i h. sym (f.same i h))
      (one-asks r.coord (now_asked r.coord) (goes_out (gx g) cid line ps r) g sent (Some e.now) f.neat
      (record {
        finds = e.at.finds;
        works = λ h. refl;
        others = λ i h q. refl;
        about = λ h q. orders-other (gx g) cid w.level r.snapshot (horizon_of r.coord.table) (gx h) (eqb-turned h g q) ps;
        here = λ i. by_test i (has i (nodes_in ps)) refl ∙ sym (told-orders (gx g) cid w.level r.snapshot (horizon_of r.coord.table) i (now_asked r.coord i g) ps a);
        sends_one = λ i. sends-orders (gx g) cid w.level r.snapshot (horizon_of r.coord.table) i ps a;
        neat = record {
          writers = (f.neat g).writers;
          txn = (e.apart, subst (NeatPhase w.writers e.now.participants) (sym (e.phase ∙ f.live_there.active)) (λ i q. e.old i (among i q)));
          command = λ i q. (e.new i q, ordered g cid w.level r.snapshot (horizon_of r.coord.table) i ps q);
        };
      }))
    where
      w : Work
      w = r.coord.works g

      own : NeatTxn (r.coord.works g).writers (Some f.live_there.txn)
      own = subst (NeatTxn (r.coord.works g).writers) f.live_there.found (f.neat g).txn

      among : (i : Node) → has i (r.coord.works g).writers ≡ true → has i f.live_there.txn.participants ≡ true
      among = subst (NeatPhase (r.coord.works g).writers f.live_there.txn.participants) f.live_there.active own.1

      e : Enlisted r.coord.table (enlisted_all r.coord.table (gx g) (nodes_in ps)) g f.live_there.txn (nodes_in ps)
      e = enlist (nodes_in ps) r.coord.table g f.live_there.txn f.whole_there f.live_there.found own.0

      sent : Work
      sent = record (r.coord.works g) { last = cid.0; command = Some (record { stmt = line; cid = cid; orders = orders_of (gx g) cid (r.coord.works g).level r.snapshot (horizon_of r.coord.table) ps; awaited = nodes_in ps; count = 0; parts = [] }) }

      active : (i : Node) → status_order (gx g) (order_found i (Some e.now)) ≡ None
      active i = ap (λ p. status_order (gx g) (Rattle.gx_dtx.specs.Rules.order_in p i)) (e.phase ∙ f.live_there.active)

      by_test : (i : Node) (b : Bool) → has i (nodes_in ps) ≡ b → (if b then order_to i (orders_of (gx g) cid (r.coord.works g).level r.snapshot (horizon_of r.coord.table) ps) else status_order (gx g) (order_found i (Some e.now))) ≡ (if b then order_to i (orders_of (gx g) cid (r.coord.works g).level r.snapshot (horizon_of r.coord.table) ps) else awaited r.coord (gx g) i)
      by_test i true q = refl
      by_test i false q = active i ∙ sym (live-none r.coord g f.live_there f.done_there i)

  pub locked-asks : (script : Script) (line : Stmt) → Asks (now_asked c) (goes_on_locked script c (gx g) line)
  locked-asks script line =
      goes-asks (next_cid (c.works g)) line _ (for-asks (next_cid (c.works g)) line) (plan_of script.segments (dist_of script.tables (table_of line)) (gx g) (next_cid (c.works g)) line)
      (plan-apart script.segments (dist_of script.tables (table_of line)) (gx g) (next_cid (c.works g)) line)

-- IT WAITS, OR HAS WAITED
-- what waits of a transaction asks for nothing, and answers nothing
abbrev pub with_waiting : Coord → ℕ → Locks → Option Stmt → Coord
with_waiting c g locks line = with_work (record c { locks = locks }) (gx g) (record (work_of c (gx g)) { waiting = line })

waits-asks : (c : Coord) → AreNeat c → (g : ℕ) (locks : Locks) (line : Option Stmt) (marks : List Mark) → Asks (now_asked c) (record { coord = with_waiting c g locks line; marks = marks; outs = []; item = None })
waits-asks c n g locks line marks =
    one-asks c (now_asked c) (record { coord = with_waiting c g locks line; marks = marks; outs = []; item = None }) g (record (c.works g) { waiting = line }) (find_txn c.table (gx g)) n
    (record {
      finds = λ h. same-find h (eqb h g) refl;
      works = λ h. refl;
      others = λ i h e. refl;
      about = λ h e. tt;
      here = λ i. refl;
      sends_one = λ i. nothing-sent;
      neat = record { writers = (n g).writers; txn = (n g).txn; command = (n g).command };
    })
  where
    same-find : (h : ℕ) (b : Bool) → eqb h g ≡ b → find_txn c.table (gx h) ≡ (if b then find_txn c.table (gx g) else find_txn c.table (gx h))
    same-find h true e = ap (λ k. find_txn c.table (gx k)) (eqb-true h g e)
    same-find h false e = refl

-- WITH ITS TABLE'S LOCK
module _ (c : Coord) (whole : IsWhole c.table) (n : AreNeat c) (g : ℕ) (live : IsLive c g) (done : IsDone (c.works g).command) (script : Script) (line : Stmt) where
  granted-asks : (wanted : Claim) (b : Bool) → Asks (now_asked c) (if_granted script c (gx g) line wanted b)
  granted-asks wanted true =
      let d : Coord = record c { locks = with_hold c.locks wanted } in
      let x = locked-asks d whole n g (record { txn = live.txn; found = live.found; active = live.active }) done script line in
      record { asked = x.asked; sends_one = x.sends_one; neat = x.neat }
  granted-asks wanted false = waits-asks c n g (with_wait c.locks wanted) (Some line) _

  request-asks : (o : Option Claim) → Asks (now_asked c) (requests script c (gx g) line o)
  request-asks None = locked-asks c whole n g live done script line
  request-asks (Some wanted) = granted-asks wanted (is_clear c.locks.holds c.locks.waits wanted)

  pub dispatch-asks : Asks (now_asked c) (dispatches script c (gx g) line)
  dispatch-asks = request-asks (table_lock script (gx g) line)

  -- behind a wait
  pub resume-asks : (wanted : Claim) → Asks (now_asked c) (resumes script c (gx g) (Some wanted) (Some line))
  resume-asks wanted =
      let locks : Locks = resumed c.locks (gx g) (Some wanted) in
      let d : Coord = with_waiting c g locks None in
      let w = waits-asks c n g locks None [] in
      let x = locked-asks d whole w.neat g (record { txn = live.txn; found = live.found; active = live.active }) (subst IsDone (sym (ap (λ (b : Bool). (if b then record (c.works g) { waiting = None } else c.works g).command) (eqb-self g))) done) script line in
      let y = asks-by (now_asked d) (now_asked c) (goes_on_locked script d (gx g) line) (λ i h. sym (w.asked i h)) x in
      record { asked = y.asked; sends_one = y.sends_one; neat = y.neat }
