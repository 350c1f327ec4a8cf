-- Statements that wait: each is its session's line under way; and what is known of its transaction when it goes out.
use Rattle.std.proofs.Common.{◌≡◌, ◌≤◌, inl, inr, ℕ, arith, List, [], Option, Some, None, Bool, true, refl, sym, subst, ap, ◌∙◌}
use Rattle.gx_ids.specs.declared.ids.Gxid.{Gxid}
use Rattle.gx_ids.specs.declared.ids.Node.{Node}
use Rattle.gx_ids.specs.declared.ids.SessionId.{SessionId}
use Rattle.gx_tree.specs.declared.stmt.Level.TheVariants.{ReadCommitted}
use Rattle.gx_tree.specs.declared.stmt.Stmt.{Stmt}
use Rattle.gx_tree.specs.declared.stmt.Stmt.TheVariants as stmt
use Rattle.gx_waits.specs.declared.claim.Claim.{Claim}
use Rattle.gx_locks.specs.Locks.{wait_of}
use Rattle.gx_script.specs.declared.Script.{Script}
use Rattle.gx_script.specs.declared.state.Block.{Block}
use Rattle.gx_script.specs.declared.state.Block.TheVariants as block
use Rattle.gx_script.specs.declared.state.Pending.{Pending}
use Rattle.gx_script.specs.declared.state.Pending.TheVariants as pending
use Rattle.gx_store.specs.declared.event.Event.{Event}
use Rattle.gx_store.specs.declared.event.Event.TheVariants as event
use Rattle.gx_store.specs.declared.mark.Mark.{Mark}
use Rattle.gx_store.specs.declared.node.NodeEvent.TheVariants as here
use Rattle.gx_store.specs.Journals.{is_same_node}
use Rattle.gx_store.specs.Lines.{Outside, is_command, stmt_of}
use Rattle.gx_store.specs.Points.{ends_in, marks_in}
use Rattle.gx_store.specs.Refusals.{the_coordinator}
use Rattle.gx_rules.specs.AtCoordinator.{coord_can}
use Rattle.gx_rules.specs.Coordinators.{Command, Session, Work, session_of, work_of}
use Rattle.gx_rules.specs.Machine.{World, world_of}
use Rattle.gx_law_order.specs.Sessions.{is_working_in}
use Rattle.gx_law_order.specs.Stages.{stage_of}
use Rattle.gx_law_order.specs.Standings.{gx}
use Rattle.gx_law_order.specs.Stages.Stage.{Live}
use Rattle.gx_law_order.proofs.Waiting.{GoesOut, going-out}
use Rattle.gx_law_order.proofs.World.{Knows, world_knows}
use Rattle.gx_law_order.specs.Orders.{level_by}
use Rattle.gx_law_order.specs.Rest.{UnlessStart, unless}
use Rattle.gx_law_order.specs.Scanned.{began_from}
use Rattle.gx_law_order.specs.Standing.{HasSnapshot, IsLineOf, IsStanding, Stands, state_in}
use Rattle.gx_law_order.proofs.Stepping.{Holds}
use Rattle.gx_law_order.proofs.Cancelling.{line-of}
use Rattle.gx_law_order.proofs.Legality.{world-holds}

-- constants that fault in the step in which their statement goes out behind a wait are judged by this crate
pub goes-out-there : (script : Script) (w : World) → Knows script w → (n : Node) (g : Gxid) → is_same_node n the_coordinator ≡ true → coord_can script w.coord (here.Resume g) ≡ true → (A : Type 0) → UnlessStart (event.Resume n g) A
goes-out-there script w k n g there ok A = subst (λ b. unless b A) (sym there) tt

-- THE LINE UNDER WAY
idle-works : (p : Pending) → p ≡ pending.Nothing → is_working_in p ≡ true → ⊥
idle-works p e f = grind arith

held-of : (script : Script) (k : SessionId) (lines : ℕ) (b : Block) (commands : ℕ) (w : Work) (line : Stmt) → IsLineOf script k lines b commands w pending.Command → w.waiting ≡ Some line → w.command ≡ None → stmt_of k lines script.lines ≡ Some line
held-of script k lines b commands w line (inl l) waits none = absurd (nothing w.command none l.1)
  where
    nothing : (o : Option Command) → o ≡ None → o ≡ Some l.0 → ⊥
    nothing o e f = cc
held-of script k lines b commands w line (inr l) waits none = l.3 ∙ sym l.1 ∙ waits

stands-line : (script : Script) (k : SessionId) (ms : List Mark) (next lines : ℕ) (g : Gxid) (w : Work) (line : Stmt) (b : Block) (p : Pending) → Stands script k ms next b p lines g w → is_working_in p ≡ true → w.waiting ≡ Some line → w.command ≡ None → stmt_of k lines script.lines ≡ Some line
stands-line script k ms next lines g w line (block.Open l) pending.Command s e waits none = held-of script k lines (block.Open l) s.commands w line (s.owns refl).1 waits none
stands-line script k ms next lines g w line block.Outside pending.Command s e waits none = held-of script k lines block.Outside s.commands w line (s.owns refl).1 waits none
stands-line script k ms next lines g w line block.Failed pending.Command s e waits none = absurd (failed s.sound)
  where
    failed : Rattle.gx_law_order.specs.Standing.is_sound block.Failed pending.Command ≡ true → ⊥
    failed e = cc
stands-line script k ms next lines g w line b pending.Nothing s e waits none = absurd (cc)
stands-line script k ms next lines g w line b pending.Commit s e waits none = absurd (cc)

-- a statement that waits is its session's line under way
pub held-line : (script : Script) (w : World) → Knows script w → Holds script w → (g : Gxid) (line : Stmt) → (work_of w.coord g).waiting ≡ Some line → stmt_of (work_of w.coord g).session (session_of w.coord (work_of w.coord g).session).lines script.lines ≡ Some line
held-line script w n h g line waits = by_standing (h.sessions k).stands
  where
    k : SessionId
    k = (work_of w.coord g).session

    y : Session
    y = session_of w.coord (work_of w.coord g).session

    t : (stage_of w.coord g.0 ≡ Live) × ((work_of w.coord g).command ≡ None) × (is_working_in (session_of w.coord (work_of w.coord g).session).state.pending ≡ true)
    t = (n.kept.tied g.0).waits line waits

    home : (session_of w.coord (work_of w.coord g).session).transaction ≡ g
    home = ap gx ((n.kept.tied g.0).live t.0).0

    by_standing : IsStanding script (work_of w.coord g).session (marks_in w.steps) w.coord.table.next.0 (session_of w.coord (work_of w.coord g).session).state.block (session_of w.coord (work_of w.coord g).session).state.pending (session_of w.coord (work_of w.coord g).session).lines (session_of w.coord (work_of w.coord g).session).transaction (work_of w.coord (session_of w.coord (work_of w.coord g).session).transaction) (ends_in (work_of w.coord g).session w.steps)
        → stmt_of (work_of w.coord g).session (session_of w.coord (work_of w.coord g).session).lines script.lines ≡ Some line
    by_standing (inl a) =
        stands-line script _ (marks_in w.steps) w.coord.table.next.0 _ g (work_of w.coord g) line _ _
        (subst (λ x. Stands script (work_of w.coord g).session (marks_in w.steps) w.coord.table.next.0 (session_of w.coord (work_of w.coord g).session).state.block (session_of w.coord (work_of w.coord g).session).state.pending (session_of w.coord (work_of w.coord g).session).lines x (work_of w.coord x)) home a.1) t.2 waits t.1
    by_standing (inr a) = absurd (idle-works _ a.1.idle t.2)

pub waiting-line : (script : Script) (some : 1 ≤ script.segments) (es : List (Event × Bool)) (g : Gxid) (wanted : Claim) (line : Stmt) → wait_of (world_of script es).coord.locks g ≡ Some wanted → (work_of (world_of script es).coord g).waiting ≡ Some line → stmt_of (work_of (world_of script es).coord g).session (session_of (world_of script es).coord (work_of (world_of script es).coord g).session).lines script.lines ≡ Some line
waiting-line script some es g wanted line e f = held-line script (world_of script es) (world_knows script some es) (world-holds script some es) g line f

-- ITS TRANSACTION
-- the line that began it, and what is known of its snapshot
pub record Began (script : Script) (marks : List Mark) (g : Gxid) (w : Work) : Type 0 where
  pub by : SessionId × ℕ
  pub is : began_from [] marks g ≡ Some by
  pub level : w.level ≡ level_by (stmt_of by.0 by.1 script.lines)
  pub snapshot : HasSnapshot w.level marks g w.snapshot

-- outside a block it reads what is committed
alone : (line : Stmt) → is_command Outside line ≡ true → level_by (Some line) ≡ ReadCommitted
alone (stmt.Begin l) e = absurd (cc)
alone stmt.Commit e = refl
alone stmt.Rollback e = refl
alone (stmt.Select q) e = refl
alone (stmt.Insert t x) e = refl
alone (stmt.Update t a d) e = refl
alone (stmt.Delete t d) e = refl
alone (stmt.Lock t m) e = refl

stands-began : (script : Script) (k : SessionId) (ms : List Mark) (next lines : ℕ) (g : Gxid) (w : Work) (b : Block) (p : Pending) → Stands script k ms next b p lines g w → is_working_in p ≡ true → Began script ms g w
stands-began script k ms next lines g w (block.Open l) pending.Command s e =
    let o = s.owns refl in
    record { by = (k, o.2.first); is = o.2.began; level = o.0.level ∙ sym (ap level_by o.2.opening); snapshot = o.0.snapshot }
stands-began script k ms next lines g w block.Outside pending.Command s e =
    let o = s.owns refl in
    let line = line-of script k lines block.Outside s.commands w o.1 in
    record { by = (k, o.2.first); is = o.2.began; level = o.0.level ∙ sym (ap (λ n. level_by (stmt_of k n script.lines)) o.2.opening ∙ ap level_by line.1 ∙ alone line.0 line.2); snapshot = o.0.snapshot }
stands-began script k ms next lines g w block.Failed pending.Command s e = absurd (failed s.sound)
  where
    failed : Rattle.gx_law_order.specs.Standing.is_sound block.Failed pending.Command ≡ true → ⊥
    failed e = cc
stands-began script k ms next lines g w b pending.Nothing s e = absurd (cc)
stands-began script k ms next lines g w b pending.Commit s e = absurd (cc)

pub going-began : (script : Script) (w : World) → Knows script w → Holds script w → (g : Gxid) → coord_can script w.coord (here.Resume g) ≡ true → Began script (marks_in w.steps) g (work_of w.coord g)
going-began script w n h g ok = by_standing (h.sessions k).stands
  where
    o : GoesOut script w.coord g
    o = going-out script w n g ok

    k : SessionId
    k = (work_of w.coord g).session

    y : Session
    y = session_of w.coord k

    by_standing : IsStanding script k (marks_in w.steps) w.coord.table.next.0 y.state.block y.state.pending y.lines y.transaction (work_of w.coord y.transaction) (ends_in k w.steps) → Began script (marks_in w.steps) g (work_of w.coord g)
    by_standing (inl a) =
        stands-began script k (marks_in w.steps) w.coord.table.next.0 y.lines g (work_of w.coord g) y.state.block y.state.pending
        (subst (λ t. Stands script k (marks_in w.steps) w.coord.table.next.0 y.state.block y.state.pending y.lines t (work_of w.coord t)) o.home a.1) o.working
    by_standing (inr a) = absurd (idle-works y.state.pending a.1.idle o.working)
