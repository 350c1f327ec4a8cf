-- A command that is awaited is under way.
use Rattle.std.proofs.Common.{◌≡◌, inl, inr, ℕ, ◌+◌, List, [], ◌∷◌, Some, true, false, refl, sym, subst, ap, ◌∙◌, arith, append-nil}
use Rattle.gx_ids.specs.declared.ids.Cid.{Cid}
use Rattle.gx_ids.specs.declared.ids.Gxid.{Gxid}
use Rattle.gx_ids.specs.declared.ids.Node.{Node}
use Rattle.gx_ids.specs.declared.ids.SessionId.{SessionId}
use Rattle.gx_tree.specs.declared.stmt.Level.{Level}
use Rattle.gx_dtx.specs.Nodes.{has}
use Rattle.gx_msg.specs.declared.message.Message.{Message}
use Rattle.gx_msg.specs.declared.message.Message.TheVariants as message
use Rattle.gx_script.specs.declared.Script.{Script}
use Rattle.gx_script.specs.declared.state.Block.{Block}
use Rattle.gx_script.specs.declared.state.Block.TheVariants as block
use Rattle.gx_script.specs.declared.state.Pending.{Pending}
use Rattle.gx_script.specs.declared.state.Pending.TheVariants as pending
use Rattle.gx_store.specs.declared.event.Event.TheVariants as event
use Rattle.gx_store.specs.declared.mark.Mark.{Mark}
use Rattle.gx_store.specs.declared.run.Step.{Step}
use Rattle.gx_store.specs.Commands.{IsUnderWay}
use Rattle.gx_store.specs.Lines.{cid_of, is_command, level_of, next_stmt, state_of, transaction_of}
use Rattle.gx_store.specs.Marks.{answer_count, is_ended}
use Rattle.gx_store.specs.Points.{Point, before, marks_in, starts_at, starts_by, starts_in}
use Rattle.gx_store.specs.Refusals.{the_coordinator}
use Rattle.gx_rules.specs.Coordinators.{Command, Coord, Session, session_of, work_of}
use Rattle.gx_rules.specs.Machine.{Letter, World}
use Rattle.gx_law_order.specs.Lists.{Each}
use Rattle.gx_law_order.specs.Sessions.{Kept, is_live_in, is_working_in}
use Rattle.gx_law_order.specs.Stages.{stage_of}
use Rattle.gx_law_order.specs.Standings.{gx}
use Rattle.gx_law_order.specs.Stages.Stage.{Live}
use Rattle.gx_law_order.specs.Scanned.{command_at, stmt_of_command}
use Rattle.gx_law_order.specs.Alive.{AreAlive, AreSilent, IsAlive, IsHeard, IsSilent, IsUnderWayBehind}
use Rattle.gx_store.specs.Language.{AreLinesNumbered}
use Rattle.gx_law_order.specs.Standing.{IsSession, is_alone, is_busy, level_in, state_in}
use Rattle.gx_law_order.proofs.After.{silent-calm, silent-ended}
use Rattle.gx_law_order.proofs.AtLine.{at-calm, under-way}
use Rattle.gx_law_order.proofs.Awaited.{StateOf}
use Rattle.gx_law_order.proofs.Busy.{busy-under}
use Rattle.gx_law_order.proofs.Others.{ended-more}
use Rattle.gx_law_order.proofs.Gathers.{GathersIn}
use Rattle.gx_law_order.proofs.SegAnswers.{Works, same-gxid, works-on}
use Rattle.gx_store.specs.declared.event.Event.{Event}
use Rattle.gx_tree.specs.declared.stmt.Stmt.{Stmt}

-- ANOTHER PLACE WITH THE SAME MARKS BEFORE IT
pub under-there : (script : Script) (p q : Point) (s : SessionId) (line : Stmt) (level : Level) (g : Gxid) (c : Cid) → starts_at s p ≡ starts_at s q → before p ≡ before q → IsUnderWay script p s line level g c → IsUnderWay script q s line level g c
under-there script p q s line level g c starts same u =
    record {
      runs = record {
        line = record { started = sym starts ∙ u.runs.line.started ∙ ap (λ m. answer_count s m + 1) same; line = subst (λ m. next_stmt s script m ≡ Some line) same u.runs.line.line };
        command = subst (λ m. is_command (state_of script s m) line ≡ true) same u.runs.command;
        transaction = subst (λ m. transaction_of (state_of script s m) s m ≡ Some g) same u.runs.transaction;
        number = subst (λ m. c ≡ cid_of (state_of script s m)) same u.runs.number;
        isolation = subst (λ m. level ≡ level_of (state_of script s m)) same u.runs.isolation;
      };
      running = subst (λ m. is_ended m g ≡ false) same u.running;
    }

silents : (ms : List Mark) → AreSilent ms → Each IsSilent ms
silents [] e = tt
silents (m ∷ ms) e = (e.0, silents ms e.1)

module _ (script : Script) (steps : List Step) (c : Coord) (k : Kept script c) (all : (j : SessionId) → IsSession script j steps c) (gath : (j : ℕ) → GathersIn script (IsHeard steps) (gx j) (c.works j).command) (g : Gxid) (m : Command) (it : (work_of c g).command ≡ Some m) (i : Node) (waits : has i m.awaited ≡ true) where
  abbrev s : SessionId
  s = (work_of c g).session

  abbrev y : Session
  y = session_of c s

  some-awaited : m.awaited ≡ [] → ⊥
  some-awaited h = none (sym (ap (has i) h) ∙ waits)
    where
      none : has i [] ≡ true → ⊥
      none q = grind arith

  runs-it : (stage_of c g.0 ≡ Live) × (is_working_in y.state.pending ≡ true)
  runs-it = (k.tied g.0).awaits m it some-awaited

  is-its : (y.transaction.0 ≡ g.0) × (is_live_in y.state.block y.state.pending ≡ true)
  is-its = (k.tied g.0).live runs-it.0

  working : (q : Pending) → is_working_in q ≡ true → q ≡ pending.Command
  working q h = grind arith

  busy : (b : Block) (q : Pending) → is_live_in b q ≡ true → q ≡ pending.Command → is_busy b pending.Command ≡ true
  busy b q l w = grind arith

  works-at : (from to : Node) (number : ℕ) → Works script steps c k all gath from to number g y.state.block m
  works-at from to number =
      works-on script steps c k all gath from to number g y.state.block m refl (working y.state.pending runs-it.1) (busy y.state.block y.state.pending is-its.1 (working y.state.pending runs-it.1)) (same-gxid script steps c k all gath from to number g is-its.0) it

  its-level : (n : ℕ) (b : Block) → level_of (state_in b n) ≡ level_in b
  its-level n block.Outside = refl
  its-level n (block.Open l) = refl
  its-level n block.Failed = refl

  runs-at : (cid : Cid) (level : Level) → m.cid ≡ cid → level ≡ (work_of c g).level → (from to : Node) (number : ℕ) (earlier later : List Mark) → AreSilent earlier → IsUnderWay script (record { steps = steps; event = event.Receive from to number; earlier = earlier; later = later }) s m.stmt level g cid
  runs-at cid level same lev from to number earlier later quiet = by_works (works-at from to number)
    where
      by_works : Works script steps c k all gath from to number g y.state.block m → IsUnderWay script (record { steps = steps; event = event.Receive from to number; earlier = earlier; later = later }) s m.stmt level g cid
      by_works z =
          let q = z.is_busy_so in
          let o = busy-under script steps c from to number g y.state.block pending.Command m.stmt q c (work_of c g) refl refl (λ j h. refl) (λ j. refl) refl in
          let a = at-calm script steps (event.Receive from to number) s m.stmt _ (state_in y.state.block q.stands.commands) (is_alone y.state.block pending.Command) (Some g) [] earlier o.at (silent-calm s earlier (silents earlier quiet)) in
          subst (λ x. IsUnderWay script (record { steps = steps; event = event.Receive from to number; earlier = earlier; later = later }) s m.stmt level g x) (sym z.counted ∙ same)
          (subst (λ l. IsUnderWay script (record { steps = steps; event = event.Receive from to number; earlier = earlier; later = later }) s m.stmt l g (cid_of (state_in y.state.block q.stands.commands))) (its-level q.stands.commands y.state.block ∙ sym (q.stands.owns q.busy).0.level ∙ sym lev)
          (under-way script steps (event.Receive from to number) s m.stmt _ (state_in y.state.block q.stands.commands) (is_alone y.state.block pending.Command) (Some g) earlier a later g o.has refl z.command
          (ended-more (marks_in steps) earlier g (subst (λ x. is_ended x g ≡ false) (append-nil (marks_in steps)) o.running) (silent-ended g earlier (silents earlier quiet)))))

  -- an event that starts no line of the session stands as a receipt does
  runs-in : (cid : Cid) (level : Level) → m.cid ≡ cid → level ≡ (work_of c g).level → (e : Event) (earlier later : List Mark) → starts_by s e ≡ 0 → AreSilent earlier → IsUnderWay script (record { steps = steps; event = e; earlier = earlier; later = later }) s m.stmt level g cid
  runs-in cid level same lev e earlier later none quiet =
      under-there script (record { steps = steps; event = event.Receive the_coordinator the_coordinator 0; earlier = earlier; later = later }) (record { steps = steps; event = e; earlier = earlier; later = later }) s m.stmt level g cid
      (ap (λ a. starts_in s steps + a) (sym none)) refl (runs-at cid level same lev the_coordinator the_coordinator 0 earlier later quiet)

  pub behind : (cid : Cid) (level : Level) → m.cid ≡ cid → level ≡ (work_of c g).level → IsUnderWayBehind script steps level g cid
  behind cid level same lev =
      record { session = s; line = m.stmt; of = λ n. of-works n (works-at the_coordinator the_coordinator 0); runs = runs-in cid level same lev }
    where
      of-works : AreLinesNumbered [] script.lines → Works script steps c k all gath the_coordinator the_coordinator 0 g y.state.block m → stmt_of_command script (marks_in steps) g cid ≡ Some m.stmt
      of-works n z =
          let r = (z.is_busy_so.stands.owns z.is_busy_so.busy).2 in
          ap (λ o. command_at script o cid.0) r.began ∙ ap (λ (x : Cid). command_at script (Some (s, r.first)) x.0) (sym same) ∙ (r.now n).0 m it

-- ALL ORDERS
pub alive-now : (script : Script) (w : World) → Kept script w.coord → ((j : SessionId) → IsSession script j w.steps w.coord) → ((j : ℕ) → GathersIn script (IsHeard w.steps) (gx j) (w.coord.works j).command) → (i : Node) (m : Message) → StateOf w.coord (IsHeard w.steps) (marks_in w.steps) i m → IsAlive script w i m
alive-now script w k all gath i (message.Exec g c level x h slice) (inl a) = inl (behind script w.steps w.coord k all gath g a.its a.is i a.awaits c level a.counted a.level_is)
alive-now script w k all gath i (message.Exec g c level x h slice) (inr a) = inr a
alive-now script w k all gath i (message.Prepare g) a = tt
alive-now script w k all gath i (message.Commit g) a = tt
alive-now script w k all gath i (message.CommitPrepared g) a = tt
alive-now script w k all gath i (message.Abort g) a = tt
alive-now script w k all gath i (message.Forget g) a = tt
alive-now script w k all gath i (message.Collect round) a = tt
alive-now script w k all gath i (message.Answer g r) a = tt
alive-now script w k all gath i (message.Graph round graph) a = tt
alive-now script w k all gath i message.Up a = tt

pub alive-all : (script : Script) (w : World) → Kept script w.coord → ((j : SessionId) → IsSession script j w.steps w.coord) → ((j : ℕ) → GathersIn script (IsHeard w.steps) (gx j) (w.coord.works j).command) → (ls : List Letter) → Each (λ l. l.from ≡ the_coordinator → StateOf w.coord (IsHeard w.steps) (marks_in w.steps) l.to l.envelope.message) ls → AreAlive script w ls
alive-all script w k all gath [] e = tt
alive-all script w k all gath (l ∷ ls) e = (λ same. alive-now script w k all gath l.to l.envelope.message (e.0 same), alive-all script w k all gath ls e.1)
