-- A command whose answers are awaited is its session's line under way.
use Rattle.std.proofs.Common.{◌≡◌, inl, inr, ℕ, ◌+◌, List, [], ◌++◌, Option, Some, None, Bool, true, false, refl, sym, subst, ap, ◌∙◌, if◌then◌else◌, arith}
use Rattle.gx_tree.specs.declared.stmt.Stmt.{Stmt}
use Rattle.gx_ids.specs.declared.ids.Gxid.{Gxid}
use Rattle.gx_ids.specs.declared.ids.SessionId.{SessionId}
use Rattle.gx_dtx.specs.Nodes.{has}
use Rattle.gx_script.specs.declared.Script.{Script}
use Rattle.gx_script.specs.declared.state.Block.{Block}
use Rattle.gx_script.specs.declared.state.Block.TheVariants as block
use Rattle.gx_script.specs.declared.state.Pending.{Pending}
use Rattle.gx_script.specs.declared.state.Pending.TheVariants as pending
use Rattle.gx_store.specs.declared.event.Event.{Event}
use Rattle.gx_store.specs.declared.mark.Mark.{Mark}
use Rattle.gx_store.specs.Commands.{IsUnderWay, RunsCommand}
use Rattle.gx_store.specs.Lines.{is_command, level_of, cid_of, state_of, stmt_of, transaction_of}
use Rattle.gx_store.specs.Marks.{answer_count, is_begun, is_ended, started_after}
use Rattle.gx_store.specs.Points.{Point, before, marks_in, starts_by, starts_in}
use Rattle.gx_rules.specs.Coordinators.{Command, Session, Work, session_of, work_of}
use Rattle.gx_rules.specs.Machine.{World}
use Rattle.gx_law_order.specs.Lists.{Each}
use Rattle.gx_law_order.specs.Sessions.{Kept, is_live_in, is_working_in}
use Rattle.gx_law_order.specs.Stages.{stage_of}
use Rattle.gx_law_order.specs.Stages.Stage.{Live as LiveStage}
use Rattle.gx_law_order.specs.Standing.{AreSessions, IsLineOf, IsStanding, Owns, Roots, Stands, is_alone, is_busy, state_in}
use Rattle.gx_law_order.proofs.Others.{ended-more}
use Rattle.gx_law_order.proofs.Said.{CalmFor, Said, said-calm}
use Rattle.gx_law_order.specs.Standings.{at, gx, waits_in}

-- the transaction's command under way, in its session
pub record Running (script : Script) (w : World) (g : ℕ) : Type 0 where
  pub block : Block
  pub commands : ℕ
  pub command : Command
  pub has_it : (w.coord.works g).command ≡ Some command
  pub busy : is_busy block pending.Command ≡ true
  pub starts : starts_in (w.coord.works g).session w.steps ≡ (session_of w.coord (w.coord.works g).session).lines
  pub answered : answer_count (w.coord.works g).session (marks_in w.steps) + 1 ≡ (session_of w.coord (w.coord.works g).session).lines
  pub state : state_of script (w.coord.works g).session (marks_in w.steps) ≡ state_in block commands
  pub begun : is_begun (w.coord.works g).session (marks_in w.steps) ≡ is_alone block pending.Command
  pub owns : Owns (w.coord.works g).session commands (marks_in w.steps) w.coord.table.next.0 block (gx g) (w.coord.works g)
  pub line : stmt_of (w.coord.works g).session (session_of w.coord (w.coord.works g).session).lines script.lines ≡ Some command.stmt
  pub is_one : is_command (state_in block commands) command.stmt ≡ true
  pub number : command.cid ≡ cid_of (state_in block commands)
  pub roots : Roots script (w.coord.works g).session (marks_in w.steps) block pending.Command (session_of w.coord (w.coord.works g).session).lines (gx g) (w.coord.works g)

working-is : (p : Pending) → is_working_in p ≡ true → p ≡ pending.Command
working-is p e = grind arith

busy-is : (b : Block) → is_live_in b pending.Command ≡ true → is_busy b pending.Command ≡ true
busy-is b e = grind arith

waits-some : (i : ℕ) (m : Command) → waits_in (Some m) i ≡ true → m.awaited ≡ [] → ⊥
waits-some i m e z = differ (sym (ap (has (at i)) z) ∙ e)
  where
    differ : has (at i) [] ≡ true → ⊥
    differ q = grind arith

module _ (script : Script) (w : World) (sessions : AreSessions script w) (g : ℕ) where
  abbrev work : Work
  work = w.coord.works g

  abbrev home : SessionId
  home = work.session

  abbrev x : Session
  x = session_of w.coord home

  abbrev ms : List Mark
  ms = marks_in w.steps

  -- a session whose line is a command has it under way, where it doesn't wait to go out
  pub running-in : (x.transaction.0 ≡ g) → x.state.pending ≡ pending.Command → is_busy x.state.block pending.Command ≡ true → ((line : Stmt) → work.waiting ≡ Some line → ⊥) → Running script w g
  running-in mine p busy out = by_standing (subst (λ q. IsStanding script home ms w.coord.table.next.0 x.state.block q x.lines x.transaction (work_of w.coord x.transaction) (Rattle.gx_store.specs.Points.ends_in home w.steps)) p (sessions home).stands)
    where
      by_line : (s : Stands script home ms w.coord.table.next.0 x.state.block pending.Command x.lines (gx g) work) → IsLineOf script home x.lines x.state.block s.commands work pending.Command → Running script w g
      by_line s (inr l) = absurd (out l.0 l.1)
      by_line s (inl l) =
          record {
            block = x.state.block;
            commands = s.commands;
            command = l.0;
            has_it = l.1;
            busy = busy;
            starts = (sessions home).starts;
            answered = s.answered;
            state = s.state;
            begun = s.begun;
            owns = (s.owns busy).0;
            line = l.2;
            is_one = l.3;
            number = l.4;
            roots = (s.owns busy).2;
          }

      same : x.transaction ≡ gx g
      same = ap (λ (n : ℕ). gx n) mine

      by_standing : IsStanding script home ms w.coord.table.next.0 x.state.block pending.Command x.lines x.transaction (work_of w.coord x.transaction) (Rattle.gx_store.specs.Points.ends_in home w.steps) → Running script w g
      by_standing (inl s) =
          let t : Stands script home ms w.coord.table.next.0 x.state.block pending.Command x.lines (gx g) work = subst (λ (y : Gxid). Stands script home ms w.coord.table.next.0 x.state.block pending.Command x.lines y (work_of w.coord y)) same s.1 in
          by_line t (t.owns busy).1
      by_standing (inr o) = absurd (differ o.1.idle)
        where
          differ : pending.Command ≡ pending.Nothing → ⊥
          differ z = cc

  -- what is known of a transaction whose commands run
  pub live-owns : Kept script w.coord → stage_of w.coord g ≡ LiveStage → (n : ℕ) × (b : Block) × Owns home n ms w.coord.table.next.0 b (gx g) work
  live-owns k live = by_standing (sessions home).stands
    where
      l : (x.transaction.0 ≡ g) × (is_live_in x.state.block x.state.pending ≡ true)
      l = (k.tied g).live live

      same : x.transaction ≡ gx g
      same = ap (λ (n : ℕ). gx n) l.0

      busy : is_busy x.state.block x.state.pending ≡ true
      busy = any-busy x.state.block x.state.pending l.1
        where
          any-busy : (b : Block) (p : Pending) → is_live_in b p ≡ true → is_busy b p ≡ true
          any-busy b p e = grind arith

      not-over : (b : Block) (p : Pending) → is_live_in b p ≡ true → b ≡ block.Outside → p ≡ pending.Nothing → ⊥
      not-over b p e f h = grind arith

      by_standing : IsStanding script home ms w.coord.table.next.0 x.state.block x.state.pending x.lines x.transaction (work_of w.coord x.transaction) (Rattle.gx_store.specs.Points.ends_in home w.steps) → (n : ℕ) × (b : Block) × Owns home n ms w.coord.table.next.0 b (gx g) work
      by_standing (inl s) =
          let t : Stands script home ms w.coord.table.next.0 x.state.block x.state.pending x.lines (gx g) work = subst (λ (y : Gxid). Stands script home ms w.coord.table.next.0 x.state.block x.state.pending x.lines y (work_of w.coord y)) same s.1 in
          (t.commands, x.state.block, (t.owns busy).0)
      by_standing (inr o) = absurd (not-over x.state.block x.state.pending l.1 o.1.outside o.1.idle)

  pub running : Kept script w.coord → (i : ℕ) → waits_in work.command i ≡ true → Running script w g
  running k i e = by_command work.command refl e
    where
      by_command : (o : Option Command) → work.command ≡ o → waits_in o i ≡ true → Running script w g
      by_command None f e = absurd (cc)
      by_command (Some m) f e =
          let t = (k.tied g).awaits m f (waits-some i m e) in
          let l = (k.tied g).live t.0 in
          let p : x.state.pending ≡ pending.Command = working-is x.state.pending t.1 in
          running-in l.0 p (busy-is x.state.block (subst (λ q. is_live_in x.state.block q ≡ true) p l.1)) (λ line z. differ (sym ((k.tied g).waits line z).1 ∙ f))
        where
          differ : None ≡ Some m → ⊥
          differ z = cc

-- behind marks that start and answer nothing of the session
module _ (script : Script) (w : World) (g : ℕ) (r : Running script w g) (e : Event) (earlier later : List Mark) (quiet : starts_by (w.coord.works g).session e ≡ 0) (calm : Each (CalmFor (w.coord.works g).session) earlier) where
  abbrev k : SessionId
  k = (w.coord.works g).session

  abbrev point : Point
  point = record { steps = w.steps; event = e; earlier = earlier; later = later }

  abbrev n : ℕ
  n = answer_count k (marks_in w.steps)

  pub said : Said script k (marks_in w.steps ++ earlier) n (state_in r.block r.commands) (is_alone r.block pending.Command) (Some (gx g))
  said = said-calm script k (marks_in w.steps) earlier n (state_in r.block r.commands) (is_alone r.block pending.Command) (Some (gx g)) (record { answered = refl; state = r.state; begun = r.begun; started = r.owns.started }) calm

  transaction-is : (b : Block) (m : ℕ) → is_busy b pending.Command ≡ true → (u : Bool) → u ≡ is_alone b pending.Command → (o : Option Gxid) → o ≡ Some (gx g) → (s : List Mark) → is_begun k s ≡ u → started_after k None s ≡ o → transaction_of (state_in b m) k s ≡ Some (gx g)
  transaction-is block.Outside m busy u f o h s begun started = ap (λ q. if q then started_after k None s else None) (begun ∙ f) ∙ started ∙ h
  transaction-is (block.Open l) m busy u f o h s begun started = started ∙ h
  transaction-is block.Failed m busy u f o h s begun started = absurd (cc)

  pub runs : RunsCommand script point k r.command.stmt (level_of (state_in r.block r.commands)) (gx g) r.command.cid
  runs =
      record {
        line = record { started = sum n (starts_in k w.steps) (starts_by k e) r.starts r.answered quiet ∙ ap (λ i. i + 1) (sym said.answered); line = ap (λ i. stmt_of k (i + 1) script.lines) said.answered ∙ ap (λ i. stmt_of k i script.lines) r.answered ∙ r.line };
        command = subst (λ b. is_command b r.command.stmt ≡ true) (sym said.state) r.is_one;
        transaction = subst (λ b. transaction_of b k (marks_in w.steps ++ earlier) ≡ Some (gx g)) (sym said.state) (transaction-is r.block r.commands r.busy (is_alone r.block pending.Command) refl (Some (gx g)) refl (marks_in w.steps ++ earlier) said.begun said.started);
        number = r.number ∙ ap cid_of (sym said.state);
        isolation = ap level_of (sym said.state);
      }
    where
      sum : (n a b : ℕ) {l : ℕ} → a ≡ l → n + 1 ≡ l → b ≡ 0 → a + b ≡ n + 1
      sum n a b x y z = omega arith

  pub under-way : is_ended earlier (gx g) ≡ false → IsUnderWay script point k r.command.stmt (level_of (state_in r.block r.commands)) (gx g) r.command.cid
  under-way none = record { runs = runs; running = ended-more (marks_in w.steps) earlier (gx g) r.owns.running none }
