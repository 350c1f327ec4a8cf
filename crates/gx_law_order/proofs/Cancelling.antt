-- A victim of a round: its session's line under way is refused.
use Rattle.std.proofs.Common.{◌≡◌, inl, inr, ℕ, suc, List, [], ◌∷◌, ◌++◌, Option, Some, None, Bool, true, false, refl, sym, subst, ap, ◌∙◌, ◌==◌, ◌&&◌, ◌||◌, arith, append-nil}
use Rattle.std.proofs.lemmas.Bool.{and_parts, eqb-true}
use Rattle.std.proofs.lemmas.List.Elements.{Contains-append_left, Contains-append_right, Contains-push}
use Rattle.std.specs.Prelude.{is_some}
use Rattle.std.specs.List.{Contains}
use Rattle.gx_lemmas.proofs.Numbers.{plus-none}
use Rattle.gx_lemmas.proofs.Tests.{false-true}
use Rattle.gx_ids.specs.declared.ids.Gxid.{Gxid}
use Rattle.gx_ids.specs.declared.ids.SessionId.{SessionId}
use Rattle.gx_tree.specs.declared.stmt.Stmt.{Stmt}
use Rattle.gx_detect.specs.Inactive.{is_in}
use Rattle.gx_dtx.specs.Rules.{on_abort}
use Rattle.gx_dtx.specs.Table.{find_txn}
use Rattle.gx_dtx.specs.declared.phase.Phase.{Phase}
use Rattle.gx_dtx.specs.declared.txn.Txn.{Txn}
use Rattle.gx_waits.specs.declared.verdict.Verdict.TheVariants.{Victims}
use Rattle.gx_script.specs.declared.Script.{Script}
use Rattle.gx_script.specs.Session.{block_after_refusal}
use Rattle.gx_script.specs.declared.state.Block.{Block}
use Rattle.gx_script.specs.declared.state.Block.TheVariants as block
use Rattle.gx_script.specs.declared.state.Pending.{Pending}
use Rattle.gx_script.specs.declared.state.Pending.TheVariants as pending
use Rattle.gx_store.specs.declared.answer.Refused.TheVariants.{Victim}
use Rattle.gx_store.specs.declared.answer.StmtAnswer.TheVariants as told
use Rattle.gx_store.specs.declared.event.Event.TheVariants as event
use Rattle.gx_store.specs.declared.mark.Mark.{Mark}
use Rattle.gx_store.specs.declared.mark.Mark.TheVariants as mark
use Rattle.gx_store.specs.declared.run.Step.{Step}
use Rattle.gx_store.specs.Lines.{BlockState, is_command, state_after, stmt_of}
use Rattle.gx_store.specs.Marks.{answer_count, is_ended}
use Rattle.gx_store.specs.Points.{ends_in, marks_in, starts_in}
use Rattle.gx_store.specs.Refusals.{IsNamed, the_coordinator}
use Rattle.gx_store.proofs.Runs.{marks_in-push, starts_in-push}
use Rattle.gx_rules.specs.AtCoordinator.{cancel_turn, cancels, is_refused, is_under_way}
use Rattle.gx_rules.specs.Coordinators.{Command, Coord, CoordTurn, Session, Work, session_of, work_of}
use Rattle.gx_rules.specs.Locks.{release_marks}
use Rattle.gx_rules.specs.Rounds.{is_active, is_live}
use Rattle.gx_rules.specs.Sending.{numbered}
use Rattle.gx_rules.proofs.Rounds.{cancel-ways}
use Rattle.gx_law_order.specs.Moves.{names}
use Rattle.gx_law_order.specs.Sessions.{Kept, is_live_in, is_working_in}
use Rattle.gx_law_order.specs.Stages.{stage, stage_in}
use Rattle.gx_law_order.specs.Standings.{gx}
use Rattle.gx_law_order.specs.Stages.Stage.{Live}
use Rattle.gx_law_order.specs.Alive.{IsHeard}
use Rattle.gx_law_order.specs.Rest.{EachMark}
use Rattle.gx_law_order.specs.Standing.{IsLineOf, IsSession, Stands, is_alone, is_busy, state_in}
use Rattle.gx_law_order.proofs.Answers.{command-refusable, done-outside, refused-inside}
use Rattle.gx_law_order.proofs.AtLine.{AtLine}
use Rattle.gx_law_order.proofs.Busy.{Busy, busy-under}
use Rattle.gx_law_order.proofs.Frame.{Alters, Rests, Turns}
use Rattle.gx_law_order.proofs.Gathers.{GathersIn}
use Rattle.gx_law_order.proofs.Given.{Given, marks-append, sent-given}
use Rattle.gx_law_order.proofs.Locked.{back-locks}
use Rattle.gx_law_order.proofs.Outs.{abort-bare}
use Rattle.gx_law_order.proofs.SegAnswers.{same-gxid, stand}
use Rattle.gx_law_order.proofs.Said.{Said}
use Rattle.gx_law_order.proofs.Under.{Under, refuse-alters, refuse-legal}

-- what is under way is a command, which has gone out or waits to
pub line-of : (script : Script) (k : SessionId) (lines : ℕ) (b : Block) (commands : ℕ) (w : Work) → IsLineOf script k lines b commands w pending.Command → (line : Stmt) × (stmt_of k lines script.lines ≡ Some line) × (is_command (state_in b commands) line ≡ true)
line-of script k lines b commands w (inl l) = (l.0.stmt, l.2, l.3)
line-of script k lines b commands w (inr l) = (l.0, l.3, l.4)

-- WHO IS NAMED
contained : (xs : List Gxid) (g : Gxid) → is_in xs g ≡ true → Contains xs g
contained [] g e = absurd (false-true e)
contained (x ∷ xs) g e = by_test (x.0 == g.0) refl e (contained xs g)
  where
    same : x.0 ≡ g.0 → x ≡ g
    same q = ap (λ (n : ℕ). let h : Gxid = record { 0 = n } in h) q

    by_test : (b : Bool) → (x.0 == g.0) ≡ b → (b || is_in xs g) ≡ true → (is_in xs g ≡ true → Contains xs g) → Contains (x ∷ xs) g
    by_test true q e rest = subst (λ h. Contains (x ∷ xs) h) (same (eqb-true x.0 g.0 q)) (Contains-append_left (x ∷ []) xs x (Contains-push [] x))
    by_test false q e rest = Contains-append_right (x ∷ []) xs g (rest e)

-- a mark of the step has named it
named-there : (ms more : List Mark) (round : ℕ) (g : Gxid) → names ms round g ≡ true → IsNamed (ms ++ more) round g
named-there [] more round g e = absurd (false-true e)
named-there (mark.Recheck r own (Victims victims) ∷ ms) more round g e = by_test ((r == round) && is_in victims g) refl e (named-there ms more round g)
  where
    here : (r == round) ≡ true → is_in victims g ≡ true → IsNamed (mark.Recheck r own (Victims victims) ∷ (ms ++ more)) round g
    here q i = record { place = 0; own = own; victims = victims; verdict = ap (λ n. let m : Option Mark = Some (mark.Recheck n own (Victims victims)) in m) (eqb-true r round q); named = contained victims g i }

    by_test : (b : Bool) → ((r == round) && is_in victims g) ≡ b → (b || names ms round g) ≡ true → (names ms round g ≡ true → IsNamed (ms ++ more) round g) → IsNamed (mark.Recheck r own (Victims victims) ∷ (ms ++ more)) round g
    by_test true q e rest = here (and_parts (r == round) _ q).0 (and_parts (r == round) _ q).1
    by_test false q e rest = behind (mark.Recheck r own (Victims victims)) (rest e)
      where
        behind : (m : Mark) → IsNamed (ms ++ more) round g → IsNamed (m ∷ (ms ++ more)) round g
        behind m n = record { place = suc n.place; own = n.own; victims = n.victims; verdict = n.verdict; named = n.named }
named-there (m ∷ ms) more round g e = let n = named-there ms more round g e in record { place = suc n.place; own = n.own; victims = n.victims; verdict = n.verdict; named = n.named }

-- ITS LINE
module _ (script : Script) (steps : List Step) (c : Coord) (k : Kept script c) (all : (j : SessionId) → IsSession script j steps c) (gath : (j : ℕ) → GathersIn script (IsHeard steps) (gx j) (c.works j).command) (g : Gxid) where
  abbrev ms : List Mark
  ms = marks_in steps

  abbrev s : SessionId
  s = (work_of c g).session

  abbrev y : Session
  y = session_of c s

  abbrev turn : CoordTurn
  turn = is_refused c g (on_abort c.table g) [] (Victim c.rounds)

  module _ (live : is_live (find_txn c.table g) ≡ true) (under_way : is_under_way (work_of c g) ≡ true) where
    live-stage : (t : Option Txn) → is_live t ≡ true → stage t ≡ Live
    live-stage None e = absurd (cc)
    live-stage (Some t) e = by_phase t.phase e
      where
        by_phase : (q : Phase) → is_active q ≡ true → stage_in q ≡ Live
        by_phase q e = grind arith

    its : (y.transaction.0 ≡ g.0) × (is_live_in y.state.block y.state.pending ≡ true)
    its = (k.tied g.0).live (live-stage (find_txn c.table g) live)

    same : y.transaction ≡ g
    same = same-gxid script steps c k all gath the_coordinator the_coordinator 0 g its.0

    working : y.state.pending ≡ pending.Command
    working = as-command y.state.pending (by_work (work_of c g).command (work_of c g).waiting refl refl under_way)
      where
        as-command : (q : Pending) → is_working_in q ≡ true → q ≡ pending.Command
        as-command q h = grind arith

        by_work : (o : Option Command) (line : Option Stmt) → (work_of c g).command ≡ o → (work_of c g).waiting ≡ line → (is_some o || is_some line) ≡ true → is_working_in y.state.pending ≡ true
        by_work (Some m) line e f h = ((k.tied g.0).busy m e).1
        by_work None (Some line) e f h = ((k.tied g.0).waits line f).2
        by_work None None e f h = absurd (cc)

    -- in its block
    module _ (B : Block) (eb : y.state.block ≡ B) (busy : is_busy B pending.Command ≡ true) where
      abbrev st : (ends_in s steps ≡ 0) × Stands script s ms c.table.next.0 B pending.Command y.lines g (work_of c g)
      st = stand script steps c k all gath the_coordinator the_coordinator 0 g B pending.Command eb working busy same

      abbrev n : ℕ
      n = answer_count s ms

      abbrev b : BlockState
      b = state_in B st.1.commands

      abbrev found : (line : Stmt) × (stmt_of s y.lines script.lines ≡ Some line) × (is_command (state_in B st.1.commands) line ≡ true)
      found = line-of script s y.lines B st.1.commands (work_of c g) (st.1.owns busy).1

      abbrev line : Stmt
      line = found.0

      now : Busy script steps c the_coordinator the_coordinator 0 g B pending.Command line
      now = record { its = same; in_block = eb; in_line = working; busy = busy; waiting = refl; starts = (all s).starts; ends = st.0; stands = st.1; line_is = found.1 }

      under : Under script steps c event.Round c s g (work_of c g) y n b (is_alone B pending.Command) line []
      unfolding now
      under =
          let o = busy-under script steps c the_coordinator the_coordinator 0 g B pending.Command line now c (work_of c g) refl refl (λ j h. refl) (λ j. refl) refl in
          record {
            work = o.work;
            works = o.works;
            sessions = o.sessions;
            home = o.home;
            its = o.its;
            lines = o.lines;
            next = o.next;
            drawn = o.drawn;
            whose = o.whose;
            ends = o.ends;
            alone = λ j h. (refl, refl);
            at = record { said = o.at.said; starts = o.at.starts; is_line = o.at.is_line };
            has = o.has;
            running = o.running;
            of = tt;
            legal = λ later. tt;
            rests = λ later. tt;
          }

      idle : (q : Block) → is_busy (block_after_refusal q pending.Command) pending.Nothing ≡ false
      idle block.Outside = refl
      idle (block.Open l) = refl
      idle block.Failed = refl

      after : (q : Block) → is_busy q pending.Command ≡ true → (a : ℕ) (l : Stmt) → is_command (state_in q a) l ≡ true → state_after (state_in q a) l (told.Refused (Victim c.rounds)) ≡ state_in (block_after_refusal q pending.Command) 0
      after block.Outside h a l f = done-outside l (told.Refused (Victim c.rounds)) f
      after (block.Open level) h a l f = refused-inside level a l (Victim c.rounds) f
      after block.Failed h a l f = absurd (false-true h)

      alters-in : Alters script steps c event.Round turn
      alters-in =
          refuse-alters script steps c event.Round c s g (work_of c g) y n b (is_alone B pending.Command) line [] under (on_abort c.table g) [] (Victim c.rounds) (block_after_refusal B pending.Command) refl
          (ap (λ q. block_after_refusal q y.state.pending) eb ∙ ap (block_after_refusal B) working) (idle B) (after B busy st.1.commands line found.2) tt tt (abort-bare c.table g)

      -- behind the marks of the step that has named it
      said-in : (before : List Step) (step : Step) → steps ≡ before ++ step ∷ [] → names step.marks c.rounds g ≡ true → (later : List Mark) → EachMark (Given script) before step.event step.marks turn.marks later
      said-in before step is named later =
          refuse-legal script before step.event s g n b (is_alone B pending.Command) line step.marks at under.has (subst (λ q. is_ended q g ≡ false) marks under.running) (Victim c.rounds) (command-refusable b line (Victim c.rounds) found.2 refl) c s refl under.lines
          (release_marks the_coordinator c.locks g) (back-locks c.locks g) (λ rest q. named-there step.marks (mark.Abort g ∷ []) c.rounds g named) later
        where
          marks : ms ++ [] ≡ marks_in before ++ step.marks
          marks = append-nil ms ∙ ap marks_in is ∙ marks_in-push before step

          at : AtLine script before step.event s line n b (is_alone B pending.Command) (Some g) step.marks
          at =
              record {
                said = subst (λ q. Said script s q n b (is_alone B pending.Command) (Some g)) marks under.at.said;
                starts = sym (starts_in-push s before step) ∙ ap (starts_in s) (sym is) ∙ sym (plus-none (starts_in s steps)) ∙ under.at.starts;
                is_line = under.at.is_line;
              }

    -- whatever the block, it runs there
    in-block : (P : Type 0) → ((B : Block) → y.state.block ≡ B → is_busy B pending.Command ≡ true → P) → P
    in-block P f = by_block y.state.block refl
      where
        not-failed : (q : Block) (r : Pending) → q ≡ block.Failed → is_live_in q r ≡ true → ⊥
        not-failed q r h l = grind arith

        by_block : (q : Block) → y.state.block ≡ q → P
        by_block block.Outside eb = f block.Outside eb refl
        by_block (block.Open l) eb = f (block.Open l) eb refl
        by_block block.Failed eb = absurd (not-failed y.state.block y.state.pending eb its.1)

  -- THE TURN
  rest-turns : Rests script steps c event.Round (Rattle.gx_rules.specs.Coordinators.rests c)
  rest-turns = record { sessions = λ j. refl; works = λ j. refl; next = refl; quiet = tt; alone = λ j. (refl, refl); outs = λ h. tt; sent = λ h. tt }

  pub cancel-turns : Turns script steps c event.Round (cancels c g)
  cancel-turns = cancel-ways (Turns script steps c event.Round) c g (inr rest-turns) (λ live busy. inl (in-block live busy (Alters script steps c event.Round turn) (λ B eb h. alters-in live busy B eb h)))

  pub cancel-said : (before : List Step) (step : Step) → steps ≡ before ++ step ∷ [] → names step.marks c.rounds g ≡ true → (later : List Mark) → EachMark (Given script) before step.event step.marks (cancel_turn c g).marks later
  cancel-said before step is named later =
      cancel-ways (λ (t : CoordTurn). EachMark (Given script) before step.event step.marks (t.marks ++ numbered t.coord.sent t.outs) later) c g tt
      (λ live busy. marks-append (Given script) before step.event step.marks turn.marks _ later
      (in-block live busy (EachMark (Given script) before step.event step.marks turn.marks (numbered turn.coord.sent turn.outs ++ later)) (λ B eb h. said-in live busy B eb h before step is named _))
      (sent-given script before step.event turn.coord.sent turn.outs (step.marks ++ turn.marks) later))
