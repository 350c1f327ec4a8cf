-- A statement that has waited goes out: its session has it as its line under way.
use Rattle.std.proofs.Common.{◌≡◌, ◌<◌, inl, inr, ℕ, ◌+◌, List, [], ◌++◌, Option, Some, None, true, false, refl, sym, subst, ap, ◌∙◌, if◌then◌else◌, arith, append-nil}
use Rattle.gx_lemmas.proofs.Numbers.{eqb-self}
use Rattle.gx_lemmas.proofs.Options.{some-same}
use Rattle.gx_ids.specs.declared.ids.Cid.{Cid}
use Rattle.gx_ids.specs.declared.ids.Gxid.{Gxid}
use Rattle.gx_ids.specs.declared.ids.Node.{Node}
use Rattle.gx_ids.specs.declared.ids.SessionId.{SessionId}
use Rattle.gx_tree.specs.declared.stmt.Level.{Level}
use Rattle.gx_tree.specs.declared.stmt.Stmt.{Stmt}
use Rattle.gx_waits.specs.declared.claim.Claim.{Claim}
use Rattle.gx_locks.specs.Locks.{resumed}
use Rattle.gx_script.specs.declared.Script.{Script}
use Rattle.gx_script.specs.declared.state.Block.{Block}
use Rattle.gx_script.specs.declared.state.Block.TheVariants as block
use Rattle.gx_script.specs.declared.state.Pending.{Pending}
use Rattle.gx_script.specs.declared.state.Pending.TheVariants as pending
use Rattle.gx_store.specs.declared.event.Event.{Event}
use Rattle.gx_store.specs.declared.event.Event.TheVariants as event
use Rattle.gx_store.specs.declared.mark.Mark.{Mark}
use Rattle.gx_store.specs.declared.run.Step.{Step}
use Rattle.gx_store.specs.Journals.{is_same_node}
use Rattle.gx_store.specs.Lines.{BlockState, cid_of, is_command}
use Rattle.gx_store.specs.Marks.{answer_count, is_sent}
use Rattle.gx_store.specs.Points.{ends_in, marks_in}
use Rattle.gx_store.specs.Refusals.{the_coordinator}
use Rattle.gx_rules.specs.AtCoordinator.{next_cid}
use Rattle.gx_rules.specs.Coordinators.{Command, Coord, Session, Work, session_of, with_work, work_of}
use Rattle.gx_law_order.proofs.Dispatches.{out_of_wait}
use Rattle.gx_law_order.specs.Past.{Past}
use Rattle.gx_law_order.specs.Sessions.{Kept, is_live_in, is_working_in}
use Rattle.gx_law_order.specs.Stages.{stage_of}
use Rattle.gx_law_order.specs.Standings.{gx}
use Rattle.gx_law_order.specs.Stages.Stage.{Live}
use Rattle.gx_law_order.specs.Alive.{IsHeard}
use Rattle.gx_law_order.specs.Rest.{UnlessStart, unless}
use Rattle.gx_law_order.specs.Standing.{IsLineOf, IsSession, Owns, Roots, Stands, is_alone, is_busy, state_in}
use Rattle.gx_law_order.proofs.Awaited.{IsAwaited, none-awaited}
use Rattle.gx_law_order.proofs.Busy.{Busy, busy-under}
use Rattle.gx_law_order.proofs.Dispatch.{held-does}
use Rattle.gx_law_order.proofs.Frame.{Does}
use Rattle.gx_law_order.proofs.Gathers.{GathersIn}
use Rattle.gx_law_order.proofs.SegAnswers.{same-gxid, stand}
use Rattle.gx_law_order.proofs.Roots.{roots-out}
use Rattle.gx_law_order.proofs.Under.{Under}
use Rattle.gx_law_order.proofs.Unsent.{Unsent}

module _ (script : Script) (steps : List Step) (c : Coord) (k : Kept script c) (p : Past c (marks_in steps)) (all : (j : SessionId) → IsSession script j steps c) (gath : (j : ℕ) → GathersIn script (IsHeard steps) (gx j) (c.works j).command) (m : Node) (is : is_same_node m the_coordinator ≡ true) (g : Gxid) (wanted : Claim) (line : Stmt) (held : (work_of c g).waiting ≡ Some line) (u : Unsent c (marks_in steps)) where
  abbrev e : Event
  e = event.Resume m g

  abbrev ms : List Mark
  ms = marks_in steps

  abbrev s : SessionId
  s = (work_of c g).session

  abbrev y : Session
  y = session_of c s

  exempt : (A : Type 0) → UnlessStart (event.Resume m g) A
  exempt A = subst (λ b. unless b A) (sym is) tt

  live : (stage_of c g.0 ≡ Live) × ((work_of c g).command ≡ None) × (is_working_in y.state.pending ≡ true)
  live = (k.tied g.0).waits line held

  its : (y.transaction.0 ≡ g.0) × (is_live_in y.state.block y.state.pending ≡ true)
  its = (k.tied g.0).live live.0

  same : y.transaction ≡ g
  same = same-gxid script steps c k all gath the_coordinator the_coordinator 0 g its.0

  working : y.state.pending ≡ pending.Command
  working = by_pending y.state.pending live.2
    where
      by_pending : (q : Pending) → is_working_in q ≡ true → q ≡ pending.Command
      by_pending q h = grind arith

  abbrev w : Work
  w = record (work_of c g) { waiting = None }

  abbrev c1 : Coord
  c1 = with_work c g w

  work-now : work_of c1 g ≡ w
  work-now = ap (λ q. if q then w else work_of c g) (eqb-self g.0)

  unawaited : (a : Cid) (i : Node) (level : Level) → IsAwaited (c.works g.0) a i level → ⊥
  unawaited a i level z = none-awaited (work_of c g) a i level live.1 z

  -- in its block
  module _ (B : Block) (eb : y.state.block ≡ B) (busy : is_busy B pending.Command ≡ true) where
    abbrev st : (ends_in s steps ≡ 0) × Stands script s ms c.table.next.0 B pending.Command y.lines g (work_of c g)
    st = stand script steps c k all gath the_coordinator the_coordinator 0 g B pending.Command eb working busy same

    abbrev b : BlockState
    b = state_in B st.1.commands

    own : Owns s st.1.commands ms c.table.next.0 B g (work_of c g)
    own = (st.1.owns busy).0

    module _ (line_is : Rattle.gx_store.specs.Lines.stmt_of s y.lines script.lines ≡ Some line) (cmd : is_command b line ≡ true) (number : (cid_of b).0 ≡ (work_of c g).last + 1) where
      now : Busy script steps c the_coordinator the_coordinator 0 g B pending.Command line
      now = record { its = same; in_block = eb; in_line = working; busy = busy; waiting = refl; starts = (all s).starts; ends = st.0; stands = st.1; line_is = line_is }

      under : Under script steps c (event.Resume m g) c1 s g (work_of c1 g) y (answer_count s ms) b (is_alone B pending.Command) line []
      unfolding now
      under =
          let o = busy-under script steps c the_coordinator the_coordinator 0 g B pending.Command line now c1 (work_of c1 g) refl (ap (λ (v : Work). v.session) work-now) (λ j h. ap (λ q. if q then w else c.works j) h) (λ j. refl) refl in
          record {
            work = o.work;
            works = o.works;
            sessions = o.sessions;
            home = o.home;
            its = o.its;
            lines = o.lines;
            next = o.next;
            drawn = o.drawn;
            whose = o.whose;
            ends = o.ends;
            alone = λ j h. (refl, refl);
            at = record { said = o.at.said; starts = o.at.starts; is_line = o.at.is_line };
            has = o.has;
            running = o.running;
            of = tt;
            legal = λ later. tt;
            rests = λ later. tt;
          }

      owns : Owns s st.1.commands (ms ++ []) c1.table.next.0 B g (work_of c1 g)
      owns =
          subst (λ v. Owns s st.1.commands (ms ++ []) c.table.next.0 B g v) (sym work-now)
          (subst (λ z. Owns s st.1.commands z c.table.next.0 B g w) (sym (append-nil ms))
          (record { home = own.home; started = own.started; level = own.level; drawn = own.drawn; running = own.running; counted = own.counted; unsnapped = own.unsnapped; snapshot = own.snapshot }))

      number-now : cid_of b ≡ next_cid (work_of c1 g)
      number-now = ap (λ i. let d : Cid = record { 0 = i } in d) number ∙ ap (λ (v : Work). next_cid v) (sym work-now)

      roots : (o : Command) (v : Work) (ns : List Mark) → o.stmt ≡ line → o.cid ≡ next_cid (work_of c1 g) → v.last ≡ (work_of c1 g).last + 1 → v.command ≡ Some o → v.waiting ≡ None → Roots script s ((ms ++ []) ++ ns) B pending.Command y.lines g v
      roots o v ns a n l has out =
          subst (λ z. Roots script s (z ++ ns) B pending.Command y.lines g v) (sym (append-nil ms))
          (roots-out script s ms ns B y.lines g (work_of c g) v line o (st.1.owns busy).2 held a (l ∙ ap (λ (z : Work). z.last + 1) work-now) has out (ap (λ (i : Cid). i.0) n ∙ ap (λ (z : Work). z.last + 1) work-now))

      not-sent : is_sent (ms ++ []) g (next_cid (work_of c1 g)) ≡ false
      not-sent = subst (λ z. is_sent z g (next_cid (work_of c1 g)) ≡ false) (sym (append-nil ms)) (u.live g.0 live.0 (next_cid (work_of c1 g)) (further (work_of c g).last _ (ap (λ (v : Work). v.last) work-now)))
        where
          further : (a b : ℕ) → b ≡ a → a < b + 1
          further a b e = omega arith

      out-does : Does script steps c (event.Resume m g) (out_of_wait script c g line wanted)
      out-does =
          held-does script steps (event.Resume m g) exempt c c1 s g y (answer_count s ms) B st.1.commands line [] under eb working busy cmd owns (ap (λ (v : Work). v.command) work-now ∙ live.1) (ap (λ (v : Work). v.waiting) work-now) number-now
          (subst (λ z. Past c1 z) (sym (append-nil ms)) (record { committed = p.committed; ended = p.ended; dropped = p.dropped; latest = p.latest; drawn = p.drawn })) not-sent roots unawaited (resumed c.locks g (Some wanted)) wanted

    by_line : IsLineOf script s y.lines B st.1.commands (work_of c g) pending.Command → Does script steps c (event.Resume m g) (out_of_wait script c g line wanted)
    by_line (inl l) = absurd (nothing (work_of c g).command live.1 l.1)
      where
        nothing : (o : Option Command) → o ≡ None → o ≡ Some l.0 → ⊥
        nothing o e f = cc
    by_line (inr l) =
        let a : l.0 ≡ line = some-same l.0 line (sym l.1 ∙ held) in
        out-does (l.3 ∙ ap (λ z. Some z) a) (subst (λ z. is_command (state_in B st.1.commands) z ≡ true) a l.4) l.5

    in-block : Does script steps c (event.Resume m g) (out_of_wait script c g line wanted)
    in-block = by_line (st.1.owns busy).1

  pub resume-does : Does script steps c (event.Resume m g) (out_of_wait script c g line wanted)
  resume-does = by_block y.state.block refl
    where
      not-failed : (q : Block) (r : Pending) → q ≡ block.Failed → is_live_in q r ≡ true → ⊥
      not-failed q r h l = grind arith

      by_block : (q : Block) → y.state.block ≡ q → Does script steps c (event.Resume m g) (out_of_wait script c g line wanted)
      by_block block.Outside eb = in-block block.Outside eb refl
      by_block (block.Open l) eb = in-block (block.Open l) eb refl
      by_block block.Failed eb = absurd (not-failed y.state.block y.state.pending eb its.1)
