-- Answers of segments.
use Rattle.std.proofs.Common.{◌≡◌, ◌⊎◌, inl, inr, ℕ, List, [], ◌∷◌, ◌++◌, Option, Some, None, Bool, true, false, refl, sym, subst, ap, ◌∙◌, if◌then◌else◌, ◌&&◌, not, arith, eqb}
use Rattle.std.proofs.lemmas.Bool.{eqb-true}
use Rattle.gx_lemmas.proofs.Numbers.{eqb-self}
use Rattle.gx_lemmas.proofs.Options.{some-same}
use Rattle.gx_lemmas.proofs.Tests.{false-true}
use Rattle.gx_ids.specs.declared.ids.Cid.{Cid}
use Rattle.gx_ids.specs.declared.ids.Gxid.{Gxid}
use Rattle.gx_ids.specs.declared.ids.Node.{Node}
use Rattle.gx_ids.specs.declared.ids.SessionId.{SessionId}
use Rattle.gx_tree.specs.declared.part.Part.{Part}
use Rattle.gx_tree.specs.declared.stmt.Level.{Level}
use Rattle.gx_dtx.proofs.Has.{has-without}
use Rattle.gx_dtx.specs.Nodes.{has, without}
use Rattle.gx_dtx.specs.Rules.{Turn, ends_committed, finishes, forgets, gives_up, is_awaited as is_expected, on_abort, on_commit, prepares, reply_found, stays, takes}
use Rattle.gx_dtx.specs.declared.outcome.Outcome.{Outcome}
use Rattle.gx_dtx.specs.declared.outcome.Outcome.TheVariants as outcome
use Rattle.gx_dtx.specs.declared.phase.Phase.{Phase}
use Rattle.gx_dtx.specs.declared.phase.Phase.TheVariants.{Preparing, CommittingOne, CommittingTwo, Ended, Aborting}
use Rattle.gx_dtx.specs.declared.txn.Txn.{Txn}
use Rattle.gx_msg.specs.declared.message.Message.TheVariants as message
use Rattle.gx_msg.specs.declared.message.Out.{Out}
use Rattle.gx_msg.specs.declared.reply.Cause.{Cause}
use Rattle.gx_msg.specs.declared.reply.Cause.TheVariants as cause
use Rattle.gx_msg.specs.declared.reply.Reply.{Reply}
use Rattle.gx_msg.specs.declared.reply.Reply.TheVariants as reply
use Rattle.gx_script.specs.declared.Script.{Script}
use Rattle.gx_script.specs.Session.{block_after_refusal}
use Rattle.gx_script.specs.declared.state.Block.{Block}
use Rattle.gx_script.specs.declared.state.Block.TheVariants as block
use Rattle.gx_script.specs.declared.state.Pending.{Pending}
use Rattle.gx_script.specs.declared.state.Pending.TheVariants as pending
use Rattle.gx_store.specs.declared.answer.StmtAnswer.TheVariants as told
use Rattle.gx_store.specs.declared.event.Event.{Event}
use Rattle.gx_store.specs.declared.event.Event.TheVariants as event
use Rattle.gx_store.specs.declared.mark.Mark.{Mark}
use Rattle.gx_store.specs.declared.mark.Mark.TheVariants as mark
use Rattle.gx_store.specs.declared.run.Step.{Step}
use Rattle.gx_store.specs.Lines.{BlockState, cid_of, is_command, level_of, state_after}
use Rattle.gx_store.specs.Marks.{answer_count}
use Rattle.gx_store.specs.Messages.{Receives}
use Rattle.gx_store.specs.Points.{Point, ends_in, marks_in}
use Rattle.gx_store.specs.Refusals.{IsCause, is_journal, the_coordinator}
use Rattle.gx_rules.specs.AtCoordinator.{answers, commits, completes, follows, goes_on, is_refused, reason_of, takes_done, with_done, writers_with}
use Rattle.gx_rules.specs.Coordinators.{Command, Coord, CoordTurn, Session, Work, rests, session_of, with_work, work_of}
use Rattle.gx_rules.specs.Fits.{fits_part}
use Rattle.gx_law_order.specs.Lists.{Each}
use Rattle.gx_law_order.specs.Sessions.{Kept, is_live_in, is_working_in}
use Rattle.gx_law_order.specs.Stages.{stage, stage_of}
use Rattle.gx_law_order.specs.Standings.{gx}
use Rattle.gx_law_order.proofs.Statuses.{Closes, Turned, commit-turns}
use Rattle.gx_law_order.specs.Stages.Stage.{Live}
use Rattle.gx_law_order.specs.Scanned.{command_at}
use Rattle.gx_law_order.specs.Rest.{IsCaused, RestAnswer}
use Rattle.gx_law_order.specs.Standing.{IsLineOf, IsSession, IsStanding, Stands, is_alone, is_busy, state_in, under_way}
use Rattle.gx_law_order.proofs.Answers.{command-refusable, done-outside, refused-inside}
use Rattle.gx_law_order.proofs.AtLine.{at-calm, runs-command}
use Rattle.gx_law_order.proofs.Busy.{Busy, Likewise, alone-commit, caused-by, block-answer, busy-under, goes-on}
use Rattle.gx_law_order.proofs.Frame.{Does}
use Rattle.gx_law_order.specs.Alive.{HasAnswered, IsHeard}
use Rattle.gx_law_order.proofs.Awaited.{IsAwaited, IsOwn, IsSettled, bare-all}
use Rattle.gx_law_order.proofs.Gathers.{Gathers, GathersIn, HeardNow, gathers-done, gathers-weaker, heard-now, hears}
use Rattle.gx_law_order.proofs.Outs.{CommandIs, IsBare, abort-bare, bare-outs, commit-bare}
use Rattle.gx_law_order.proofs.Under.{Under, refuse-does}

-- WHAT A REFUSAL IS BY
abbrev pub ByWord : Node → Reply → Outcome → Type 0
ByWord i r (outcome.Refused j) = ((r ≡ reply.Jfault) × (j ≡ i)) ⊎ (j ≡ the_coordinator)
ByWord i r _ = Unit {0}

prepares-by : (g : Gxid) (ws ps rest : List Node) (b : Bool) (i : Node) → ByWord i reply.Prepared (prepares g ws ps rest b).out.outcome
prepares-by g ws ps [] false i = tt
prepares-by g ws ps [] true i = inr refl
prepares-by g ws ps (j ∷ js) b i = tt

ends-by : (g : Gxid) (ps : List Node) (i : Node) (r : Reply) → ByWord i r (ends_committed g ps).out.outcome
ends-by g [] i r = tt
ends-by g (j ∷ js) i r = tt

finishes-by : (g : Gxid) (ps rest : List Node) (i : Node) → ByWord i reply.Committed (finishes g ps rest).out.outcome
finishes-by g ps [] i = ends-by g ps i reply.Committed
finishes-by g ps (j ∷ js) i = tt

forgets-by : (rest : List Node) (i : Node) (r : Reply) → ByWord i r (forgets rest).out.outcome
forgets-by [] i r = tt
forgets-by (j ∷ js) i r = tt

gives-by : (rest : List Node) (i : Node) (r : Reply) → ByWord i r (gives_up rest).out.outcome
gives-by [] i r = tt
gives-by (j ∷ js) i r = tt

takes-by : (g : Gxid) (ps : List Node) (i : Node) (b : Bool) (p : Phase) (r : Reply) → ByWord i r (takes g ps i b p r).out.outcome
takes-by g ps i b (Preparing ws a) reply.Prepared = prepares-by g ws ps (without i a) b i
takes-by g ps i b (Preparing ws a) reply.Jfault = inl (refl, refl)
takes-by g ps i b (CommittingOne w) reply.Committed = ends-by g ps i reply.Committed
takes-by g ps i b (CommittingOne w) reply.Jfault = inl (refl, refl)
takes-by g ps i b (CommittingTwo a) reply.Committed = finishes-by g ps (without i a) i
takes-by g ps i b (Ended a) reply.Forgotten = forgets-by (without i a) i reply.Forgotten
takes-by g ps i b (Aborting a) reply.Aborted = gives-by (without i a) i reply.Aborted
takes-by g ps i b p r = tt

pub found-by : (g : Gxid) (i : Node) (r : Reply) (b : Bool) (t : Option Txn) → ByWord i r (reply_found g i r b t).out.outcome
found-by g i r b None = tt
found-by g i r b (Some t) = by_test (is_expected t.phase i r)
  where
    by_test : (q : Bool) → ByWord i r (if q then takes g t.participants i b t.phase r else stays).out.outcome
    by_test true = takes-by g t.participants i b t.phase r
    by_test false = tt

module _ (script : Script) (steps : List Step) (c : Coord) (k : Kept script c) (all : (j : SessionId) → IsSession script j steps c) (gath : (j : ℕ) → GathersIn script (IsHeard steps) (gx j) (c.works j).command) (from : Node) (to : Node) (number : ℕ) (g : Gxid) where
  abbrev e : Event
  e = event.Receive from to number

  abbrev ms : List Mark
  ms = marks_in steps

  abbrev s : SessionId
  s = (work_of c g).session

  abbrev y : Session
  y = session_of c s

  pub stand : (B : Block) (P : Pending) → y.state.block ≡ B → y.state.pending ≡ P → is_busy B P ≡ true → y.transaction ≡ g → (ends_in s steps ≡ 0) × Stands script s ms c.table.next.0 B P y.lines g (work_of c g)
  stand B P eb ep busy same = by_standing (all s).stands
    where
      not-over : (b : Block) (p : Pending) → b ≡ block.Outside → p ≡ pending.Nothing → is_busy b p ≡ true → ⊥
      not-over b p f h q = grind arith

      by_standing : IsStanding script s ms c.table.next.0 y.state.block y.state.pending y.lines y.transaction (work_of c y.transaction) (ends_in s steps) → (ends_in s steps ≡ 0) × Stands script s ms c.table.next.0 B P y.lines g (work_of c g)
      by_standing (inl z) =
          (z.0, subst (λ (x : Gxid). Stands script s ms c.table.next.0 B P y.lines x (work_of c x)) same (subst (λ x. Stands script s ms c.table.next.0 B x y.lines y.transaction (work_of c y.transaction)) ep (subst (λ x. Stands script s ms c.table.next.0 x y.state.pending y.lines y.transaction (work_of c y.transaction)) eb z.1)))
      by_standing (inr z) = absurd (not-over B P (sym eb ∙ z.1.outside) (sym ep ∙ z.1.idle) busy)

  pub same-gxid : y.transaction.0 ≡ g.0 → y.transaction ≡ g
  same-gxid h = ap (λ (i : ℕ). let x : Gxid = record { 0 = i } in x) h

  -- what the command has gathered before this event
  pub gathers-old : (m : Command) → (work_of c g).command ≡ Some m → Gathers script (HeardNow steps e) g m
  gathers-old m it = gathers-weaker script (IsHeard steps) (HeardNow steps e) g (Some m) (heard-now steps e) (subst (GathersIn script (IsHeard steps) g) it (gath g.0))

  -- A COMMAND IS UNDER WAY
  -- the session of a transaction whose session waits for a command
  pub record Works (B : Block) (m : Command) : Type 0 where
    pub is_busy_so : Busy script steps c from to number g B pending.Command m.stmt
    pub has_it : (work_of c g).command ≡ Some m
    pub command : is_command (state_in B is_busy_so.stands.commands) m.stmt ≡ true
    pub counted : m.cid ≡ cid_of (state_in B is_busy_so.stands.commands)

  pub works-on : (B : Block) (m : Command) → y.state.block ≡ B → y.state.pending ≡ pending.Command → is_busy B pending.Command ≡ true → y.transaction ≡ g → (work_of c g).command ≡ Some m → Works B m
  works-on B m eb ep busy same it = by_line (stand B pending.Command eb ep busy same) ((stand B pending.Command eb ep busy same).1.owns busy).1
    where
      by_line : (st : (ends_in s steps ≡ 0) × Stands script s ms c.table.next.0 B pending.Command y.lines g (work_of c g)) → IsLineOf script s y.lines B st.1.commands (work_of c g) pending.Command → Works B m
      by_line st (inr l) = absurd (nothing (work_of c g).command l.2 it)
        where
          nothing : (o : Option Command) → o ≡ None → o ≡ Some m → ⊥
          nothing o e f = cc
      by_line st (inl l) =
          let is : l.0 ≡ m = some-same l.0 m (sym l.1 ∙ it) in
          record {
            is_busy_so = record { its = same; in_block = eb; in_line = ep; busy = busy; waiting = refl; starts = (all s).starts; ends = st.0; stands = st.1; line_is = l.2 ∙ ap (λ (z : Command). Some z.stmt) is };
            has_it = it;
            command = subst (λ (z : Command). is_command (state_in B st.1.commands) z.stmt ≡ true) is l.3;
            counted = sym (ap (λ (z : Command). z.cid) is) ∙ l.4;
          }

  working-is : (q : Pending) → is_working_in q ≡ true → q ≡ pending.Command
  working-is q h = grind arith

  -- DONE
  module _ (m : Command) (has_it : (work_of c g).command ≡ Some m) (i : Node) (taken : has i m.awaited ≡ true) where
    some-awaited : m.awaited ≡ [] → ⊥
    some-awaited h = none (sym (ap (has i) h) ∙ taken)
      where
        none : has i [] ≡ true → ⊥
        none q = grind arith

    runs-it : (stage_of c g.0 ≡ Live) × (is_working_in y.state.pending ≡ true)
    runs-it = (k.tied g.0).awaits m has_it some-awaited

    is-its : (y.transaction.0 ≡ g.0) × (is_live_in y.state.block y.state.pending ≡ true)
    is-its = (k.tied g.0).live runs-it.0

    works-in : (B : Block) → y.state.block ≡ B → is_busy B pending.Command ≡ true → Works B m
    works-in B eb busy = works-on B m eb (working-is y.state.pending runs-it.1) busy (same-gxid is-its.0) has_it

    not-failed : y.state.block ≡ block.Failed → ⊥
    not-failed h = clash y.state.block y.state.pending h is-its.1
      where
        clash : (b : Block) (q : Pending) → b ≡ block.Failed → is_live_in b q ≡ true → ⊥
        clash b q h l = grind arith

    module _ (wrote : Bool) (count : ℕ) (part : Part) (fit : fits_part m.stmt part ≡ true) (received : Receives steps e i the_coordinator (message.Answer g (reply.Done m.cid wrote count part))) where
      abbrev done : Command
      done = with_done m i count part

      abbrev w1 : Work
      w1 = record (work_of c g) { writers = writers_with wrote i (work_of c g).writers; command = Some done }

      abbrev c1 : Coord
      c1 = with_work c g w1

      gathers-now : Gathers script (HeardNow steps e) g done
      gathers-now = gathers-done script (HeardNow steps e) g m i wrote count part (gathers-old m has_it) taken fit (hears steps e i _ received)

      work-now : work_of c1 g ≡ w1
      work-now = ap (λ q. if q then w1 else work_of c g) (eqb-self g.0)

      other-works : (j : ℕ) → eqb j g.0 ≡ false → c1.works j ≡ c.works j
      other-works j h = ap (λ q. if q then w1 else c.works j) h

      likewise : (B : Block) (z : Works B m) → Likewise script steps c from to number g B pending.Command m.stmt z.is_busy_so w1
      likewise B z =
          record { session = refl; level = refl; last = refl; snapshot = refl; under = sym (ap under_way has_it); waiting = refl; now_too = λ first h. (λ o f. subst (λ (v : Command). command_at script (Some (s, first)) v.cid.0 ≡ Some v.stmt) (some-same done o f) (h.0 m has_it), h.1); its_line = inl (done, refl, z.is_busy_so.line_is, z.command, z.counted) }

      -- an answer that was awaited is this one, or is awaited still
      same-awaited : (a : Cid) (j : Node) (level : Level) → (z : IsAwaited (c.works g.0) a j level) → (m.cid ≡ a) × (has j m.awaited ≡ true)
      same-awaited a j level z = (sym (ap (λ (v : Command). v.cid) is) ∙ z.counted, sym (ap (λ (v : Command). has j v.awaited) is) ∙ z.awaits)
        where
          is : z.its ≡ m
          is = some-same z.its m (sym z.is ∙ has_it)

      this-one : (a : Cid) (j : Node) → m.cid ≡ a → eqb i.0 j.0 ≡ true → HasAnswered (HeardNow steps e) j g a
      this-one a j q t =
          subst (λ (n : ℕ). let x : Node = record { 0 = n } in HasAnswered (HeardNow steps e) x g a) (eqb-true i.0 j.0 t)
          (subst (λ x. HasAnswered (HeardNow steps e) i g x) q (wrote, (count, (part, hears steps e i _ received))))

      goes-still : (turn : CoordTurn) → turn.coord.works g.0 ≡ w1 → (a : Cid) (j : Node) (level : Level) → IsAwaited (c.works g.0) a j level → IsAwaited (turn.coord.works g.0) a j level ⊎ IsSettled (HeardNow steps e) turn.marks g a j
      goes-still turn b a j level z = by_test (eqb i.0 j.0) refl
        where
          by_test : (t : Bool) → eqb i.0 j.0 ≡ t → IsAwaited (turn.coord.works g.0) a j level ⊎ IsSettled (HeardNow steps e) turn.marks g a j
          by_test true t = inr (inl (this-one a j (same-awaited a j level z).0 t))
          by_test false t =
              inl (record { its = done; is = ap (λ (v : Work). v.command) b; counted = (same-awaited a j level z).0; awaits = has-without j i m.awaited ∙ ap (λ x. not x && has j m.awaited) t ∙ (same-awaited a j level z).1; level_is = z.level_is ∙ sym (ap (λ (v : Work). v.level) b) })

      was-last : without i m.awaited ≡ [] → (a : Cid) (j : Node) (level : Level) → IsAwaited (c.works g.0) a j level → HasAnswered (HeardNow steps e) j g a
      was-last last a j level z = by_test (eqb i.0 j.0) refl
        where
          none : (t : Bool) → t ≡ false → (not t && has j m.awaited) ≡ false → has j m.awaited ≡ true → ⊥
          none t p q r = grind arith

          by_test : (t : Bool) → eqb i.0 j.0 ≡ t → HasAnswered (HeardNow steps e) j g a
          by_test true t = this-one a j (same-awaited a j level z).0 t
          by_test false t = absurd (none (eqb i.0 j.0) t (sym (has-without j i m.awaited) ∙ ap (has j) last) (same-awaited a j level z).1)

      on : (B : Block) → Works B m → (turn : CoordTurn) → turn.marks ≡ [] → turn.coord.works g.0 ≡ w1 → ((j : ℕ) → eqb j g.0 ≡ false → turn.coord.works j ≡ c.works j) → ((j : ℕ) → turn.coord.sessions j ≡ c.sessions j) → turn.coord.table.next.0 ≡ c.table.next.0 → Each IsBare turn.outs → Does script steps c e turn
      on B z turn a b d f h outs =
          goes-on script steps c from to number g B pending.Command m.stmt z.is_busy_so turn w1 (likewise B z) a b d f h (bare-outs script (ms ++ turn.marks) turn.outs outs)
          (λ o. subst (CommandIs script (ms ++ turn.marks)) (sym (ap (λ (v : Work). v.command) b)) (subst (CommandIs script (ms ++ turn.marks)) has_it o))
          (λ o. subst (GathersIn script (HeardNow steps e) g) (sym (ap (λ (v : Work). v.command) b)) gathers-now)
          (λ o v q. subst (λ (z : Command). Each (λ (x : Out). IsOwn g z.cid (turn.coord.works g.0).level x.message) z.orders) (some-same done v (sym (ap (λ (z : Work). z.command) b) ∙ q)) (subst (λ l. Each (λ (x : Out). IsOwn g m.cid l x.message) m.orders) (sym (ap (λ (z : Work). z.level) b)) (o m has_it)))
          (bare-all turn.coord turn.outs outs) (goes-still turn b)

      under : (B : Block) (z : Works B m) → Under script steps c e c1 s g w1 y (answer_count s ms) (state_in B z.is_busy_so.stands.commands) (is_alone B pending.Command) m.stmt []
      under B z = busy-under script steps c from to number g B pending.Command m.stmt z.is_busy_so c1 w1 work-now refl other-works (λ j. refl) refl

      alone : without i m.awaited ≡ [] → Works block.Outside m → Does script steps c e (commits c1 g)
      alone last z = by_outcome turn.out.outcome t.how
        where
          turn : Turn
          turn = on_commit c1.table g (work_of c1 g).writers

          t : Turned c.table g.0 (on_commit c1.table g (work_of c1 g).writers) (λ a b o. Closes b o)
          t = commit-turns c.table g.0 (work_of c1 g).writers k.whole runs-it.0

          by_outcome : (o : Outcome) → Closes (stage t.now) o → Does script steps c e (follows c1 g (on_commit c1.table g (work_of c1 g).writers) o)
          by_outcome outcome.Pending h = on block.Outside z _ refl work-now other-works (λ j. refl) refl (commit-bare c1.table g (work_of c1 g).writers)
          by_outcome outcome.Committed h = alone-commit script steps c from to number g block.Outside pending.Command m.stmt z.is_busy_so c1 w1 done turn gathers-now last z.counted (under block.Outside z) refl refl refl refl z.command refl (commit-bare c1.table g (work_of c1 g).writers) (was-last last)
          by_outcome outcome.Decided h = absurd h
          by_outcome (outcome.Refused j) h = absurd h
          by_outcome outcome.Ended h = absurd h

      inside : without i m.awaited ≡ [] → (l : Level) → Works (block.Open l) m → Does script steps c e (answers c1 g (work_of c1 g))
      inside last l z = block-answer script steps c from to number g (block.Open l) pending.Command m.stmt z.is_busy_so c1 w1 done l gathers-now last z.counted (under (block.Open l) z) (likewise (block.Open l) z) refl refl refl refl z.command refl (was-last last)

      by_block : without i m.awaited ≡ [] → (B : Block) → y.state.block ≡ B → Does script steps c e (completes c1 g B)
      by_block last block.Outside eb = alone last (works-in block.Outside eb refl)
      by_block last (block.Open l) eb = inside last l (works-in (block.Open l) eb refl)
      by_block last block.Failed eb = absurd (not-failed eb)

      waits-on : (B : Block) → y.state.block ≡ B → Does script steps c e (rests c1)
      waits-on block.Outside eb = on block.Outside (works-in block.Outside eb refl) (rests c1) refl work-now other-works (λ j. refl) refl tt
      waits-on (block.Open l) eb = on (block.Open l) (works-in (block.Open l) eb refl) (rests c1) refl work-now other-works (λ j. refl) refl tt
      waits-on block.Failed eb = absurd (not-failed eb)

      by_left : (left : List Node) → without i m.awaited ≡ left → Does script steps c e (goes_on c1 g left)
      by_left [] last = by_block last _ (ap (λ (v : Work). (c.sessions v.session.0).state.block) (sym work-now))
      by_left (j ∷ js) last = waits-on y.state.block refl

      pub done-does : Does script steps c e (takes_done c g i wrote count part m)
      done-does = by_left (without i m.awaited) refl

    -- FAILED
    module _ (why : Cause) (cid : Cid) (its_cid : m.cid ≡ cid) (received : Receives steps e i the_coordinator (message.Answer g (reply.Failed cid why))) where
      not-journal : (y : Cause) → is_journal (reason_of y) ≡ false
      not-journal (cause.Serialization rid h) = refl
      not-journal cause.Overflow = refl
      not-journal cause.DivisionByZero = refl

      refuses-in : (B : Block) → is_busy B pending.Command ≡ true → Works B m → Does script steps c e (is_refused c g (on_abort c.table g) [] (reason_of why))
      refuses-in B busy z =
          refuse-does script steps c e c s g (work_of c g) y (answer_count s ms) b (is_alone B pending.Command) m.stmt [] under0 (on_abort c.table g) [] (reason_of why) (block_after_refusal B pending.Command) refl (command-refusable b m.stmt (reason_of why) z.command (not-journal why))
          (ap (λ q. block_after_refusal q y.state.pending) z.is_busy_so.in_block ∙ ap (block_after_refusal B) z.is_busy_so.in_line) (idle B) (after B busy z.command) tt tt under0.running (λ later. tt) (λ later rest. by_cause why refl (told-so later rest)) (abort-bare c.table g) (λ later. tt) (λ t later. as-rest later why (caused-by script steps c from to number g B pending.Command m.stmt z.is_busy_so t why later))
        where
          b : BlockState
          b = state_in B z.is_busy_so.stands.commands

          under0 : Under script steps c e c s g (work_of c g) y (answer_count s ms) (state_in B z.is_busy_so.stands.commands) (is_alone B pending.Command) m.stmt []
          under0 = busy-under script steps c from to number g B pending.Command m.stmt z.is_busy_so c (work_of c g) refl refl (λ j h. refl) (λ j. refl) refl

          idle : (q : Block) → is_busy (block_after_refusal q pending.Command) pending.Nothing ≡ false
          idle block.Outside = refl
          idle (block.Open l) = refl
          idle block.Failed = refl

          after : (q : Block) → is_busy q pending.Command ≡ true → is_command (state_in q z.is_busy_so.stands.commands) m.stmt ≡ true → state_after (state_in q z.is_busy_so.stands.commands) m.stmt (told.Refused (reason_of why)) ≡ state_in (block_after_refusal q pending.Command) 0
          after block.Outside h f = done-outside m.stmt (told.Refused (reason_of why)) f
          after (block.Open l) h f = refused-inside l z.is_busy_so.stands.commands m.stmt (reason_of why) f
          after block.Failed h f = absurd (false-true h)

          point : List Mark → Point
          point later = record { steps = steps; event = event.Receive from to number; earlier = mark.Abort g ∷ []; later = later }

          as-caused : (later : List Mark) (w : Cause) → RestAnswer script (point later) s (told.Refused (reason_of w)) → IsCaused script (point later) s (reason_of w)
          as-caused later (cause.Serialization rid h) rest = rest
          as-caused later cause.Overflow rest = rest
          as-caused later cause.DivisionByZero rest = rest

          as-rest : (later : List Mark) (w : Cause) → IsCaused script (point later) s (reason_of w) → RestAnswer script (point later) s (told.Refused (reason_of w))
          as-rest later (cause.Serialization rid h) rest = rest
          as-rest later cause.Overflow rest = rest
          as-rest later cause.DivisionByZero rest = rest

          told-so : (later : List Mark) → RestAnswer script (record { steps = steps; event = event.Receive from to number; earlier = mark.Abort g ∷ []; later = later }) s (told.Refused (reason_of why)) → IsCause (record { steps = steps; event = event.Receive from to number; earlier = mark.Abort g ∷ []; later = later }) m.stmt (level_of (state_in B z.is_busy_so.stands.commands)) g (cid_of (state_in B z.is_busy_so.stands.commands)) (reason_of why)
          told-so later rest =
              as-caused later why rest m.stmt (level_of b) g (cid_of b) i why
              (runs-command script steps e s m.stmt (answer_count s ms) b (is_alone B pending.Command) (Some g) (mark.Abort g ∷ []) (at-calm script steps e s m.stmt (answer_count s ms) b (is_alone B pending.Command) (Some g) [] (mark.Abort g ∷ []) under0.at (tt, tt)) later g under0.has refl z.command)
              (subst (λ x. Receives steps e i the_coordinator (message.Answer g (reply.Failed x why))) (sym its_cid ∙ z.counted) received) refl

          by_cause : {A : Type 0} → (w : Cause) → w ≡ why → A → A
          by_cause w h a = a

      by_place : (B : Block) → y.state.block ≡ B → Does script steps c e (is_refused c g (on_abort c.table g) [] (reason_of why))
      by_place block.Outside eb = refuses-in block.Outside refl (works-in block.Outside eb refl)
      by_place (block.Open l) eb = refuses-in (block.Open l) refl (works-in (block.Open l) eb refl)
      by_place block.Failed eb = absurd (not-failed eb)

      pub failed-does : Does script steps c e (is_refused c g (on_abort c.table g) [] (reason_of why))
      failed-does = by_place y.state.block refl
