-- PREPARE and COMMIT are of a transaction whose line under way is COMMIT, or its one command, which is done; EXEC is of a command under
-- way of a transaction that nobody was asked to prepare or to commit.
use Rattle.std.proofs.Common.{◌≡◌, ◌⊎◌, inl, inr, ℕ, zero, suc, ◌+◌, List, [], ◌∷◌, ◌++◌, Option, Some, None, Bool, true, false, refl, sym, subst, ap, ◌∙◌, ◌||◌, arith, append-nil}
use Rattle.std.proofs.lemmas.List.{append_assoc}
use Rattle.std.specs.Prelude.{length, nat_le, slice_get, take}
use Rattle.gx_lemmas.proofs.Options.{some-same}
use Rattle.gx_ids.specs.declared.ids.Cid.{Cid}
use Rattle.gx_ids.specs.declared.ids.Gxid.{Gxid}
use Rattle.gx_ids.specs.declared.ids.Node.{Node}
use Rattle.gx_ids.specs.declared.ids.SessionId.{SessionId}
use Rattle.gx_tree.specs.declared.stmt.Level.{Level}
use Rattle.gx_tree.specs.declared.stmt.Stmt.{Stmt}
use Rattle.gx_tree.specs.declared.stmt.Stmt.TheVariants as stmt
use Rattle.gx_dtx.specs.Nodes.{has}
use Rattle.gx_dtx.specs.Rules.{abort_found, aborts}
use Rattle.gx_dtx.specs.Table.{find_txn}
use Rattle.gx_dtx.specs.declared.phase.Phase.{Phase as Status}
use Rattle.gx_dtx.specs.declared.phase.Phase.TheVariants as status
use Rattle.gx_dtx.specs.declared.txn.Txn.{Txn}
use Rattle.gx_msg.specs.declared.message.Message.{Message}
use Rattle.gx_msg.specs.declared.message.Message.TheVariants as message
use Rattle.gx_msg.specs.declared.message.Out.{Out}
use Rattle.gx_script.specs.declared.Script.{Script}
use Rattle.gx_script.specs.declared.state.Block.{Block}
use Rattle.gx_script.specs.declared.state.Block.TheVariants as block
use Rattle.gx_script.specs.declared.state.Pending.{Pending}
use Rattle.gx_script.specs.declared.state.Pending.TheVariants as pending
use Rattle.gx_store.specs.declared.event.Event.{Event}
use Rattle.gx_store.specs.declared.mark.Mark.{Mark}
use Rattle.gx_store.specs.declared.mark.Mark.TheVariants as mark
use Rattle.gx_store.specs.declared.node.NodeEvent.{NodeEvent}
use Rattle.gx_store.specs.declared.node.NodeEvent.TheVariants as here
use Rattle.gx_store.specs.declared.run.Step.{Step}
use Rattle.gx_store.specs.Commands.{IsUnderWay, RunsCommand, RunsLine, state_at}
use Rattle.gx_store.specs.Lines.{BlockState, cid_of, is_command, level_of, may_commit, stmt_of, transaction_of, state_of}
use Rattle.gx_store.specs.Marks.{answer_count, is_aborted, is_begun, is_committed, is_committing, is_ended, started_after}
use Rattle.gx_store.specs.Messages.{HasReceived, Receives}
use Rattle.gx_store.specs.Points.{Point, before, marks_in, starts_by, starts_in}
use Rattle.gx_store.specs.Protocol.{GoesTo, IsCommitting, IsDispatched, IsReturned, IsSentBy, IsToExecute}
use Rattle.gx_store.specs.Refusals.{the_coordinator}
use Rattle.gx_rules.specs.AtCoordinator.{cancel_turn, cancels, command_answer, coord_turn, on_event}
use Rattle.gx_rules.specs.AtSegment as segment
use Rattle.gx_rules.specs.AtSegment.{seg_rule}
use Rattle.gx_rules.specs.Coordinators.{Command, CoordTurn, Session, Work, session_of, work_of}
use Rattle.gx_rules.specs.Machine.{World, and_cancelled, coord_did, seg_did}
use Rattle.gx_rules.specs.Segments.{SegTurn}
use Rattle.gx_rules.specs.Sending.{clock_after, counted, numbered}
use Rattle.gx_rules.proofs.Rounds.{cancel-ways}
use Rattle.gx_law_order.proofs.Always.{HeardAt, by-heard}
use Rattle.gx_law_order.proofs.AtLine.{AtLine, has_txn, runs-line, transaction-is, under-way}
use Rattle.gx_law_order.proofs.Calls.{for-all, to-nodes}
use Rattle.gx_law_order.proofs.Commits.{take-kept}
use Rattle.gx_law_order.proofs.Complete.{Came, IsBack, Replied, SentBack, StepBack, each-get, each-parts, starts-last}
use Rattle.gx_law_order.proofs.Counts.{NoSent}
use Rattle.gx_law_order.proofs.Events.{live-stage}
use Rattle.gx_law_order.proofs.Everywhere.{Holds, does-it, fol-no-sent, follows-no-sent, parts_in, resumed-does}
use Rattle.gx_law_order.proofs.Gathers.{GathersIn, HeardNow, gathered-back, gathered-is, gathers-weaker}
use Rattle.gx_law_order.proofs.Handled.{Follows, Tells}
use Rattle.gx_law_order.proofs.Later.{commit-more, each-contained, no-orders}
use Rattle.gx_law_order.proofs.Lists.{each_append, each_weaker}
use Rattle.gx_law_order.specs.Lists.{Each}
use Rattle.gx_law_order.proofs.Lowered.{NoExec, abort-none}
use Rattle.gx_law_order.proofs.More.{marks-last}
use Rattle.gx_law_order.proofs.Past.{aborted-append, committed-append}
use Rattle.gx_law_order.proofs.Moves.{HasNamed}
use Rattle.gx_law_order.proofs.Replying.{take-length}
use Rattle.gx_law_order.proofs.Said.{CalmFor, Said, said-calm}
use Rattle.gx_law_order.specs.Stages.Stage.{Closing, Live as LiveStage}
use Rattle.gx_law_order.proofs.Unasked.{ArePosted, committing-append, live-unasked}
use Rattle.gx_law_order.proofs.Ways.{AsksFor, CommandOf, Led, SaidOut, stands_for}
use Rattle.gx_law_order.specs.Sessions.{Tied, is_closing_in, is_live_in, is_working_in}
use Rattle.gx_law_order.specs.Stages.{Stage, stage, stage_in, stage_of}
use Rattle.gx_law_order.proofs.World.{Knows}
use Rattle.gx_law_order.specs.Alive.{IsHeard}
use Rattle.gx_law_order.specs.Followed.{CommitsAt, DoMarksCommit, DoStepsCommit}
use Rattle.gx_law_order.specs.Said.{gxid_in}
use Rattle.gx_law_order.specs.Standing.{AreSessions, IsLineOf, IsStanding, Owns, Stands, is_alone, state_in, waits}
use Rattle.gx_law_order.specs.Standings.{Known, Part, Standing, at, gx, is_closing, known_at, standing, standing_in, waits_in}
use Rattle.gx_law_order.specs.Standings.Standing.{Live, Over, Preparing}

-- who is on the way to a commit
closing-stage : (b : Bool) (o : Option Txn) (i : ℕ) → is_closing (standing b o i) ≡ true → stage o ≡ Closing
closing-stage true None i e = absurd (cc)
closing-stage false None i e = absurd (cc)
closing-stage b (Some t) i e = by_phase t.phase e
  where
    by_phase : (p : Status) → is_closing (standing_in p i) ≡ true → stage_in p ≡ Closing
    by_phase status.Active e = absurd (cc)
    by_phase (status.Preparing xs aw) e = refl
    by_phase (status.CommittingOne w) e = refl
    by_phase (status.CommittingTwo aw) e = refl
    by_phase (status.Ended aw) e = absurd (cc)
    by_phase (status.Aborting aw) e = absurd (cc)

not-live : (a : Stage) → a ≡ Closing → a ≡ LiveStage → ⊥
not-live a x y = grind arith

not-over : (a : Standing) → is_closing a ≡ true → a ≡ Over → ⊥
not-over a e x = grind arith

get-split : (xs : List Step) (x y : Step) (k : ℕ) → slice_get (xs ++ x ∷ []) k ≡ Some y → (slice_get xs k ≡ Some y) ⊎ ((k ≡ length xs) × (y ≡ x))
get-split [] x y zero e = inr (refl, sym (some-same x y e))
get-split [] x y (suc k) e = absurd (cc)
get-split (z ∷ xs) x y zero e = inl e
get-split (z ∷ xs) x y (suc k) e = by_part (get-split xs x y k e)
  where
    by_part : (slice_get xs k ≡ Some y) ⊎ ((k ≡ length xs) × (y ≡ x)) → (slice_get xs k ≡ Some y) ⊎ ((suc k ≡ suc (length xs)) × (y ≡ x))
    by_part (inl q) = inl q
    by_part (inr q) = inr (ap suc q.0, q.1)

-- what commands have gathered so far was heard
abbrev pub AreGathering : Script → World → Type 0
AreGathering script w = (j : ℕ) → GathersIn script (IsHeard w.steps) (gx j) (w.coord.works j).command

-- AT A SENDING of the coordinator's last step
module _ (script : Script) (v : World) (k : Knows script v) (h : Holds script v) (r : Replied script v) (s : AreSessions script v) (posted : ArePosted v) (gathers : AreGathering script v) (steps : List Step) (step : Step) (own : step.stamp.node ≡ the_coordinator) (all : v.steps ≡ steps ++ step ∷ []) where
  module _ (earlier later : List Mark) (m : Mark) (marks : step.marks ≡ earlier ++ m ∷ later) (calm : (j : SessionId) → Each (CalmFor j) (m ∷ later)) where
    abbrev point : Point
    point = record { steps = steps; event = step.event; earlier = earlier; later = later }

    abbrev ms : List Mark
    ms = marks_in steps ++ earlier

    whole : marks_in v.steps ≡ ms ++ m ∷ later
    whole = ap marks_in all ∙ marks-last steps step ∙ ap (λ x. marks_in steps ++ x) marks ∙ sym (append_assoc (marks_in steps) earlier (m ∷ later))

    -- what its marks say of a session in the end, they say there
    said-there : (j : SessionId) (n : ℕ) (b : BlockState) (u : Bool) (g : Option Gxid) → Said script j (marks_in v.steps) n b u g → Said script j ms n b u g
    said-there j n b u g f =
        let now = said-calm script j ms (m ∷ later) (answer_count j ms) (state_of script j ms) (is_begun j ms) (started_after j None ms) (record { answered = refl; state = refl; begun = refl; started = refl }) (calm j) in
        record {
          answered = sym now.answered ∙ ap (λ x. answer_count j x) (sym whole) ∙ f.answered;
          state = sym now.state ∙ ap (λ x. state_of script j x) (sym whole) ∙ f.state;
          begun = sym now.begun ∙ ap (λ x. is_begun j x) (sym whole) ∙ f.begun;
          started = sym now.started ∙ ap (λ x. started_after j None x) (sym whole) ∙ f.started;
        }

    -- WHAT WAS SENT
    heard-there : (from : Node) (told : Message) (place : ℕ) (there : Step) → slice_get v.steps place ≡ Some there → Receives (take place v.steps) there.event from the_coordinator told → HasReceived point from the_coordinator told
    heard-there from told place there at received = by_place (get-split steps step there place (subst (λ (q : List Step). slice_get q place ≡ Some there) all at))
      where
        got : Receives (take place (steps ++ step ∷ [])) there.event from the_coordinator told
        got = subst (λ (q : List Step). Receives (take place q) there.event from the_coordinator told) all received

        by_place : (slice_get steps place ≡ Some there) ⊎ ((place ≡ length steps) × (there ≡ step)) → HasReceived point from the_coordinator told
        by_place (inl q) = (place, inl (there, q, subst (λ (x : List Step). Receives x there.event from the_coordinator told) (take-kept steps (step ∷ []) place there q) got))
        by_place (inr q) = (
          length steps,
          inr (
            refl,
            subst (λ (x : List Step). Receives x step.event from the_coordinator told) (take-length steps (step ∷ []))
                (subst (λ (n : ℕ). Receives (take n (steps ++ step ∷ [])) step.event from the_coordinator told) q.0
                (subst (λ (x : Step). Receives (take place (steps ++ step ∷ [])) x.event from the_coordinator told) q.1 got)),
          ),
        )

    came-there : (i g n : ℕ) → Came v.steps i g n → IsReturned point (gx g) (record { 0 = n }) (at i)
    came-there i g n c = record { wrote = c.wrote; count = c.count; part = c.part; received = heard-there (at i) _ c.place c.step c.there c.received }

    steps-back : Each (StepBack v.coord v.steps) steps × Each (StepBack v.coord v.steps) (step ∷ [])
    steps-back = each-parts (StepBack v.coord v.steps) steps (step ∷ []) (subst (λ (q : List Step). Each (StepBack v.coord v.steps) q) all r.back)

    step-back : Each (SentBack v.coord v.steps step.stamp.node) (earlier ++ later)
    step-back =
        let parts = each-parts (SentBack v.coord v.steps step.stamp.node) earlier (m ∷ later) (subst (λ (q : List Mark). Each (SentBack v.coord v.steps step.stamp.node) q) marks steps-back.1.0) in
        each_append (SentBack v.coord v.steps step.stamp.node) earlier later parts.0 parts.1.1

    back-there : (g : Gxid) (c : Cid) (node : Node) → IsDispatched point g c node → IsBack v.coord v.steps node.0 g.0 c.0
    back-there g c node d = by_sent d.sent
      where
        told : Message
        told = message.Exec g c d.level d.snapshot d.horizon d.slice

        by_sent : IsSentBy point node d.number told → IsBack v.coord v.steps node.0 g.0 c.0
        by_sent (inl z) = each-get (SentBack v.coord v.steps z.sending.sender.stamp.node) z.sending.sender.marks z.mark _ (each-get (StepBack v.coord v.steps) steps z.step z.sending.sender steps-back.0 z.sending.at) z.sending.sent z.sending.node
        by_sent (inr z) = each-contained (SentBack v.coord v.steps step.stamp.node) (earlier ++ later) (mark.Sent node d.number told) step-back z own

    -- A COMMAND GOES OUT
    module _ (g : Gxid) (c : Cid) (i : ℕ) (awaited : waits_in (v.coord.works g.0).command i ≡ true) (number : c.0 ≡ (v.coord.works g.0).last) where
      abbrev work : Work
      work = v.coord.works g.0

      abbrev of : SessionId
      of = work.session

      abbrev its : Session
      its = session_of v.coord of

      abbrev now : List Mark
      now = marks_in v.steps

      tied-so : Tied (stage_of v.coord g.0) g.0 work its
      tied-so = k.kept.tied g.0

      -- its command is awaited
      abbrev IsAwaitedOne : Type 0
      IsAwaitedOne = (m : Command) × (work.command ≡ Some m) × (stage_of v.coord g.0 ≡ LiveStage) × (is_working_in its.state.pending ≡ true)

      awaited-one : (o : Option Command) → work.command ≡ o → waits_in o i ≡ true → IsAwaitedOne
      awaited-one None e q = absurd (cc)
      awaited-one (Some m) e q = let a = tied-so.awaits m e (λ z. differ (sym (ap (has (at i)) z) ∙ q)) in (m, e, a.0, a.1)
        where
          differ : has (at i) [] ≡ true → ⊥
          differ z = cc

      one : IsAwaitedOne
      one = awaited-one work.command refl awaited

      its-number : c ≡ one.0.cid
      its-number = ap (λ n. let x : Cid = record { 0 = n } in x) (number ∙ sym (subst (CommandOf g.0 work.last) one.1 (h.stands.works g.0).command).0)

      live-everywhere : (n : ℕ) → (known_at v.coord now n g.0).at ≡ Live
      live-everywhere n = let z = live-stage v.coord g.0 one.2 in ap (λ o. standing (nat_le v.coord.table.next.0 g.0) o n) z.found ∙ ap (λ q. standing_in q n) z.active

      unasked-there : is_committing ms g ≡ false
      unasked-there =
          first-false (is_committing ms g) (is_committing (m ∷ later) g)
          (sym (ap (λ x. is_committing x g) whole ∙ committing-append ms (m ∷ later) g) ∙ live-unasked script v h g live-everywhere posted)
        where
          first-false : (a b : Bool) → (a || b) ≡ false → a ≡ false
          first-false a b e = grind arith

      running-there : is_ended now g ≡ false → is_ended ms g ≡ false
      running-there e =
          both-false (is_committed ms g) (is_committed (m ∷ later) g) (is_aborted ms g) (is_aborted (m ∷ later) g)
          (sym (ap (λ x. is_ended x g) whole ∙ ap (λ b. b || is_aborted (ms ++ m ∷ later) g) (committed-append ms (m ∷ later) g) ∙ ap (λ b. (is_committed ms g || is_committed (m ∷ later) g) || b) (aborted-append ms (m ∷ later) g)) ∙ e)
        where
          both-false : (a b x y : Bool) → ((a || b) || (x || y)) ≡ false → (a || x) ≡ false
          both-false a b x y e = grind arith

      lines-so : its.lines ≡ starts_in of steps + starts_by of step.event
      lines-so = sym (s of).starts ∙ ap (λ x. starts_in of x) all ∙ starts-last of steps step

      -- it is under way
      goes-with : (b : Block) → has_txn (state_in b 0) (is_alone b pending.Command) ≡ true → (st : Stands script of now v.coord.table.next.0 b pending.Command its.lines g work) → Owns of st.commands now v.coord.table.next.0 b g work
          → IsLineOf script of its.lines b st.commands work pending.Command → IsToExecute script point g c
      goes-with b has st owns (inr held) = absurd (none (sym held.2 ∙ one.1))
        where
          none : None ≡ Some one.0 → ⊥
          none e = cc
      goes-with b has st owns (inl out) =
          record {
            session = of;
            line = out.0.stmt;
            level = level_of (state_in b st.commands);
            runs = subst (λ (x : Cid). IsUnderWay script point of out.0.stmt (level_of (state_in b st.commands)) g x) (sym (its-number ∙ ap (λ (y : Command). y.cid) (some-same one.0 out.0 (sym one.1 ∙ out.1)) ∙ out.4))
                (under-way script steps step.event of out.0.stmt (answer_count of now) (state_in b st.commands) (is_alone b pending.Command) (Some g) earlier
                (record {
                  said = said-there of (answer_count of now) (state_in b st.commands) (is_alone b pending.Command) (Some g) (record { answered = refl; state = st.state; begun = st.begun; started = owns.started });
                  starts = sym lines-so ∙ sym st.answered;
                  is_line = ap (λ y. stmt_of of y script.lines) st.answered ∙ out.2;
                }) later g (has-there b st.commands has) refl out.3 (running-there owns.running));
            unasked = unasked-there;
          }
        where
          has-there : (b : Block) (n : ℕ) → has_txn (state_in b 0) (is_alone b pending.Command) ≡ true → has_txn (state_in b n) (is_alone b pending.Command) ≡ true
          has-there block.Outside n e = e
          has-there (block.Open level) n e = e
          has-there block.Failed n e = e

      same-gxid : its.transaction ≡ g
      same-gxid = ap (λ n. gx n) (tied-so.live one.2).0

      goes-by-place : (b : Block) (p : Pending) → is_working_in p ≡ true → is_live_in b p ≡ true → Stands script of now v.coord.table.next.0 b p its.lines g work → IsToExecute script point g c
      goes-by-place block.Outside pending.Command x y st = goes-with block.Outside refl st (st.owns refl).0 (st.owns refl).1
      goes-by-place (block.Open level) pending.Command x y st = goes-with (block.Open level) refl st (st.owns refl).0 (st.owns refl).1
      goes-by-place b p x y st = absurd (cc)

      goes-by-standing : IsStanding script of now v.coord.table.next.0 its.state.block its.state.pending its.lines its.transaction (work_of v.coord its.transaction) (Rattle.gx_store.specs.Points.ends_in of v.steps) → IsToExecute script point g c
      goes-by-standing (inl z) =
          goes-by-place its.state.block its.state.pending one.3 (tied-so.live one.2).1
          (subst (λ (x : Gxid). Stands script of now v.coord.table.next.0 its.state.block its.state.pending its.lines x (work_of v.coord x)) same-gxid z.1)
      goes-by-standing (inr z) = absurd (idle its.state.pending z.1.idle one.3)
        where
          idle : (p : Pending) → p ≡ pending.Nothing → is_working_in p ≡ true → ⊥
          idle p x y = grind arith

      pub to-execute : IsToExecute script point g c
      to-execute = goes-by-standing (s of).stands

    -- IT IS ON ITS WAY TO A COMMIT
    module _ (g : Gxid) (i : ℕ) (closes : is_closing (stands_for v.coord i g) ≡ true) where
      abbrev w : Work
      w = v.coord.works g.0

      abbrev j : SessionId
      j = w.session

      abbrev session : Session
      session = session_of v.coord j

      closing : stage_of v.coord g.0 ≡ Closing
      closing = closing-stage (nat_le v.coord.table.next.0 g.0) (find_txn v.coord.table g) i closes

      tied : Tied (stage_of v.coord g.0) g.0 w session
      tied = k.kept.tied g.0

      -- none of its answers is awaited
      none-waits : (o : Option Command) (n : ℕ) → w.command ≡ o → waits_in o n ≡ true → ⊥
      none-waits None n e q = absurd (cc)
      none-waits (Some c) n e q = not-live (stage_of v.coord g.0) closing (tied.awaits c e (λ z. differ (sym (ap (has (at n)) z) ∙ q))).0
        where
          differ : has (at n) [] ≡ true → ⊥
          differ z = cc

      returns : (c : Cid) (node : Node) → IsBack v.coord v.steps node.0 g.0 c.0 → IsReturned point g c node
      returns c node (inl z) = absurd (none-waits w.command node.0 refl z.0)
      returns c node (inr (inl z)) = came-there node.0 g.0 c.0 z
      returns c node (inr (inr z)) = absurd (not-over (stands_for v.coord i g) closes ((h.stands.pairs i g.0).aborts z))

      done : transaction_of (state_at script j point) j ms ≡ Some g → (line : Stmt) (level : Level) (g2 : Gxid) (c : Cid) (node : Node) → RunsCommand script point j line level g2 c → IsDispatched point g2 c node → IsReturned point g2 c node
      done is line level g2 c node runs sent =
          let same : g ≡ g2 = some-same g g2 (sym is ∙ runs.transaction) in
          subst (λ (x : Gxid). IsReturned point x c node) same (returns c node (subst (λ (x : Gxid). IsBack v.coord v.steps node.0 x.0 c.0) (sym same) (back-there g2 c node sent)))

      -- what its command has gathered is all
      none-left : (m : Command) → w.command ≡ Some m → m.awaited ≡ []
      none-left m e = by_list m.awaited refl
        where
          by_list : (xs : List Node) → m.awaited ≡ xs → m.awaited ≡ []
          by_list [] q = q
          by_list (x ∷ xs) q = absurd (not-live (stage_of v.coord g.0) closing (tied.awaits m e (λ z. some-none (sym q ∙ z))).0)
            where
              some-none : (x ∷ xs) ≡ [] → ⊥
              some-none z = cc

      gathered-there : (m : Command) → w.command ≡ Some m → (node : Node) → GoesTo script g m.cid m.stmt node → IsReturned point g m.cid node
      gathered-there m e =
          gathered-back script point g m.cid m.stmt (command_answer m m.stmt)
          (gathered-is script steps step.event earlier later g m
          (gathers-weaker script (IsHeard v.steps) (HeardNow steps step.event) g (Some m) (λ from told x. heard-there from told x.place x.step x.at x.is) (subst (GathersIn script (IsHeard v.steps) g) e (gathers g.0))) (none-left m e))

      -- the line is this one, and COMMIT is no command
      is-line : (line other : Stmt) (level : Level) (g2 : Gxid) (c : Cid) → RunsLine script point j line → RunsCommand script point j other level g2 c → line ≡ other
      is-line line other level g2 c x y = some-same line other (sym x.line ∙ y.line.line)

      -- its line
      commits-with : (line : Stmt) (n : ℕ) (b : BlockState) (u : Bool) → (a : AtLine script steps step.event j line n b u (Some g) earlier) → has_txn b u ≡ true → may_commit b line ≡ true
          → ((node : Node) → is_command b line ≡ true → GoesTo script g (cid_of b) line node → IsReturned point g (cid_of b) node) → IsCommitting script point g
      commits-with line n b u a has may returned =
          let is = transaction-is script steps step.event j line n b u (Some g) earlier a later g has refl in
          record {
            session = j;
            line = line;
            runs = runs-line script steps step.event j line n b u (Some g) earlier a later;
            transaction = is;
            committing = subst (λ q. may_commit q line ≡ true) (sym a.said.state) may;
            done = done is;
            planned = planned;
          }
        where
          planned : (other : Stmt) (level : Level) (g2 : Gxid) (c : Cid) (node : Node) → RunsCommand script point j other level g2 c → GoesTo script g2 c other node → IsReturned point g2 c node
          planned other level g2 c node r goes =
              let same-line : line ≡ other = is-line line other level g2 c (runs-line script steps step.event j line n b u (Some g) earlier a later) r in
              let same-gxid : g ≡ g2 = some-same g g2 (sym (transaction-is script steps step.event j line n b u (Some g) earlier a later g has refl) ∙ r.transaction) in
              let same-cid : c ≡ cid_of b = r.number ∙ ap cid_of a.said.state in
              subst (λ (x : Cid). IsReturned point g2 x node) (sym same-cid)
              (subst (λ (x : Gxid). IsReturned point x (cid_of b) node) same-gxid
              (returned node (subst (λ (x : Stmt). is_command b x ≡ true) (sym same-line) (subst (λ q. is_command q other ≡ true) a.said.state r.command))
              (subst (λ (x : Stmt). GoesTo script g (cid_of b) x node) (sym same-line)
              (subst (λ (x : Gxid). GoesTo script x (cid_of b) other node) (sym same-gxid) (subst (λ (x : Cid). GoesTo script g2 x other node) same-cid goes)))))

      same-txn : session.transaction ≡ g
      same-txn = ap (λ n. gx n) (tied.closing closing).0

      abbrev marks-now : List Mark
      marks-now = marks_in v.steps

      lines-are : session.lines ≡ starts_in j steps + starts_by j step.event
      lines-are = sym (s j).starts ∙ ap (λ x. starts_in j x) all ∙ starts-last j steps step

      by_place : (b : Block) (p : Pending) → is_closing_in b p ≡ true → Stands script j marks-now v.coord.table.next.0 b p session.lines g w → IsCommitting script point g
      by_place (block.Open level) pending.Commit q st =
          let o = st.owns refl in
          commits-with stmt.Commit (answer_count j marks-now) (state_in (block.Open level) st.commands) (is_alone (block.Open level) pending.Commit)
          (record {
            said = said-there j (answer_count j marks-now) (state_in (block.Open level) st.commands) (is_alone (block.Open level) pending.Commit) (Some g) (record { answered = refl; state = st.state; begun = st.begun; started = o.0.started });
            starts = sym lines-are ∙ sym st.answered;
            is_line = ap (λ y. stmt_of j y script.lines) st.answered ∙ o.1.1;
          }) refl refl (λ node q goes. absurd (cc))
      by_place block.Outside pending.Command q st = by_out (st.owns refl).1
        where
          by_out : IsLineOf script j session.lines block.Outside st.commands w pending.Command → IsCommitting script point g
          by_out (inl out) =
              commits-with out.0.stmt (answer_count j marks-now) (state_in block.Outside st.commands) (is_alone block.Outside pending.Command)
              (record {
                said = said-there j (answer_count j marks-now) (state_in block.Outside st.commands) (is_alone block.Outside pending.Command) (Some g) (record { answered = refl; state = st.state; begun = st.begun; started = (st.owns refl).0.started });
                starts = sym lines-are ∙ sym st.answered;
                is_line = ap (λ y. stmt_of j y script.lines) st.answered ∙ out.2;
              }) refl out.3
              (λ node q goes. subst (λ (x : Cid). IsReturned point g x node) out.4 (gathered-there out.0 out.1 node (subst (λ (x : Cid). GoesTo script g x out.0.stmt node) (sym out.4) goes)))
          by_out (inr held) = absurd (not-live (stage_of v.coord g.0) closing (tied.waits held.0 held.1).0)
      by_place b p q st = absurd (cc)

      by_standing : IsStanding script j marks-now v.coord.table.next.0 session.state.block session.state.pending session.lines session.transaction (work_of v.coord session.transaction) (Rattle.gx_store.specs.Points.ends_in j v.steps) → IsCommitting script point g
      by_standing (inl z) =
          by_place session.state.block session.state.pending (tied.closing closing).1
          (subst (λ (x : Gxid). Stands script j marks-now v.coord.table.next.0 session.state.block session.state.pending session.lines x (work_of v.coord x)) same-txn z.1)
      by_standing (inr z) = absurd (idle session.state.block session.state.pending z.1.idle (tied.closing closing).1)
        where
          idle : (b : Block) (p : Pending) → p ≡ pending.Nothing → is_closing_in b p ≡ true → ⊥
          idle b p x y = grind arith

      pub is-committing : IsCommitting script point g
      is-committing = by_standing (s j).stands

  -- ALL OF THEM
  calm-sents : (j : SessionId) (f : ℕ → ℕ) (outs : List Out) → Each (CalmFor j) (numbered f outs)
  calm-sents j f [] = tt
  calm-sents j f (o ∷ outs) = (tt, calm-sents j (counted f o) outs)

  one-commits : (earlier later : List Mark) (to : Node) (number : ℕ) (m : Message) → step.marks ≡ earlier ++ mark.Sent to number m ∷ later → ((j : SessionId) → Each (CalmFor j) later) → AsksFor v.coord to.0 m → CommitsAt script (record { steps = steps; event = step.event; earlier = earlier; later = later }) (mark.Sent to number m)
  one-commits earlier later to number (message.Prepare g) q calm a = is-committing earlier later (mark.Sent to number (message.Prepare g)) q (λ j. (tt, calm j)) g to.0 (ap is_closing a)
  one-commits earlier later to number (message.Commit g) q calm a = is-committing earlier later (mark.Sent to number (message.Commit g)) q (λ j. (tt, calm j)) g to.0 (ap is_closing a)
  one-commits earlier later to number (message.CommitPrepared g) q calm a = tt
  one-commits earlier later to number (message.Abort g) q calm a = tt
  one-commits earlier later to number (message.Forget g) q calm a = tt
  one-commits earlier later to number (message.Exec g c level x y z) q calm a = to-execute earlier later (mark.Sent to number (message.Exec g c level x y z)) q (λ j. (tt, calm j)) g c to.0 a.0 a.1
  one-commits earlier later to number (message.Answer g x) q calm a = tt
  one-commits earlier later to number (message.Collect round) q calm a = tt
  one-commits earlier later to number (message.Graph round graph) q calm a = tt
  one-commits earlier later to number message.Up q calm a = tt

  sents-commit : (earlier : List Mark) (f : ℕ → ℕ) (outs : List Out) → step.marks ≡ earlier ++ numbered f outs → Each (λ (o : Out). AsksFor v.coord o.node.0 o.message) outs → DoMarksCommit script steps step earlier (numbered f outs)
  sents-commit earlier f [] q a = tt
  sents-commit earlier f (o ∷ outs) q a =
      let sent : Mark = mark.Sent o.node (f o.node.0 + 1) o.message in (
        one-commits earlier (numbered (counted f o) outs) o.node (f o.node.0 + 1) o.message q (λ j. calm-sents j (counted f o) outs) a.0,
        sents-commit (earlier ++ sent ∷ []) (counted f o) outs (q ∙ sym (append_assoc earlier (sent ∷ []) (numbered (counted f o) outs))) a.1,
      )

  pub marks-commit : (earlier ns : List Mark) (f : ℕ → ℕ) (outs : List Out) → step.marks ≡ earlier ++ (ns ++ numbered f outs) → Each NoSent ns → Each (λ (o : Out). AsksFor v.coord o.node.0 o.message) outs → DoMarksCommit script steps step earlier (ns ++ numbered f outs)
  marks-commit earlier [] f outs q n a = sents-commit earlier f outs q a
  marks-commit earlier (x ∷ ns) f outs q n a = (plain-one (record { steps = steps; event = step.event; earlier = earlier; later = ns ++ numbered f outs }) x n.0, marks-commit (earlier ++ x ∷ []) ns f outs (q ∙ sym (append_assoc earlier (x ∷ []) (ns ++ numbered f outs))) n.1 a)
    where
      plain-one : (point : Point) (x : Mark) → NoSent x → CommitsAt script point x
      plain-one point (mark.Sent to number m) n = absurd n
      plain-one point x n = tt

-- NOBODY IS ASKED
abbrev pub AsksNobody : Message → Type 0
AsksNobody (message.Exec g c level snapshot horizon slice) = ⊥
AsksNobody (message.Prepare g) = ⊥
AsksNobody (message.Commit g) = ⊥
AsksNobody _ = Unit {0}

module _ (script : Script) (steps : List Step) (step : Step) where
  quiet-sent : (point : Point) (to : Node) (number : ℕ) (m : Message) → AsksNobody m → CommitsAt script point (mark.Sent to number m)
  quiet-sent point to number (message.Prepare g) a = absurd a
  quiet-sent point to number (message.Commit g) a = absurd a
  quiet-sent point to number (message.CommitPrepared g) a = tt
  quiet-sent point to number (message.Abort g) a = tt
  quiet-sent point to number (message.Forget g) a = tt
  quiet-sent point to number (message.Exec g c level x y z) a = absurd a
  quiet-sent point to number (message.Answer g x) a = tt
  quiet-sent point to number (message.Collect round) a = tt
  quiet-sent point to number (message.Graph round graph) a = tt
  quiet-sent point to number message.Up a = tt

  quiet-one : (point : Point) (x : Mark) → NoSent x → CommitsAt script point x
  quiet-one point (mark.Sent to number m) n = absurd n
  quiet-one point x n = tt

  pub quiet-commits : (earlier ns : List Mark) (f : ℕ → ℕ) (outs : List Out) → Each NoSent ns → Each (λ (o : Out). AsksNobody o.message) outs → DoMarksCommit script steps step earlier (ns ++ numbered f outs)
  quiet-commits earlier [] f [] n a = tt
  quiet-commits earlier [] f (o ∷ outs) n a = (quiet-sent _ o.node (f o.node.0 + 1) o.message a.0, quiet-commits (earlier ++ mark.Sent o.node (f o.node.0 + 1) o.message ∷ []) [] (counted f o) outs tt a.1)
  quiet-commits earlier (x ∷ ns) f outs n a = (quiet-one _ x n.0, quiet-commits (earlier ++ x ∷ []) ns f outs n.1 a)

-- ONE STEP MORE
commit-push : (script : Script) (before ss : List Step) (s : Step) → DoStepsCommit script before ss → DoMarksCommit script (before ++ ss) s [] s.marks → DoStepsCommit script before (ss ++ s ∷ [])
commit-push script before [] s e h = (subst (λ x. DoMarksCommit script x s [] s.marks) (append-nil before) h, tt)
commit-push script before (x ∷ ss) s e h = (e.0, commit-push script (before ++ x ∷ []) ss s e.1 (subst (λ y. DoMarksCommit script y s [] s.marks) (sym (append_assoc before (x ∷ []) ss)) h))

-- by an event of the coordinator
pub turn-commits : (script : Script) (w : World) → Knows script w → Holds script w → (e : Event) (x : NodeEvent) (fails : Bool) → DoStepsCommit script [] w.steps
    → Knows script (coord_did w e (coord_turn script w.coord x fails)) → Holds script (coord_did w e (coord_turn script w.coord x fails)) → Replied script (coord_did w e (coord_turn script w.coord x fails)) → AreSessions script (coord_did w e (coord_turn script w.coord x fails))
    → ArePosted (coord_did w e (coord_turn script w.coord x fails)) → AreGathering script (coord_did w e (coord_turn script w.coord x fails)) → Led script (parts_in w) w.coord (marks_in w.steps) (on_event script w.coord x fails) → DoStepsCommit script [] (coord_did w e (coord_turn script w.coord x fails)).steps
turn-commits script w n v e x fails p n2 v2 r2 s2 posted gathers f =
    commit-push script [] w.steps step p
    (marks-commit script next n2 v2 r2 s2 posted gathers w.steps step refl refl [] turn.marks turn.coord.sent turn.outs refl (fol-no-sent script (marks_in w.steps) turn.marks f.way.fol)
    (each_weaker (SaidOut script (parts_in w) turn.coord (marks_in w.steps ++ turn.marks)) (λ (o : Out). AsksFor next.coord o.node.0 o.message) (λ o q. asks o.node.0 o.message q.2) turn.outs f.outs))
  where
    turn : CoordTurn
    turn = on_event script w.coord x fails

    next : World
    next = coord_did w e (coord_turn script w.coord x fails)

    step : Step
    step = record { stamp = record { clock = clock_after w.coord.clock x; node = the_coordinator }; event = e; marks = turn.marks ++ numbered turn.coord.sent turn.outs }

    asks : (i : ℕ) (m : Message) → AsksFor turn.coord i m → AsksFor next.coord i m
    asks i (message.Exec g c level y h z) a = a
    asks i (message.Prepare g) a = a
    asks i (message.Commit g) a = a
    asks i (message.CommitPrepared g) a = a
    asks i (message.Abort g) a = tt
    asks i (message.Forget g) a = tt
    asks i (message.Collect round) a = tt
    asks i (message.Answer g q) a = tt
    asks i (message.Graph round graph) a = tt
    asks i message.Up a = tt

-- by a victim's turn
abort-asks : (g : Gxid) (t : Option Txn) → Each (λ (o : Out). AsksNobody o.message) (abort_found g t).out.outs
abort-asks g None = tt
abort-asks g (Some t) = by_parts t.participants
  where
    by_parts : (nodes : List Node) → Each (λ (o : Out). AsksNobody o.message) (aborts g nodes).out.outs
    by_parts [] = tt
    by_parts (i ∷ is) = to-nodes (λ (o : Out). AsksNobody o.message) (message.Abort g) (i ∷ is) (for-all _ (λ y. tt) (i ∷ is))

pub victim-commits : (script : Script) (w : World) → Knows script w → Holds script w → (g : Gxid) → HasNamed w.steps w.coord.clock w.coord.rounds g → DoStepsCommit script [] w.steps → DoStepsCommit script [] (and_cancelled w g).steps
victim-commits script w n v g h p =
    commit-more script h.step (cancel_turn w.coord g).marks w.steps h.before h.is
    (no-orders turn.marks turn.coord.sent turn.outs silent (cancel-ways (λ t. Each (λ (o : Out). NoExec o.message) t.outs) w.coord g tt (λ live busy. abort-none g (find_txn w.coord.table g)))) p
    (quiet-commits script h.before h.step h.step.marks turn.marks turn.coord.sent turn.outs silent (cancel-ways (λ t. Each (λ (o : Out). AsksNobody o.message) t.outs) w.coord g tt (λ live busy. abort-asks g (find_txn w.coord.table g))))
  where
    turn : CoordTurn
    turn = cancels w.coord g

    silent : Each NoSent turn.marks
    silent =
        fol-no-sent script (marks_in w.steps) turn.marks
        (Rattle.gx_law_order.proofs.Events.cancel-led script (parts_in w) w.coord (marks_in w.steps) v.stands n.kept n.past (λ i. (n.well.coordinator.works i).writers) g).way.fol

-- by a step of a segment, which asks nobody
answers-ask : (k : Known) (q : Part) (i g : ℕ) (marks : List Mark) (m : Message) → Tells k q i g marks m → AsksNobody m
answers-ask k q i g marks (message.Exec h c level x y z) e = e
answers-ask k q i g marks (message.Prepare h) e = e
answers-ask k q i g marks (message.Commit h) e = e
answers-ask k q i g marks m e = tt

pub heard-commits : (script : Script) (w : World) (n : Knows script w) (v : Holds script w) (e : Event) (x : NodeEvent) (fails : Bool) (i : ℕ) → DoStepsCommit script [] w.steps → HeardAt script w e i x → DoStepsCommit script [] (seg_did w (at i) e (seg_rule script (w.segs i) x fails)).steps
heard-commits script w n v e x fails i p h =
    by-heard script w e i (λ y. DoStepsCommit script [] (seg_did w (at i) e (seg_rule script (w.segs i) y fails)).steps)
    (λ from envelope d. let does = does-it script w n v e fails i from envelope d.received d.said in
    pushed (here.Deliver from envelope) envelope.message (known_at w.coord (marks_in w.steps) i (gxid_in envelope.message)) _ (gxid_in envelope.message) _ does.marks does.outs)
    (λ g ok. let o = resumed-does script w n v e i g fails ok in
    pushed (here.Resume g) (message.Exec g o.slice.cid o.slice.level o.slice.snapshot o.waits.horizon o.slice.slice) (known_at w.coord (marks_in w.steps) i g.0) _ g.0 _ o.does.marks o.does.outs)
    x h
  where
    pushed : (y : NodeEvent) (told : Message) (k : Known) (q : Part) (g : ℕ) (ms : List Mark) → Each (Follows told k i g) (segment.on_event script (w.segs i) y fails).marks
        → Each (λ (o : Out). Tells k q i g ms o.message) (segment.on_event script (w.segs i) y fails).outs → DoStepsCommit script [] (seg_did w (at i) e (seg_rule script (w.segs i) y fails)).steps
    pushed y told k q g ms f t =
        let turn : SegTurn = segment.on_event script (w.segs i) y fails in
        let step : Step = record { stamp = record { clock = clock_after (w.segs i).clock y; node = at i }; event = e; marks = turn.marks ++ numbered (λ node. turn.seg.sent) turn.outs } in
        commit-push script [] w.steps step p
        (quiet-commits script w.steps step [] turn.marks (λ node. turn.seg.sent) turn.outs (follows-no-sent told k i g turn.marks f)
        (each_weaker (λ (o : Out). Tells k q i g ms o.message) (λ (o : Out). AsksNobody o.message) (λ o z. answers-ask k q i g ms o.message z) turn.outs t))
