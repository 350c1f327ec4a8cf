-- Over every run of the machine, a command that succeeds holds its table at its answer's point.
use Rattle.std.proofs.Common.{◌≡◌, ◌≤◌, ◌⊎◌, inl, inr, ℕ, ◌+◌, List, [], ◌∷◌, ◌++◌, Option, Some, None, Bool, true, refl, sym, subst, ap, ◌∙◌, if◌then◌else◌, append_assoc, append-nil, arith}
use Rattle.std.proofs.lemmas.Bool.{and_parts}
use Rattle.gx_lemmas.proofs.Numbers.{eqb-self, one-le-zero}
use Rattle.gx_lemmas.proofs.Options.{some-same}
use Rattle.gx_ids.specs.declared.ids.Cid.{Cid}
use Rattle.gx_ids.specs.declared.ids.Gxid.{Gxid}
use Rattle.gx_ids.specs.declared.ids.Node.{Node}
use Rattle.gx_ids.specs.declared.ids.SessionId.{SessionId}
use Rattle.gx_tree.specs.declared.stmt.Level.{Level}
use Rattle.gx_tree.specs.declared.stmt.Stmt.{Stmt}
use Rattle.gx_waits.specs.declared.claim.Claim.{Claim}
use Rattle.gx_script.specs.declared.Script.{Script}
use Rattle.gx_script.specs.Session.{after_line, line_step}
use Rattle.gx_script.specs.declared.line_step.LineStep.{LineStep}
use Rattle.gx_msg.specs.declared.message.Message.{Message}
use Rattle.gx_script.specs.declared.state.Block.{Block}
use Rattle.gx_script.specs.declared.state.Block.TheVariants as block
use Rattle.gx_script.specs.declared.state.Pending.{Pending}
use Rattle.gx_script.specs.declared.state.Pending.TheVariants as pending
use Rattle.gx_store.specs.declared.answer.StmtAnswer.{StmtAnswer}
use Rattle.gx_store.specs.declared.answer.StmtAnswer.TheVariants as told
use Rattle.gx_store.specs.declared.event.Event.{Event}
use Rattle.gx_store.specs.declared.mark.Mark.{Mark}
use Rattle.gx_store.specs.declared.mark.Mark.TheVariants as mark
use Rattle.gx_store.specs.declared.node.NodeEvent.{NodeEvent}
use Rattle.gx_store.specs.declared.node.NodeEvent.TheVariants as here
use Rattle.gx_store.specs.declared.run.Step.{Step}
use Rattle.gx_store.specs.Commands.{RunsCommand}
use Rattle.gx_store.specs.Lines.{stmt_of}
use Rattle.gx_store.specs.Locks.{HoldsAtAnswer, table_lock}
use Rattle.gx_store.specs.Marks.{is_same_session, answer_count}
use Rattle.gx_store.specs.Ordered.{IsAtNode, IsSegment}
use Rattle.gx_store.specs.Points.{Point, before, marks_in, starts_by}
use Rattle.gx_store.specs.Refusals.{the_coordinator}
use Rattle.gx_rules.specs.AtCoordinator.{is_nothing, awaited, awaited_collect, cancel_turn, cancels, coord_can, coord_turn, next_line, on_event, resends, starts, starts_line}
use Rattle.gx_locks.specs.Locks.{wait_of}
use Rattle.gx_rules.specs.AtSegment.{seg_rule}
use Rattle.gx_rules.specs.Coordinators.{CoordTurn, Work, session_of, work_of}
use Rattle.gx_rules.specs.Machine.{World, and_cancelled, coord_did, seg_did, with_more, world_of}
use Rattle.gx_rules.proofs.Rounds.{cancel-ways}
use Rattle.gx_rules.proofs.Turns.{with_more-last}
use Rattle.gx_rules.specs.Sending.{clock_after, counted, numbered}
use Rattle.gx_law_order.proofs.Lists.{each_append}
use Rattle.gx_law_order.specs.Lists.{Each}
use Rattle.gx_law_order.specs.Moves.{Move, world_by}
use Rattle.gx_law_order.proofs.Induction.{IsThere, at-events}
use Rattle.gx_law_order.proofs.Moves.{HasNamed}
use Rattle.gx_law_order.proofs.Ordered.{seg_marks}
use Rattle.gx_law_order.proofs.Releases.{each-released}
use Rattle.gx_law_order.proofs.Sent.{at}
use Rattle.gx_law_order.proofs.World.{Knows, moves_knows}
use Rattle.gx_law_order.proofs.Stepping.{Holds}
use Rattle.gx_law_order.proofs.Legality.{moves-holds}
use Rattle.gx_law_order.specs.Rest.{EachMark}
use Rattle.gx_law_order.specs.Standing.{IsStanding, waits}
use Rattle.gx_law_writes.specs.Commands.{AnswerHolds, AreAnswersHeld, AreLeftAlone}
use Rattle.gx_law_writes.proofs.Answering.{AtOnce, Dull, IsHome, IsRefusal, IsServed, NoAnswer, OneAnswer, Starts, end-none, line-starts, message-deals, one-more, resume-refuses}
use Rattle.gx_law_writes.proofs.Commands.{HoldsTableOf, IsCommandOf, IsRun, IsWaitingOf, as-meant, out-holds, run-is}
use Rattle.gx_law_locks.proofs.Orders.{Ordered, moves-orders}
use Rattle.gx_msg.specs.declared.message.Out.{Out}

-- MARKS
none-told : (script : Script) (steps : List Step) (e : Event) (earlier ms later : List Mark) → Each NoAnswer ms → EachMark (AnswerHolds script) steps e earlier ms later
none-told script steps e earlier [] later h = tt
none-told script steps e earlier (mark.Answer s n a ∷ ms) later h = absurd h.0
none-told script steps e earlier (m ∷ ms) later h = (tt, none-told script steps e (earlier ++ m ∷ []) ms later h.1)

told-so : (script : Script) (point : Point) (s : SessionId) (a : StmtAnswer) → ((line : Stmt) (level : Level) (g : Gxid) (c : Cid) → RunsCommand script point s line level g c → HoldsTableOf script (before point) g line) → HoldsAtAnswer script point s a
told-so script point s (told.Refused reason) f = tt
told-so script point s told.Begin f = λ line level g c r. as-meant script (before point) g line (f line level g c r)
told-so script point s told.Commit f = λ line level g c r. as-meant script (before point) g line (f line level g c r)
told-so script point s told.Rollback f = λ line level g c r. as-meant script (before point) g line (f line level g c r)
told-so script point s (told.Rows rows) f = λ line level g c r. as-meant script (before point) g line (f line level g c r)
told-so script point s (told.Inserted n) f = λ line level g c r. as-meant script (before point) g line (f line level g c r)
told-so script point s (told.Updated n) f = λ line level g c r. as-meant script (before point) g line (f line level g c r)
told-so script point s (told.Deleted n) f = λ line level g c r. as-meant script (before point) g line (f line level g c r)
told-so script point s told.Locked f = λ line level g c r. as-meant script (before point) g line (f line level g c r)

refused-so : (script : Script) (point : Point) (s : SessionId) (a : StmtAnswer) → IsRefusal a → HoldsAtAnswer script point s a
refused-so script point s (told.Refused reason) f = tt
refused-so script point s told.Begin f = absurd f
refused-so script point s told.Commit f = absurd f
refused-so script point s told.Rollback f = absurd f
refused-so script point s (told.Rows rows) f = absurd f
refused-so script point s (told.Inserted n) f = absurd f
refused-so script point s (told.Updated n) f = absurd f
refused-so script point s (told.Deleted n) f = absurd f
refused-so script point s told.Locked f = absurd f

dull-alone : (k : SessionId) (g : Gxid) (ms : List Mark) → Each Dull ms → AreLeftAlone k g ms
dull-alone k g [] e = tt
dull-alone k g (mark.Answer s n a ∷ ms) e = absurd e.0
dull-alone k g (mark.Start h s ∷ ms) e = absurd e.0
dull-alone k g (mark.Release n h object mode ∷ ms) e = absurd e.0
dull-alone k g (m ∷ ms) e = (tt, dull-alone k g ms e.1)

-- an answer that comes of a segment's
deals-told : (script : Script) (steps : List Step) (e : Event) (P : SessionId → Type 0) → ((s : SessionId) → P s → (earlier later : List Mark) (line : Stmt) (level : Level) (g : Gxid) (c : Cid) → AreLeftAlone s g earlier → RunsCommand script (record { steps = steps; event = e; earlier = earlier; later = later }) s line level g c → HoldsTableOf script (marks_in steps ++ earlier) g line) → (earlier ms later : List Mark) → Each Dull earlier → OneAnswer Dull (λ s a. IsRefusal a ⊎ P s) ms → EachMark (AnswerHolds script) steps e earlier ms later
deals-told script steps e P hold earlier [] later d h = tt
deals-told script steps e P hold earlier (mark.Answer s n a ∷ ms) later d h = (by_case h.0, none-told script steps e (earlier ++ mark.Answer s n a ∷ []) ms later h.1)
  where
    by_case : IsRefusal a ⊎ P s → HoldsAtAnswer script (record { steps = steps; event = e; earlier = earlier; later = ms ++ later }) s a
    by_case (inl f) = refused-so script (record { steps = steps; event = e; earlier = earlier; later = ms ++ later }) s a f
    by_case (inr f) = told-so script (record { steps = steps; event = e; earlier = earlier; later = ms ++ later }) s a (λ line level g c r. hold s f earlier (ms ++ later) line level g c (dull-alone s g earlier d) r)
deals-told script steps e P hold earlier (m ∷ ms) later d h = (tt, deals-told script steps e P hold (earlier ++ m ∷ []) ms later (each_append Dull earlier (m ∷ []) d (h.0, tt)) h.1)

-- a refusal
refuses-told : (script : Script) (steps : List Step) (e : Event) (earlier ms later : List Mark) → OneAnswer NoAnswer (λ k a. IsRefusal a) ms → EachMark (AnswerHolds script) steps e earlier ms later
refuses-told script steps e earlier [] later h = tt
refuses-told script steps e earlier (mark.Answer s n a ∷ ms) later h =
    (refused-so script (record { steps = steps; event = e; earlier = earlier; later = ms ++ later }) s a h.0, none-told script steps e (earlier ++ mark.Answer s n a ∷ []) ms later h.1)
refuses-told script steps e earlier (m ∷ ms) later h = (tt, refuses-told script steps e (earlier ++ m ∷ []) ms later h.1)

-- an answer at once
count-none : (k : SessionId) (ms : List Mark) → Each NoAnswer ms → answer_count k ms ≡ 0
count-none k [] e = refl
count-none k (mark.Answer s n a ∷ ms) e = absurd e.0
count-none k (m ∷ ms) e = count-none k ms e.1

count-append : (k : SessionId) (xs ys : List Mark) → Each NoAnswer ys → answer_count k (xs ++ ys) ≡ answer_count k xs
count-append k [] ys e = count-none k ys e
count-append k (mark.Answer s n a ∷ xs) ys e = ap (λ i. if is_same_session s k then i + 1 else i) (count-append k xs ys e)
count-append k (m ∷ xs) ys e = count-append k xs ys e

starts-told : (script : Script) (steps : List Step) (e : Event) (s : SessionId) (line : Stmt) → stmt_of s (answer_count s (marks_in steps) + 1) script.lines ≡ Some line → (earlier ms later : List Mark) → Each NoAnswer earlier → Starts script s line ms → EachMark (AnswerHolds script) steps e earlier ms later
starts-told script steps e s line is earlier [] later d h = tt
starts-told script steps e s line is earlier (mark.Answer k n a ∷ ms) later d h = (by_case h.0, none-told script steps e (earlier ++ mark.Answer k n a ∷ []) ms later h.1)
  where
    none : {wanted : Claim} → None ≡ Some wanted → ⊥
    none q = cc

    by_case : AtOnce script s line k a → HoldsAtAnswer script (record { steps = steps; event = e; earlier = earlier; later = ms ++ later }) k a
    by_case (inr r) = refused-so script (record { steps = steps; event = e; earlier = earlier; later = ms ++ later }) k a r
    by_case (inl z) =
        told-so script (record { steps = steps; event = e; earlier = earlier; later = ms ++ later }) k a
        (λ other level g c r wanted takes. absurd (none (sym (z.1 g) ∙ subst (λ l. table_lock script g l ≡ Some wanted)
        (some-same other line (sym r.line.line ∙ ap (λ x. stmt_of k (x + 1) script.lines) (count-append k (marks_in steps) earlier d) ∙ ap (λ (x : SessionId). stmt_of x (answer_count x (marks_in steps) + 1) script.lines) z.0 ∙ is)) takes)))
starts-told script steps e s line is earlier (m ∷ ms) later d h = (tt, starts-told script steps e s line is (earlier ++ m ∷ []) ms later (each_append NoAnswer earlier (m ∷ []) d (h.0, tt)) h.1)

sent-none : (f : ℕ → ℕ) (outs : List Out) → Each NoAnswer (numbered f outs)
sent-none f [] = tt
sent-none f (o ∷ outs) = (tt, sent-none (counted f o) outs)

answers-last : (script : Script) (done ss : List Step) (s : Step) → AreAnswersHeld script done ss → EachMark (AnswerHolds script) (done ++ ss) s.event [] s.marks [] → AreAnswersHeld script done (ss ++ s ∷ [])
answers-last script done [] s e h = (subst (λ x. EachMark (AnswerHolds script) x s.event [] s.marks []) (append-nil done) h, tt)
answers-last script done (x ∷ ss) s e h = (e.0, answers-last script (done ++ x ∷ []) ss s e.1 (subst (λ y. EachMark (AnswerHolds script) y s.event [] s.marks []) (sym (append_assoc done (x ∷ []) ss)) h))

at-node-none : (script : Script) (i : Node) → 1 ≤ i.0 → (ms : List Mark) → Each (IsAtNode script i) ms → Each NoAnswer ms
at-node-none script i one [] e = tt
at-node-none script i one (mark.Answer s n a ∷ ms) e = absurd (one-le-zero i.0 one (ap (λ (n : Node). n.0) e.0))
at-node-none script i one (m ∷ ms) e = (tt, at-node-none script i one ms e.1)

-- what comes later says nothing of a point
pub runs-later : (script : Script) (steps : List Step) (e : Event) (earlier xs ys : List Mark) (s : SessionId) (line : Stmt) (level : Level) (g : Gxid) (c : Cid) → RunsCommand script (record { steps = steps; event = e; earlier = earlier; later = xs }) s line level g c
    → RunsCommand script (record { steps = steps; event = e; earlier = earlier; later = ys }) s line level g c
runs-later script steps e earlier xs ys s line level g c r =
    record { line = record { started = r.line.started; line = r.line.line }; command = r.command; transaction = r.transaction; number = r.number; isolation = r.isolation }

answer-later : (script : Script) (steps : List Step) (e : Event) (earlier xs ys : List Mark) (s : SessionId) (a : StmtAnswer) → HoldsAtAnswer script (record { steps = steps; event = e; earlier = earlier; later = xs }) s a → HoldsAtAnswer script (record { steps = steps; event = e; earlier = earlier; later = ys }) s a
answer-later script steps e earlier xs ys s (told.Refused reason) f = tt
answer-later script steps e earlier xs ys s told.Begin f = λ line level g c r. f line level g c (runs-later script steps e earlier ys xs s line level g c r)
answer-later script steps e earlier xs ys s told.Commit f = λ line level g c r. f line level g c (runs-later script steps e earlier ys xs s line level g c r)
answer-later script steps e earlier xs ys s told.Rollback f = λ line level g c r. f line level g c (runs-later script steps e earlier ys xs s line level g c r)
answer-later script steps e earlier xs ys s (told.Rows rows) f = λ line level g c r. f line level g c (runs-later script steps e earlier ys xs s line level g c r)
answer-later script steps e earlier xs ys s (told.Inserted n) f = λ line level g c r. f line level g c (runs-later script steps e earlier ys xs s line level g c r)
answer-later script steps e earlier xs ys s (told.Updated n) f = λ line level g c r. f line level g c (runs-later script steps e earlier ys xs s line level g c r)
answer-later script steps e earlier xs ys s (told.Deleted n) f = λ line level g c r. f line level g c (runs-later script steps e earlier ys xs s line level g c r)
answer-later script steps e earlier xs ys s told.Locked f = λ line level g c r. f line level g c (runs-later script steps e earlier ys xs s line level g c r)

-- more marks behind them
told-join : (script : Script) (steps : List Step) (e : Event) (earlier ms more later : List Mark) → EachMark (AnswerHolds script) steps e earlier ms later → EachMark (AnswerHolds script) steps e (earlier ++ ms) more [] → EachMark (AnswerHolds script) steps e earlier (ms ++ more) []
told-join script steps e earlier [] more later h t = subst (λ q. EachMark (AnswerHolds script) steps e q more []) (append-nil earlier) t
told-join script steps e earlier (mark.Answer s n a ∷ ms) more later h t = (
  answer-later script steps e earlier (ms ++ later) ((ms ++ more) ++ []) s a h.0,
  told-join script steps e (earlier ++ mark.Answer s n a ∷ []) ms more later h.1 (subst (λ q. EachMark (AnswerHolds script) steps e q more []) (sym (append_assoc earlier (mark.Answer s n a ∷ []) ms)) t),
)
told-join script steps e earlier (m ∷ ms) more later h t =
    (tt, told-join script steps e (earlier ++ m ∷ []) ms more later h.1 (subst (λ q. EachMark (AnswerHolds script) steps e q more []) (sym (append_assoc earlier (m ∷ []) ms)) t))

answers-more : (script : Script) (done before : List Step) (s : Step) (more : List Mark) → AreAnswersHeld script done (before ++ s ∷ []) → EachMark (AnswerHolds script) (done ++ before) s.event s.marks more []
    → AreAnswersHeld script done (before ++ record s { marks = s.marks ++ more } ∷ [])
answers-more script done [] s more e h = (told-join script done s.event [] s.marks more [] e.0 (subst (λ q. EachMark (AnswerHolds script) q s.event s.marks more []) (append-nil done) h), tt)
answers-more script done (x ∷ before) s more e h =
    (e.0, answers-more script (done ++ x ∷ []) before s more e.1 (subst (λ q. EachMark (AnswerHolds script) q s.event s.marks more []) (sym (append_assoc done (x ∷ []) before)) h))

-- WHAT IS KNOWN OF EACH WORLD
record IsMet (script : Script) (w : World) : Type 0 where
  knows : Knows script w
  sessions : Holds script w
  orders : Ordered script w

moves-met : (script : Script) (some : 1 ≤ script.segments) (ms : List Move) → IsMet script (world_by script ms)
moves-met script some ms = record { knows = moves_knows script some ms; sessions = moves-holds script some ms; orders = moves-orders script some ms }

-- ALL STEPS
module _ (script : Script) (some : 1 ≤ script.segments) where
  module _ (w : World) (n : IsMet script w) where
    -- who is served holds its table
    serve : (e : Event) → ((s : SessionId) → starts_by s e ≡ 0) → (s : SessionId) → IsServed w.coord s → (earlier later : List Mark) (line : Stmt) (level : Level) (g : Gxid) (c : Cid) → AreLeftAlone s g earlier → RunsCommand script (record { steps = w.steps; event = e; earlier = earlier; later = later }) s line level g c → HoldsTableOf script (marks_in w.steps ++ earlier) g line
    serve e none s served earlier later line level g c alone r = by_way its.way
      where
        its : IsRun (marks_in w.steps) w.coord s line g c
        its = run-is script w n.sessions.sessions e earlier later s line level g c (none s) alone r

        clash : (o : Option Stmt) → o ≡ None → o ≡ Some line → ⊥
        clash o a b = cc

        by_way : IsCommandOf (work_of w.coord (session_of w.coord s).transaction) line ⊎ IsWaitingOf (marks_in w.steps) (work_of w.coord (session_of w.coord s).transaction) line (session_of w.coord s).transaction c → HoldsTableOf script (marks_in w.steps ++ earlier) g line
        by_way (inl it) = out-holds script w n.sessions.sessions n.knows.kept n.orders.going n.orders.locked.marked.coordinator.holds n.orders.locked.marked.coordinator.waits earlier s line g alone its.txn it
        by_way (inr it) = absurd (clash (work_of w.coord (session_of w.coord s).transaction).waiting served it.has_it)

    idle-is : (p : Pending) → is_nothing p ≡ true → waits p ≡ 0
    idle-is pending.Nothing h = refl
    idle-is pending.Command h = absurd (cc)
    idle-is pending.Commit h = absurd (cc)

    counts-so : (s : SessionId) (b : Block) (p : Pending) (lines : ℕ) (g : Gxid) (next ends : ℕ) (v : Work) → waits p ≡ 0 → IsStanding script s (marks_in w.steps) next b p lines g v ends → answer_count s (marks_in w.steps) ≡ lines
    counts-so s b p lines g next ends v idle (inl z) = less (answer_count s (marks_in w.steps)) (waits p) lines idle z.1.answered
      where
        less : (a b l : ℕ) → b ≡ 0 → a + b ≡ l → a ≡ l
        less a b l e f = omega arith
    counts-so s b p lines g next ends v idle (inr z) = z.1.answered

    home-so : (s : SessionId) (b : Block) (p : Pending) (lines : ℕ) (g : Gxid) (next ends : ℕ) (v : Work) → IsStanding script s (marks_in w.steps) next b p lines g v ends → (level : Level) → b ≡ block.Open level → v.session ≡ s
    home-so s (block.Open l) p lines g next ends v (inl z) level same = (z.1.owns refl).0.home
    home-so s block.Outside p lines g next ends v (inl z) level same = absurd (cc)
    home-so s block.Failed p lines g next ends v (inl z) level same = absurd (cc)
    home-so s b p lines g next ends v (inr z) level same = absurd (apart (sym z.1.outside ∙ same))
      where
        apart : block.Outside ≡ block.Open level → ⊥
        apart q = cc

    resent-none : (i : Node) (m : Option Message) → Each NoAnswer (resends w.coord i m).marks
    resent-none i None = tt
    resent-none i (Some told) = tt

    quiet : (e : Event) (y : NodeEvent) (fails : Bool) → Each NoAnswer (on_event script w.coord y fails).marks → EachMark (AnswerHolds script) w.steps e [] ((on_event script w.coord y fails).marks ++ numbered (on_event script w.coord y fails).coord.sent (on_event script w.coord y fails).outs) []
    quiet e y fails none = none-told script w.steps e [] _ [] (each_append NoAnswer (on_event script w.coord y fails).marks _ none (sent-none (on_event script w.coord y fails).coord.sent (on_event script w.coord y fails).outs))

    started : (s : SessionId) (asked : LineStep) (b : Block) → (session_of w.coord s).state.block ≡ b → IsHome (starts_line w.coord s asked) s b
    started s asked (block.Open level) q =
        ap (λ (t : Bool). (w.coord.works (if t then record (session_of w.coord s) { lines = (session_of w.coord s).lines + 1; state = after_line (session_of w.coord s).state.block asked } else w.coord.sessions s.0).transaction.0).session) (eqb-self s.0)
        ∙ home-so s (session_of w.coord s).state.block (session_of w.coord s).state.pending (session_of w.coord s).lines (session_of w.coord s).transaction _ _ (work_of w.coord (session_of w.coord s).transaction) (n.sessions.sessions s).stands level q
    started s asked block.Outside q = tt
    started s asked block.Failed q = tt

    line-told : (e : Event) (s : SessionId) (o : Option Stmt) → next_line script w.coord s ≡ o → waits (session_of w.coord s).state.pending ≡ 0 → EachMark (AnswerHolds script) w.steps e [] ((starts script w.coord s o).marks ++ numbered (starts script w.coord s o).coord.sent (starts script w.coord s o).outs) []
    line-told e s None q idle = tt
    line-told e s (Some line) q idle =
        starts-told script w.steps e s line
        (ap (λ i. stmt_of s (i + 1) script.lines) (counts-so s (session_of w.coord s).state.block (session_of w.coord s).state.pending (session_of w.coord s).lines (session_of w.coord s).transaction _ _ (work_of w.coord (session_of w.coord s).transaction) idle (n.sessions.sessions s).stands) ∙ q)
        [] _ [] tt
        (one-more NoAnswer (AtOnce script s line) (starts script w.coord s (Some line)).marks (starts script w.coord s (Some line)).coord.sent (starts script w.coord s (Some line)).outs (λ to number told. tt)
        (line-starts script (starts_line w.coord s (line_step (session_of w.coord s).state.block line)) s (session_of w.coord s).state.block line (started s (line_step (session_of w.coord s).state.block line) (session_of w.coord s).state.block refl)))

    event-told : (e : Event) (y : NodeEvent) (fails : Bool) → IsThere script w e the_coordinator y → coord_can script w.coord y ≡ true
        → EachMark (AnswerHolds script) w.steps e [] ((on_event script w.coord y fails).marks ++ numbered (on_event script w.coord y fails).coord.sent (on_event script w.coord y fails).outs) []
    event-told e (here.Deliver from envelope) fails t ok =
        deals-told script w.steps e (IsServed w.coord) (serve e (λ s. ap (starts_by s) t.event)) [] _ [] tt
        (one-more Dull (λ s a. IsRefusal a ⊎ IsServed w.coord s) (on_event script w.coord (here.Deliver from envelope) fails).marks _ (on_event script w.coord (here.Deliver from envelope) fails).outs (λ to number told. tt)
        (message-deals w.coord n.knows.kept from fails envelope.message))
    event-told e (here.Start s) fails t ok = line-told e s (next_line script w.coord s) refl (idle-is (session_of w.coord s).state.pending (and_parts _ _ ok).0)
    event-told e (here.End s) fails t ok = quiet e (here.End s) fails (end-none w.coord s (session_of w.coord s).state.block)
    event-told e (here.Resend i (Some g)) fails t ok = quiet e (here.Resend i (Some g)) fails (resent-none i (awaited w.coord g i))
    event-told e (here.Resend i None) fails t ok = quiet e (here.Resend i None) fails (resent-none i (awaited_collect w.coord i))
    event-told e (here.Resume g) fails t ok =
        refuses-told script w.steps e [] _ []
        (one-more NoAnswer (λ k a. IsRefusal a) (on_event script w.coord (here.Resume g) fails).marks _ (on_event script w.coord (here.Resume g) fails).outs (λ to number told. tt)
        (resume-refuses script w.coord g (wait_of w.coord.locks g) (work_of w.coord g).waiting))
    event-told e here.Round fails t ok = quiet e here.Round fails tt

    coord-told : AreAnswersHeld script [] w.steps → (e : Event) (x : NodeEvent) (fails : Bool) → IsThere script w e the_coordinator x → coord_can script w.coord x ≡ true → AreAnswersHeld script [] (coord_did w e (coord_turn script w.coord x fails)).steps
    coord-told q e x fails t ok =
        answers-last script [] w.steps (record { stamp = record { clock = clock_after w.coord.clock x; node = the_coordinator }; event = e; marks = (coord_turn script w.coord x fails).marks }) q (event-told e x fails t ok)

    -- a victim's answer is a refusal
    victim-told : AreAnswersHeld script [] w.steps → (g : Gxid) → HasNamed w.steps w.coord.clock w.coord.rounds g → AreAnswersHeld script [] (and_cancelled w g).steps
    victim-told q g h =
        subst (AreAnswersHeld script []) (sym (ap (λ ss. with_more ss more) h.is ∙ with_more-last h.before h.step more))
        (answers-more script [] h.before h.step more (subst (AreAnswersHeld script []) h.is q) (refuses-told script h.before h.step.event h.step.marks more [] refuses))
      where
        more : List Mark
        more = (cancel_turn w.coord g).marks

        refuses : OneAnswer NoAnswer (λ k a. IsRefusal a) (cancel_turn w.coord g).marks
        refuses =
            one-more NoAnswer (λ k a. IsRefusal a) (cancels w.coord g).marks _ (cancels w.coord g).outs (λ to number told. tt)
            (cancel-ways (λ (turn : CoordTurn). OneAnswer NoAnswer (λ k a. IsRefusal a) turn.marks) w.coord g tt (λ live busy. (tt, (tt, each-released NoAnswer the_coordinator w.coord.locks g (λ claim. tt)))))

    seg-told : AreAnswersHeld script [] w.steps → (e : Event) (x : NodeEvent) (fails : Bool) (i : ℕ) → IsSegment script (at i) → AreAnswersHeld script [] (seg_did w (at i) e (seg_rule script (w.segs i) x fails)).steps
    seg-told q e x fails i place =
        answers-last script [] w.steps (record { stamp = record { clock = clock_after (w.segs i).clock x; node = at i }; event = e; marks = (seg_rule script (w.segs i) x fails).marks }) q
        (none-told script w.steps e [] (seg_rule script (w.segs i) x fails).marks [] (at-node-none script (at i) place.0 (seg_rule script (w.segs i) x fails).marks (seg_marks script w n.knows.well e x fails i place)))

  pub answers-held : (es : List (Event × Bool)) → AreAnswersHeld script [] (world_of script es).steps
  answers-held =
      at-events script some (IsMet script) (λ w. AreAnswersHeld script [] w.steps) (moves-met script some) tt (λ w n q e x fails t ok next. coord-told w n q e x fails t ok) (λ w n q g h next. victim-told w n q g h)
      (λ w n q e x fails i place t ok next. seg-told w n q e x fails i place)
