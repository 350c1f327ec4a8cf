-- In every world, a session that isn't idle has a transaction for which some answer is awaited, or which waits for a lock.
use Rattle.std.proofs.Common.{◌≡◌, ◌≤◌, ◌<◌, ◌⊎◌, inl, inr, ℕ, List, [], ◌∷◌, Option, Some, None, Bool, true, false, refl, sym, subst, ap, ◌∙◌, if◌then◌else◌, ◌&&◌, arith, eqb}
use Rattle.std.proofs.lemmas.Bool.{and_parts, eqb-true, or_right}
use Rattle.std.proofs.lemmas.Bool.Decides.{nat_tests}
use Rattle.std.specs.Prelude.{is_some, nat_le, nat_lt}
use Rattle.gx_lemmas.proofs.Options.{some-same}
use Rattle.gx_lemmas.proofs.Numbers.{eqb-self, eqb-turned}
use Rattle.gx_ids.specs.declared.ids.Node.{Node}
use Rattle.gx_ids.specs.declared.ids.SessionId.{SessionId}
use Rattle.gx_tree.specs.declared.stmt.Stmt.{Stmt}
use Rattle.gx_dtx.specs.Rules.{on_abort}
use Rattle.gx_dtx.specs.Table.{find_txn}
use Rattle.gx_dtx.specs.declared.txn.Txn.{Txn}
use Rattle.gx_msg.specs.declared.message.Message.{Message}
use Rattle.gx_msg.specs.declared.message.Message.TheVariants as message
use Rattle.gx_script.specs.declared.Line.{Line}
use Rattle.gx_script.specs.declared.Script.{Script}
use Rattle.gx_script.specs.Session.{line_step}
use Rattle.gx_script.specs.declared.state.Block.{Block}
use Rattle.gx_script.specs.declared.state.Pending.{Pending}
use Rattle.gx_store.specs.declared.answer.Refused.TheVariants.{Victim}
use Rattle.gx_store.specs.declared.event.Event.{Event}
use Rattle.gx_store.specs.declared.mark.Mark.{Mark}
use Rattle.gx_store.specs.declared.node.NodeEvent.{NodeEvent}
use Rattle.gx_store.specs.declared.node.NodeEvent.TheVariants as here
use Rattle.gx_store.specs.Lines.{stmt_of}
use Rattle.gx_store.specs.Marks.{is_aborted, is_committed, is_ended, is_same_session}
use Rattle.gx_store.specs.Points.{ends_in, marks_in}
use Rattle.gx_store.specs.Refusals.{the_coordinator}
use Rattle.gx_rules.specs.AtCoordinator.{awaited, awaited_collect, cancels, coord_can, is_idle, is_nothing, next_line, on_event, on_message, resends, starts, resumes}
use Rattle.gx_store.specs.Locks.{table_lock}
use Rattle.gx_rules.specs.Coordinators.{Coord, CoordTurn, Session, rests, session_of, work_of}
use Rattle.gx_rules.specs.Machine.{World, world_of}
use Rattle.gx_rules.specs.Rounds.{begins_round}
use Rattle.gx_rules.proofs.Rounds.{cancel-ways, graph-ways}
use Rattle.gx_store.specs.Whole.{AreInsertsWhole, IsWholeStmt}
use Rattle.gx_law_order.specs.Standing.{IsStanding, is_busy, is_sound}
use Rattle.gx_law_order.proofs.Stepping.{Holds}
use Rattle.gx_law_order.proofs.Legality.{moves-holds}
use Rattle.gx_law_order.specs.Moves.{Move, world_by}
use Rattle.gx_law_order.proofs.Induction.{IsThere, at-events}
use Rattle.gx_law_order.proofs.Lines.{asks as admits}
use Rattle.gx_law_order.proofs.Moves.{HasNamed}
use Rattle.gx_law_order.proofs.Past.{there-drawn}
use Rattle.gx_law_order.specs.Past.{Past}
use Rattle.gx_law_order.specs.Sessions.{Kept, is_nothing_in}
use Rattle.gx_law_order.specs.Stages.{Stage, is_running, stage, stage_of}
use Rattle.gx_law_order.specs.Standings.{gx}
use Rattle.gx_law_order.specs.Stages.Stage.{Absent, Closing, Dropped, Finished, Live}
use Rattle.gx_law_order.proofs.World.{world_knows}
use Rattle.gx_law_runs.specs.Awaiting.{IsAwaiting}
use Rattle.gx_law_runs.proofs.Awaited.{DoAsk, IsKnown, moves-ask, moves-known, undrawn-none}
use Rattle.gx_law_runs.proofs.Neat.{clash}
use Rattle.gx_law_runs.proofs.Asked.{IsAsked, IsBusy, asked-in}
use Rattle.gx_law_runs.proofs.Carried.{IsOther, IsOtherMessage, asked-beside, still-asked}
use Rattle.gx_law_runs.proofs.SessionAnswers.{Before, answer-goes, is_over}
use Rattle.gx_law_runs.proofs.Starts.{Stays, end-stays, line-stays, resume-goes}
use Rattle.gx_law_runs.proofs.Turns.{Goes, refused-settles}
use Rattle.gx_ids.specs.declared.ids.Gxid.{Gxid}
use Rattle.gx_tree.specs.declared.stmt.Stmt.TheVariants as stmt
use Rattle.gx_waits.specs.declared.claim.Claim.{Claim}
use Rattle.gx_locks.specs.Locks.{Locks, wait_of}
use Rattle.gx_law_order.proofs.Waiting.{GoesOut, going-out}
use Rattle.gx_law_order.proofs.WaitingLines.{held-line}
use Rattle.gx_law_locks.proofs.Single.{single-here}
use Rattle.gx_law_runs.proofs.Plans.{IsFilled}
use Rattle.gx_law_runs.proofs.Sparing.{HasWait}

-- a command that takes a lock is filled
lock-filled : (script : Script) (g : Gxid) (line : Stmt) (wanted : Claim) → table_lock script g line ≡ Some wanted → IsWholeStmt script.tables line → IsFilled line
lock-filled script g (stmt.Select q) wanted e w = tt
lock-filled script g (stmt.Insert t []) wanted e w = absurd w
lock-filled script g (stmt.Insert t (x ∷ xs)) wanted e w = tt
lock-filled script g (stmt.Update t x y) wanted e w = tt
lock-filled script g (stmt.Delete t x) wanted e w = tt
lock-filled script g (stmt.Lock t m) wanted e w = tt
lock-filled script g (stmt.Begin level) wanted e w = absurd (cc)
lock-filled script g stmt.Commit wanted e w = absurd (cc)
lock-filled script g stmt.Rollback wanted e w = absurd (cc)

-- A TRANSACTION WITHOUT ITS COMMIT OR ABORT MARK
not-over : {script : Script} (c : Coord) (ms : List Mark) → Kept script c → Past c ms → (g : ℕ) → is_ended ms (gx g) ≡ false → is_over (stage_of c g) ≡ false
not-over c ms k p g running = by_found (find_txn c.table (gx g)) refl
  where
    by_stage : (a : Stage) → stage_of c g ≡ a → (1 ≤ g) × (g < c.table.next.0) → is_over a ≡ false
    by_stage Absent e d = refl
    by_stage Live e d = refl
    by_stage Closing e d = refl
    by_stage Finished e d = clash (is_ended ms (gx g)) (p.ended g d.0 d.1 (ap is_running e)) running
    by_stage Dropped e d = clash (is_ended ms (gx g)) (or_right (is_committed ms (gx g)) (is_aborted ms (gx g)) (p.dropped g e)) running

    by_found : (o : Option Txn) → find_txn c.table (gx g) ≡ o → is_over (stage_of c g) ≡ false
    by_found None f = ap (λ t. is_over (stage t)) f
    by_found (Some t) f = by_stage (stage_of c g) refl (there-drawn c.table.next.0 g c.table.txns t k.whole.drawn f)

-- THE SESSION'S TRANSACTION
busy-now : (b : Block) (p : Pending) → is_nothing p ≡ false → is_sound b p ≡ true → is_busy b p ≡ true
busy-now b p e s = grind arith

pub record IsRunning (w : World) (k : SessionId) : Type 0 where
  pub home : (work_of w.coord (session_of w.coord k).transaction).session ≡ k
  pub running : is_ended (marks_in w.steps) (session_of w.coord k).transaction ≡ false

-- WHAT IS KNOWN OF EACH WORLD
record IsMet (script : Script) (w : World) : Type 0 where
  known : IsKnown script w
  asks : DoAsk w
  sessions : Holds script w

moves-met : (script : Script) (some : 1 ≤ script.segments) (ms : List Move) → IsMet script (world_by script ms)
moves-met script some ms = record { known = moves-known script some ms; asks = moves-ask script some ms; sessions = moves-holds script some ms }

abbrev DoWait : Coord → Type 0
DoWait c = (k : SessionId) → is_idle (session_of c k) ≡ false → IsBusy c (session_of c k).transaction.0

module _ (script : Script) (some : 1 ≤ script.segments) (w : World) (n : IsMet script w) where
  abbrev c : Coord
  c = w.coord

  k : Kept script w.coord
  k = n.known.knows.kept

  busy-runs : (j : SessionId) → is_idle (session_of w.coord j) ≡ false → IsRunning w j
  busy-runs j e = by_standing (n.sessions.sessions j).stands
    where
      y : Session
      y = session_of w.coord j

      by_standing : IsStanding script j (marks_in w.steps) w.coord.table.next.0 (session_of w.coord j).state.block (session_of w.coord j).state.pending (session_of w.coord j).lines (session_of w.coord j).transaction
          (work_of w.coord (session_of w.coord j).transaction) (ends_in j w.steps) → IsRunning w j
      by_standing (inl h) = let o = (h.1.owns (busy-now y.state.block y.state.pending e h.1.sound)).0 in record { home = o.home; running = o.running }
      by_standing (inr h) = clash (is_nothing y.state.pending) (ap is_nothing h.1.idle) e

  -- A TURN OF THE COORDINATOR
  -- what of these transactions is awaited stays so
  module _ (q : DoWait w.coord) (turn : CoordTurn) (Other : ℕ → Type 0) (still : (g : ℕ) → Other g → IsAsked w.coord g → IsAsked turn.coord g) where
    abbrev next : Coord
    next = turn.coord

    -- the session is as before, its transaction has no answer here, and its wait stays
    as-before : (s : SessionId) → next.sessions s.0 ≡ c.sessions s.0 → Other (session_of c s).transaction.0 → (HasWait c (session_of c s).transaction.0 → HasWait next (session_of c s).transaction.0) → is_idle (next.sessions s.0) ≡ false → IsBusy next (next.sessions s.0).transaction.0
    as-before s same other spared i = subst (λ (y : Session). IsBusy next y.transaction.0) (sym same) (by_kind (q s (ap is_idle (sym same) ∙ i)))
      where
        by_kind : IsBusy w.coord (session_of w.coord s).transaction.0 → IsBusy turn.coord (session_of w.coord s).transaction.0
        by_kind (inl a) = inl (still (session_of w.coord s).transaction.0 other a)
        by_kind (inr a) = inr (spared a)

    -- no session and no wait changes, and nothing is answered
    rest-wait : ((t : SessionId) → next.sessions t.0 ≡ c.sessions t.0) → next.locks ≡ c.locks → ((g : ℕ) → Other g) → DoWait turn.coord
    rest-wait same locks other = λ t i. as-before t (same t) (other _) (λ a. ap (λ (l : Locks). is_some (wait_of l (session_of c t).transaction)) locks ∙ a) i

    -- another session's line or end
    stays-wait : (s : SessionId) → ((g : ℕ) → Other g) → Stays c s turn → (t : SessionId) → is_idle (next.sessions t.0) ≡ false → IsBusy next (next.sessions t.0).transaction.0
    stays-wait s other z t i = by_test (eqb t.0 s.0) refl
      where
        -- one that waits has begun
        begun : HasWait w.coord (session_of w.coord t).transaction.0 → eqb (session_of w.coord t).transaction.0 w.coord.table.next.0 ≡ false
        begun a = by_new (eqb (session_of c t).transaction.0 c.table.next.0) refl
          where
            by_new : (b : Bool) → eqb (session_of w.coord t).transaction.0 w.coord.table.next.0 ≡ b → eqb (session_of w.coord t).transaction.0 w.coord.table.next.0 ≡ false
            by_new true r =
                clash (is_some (wait_of c.locks (session_of c t).transaction)) a
                (ap (λ n. is_some (wait_of c.locks (gx n))) (eqb-true (session_of c t).transaction.0 c.table.next.0 r) ∙ ap is_some (single-here script w n.known.knows).new)
            by_new false r = r

        by_test : (b : Bool) → eqb t.0 s.0 ≡ b → IsBusy next (next.sessions t.0).transaction.0
        by_test true f =
            subst (λ j. is_idle (next.sessions j) ≡ false → IsBusy next (next.sessions j).transaction.0) (sym (eqb-true t.0 s.0 f)) z.asked i
        by_test false f =
            as-before t (z.others t.0 f) (other _)
            (λ a. ap is_some (z.spares (session_of c t).transaction.0 (ap (λ (y : SessionId). eqb y.0 s.0) (busy-runs t (ap is_idle (sym (z.others t.0 f)) ∙ i)).home ∙ f) (begun a)) ∙ a) i

    -- an answer, or a resumption
    goes-wait : (g : ℕ) → ((h : ℕ) → eqb g h ≡ false → Other h) → Goes (Before c k n.asks.neat g) c g turn → (t : SessionId) → is_idle (next.sessions t.0) ≡ false → IsBusy next (next.sessions t.0).transaction.0
    goes-wait g other (inl z) t i = by_test (eqb g (session_of c t).transaction.0) refl
      where
        now : is_idle (session_of c t) ≡ false
        now = ap is_idle (sym (z.sessions t.0)) ∙ i

        its : (m : ℕ) → m ≡ (session_of c t).transaction.0 → (is_over (stage_of c m) ≡ false)
        its m f = not-over c (marks_in w.steps) k n.known.knows.past m (subst (λ j. is_ended (marks_in w.steps) (gx j) ≡ false) (sym f) (busy-runs t now).running)

        by_test : (b : Bool) → eqb g (session_of c t).transaction.0 ≡ b → IsBusy next (next.sessions t.0).transaction.0
        by_test true f =
            let same : g ≡ (session_of c t).transaction.0 = eqb-true g (session_of c t).transaction.0 f in
            subst (IsBusy next) (same ∙ sym (ap (λ (y : Session). y.transaction.0) (z.sessions t.0)))
            (z.asked (subst (IsBusy c) (sym same) (q t now), its g same))
        by_test false f = as-before t (z.sessions t.0) (other _ f) (λ a. ap is_some (z.spares (session_of c t).transaction.0 (eqb-turned g (session_of c t).transaction.0 f)) ∙ a) i
    goes-wait g other (inr z) t i = by_home (eqb t.0 (c.works g).session.0) refl
      where
        by_home : (b : Bool) → eqb t.0 (c.works g).session.0 ≡ b → IsBusy next (next.sessions t.0).transaction.0
        by_home true f = clash (is_idle (next.sessions t.0)) (subst (λ j. is_idle (next.sessions j) ≡ true) (sym (eqb-true t.0 (c.works g).session.0 f)) z.idle) i
        by_home false f = by_test (eqb g (session_of c t).transaction.0) refl
          where
            now : is_idle (session_of c t) ≡ false
            now = ap is_idle (sym (z.others t.0 f)) ∙ i

            by_test : (b : Bool) → eqb g (session_of c t).transaction.0 ≡ b → IsBusy next (next.sessions t.0).transaction.0
            by_test true r =
                let home : (c.works g).session ≡ t = ap (λ n. (c.works n).session) (eqb-true g (session_of c t).transaction.0 r) ∙ (busy-runs t now).home in
                clash (eqb t.0 (c.works g).session.0) (ap (λ (z : SessionId). eqb t.0 z.0) home ∙ eqb-self t.0) f
            by_test false r = as-before t (z.others t.0 f) (other _ r) (λ a. ap is_some (z.spares (session_of c t).transaction.0 (eqb-turned g (session_of c t).transaction.0 r)) ∙ a) i

  -- EVENTS
  module _ (inserts : AreInsertsWhole script.tables script.lines) where
    whole-line : (k : SessionId) (n : ℕ) (ls : List Line) (line : Stmt) → AreInsertsWhole script.tables ls → stmt_of k n ls ≡ Some line → IsWholeStmt script.tables line
    whole-line k n [] line h e = absurd (cc)
    whole-line k n (l ∷ ls) line h e = by_test (is_same_session l.session k && eqb l.number n) e (λ f. whole-line k n ls line h.1 f)
      where
        by_test : (b : Bool) → (if b then Some l.stmt else stmt_of k n ls) ≡ Some line → (stmt_of k n ls ≡ Some line → IsWholeStmt script.tables line) → IsWholeStmt script.tables line
        by_test true e later = subst (IsWholeStmt script.tables) (some-same l.stmt line e) h.0
        by_test false e later = later e

    idle-so : (p : Pending) → is_nothing p ≡ true → is_nothing_in p ≡ true
    idle-so p e = grind arith

    start-stays : (s : SessionId) → is_idle (session_of w.coord s) ≡ true → (o : Option Stmt) → next_line script w.coord s ≡ o → Stays w.coord s (starts script w.coord s o)
    start-stays s i None f = record { others = λ j e. refl; asked = λ e. clash (is_idle (session_of w.coord s)) i e; spares = λ h e n. refl }
    start-stays s i (Some line) f =
        line-stays script some w.coord k s (idle-so (session_of w.coord s).state.pending i) line (line_step (session_of w.coord s).state.block line) refl (admits (session_of w.coord s).state.block line)
        (whole-line s _ script.lines line inserts f)

    resend-same : (i : Node) (o : Option Message) (t : SessionId) → (resends w.coord i o).coord.sessions t.0 ≡ w.coord.sessions t.0
    resend-same i None t = refl
    resend-same i (Some m) t = refl

    resend-locks : (i : Node) (o : Option Message) → (resends w.coord i o).coord.locks ≡ w.coord.locks
    resend-locks i None = refl
    resend-locks i (Some m) = refl

    -- a statement that has waited
    filled : (g : Gxid) (o : GoesOut script w.coord g) → IsFilled o.line
    filled g o =
        lock-filled script g o.line o.wanted o.lock (whole-line (work_of w.coord g).session (session_of w.coord (work_of w.coord g).session).lines script.lines o.line inserts (held-line script w n.known.knows n.sessions g o.line o.is))

    abbrev Its : Gxid → Type 0
    Its g = Before w.coord k n.asks.neat g.0

    out-goes : (g : Gxid) (fails : Bool) → GoesOut script w.coord g → Goes (Its g) w.coord g.0 (on_event script w.coord (here.Resume g) fails)
    out-goes g fails o =
        subst (λ z. Goes (Its g) w.coord g.0 (resumes script w.coord g z (work_of w.coord g).waiting)) (sym o.claims)
        (subst (λ l. Goes (Its g) w.coord g.0 (resumes script w.coord g (Some o.wanted) l)) (sym o.is) (whatever (resume-goes script some w.coord g.0 o.line (filled g o) o.wanted)))
      where
        whatever : {turn : CoordTurn} → Goes (Unit {0}) w.coord g.0 turn → Goes (Before w.coord k n.asks.neat g.0) w.coord g.0 turn
        whatever (inl z) = inl (record { sessions = z.sessions; asked = λ b. z.asked tt; spares = z.spares })
        whatever (inr z) = inr (record { others = z.others; idle = z.idle; spares = z.spares })

    module _ (q : DoWait w.coord) (e : Event) (x : NodeEvent) (fails : Bool) (t : IsThere script w e the_coordinator x) (ok : coord_can script w.coord x ≡ true) where
      -- with what the event leaves awaited
      abbrev Awaits : CoordTurn → Type 0
      Awaits turn = (g : ℕ) → IsOther g x → IsAsked w.coord g → IsAsked turn.coord g

      still : Awaits (on_event script w.coord x fails)
      still g other a = still-asked script some w n.known n.asks e x fails t ok g other a

      message-waits : (from : Node) (m : Message) → ((g : ℕ) → IsOtherMessage g m → IsOther g x) → Awaits (on_message w.coord from fails m) → DoWait (on_message w.coord from fails m).coord
      message-waits from (message.Answer g r) other a = goes-wait q (on_message w.coord from fails (message.Answer g r)) (λ h. IsOther h x) a g.0 (λ h away. other h away) (answer-goes w.coord k n.asks.neat g.0 from fails r)
      message-waits from (message.Graph round graph) other a =
          rest-wait q (on_message w.coord from fails (message.Graph round graph)) (λ h. IsOther h x) a (λ s. graph-ways (λ (turn : CoordTurn). turn.coord.sessions s.0 ≡ w.coord.sessions s.0) w.coord from round graph refl (λ r. refl) (λ r l. refl))
          (graph-ways (λ (turn : CoordTurn). turn.coord.locks ≡ w.coord.locks) w.coord from round graph refl (λ r. refl) (λ r l. refl)) (λ g. other g tt)
      message-waits from message.Up other a = rest-wait q (rests w.coord) (λ h. IsOther h x) a (λ s. refl) refl (λ g. other g tt)
      message-waits from (message.Exec g cid level y h z) other a = rest-wait q (rests w.coord) (λ h. IsOther h x) a (λ s. refl) refl (λ g. other g tt)
      message-waits from (message.Prepare g) other a = rest-wait q (rests w.coord) (λ h. IsOther h x) a (λ s. refl) refl (λ g. other g tt)
      message-waits from (message.Commit g) other a = rest-wait q (rests w.coord) (λ h. IsOther h x) a (λ s. refl) refl (λ g. other g tt)
      message-waits from (message.CommitPrepared g) other a = rest-wait q (rests w.coord) (λ h. IsOther h x) a (λ s. refl) refl (λ g. other g tt)
      message-waits from (message.Abort g) other a = rest-wait q (rests w.coord) (λ h. IsOther h x) a (λ s. refl) refl (λ g. other g tt)
      message-waits from (message.Forget g) other a = rest-wait q (rests w.coord) (λ h. IsOther h x) a (λ s. refl) refl (λ g. other g tt)
      message-waits from (message.Collect round) other a = rest-wait q (rests w.coord) (λ h. IsOther h x) a (λ s. refl) refl (λ g. other g tt)

    event-waits : DoWait w.coord → (e : Event) (x : NodeEvent) (fails : Bool) → IsThere script w e the_coordinator x → coord_can script w.coord x ≡ true → DoWait (on_event script w.coord x fails).coord
    event-waits q e (here.Deliver from envelope) fails t ok =
        message-waits q e (here.Deliver from envelope) fails t ok from envelope.message (λ g o. o) (still q e (here.Deliver from envelope) fails t ok)
    event-waits q e (here.Start s) fails t ok =
        stays-wait q _ (λ g. IsOther g (here.Start s)) (still q e (here.Start s) fails t ok) s (λ g. tt) (start-stays s (and_parts _ _ ok).0 (next_line script w.coord s) refl)
    event-waits q e (here.End s) fails t ok =
        stays-wait q _ (λ g. IsOther g (here.End s)) (still q e (here.End s) fails t ok) s (λ g. tt) (end-stays script some w.coord k s (idle-so _ (and_parts _ _ ok).0) (and_parts _ _ ok).0 (session_of w.coord s).state.block refl)
    event-waits q e (here.Resend i (Some g)) fails t ok =
        rest-wait q (resends w.coord i (awaited w.coord g i)) (λ h. IsOther h (here.Resend i (Some g))) (still q e (here.Resend i (Some g)) fails t ok) (resend-same i (awaited w.coord g i)) (resend-locks i (awaited w.coord g i)) (λ g. tt)
    event-waits q e (here.Resend i None) fails t ok =
        rest-wait q (resends w.coord i (awaited_collect w.coord i)) (λ h. IsOther h (here.Resend i None)) (still q e (here.Resend i None) fails t ok) (resend-same i (awaited_collect w.coord i)) (resend-locks i (awaited_collect w.coord i)) (λ g. tt)
    event-waits q e (here.Resume g) fails t ok =
        goes-wait q _ (λ h. IsOther h (here.Resume g)) (still q e (here.Resume g) fails t ok) g.0 (λ h other. tt) (out-goes g fails (going-out script w n.known.knows g ok))
    event-waits q e here.Round fails t ok = rest-wait q (begins_round script w.coord) (λ h. IsOther h here.Round) (still q e here.Round fails t ok) (λ s. refl) refl (λ g. tt)

  -- a victim's statement has its answer
  victim-waits : DoWait w.coord → (g : Gxid) → HasNamed w.steps w.coord.clock w.coord.rounds g → DoWait (cancels w.coord g).coord
  victim-waits q g h =
      goes-wait q (cancels w.coord g) (λ j. Unit {0}) (λ j o a. asked-beside script some w n.known n.asks g h j a) g.0 (λ j away. tt)
      (cancel-ways (Goes (Before w.coord k n.asks.neat g.0) w.coord g.0) w.coord g (inl (record { sessions = λ j. refl; asked = λ b. b.0; spares = λ j e. refl }))
      (λ live busy. inr (refused-settles (Before w.coord k n.asks.neat g.0) w.coord g.0 (on_abort w.coord.table g) [] (Victim w.coord.rounds))))

module _ (script : Script) (some : 1 ≤ script.segments) (inserts : AreInsertsWhole script.tables script.lines) where
  -- IN EVERY WORLD
  world-waits : (es : List (Event × Bool)) → DoWait (world_of script es).coord
  world-waits =
      at-events script some (IsMet script) (λ w. DoWait w.coord) (moves-met script some) (λ k e. absurd (differ e)) (λ w n q e x fails t ok next. event-waits script some w n inserts q e x fails t ok) (λ w n q g h next. victim-waits script some w n q g h)
      (λ w n q e x fails i place t ok next. q)
    where
      differ : true ≡ false → ⊥
      differ e = cc

  -- an answer is awaited, or it waits at the coordinator
  pub busy-awaits : (es : List (Event × Bool)) (k : SessionId) → is_idle (session_of (world_of script es).coord k) ≡ false → IsAwaiting script (world_of script es).coord k ⊎ (is_some (wait_of (world_of script es).coord.locks (session_of (world_of script es).coord k).transaction) ≡ true)
  busy-awaits es k e = by_kind (world-waits es k e)
    where
      range-of : (g n : ℕ) → (nat_le 1 g && nat_lt g n) ≡ true → (1 ≤ g) × (g < n)
      range-of g n e = grind (arith, nat_tests)

      outside : (g n : ℕ) → (nat_le 1 g && nat_lt g n) ≡ false → 1 ≤ g → g < n → ⊥
      outside g n e l m = grind (arith, nat_tests)

      was-drawn : (g : ℕ) (i : Node) → is_some (awaited (world_of script es).coord (gx g) i) ≡ true → (1 ≤ g) × (g < (world_of script es).coord.table.next.0)
      was-drawn g i s = by_test (nat_le 1 g && nat_lt g (world_of script es).coord.table.next.0) refl
        where
          by_test : (b : Bool) → (nat_le 1 g && nat_lt g (world_of script es).coord.table.next.0) ≡ b → (1 ≤ g) × (g < (world_of script es).coord.table.next.0)
          by_test true r = range-of g (world_of script es).coord.table.next.0 r
          by_test false r = clash (is_some (awaited (world_of script es).coord (gx g) i)) s (ap is_some (undrawn-none script some es i g (outside g (world_of script es).coord.table.next.0 r)))

      awaits : IsAsked (world_of script es).coord (session_of (world_of script es).coord k).transaction.0 → IsAwaiting script (world_of script es).coord k
      awaits a =
          record {
            at = a.0;
            segment = asked-in script (world_of script es).coord (world_knows script some es).well.coordinator (session_of (world_of script es).coord k).transaction.0 a.0 a.1;
            g = (session_of (world_of script es).coord k).transaction;
            own = refl;
            drawn = was-drawn (session_of (world_of script es).coord k).transaction.0 a.0 a.1;
            answer = a.1;
          }

      by_kind : IsBusy (world_of script es).coord (session_of (world_of script es).coord k).transaction.0 → IsAwaiting script (world_of script es).coord k ⊎ (is_some (wait_of (world_of script es).coord.locks (session_of (world_of script es).coord k).transaction) ≡ true)
      by_kind (inl a) = inl (awaits a)
      by_kind (inr a) = inr a
