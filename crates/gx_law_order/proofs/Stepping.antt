-- What holds between steps, and how a step keeps it.
use Rattle.std.proofs.Common.{◌≡◌, ◌≤◌, ◌⊎◌, inl, inr, ℕ, ◌+◌, List, [], ◌∷◌, ◌++◌, Option, Bool, true, false, refl, sym, subst, ap, ◌∙◌, ◌||◌, arith, eqb}
use Rattle.std.proofs.lemmas.Bool.{eqb-true}
use Rattle.std.proofs.lemmas.List.{append_assoc}
use Rattle.gx_ids.specs.declared.ids.Cid.{Cid}
use Rattle.gx_ids.specs.declared.ids.Gxid.{Gxid}
use Rattle.gx_ids.specs.declared.ids.Node.{Node}
use Rattle.gx_ids.specs.declared.ids.SessionId.{SessionId}
use Rattle.gx_tree.specs.declared.stmt.Level.{Level}
use Rattle.gx_msg.specs.declared.message.Out.{Out}
use Rattle.gx_script.specs.declared.Script.{Script}
use Rattle.gx_store.specs.declared.event.Event.{Event}
use Rattle.gx_store.specs.declared.event.Event.TheVariants as event
use Rattle.gx_store.specs.declared.mark.Mark.{Mark}
use Rattle.gx_store.specs.declared.node.NodeEvent.{NodeEvent}
use Rattle.gx_store.specs.declared.run.Step.{Step}
use Rattle.gx_store.specs.Legal.{IsDrawn, LegalEvent}
use Rattle.gx_store.specs.Marks.{is_aborted, start_count}
use Rattle.gx_store.specs.Ordered.{IsSegment}
use Rattle.gx_store.specs.Points.{marks_in}
use Rattle.gx_store.specs.Refusals.{the_coordinator}
use Rattle.gx_rules.specs.AtCoordinator.{cancel_turn, cancels, coord_sends, coord_turn, on_event}
use Rattle.gx_rules.specs.AtSegment as segment
use Rattle.gx_rules.specs.AtSegment.{seg_rule}
use Rattle.gx_rules.specs.Coordinators.{Command, Coord, CoordTurn, Work}
use Rattle.gx_rules.specs.Machine.{Letter, World, and_cancelled, coord_did, posted, seg_did, with_more}
use Rattle.gx_rules.proofs.Turns.{with_more-last}
use Rattle.gx_rules.specs.Segments.{Seg, SegTurn}
use Rattle.gx_rules.specs.Sending.{clock_after, numbered}
use Rattle.gx_law_order.proofs.AtCoordinators.{cancel_stays, coord_stays}
use Rattle.gx_law_order.proofs.Induction.{after_turn}
use Rattle.gx_law_order.proofs.Moves.{HasNamed}
use Rattle.gx_law_order.proofs.AtSegments.{PlainAt, SegStays, seg_stays}
use Rattle.gx_law_order.proofs.Lists.{each_append, each_weaker}
use Rattle.gx_law_order.specs.Lists.{Each}
use Rattle.gx_law_order.proofs.Numbers.{IsNumbered, calm-more, cancel-numbered, event-numbered}
use Rattle.gx_law_order.proofs.Past.{aborted-append}
use Rattle.gx_law_order.proofs.Ordered.{at-both, seg_marks}
use Rattle.gx_law_order.proofs.Sent.{at}
use Rattle.gx_law_order.specs.Standings.{gx}
use Rattle.gx_law_order.proofs.More.{marks-last}
use Rattle.gx_law_order.proofs.World.{Knows}
use Rattle.gx_law_order.specs.Rest.{EachMark, StartsNothing, is_going_out}
use Rattle.gx_law_order.specs.Standing.{AreSessions, IsSession}
use Rattle.gx_law_order.proofs.After.{alters-sessions, quiet-silent, sent-silent, silent-fresh, silent-sessions}
use Rattle.gx_law_order.proofs.Becoming.{Becomes, by-more, by-step}
use Rattle.gx_law_order.proofs.Awaited.{IsAwaited, IsSettled, OutAwaits, OwnIn, StateOf}
use Rattle.gx_law_order.proofs.OrderAnswers.{IsNoted}
use Rattle.gx_law_order.proofs.Others.{Fresh, fresh-more}
use Rattle.gx_law_order.proofs.Frame.{Effect, Turns, turns}
use Rattle.gx_law_order.specs.Alive.{IsHeard, IsSilent}
use Rattle.gx_law_order.proofs.Gathers.{GathersIn, HeardNow, gathers-weaker, heard-now}
use Rattle.gx_law_order.proofs.Given.{Given, marks-append, sent-given}
use Rattle.gx_law_order.proofs.Outs.{CommandIs, MessageIs, OutIs, command-more, order-more, outs-more}
use Rattle.gx_law_order.proofs.Ran.{LetterRan, RanOf, ran-later, rans-sent}
use Rattle.gx_law_order.proofs.Notes.{LocalNoted, Notes, SegNoted, local-more, noted-more, seg-notes}
use Rattle.gx_law_order.proofs.LegalSteps.{AreGiven, drawn-no, ends-no, given-last, given-more, legal-no, no-start, quiet-given, segment-silent, silent-given, starts-no}
use Rattle.gx_law_order.proofs.Sendings.{IsOrderLetter, IsToldOf, LetterState, SentIs, awaited-by, away-all, coord-sent, each-posted, le-same, numbered-sent, outs-sent, plain-sent, state-moves, states-sent}

-- WHAT HOLDS BETWEEN STEPS
pub record Holds (script : Script) (w : World) : Type 0 where
  pub numbers : w.coord.table.next.0 ≡ start_count (marks_in w.steps) + 1
  pub fresh : Fresh (marks_in w.steps) w.coord.table.next.0
  pub sessions : AreSessions script w
  pub given : AreGiven script [] w.steps
  pub notes : (i : ℕ) → SegNoted (marks_in w.steps) (at i) (w.segs i)
  pub letters : Each (IsToldOf (marks_in w.steps)) w.sent
  pub commands : (j : ℕ) → CommandIs script (marks_in w.steps) (w.coord.works j).command
  pub orders : Each (IsOrderLetter script (marks_in w.steps)) w.sent
  pub gathers : (j : ℕ) → GathersIn script (IsHeard w.steps) (gx j) (w.coord.works j).command
  pub owned : (j : ℕ) → OwnIn (gx j) (w.coord.works j)
  pub alive : Each (LetterState w.coord w.steps) w.sent
  pub ran : Each (LetterRan script w.coord w.steps) w.sent

module _ (script : Script) (some : 1 ≤ script.segments) (w : World) (n : Knows script w) (h : Holds script w) where
  le-of : {a b : ℕ} → a ≡ b → b ≤ a
  le-of q = omega arith

  -- WHAT STAYS
  module _ (new : List Step) (e : Event) (ns : List Mark) (b : Becomes w.steps new e ns) where
    notes-kept : (i : ℕ) → SegNoted (marks_in new) (at i) (w.segs i)
    notes-kept i j = subst (λ m. LocalNoted m (at i) (gx j) ((w.segs i).locals j)) (sym b.marks) (local-more (marks_in w.steps) ns (at i) (gx j) ((w.segs i).locals j) (h.notes i j))

    letters-kept : Each (IsToldOf (marks_in new)) w.sent
    letters-kept =
        each_weaker (IsToldOf (marks_in w.steps)) (IsToldOf (marks_in new))
        (λ l k one. subst (λ m. IsNoted m l.from l.envelope.message) (sym b.marks) (noted-more (marks_in w.steps) ns l.from l.envelope.message (k one))) w.sent h.letters

    commands-kept : (j : ℕ) → CommandIs script (marks_in new) (w.coord.works j).command
    commands-kept j = subst (λ m. CommandIs script m (w.coord.works j).command) (sym b.marks) (command-more script (marks_in w.steps) ns (w.coord.works j).command (h.commands j))

    orders-kept : Each (IsOrderLetter script (marks_in new)) w.sent
    orders-kept =
        each_weaker (IsOrderLetter script (marks_in w.steps)) (IsOrderLetter script (marks_in new))
        (λ l k same. subst (λ m. MessageIs script m l.to l.envelope.message) (sym b.marks) (order-more script (marks_in w.steps) ns l.to l.envelope.message (k same))) w.sent h.orders

    gathers-at : (j : ℕ) (o : Option Command) → GathersIn script (HeardNow w.steps e) (gx j) o → GathersIn script (IsHeard new) (gx j) o
    gathers-at j o g = gathers-weaker script (HeardNow w.steps e) (IsHeard new) (gx j) o b.heard g

    gathers-before : (j : ℕ) → GathersIn script (HeardNow w.steps e) (gx j) (w.coord.works j).command
    gathers-before j = gathers-weaker script (IsHeard w.steps) (HeardNow w.steps e) (gx j) (w.coord.works j).command (heard-now w.steps e) (h.gathers j)

    states-kept : (d : Coord) → ((i : Node) (g : Gxid) (k : Cid) (level : Level) → IsAwaited (w.coord.works g.0) k i level → IsAwaited (d.works g.0) k i level ⊎ IsSettled (IsHeard new) (marks_in w.steps ++ ns) g k i) → Each (LetterState d new) w.sent
    states-kept d f =
        each_weaker (LetterState w.coord w.steps) (LetterState d new)
        (λ l z q. subst (λ m. StateOf d (IsHeard new) m l.to l.envelope.message) (sym b.marks)
        (state-moves w.coord d (IsHeard w.steps) (IsHeard new) (marks_in w.steps) ns l.to l.envelope.message (f l.to) (λ n t x. b.heard n t (heard-now w.steps e n t x)) (z q))) w.sent h.alive

    rans-kept : (d : Coord) → Each (LetterRan script d new) w.sent
    rans-kept d =
        each_weaker (LetterRan script w.coord w.steps) (LetterRan script d new) (λ l r same. ran-later script w.coord w.steps n.kept h.sessions h.gathers d new e ns b l.to l.envelope.message (r same)) w.sent h.ran

  -- A TURN OF THE COORDINATOR
  module _ (e : Event) (turn : CoordTurn) (clock : ℕ) (new : List Step) (b : Becomes w.steps new e (coord_sends clock turn).marks) (plain : Each (PlainAt script the_coordinator) turn.marks) (effect : Turns script w.steps w.coord e turn) where
    abbrev sent : List Mark
    sent = numbered turn.coord.sent turn.outs

    abbrev ns : List Mark
    ns = turn.marks ++ sent

    abbrev next : Coord
    next = (coord_sends clock turn).coord

    quiet-here : Each IsSilent sent
    quiet-here = sent-silent turn.coord.sent turn.outs

    turn-marks : (marks_in w.steps ++ turn.marks) ++ sent ≡ marks_in new
    turn-marks = append_assoc (marks_in w.steps) turn.marks sent ∙ sym b.marks

    turn-fresh : Turns script w.steps w.coord e turn → Fresh (marks_in new) turn.coord.table.next.0
    turn-fresh (inl d) =
        subst (λ m. Fresh m turn.coord.table.next.0) (sym b.marks)
        (fresh-more (marks_in w.steps) ns w.coord.table.next.0 turn.coord.table.next.0 h.fresh d.next (fresh-more turn.marks sent turn.coord.table.next.0 turn.coord.table.next.0 d.fresh (le-same turn.coord.table.next.0) (silent-fresh turn.coord.table.next.0 sent quiet-here)))
    turn-fresh (inr d) =
        subst (λ m. Fresh m turn.coord.table.next.0) (sym b.marks)
        (fresh-more (marks_in w.steps) ns w.coord.table.next.0 turn.coord.table.next.0 h.fresh (le-of d.next) (silent-fresh turn.coord.table.next.0 ns (each_append IsSilent turn.marks sent (quiet-silent turn.marks d.quiet) quiet-here)))

    turn-sessions : Turns script w.steps w.coord e turn → (k : SessionId) → IsSession script k new next
    turn-sessions (inl d) = alters-sessions script w.steps w.coord h.sessions e new ns b turn d sent quiet-here _ _ refl
    turn-sessions (inr d) = silent-sessions script w.steps w.coord h.sessions e new ns b next d.sessions d.works d.next (each_append IsSilent turn.marks sent (quiet-silent turn.marks d.quiet) quiet-here) d.alone

    turn-commands : Turns script w.steps w.coord e turn → (j : ℕ) → CommandIs script (marks_in new) (turn.coord.works j).command
    turn-commands (inl d) j = by_test (eqb j d.g) refl
      where
        its : CommandIs script (marks_in new) (turn.coord.works d.g).command
        its =
            subst (λ m. CommandIs script m (turn.coord.works d.g).command) turn-marks
            (command-more script (marks_in w.steps ++ turn.marks) sent (turn.coord.works d.g).command (d.orders (command-more script (marks_in w.steps) turn.marks (w.coord.works d.g).command (h.commands d.g))))

        by_test : (q : Bool) → eqb j d.g ≡ q → CommandIs script (marks_in new) (turn.coord.works j).command
        by_test true q = subst (λ i. CommandIs script (marks_in new) (turn.coord.works i).command) (sym (eqb-true j d.g q)) its
        by_test false q = subst (λ (v : Work). CommandIs script (marks_in new) v.command) (sym (d.works j q)) (commands-kept new e ns b j)
    turn-commands (inr d) j = subst (λ (v : Work). CommandIs script (marks_in new) v.command) (sym (d.works j)) (commands-kept new e ns b j)

    turn-gathers : Turns script w.steps w.coord e turn → (j : ℕ) → GathersIn script (IsHeard new) (gx j) (turn.coord.works j).command
    turn-gathers (inl d) j = by_test (eqb j d.g) refl
      where
        by_test : (q : Bool) → eqb j d.g ≡ q → GathersIn script (IsHeard new) (gx j) (turn.coord.works j).command
        by_test true q =
            subst (λ i. GathersIn script (IsHeard new) (gx i) (turn.coord.works i).command) (sym (eqb-true j d.g q)) (gathers-at new e ns b d.g (turn.coord.works d.g).command (d.gathers (gathers-before new e ns b d.g)))
        by_test false q = subst (λ (v : Work). GathersIn script (IsHeard new) (gx j) v.command) (sym (d.works j q)) (gathers-at new e ns b j (w.coord.works j).command (gathers-before new e ns b j))
    turn-gathers (inr d) j = subst (λ (v : Work). GathersIn script (IsHeard new) (gx j) v.command) (sym (d.works j)) (gathers-at new e ns b j (w.coord.works j).command (gathers-before new e ns b j))

    turn-owned : Turns script w.steps w.coord e turn → (j : ℕ) → OwnIn (gx j) (turn.coord.works j)
    turn-owned (inl d) j = by_test (eqb j d.g) refl
      where
        by_test : (q : Bool) → eqb j d.g ≡ q → OwnIn (gx j) (turn.coord.works j)
        by_test true q = subst (λ i. OwnIn (gx i) (turn.coord.works i)) (sym (eqb-true j d.g q)) (d.owned (h.owned d.g))
        by_test false q = subst (OwnIn (gx j)) (sym (d.works j q)) (h.owned j)
    turn-owned (inr d) j = subst (OwnIn (gx j)) (sym (d.works j)) (h.owned j)

    -- a command that was awaited is, or was answered, or its transaction has aborted
    awaited-moves : Turns script w.steps w.coord e turn → (i : Node) (g : Gxid) (k : Cid) (level : Level) → IsAwaited (w.coord.works g.0) k i level → IsAwaited (turn.coord.works g.0) k i level ⊎ IsSettled (IsHeard new) (marks_in w.steps ++ ns) g k i
    awaited-moves (inr d) i g k level a = inl (subst (λ v. IsAwaited v k i level) (sym (d.works g.0)) a)
    awaited-moves (inl d) i g k level a = by_test (eqb g.0 d.g) refl
      where
        settled : IsSettled (HeardNow w.steps e) turn.marks (gx d.g) k i → IsSettled (IsHeard new) (marks_in w.steps ++ ns) (gx d.g) k i
        settled (inl z) = inl (z.0, (z.1.0, (z.1.1.0, b.heard i _ z.1.1.1)))
        settled (inr z) = inr (aborted-append (marks_in w.steps) ns (gx d.g) ∙ or-true (is_aborted (marks_in w.steps) (gx d.g)) (aborted-append turn.marks sent (gx d.g) ∙ ap (λ q. q || is_aborted sent (gx d.g)) z))
          where
            or-true : (a : Bool) {b : Bool} → b ≡ true → (a || b) ≡ true
            or-true true e = refl
            or-true false e = e

        moved : IsAwaited (turn.coord.works d.g) k i level ⊎ IsSettled (HeardNow w.steps e) turn.marks (gx d.g) k i → IsAwaited (turn.coord.works d.g) k i level ⊎ IsSettled (IsHeard new) (marks_in w.steps ++ ns) (gx d.g) k i
        moved (inl z) = inl z
        moved (inr z) = inr (settled z)

        by_test : (q : Bool) → eqb g.0 d.g ≡ q → IsAwaited (turn.coord.works g.0) k i level ⊎ IsSettled (IsHeard new) (marks_in w.steps ++ ns) g k i
        by_test true q =
            subst (λ j. IsAwaited (turn.coord.works j) k i level ⊎ IsSettled (IsHeard new) (marks_in w.steps ++ ns) (gx j) k i) (sym (eqb-true g.0 d.g q))
            (moved (d.keeps k i level (subst (λ j. IsAwaited (w.coord.works j) k i level) (eqb-true g.0 d.g q) a)))
        by_test false q = inl (subst (λ v. IsAwaited v k i level) (sym (d.works g.0 q)) a)

    turn-awaits : Turns script w.steps w.coord e turn → Each (OutAwaits turn.coord) turn.outs
    turn-awaits (inl d) = d.sent
    turn-awaits (inr d) = each_weaker (OutAwaits w.coord) (OutAwaits turn.coord) (λ o z. awaited-by w.coord turn.coord d.works o.node o.message z) turn.outs (d.sent h.owned)

    awaits-now : Each (OutAwaits next) turn.outs
    awaits-now = each_weaker (OutAwaits turn.coord) (OutAwaits next) (λ o z. awaited-by turn.coord next (λ j. refl) o.node o.message z) turn.outs (turn-awaits effect)

    turn-outs : Turns script w.steps w.coord e turn → Each (OutIs script (marks_in new)) turn.outs
    turn-outs (inl d) = subst (λ m. Each (OutIs script m) turn.outs) turn-marks (outs-more script (marks_in w.steps ++ turn.marks) sent turn.outs d.outs)
    turn-outs (inr d) =
        subst (λ m. Each (OutIs script m) turn.outs) turn-marks
        (outs-more script (marks_in w.steps ++ turn.marks) sent turn.outs (d.outs (λ j. command-more script (marks_in w.steps) turn.marks (w.coord.works j).command (h.commands j))))

    -- what holds of each message that the turn sends
    all-sent : (P : Letter → Type 0) → Each (λ (o : Out). (number : ℕ) → P (record { from = the_coordinator; to = o.node; envelope = record { number = number; clock = clock; incarnation = 1; message = o.message } })) turn.outs → Each P w.sent → Each P (posted the_coordinator clock ns w.sent)
    all-sent P outs before =
        each-posted P the_coordinator clock ns w.sent
        (each_append (SentIs P the_coordinator clock) turn.marks sent (plain-sent P script the_coordinator clock turn.marks plain) (numbered-sent P the_coordinator clock turn.coord.sent turn.outs outs)) before

    pub turn-holds : IsNumbered (marks_in w.steps) turn → AreGiven script [] new → Holds script (after_turn w clock turn new)
    turn-holds number given =
        record {
          numbers = number.stands ∙ ap (λ i. i + 1) (sym (calm-more (marks_in w.steps ++ turn.marks) sent (no-start sent quiet-here)) ∙ ap start_count turn-marks);
          fresh = turn-fresh effect;
          sessions = turn-sessions effect;
          given = given;
          notes = notes-kept new e ns b;
          letters = each-posted (IsToldOf (marks_in new)) the_coordinator clock ns w.sent (coord-sent (marks_in new) clock ns) (letters-kept new e ns b);
          commands = turn-commands effect;
          gathers = turn-gathers effect;
          owned = turn-owned effect;
          alive = all-sent (LetterState next new) (states-sent next new clock turn.outs awaits-now) (states-kept new e ns b next (awaited-moves effect));
          ran = all-sent (LetterRan script next new) (rans-sent script next new clock turn.outs awaits-now) (rans-kept new e ns b next);
          orders = all-sent (IsOrderLetter script (marks_in new)) (outs-sent script (marks_in new) clock turn.outs (turn-outs effect)) (orders-kept new e ns b);
        }

  -- WHAT AN EVENT SAYS
  module _ (e : Event) (x : NodeEvent) (fails : Bool) where
    abbrev did : CoordTurn
    did = on_event script w.coord x fails

    event-given : Effect script w.steps w.coord e did → (later : List Mark) → EachMark (Given script) w.steps e [] (coord_turn script w.coord x fails).marks later
    event-given (inl d) later = marks-append (Given script) w.steps e [] did.marks _ later (d.legal _) (sent-given script w.steps e did.coord.sent did.outs did.marks later)
    event-given (inr d) later = marks-append (Given script) w.steps e [] did.marks _ later (quiet-given script w.steps e [] did.marks _ d.quiet) (sent-given script w.steps e did.coord.sent did.outs did.marks later)

    pub event-holds : Effect script w.steps w.coord e did → LegalEvent script w.steps e (coord_turn script w.coord x fails).marks → IsDrawn script w.steps e (coord_turn script w.coord x fails).marks → Holds script (coord_did w e (coord_turn script w.coord x fails))
    event-holds d legal drawn =
        turn-holds e did (clock_after w.coord.clock x) (w.steps ++ step ∷ []) (by-step w.steps step) (coord_stays script some w.coord x fails n.well.coordinator).marks (turns script w.steps w.coord e did d)
        (event-numbered (marks_in w.steps) script w.coord x fails h.numbers) (given-last script [] w.steps step h.given (legal, drawn, event-given d))
      where
        step : Step
        step = record { stamp = record { clock = clock_after w.coord.clock x; node = the_coordinator }; event = e; marks = (coord_turn script w.coord x fails).marks }

  -- a victim's turn, whose marks may stand behind those of the last step
  pub cancel-holds : (g : Gxid) (a : HasNamed w.steps w.coord.clock w.coord.rounds g) → Turns script w.steps w.coord event.Round (cancels w.coord g) → ((later : List Mark) → EachMark (Given script) a.before a.step.event a.step.marks (cancel_turn w.coord g).marks later)
      → Holds script (and_cancelled w g)
  cancel-holds g a d said =
      turn-holds event.Round (cancels w.coord g) w.coord.clock (and_cancelled w g).steps (by-more w.steps a.before a.step more a.is) (cancel_stays script some w.coord g n.well.coordinator).marks d
      (cancel-numbered (marks_in w.steps) w.coord g h.numbers)
      (subst (AreGiven script []) (sym (ap (λ ss. with_more ss more) a.is ∙ with_more-last a.before a.step more)) (given-more script [] a.before a.step more (subst (AreGiven script []) a.is h.given) said))
    where
      more : List Mark
      more = (cancel_turn w.coord g).marks

  -- A STEP OF A SEGMENT
  pub seg-holds : (e : Event) (x : NodeEvent) (fails : Bool) (i : ℕ) → StartsNothing e → is_going_out e ≡ false → IsSegment script (at i) → Holds script (seg_did w (at i) e (seg_rule script (w.segs i) x fails))
  seg-holds e x fails i q still place =
      record {
        numbers = h.numbers ∙ ap (λ a. a + 1) (sym (ap start_count (marks-last w.steps late) ∙ calm-more (marks_in w.steps) late.marks (no-start late.marks silent)));
        fresh = subst (λ m. Fresh m w.coord.table.next.0) (sym (marks-last w.steps late)) (fresh-more (marks_in w.steps) late.marks w.coord.table.next.0 w.coord.table.next.0 h.fresh (le-same w.coord.table.next.0) (silent-fresh w.coord.table.next.0 late.marks silent));
        sessions = silent-sessions script w.steps w.coord h.sessions e (w.steps ++ late ∷ []) late.marks by w.coord (λ j. refl) (λ j. refl) refl silent (λ j. (starts-no e q j, ends-no e q j));
        given = given-last script [] w.steps late h.given (legal-no script w.steps e late.marks q, drawn-no script w.steps e late.marks q, λ later. silent-given script w.steps e still [] late.marks later silent);
        notes = at-both (λ j (t : Seg). SegNoted (marks_in (w.steps ++ late ∷ [])) (at j) t) w.segs i _ (λ j. own-notes j) (λ j no. notes-kept new e late.marks by j);
        letters = each-posted (IsToldOf (marks_in (w.steps ++ late ∷ []))) (at i) (clock_after (w.segs i).clock x) late.marks w.sent told (letters-kept new e late.marks by);
        commands = commands-kept new e late.marks by;
        gathers = λ j. gathers-at new e late.marks by j (w.coord.works j).command (gathers-before new e late.marks by j);
        owned = h.owned;
        alive = each-posted (LetterState w.coord (w.steps ++ late ∷ [])) (at i) (clock_after (w.segs i).clock x) late.marks w.sent (away-all (λ l. StateOf w.coord (IsHeard (w.steps ++ late ∷ [])) (marks_in (w.steps ++ late ∷ [])) l.to l.envelope.message) i (clock_after (w.segs i).clock x) place.0 late.marks) (states-kept new e late.marks by w.coord (λ j g k level a. inl a));
        ran = each-posted (LetterRan script w.coord (w.steps ++ late ∷ [])) (at i) (clock_after (w.segs i).clock x) late.marks w.sent (away-all (λ l. RanOf script w.coord (w.steps ++ late ∷ []) l.to l.envelope.message) i (clock_after (w.segs i).clock x) place.0 late.marks) (rans-kept new e late.marks by w.coord);
        orders = each-posted (IsOrderLetter script (marks_in (w.steps ++ late ∷ []))) (at i) (clock_after (w.segs i).clock x) late.marks w.sent (away-all (λ l. MessageIs script (marks_in (w.steps ++ late ∷ [])) l.to l.envelope.message) i (clock_after (w.segs i).clock x) place.0 late.marks) (orders-kept new e late.marks by);
      }
    where
      did : SegTurn
      did = segment.on_event script (w.segs i) x fails

      late : Step
      late = record { stamp = record { clock = clock_after (w.segs i).clock x; node = at i }; event = e; marks = (seg_rule script (w.segs i) x fails).marks }

      new : List Step
      new = w.steps ++ record { stamp = record { clock = clock_after (w.segs i).clock x; node = at i }; event = e; marks = (seg_rule script (w.segs i) x fails).marks } ∷ []

      by : Becomes w.steps (w.steps ++ record { stamp = record { clock = clock_after (w.segs i).clock x; node = at i }; event = e; marks = (seg_rule script (w.segs i) x fails).marks } ∷ []) e (seg_rule script (w.segs i) x fails).marks
      by = by-step w.steps _

      silent : Each IsSilent (seg_rule script (w.segs i) x fails).marks
      silent = segment-silent script i place.0 _ (seg_marks script w n.well e x fails i place)

      noted : Notes (marks_in w.steps) (at i) (segment.on_event script (w.segs i) x fails)
      noted = seg-notes (marks_in w.steps) (at i) script (w.segs i) (n.well.names i) (h.notes i) x fails

      abbrev-sent : List Mark
      abbrev-sent = numbered (λ node. (segment.on_event script (w.segs i) x fails).seg.sent) (segment.on_event script (w.segs i) x fails).outs

      same-marks : (marks_in w.steps ++ (segment.on_event script (w.segs i) x fails).marks) ++ numbered (λ node. (segment.on_event script (w.segs i) x fails).seg.sent) (segment.on_event script (w.segs i) x fails).outs ≡ marks_in (w.steps ++ record { stamp = record { clock = clock_after (w.segs i).clock x; node = at i }; event = e; marks = (seg_rule script (w.segs i) x fails).marks } ∷ [])
      same-marks = append_assoc (marks_in w.steps) (segment.on_event script (w.segs i) x fails).marks _ ∙ sym (marks-last w.steps _)

      own-notes : (j : ℕ) → LocalNoted (marks_in (w.steps ++ record { stamp = record { clock = clock_after (w.segs i).clock x; node = at i }; event = e; marks = (seg_rule script (w.segs i) x fails).marks } ∷ [])) (at i) (record { 0 = j }) ((segment.on_event script (w.segs i) x fails).seg.locals j)
      own-notes j =
          subst (λ m. LocalNoted m (at i) (record { 0 = j }) ((segment.on_event script (w.segs i) x fails).seg.locals j)) same-marks
          (local-more (marks_in w.steps ++ (segment.on_event script (w.segs i) x fails).marks) _ (at i) _ ((segment.on_event script (w.segs i) x fails).seg.locals j) (noted.locals j))

      kept : SegStays script (w.segs i) (segment.on_event script (w.segs i) x fails)
      kept = seg_stays script (w.segs i) (subst (IsSegment script) (sym (n.well.names i)) place) x fails

      out-told : (marks : List Mark) (clock : ℕ) (outs : List Out) → Each (λ (o : Out). IsNoted marks (at i) o.message) outs → Each (λ (o : Out). (number : ℕ) → IsToldOf marks (record { from = at i; to = o.node; envelope = record { number = number; clock = clock; incarnation = 1; message = o.message } })) outs
      out-told marks clock [] f = tt
      out-told marks clock (o ∷ outs) f = (λ number one. f.0, out-told marks clock outs f.1)

      told : Each (SentIs (IsToldOf (marks_in (w.steps ++ record { stamp = record { clock = clock_after (w.segs i).clock x; node = at i }; event = e; marks = (seg_rule script (w.segs i) x fails).marks } ∷ []))) (at i) (clock_after (w.segs i).clock x)) (seg_rule script (w.segs i) x fails).marks
      told =
          each_append (SentIs (IsToldOf (marks_in (w.steps ++ record { stamp = record { clock = clock_after (w.segs i).clock x; node = at i }; event = e; marks = (seg_rule script (w.segs i) x fails).marks } ∷ []))) (at i) (clock_after (w.segs i).clock x)) (segment.on_event script (w.segs i) x fails).marks (numbered (λ node. (segment.on_event script (w.segs i) x fails).seg.sent) (segment.on_event script (w.segs i) x fails).outs)
          (plain-sent (IsToldOf (marks_in (w.steps ++ record { stamp = record { clock = clock_after (w.segs i).clock x; node = at i }; event = e; marks = (seg_rule script (w.segs i) x fails).marks } ∷ []))) script (at i) (clock_after (w.segs i).clock x) (segment.on_event script (w.segs i) x fails).marks (subst (λ node. Each (PlainAt script node) (segment.on_event script (w.segs i) x fails).marks) (n.well.names i) kept.marks))
          (numbered-sent (IsToldOf (marks_in (w.steps ++ record { stamp = record { clock = clock_after (w.segs i).clock x; node = at i }; event = e; marks = (seg_rule script (w.segs i) x fails).marks } ∷ []))) (at i) (clock_after (w.segs i).clock x) (λ node. (segment.on_event script (w.segs i) x fails).seg.sent) (segment.on_event script (w.segs i) x fails).outs
          (out-told (marks_in (w.steps ++ record { stamp = record { clock = clock_after (w.segs i).clock x; node = at i }; event = e; marks = (seg_rule script (w.segs i) x fails).marks } ∷ [])) (clock_after (w.segs i).clock x) (segment.on_event script (w.segs i) x fails).outs
          (each_weaker (λ (o : Out). IsNoted (marks_in w.steps ++ (segment.on_event script (w.segs i) x fails).marks) (at i) o.message) (λ (o : Out). IsNoted (marks_in (w.steps ++ record { stamp = record { clock = clock_after (w.segs i).clock x; node = at i }; event = e; marks = (seg_rule script (w.segs i) x fails).marks } ∷ [])) (at i) o.message)
          (λ o k. subst (λ m. IsNoted m (at i) o.message) same-marks (noted-more (marks_in w.steps ++ (segment.on_event script (w.segs i) x fails).marks) (numbered (λ node. (segment.on_event script (w.segs i) x fails).seg.sent) (segment.on_event script (w.segs i) x fails).outs) (at i) o.message k)) (segment.on_event script (w.segs i) x fails).outs noted.outs)))
