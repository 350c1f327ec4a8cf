-- In every run, rows stand where a step tells of them.
use Rattle.std.proofs.Common.{◌≡◌, ◌≤◌, ◌⊎◌, inl, inr, ℕ, ◌+◌, List, [], ◌∷◌, ◌++◌, Option, Some, None, Bool, true, false, refl, sym, subst, ap, ◌∙◌, if◌then◌else◌, ◌||◌, ◌&&◌, append-nil, arith, eqb}
use Rattle.std.proofs.lemmas.Bool.{eqb-true}
use Rattle.std.proofs.lemmas.List.{append_assoc}
use Rattle.gx_lemmas.proofs.Tests.{true-false}
use Rattle.gx_ids.specs.declared.ids.Cid.{Cid}
use Rattle.gx_ids.specs.declared.ids.Gxid.{Gxid}
use Rattle.gx_ids.specs.declared.ids.Node.{Node}
use Rattle.gx_ids.specs.declared.rid.Rid.{Rid}
use Rattle.gx_tree.specs.declared.value.Value.{Value}
use Rattle.gx_msg.specs.declared.message.Message.{Message}
use Rattle.gx_msg.specs.declared.message.Message.TheVariants as message
use Rattle.gx_msg.specs.declared.message.Out.{Out}
use Rattle.gx_msg.specs.declared.reply.Cause.{Cause}
use Rattle.gx_msg.specs.declared.reply.Cause.TheVariants as cause
use Rattle.gx_msg.specs.declared.reply.Reply.{Reply}
use Rattle.gx_msg.specs.declared.reply.Reply.TheVariants as reply
use Rattle.gx_script.specs.declared.Script.{Script}
use Rattle.gx_store.specs.declared.event.Event.{Event}
use Rattle.gx_store.specs.declared.mark.Mark.{Mark}
use Rattle.gx_store.specs.declared.mark.Mark.TheVariants as mark
use Rattle.gx_store.specs.declared.node.NodeEvent.{NodeEvent}
use Rattle.gx_store.specs.declared.node.NodeEvent.TheVariants as here
use Rattle.gx_store.specs.declared.run.Step.{Step}
use Rattle.gx_store.specs.Journals.{is_same_node}
use Rattle.gx_store.specs.Language.{AreLinesNumbered}
use Rattle.gx_store.specs.Marks.{is_same_rid, node_of}
use Rattle.gx_store.specs.Ordered.{IsSegment}
use Rattle.gx_store.specs.Points.{Point, before, marks_in}
use Rattle.gx_store.specs.Refusals.{the_coordinator}
use Rattle.gx_store.specs.Stands.{DoMarksStand, DoRowsStand, StandsAt}
use Rattle.gx_rules.specs.AtCoordinator.{cancel_turn, cancels, coord_can, coord_turn, on_event}
use Rattle.gx_rules.specs.AtSegment as segment
use Rattle.gx_rules.specs.AtSegment.{seg_rule}
use Rattle.gx_rules.specs.Coordinators.{CoordTurn}
use Rattle.gx_rules.specs.Machine.{World, and_cancelled, coord_did, new_world, seg_can, seg_did, with_more, world_of}
use Rattle.gx_rules.specs.Segments.{SegTurn, Version}
use Rattle.gx_rules.specs.Sending.{clock_after, counted, numbered}
use Rattle.gx_rules.proofs.Turns.{with_more-last}
use Rattle.gx_law_order.specs.Moves.{Move, world_by}
use Rattle.gx_law_order.specs.Said.{is_answer}
use Rattle.gx_law_order.specs.Standings.{at}
use Rattle.gx_law_order.proofs.Always.{said-to}
use Rattle.gx_law_order.proofs.AtSegments.{PlainAt, seg_stays}
use Rattle.gx_law_order.proofs.Everywhere.{parts_in}
use Rattle.gx_law_order.proofs.Induction.{IsThere, at-moves, marks-by-victim}
use Rattle.gx_law_order.proofs.Journals.{Hold, moves-hold}
use Rattle.gx_law_order.proofs.Letters.{same_node}
use Rattle.gx_law_order.specs.Lists.{Each}
use Rattle.gx_law_order.proofs.Lists.{each_weaker}
use Rattle.gx_law_order.proofs.More.{marks-last}
use Rattle.gx_law_order.proofs.Moves.{HasNamed, moves_after, world-moves}
use Rattle.gx_law_order.proofs.SegItems.{writes_at}
use Rattle.gx_law_order.proofs.Steps.{cancel-leads, event-leads}
use Rattle.gx_law_order.proofs.Waiting.{GoesOn, going-on}
use Rattle.gx_law_order.proofs.Ways.{Fol, FolAt, Led, SaidOut}
use Rattle.gx_law_order.proofs.Whole.{Both, moves-both}
use Rattle.gx_law_locks.specs.Waiting.{EachBehind}
use Rattle.gx_law_locks.proofs.Lets.{behind-append}
use Rattle.gx_law_reads.specs.Sights.{IsOnlyAt}
use Rattle.gx_law_writes.proofs.Homes.{homes-placed}
use Rattle.gx_law_writes.proofs.RowHomes.{have-homes}
use Rattle.gx_law_writes.proofs.RowsHere.{IsHere, LocalHere, MarkHere, MessageHere, ReplyHere, Told, here-front, here-on, here-self, is_at, local-on, message-on}
use Rattle.gx_law_writes.proofs.SelectedRows.{HaveHomes}
use Rattle.gx_law_writes.proofs.Turns.{message-turns, resumption-turns}
use Rattle.gx_law_writes.proofs.TurnsHere.{message-here, resumed-here}
use Rattle.gx_law_writes.proofs.World.{moves-holds}

-- MARKS OF A STEP
-- each is of a row that was written at the node
abbrev WordHere : Node → List Mark → Mark → Type 0
WordHere node before (mark.Sent to number m) = MessageHere before node m
WordHere node before m = MarkHere node before m

turn-words : (script : Script) (node : Node) (before ms : List Mark) → Each (PlainAt script node) ms → EachBehind (MarkHere node) before ms → EachBehind (WordHere node) before ms
turn-words script node before [] p e = tt
turn-words script node before (m ∷ ms) p e = (one m p.0 e.0, turn-words script node (before ++ m ∷ []) ms p.1 e.1)
  where
    one : (m : Mark) → PlainAt script node m → MarkHere node before m → WordHere node before m
    one (mark.Sent to number told) p e = absurd p
    one m p e = e

sent-words : (node : Node) (before : List Mark) (f : ℕ → ℕ) (outs : List Out) → Each (λ (o : Out). MessageHere before node o.message) outs → EachBehind (WordHere node) before (numbered f outs)
sent-words node before f [] e = tt
sent-words node before f (o ∷ outs) e =
    let x : Mark = mark.Sent o.node (f o.node.0 + 1) o.message in (
      e.0,
      sent-words node (before ++ x ∷ []) (counted f o) outs
          (each_weaker (λ (o : Out). MessageHere before node o.message) (λ (o : Out). MessageHere (before ++ x ∷ []) node o.message) (λ o k. message-on before (x ∷ []) node o.message k) outs e.1),
    )

-- the coordinator's
fol-words : (script : Script) (before ms : List Mark) → Fol script before ms → EachBehind (WordHere the_coordinator) before ms
fol-words script before [] e = tt
fol-words script before (m ∷ ms) e = (one m e.0, fol-words script (before ++ m ∷ []) ms e.1)
  where
    one : (m : Mark) → FolAt script before m → WordHere the_coordinator before m
    one (mark.Skip g c rid) f = absurd f
    one (mark.Fault g c rid image) f = inl (refl, f.0)
    one (mark.Sent to number told) f = absurd f
    one m f = tt

no-answer : (before : List Mark) (node : Node) (m : Message) → is_answer m ≡ false → MessageHere before node m
no-answer before node (message.Answer g r) e = absurd (true-false true refl e)
no-answer before node (message.Exec g c l x y z) e = tt
no-answer before node (message.Prepare g) e = tt
no-answer before node (message.Commit g) e = tt
no-answer before node (message.CommitPrepared g) e = tt
no-answer before node (message.Abort g) e = tt
no-answer before node (message.Forget g) e = tt
no-answer before node (message.Collect round) e = tt
no-answer before node (message.Graph round graph) e = tt
no-answer before node message.Up e = tt

-- ALL STEPS
abbrev AreWords : List Step → List Step → Type 0
AreWords before [] = Unit {0}
AreWords before (s ∷ ss) = EachBehind (WordHere s.stamp.node) (marks_in before) s.marks × AreWords (before ++ s ∷ []) ss

words-push : (before ss : List Step) (s : Step) → AreWords before ss → EachBehind (WordHere s.stamp.node) (marks_in (before ++ ss)) s.marks → AreWords before (ss ++ s ∷ [])
words-push before [] s a h = (subst (λ b. EachBehind (WordHere s.stamp.node) (marks_in b) s.marks) (append-nil before) h, tt)
words-push before (x ∷ ss) s a h = (a.0, words-push (before ++ x ∷ []) ss s a.1 (subst (λ b. EachBehind (WordHere s.stamp.node) (marks_in b) s.marks) (sym (append_assoc before (x ∷ []) ss)) h))

words-more : (before ss : List Step) (s : Step) (more : List Mark) → AreWords before (ss ++ s ∷ []) → EachBehind (WordHere s.stamp.node) (marks_in ((before ++ ss) ++ s ∷ [])) more → AreWords before (ss ++ record s { marks = s.marks ++ more } ∷ [])
words-more before [] s more a h =
    (behind-append (WordHere s.stamp.node) (marks_in before) s.marks more a.0 (subst (λ ms. EachBehind (WordHere s.stamp.node) ms more) (ap (λ b. marks_in (b ++ s ∷ [])) (append-nil before) ∙ marks-last before s) h), tt)
words-more before (x ∷ ss) s more a h =
    (a.0, words-more (before ++ x ∷ []) ss s more a.1 (subst (λ b. EachBehind (WordHere s.stamp.node) (marks_in (b ++ s ∷ [])) more) (sym (append_assoc before (x ∷ []) ss)) h))

-- VERSIONS
-- what a segment has of rows is what was written there
writes-here : (node : Node) (ms : List Mark) → Each (λ (v : Version). IsHere ms node v.rid) (writes_at node ms)
writes-here node [] = tt
writes-here node (mark.Write g c n table rid image ∷ ms) = by_test (is_same_node n node) refl (each_weaker (λ (v : Version). IsHere ms node v.rid) (λ (v : Version). IsHere (w ∷ ms) node v.rid) (λ v e. here-front (is_same_node n node && is_same_rid rid v.rid) node v.rid ms e) (writes_at node ms) (writes-here node ms))
  where
    w : Mark
    w = mark.Write g c n table rid image

    v : Version
    v = record { gxid = g; cid = c; table = table; rid = rid; image = image }

    itself : (b p : Bool) → b ≡ true → (b || p) ≡ true
    itself b p e = grind arith

    by_test : (b : Bool) → is_same_node n node ≡ b → Each (λ (v : Version). IsHere (w ∷ ms) node v.rid) (writes_at node ms) → Each (λ (v : Version). IsHere (w ∷ ms) node v.rid) (if b then v ∷ writes_at node ms else writes_at node ms)
    by_test true q e = (itself (is_same_node n node && is_same_rid rid rid) (is_at node rid ms) (subst (λ k. (is_same_node n k && is_same_rid rid rid) ≡ true) (same_node n node q) (here-self n rid)), e)
    by_test false q e = e
writes-here node (m ∷ ms) = writes-here node ms

-- EVERY RUN
module _ (script : Script) (some : 1 ≤ script.segments) where
  record Known (w : World) : Type 0 where
    both : Both script some w
    journals : Hold w

  moves-known : (ms : List Move) → Known (world_by script ms)
  moves-known ms = record { both = moves-both script some ms; journals = moves-hold script some ms }

  abbrev AllHere : World → List Mark → Type 0
  AllHere w ms = (i : ℕ) → 1 ≤ i → (h : ℕ) → LocalHere ms (at i) ((w.segs i).locals h)

  record Words (w : World) : Type 0 where
    steps : AreWords [] w.steps
    locals : AllHere w (marks_in w.steps)

  module _ (w : World) (n : Known w) (p : Words w) where
    abbrev ms : List Mark
    ms = marks_in w.steps

    later : (ns : List Mark) → AllHere w (marks_in w.steps ++ ns)
    later ns i one h = local-on ms ns (at i) ((w.segs i).locals h) (p.locals i one h)

    -- the coordinator
    led-words : (turn : CoordTurn) (f : ℕ → ℕ) → Led script (parts_in w) w.coord (marks_in w.steps) turn → EachBehind (WordHere the_coordinator) (marks_in w.steps) (turn.marks ++ numbered f turn.outs)
    led-words turn f led =
        behind-append (WordHere the_coordinator) ms turn.marks (numbered f turn.outs) (fol-words script ms turn.marks led.way.fol)
        (sent-words the_coordinator (ms ++ turn.marks) f turn.outs (each_weaker (SaidOut script (parts_in w) turn.coord (ms ++ turn.marks)) (λ (o : Out). MessageHere (ms ++ turn.marks) the_coordinator o.message) (λ o q. no-answer (ms ++ turn.marks) the_coordinator o.message q.0) turn.outs led.outs))

    coord-words : (e : Event) (x : NodeEvent) (fails : Bool) → IsThere script w e the_coordinator x → coord_can script w.coord x ≡ true → Words (coord_did w e (coord_turn script w.coord x fails))
    coord-words e x fails t ok =
        let turn : CoordTurn = on_event script w.coord x fails in
        let step : Step = record { stamp = record { clock = clock_after w.coord.clock x; node = the_coordinator }; event = e; marks = turn.marks ++ numbered turn.coord.sent turn.outs } in
        record {
          steps = words-push [] w.steps step p.steps (led-words turn turn.coord.sent (event-leads script w n.both.knows n.both.holds x fails ok (said-to script w n.both.holds e x t)));
          locals = subst (AllHere w) (sym (marks-last w.steps step)) (later step.marks);
        }

    victim-words : (g : Gxid) → HasNamed w.steps w.coord.clock w.coord.rounds g → Words (and_cancelled w g)
    victim-words g a =
        record {
          steps = subst (AreWords []) (sym (ap (λ ss. with_more ss more) a.is ∙ with_more-last a.before a.step more))
              (words-more [] a.before a.step more (subst (AreWords []) a.is p.steps)
              (subst (λ ss. EachBehind (WordHere a.step.stamp.node) (marks_in ss) more) a.is (subst (λ k. EachBehind (WordHere k) ms more) (sym a.node) (led-words turn turn.coord.sent (cancel-leads script w n.both.knows n.both.holds g)))));
          locals = subst (AllHere w) (sym (marks-by-victim w g a)) (later more);
        }
      where
        turn : CoordTurn
        turn = cancels w.coord g

        more : List Mark
        more = (cancel_turn w.coord g).marks

    -- a segment
    module _ (e : Event) (fails : Bool) (i : ℕ) (place : IsSegment script (at i)) where
      turns-here : (x : NodeEvent) → seg_can script (w.segs i) x ≡ true → Told (at i) (marks_in w.steps) (segment.on_event script (w.segs i) x fails)
      turns-here x ok = by_event x ok
        where
          rows : Each (λ (v : Version). IsHere (marks_in w.steps) (at i) v.rid) (w.segs i).versions
          rows = subst (Each (λ (v : Version). IsHere ms (at i) v.rid)) (sym (n.journals i place.0).versions) (writes-here (at i) ms)

          by_event : (x : NodeEvent) → seg_can script (w.segs i) x ≡ true → Told (at i) (marks_in w.steps) (segment.on_event script (w.segs i) x fails)
          by_event (here.Deliver from envelope) ok =
              message-here ms (at i) (w.segs i) rows (p.locals i place.0) script (λ h. (n.both.holds.stands.pairs i h).vote) envelope.message (segment.on_message script (w.segs i) fails envelope.message)
              (message-turns script (w.segs i) fails envelope.message)
          by_event (here.Resume g) ok =
              let o : GoesOn script w i g = going-on script w n.both.knows.well i g ok in
              resumed-here ms (at i) (w.segs i) rows (p.locals i place.0) g o.slice o.is (segment.on_event script (w.segs i) (here.Resume g) fails) (resumption-turns script w i g o)
          by_event (here.Start t) ok = absurd (cc)
          by_event (here.End t) ok = absurd (cc)
          by_event (here.Resend j g) ok = absurd (cc)
          by_event here.Round ok = absurd (cc)

      seg-words : (x : NodeEvent) → seg_can script (w.segs i) x ≡ true → Words (seg_did w (at i) e (seg_rule script (w.segs i) x fails))
      seg-words x ok = record { steps = words-push [] w.steps step p.steps all; locals = subst (AllHere now) (sym (marks-last w.steps step)) here-now }
        where
          turn : SegTurn
          turn = segment.on_event script (w.segs i) x fails

          sent : List Mark
          sent = numbered (λ node. turn.seg.sent) turn.outs

          step : Step
          step = record { stamp = record { clock = clock_after (w.segs i).clock x; node = at i }; event = e; marks = turn.marks ++ sent }

          now : World
          now = seg_did w (at i) e (seg_rule script (w.segs i) x fails)

          told : Told (at i) (marks_in w.steps) turn
          told = turns-here x ok

          plain : Each (PlainAt script (at i)) turn.marks
          plain = subst (λ node. Each (PlainAt script node) turn.marks) (n.both.knows.well.names i) (seg_stays script (w.segs i) (subst (IsSegment script) (sym (n.both.knows.well.names i)) place) x fails).marks

          all : EachBehind (WordHere (at i)) (marks_in w.steps) (turn.marks ++ sent)
          all =
              behind-append (WordHere (at i)) ms turn.marks sent (turn-words script (at i) ms turn.marks plain told.told)
              (sent-words (at i) (ms ++ turn.marks) (λ node. turn.seg.sent) turn.outs told.outs)

          itself : (h : ℕ) → LocalHere (ms ++ step.marks) (at i) (turn.seg.locals h)
          itself h = subst (λ q. LocalHere q (at i) (turn.seg.locals h)) (append_assoc ms turn.marks sent) (local-on (ms ++ turn.marks) sent (at i) (turn.seg.locals h) (told.locals h))

          here-now : AllHere now (ms ++ step.marks)
          here-now j one h = by_test (eqb j i) refl
            where
              by_test : (b : Bool) → eqb j i ≡ b → LocalHere (ms ++ step.marks) (at j) ((if b then (seg_rule script (w.segs i) x fails).seg else w.segs j).locals h)
              by_test true q = subst (λ k. LocalHere (ms ++ step.marks) (at k) (turn.seg.locals h)) (sym (eqb-true j i q)) (itself h)
              by_test false q = later step.marks j one h

  new-words : Words new_world
  new-words = record { steps = tt; locals = λ i one h. (tt, tt) }

  moves-words : (ms : List Move) → Words (world_by script ms)
  moves-words =
      at-moves script some Known Words moves-known new-words (λ w n p e x fails t ok next. coord-words w n p e x fails t ok) (λ w n p g a next. victim-words w n p g a)
      (λ w n p e x fails i place t ok next. seg-words w n p e fails i place x ok)

-- WHERE A ROW WAS WRITTEN, IT STANDS
only-here : (first node : Node) (rid : Rid) (ms : List Mark) → IsOnlyAt first rid ms → IsHere ms node rid → node ≡ first
only-here first node rid [] o e = absurd (cc)
only-here first node rid (mark.Write g c n t r x ∷ ms) o e = by_tests (is_same_node n node) (is_same_rid r rid) refl refl e (only-here first node rid ms o.1)
  where
    by_tests : (a b : Bool) → is_same_node n node ≡ a → is_same_rid r rid ≡ b → ((a && b) || is_at node rid ms) ≡ true → (IsHere ms node rid → node ≡ first) → node ≡ first
    by_tests true true p q e more = sym (same_node n node p) ∙ same_node n first (o.0 q)
    by_tests true false p q e more = more e
    by_tests false b p q e more = more e
only-here first node rid (m ∷ ms) o e = only-here first node rid ms o e

here-some : (node : Node) (rid : Rid) (ms : List Mark) → IsHere ms node rid → (first : Node) × (node_of ms rid ≡ Some first)
here-some node rid [] e = absurd (cc)
here-some node rid (mark.Write g c n t r x ∷ ms) e = by_tests (is_same_node n node) (is_same_rid r rid) e (here-some node rid ms)
  where
    by_tests : (a b : Bool) → ((a && b) || is_at node rid ms) ≡ true → (IsHere ms node rid → (first : Node) × (node_of ms rid ≡ Some first)) → (first : Node) × ((if b then Some n else node_of ms rid) ≡ Some first)
    by_tests a true e more = (n, refl)
    by_tests true false e more = more e
    by_tests false false e more = more e
here-some node rid (m ∷ ms) e = here-some node rid ms e

node-on : (xs ys : List Mark) (r : Rid) (n : Node) → node_of xs r ≡ Some n → node_of (xs ++ ys) r ≡ Some n
node-on [] ys r n e = absurd (cc)
node-on (mark.Write g c k t q x ∷ xs) ys r n e = by_test (is_same_rid q r) e (λ f. node-on xs ys r n f)
  where
    by_test : (b : Bool) → (if b then Some k else node_of xs r) ≡ Some n → (node_of xs r ≡ Some n → node_of (xs ++ ys) r ≡ Some n) → (if b then Some k else node_of (xs ++ ys) r) ≡ Some n
    by_test true e f = e
    by_test false e f = f e
node-on (m ∷ xs) ys r n e = node-on xs ys r n e

module _ (all : List Mark) (homes : HaveHomes all) (steps : List Step) (s : Step) where
  -- at the point behind these marks of the step
  module _ (earlier more : List Mark) (same : all ≡ (marks_in steps ++ earlier) ++ more) where
    abbrev so_far : List Mark
    so_far = marks_in steps ++ earlier

    stands : (rid : Rid) → IsHere (marks_in steps ++ earlier) s.stamp.node rid → node_of (marks_in steps ++ earlier) rid ≡ Some s.stamp.node
    stands rid e =
        let first = here-some s.stamp.node rid so_far e in
        let there : node_of all rid ≡ Some first.0 = ap (λ x. node_of x rid) same ∙ node-on so_far more rid first.0 first.1 in
        let its : s.stamp.node ≡ first.0 = only-here first.0 s.stamp.node rid all (homes.nodes rid first.0 there) (subst (λ x. IsHere x s.stamp.node rid) (sym same) (here-on so_far more s.stamp.node rid e)) in
        first.1 ∙ ap Some (sym its)

    module _ (point : Point) (is : before point ≡ marks_in steps ++ earlier) where
      stands-there : (rid : Rid) → IsHere (marks_in steps ++ earlier) s.stamp.node rid → node_of (before point) rid ≡ Some s.stamp.node
      stands-there rid e = ap (λ x. node_of x rid) is ∙ stands rid e

      cause-stands : (to : Node) (number : ℕ) (g : Gxid) (c : Cid) (x : Cause) → MessageHere (marks_in steps ++ earlier) s.stamp.node (message.Answer g (reply.Failed c x)) → StandsAt s.stamp.node point (mark.Sent to number (message.Answer g (reply.Failed c x)))
      cause-stands to number g c (cause.Serialization rid h) e = stands-there rid e
      cause-stands to number g c cause.Overflow e = tt
      cause-stands to number g c cause.DivisionByZero e = tt

      reply-stands : (to : Node) (number : ℕ) (g : Gxid) (r : Reply) → ReplyHere (marks_in steps ++ earlier) s.stamp.node r → StandsAt s.stamp.node point (mark.Sent to number (message.Answer g r))
      reply-stands to number g (reply.Failed c x) e = cause-stands to number g c x e
      reply-stands to number g (reply.Done c w n p) e = tt
      reply-stands to number g reply.Prepared e = tt
      reply-stands to number g reply.Committed e = tt
      reply-stands to number g reply.Jfault e = tt
      reply-stands to number g reply.Again e = tt
      reply-stands to number g reply.Restarted e = tt
      reply-stands to number g reply.Aborted e = tt
      reply-stands to number g reply.Forgotten e = tt

      message-stands : (to : Node) (number : ℕ) (m : Message) → MessageHere (marks_in steps ++ earlier) s.stamp.node m → StandsAt s.stamp.node point (mark.Sent to number m)
      message-stands to number (message.Answer g r) e = reply-stands to number g r e
      message-stands to number (message.Exec g c l x y z) e = tt
      message-stands to number (message.Prepare g) e = tt
      message-stands to number (message.Commit g) e = tt
      message-stands to number (message.CommitPrepared g) e = tt
      message-stands to number (message.Abort g) e = tt
      message-stands to number (message.Forget g) e = tt
      message-stands to number (message.Collect round) e = tt
      message-stands to number (message.Graph round graph) e = tt
      message-stands to number message.Up e = tt

      fault-stands : (image : Option (List Value)) (rid : Rid) → ((s.stamp.node ≡ the_coordinator) × (image ≡ None)) ⊎ IsHere (marks_in steps ++ earlier) s.stamp.node rid → ((s.stamp.node ≡ the_coordinator) × (image ≡ None)) ⊎ (node_of (before point) rid ≡ Some s.stamp.node)
      fault-stands image rid (inl own) = inl own
      fault-stands image rid (inr e) = inr (stands-there rid e)

      mark-stands : (m : Mark) → WordHere s.stamp.node (marks_in steps ++ earlier) m → StandsAt s.stamp.node point m
      mark-stands (mark.Skip g c rid) e = stands-there rid e
      mark-stands (mark.Fault g c rid image) e = fault-stands image rid e
      mark-stands (mark.Sent to number m) e = message-stands to number m e
      mark-stands m e = tt

  marks-stand : (earlier ms rest : List Mark) → all ≡ (marks_in steps ++ earlier) ++ (ms ++ rest) → EachBehind (WordHere s.stamp.node) (marks_in steps ++ earlier) ms → DoMarksStand steps s earlier ms
  marks-stand earlier [] rest same e = tt
  marks-stand earlier (m ∷ ms) rest same e = (
    mark-stands earlier (m ∷ (ms ++ rest)) same (record { steps = steps; event = s.event; earlier = earlier; later = ms }) refl m e.0,
    marks-stand (earlier ++ m ∷ []) ms rest
        (same ∙ sym (append_assoc (marks_in steps ++ earlier) (m ∷ []) (ms ++ rest)) ∙ ap (λ b. b ++ (ms ++ rest)) (append_assoc (marks_in steps) earlier (m ∷ [])))
        (subst (λ b. EachBehind (WordHere s.stamp.node) b ms) (append_assoc (marks_in steps) earlier (m ∷ [])) e.1),
  )

steps-stand : (all : List Mark) → HaveHomes all → (before ss : List Step) → all ≡ marks_in before ++ marks_in ss → AreWords before ss → DoRowsStand before ss
steps-stand all homes before [] same e = tt
steps-stand all homes before (s ∷ ss) same e = (
  marks-stand all homes before s [] s.marks (marks_in ss) (same ∙ ap (λ b. b ++ (s.marks ++ marks_in ss)) (sym (append-nil (marks_in before)))) (subst (λ b. EachBehind (WordHere s.stamp.node) b s.marks) (sym (append-nil (marks_in before))) e.0),
  steps-stand all homes (before ++ s ∷ []) ss (same ∙ sym (append_assoc (marks_in before) s.marks (marks_in ss)) ∙ ap (λ b. b ++ marks_in ss) (sym (marks-last before s))) e.1,
)

module _ (script : Script) (some : 1 ≤ script.segments) (numbered_lines : AreLinesNumbered [] script.lines) where
  moves-stand : (ms : List Move) → DoRowsStand [] (world_by script ms).steps
  moves-stand ms =
      let all : List Mark = marks_in (world_by script ms).steps in
      steps-stand all (have-homes script all (homes-placed script all [] all (moves-holds script some numbered_lines ms).homes)) [] (world_by script ms).steps refl (moves-words script some ms).steps

  pub world-stands : (es : List (Event × Bool)) → DoRowsStand [] (world_of script es).steps
  world-stands es = subst (λ (w : World). DoRowsStand [] w.steps) (sym (world-moves script es)) (moves-stand (moves_after script new_world es))
