-- Every run of the machine follows the commit protocol.
use Rattle.std.proofs.Common.{◌≡◌, ◌≤◌, inl, inr, ℕ, ◌+◌, List, [], ◌∷◌, ◌++◌, None, Bool, true, refl, sym, subst, ap, ◌∙◌, if◌then◌else◌, arith, eqb}
use Rattle.std.proofs.lemmas.Bool.Decides.{nat_tests}
use Rattle.std.proofs.lemmas.Bool.{or_left}
use Rattle.gx_lemmas.proofs.Numbers.{one-le-zero, same-plus-none}
use Rattle.gx_ids.specs.declared.ids.Node.{Node}
use Rattle.gx_ids.specs.declared.ids.SessionId.{SessionId}
use Rattle.gx_msg.specs.declared.message.Message.{Message}
use Rattle.gx_msg.specs.declared.message.Message.TheVariants as message
use Rattle.gx_msg.specs.declared.message.Out.{Out}
use Rattle.gx_msg.specs.declared.reply.Reply.TheVariants as reply
use Rattle.gx_script.specs.declared.Script.{Script}
use Rattle.gx_store.specs.declared.event.Event.{Event}
use Rattle.gx_store.specs.declared.event.Event.TheVariants as event
use Rattle.gx_store.specs.declared.mark.Mark.{Mark}
use Rattle.gx_store.specs.declared.mark.Mark.TheVariants as mark
use Rattle.gx_store.specs.declared.node.NodeEvent.{NodeEvent}
use Rattle.gx_store.specs.declared.node.NodeEvent.TheVariants as here
use Rattle.gx_store.specs.declared.run.Step.{Step}
use Rattle.gx_store.specs.Marks.{is_aborted, started_after}
use Rattle.gx_store.specs.Messages.{Receives}
use Rattle.gx_store.specs.Points.{Point, marks_in, starts_by, starts_in}
use Rattle.gx_store.specs.Protocol.{DoMarksFollow, DoStepsFollow, FollowsAt}
use Rattle.gx_store.specs.Refusals.{the_coordinator}
use Rattle.gx_store.proofs.Marks.{started_after-append}
use Rattle.gx_rules.specs.AtCoordinator.{coord_can, coord_turn}
use Rattle.gx_rules.specs.AtSegment as segment
use Rattle.gx_rules.specs.AtSegment.{seg_rule}
use Rattle.gx_rules.specs.Machine.{World, coord_did, new_world, seg_can, seg_did, world_of}
use Rattle.gx_rules.specs.Segments.{SegTurn}
use Rattle.gx_rules.specs.Sending.{clock_after, counted, numbered}
use Rattle.gx_law_order.specs.Moves.{Move, world_by}
use Rattle.gx_law_order.proofs.Induction.{IsThere, at-moves}
use Rattle.gx_law_order.proofs.Lists.{each_append}
use Rattle.gx_law_order.specs.Lists.{Each}
use Rattle.gx_law_order.proofs.More.{marks-last}
use Rattle.gx_law_order.proofs.Moves.{moves_after, world-moves}
use Rattle.gx_law_order.proofs.Numbers.{NoStart}
use Rattle.gx_law_order.proofs.Past.{aborted-append}
use Rattle.gx_law_order.specs.Places.{AreIn}
use Rattle.gx_law_order.proofs.Waiting.{going-out}
use Rattle.gx_law_order.proofs.World.{Knows}
use Rattle.gx_law_order.specs.Followed.{AnswersAt, CommitsAt, DoMarksAnswer, DoMarksCommit, DoMarksEnd, DoStepsAnswer, DoStepsCommit, DoStepsEnd, EndsAt}
use Rattle.gx_law_order.specs.Standing.{AreSessions}
use Rattle.gx_law_order.specs.Said.{gxid_in}
use Rattle.gx_law_order.specs.Standings.{Known, at, gx, known_at}
use Rattle.gx_law_order.proofs.Always.{HeardAt, Sound, by-heard, heard-at, moves-sound, said-in, said-to}
use Rattle.gx_law_order.proofs.Asked.{IsGot, counted as counted_by, event-told}
use Rattle.gx_law_order.proofs.Complete.{Comes, GetsIn, IsBack, Refuses, Replied, StartsIn, StepBack, answer-push, away-back, back-all, came-append, coord-replied, none-answers, starts-last, victim-replied}
use Rattle.gx_law_order.proofs.Completing.{GetsBy, calm-started}
use Rattle.gx_law_order.proofs.Committing.{AreGathering, heard-commits, turn-commits, victim-commits}
use Rattle.gx_law_order.proofs.Legality.{moves-holds as moves-stand}
use Rattle.gx_law_order.proofs.Events.{event-led}
use Rattle.gx_law_order.proofs.Unasked.{ArePosted, moves-posted}
use Rattle.gx_law_order.proofs.Everywhere.{Holds, does-it, parts_in, resumed-does}
use Rattle.gx_law_order.proofs.Handled.{Follows}

-- A STEP OF A SEGMENT
follows-no-start : (told : Message) (k : Known) (i g : ℕ) (ns : List Mark) → Each (Follows told k i g) ns → Each NoStart ns
follows-no-start told k i g [] e = tt
follows-no-start told k i g (mark.Start h s ∷ ns) e = absurd e.0
follows-no-start told k i g (m ∷ ns) e = (tt, follows-no-start told k i g ns e.1)

follows-no-answer : (told : Message) (k : Known) (i g : ℕ) (ns : List Mark) → Each (Follows told k i g) ns → Each Refuses ns
follows-no-answer told k i g [] e = tt
follows-no-answer told k i g (mark.Answer s n a ∷ ns) e = absurd e.0
follows-no-answer told k i g (m ∷ ns) e = (tt, follows-no-answer told k i g ns e.1)

sent-no-start : (f : ℕ → ℕ) (outs : List Out) → Each NoStart (numbered f outs)
sent-no-start f [] = tt
sent-no-start f (o ∷ outs) = (tt, sent-no-start (counted f o) outs)

module _ (script : Script) (w : World) (n : Knows script w) (v : Holds script w) (r : Replied script w) (e : Event) (x : NodeEvent) (fails : Bool) (i : ℕ) (place : 1 ≤ i) (none : (t : SessionId) → starts_by t e ≡ 0) (told : Message) (known : Known) (g : ℕ) (follows : Each (Follows told known i g) (segment.on_event script (w.segs i) x fails).marks) where
  abbrev ms : List Mark
  ms = marks_in w.steps

  abbrev turn : SegTurn
  turn = segment.on_event script (w.segs i) x fails

  abbrev sent : List Mark
  sent = numbered (λ node. turn.seg.sent) turn.outs

  abbrev step : Step
  step = record { stamp = record { clock = clock_after (w.segs i).clock x; node = at i }; event = e; marks = turn.marks ++ sent }

  abbrev next : World
  next = seg_did w (at i) e (seg_rule script (w.segs i) x fails)

  all : ms ++ (turn.marks ++ sent) ≡ marks_in next.steps
  all = sym (marks-last w.steps step)

  seg-replied : Replied script next
  seg-replied =
      record {
        lines = λ t. r.lines t ∙ same-plus-none (starts_in t w.steps) ∙ ap (λ q. starts_in t w.steps + q) (sym (none t)) ∙ sym (starts-last t w.steps step);
        last = λ t h q. r.last t h (sym (started_after-append t None ms (turn.marks ++ sent) ∙ calm-started t (started_after t None ms) (turn.marks ++ sent) (each_append NoStart turn.marks sent (follows-no-start told known i g turn.marks follows) (sent-no-start (λ node. turn.seg.sent) turn.outs))) ∙ ap (started_after t None) all ∙ q);
        back = each_append (StepBack w.coord next.steps) w.steps (step ∷ []) (back-all w.coord w.coord w.steps (w.steps ++ step ∷ []) w.steps stays r.back) (away-back w.coord next.steps (at i) (λ q. one-le-zero i place (ap (λ (a : Node). a.0) q)) (turn.marks ++ sent), tt);
        answers = answer-push script [] w.steps step r.answers (none-answers script w.steps step [] turn.marks (λ node. turn.seg.sent) turn.outs (follows-no-answer told known i g turn.marks follows));
      }
    where
      stays : (j g m : ℕ) → IsBack w.coord w.steps j g m → IsBack w.coord (w.steps ++ step ∷ []) j g m
      stays j g m (inl y) = inl y
      stays j g m (inr (inl y)) = inr (inl (came-append w.steps (step ∷ []) j g m y))
      stays j g m (inr (inr y)) = inr (inr (ap (λ q. is_aborted q (gx g)) (sym all) ∙ aborted-append ms (turn.marks ++ sent) (gx g) ∙ or_left (is_aborted ms (gx g)) (is_aborted (turn.marks ++ sent) (gx g)) y))

-- ALL EVENTS
gets-by : (steps : List Step) (e : Event) (from : Node) (m : Message) → Receives steps e from the_coordinator m → (g n : ℕ) → (wrote : Bool) (count : ℕ) (part : Rattle.gx_tree.specs.declared.part.Part.Part) → m ≡ message.Answer (gx g) (reply.Done (record { 0 = n }) wrote count part) → Comes steps e from.0 g n
gets-by steps e from m y g n wrote count part q = record { wrote = wrote; count = count; part = part; received = subst (Receives steps e from the_coordinator) q y }

-- what the coordinator gets is the answer of a command, or a line starts
module _ (script : Script) (w : World) (k : Knows script w) (v : Holds script w) (r : Replied script w) (e : Event) where
  abbrev ins : (g : ℕ) → AreIn script.segments (w.coord.works g).writers
  ins g = (k.well.coordinator.works g).writers

  got : (from : Node) (m : Message) → Receives w.steps e from the_coordinator m → GetsBy script (parts_in w) w.coord (marks_in w.steps) v.stands k.kept (GetsIn script w k v r e) (StartsIn script w k v r e) r.last from m
  got from (message.Answer g (reply.Done cid wrote count part)) y = gets-by w.steps e from (message.Answer g (reply.Done cid wrote count part)) y g.0 cid.0 wrote count part refl
  got from (message.Answer g (reply.Failed cid cause)) y = tt
  got from (message.Answer g reply.Prepared) y = tt
  got from (message.Answer g reply.Committed) y = tt
  got from (message.Answer g reply.Jfault) y = tt
  got from (message.Answer g reply.Again) y = tt
  got from (message.Answer g reply.Restarted) y = tt
  got from (message.Answer g reply.Aborted) y = tt
  got from (message.Answer g reply.Forgotten) y = tt
  got from (message.Exec g cid level a h b) y = tt
  got from (message.Prepare g) y = tt
  got from (message.Commit g) y = tt
  got from (message.CommitPrepared g) y = tt
  got from (message.Abort g) y = tt
  got from (message.Forget g) y = tt
  got from (message.Collect round) y = tt
  got from (message.Graph round graph) y = tt
  got from message.Up y = tt

  abbrev count_of : Bool → ℕ
  count_of b = if b then 1 else 0

  starts-one : (s q : SessionId) → q.0 ≡ s.0 → starts_by q (event.Start s) ≡ 1
  starts-one s q e = plain s.0 q.0 e
    where
      plain : (a b : ℕ) → b ≡ a → count_of (eqb a b) ≡ 1
      plain a b e = grind (arith, nat_tests)

  got-in : (x : NodeEvent) → IsThere script w e the_coordinator x → IsGot script (parts_in w) w.coord (marks_in w.steps) v.stands k.kept k.past ins (GetsIn script w k v r e) (StartsIn script w k v r e) r.last x
  got-in (here.Deliver from envelope) t = got from envelope.message t.received
  got-in (here.Start s) t = λ q z. ap (starts_by q) t ∙ starts-one s q z
  got-in (here.Resume g) t = tt
  got-in (here.End s) t = tt
  got-in (here.Resend i g) t = tt
  got-in here.Round t = tt

  abbrev counts : NodeEvent → ℕ → ℕ
  counts x = counted_by script (parts_in w) w.coord (marks_in w.steps) v.stands k.kept k.past ins (GetsIn script w k v r e) (StartsIn script w k v r e) r.last x

  counts-are : (x : NodeEvent) → IsThere script w e the_coordinator x → (s : SessionId) → counts x s.0 ≡ starts_by s e
  counts-are (here.Deliver from envelope) t s = ap (starts_by s) (sym t.event)
  counts-are (here.Start q) t s = ap (starts_by s) (sym t)
  counts-are (here.Resume g) t s = ap (starts_by s) (sym t)
  counts-are (here.End q) t s = ap (starts_by s) (sym t)
  counts-are (here.Resend i g) t s = ap (starts_by s) (sym t)
  counts-are here.Round t s = ap (starts_by s) (sym t)

  event-replied : (x : NodeEvent) (fails : Bool) → IsThere script w e the_coordinator x → coord_can script w.coord x ≡ true → Replied script (coord_did w e (coord_turn script w.coord x fails))
  event-replied x fails t ok =
      coord-replied script w k v r e x fails (event-led script (parts_in w) w.coord (marks_in w.steps) v.stands k.kept k.past ins (going-out script w k) x fails ok (said-in script w k v x (said-to script w v e x t)))
      (counts x) (event-told script (parts_in w) w.coord (marks_in w.steps) v.stands k.kept k.past ins (GetsIn script w k v r e) (StartsIn script w k v r e) r.last (going-out script w k) x fails ok (got-in x t)) (counts-are x t)

-- a segment starts no line
no-starts : (script : Script) (w : World) (e : Event) (i : ℕ) (x : NodeEvent) → IsThere script w e (at i) x → seg_can script (w.segs i) x ≡ true → (s : SessionId) → starts_by s e ≡ 0
no-starts script w e i (here.Deliver from envelope) t ok s = ap (starts_by s) t.event
no-starts script w e i (here.Resume g) t ok s = ap (starts_by s) t
no-starts script w e i (here.Start q) t ok s = absurd (cc)
no-starts script w e i (here.End q) t ok s = absurd (cc)
no-starts script w e i (here.Resend j g) t ok s = absurd (cc)
no-starts script w e i here.Round t ok s = absurd (cc)

heard-replied : (script : Script) (w : World) (k : Knows script w) (v : Holds script w) → Replied script w → (e : Event) (x : NodeEvent) (fails : Bool) (i : ℕ) → 1 ≤ i → ((s : SessionId) → starts_by s e ≡ 0) → HeardAt script w e i x → Replied script (seg_did w (at i) e (seg_rule script (w.segs i) x fails))
heard-replied script w k v r e x fails i place none h =
    by-heard script w e i (λ y. Replied script (seg_did w (at i) e (seg_rule script (w.segs i) y fails)))
    (λ from envelope d.
    seg-replied script w k v r e (here.Deliver from envelope) fails i place none envelope.message (known_at w.coord (marks_in w.steps) i (gxid_in envelope.message)) (gxid_in envelope.message)
    (does-it script w k v e fails i from envelope d.received d.said).marks)
    (λ g ok. let o = resumed-does script w k v e i g fails ok in
    seg-replied script w k v r e (here.Resume g) fails i place none (message.Exec g o.slice.cid o.slice.level o.slice.snapshot o.waits.horizon o.slice.slice) (known_at w.coord (marks_in w.steps) i g.0) g.0 o.does.marks)
    x h

module _ (script : Script) (some : 1 ≤ script.segments) where
  pub record Both (w : World) : Type 0 where
    pub knows : Knows script w
    pub holds : Holds script w
    pub replied : Replied script w

  -- and where its sessions stand
  record Full (w : World) : Type 0 where
    both : Both w
    sessions : AreSessions script w
    posted : ArePosted w
    gathers : AreGathering script w

  new-replied : Replied script new_world
  new-replied = record { lines = λ t. refl; last = λ t h e. absurd (cc); back = tt; answers = tt }

  moves-replied : (ms : List Move) → Replied script (world_by script ms)
  moves-replied =
      at-moves script some (Sound script) (Replied script) (moves-sound script some) new-replied (λ w k r e x fails t ok next. event-replied script w k.knows k.holds r e x fails t ok)
      (λ w k r g h next. victim-replied script w k.knows k.holds r g h)
      (λ w k r e x fails i place t ok next. heard-replied script w k.knows k.holds r e x fails i place.0 (no-starts script w e i x t ok) (heard-at script w k.holds e x i place.0 t ok))

  pub moves-both : (ms : List Move) → Both (world_by script ms)
  moves-both ms = let k = moves-sound script some ms in record { knows = k.knows; holds = k.holds; replied = moves-replied ms }

  pub world-both : (es : List (Event × Bool)) → Both (world_of script es)
  world-both es = subst Both (sym (world-moves script es)) (moves-both (moves_after script new_world es))

  -- THE WHOLE
  follow-sent : (node : Node) (point : Point) (to : Node) (number : ℕ) (m : Message) → EndsAt script node point (mark.Sent to number m) → CommitsAt script point (mark.Sent to number m) → FollowsAt script node point (mark.Sent to number m)
  follow-sent node point to number (message.Prepare g) e c = (e, c)
  follow-sent node point to number (message.Commit g) e c = (e, c)
  follow-sent node point to number (message.CommitPrepared g) e c = e
  follow-sent node point to number (message.Abort g) e c = e
  follow-sent node point to number (message.Forget g) e c = e
  follow-sent node point to number (message.Exec g k level x h y) e c = c
  follow-sent node point to number (message.Answer g r) e c = e
  follow-sent node point to number (message.Collect round) e c = e
  follow-sent node point to number (message.Graph round graph) e c = e
  follow-sent node point to number message.Up e c = e

  follow-mark : (node : Node) (point : Point) (m : Mark) → EndsAt script node point m → AnswersAt script node point m → CommitsAt script point m → FollowsAt script node point m
  follow-mark node point (mark.Answer s n a) e f c = f
  follow-mark node point (mark.Sent to number m) e f c = follow-sent node point to number m e c
  follow-mark node point m e f c = e

  follow-marks : (steps : List Step) (step : Step) (earlier ns : List Mark) → DoMarksEnd script steps step earlier ns → DoMarksAnswer script steps step earlier ns → DoMarksCommit script steps step earlier ns → DoMarksFollow script steps step earlier ns
  follow-marks steps s earlier [] e f c = tt
  follow-marks steps s earlier (m ∷ ns) e f c = (follow-mark s.stamp.node (record { steps = steps; event = s.event; earlier = earlier; later = ns }) m e.0 f.0 c.0, follow-marks steps s (earlier ++ m ∷ []) ns e.1 f.1 c.1)

  follow-steps : (before ss : List Step) → DoStepsEnd script before ss → DoStepsAnswer script before ss → DoStepsCommit script before ss → DoStepsFollow script before ss
  follow-steps before [] e f c = tt
  follow-steps before (s ∷ ss) e f c = (follow-marks before s [] s.marks e.0 f.0 c.0, follow-steps (before ++ s ∷ []) ss e.1 f.1 c.1)

  moves-commit : (ms : List Move) → DoStepsCommit script [] (world_by script ms).steps
  moves-commit =
      at-moves script some Full (λ w. DoStepsCommit script [] w.steps) (λ ms. let stand = moves-stand script some ms in record { both = moves-both ms; sessions = stand.sessions; gathers = stand.gathers; posted = moves-posted script some ms }) tt
      (λ w k p e x fails t ok next.
      turn-commits script w k.both.knows k.both.holds e x fails p next.both.knows next.both.holds next.both.replied next.sessions next.posted next.gathers
      (event-led script (parts_in w) w.coord (marks_in w.steps) k.both.holds.stands k.both.knows.kept k.both.knows.past (λ g. (k.both.knows.well.coordinator.works g).writers) (going-out script w k.both.knows) x fails ok
      (said-in script w k.both.knows k.both.holds x (said-to script w k.both.holds e x t))))
      (λ w k p g h next. victim-commits script w k.both.knows k.both.holds g h p)
      (λ w k p e x fails i place t ok next. heard-commits script w k.both.knows k.both.holds e x fails i p (heard-at script w k.both.holds e x i place.0 t ok))

  pub world-follows : (es : List (Event × Bool)) → DoStepsFollow script [] (world_of script es).steps
  world-follows es =
      let b = world-both es in
      follow-steps [] (world_of script es).steps b.holds.ends b.replied.answers (subst (λ (w : World). DoStepsCommit script [] w.steps) (sym (world-moves script es)) (moves-commit (moves_after script new_world es)))
