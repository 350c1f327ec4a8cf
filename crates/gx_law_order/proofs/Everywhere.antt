-- Over every run of the machine: what always holds of transactions, messages and marks.
use Rattle.std.proofs.Common.{◌≡◌, ◌⊎◌, inl, inr, ℕ, ◌+◌, List, [], ◌∷◌, ◌++◌, Option, Some, Bool, true, false, refl, sym, subst, ap, ◌∙◌, if◌then◌else◌, ◌||◌, ◌&&◌, arith, eqb, append-nil}
use Rattle.std.proofs.lemmas.Bool.{and_parts, eqb-true, or_from}
use Rattle.std.proofs.lemmas.Bool.Decides.{nat_tests}
use Rattle.std.proofs.lemmas.List.{append_assoc}
use Rattle.std.specs.Prelude.{is_some, nat_le}
use Rattle.gx_lemmas.proofs.Numbers.{eqb-self, eqb-swap, plus-none}
use Rattle.gx_lemmas.proofs.Tests.{or-false}
use Rattle.gx_ids.specs.declared.ids.Gxid.{Gxid}
use Rattle.gx_ids.specs.declared.ids.Node.{Node}
use Rattle.gx_dtx.specs.Table.{find_txn}
use Rattle.gx_msg.specs.declared.message.Envelope.{Envelope}
use Rattle.gx_msg.specs.declared.message.Message.{Message}
use Rattle.gx_msg.specs.declared.message.Message.TheVariants as message
use Rattle.gx_msg.specs.declared.message.Out.{Out}
use Rattle.gx_msg.specs.declared.reply.Reply.TheVariants as reply
use Rattle.gx_script.specs.declared.Script.{Script}
use Rattle.gx_store.specs.declared.event.Event.{Event}
use Rattle.gx_store.specs.declared.mark.Mark.{Mark}
use Rattle.gx_store.specs.declared.mark.Mark.TheVariants as mark
use Rattle.gx_store.specs.declared.node.NodeEvent.{NodeEvent}
use Rattle.gx_store.specs.declared.node.NodeEvent.TheVariants as here
use Rattle.gx_store.specs.declared.run.Step.{Step}
use Rattle.gx_store.specs.Journals.{is_same_node}
use Rattle.gx_store.specs.Marks.{is_aborted, is_committed}
use Rattle.gx_store.specs.Messages.{Receives}
use Rattle.gx_store.specs.Points.{marks_in}
use Rattle.gx_store.specs.Protocol.{decided_count, is_writer, local_count, prepared_count}
use Rattle.gx_store.specs.Refusals.{the_coordinator}
use Rattle.gx_rules.specs.AtCoordinator.{cancel_turn, cancels, coord_can, coord_sends, coord_turn, on_event}
use Rattle.gx_rules.specs.AtSegment as segment
use Rattle.gx_rules.specs.AtSegment.{seg_rule}
use Rattle.gx_rules.specs.Coordinators.{Coord, CoordTurn}
use Rattle.gx_rules.specs.Machine.{Letter, World, and_cancelled, coord_did, posted, seg_can, seg_did}
use Rattle.gx_rules.specs.Segments.{Local, Phase, Seg, SegTurn, Suspended, has_committed, local_of}
use Rattle.gx_rules.specs.Sending.{clock_after, counted, numbered}
use Rattle.gx_law_order.proofs.Induction.{after_turn, marks-by-event, marks-by-victim}
use Rattle.gx_law_order.proofs.Lists.{each_weaker}
use Rattle.gx_law_order.specs.Lists.{Each}
use Rattle.gx_law_order.proofs.Past.{aborted-append, committed-append}
use Rattle.gx_law_order.proofs.Waiting.{GoesOn, Waits, going-on, going-out, going-ways}
use Rattle.gx_law_order.proofs.More.{marks-last}
use Rattle.gx_law_order.proofs.Moves.{HasNamed}
use Rattle.gx_law_order.proofs.World.{Knows}
use Rattle.gx_law_order.specs.Followed.{DoMarksEnd, DoStepsEnd}
use Rattle.gx_law_order.specs.Pairs.{Pair, bit, is_open}
use Rattle.gx_law_order.specs.Said.{Said, SaidIn, gxid_in, is_answer, segment_of}
use Rattle.gx_law_order.specs.Standings.{Known, Part, at, gx, is_closing, is_undecided, known_at, part_at, part_of}
use Rattle.gx_law_order.specs.Standings.Standing.{Live, One}
use Rattle.gx_law_order.specs.Told.{AreTold, DoStepsTell, IsTold}
use Rattle.gx_law_order.proofs.Telling.{coord-told, seg-told, step-told, tell-push}
use Rattle.gx_law_order.proofs.Counts.{NoEnd, NoPart, NoSent, decided-append, local-append, no-aborted, no-committed, no-decided, no-local, no-prepared, no-writer, prepared-append, sent-no-end, sent-no-part, writer-append}
use Rattle.gx_law_order.proofs.Events.{IsSaidIn, cancel-led, event-led}
use Rattle.gx_law_order.proofs.CoordItems.{cancel-dull, event-alone}
use Rattle.gx_law_order.proofs.Following.{AreUnfailed, HasReached, alone-unfailed, coord-end, dull-unfailed, end-push, has-left, has-right, seg-end}
use Rattle.gx_law_order.proofs.Handled.{Does, Follows, HasMark, Tells, after_marks, handled, part-eq, went-on}
use Rattle.gx_law_order.proofs.Later.{end-more, tell-more}
use Rattle.gx_law_order.proofs.Parts.{said-grows}
use Rattle.gx_law_order.specs.Places.{AreIn}
use Rattle.gx_law_order.proofs.RightOrders.{IsRightOrder, live-of, one-of, right-order}
use Rattle.gx_law_order.proofs.Unfinished.{IsUnfinished, aborted-unfinished}
use Rattle.gx_law_order.proofs.Ways.{Agrees, Fol, FolAt, Led, SaidOut, Stands, agrees-append, known-eq}

abbrev pub parts_in : World → ℕ → ℕ → Part
parts_in w i g = part_at (w.segs i) (marks_in w.steps) i g

pub record Holds (script : Script) (w : World) : Type 0 where
  pub stands : Stands script (parts_in w) w.coord (marks_in w.steps)
  pub said : Each (SaidIn w) w.sent
  pub failed : (i g : ℕ) → ((w.segs i).locals g).vote ≡ Some reply.Jfault → HasMark (mark.JournalFailed (at i) (gx g)) (marks_in w.steps)
  pub ends : DoStepsEnd script [] w.steps
  pub tells : DoStepsTell [] w.steps

-- SENDINGS
pub posted-each : (Q : Letter → Type 0) (from : Node) (clock : ℕ) (xs : List Mark) (f : ℕ → ℕ) (outs : List Out) (sent : List Letter) → Each NoSent xs → Each (λ (o : Out). (n : ℕ) → Q (record { from = from; to = o.node; envelope = record { number = n; clock = clock; incarnation = 1; message = o.message } })) outs → Each Q sent → Each Q (posted from clock (xs ++ numbered f outs) sent)
posted-each Q from clock [] f [] sent e h s = s
posted-each Q from clock [] f (o ∷ outs) sent e h s = posted-each Q from clock [] (counted f o) outs _ tt h.1 (h.0 (f o.node.0 + 1), s)
posted-each Q from clock (mark.Sent to number told ∷ xs) f outs sent e h s = absurd e.0
posted-each Q from clock (m ∷ xs) f outs sent e h s = posted-each Q from clock xs f outs sent e.1 h s

fol-sent-one : (script : Script) (ms : List Mark) (m : Mark) → FolAt script ms m → NoSent m
fol-sent-one script ms (mark.Sent to number told) e = e
fol-sent-one script ms m e = tt

pub fol-no-sent : (script : Script) (ms ns : List Mark) → Fol script ms ns → Each NoSent ns
fol-no-sent script ms [] e = tt
fol-no-sent script ms (m ∷ ns) e = (fol-sent-one script ms m e.0, fol-no-sent script (ms ++ m ∷ []) ns e.1)

-- MARKS THAT TELL OF NO END

known-append : (script : Script) (P : ℕ → ℕ → Part) (c : Coord) (ms ns : List Mark) (i g : ℕ) → Each NoEnd ns → known_at c (ms ++ ns) i g ≡ known_at c ms i g
known-append script P c ms ns i g e =
    known-eq script P i _ _ (c.works g) (c.works g) _ _ _ _ _ _ refl refl (decided-append ms ns (gx g) ∙ ap (λ n. decided_count ms (gx g) + n) (no-decided ns (gx g) e) ∙ plus-none (decided_count ms (gx g)))
    (aborted-append ms ns (gx g) ∙ ap (λ b. is_aborted ms (gx g) || b) (no-aborted ns (gx g) e) ∙ or-false (is_aborted ms (gx g)))
    (committed-append ms ns (gx g) ∙ ap (λ b. is_committed ms (gx g) || b) (no-committed ns (gx g) e) ∙ or-false (is_committed ms (gx g)))

-- A TURN OF THE COORDINATOR
-- a single one, whose marks stand behind all others
module _ (script : Script) (w : World) (v : Holds script w) (turn : CoordTurn) (clock : ℕ) (steps : List Step) (f : Led script (parts_in w) w.coord (marks_in w.steps) turn) (all : marks_in steps ≡ marks_in w.steps ++ (coord_sends clock turn).marks) where
  abbrev ms : List Mark
  ms = marks_in w.steps

  abbrev sent : List Mark
  sent = numbered turn.coord.sent turn.outs

  abbrev last : Coord
  last = (coord_sends clock turn).coord

  abbrev next : World
  next = after_turn w clock turn steps

  pub turn-holds : DoStepsEnd script [] steps → DoStepsTell [] steps → Holds script (after_turn w clock turn steps)
  turn-holds ends tells =
      record {
        stands = record {
          pairs = λ i g. subst (λ p. Pair (known_at last (marks_in steps) i g) p) (sym (same-part i g)) (subst (λ k. Pair k (parts_in w i g)) (sym (same-known i g)) (f.way.stands.pairs i g));
          works = f.way.stands.works;
          agrees = λ g. subst (λ q. Agrees q g (find_txn last.table (gx g)) (last.works g).writers) (append_assoc ms turn.marks sent ∙ sym all) (agrees-append (ms ++ turn.marks) sent g (find_txn last.table (gx g)) (last.works g).writers (f.way.stands.agrees g));
          parts = λ i g. record { wrote = refl; promises = refl; commits = refl };
        };
        said = posted-each (SaidIn next) the_coordinator clock turn.marks turn.coord.sent turn.outs w.sent (fol-no-sent script ms turn.marks f.way.fol)
            (each_weaker (SaidOut script (parts_in w) turn.coord (ms ++ turn.marks)) _ (λ o h number. subst (λ b. Said (known_at last (marks_in steps) (if b then 0 else o.node.0) (gxid_in o.message)) (parts_in next (if b then 0 else o.node.0) (gxid_in o.message)) o.message) (sym h.0) (moved o.node.0 (gxid_in o.message) o.message h.1)) turn.outs f.outs)
            (each_weaker (SaidIn w) (SaidIn next) (λ l h. moved (segment_of l) (gxid_in l.envelope.message) l.envelope.message (f.way.stays (segment_of l) (gxid_in l.envelope.message) l.envelope.message h)) w.sent v.said);
        failed = λ i g q. subst (HasMark (mark.JournalFailed (at i) (gx g))) (sym all) (has-left (mark.JournalFailed (at i) (gx g)) ms (turn.marks ++ sent) (v.failed i g q));
        ends = ends;
        tells = tells;
      }
    where
      same-known : (i g : ℕ) → known_at last (marks_in steps) i g ≡ known_at turn.coord (ms ++ turn.marks) i g
      same-known i g = ap (λ q. known_at turn.coord q i g) (sym (append_assoc ms turn.marks sent ∙ sym all)) ∙ known-append script (parts_in w) turn.coord (ms ++ turn.marks) sent i g (sent-no-end turn.coord.sent turn.outs)

      same-part : (i g : ℕ) → parts_in next i g ≡ parts_in w i g
      same-part i g =
          let o = f.way.stands.parts i g in
          let quiet : Each NoPart sent = sent-no-part turn.coord.sent turn.outs in
          ap (λ q. part_at (w.segs i) q i g) (sym (append_assoc ms turn.marks sent ∙ sym all))
          ∙ part-eq ((w.segs i).locals g) _ _ _ _ _ _
          (writer-append (ms ++ turn.marks) sent (gx g) (at i) ∙ ap (λ b. is_writer (ms ++ turn.marks) (gx g) (at i) || b) (no-writer sent (gx g) (at i) quiet) ∙ or-false (is_writer (ms ++ turn.marks) (gx g) (at i)) ∙ o.wrote)
          (prepared-append (ms ++ turn.marks) sent (at i) (gx g) ∙ ap (λ m. prepared_count (ms ++ turn.marks) (at i) (gx g) + m) (no-prepared sent (at i) (gx g) quiet) ∙ plus-none (prepared_count (ms ++ turn.marks) (at i) (gx g)) ∙ o.promises)
          (local-append (ms ++ turn.marks) sent (at i) (gx g) ∙ ap (λ m. local_count (ms ++ turn.marks) (at i) (gx g) + m) (no-local sent (at i) (gx g) quiet) ∙ plus-none (local_count (ms ++ turn.marks) (at i) (gx g)) ∙ o.commits)

      moved : (i g : ℕ) (m : Message) → Said (known_at turn.coord (ms ++ turn.marks) i g) (parts_in w i g) m → Said (known_at last (marks_in steps) i g) (parts_in next i g) m
      moved i g m q = subst (λ p. Said (known_at last (marks_in steps) i g) p m) (sym (same-part i g)) (subst (λ k. Said k (parts_in w i g) m) (sym (same-known i g)) q)

-- what its marks follow and tell, in a step of its own or behind marks of the step
module _ (script : Script) (P : ℕ → ℕ → Part) (c : Coord) (before : List Step) (step : Step) (earlier : List Mark) (turn : CoordTurn) (ins : (g : ℕ) → AreIn script.segments (turn.coord.works g).writers) (f : Led script P c (marks_in before ++ earlier) turn) where
  abbrev so_far : List Mark
  so_far = marks_in before ++ earlier

  pub turn-ends : AreUnfailed earlier turn.marks → step.stamp.node ≡ the_coordinator → DoMarksEnd script before step earlier (turn.marks ++ numbered turn.coord.sent turn.outs)
  turn-ends unfailed own =
      coord-end script before step own earlier turn.marks turn.coord.sent turn.outs f.way.fol unfailed
      (each_weaker (SaidOut script P turn.coord (so_far ++ turn.marks)) (λ (o : Out). IsRightOrder script (so_far ++ turn.marks) o.node o.message)
      (λ o h. right-order script P turn.coord (so_far ++ turn.marks) f.way.stands ins o.node o.message h.0 h.2) turn.outs f.outs)

  pub turn-tells : AreTold the_coordinator so_far (turn.marks ++ numbered turn.coord.sent turn.outs)
  turn-tells =
      step-told the_coordinator so_far turn.marks turn.coord.sent turn.outs (fol-no-sent script so_far turn.marks f.way.fol)
      (each_weaker (SaidOut script P turn.coord (so_far ++ turn.marks)) (λ (o : Out). IsTold the_coordinator (so_far ++ turn.marks) o.message)
      (λ o h. coord-told (known_at turn.coord (so_far ++ turn.marks) o.node.0 (gxid_in o.message)) (P o.node.0 (gxid_in o.message)) (so_far ++ turn.marks) o.message refl refl h.0 h.1) turn.outs f.outs)

module _ (script : Script) (w : World) (n : Knows script w) (v : Holds script w) where
  -- by an event
  pub coord-holds : (e : Event) (x : NodeEvent) (fails : Bool) → coord_can script w.coord x ≡ true → IsSaidIn script (parts_in w) w.coord (marks_in w.steps) v.stands n.kept n.past (λ g. (n.well.coordinator.works g).writers) x → ((g : ℕ) → AreIn script.segments ((on_event script w.coord x fails).coord.works g).writers) → Holds script (coord_did w e (coord_turn script w.coord x fails))
  coord-holds e x fails ok d ins =
      turn-holds script w v turn (clock_after w.coord.clock x) (coord_did w e (coord_turn script w.coord x fails)).steps f (marks-by-event script w e x fails)
      (end-push script [] w.steps step v.ends (turn-ends script (parts_in w) w.coord w.steps step [] turn ins (subst (λ q. Led script (parts_in w) w.coord q turn) (sym (append-nil (marks_in w.steps))) f) (alone-unfailed turn.marks (event-alone script w.coord x fails)) refl))
      (tell-push [] w.steps step v.tells (subst (λ q. AreTold the_coordinator q step.marks) (append-nil (marks_in w.steps)) (turn-tells script (parts_in w) w.coord w.steps step [] turn ins (subst (λ q. Led script (parts_in w) w.coord q turn) (sym (append-nil (marks_in w.steps))) f))))
    where
      turn : CoordTurn
      turn = on_event script w.coord x fails

      step : Step
      step = record { stamp = record { clock = clock_after w.coord.clock x; node = the_coordinator }; event = e; marks = turn.marks ++ numbered turn.coord.sent turn.outs }

      f : Led script (parts_in w) w.coord (marks_in w.steps) turn
      f = event-led script (parts_in w) w.coord (marks_in w.steps) v.stands n.kept n.past (λ g. (n.well.coordinator.works g).writers) (going-out script w n) x fails ok d

  -- by a victim, in the last step
  pub victim-holds : (g : Gxid) → HasNamed w.steps w.coord.clock w.coord.rounds g → ((j : ℕ) → AreIn script.segments ((cancels w.coord g).coord.works j).writers) → Holds script (and_cancelled w g)
  victim-holds g h ins =
      turn-holds script w v turn w.coord.clock (and_cancelled w g).steps f (marks-by-victim w g h)
      (end-more script h.step more w.steps h.before h.is v.ends (turn-ends script (parts_in w) w.coord h.before h.step h.step.marks turn ins there (dull-unfailed h.step.marks turn.marks (cancel-dull w.coord g).marks) h.node))
      (tell-more script h.step more w.steps h.before h.is v.tells (subst (λ n. AreTold n (marks_in h.before ++ h.step.marks) more) (sym h.node) (turn-tells script (parts_in w) w.coord h.before h.step h.step.marks turn ins there)))
    where
      turn : CoordTurn
      turn = cancels w.coord g

      more : List Mark
      more = (cancel_turn w.coord g).marks

      f : Led script (parts_in w) w.coord (marks_in w.steps) turn
      f = cancel-led script (parts_in w) w.coord (marks_in w.steps) v.stands n.kept n.past (λ g. (n.well.coordinator.works g).writers) g

      there : Led script (parts_in w) w.coord (marks_in h.before ++ h.step.marks) turn
      there = subst (λ q. Led script (parts_in w) w.coord q turn) (ap marks_in h.is ∙ marks-last h.before h.step) f

-- A STEP OF A SEGMENT
both-apart : (a n g i h j : ℕ) → a ≡ g → n ≡ i → (eqb j i && eqb h g) ≡ false → (eqb a h && eqb n j) ≡ false
both-apart a n g i h j e f q = grind (arith, nat_tests)

both-apart-back : (a n g i h j : ℕ) → a ≡ g → n ≡ i → (eqb j i && eqb h g) ≡ false → (eqb n j && eqb a h) ≡ false
both-apart-back a n g i h j e f q = grind (arith, nat_tests)

if-none : (b : Bool) (n : ℕ) → b ≡ false → n ≡ 0 → (if b then n + 1 else n) ≡ 0
if-none b n e f = grind arith

module _ (told : Message) (k : Known) (i g : ℕ) (j h : ℕ) (apart : (eqb j i && eqb h g) ≡ false) where
  no-writer-there : (ns : List Mark) → Each (Follows told k i g) ns → is_writer ns (gx h) (at j) ≡ false
  no-writer-there [] e = refl
  no-writer-there (mark.Write a c n t r x ∷ ns) e = or_from (eqb a.0 h && eqb n.0 j) (is_writer ns (gx h) (at j)) (both-apart a.0 n.0 g i h j e.0.0 e.0.1 apart) (no-writer-there ns e.1)
  no-writer-there (m ∷ ns) e = no-writer-there ns e.1

  no-prepared-there : (ns : List Mark) → Each (Follows told k i g) ns → prepared_count ns (at j) (gx h) ≡ 0
  no-prepared-there [] e = refl
  no-prepared-there (mark.Prepared n a ∷ ns) e = if-none (eqb n.0 j && eqb a.0 h) (prepared_count ns (at j) (gx h)) (both-apart-back a.0 n.0 g i h j e.0.0 e.0.1 apart) (no-prepared-there ns e.1)
  no-prepared-there (m ∷ ns) e = no-prepared-there ns e.1

  no-local-there : (ns : List Mark) → Each (Follows told k i g) ns → local_count ns (at j) (gx h) ≡ 0
  no-local-there [] e = refl
  no-local-there (mark.LocalCommit n a ∷ ns) e = if-none (eqb n.0 j && eqb a.0 h) (local_count ns (at j) (gx h)) (both-apart-back a.0 n.0 g i h j e.0.0 e.0.1 apart) (no-local-there ns e.1)
  no-local-there (m ∷ ns) e = no-local-there ns e.1

pub follows-no-end : (told : Message) (k : Known) (i g : ℕ) (ns : List Mark) → Each (Follows told k i g) ns → Each NoEnd ns
follows-no-end told k i g [] e = tt
follows-no-end told k i g (mark.Commit h ∷ ns) e = absurd e.0
follows-no-end told k i g (mark.Abort h ∷ ns) e = absurd e.0
follows-no-end told k i g (mark.Decided h ∷ ns) e = absurd e.0
follows-no-end told k i g (m ∷ ns) e = (tt, follows-no-end told k i g ns e.1)

pub follows-no-sent : (told : Message) (k : Known) (i g : ℕ) (ns : List Mark) → Each (Follows told k i g) ns → Each NoSent ns
follows-no-sent told k i g [] e = tt
follows-no-sent told k i g (mark.Sent to number m ∷ ns) e = absurd e.0
follows-no-sent told k i g (m ∷ ns) e = (tt, follows-no-sent told k i g ns e.1)

each-both : (P : Mark → Type 0) (xs ys : List Mark) → Each P xs → Each P ys → Each P (xs ++ ys)
each-both P [] ys e f = f
each-both P (x ∷ xs) ys e f = (e.0, each-both P xs ys e.1 f)

-- what it tells is an answer that is said
pub told-answer : (k : Known) (q : Part) (i g : ℕ) (marks : List Mark) (m : Message) → Tells k q i g marks m → (is_answer m ≡ true) × (gxid_in m ≡ g) × Said k q m
told-answer k q i g marks (message.Answer h reply.Again) e = (refl, e.0, tt)
told-answer k q i g marks (message.Answer h reply.Restarted) e = (refl, e.0, tt)
told-answer k q i g marks (message.Answer h (reply.Done c x y z)) e = (refl, e.0, e.1)
told-answer k q i g marks (message.Answer h (reply.Failed c x)) e = (refl, e.0, tt)
told-answer k q i g marks (message.Answer h reply.Prepared) e = (refl, e.0, e.1)
told-answer k q i g marks (message.Answer h reply.Committed) e = (refl, e.0, e.1)
told-answer k q i g marks (message.Answer h reply.Jfault) e = (refl, e.0, e.1)
told-answer k q i g marks (message.Answer h reply.Aborted) e = (refl, e.0, tt)
told-answer k q i g marks (message.Answer h reply.Forgotten) e = (refl, e.0, tt)
told-answer k q i g marks (message.Exec h c level x y z) e = absurd e
told-answer k q i g marks (message.Prepare h) e = absurd e
told-answer k q i g marks (message.Commit h) e = absurd e
told-answer k q i g marks (message.CommitPrepared h) e = absurd e
told-answer k q i g marks (message.Abort h) e = absurd e
told-answer k q i g marks (message.Forget h) e = absurd e
told-answer k q i g marks (message.Collect round) e = absurd e
told-answer k q i g marks (message.Graph round graph) e = (refl, e, tt)
told-answer k q i g marks message.Up e = (refl, e, tt)

-- by any event: what it does is for a message that has been received by then
module _ (script : Script) (w : World) (n : Knows script w) (v : Holds script w) (e : Event) (x : NodeEvent) (fails : Bool) (i : ℕ) (msg : Message) (reached : HasReached w.steps e i msg) (does : Does msg (known_at w.coord (marks_in w.steps) i (gxid_in msg)) (w.segs i) i (gxid_in msg) (n.well.names i) (is_writer (marks_in w.steps) (gx (gxid_in msg)) (at i)) (prepared_count (marks_in w.steps) (at i) (gx (gxid_in msg))) (local_count (marks_in w.steps) (at i) (gx (gxid_in msg))) (v.stands.pairs i (gxid_in msg)) (segment.on_event script (w.segs i) x fails)) where
  abbrev pub g : ℕ
  g = gxid_in msg

  abbrev pub ms2 : List Mark
  ms2 = marks_in w.steps

  abbrev pub s : Seg
  s = w.segs i

  abbrev pub turn2 : SegTurn
  turn2 = segment.on_event script s x fails

  abbrev pub sent2 : List Mark
  sent2 = numbered (λ node. turn2.seg.sent) turn2.outs

  abbrev pub step2 : Step
  step2 = record { stamp = record { clock = clock_after s.clock x; node = at i }; event = e; marks = turn2.marks ++ sent2 }

  abbrev pub seg_now : Seg
  seg_now = (seg_rule script s x fails).seg

  abbrev pub world_then : World
  world_then = seg_did w (at i) e (seg_rule script s x fails)

  abbrev pub known : ℕ → ℕ → Known
  known j h = known_at w.coord ms2 j h

  abbrev pub part_then : Part
  part_then = after_marks (turn2.seg.locals g) (is_writer ms2 (gx g) (at i)) (prepared_count ms2 (at i) (gx g)) (local_count ms2 (at i) (gx g)) i g turn2.marks

  quiet-sent : Each NoPart sent2
  quiet-sent = sent-no-part (λ node. turn2.seg.sent) turn2.outs

  no-ends : Each NoEnd (turn2.marks ++ sent2)
  no-ends = each-both NoEnd turn2.marks sent2 (follows-no-end msg (known i g) i g turn2.marks does.marks) (sent-no-end (λ node. turn2.seg.sent) turn2.outs)

  all2 : ms2 ++ (turn2.marks ++ sent2) ≡ marks_in world_then.steps
  all2 = sym (marks-last w.steps step2)

  pub known-then : (j h : ℕ) → known_at w.coord (marks_in world_then.steps) j h ≡ known j h
  known-then j h = ap (λ q. known_at w.coord q j h) (sym all2) ∙ known-append script (parts_in w) w.coord ms2 (turn2.marks ++ sent2) j h no-ends

  pub here-then : parts_in world_then i g ≡ part_then
  here-then =
      ap (λ b. part_at (if b then (seg_rule script s x fails).seg else w.segs i) (marks_in world_then.steps) i g) (eqb-self i)
      ∙ ap (λ q. part_at turn2.seg q i g) (sym all2)
      ∙ part-eq (turn2.seg.locals g) _ _ _ _ _ _
      (writer-append ms2 (turn2.marks ++ sent2) (gx g) (at i) ∙ ap (λ b. is_writer ms2 (gx g) (at i) || b) (writer-append turn2.marks sent2 (gx g) (at i) ∙ ap (λ b. is_writer turn2.marks (gx g) (at i) || b) (no-writer sent2 (gx g) (at i) quiet-sent) ∙ or-false (is_writer turn2.marks (gx g) (at i))))
      (prepared-append ms2 (turn2.marks ++ sent2) (at i) (gx g) ∙ ap (λ m. prepared_count ms2 (at i) (gx g) + m) (prepared-append turn2.marks sent2 (at i) (gx g) ∙ ap (λ m. prepared_count turn2.marks (at i) (gx g) + m) (no-prepared sent2 (at i) (gx g) quiet-sent) ∙ plus-none (prepared_count turn2.marks (at i) (gx g))))
      (local-append ms2 (turn2.marks ++ sent2) (at i) (gx g) ∙ ap (λ m. local_count ms2 (at i) (gx g) + m) (local-append turn2.marks sent2 (at i) (gx g) ∙ ap (λ m. local_count turn2.marks (at i) (gx g) + m) (no-local sent2 (at i) (gx g) quiet-sent) ∙ plus-none (local_count turn2.marks (at i) (gx g))))

  local-there : (j h : ℕ) → (eqb j i && eqb h g) ≡ false → (world_then.segs j).locals h ≡ (w.segs j).locals h
  local-there j h apart = by_test (eqb j i) refl
    where
      second : (a b : Bool) → a ≡ true → (a && b) ≡ false → b ≡ false
      second a b x y = grind arith

      by_test : (b : Bool) → eqb j i ≡ b → (if b then seg_now else w.segs j).locals h ≡ (w.segs j).locals h
      by_test true q = does.others h (second (eqb j i) (eqb h g) q apart) ∙ ap (λ (y : ℕ). (w.segs y).locals h) (sym (eqb-true j i q))
      by_test false q = refl

  pub there-then : (j h : ℕ) → (eqb j i && eqb h g) ≡ false → parts_in world_then j h ≡ parts_in w j h
  there-then j h apart =
      ap (λ l. part_of l (is_writer (marks_in world_then.steps) (gx h) (at j)) (prepared_count (marks_in world_then.steps) (at j) (gx h)) (local_count (marks_in world_then.steps) (at j) (gx h))) (local-there j h apart)
      ∙ ap (λ q. part_at (w.segs j) q j h) (sym all2)
      ∙ part-eq ((w.segs j).locals h) _ _ _ _ _ _
      (writer-append ms2 (turn2.marks ++ sent2) (gx h) (at j) ∙ ap (λ b. is_writer ms2 (gx h) (at j) || b) (writer-append turn2.marks sent2 (gx h) (at j) ∙ or_from (is_writer turn2.marks (gx h) (at j)) (is_writer sent2 (gx h) (at j)) (no-writer-there msg (known i g) i g j h apart turn2.marks does.marks) (no-writer sent2 (gx h) (at j) quiet-sent)) ∙ or-false (is_writer ms2 (gx h) (at j)))
      (prepared-append ms2 (turn2.marks ++ sent2) (at j) (gx h) ∙ ap (λ m. prepared_count ms2 (at j) (gx h) + m) (prepared-append turn2.marks sent2 (at j) (gx h) ∙ ap (λ m. m + prepared_count sent2 (at j) (gx h)) (no-prepared-there msg (known i g) i g j h apart turn2.marks does.marks) ∙ ap (λ m. 0 + m) (no-prepared sent2 (at j) (gx h) quiet-sent)) ∙ plus-none (prepared_count ms2 (at j) (gx h)))
      (local-append ms2 (turn2.marks ++ sent2) (at j) (gx h) ∙ ap (λ m. local_count ms2 (at j) (gx h) + m) (local-append turn2.marks sent2 (at j) (gx h) ∙ ap (λ m. m + local_count sent2 (at j) (gx h)) (no-local-there msg (known i g) i g j h apart turn2.marks does.marks) ∙ ap (λ m. 0 + m) (no-local sent2 (at j) (gx h) quiet-sent)) ∙ plus-none (local_count ms2 (at j) (gx h)))

  pair-next : (j h : ℕ) (b : Bool) → (eqb j i && eqb h g) ≡ b → Pair (known j h) (parts_in world_then j h)
  pair-next j h true q =
      let f = and_parts (eqb j i) (eqb h g) q in
      subst (λ a. Pair (known a h) (parts_in world_then a h)) (sym (eqb-true j i f.0)) (subst (λ a. Pair (known i a) (parts_in world_then i a)) (sym (eqb-true h g f.1)) (subst (Pair (known i g)) (sym here-then) does.next.pair))
  pair-next j h false q = subst (Pair (known j h)) (sym (there-then j h q)) (v.stands.pairs j h)

  said-next : (j h : ℕ) (m : Message) → Said (known j h) (parts_in w j h) m → (b : Bool) → (eqb j i && eqb h g) ≡ b → Said (known j h) (parts_in world_then j h) m
  said-next j h m y true q =
      let f = and_parts (eqb j i) (eqb h g) q in
      subst (λ a. Said (known a h) (parts_in world_then a h) m) (sym (eqb-true j i f.0)) (subst (λ a. Said (known i a) (parts_in world_then i a) m) (sym (eqb-true h g f.1))
      (subst (λ p. Said (known i g) p m) (sym here-then) (said-grows (known i g) (parts_in w i g) part_then m does.next.grows does.next.pair (subst (λ a. Said (known i a) (parts_in w i a) m) (eqb-true h g f.1) (subst (λ a. Said (known a h) (parts_in w a h) m) (eqb-true j i f.0) y)))))
  said-next j h m y false q = subst (λ p. Said (known j h) p m) (sym (there-then j h q)) y

  moved2 : (j h : ℕ) (m : Message) → Said (known j h) (parts_in world_then j h) m → Said (known_at w.coord (marks_in world_then.steps) j h) (parts_in world_then j h) m
  moved2 j h m y = subst (λ k. Said k (parts_in world_then j h) m) (sym (known-then j h)) y

  failed-next : (j h : ℕ) → ((world_then.segs j).locals h).vote ≡ Some reply.Jfault → (b : Bool) → (eqb j i && eqb h g) ≡ b → HasMark (mark.JournalFailed (at j) (gx h)) (ms2 ++ turn2.marks)
  failed-next j h y true q =
      let f = and_parts (eqb j i) (eqb h g) q in
      subst (λ a. HasMark (mark.JournalFailed (at a) (gx h)) (ms2 ++ turn2.marks)) (sym (eqb-true j i f.0)) (subst (λ a. HasMark (mark.JournalFailed (at i) (gx a)) (ms2 ++ turn2.marks)) (sym (eqb-true h g f.1))
      (either (does.fails (ap (λ b. ((if b then seg_now else s).locals g).vote) (sym (eqb-self i)) ∙ subst (λ a. ((world_then.segs i).locals a).vote ≡ Some reply.Jfault) (eqb-true h g f.1) (subst (λ a. ((world_then.segs a).locals h).vote ≡ Some reply.Jfault) (eqb-true j i f.0) y)))))
    where
      either : ((s.locals g).vote ≡ Some reply.Jfault) ⊎ HasMark (mark.JournalFailed (at i) (gx g)) turn2.marks → HasMark (mark.JournalFailed (at i) (gx g)) (ms2 ++ turn2.marks)
      either (inl z) = has-left _ ms2 turn2.marks (v.failed i g z)
      either (inr z) = has-right _ ms2 turn2.marks z
  failed-next j h y false q = has-left _ ms2 turn2.marks (v.failed j h (ap (λ (l : Local). l.vote) (sym (local-there j h q)) ∙ y))

  pub holds-then : Holds script world_then
  holds-then =
      record {
        stands = record {
          pairs = λ j h. subst (λ k. Pair k (parts_in world_then j h)) (sym (known-then j h)) (pair-next j h (eqb j i && eqb h g) refl);
          works = v.stands.works;
          agrees = λ h. subst (λ q. Agrees q h (find_txn w.coord.table (gx h)) (w.coord.works h).writers) all2 (agrees-append ms2 (turn2.marks ++ sent2) h (find_txn w.coord.table (gx h)) (w.coord.works h).writers (v.stands.agrees h));
          parts = λ j h. record { wrote = refl; promises = refl; commits = refl };
        };
        said = posted-each (SaidIn world_then) (at i) (clock_after s.clock x) turn2.marks (λ node. turn2.seg.sent) turn2.outs w.sent (follows-no-sent msg (known i g) i g turn2.marks does.marks)
            (each-out turn2.outs does.outs)
            (each_weaker (SaidIn w) (SaidIn world_then) (λ l y. moved2 (segment_of l) (gxid_in l.envelope.message) l.envelope.message (said-next (segment_of l) (gxid_in l.envelope.message) l.envelope.message y (eqb (segment_of l) i && eqb (gxid_in l.envelope.message) g) refl)) w.sent v.said);
        failed = λ j h y. subst (HasMark (mark.JournalFailed (at j) (gx h))) (append_assoc ms2 turn2.marks sent2 ∙ all2) (has-left _ (ms2 ++ turn2.marks) sent2 (failed-next j h y (eqb j i && eqb h g) refl));
        tells = tell-push [] w.steps step2 v.tells (step-told (at i) ms2 turn2.marks (λ node. turn2.seg.sent) turn2.outs (follows-no-sent msg (known i g) i g turn2.marks does.marks)
            (each_weaker (λ (o : Out). Tells (known i g) part_then i g turn2.marks o.message) (λ (o : Out). IsTold (at i) (ms2 ++ turn2.marks) o.message) (λ o h. seg-told (known i g) part_then i g turn2.marks (ms2 ++ turn2.marks) does.next.pair (sym (prepared-append ms2 turn2.marks (at i) (gx g))) (sym (local-append ms2 turn2.marks (at i) (gx g))) o.message h) turn2.outs does.outs));
        ends = end-push script [] w.steps step2 v.ends (seg-end script w.steps step2 msg (known i g) i g refl reached refl refl refl (parts_in w i g) (v.stands.pairs i g) (v.stands.parts i g) only-one unfinished part_then turn2.marks
            (λ y. failed-next i g (ap (λ b. ((if b then seg_now else s).locals g).vote) (eqb-self i) ∙ y) (eqb i i && eqb g g) refl) (λ node. turn2.seg.sent) turn2.outs does.marks does.votes does.unsettled does.outs does.replies);
      }
    where
      -- the only writer
      only-one : (known i g).at ≡ One true → (n : Node) → is_writer ms2 (gx g) n ≡ is_same_node n (at i)
      only-one alone n =
          let one : (known n.0 g).at ≡ One (eqb i n.0) = one-of (nat_le w.coord.table.next.0 g) (find_txn w.coord.table (gx g)) i n.0 alone in
          let pair : Pair (known n.0 g) (parts_in w n.0 g) = v.stands.pairs n.0 g in
          sym (pair.closing (ap is_closing one)) ∙ sym (pair.alone (eqb i n.0) one).0 ∙ eqb-swap i n.0

      -- who runs commands is decided and committed nowhere, and so is who has aborted
      unfinished : ((known i g).at ≡ Live) ⊎ ((known i g).aborted ≡ true) → IsUnfinished ms2 (gx g)
      unfinished (inl live) = ((v.stands.pairs i g).undecided (ap is_undecided live), λ n. none n.0 (live-of (nat_le w.coord.table.next.0 g) (find_txn w.coord.table (gx g)) i n.0 live))
        where
          open-not : (p : Phase) → is_open p ≡ true → has_committed p ≡ false
          open-not p o = grind (arith, nat_tests)

          none : (j : ℕ) → (known j g).at ≡ Live → local_count ms2 (at j) (gx g) ≡ 0
          none j l = let pair : Pair (known j g) (parts_in w j g) = v.stands.pairs j g in pair.committed ∙ ap bit (open-not (parts_in w j g).phase (pair.live l).0)
      unfinished (inr a) = aborted-unfinished script (gx g) w.steps v.ends a

      each-out : (outs : List Out) → Each (λ (o : Out). Tells (known i g) part_then i g turn2.marks o.message) outs → Each (λ (o : Out). (number : ℕ) → SaidIn world_then (record { from = at i; to = o.node; envelope = record { number = number; clock = clock_after s.clock x; incarnation = 1; message = o.message } })) outs
      each-out [] y = tt
      each-out (o ∷ outs) y = (
        λ number. let z = told-answer (known i g) part_then i g turn2.marks o.message y.0 in
            subst (λ b. Said (known_at w.coord (marks_in world_then.steps) (if b then i else o.node.0) (gxid_in o.message)) (parts_in world_then (if b then i else o.node.0) (gxid_in o.message)) o.message) (sym z.0)
            (subst (λ a. Said (known_at w.coord (marks_in world_then.steps) i a) (parts_in world_then i a) o.message) (sym z.1) (moved2 i g o.message (subst (λ p. Said (known i g) p o.message) (sym here-then) z.2))),
        each-out outs y.1,
      )

-- by a delivery
module _ (script : Script) (w : World) (n : Knows script w) (v : Holds script w) (e : Event) (fails : Bool) (i : ℕ) (from : Node) (envelope : Envelope) (received : Receives w.steps e the_coordinator (at i) envelope.message) (said : is_answer envelope.message ≡ false → Said (known_at w.coord (marks_in w.steps) i (gxid_in envelope.message)) (parts_in w i (gxid_in envelope.message)) envelope.message) where
  abbrev pub there : ℕ
  there = gxid_in envelope.message

  abbrev pub told_turn : SegTurn
  told_turn = segment.on_event script (w.segs i) (here.Deliver from envelope) fails

  abbrev pub next2 : World
  next2 = seg_did w (at i) e (seg_rule script (w.segs i) (here.Deliver from envelope) fails)

  pub does-it : Does envelope.message (known_at w.coord (marks_in w.steps) i there) (w.segs i) i there (n.well.names i) (is_writer (marks_in w.steps) (gx there) (at i)) (prepared_count (marks_in w.steps) (at i) (gx there)) (local_count (marks_in w.steps) (at i) (gx there)) (v.stands.pairs i there) told_turn
  does-it = handled script fails (known_at w.coord (marks_in w.steps) i there) (w.segs i) i (n.well.names i) (is_writer (marks_in w.steps) (gx there) (at i)) (prepared_count (marks_in w.steps) (at i) (gx there)) (local_count (marks_in w.steps) (at i) (gx there)) envelope.message (v.stands.pairs i there) said

  abbrev pub new_part : Part
  new_part = after_marks (told_turn.seg.locals there) (is_writer (marks_in w.steps) (gx there) (at i)) (prepared_count (marks_in w.steps) (at i) (gx there)) (local_count (marks_in w.steps) (at i) (gx there)) i there told_turn.marks

  pub same-known2 : (j h : ℕ) → known_at w.coord (marks_in next2.steps) j h ≡ known_at w.coord (marks_in w.steps) j h
  same-known2 j h = known-then script w n v e (here.Deliver from envelope) fails i envelope.message (inl received) does-it j h

  pub part-here : parts_in next2 i there ≡ new_part
  part-here = here-then script w n v e (here.Deliver from envelope) fails i envelope.message (inl received) does-it

  pub part-there : (j h : ℕ) → (eqb j i && eqb h there) ≡ false → parts_in next2 j h ≡ parts_in w j h
  part-there j h apart = there-then script w n v e (here.Deliver from envelope) fails i envelope.message (inl received) does-it j h apart

  pub seg-holds : Holds script next2
  seg-holds = holds-then script w n v e (here.Deliver from envelope) fails i envelope.message (inl received) does-it

-- by a slice that goes on: what it came from, and what it does
pub record IsResumed (script : Script) (w : World) (n : Knows script w) (v : Holds script w) (e : Event) (i : ℕ) (g : Gxid) (fails : Bool) : Type 0 where
  pub slice : Suspended
  pub is : (local_of (w.segs i) g).suspended ≡ Some slice
  pub waits : Waits script w i g slice
  pub reached : HasReached w.steps e i (message.Exec g slice.cid slice.level slice.snapshot waits.horizon slice.slice)
  pub does : Does (message.Exec g slice.cid slice.level slice.snapshot waits.horizon slice.slice) (known_at w.coord (marks_in w.steps) i g.0) (w.segs i) i g.0 (n.well.names i) (is_writer (marks_in w.steps) g (at i)) (prepared_count (marks_in w.steps) (at i) g) (local_count (marks_in w.steps) (at i) g) (v.stands.pairs i g.0) (segment.on_event script (w.segs i) (here.Resume g) fails)

pub resumed-does : (script : Script) (w : World) (n : Knows script w) (v : Holds script w) (e : Event) (i : ℕ) (g : Gxid) (fails : Bool) → seg_can script (w.segs i) (here.Resume g) ≡ true → IsResumed script w n v e i g fails
resumed-does script w n v e i g fails ok = from (going-on script w n.well i g ok)
  where
    is-some : {A : Type 0} (o : Option A) (x : A) → o ≡ Some x → is_some o ≡ true
    is-some o x q = cc

    from : GoesOn script w i g → IsResumed script w n v e i g fails
    from o =
        let x : Suspended = o.slice in
        let c = o.waits.come in
        record {
          slice = x;
          is = o.is;
          waits = o.waits;
          reached = inr (record { command = tt; place = c.place; step = c.step; stands = c.stands; received = c.received });
          does = went-on script (known_at w.coord (marks_in w.steps) i g.0) (w.segs i) i (n.well.names i) (is_writer (marks_in w.steps) g (at i)) (prepared_count (marks_in w.steps) (at i) g)
              (local_count (marks_in w.steps) (at i) g) g o.waits.horizon x o.wanted _ (v.stands.pairs i g.0) (is-some (local_of (w.segs i) g).suspended x o.is) o.waits.last o.waits.reads
              o.waits.right (going-ways script w i g o);
        }
