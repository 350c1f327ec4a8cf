-- Over every run of the machine: who holds a row's lock at a segment waits there, or has failed there, or has aborted.
use Rattle.std.proofs.Common.{◌≡◌, ◌⊎◌, inl, inr, ◌≤◌, ℕ, ◌+◌, List, [], ◌∷◌, ◌++◌, Option, Some, Bool, true, false, refl, sym, subst, ap, ◌∙◌, if◌then◌else◌, ◌&&◌, ◌||◌, nat_lt, arith, eqb}
use Rattle.std.proofs.lemmas.Bool.{and_from, and_parts, eqb-true}
use Rattle.std.proofs.lemmas.Bool.Decides.{nat_tests}
use Rattle.std.proofs.lemmas.List.{append_assoc}
use Rattle.std.specs.Prelude.{is_some}
use Rattle.gx_lemmas.proofs.Numbers.{plus-none}
use Rattle.gx_lemmas.proofs.Tests.{or-false, true-false}
use Rattle.gx_ids.specs.declared.ids.Gxid.{Gxid}
use Rattle.gx_ids.specs.declared.ids.Node.{Node}
use Rattle.gx_msg.specs.declared.message.Envelope.{Envelope}
use Rattle.gx_msg.specs.declared.message.Message.{Message}
use Rattle.gx_msg.specs.declared.message.Message.TheVariants as message
use Rattle.gx_msg.specs.declared.message.Out.{Out}
use Rattle.gx_msg.specs.declared.reply.Reply.TheVariants as reply
use Rattle.gx_script.specs.declared.Script.{Script}
use Rattle.gx_store.specs.declared.event.Event.{Event}
use Rattle.gx_store.specs.declared.mark.Mark.{Mark}
use Rattle.gx_store.specs.declared.node.NodeEvent.{NodeEvent}
use Rattle.gx_store.specs.declared.node.NodeEvent.TheVariants as here
use Rattle.gx_store.specs.declared.run.Step.{Step}
use Rattle.gx_store.specs.Marks.{is_aborted, is_committed}
use Rattle.gx_store.specs.Points.{marks_in}
use Rattle.gx_store.specs.Protocol.{decided_count, is_writer, local_count, prepared_count}
use Rattle.gx_store.specs.Refusals.{the_coordinator}
use Rattle.gx_rules.specs.AtCoordinator.{cancels, coord_can, coord_sends, coord_turn, on_event}
use Rattle.gx_rules.specs.AtSegment as segment
use Rattle.gx_rules.specs.AtSegment.{seg_rule}
use Rattle.gx_rules.specs.Coordinators.{Coord, CoordTurn}
use Rattle.gx_rules.specs.Machine.{Letter, World, and_cancelled, coord_did, found, new_world, seg_can, seg_did, world_of}
use Rattle.gx_rules.specs.Segments.{Local, Seg, SegTurn, local_of}
use Rattle.gx_rules.specs.Sending.{clock_after, numbered}
use Rattle.gx_law_order.proofs.Always.{IsGiven, Sound, by-heard, each-zip, heard-at, moves-sound}
use Rattle.gx_law_order.proofs.Counts.{NoEnd, NoPart, decided-append, local-append, no-aborted, no-committed, no-decided, no-local, no-prepared, no-writer, prepared-append, sent-no-end, sent-no-part, writer-append}
use Rattle.gx_law_order.proofs.Events.{IsSaidIn, cancel-led, event-led}
use Rattle.gx_law_order.proofs.Everywhere.{Holds, IsResumed, does-it, fol-no-sent, follows-no-sent, here-then, known-then, part_then, parts_in, posted-each, resumed-does, there-then, told-answer, world_then}
use Rattle.gx_law_order.proofs.Following.{HasReached}
use Rattle.gx_law_order.proofs.Handled.{Does, Tells, part-eq}
use Rattle.gx_law_order.proofs.Induction.{IsThere, after_turn, at-events, marks-by-event, marks-by-victim}
use Rattle.gx_law_order.proofs.Letters.{found_is}
use Rattle.gx_law_order.proofs.Lists.{each_weaker}
use Rattle.gx_law_order.proofs.More.{marks-last}
use Rattle.gx_law_order.proofs.Moves.{HasNamed}
use Rattle.gx_law_order.proofs.Parts.{said-grows}
use Rattle.gx_law_order.proofs.Past.{aborted-append, committed-append}
use Rattle.gx_law_order.proofs.Suspended.{is_open_phase}
use Rattle.gx_law_order.proofs.Waiting.{GoesOn, going-on, going-out, going-ways}
use Rattle.gx_law_order.proofs.Ways.{Led, SaidOut, Stands, known-eq}
use Rattle.gx_law_order.proofs.World.{Knows}
use Rattle.gx_law_order.specs.Lists.{Each}
use Rattle.gx_law_order.specs.Pairs.{Pair, is_open}
use Rattle.gx_law_order.specs.Said.{Said, SaidIn, gxid_in, is_answer, segment_of}
use Rattle.gx_law_order.specs.Standings.{Known, Part, at, gx, known_at, part_at}
use Rattle.gx_law_order.specs.Standings.Standing.{Live, One, Preparing}
use Rattle.gx_law_lone.specs.Rows.{has_failed}
use Rattle.gx_law_lone.proofs.Feigned.{IsHeardOf, IsNoFailure, failing, feign, feigned, heard-of, new-fresh, new-heard, not-live-one, not-live-preparing, open-same, order-calm, say-feigned, voted}
use Rattle.gx_law_lone.proofs.Messages.{IsFresh, RanBy, message-did, resumed-turn}
use Rattle.gx_law_lone.proofs.Turns.{Did, Rows, TellsSo}

abbrev pub aborts_in : List Mark → ℕ → Bool
aborts_in ms h = is_aborted ms (gx h)

abbrev pub so_in : World → ℕ → ℕ → Part
so_in w i g = feigned (parts_in w i g)

abbrev pub SaidSo : World → Letter → Type 0
SaidSo w l = Said (known_at w.coord (marks_in w.steps) (segment_of l) (gxid_in l.envelope.message)) (so_in w (segment_of l) (gxid_in l.envelope.message)) l.envelope.message

pub record Feigns (w : World) : Type 0 where
  pub pairs : (i g : ℕ) → Pair (known_at w.coord (marks_in w.steps) i g) (so_in w i g)
  pub said : Each (SaidSo w) w.sent
  pub rows : (i : ℕ) → Rows (aborts_in (marks_in w.steps)) (w.segs i)

-- more marks, and more who have aborted
rows-later : (ms ns : List Mark) (s : Seg) → Rows (aborts_in ms) s → Rows (aborts_in (ms ++ ns)) s
rows-later ms ns s k h a f = k h (first (aborts_in ms h) (is_aborted ns (gx h)) (sym (aborted-append ms ns (gx h)) ∙ a)) f
  where
    first : (a b : Bool) → (a || b) ≡ false → a ≡ false
    first true b e = absurd (cc)
    first false b e = refl

-- A TURN OF THE COORDINATOR
module _ (script : Script) (w : World) (v : Holds script w) (u : Feigns w) where
  abbrev ms : List Mark
  ms = marks_in w.steps

  pub stands-so : Stands script (so_in w) w.coord ms
  stands-so = record { pairs = u.pairs; works = v.stands.works; agrees = v.stands.agrees; parts = λ i g. record { wrote = refl; promises = refl; commits = refl } }

  module _ (turn : CoordTurn) (clock : ℕ) (steps : List Step) (f : Led script (so_in w) w.coord ms turn) (all : marks_in steps ≡ ms ++ (coord_sends clock turn).marks) where
    abbrev sent : List Mark
    sent = numbered turn.coord.sent turn.outs

    abbrev last : Coord
    last = (coord_sends clock turn).coord

    abbrev next : World
    next = after_turn w clock turn steps

    quiet-known : (i g : ℕ) → Each NoEnd sent → known_at turn.coord ((ms ++ turn.marks) ++ sent) i g ≡ known_at turn.coord (ms ++ turn.marks) i g
    quiet-known i g e =
        known-eq script (so_in w) i _ _ (turn.coord.works g) (turn.coord.works g) _ _ _ _ _ _ refl refl (decided-append (ms ++ turn.marks) sent (gx g) ∙ ap (λ n. decided_count (ms ++ turn.marks) (gx g) + n) (no-decided sent (gx g) e) ∙ plus-none (decided_count (ms ++ turn.marks) (gx g)))
        (aborted-append (ms ++ turn.marks) sent (gx g) ∙ ap (λ b. is_aborted (ms ++ turn.marks) (gx g) || b) (no-aborted sent (gx g) e) ∙ or-false (is_aborted (ms ++ turn.marks) (gx g)))
        (committed-append (ms ++ turn.marks) sent (gx g) ∙ ap (λ b. is_committed (ms ++ turn.marks) (gx g) || b) (no-committed sent (gx g) e) ∙ or-false (is_committed (ms ++ turn.marks) (gx g)))

    same-known : (i g : ℕ) → known_at last (marks_in steps) i g ≡ known_at turn.coord (ms ++ turn.marks) i g
    same-known i g = ap (λ q. known_at turn.coord q i g) (sym (append_assoc ms turn.marks sent ∙ sym all)) ∙ quiet-known i g (sent-no-end turn.coord.sent turn.outs)

    same-part : (i g : ℕ) → parts_in next i g ≡ parts_in w i g
    same-part i g =
        let o = f.way.stands.parts i g in
        let quiet : Each NoPart sent = sent-no-part turn.coord.sent turn.outs in
        ap (λ q. part_at (w.segs i) q i g) (sym (append_assoc ms turn.marks sent ∙ sym all))
        ∙ part-eq ((w.segs i).locals g) _ _ _ _ _ _
        (writer-append (ms ++ turn.marks) sent (gx g) (at i) ∙ ap (λ b. is_writer (ms ++ turn.marks) (gx g) (at i) || b) (no-writer sent (gx g) (at i) quiet) ∙ or-false (is_writer (ms ++ turn.marks) (gx g) (at i)) ∙ o.wrote)
        (prepared-append (ms ++ turn.marks) sent (at i) (gx g) ∙ ap (λ m. prepared_count (ms ++ turn.marks) (at i) (gx g) + m) (no-prepared sent (at i) (gx g) quiet) ∙ plus-none (prepared_count (ms ++ turn.marks) (at i) (gx g)) ∙ o.promises)
        (local-append (ms ++ turn.marks) sent (at i) (gx g) ∙ ap (λ m. local_count (ms ++ turn.marks) (at i) (gx g) + m) (no-local sent (at i) (gx g) quiet) ∙ plus-none (local_count (ms ++ turn.marks) (at i) (gx g)) ∙ o.commits)

    moved : (i g : ℕ) (m : Message) → Said (known_at turn.coord (ms ++ turn.marks) i g) (so_in w i g) m → Said (known_at last (marks_in steps) i g) (so_in next i g) m
    moved i g m q = subst (λ p. Said (known_at last (marks_in steps) i g) (feigned p) m) (sym (same-part i g)) (subst (λ k. Said k (so_in w i g) m) (sym (same-known i g)) q)

    pub turn-feigns : Feigns (after_turn w clock turn steps)
    turn-feigns =
        record {
          pairs = λ i g. subst (λ p. Pair (known_at last (marks_in steps) i g) (feigned p)) (sym (same-part i g)) (subst (λ k. Pair k (so_in w i g)) (sym (same-known i g)) (f.way.stands.pairs i g));
          said = posted-each (SaidSo next) the_coordinator clock turn.marks turn.coord.sent turn.outs w.sent (fol-no-sent script ms turn.marks f.way.fol)
              (each_weaker (SaidOut script (so_in w) turn.coord (ms ++ turn.marks)) _ (λ o h number. subst (λ b. Said (known_at last (marks_in steps) (if b then 0 else o.node.0) (gxid_in o.message)) (so_in next (if b then 0 else o.node.0) (gxid_in o.message)) o.message) (sym h.0) (moved o.node.0 (gxid_in o.message) o.message h.1)) turn.outs f.outs)
              (each_weaker (SaidSo w) (SaidSo next) (λ l h. moved (segment_of l) (gxid_in l.envelope.message) l.envelope.message (f.way.stays (segment_of l) (gxid_in l.envelope.message) l.envelope.message h)) w.sent u.said);
          rows = λ i. subst (λ q. Rows (aborts_in q) (w.segs i)) (sym all) (rows-later ms (coord_sends clock turn).marks (w.segs i) (u.rows i));
        }

  -- what is delivered was said so
  abbrev IsSaidSo : ℕ → Message → Type 0
  IsSaidSo i m = Said (known_at w.coord ms i (gxid_in m)) (so_in w i (gxid_in m)) m

  was-said-so : (from to : Node) (number : ℕ) (envelope : Envelope) → found from to number w.sent ≡ Some envelope → (b : Bool) → is_answer envelope.message ≡ b → IsSaidSo (if b then from.0 else to.0) envelope.message
  was-said-so from to number envelope f b e =
      let d = found_is (SaidSo w) from to number w.sent envelope u.said f in
      subst (λ q. IsSaidSo (if q then from.0 else to.0) envelope.message) e
      (subst (λ (n : Node). IsSaidSo (if is_answer envelope.message then n.0 else to.0) envelope.message) d.source
      (subst (λ (n : Node). IsSaidSo (if is_answer envelope.message then d.letter.from.0 else n.0) envelope.message) d.target
      (subst (λ (q : Envelope). IsSaidSo (if is_answer q.message then d.letter.from.0 else d.letter.to.0) q.message) d.told d.is)))

  module _ (n : Knows script w) where
    abbrev InSo : NodeEvent → Type 0
    InSo x = IsSaidIn script (so_in w) w.coord ms stands-so n.kept n.past (λ g. (n.well.coordinator.works g).writers) x

    said-so : (e : Event) (x : NodeEvent) → IsThere script w e the_coordinator x → InSo x
    said-so e (here.Deliver from envelope) t = was-said-so from the_coordinator t.number envelope t.found true
    said-so e (here.Resume g) t = tt
    said-so e (here.Start s) t = tt
    said-so e (here.End s) t = tt
    said-so e (here.Resend i g) t = tt
    said-so e here.Round t = tt

    pub coord-feigns : (e : Event) (x : NodeEvent) (fails : Bool) → IsThere script w e the_coordinator x → coord_can script w.coord x ≡ true → Feigns (coord_did w e (coord_turn script w.coord x fails))
    coord-feigns e x fails t ok =
        turn-feigns (on_event script w.coord x fails) (clock_after w.coord.clock x) (coord_did w e (coord_turn script w.coord x fails)).steps
        (event-led script (so_in w) w.coord ms stands-so n.kept n.past (λ g. (n.well.coordinator.works g).writers) (going-out script w n) x fails ok (said-so e x t))
        (marks-by-event script w e x fails)

    pub victim-feigns : (g : Gxid) → HasNamed w.steps w.coord.clock w.coord.rounds g → Feigns (and_cancelled w g)
    victim-feigns g h =
        turn-feigns (cancels w.coord g) w.coord.clock (and_cancelled w g).steps
        (cancel-led script (so_in w) w.coord ms stands-so n.kept n.past (λ g. (n.well.coordinator.works g).writers) g) (marks-by-victim w g h)

-- A STEP OF A SEGMENT
module _ (script : Script) (w : World) (n : Knows script w) (v : Holds script w) (u : Feigns w) (e : Event) (x : NodeEvent) (fails : Bool) (i : ℕ) (msg : Message) (reached : HasReached w.steps e i msg) (does : Does msg (known_at w.coord (marks_in w.steps) i (gxid_in msg)) (w.segs i) i (gxid_in msg) (n.well.names i) (is_writer (marks_in w.steps) (gx (gxid_in msg)) (at i)) (prepared_count (marks_in w.steps) (at i) (gx (gxid_in msg))) (local_count (marks_in w.steps) (at i) (gx (gxid_in msg))) (v.stands.pairs i (gxid_in msg)) (segment.on_event script (w.segs i) x fails))
    (Ran : ℕ → Type 0) (did : Did (aborts_in (marks_in w.steps)) ((w.segs i).locals (gxid_in msg)) (gx (gxid_in msg)) Ran (segment.on_event script (w.segs i) x fails))
    (heard : (c : ℕ) → Ran c → IsHeardOf (known_at w.coord (marks_in w.steps) i (gxid_in msg)) c)
    (newer : (c : ℕ) → Ran c → (parts_in w i (gxid_in msg)).last ≡ c → (parts_in w i (gxid_in msg)).waits ≡ false → ⊥)
  where
    abbrev g : ℕ
    g = gxid_in msg

    abbrev seg_turn : SegTurn
    seg_turn = segment.on_event script (w.segs i) x fails

    abbrev knew : ℕ → ℕ → Known
    knew j h = known_at w.coord (marks_in w.steps) j h

    abbrev then_there : World
    then_there = world_then script w n v e x fails i msg reached does

    abbrev now_part : Part
    now_part = part_then script w n v e x fails i msg reached does

    part-here : parts_in then_there i g ≡ now_part
    part-here = here-then script w n v e x fails i msg reached does

    part-there : (j h : ℕ) → (eqb j i && eqb h g) ≡ false → parts_in then_there j h ≡ parts_in w j h
    part-there = there-then script w n v e x fails i msg reached does

    same-knew : (j h : ℕ) → known_at w.coord (marks_in then_there.steps) j h ≡ knew j h
    same-knew = known-then script w n v e x fails i msg reached does

    heard-now : failing now_part ≡ true → IsHeardOf (knew i g) now_part.last
    heard-now f =
        let a = and_parts (has_failed (seg_turn.seg.locals g).answer) (is_open (seg_turn.seg.locals g).phase) f in
        by_way (did.failed a.0 (sym (open-same (seg_turn.seg.locals g).phase) ∙ a.1))
      where
        failed-then : has_failed ((w.segs i).locals g).answer ≡ true → is_open_phase ((w.segs i).locals g).phase ≡ true → failing (parts_in w i g) ≡ true
        failed-then a b = and_from (has_failed ((w.segs i).locals g).answer) (is_open ((w.segs i).locals g).phase) a (open-same ((w.segs i).locals g).phase ∙ b)

        by_way : ((has_failed ((w.segs i).locals g).answer ≡ true) × (is_open_phase ((w.segs i).locals g).phase ≡ true) × ((seg_turn.seg.locals g).last ≡ ((w.segs i).locals g).last)) ⊎ Ran (seg_turn.seg.locals g).last → IsHeardOf (knew i g) now_part.last
        by_way (inl o) = subst (IsHeardOf (knew i g)) (sym o.2) (heard-of (knew i g) (parts_in w i g) (u.pairs i g) (failed-then o.0 o.1))
        by_way (inr r) = heard _ r

    pair-now : Pair (knew i g) (feigned now_part)
    pair-now = feign (knew i g) now_part does.next.pair heard-now

    pair-next : (j h : ℕ) (b : Bool) → (eqb j i && eqb h g) ≡ b → Pair (knew j h) (so_in then_there j h)
    pair-next j h true q =
        let f = and_parts (eqb j i) (eqb h g) q in
        subst (λ a. Pair (knew a h) (so_in then_there a h)) (sym (eqb-true j i f.0)) (subst (λ a. Pair (knew i a) (so_in then_there i a)) (sym (eqb-true h g f.1)) (subst (λ p. Pair (knew i g) (feigned p)) (sym part-here) pair-now))
    pair-next j h false q = subst (λ p. Pair (knew j h) (feigned p)) (sym (part-there j h q)) (u.pairs j h)

    -- an older DONE isn't of the command that has failed
    no-failure : (m : Message) → Said (knew i g) (so_in w i g) m → Said (knew i g) now_part m → IsNoFailure (knew i g) now_part m
    no-failure (message.Answer h (reply.Done c wrote count part)) old real = λ l q. by_test l q (failing now_part) refl
      where
        first : (a b : Bool) → (a || b) ≡ false → a ≡ false
        first true b z = absurd (cc)
        first false b z = refl

        second : (a b : Bool) → (a || b) ≡ false → b ≡ false
        second true b z = absurd (cc)
        second false b z = z

        clash : (l : (knew i g).at ≡ Live) (q : c.0 ≡ (knew i g).last) → failing now_part ≡ true → ⊥
        clash l q f =
            let a = and_parts (has_failed (seg_turn.seg.locals g).answer) (is_open (seg_turn.seg.locals g).phase) f in
            by_way (did.failed a.0 (sym (open-same (seg_turn.seg.locals g).phase) ∙ a.1))
          where
            by_way : ((has_failed ((w.segs i).locals g).answer ≡ true) × (is_open_phase ((w.segs i).locals g).phase ≡ true) × ((seg_turn.seg.locals g).last ≡ ((w.segs i).locals g).last)) ⊎ Ran (seg_turn.seg.locals g).last → ⊥
            by_way (inl o) =
                true-false (failing (parts_in w i g))
                (and_from (has_failed ((w.segs i).locals g).answer) (is_open ((w.segs i).locals g).phase) o.0 (open-same ((w.segs i).locals g).phase ∙ o.1))
                (second (parts_in w i g).waits (failing (parts_in w i g)) (old.same l q).2)
            by_way (inr r) = newer c.0 (subst Ran (real.same l q).0 r) (old.same l q).0 (first (parts_in w i g).waits (failing (parts_in w i g)) (old.same l q).2)

        by_test : (knew i g).at ≡ Live → c.0 ≡ (knew i g).last → (b : Bool) → failing now_part ≡ b → b ≡ false
        by_test l q true f = absurd (clash l q f)
        by_test l q false f = refl
    no-failure (message.Answer h (reply.Failed c z)) old real = tt
    no-failure (message.Answer h reply.Prepared) old real = tt
    no-failure (message.Answer h reply.Committed) old real = tt
    no-failure (message.Answer h reply.Jfault) old real = tt
    no-failure (message.Answer h reply.Again) old real = tt
    no-failure (message.Answer h reply.Restarted) old real = tt
    no-failure (message.Answer h reply.Aborted) old real = tt
    no-failure (message.Answer h reply.Forgotten) old real = tt
    no-failure (message.Exec h c level a b d) old real = tt
    no-failure (message.Prepare h) old real = tt
    no-failure (message.Commit h) old real = tt
    no-failure (message.CommitPrepared h) old real = tt
    no-failure (message.Abort h) old real = tt
    no-failure (message.Forget h) old real = tt
    no-failure (message.Collect round) old real = tt
    no-failure (message.Graph round graph) old real = tt
    no-failure message.Up old real = tt

    said-next : (j h : ℕ) (m : Message) → Said (knew j h) (parts_in w j h) m → Said (knew j h) (so_in w j h) m → (b : Bool) → (eqb j i && eqb h g) ≡ b → Said (knew j h) (so_in then_there j h) m
    said-next j h m was old true q =
        let f = and_parts (eqb j i) (eqb h g) q in
        let one : Said (knew i g) (parts_in w i g) m = subst (λ a. Said (knew i a) (parts_in w i a) m) (eqb-true h g f.1) (subst (λ a. Said (knew a h) (parts_in w a h) m) (eqb-true j i f.0) was) in
        let two : Said (knew i g) (so_in w i g) m = subst (λ a. Said (knew i a) (so_in w i a) m) (eqb-true h g f.1) (subst (λ a. Said (knew a h) (so_in w a h) m) (eqb-true j i f.0) old) in
        let real : Said (knew i g) now_part m = said-grows (knew i g) (parts_in w i g) now_part m does.next.grows does.next.pair one in
        let all : Said (knew i g) (so_in then_there i g) m = subst (λ p. Said (knew i g) (feigned p) m) (sym part-here) (say-feigned (knew i g) now_part m real (no-failure m two real)) in
        subst (λ a. Said (knew a h) (so_in then_there a h) m) (sym (eqb-true j i f.0)) (subst (λ a. Said (knew i a) (so_in then_there i a) m) (sym (eqb-true h g f.1)) all)
    said-next j h m was old false q = subst (λ p. Said (knew j h) (feigned p) m) (sym (part-there j h q)) old

    moved-on : (j h : ℕ) (m : Message) → Said (knew j h) (so_in then_there j h) m → Said (known_at w.coord (marks_in then_there.steps) j h) (so_in then_there j h) m
    moved-on j h m y = subst (λ k. Said k (so_in then_there j h) m) (sym (same-knew j h)) y

    -- a new one tells of what is kept
    told-so : (m : Message) → TellsSo (seg_turn.seg.locals g) m → IsNoFailure (knew i g) now_part m
    told-so (message.Answer h (reply.Done c wrote count part)) t = λ l q. ap (λ b. b && is_open (seg_turn.seg.locals g).phase) t
    told-so (message.Answer h (reply.Failed c z)) t = tt
    told-so (message.Answer h reply.Prepared) t = tt
    told-so (message.Answer h reply.Committed) t = tt
    told-so (message.Answer h reply.Jfault) t = tt
    told-so (message.Answer h reply.Again) t = tt
    told-so (message.Answer h reply.Restarted) t = tt
    told-so (message.Answer h reply.Aborted) t = tt
    told-so (message.Answer h reply.Forgotten) t = tt
    told-so (message.Exec h c level a b d) t = tt
    told-so (message.Prepare h) t = tt
    told-so (message.Commit h) t = tt
    told-so (message.CommitPrepared h) t = tt
    told-so (message.Abort h) t = tt
    told-so (message.Forget h) t = tt
    told-so (message.Collect round) t = tt
    told-so (message.Graph round graph) t = tt
    told-so message.Up t = tt

    each-out : (outs : List Out) → Each (λ (o : Out). Tells (knew i g) now_part i g seg_turn.marks o.message) outs → Each (λ (o : Out). TellsSo (seg_turn.seg.locals g) o.message) outs
        → Each (λ (o : Out). (number : ℕ) → SaidSo then_there (record { from = at i; to = o.node; envelope = record { number = number; clock = clock_after (w.segs i).clock x; incarnation = 1; message = o.message } })) outs
    each-out [] y t = tt
    each-out (o ∷ outs) y t = (
      λ number. let z = told-answer (knew i g) now_part i g seg_turn.marks o.message y.0 in
          subst (λ b. Said (known_at w.coord (marks_in then_there.steps) (if b then i else o.node.0) (gxid_in o.message)) (so_in then_there (if b then i else o.node.0) (gxid_in o.message)) o.message) (sym z.0)
          (subst (λ a. Said (known_at w.coord (marks_in then_there.steps) i a) (so_in then_there i a) o.message) (sym z.1)
          (moved-on i g o.message (subst (λ p. Said (knew i g) (feigned p) o.message) (sym part-here) (say-feigned (knew i g) now_part o.message z.2 (told-so o.message t.0))))),
      each-out outs y.1 t.1,
    )

    pub seg-feigns : Feigns (seg_did w (at i) e (seg_rule script (w.segs i) x fails))
    seg-feigns =
        record {
          pairs = λ j h. subst (λ k. Pair k (so_in then_there j h)) (sym (same-knew j h)) (pair-next j h (eqb j i && eqb h g) refl);
          said = posted-each (SaidSo then_there) (at i) (clock_after (w.segs i).clock x) seg_turn.marks (λ node. seg_turn.seg.sent) seg_turn.outs w.sent (follows-no-sent msg (knew i g) i g seg_turn.marks does.marks)
              (each-out seg_turn.outs does.outs did.outs)
              (each_weaker (λ l. SaidIn w l × SaidSo w l) (SaidSo then_there) (λ l y. moved-on (segment_of l) (gxid_in l.envelope.message) l.envelope.message (said-next (segment_of l) (gxid_in l.envelope.message) l.envelope.message y.0 y.1 (eqb (segment_of l) i && eqb (gxid_in l.envelope.message) g) refl)) w.sent (each-zip (SaidIn w) (SaidSo w) w.sent v.said u.said));
          rows = λ j. subst (λ q. Rows (aborts_in q) (if eqb j i then (seg_rule script (w.segs i) x fails).seg else w.segs j)) (sym (marks-last w.steps step)) (rows-later (marks_in w.steps) step.marks (if eqb j i then (seg_rule script (w.segs i) x fails).seg else w.segs j) (by_node j (eqb j i)));
        }
      where
        step : Step
        step = record { stamp = record { clock = clock_after (w.segs i).clock x; node = at i }; event = e; marks = (seg_rule script (w.segs i) x fails).marks }

        by_node : (j : ℕ) (b : Bool) → Rows (aborts_in (marks_in w.steps)) (if b then (seg_rule script (w.segs i) x fails).seg else w.segs j)
        by_node j true = did.rows
        by_node j false = u.rows j

-- WHAT A SEGMENT HEARS
module _ (script : Script) (w : World) (n : Knows script w) (v : Holds script w) (u : Feigns w) (i : ℕ) where
  abbrev known_here : ℕ → Known
  known_here g = known_at w.coord (marks_in w.steps) i g

  abbrev local_here : ℕ → Local
  local_here g = (w.segs i).locals g

  below : (a b c : ℕ) → nat_lt a b ≡ true → c ≡ b → a ≡ c → ⊥
  below a b c x y z = grind (arith, nat_tests)

  -- what it is told is fresh
  fresh : (m : Message) → (is_answer m ≡ false → Said (known_here (gxid_in m)) (parts_in w i (gxid_in m)) m) → IsFresh (aborts_in (marks_in w.steps)) (local_here (gxid_in m)) m
  fresh (message.Exec g c level x h y) s = λ a new opens. new-fresh (known_here g.0) (parts_in w i g.0) c.0 (u.pairs i g.0) (s refl) new (open-same (local_here g.0).phase ∙ opens) a
  fresh (message.Prepare g) s = λ none a. calm g.0 (order-calm (known_here g.0) (parts_in w i g.0) (Preparing true) (not-live-preparing true) (u.pairs i g.0) ((s refl).1 none) a)
    where
      calm : (h : ℕ) → failing (parts_in w i h) ≡ false → (has_failed (local_here h).answer && is_open_phase (local_here h).phase) ≡ false
      calm h e = ap (λ b. has_failed (local_here h).answer && b) (sym (open-same (local_here h).phase)) ∙ e
  fresh (message.Commit g) s = λ none a. calm g.0 (order-calm (known_here g.0) (parts_in w i g.0) (One true) (not-live-one true) (u.pairs i g.0) (inl (s refl none)) a)
    where
      calm : (h : ℕ) → failing (parts_in w i h) ≡ false → (has_failed (local_here h).answer && is_open_phase (local_here h).phase) ≡ false
      calm h e = ap (λ b. has_failed (local_here h).answer && b) (sym (open-same (local_here h).phase)) ∙ e
  fresh (message.CommitPrepared g) s = tt
  fresh (message.Abort g) s = tt
  fresh (message.Forget g) s = tt
  fresh (message.Collect round) s = tt
  fresh (message.Answer g r) s = tt
  fresh (message.Graph round graph) s = tt
  fresh message.Up s = tt

  heard-by : (m : Message) → (is_answer m ≡ false → Said (known_here (gxid_in m)) (parts_in w i (gxid_in m)) m) → (c : ℕ) → RanBy (local_here (gxid_in m)) m c → IsHeardOf (known_here (gxid_in m)) c
  heard-by (message.Exec g d level x h y) s c r = subst (IsHeardOf (known_here g.0)) (sym r.0) (new-heard (known_here g.0) (parts_in w i g.0) d.0 (s refl) r.1)
  heard-by (message.Prepare g) s c r = absurd r
  heard-by (message.Commit g) s c r = absurd r
  heard-by (message.CommitPrepared g) s c r = absurd r
  heard-by (message.Abort g) s c r = absurd r
  heard-by (message.Forget g) s c r = absurd r
  heard-by (message.Collect round) s c r = absurd r
  heard-by (message.Answer g a) s c r = absurd r
  heard-by (message.Graph round graph) s c r = absurd r
  heard-by message.Up s c r = absurd r

  newer-by : (m : Message) (c : ℕ) → RanBy (local_here (gxid_in m)) m c → (parts_in w i (gxid_in m)).last ≡ c → ⊥
  newer-by (message.Exec g d level x h y) c r e = below (local_here g.0).last d.0 c r.1 r.0 e
  newer-by (message.Prepare g) c r e = r
  newer-by (message.Commit g) c r e = r
  newer-by (message.CommitPrepared g) c r e = r
  newer-by (message.Abort g) c r e = r
  newer-by (message.Forget g) c r e = r
  newer-by (message.Collect round) c r e = r
  newer-by (message.Answer g a) c r e = r
  newer-by (message.Graph round graph) c r e = r
  newer-by message.Up c r e = r

  deliver-feigns : (e : Event) (fails : Bool) (from : Node) (envelope : Envelope) → IsGiven w e i from envelope → Feigns (seg_did w (at i) e (seg_rule script (w.segs i) (here.Deliver from envelope) fails))
  deliver-feigns e fails from envelope d =
      seg-feigns script w n v u e (here.Deliver from envelope) fails i envelope.message (inl d.received) (does-it script w n v e fails i from envelope d.received d.said)
      (RanBy (local_here (gxid_in envelope.message)) envelope.message)
      (message-did (aborts_in (marks_in w.steps)) script (w.segs i) (u.rows i) fails envelope.message (voted (local_here (gxid_in envelope.message)).phase (local_here (gxid_in envelope.message)).vote (v.stands.pairs i (gxid_in envelope.message)).vote) (fresh envelope.message d.said))
      (heard-by envelope.message d.said) (λ c r e z. newer-by envelope.message c r e)

  is-some : {A : Type 0} (o : Option A) (x : A) → o ≡ Some x → is_some o ≡ true
  is-some o x q = cc

  resume-feigns : (e : Event) (fails : Bool) (g : Gxid) → seg_can script (w.segs i) (here.Resume g) ≡ true → Feigns (seg_did w (at i) e (seg_rule script (w.segs i) (here.Resume g) fails))
  resume-feigns e fails g ok =
      seg-feigns script w n v u e (here.Resume g) fails i (message.Exec g o.slice.cid o.slice.level o.slice.snapshot o.waits.horizon o.slice.slice) o.reached o.does
      (λ c. c ≡ y.slice.cid.0)
      (resumed-turn (aborts_in (marks_in w.steps)) script (w.segs i) (u.rows i) g y.slice y.is y.wanted y.lock y.waits.unanswered y.waits.opens y.waits.reads _ (going-ways script w i g y))
      (λ c r. let p = v.stands.pairs i g.0 in record { runs = (p.waits waiting).2; awaited = λ l. let q = p.awaited l waiting in (q.0, r ∙ sym y.waits.last ∙ q.1) })
      (λ c r q z. true-false _ waiting z)
    where
      o : IsResumed script w n v e i g fails
      o = resumed-does script w n v e i g fails ok

      y : GoesOn script w i g
      y = going-on script w n.well i g ok

      waiting : is_some (local_of (w.segs i) g).suspended ≡ true
      waiting = is-some _ y.slice y.is

-- EVERY RUN
module _ (script : Script) (some : 1 ≤ script.segments) where
  new-feigns : Feigns new_world
  new-feigns =
      record { pairs = λ i g. feign _ _ ((moves-sound script some []).holds.stands.pairs i g) (λ f. absurd (cc)); said = tt; rows = λ i h a f. refl }

  heard-feigns : (w : World) → Sound script w → Feigns w → (e : Event) (x : NodeEvent) (fails : Bool) (i : ℕ) → 1 ≤ i → IsThere script w e (at i) x → seg_can script (w.segs i) x ≡ true → Feigns (seg_did w (at i) e (seg_rule script (w.segs i) x fails))
  heard-feigns w k u e x fails i one t ok =
      by-heard script w e i (λ y. Feigns (seg_did w (at i) e (seg_rule script (w.segs i) y fails)))
      (λ from envelope d. deliver-feigns script w k.knows k.holds u i e fails from envelope d)
      (λ g c. resume-feigns script w k.knows k.holds u i e fails g c)
      x (heard-at script w k.holds e x i one t ok)

  pub world-feigns : (es : List (Event × Bool)) → Feigns (world_of script es)
  world-feigns es =
      at-events script some (Sound script) Feigns (moves-sound script some) new-feigns
      (λ w k u e x fails t ok next. coord-feigns script w k.holds u k.knows e x fails t ok)
      (λ w k u g h next. victim-feigns script w k.holds u k.knows g h)
      (λ w k u e x fails i place t ok next. heard-feigns w k u e x fails i place.0 t ok) es
