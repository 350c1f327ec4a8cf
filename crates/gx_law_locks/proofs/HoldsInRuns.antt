-- Over every run of the machine, holds and waits are as marked, granted and begun where they may be, and given back behind the end;
-- and whoever writes at a segment locks itself there.
use Rattle.std.proofs.Common.{◌≡◌, ◌≤◌, ℕ, List, [], ◌∷◌, ◌++◌, Option, Some, None, Bool, true, false, refl, sym, subst, ap, ◌∙◌, arith}
use Rattle.std.proofs.lemmas.Bool.Decides.{nat_tests}
use Rattle.std.proofs.lemmas.Bool.{or_left}
use Rattle.gx_lemmas.proofs.Numbers.{one-le-zero}
use Rattle.gx_lemmas.proofs.Tests.{true-false}
use Rattle.gx_ids.specs.declared.ids.Gxid.{Gxid}
use Rattle.gx_ids.specs.declared.ids.Node.{Node}
use Rattle.gx_ids.specs.declared.ids.Table.{Table}
use Rattle.gx_locks.specs.Locks.{Locks}
use Rattle.gx_msg.specs.declared.message.Envelope.{Envelope}
use Rattle.gx_msg.specs.declared.message.Message.{Message}
use Rattle.gx_msg.specs.declared.message.Message.TheVariants as message
use Rattle.gx_msg.specs.declared.message.Out.{Out}
use Rattle.gx_script.specs.declared.Script.{Script}
use Rattle.gx_store.proofs.Exclusive.{exclusive-behind, granted-front, granted-more, holds_from-append}
use Rattle.gx_store.specs.declared.event.Event.{Event}
use Rattle.gx_store.specs.declared.mark.Mark.{Mark}
use Rattle.gx_store.specs.declared.mark.Mark.TheVariants as mark
use Rattle.gx_store.specs.declared.node.NodeEvent.{NodeEvent}
use Rattle.gx_store.specs.declared.node.NodeEvent.TheVariants as here
use Rattle.gx_store.specs.declared.run.Step.{Step}
use Rattle.gx_store.specs.Journals.{is_same_node}
use Rattle.gx_store.specs.Locks.{AreExclusive, AreGranted}
use Rattle.gx_store.specs.Marks.{is_aborted, is_committed, is_ended}
use Rattle.gx_store.specs.Ordered.{AreOrdered, IsAtNode, IsSegment}
use Rattle.gx_store.specs.Points.{marks_in}
use Rattle.gx_store.specs.Refusals.{the_coordinator}
use Rattle.gx_store.specs.Waits.{holds_at, holds_from, is_held, waits_at, waits_from}
use Rattle.gx_rules.specs.AtCoordinator.{cancel_turn, cancels, coord_can, coord_sends, coord_turn, on_event}
use Rattle.gx_rules.specs.AtSegment.{seg_rule}
use Rattle.gx_rules.specs.AtSegment as segment
use Rattle.gx_rules.specs.Coordinators.{CoordTurn}
use Rattle.gx_rules.specs.Maps.{with_at}
use Rattle.gx_rules.specs.Machine.{World, and_cancelled, coord_did, new_world, seg_did, with_more, world_of}
use Rattle.gx_rules.proofs.Turns.{with_more-last}
use Rattle.gx_rules.specs.Segments.{Seg, SegTurn, Suspended, local_of}
use Rattle.gx_rules.specs.Slices.{own_lock}
use Rattle.gx_rules.specs.Sending.{clock_after, counted, numbered}
use Rattle.gx_law_order.proofs.Lists.{each_append, each_weaker}
use Rattle.gx_law_order.specs.Lists.{Each}
use Rattle.gx_law_order.proofs.Ordered.{apart-back, apart-two, at-both, at_coordinator, seg_marks, sends-at}
use Rattle.gx_law_order.proofs.Sent.{at}
use Rattle.gx_law_order.proofs.Waiting.{GoesOn, goes-on-is, going-on}
use Rattle.gx_law_order.proofs.More.{marks-last}
use Rattle.gx_law_order.proofs.World.{Knows}
use Rattle.gx_law_order.specs.Moves.{Move, world_by}
use Rattle.gx_law_order.proofs.AtCoordinators.{cancel_stays}
use Rattle.gx_law_order.proofs.Induction.{after_turn, marks-by-event, marks-by-victim}
use Rattle.gx_law_order.proofs.Moves.{HasNamed}
use Rattle.gx_law_order.proofs.Everywhere.{Holds, parts_in}
use Rattle.gx_law_order.specs.Said.{Said, gxid_in, is_answer}
use Rattle.gx_law_order.specs.Standings.{known_at}
use Rattle.gx_law_order.proofs.Always.{HeardAt, SaidTo}
use Rattle.gx_law_order.proofs.Steps.{moves-keep, world-keeps}
use Rattle.gx_law_order.proofs.WaitingParts.{awaited}
use Rattle.gx_law_locks.specs.Lasting.{DoHoldsLast}
use Rattle.gx_law_locks.specs.Late.{AreReleasesLate}
use Rattle.gx_law_locks.specs.Marked.{AreLocksMarked, AreWaitsLegal, IsMarked}
use Rattle.gx_law_locks.specs.Own.{DoHoldOwn, DoWritersHold}
use Rattle.gx_law_locks.specs.Waiting.{EachBehind}
use Rattle.gx_law_locks.proofs.HoldsAtCoordinators.{Holding, cancel-locks, event-holds}
use Rattle.gx_law_locks.proofs.AtRows.{AtRows}
use Rattle.gx_law_locks.proofs.HoldsAtSegments.{Bids, IsEndedFor, Turn, message_locks, resume_locks}
use Rattle.gx_law_locks.proofs.Lasting.{IsIn, holds-last, late-front}
use Rattle.gx_law_locks.proofs.Legal.{right-granted, right-waits, waits-more}
use Rattle.gx_law_locks.proofs.Marks.{AreLet, AreRight, Locking, NoLock, Quiet, both, late-append, no-lock, no-lock-quiet, other-holds, other-waits, waits_from-append}
use Rattle.gx_law_locks.proofs.Lets.{LetsWait, behind-append, let-waits}
use Rattle.gx_law_locks.proofs.Moves.{WritesOwn}
use Rattle.gx_law_locks.proofs.Own.{Stands, hold-own, last-there, new-stands, no-own, none-there, old-stands, own-last, own-more, stands-at}
use Rattle.gx_law_locks.proofs.Single.{single-here, single-there}
use Rattle.gx_law_locks.proofs.Tables.{Changes}

pub record Locked (script : Script) (w : World) : Type 0 where
  pub marked : AreLocksMarked w
  pub granted : AreGranted [] (marks_in w.steps)
  pub waits : AreWaitsLegal [] (marks_in w.steps)
  pub late : AreReleasesLate [] (marks_in w.steps)
  pub lets : EachBehind LetsWait [] (marks_in w.steps)
  pub own : DoHoldOwn [] w.steps
  pub writers : Each (Stands w.segs) (marks_in w.steps)
  pub rows : (i : ℕ) → AtRows script (w.segs i) (w.segs i).locks.holds

-- MESSAGES THAT ARE SENT
numbered-plain : (f : ℕ → ℕ) (outs : List Out) → Each NoLock (numbered f outs)
numbered-plain f [] = tt
numbered-plain f (o ∷ outs) = (tt, numbered-plain (counted f o) outs)

pub numbered-quiet : (f : ℕ → ℕ) (outs : List Out) → Each Quiet (numbered f outs)
numbered-quiet f outs = each_weaker NoLock Quiet no-lock-quiet (numbered f outs) (numbered-plain f outs)

with-sent : (node : Node) (before : List Mark) (l : Locks) (ms : List Mark) (k : Locks) (f : ℕ → ℕ) (outs : List Out) → Locking node before l ms k → Locking node before l (ms ++ numbered f outs) k
with-sent node before l ms k f outs e = both node before l ms k (numbered f outs) k e (no-lock node (before ++ ms) k (numbered f outs) (numbered-plain f outs))

-- ONE TURN OF A NODE
-- its marks stand behind all others
module _ (script : Script) (old ms all : List Mark) (same : all ≡ old ++ ms) (here : Node) (at_here : Each (IsAtNode script here) ms) where
  own-marked : (l k : Locks) → IsMarked old here l → Locking here old l ms k → IsMarked all here k
  own-marked l k e f =
      record {
        holds = sym (ap (λ m. holds_at m here) same ∙ holds_from-append here [] old ms ∙ ap (λ h. holds_from here h ms) (sym e.holds) ∙ f.holds);
        waits = sym (ap (λ m. waits_at m here) same ∙ waits_from-append here [] old ms ∙ ap (λ h. waits_from here h ms) (sym e.waits) ∙ f.waits);
      }

  others-marked : (other : Node) (l : Locks) → is_same_node here other ≡ false → IsMarked old other l → IsMarked all other l
  others-marked other l n e =
      record {
        holds = e.holds ∙ sym (ap (λ m. holds_at m other) same ∙ holds_from-append other [] old ms ∙ other-holds script here other (holds_at old other) ms n at_here);
        waits = e.waits ∙ sym (ap (λ m. waits_at m other) same ∙ waits_from-append other [] old ms ∙ other-waits script here other (waits_at old other) ms n at_here);
      }

  right : (l k : Locks) → IsMarked old here l → Locking here old l ms k → AreRight here (holds_at old here) (waits_at old here) ms
  right l k e f = subst (λ h. AreRight here h (waits_at old here) ms) e.holds (subst (λ h. AreRight here l.holds h ms) e.waits f.right)

  still-granted : (l k : Locks) → IsMarked old here l → Locking here old l ms k → AreGranted [] old → AreGranted [] all
  still-granted l k e f before = subst (AreGranted []) (sym same) (granted-more [] old ms before (right-granted script here old ms at_here (right l k e f)))

  still-waits : (l k : Locks) → IsMarked old here l → Locking here old l ms k → AreWaitsLegal [] old → AreWaitsLegal [] all
  still-waits l k e f before = subst (AreWaitsLegal []) (sym same) (waits-more [] old ms before (right-waits script here old ms at_here (right l k e f)))

  still-late : (l k : Locks) → Locking here old l ms k → AreReleasesLate [] old → AreReleasesLate [] all
  still-late l k f before = subst (AreReleasesLate []) (sym same) (late-append [] old ms before f.late)

  still-lets : (l k : Locks) → IsMarked old here l → Locking here old l ms k → EachBehind LetsWait [] old → EachBehind LetsWait [] all
  still-lets l k e f before =
      subst (EachBehind LetsWait []) (sym same) (behind-append LetsWait [] old ms before (let-waits script here old ms at_here (subst (λ waits. AreLet here old waits ms) e.waits f.lets)))

-- whoever writes in a step locks itself
still-own : (script : Script) (steps : List Step) (s : Step) (here : Node) → Each (IsAtNode script here) s.marks → (left : Locks) → IsMarked (marks_in (steps ++ s ∷ [])) here left → Each (WritesOwn left.holds) s.marks → DoHoldOwn [] steps
    → DoHoldOwn [] (steps ++ s ∷ [])
still-own script steps s here at_here left e f old =
    own-last [] steps s old
    (hold-own script here (marks_in steps ++ s.marks) (marks_in steps) s.marks at_here (subst (λ (m : List Mark). Each (WritesOwn (holds_at m here)) s.marks) (marks-last steps s) (subst (λ hs. Each (WritesOwn hs) s.marks) e.holds f)))

-- WHAT A SEGMENT DOES
-- it is bidden to change rows of the table for the transaction, by a message or by a slice that goes on
abbrev pub ChangesOf : Option Suspended → Table → Type 0
ChangesOf None table = ⊥
ChangesOf (Some x) table = Changes x.slice table

abbrev pub BidsAt : World → ℕ → NodeEvent → Gxid → Table → Type 0
BidsAt w i (here.Deliver from envelope) k table = Bids envelope.message k table
BidsAt w i (here.Resume g) k table = (g ≡ k) × ChangesOf (local_of (w.segs i) g).suspended table
BidsAt w i _ k table = ⊥

-- ABORT and FORGET come to a segment behind the end
ended-for : (script : Script) (w : World) → Knows script w → Holds script w → (e : Event) (i : ℕ) (from : Node) (envelope : Envelope) → HeardAt script w e i (here.Deliver from envelope)
    → IsEndedFor (marks_in w.steps) (w.segs i) envelope.message
ended-for script w k v e i from envelope h = by_message envelope.message h.said
  where
    no-slice : (g : Gxid) → is_committed (marks_in w.steps) g ≡ true → (o : Option Suspended) → (local_of (w.segs i) g).suspended ≡ o → (local_of (w.segs i) g).suspended ≡ None
    no-slice g over None is = is
    no-slice g over (Some x) is = absurd (true-false (is_committed (marks_in w.steps) g) over (awaited script w k v i g x is).uncommitted)

    by_message : (m : Message) → (is_answer m ≡ false → Said (known_at w.coord (marks_in w.steps) i (gxid_in m)) (parts_in w i (gxid_in m)) m) → IsEndedFor (marks_in w.steps) (w.segs i) m
    by_message (message.Abort g) f = f refl
    by_message (message.Forget g) f = (or_left (is_committed (marks_in w.steps) g) (is_aborted (marks_in w.steps) g) (f refl), no-slice g (f refl) (local_of (w.segs i) g).suspended refl)
    by_message (message.Exec g c level snapshot h x) f = tt
    by_message (message.Prepare g) f = tt
    by_message (message.Commit g) f = tt
    by_message (message.CommitPrepared g) f = tt
    by_message (message.Collect round) f = tt
    by_message (message.Answer g r) f = tt
    by_message (message.Graph round graph) f = tt
    by_message message.Up f = tt

pub heard-locks : (script : Script) (P : Gxid → Table → Type 0) (w : World) → Knows script w → Holds script w → (e : Event) (i : ℕ) → 1 ≤ i → AtRows script (w.segs i) (w.segs i).locks.holds
    → (x : NodeEvent) (fails : Bool) → HeardAt script w e i x
    → ((g : Gxid) (table : Table) → BidsAt w i x g table → P g table)
    → Turn script P (at i) (marks_in w.steps) (w.segs i) (segment.on_event script (w.segs i) x fails)
heard-locks script P w k v e i one rows x fails h has = by_event x h has
  where
    not-zero : at i ≡ the_coordinator → ⊥
    not-zero z = one-le-zero i one (ap (λ (m : Node). m.0) z)

    by_event : (x : NodeEvent) → HeardAt script w e i x → ((g : Gxid) (table : Table) → BidsAt w i x g table → P g table)
        → Turn script P (at i) (marks_in w.steps) (w.segs i) (segment.on_event script (w.segs i) x fails)
    by_event (here.Deliver from envelope) h has =
        message_locks script P (at i) (marks_in w.steps) (w.segs i) not-zero (k.well.names i) (k.well.writers i) (single-there script w k i) rows fails envelope.message
        (ended-for script w k v e i from envelope h) has
    by_event (here.Resume g) h has =
        subst (Turn script P (at i) (marks_in w.steps) (w.segs i)) (sym (goes-on-is (w.segs i) g d.wanted d.slice d.claims d.is))
        (resume_locks script P (at i) (marks_in w.steps) (w.segs i) not-zero (k.well.names i) (k.well.writers i) (single-there script w k i) rows g d.wanted d.slice d.is d.waits.done d.lock d.free d.claims
        d.waits.opens (λ table b. has g table (refl, subst (λ o. ChangesOf o table) (sym d.is) b)))
      where
        d : GoesOn script w i g
        d = going-on script w k.well i g h
    by_event (here.Start s) h has = absurd h
    by_event (here.End s) h has = absurd h
    by_event (here.Resend j g) h has = absurd h
    by_event here.Round h has = absurd h

-- ALL STEPS
module _ (script : Script) (some : 1 ≤ script.segments) where
  apart : (i : ℕ) → 1 ≤ i → is_same_node the_coordinator (at i) ≡ false
  apart i h = grind (arith, nat_tests)

  -- a single turn of the coordinator, with what it sends
  turn-keeps : (w : World) → Locked script w → (turn : CoordTurn) (clock : ℕ) (steps : List Step) → marks_in steps ≡ marks_in w.steps ++ (coord_sends clock turn).marks → Each (IsAtNode script the_coordinator) (coord_sends clock turn).marks
      → Holding (marks_in w.steps) w.coord turn → DoHoldOwn [] steps → Locked script (after_turn w clock turn steps)
  turn-keeps w q turn clock steps same there holding own =
      record {
        marked = record {
          coordinator = own-marked script (marks_in w.steps) ms (marks_in steps) same the_coordinator there w.coord.locks turn.coord.locks q.marked.coordinator locking;
          segments = λ i one. others-marked script (marks_in w.steps) ms (marks_in steps) same the_coordinator there (at i) (w.segs i).locks (apart i one) (q.marked.segments i one);
        };
        granted = still-granted script (marks_in w.steps) ms (marks_in steps) same the_coordinator there w.coord.locks turn.coord.locks q.marked.coordinator locking q.granted;
        waits = still-waits script (marks_in w.steps) ms (marks_in steps) same the_coordinator there w.coord.locks turn.coord.locks q.marked.coordinator locking q.waits;
        late = still-late script (marks_in w.steps) ms (marks_in steps) same the_coordinator there w.coord.locks turn.coord.locks locking q.late;
        lets = still-lets script (marks_in w.steps) ms (marks_in steps) same the_coordinator there w.coord.locks turn.coord.locks q.marked.coordinator locking q.lets;
        own = own;
        writers = subst (Each (Stands w.segs)) (sym same) (each_append (Stands w.segs) (marks_in w.steps) ms q.writers (none-there script w.segs ms there));
        rows = q.rows;
      }
    where
      ms : List Mark
      ms = (coord_sends clock turn).marks

      locking : Locking the_coordinator (marks_in w.steps) w.coord.locks (coord_sends clock turn).marks turn.coord.locks
      locking = with-sent the_coordinator (marks_in w.steps) w.coord.locks turn.marks turn.coord.locks turn.coord.sent turn.outs holding

  pub coord-keeps : (w : World) → Knows script w → Holds script w → Locked script w → (e : Event) (x : NodeEvent) (fails : Bool) → coord_can script w.coord x ≡ true → SaidTo w x
      → Locked script (coord_did w e (coord_turn script w.coord x fails))
  coord-keeps w k v q e x fails ok said =
      turn-keeps w q (on_event script w.coord x fails) (clock_after w.coord.clock x) (w.steps ++ step ∷ []) (marks-by-event script w e x fails) there (event-holds script (marks_in w.steps) w.coord (single-here script w k) x fails ok)
      (own-last [] w.steps step q.own (no-own script (marks_in w.steps) (marks_in w.steps ++ step.marks) step.marks there))
    where
      step : Step
      step = record { stamp = record { clock = clock_after w.coord.clock x; node = the_coordinator }; event = e; marks = (coord_turn script w.coord x fails).marks }

      there : Each (IsAtNode script the_coordinator) (coord_turn script w.coord x fails).marks
      there = at_coordinator script some w k.well e x fails

  pub cancel-keeps : (w : World) → Knows script w → Holds script w → Locked script w → (g : Gxid) → HasNamed w.steps w.coord.clock w.coord.rounds g → Locked script (and_cancelled w g)
  cancel-keeps w k v q g h =
      turn-keeps w q (cancels w.coord g) w.coord.clock (and_cancelled w g).steps (marks-by-victim w g h) there (cancel-locks (marks_in w.steps) w.coord g)
      (subst (DoHoldOwn []) (sym (ap (λ ss. with_more ss more) h.is ∙ with_more-last h.before h.step more)) (own-more script [] h.before h.step more (subst (DoHoldOwn []) h.is q.own) (each_append (IsAtNode script the_coordinator) h.step.marks more before there)))
    where
      more : List Mark
      more = (cancel_turn w.coord g).marks

      there : Each (IsAtNode script the_coordinator) (cancel_turn w.coord g).marks
      there = sends-at script w.coord.sent (cancels w.coord g) w.coord.clock (cancel_stays script some w.coord g k.well.coordinator)

      before : Each (IsAtNode script the_coordinator) h.step.marks
      before = subst (λ (n : Node). Each (IsAtNode script n) h.step.marks) h.node (last-there script [] h.before h.step (subst (AreOrdered script []) h.is k.well.steps))

  pub seg-keeps : (w : World) → Knows script w → Holds script w → Locked script w → (e : Event) (x : NodeEvent) (fails : Bool) (i : ℕ) → IsSegment script (at i) → HeardAt script w e i x
      → Locked script (seg_did w (at i) e (seg_rule script (w.segs i) x fails))
  seg-keeps w k v q e x fails i place h =
      record {
        marked = record {
          coordinator = others-marked script (marks_in w.steps) step.marks (marks_in (w.steps ++ step ∷ [])) behind (at i) there the_coordinator w.coord.locks (apart-back i place.0) q.marked.coordinator;
          segments = at-both (λ j (t : Seg). 1 ≤ j → IsMarked (marks_in (w.steps ++ step ∷ [])) (at j) t.locks) w.segs i (seg_rule script (w.segs i) x fails).seg (λ one. now)
              (λ j no one. others-marked script (marks_in w.steps) step.marks (marks_in (w.steps ++ step ∷ [])) behind (at i) there (at j) (w.segs j).locks (apart-two i j no) (q.marked.segments j one));
        };
        granted = still-granted script (marks_in w.steps) step.marks (marks_in (w.steps ++ step ∷ [])) behind (at i) there (w.segs i).locks turn.seg.locks (q.marked.segments i place.0) locking q.granted;
        waits = still-waits script (marks_in w.steps) step.marks (marks_in (w.steps ++ step ∷ [])) behind (at i) there (w.segs i).locks turn.seg.locks (q.marked.segments i place.0) locking q.waits;
        late = still-late script (marks_in w.steps) step.marks (marks_in (w.steps ++ step ∷ [])) behind (at i) there (w.segs i).locks turn.seg.locks locking q.late;
        lets = still-lets script (marks_in w.steps) step.marks (marks_in (w.steps ++ step ∷ [])) behind (at i) there (w.segs i).locks turn.seg.locks (q.marked.segments i place.0) locking q.lets;
        own = still-own script w.steps step (at i) there turn.seg.locks now written q.own;
        writers = subst (Each (Stands (with_at w.segs i (seg_rule script (w.segs i) x fails).seg))) (sym (marks-last w.steps step))
            (each_append (Stands (with_at w.segs i (seg_rule script (w.segs i) x fails).seg)) (marks_in w.steps) step.marks
            (old-stands script w.segs i (seg_rule script (w.segs i) x fails).seg made.lasts (marks_in w.steps) q.writers) (new-stands script w.segs i (seg_rule script (w.segs i) x fails).seg step.marks there written));
        rows = at-both (λ j (t : Seg). AtRows script t t.locks.holds) w.segs i (seg_rule script (w.segs i) x fails).seg made.rows (λ j no. q.rows j);
      }
    where
      turn : SegTurn
      turn = segment.on_event script (w.segs i) x fails

      step : Step
      step = record { stamp = record { clock = clock_after (w.segs i).clock x; node = at i }; event = e; marks = (seg_rule script (w.segs i) x fails).marks }

      behind : marks_in (w.steps ++ step ∷ []) ≡ marks_in w.steps ++ step.marks
      behind = marks-last w.steps step

      there : Each (IsAtNode script (at i)) step.marks
      there = seg_marks script w k.well e x fails i place

      made : Turn script (λ g table. Unit {0}) (at i) (marks_in w.steps) (w.segs i) turn
      made = heard-locks script (λ g table. Unit {0}) w k v e i place.0 (q.rows i) x fails h (λ g table b. tt)

      locking : Locking (at i) (marks_in w.steps) (w.segs i).locks step.marks turn.seg.locks
      locking = with-sent (at i) (marks_in w.steps) (w.segs i).locks turn.marks turn.seg.locks (λ node. turn.seg.sent) turn.outs made.locking

      now : IsMarked (marks_in (w.steps ++ step ∷ [])) (at i) turn.seg.locks
      now = own-marked script (marks_in w.steps) step.marks (marks_in (w.steps ++ step ∷ [])) behind (at i) there (w.segs i).locks turn.seg.locks (q.marked.segments i place.0) locking

      sent-written : (f : ℕ → ℕ) (outs : List Out) → Each (WritesOwn turn.seg.locks.holds) (numbered f outs)
      sent-written f [] = tt
      sent-written f (o ∷ outs) = (tt, sent-written (counted f o) outs)

      written : Each (WritesOwn turn.seg.locks.holds) step.marks
      written = each_append (WritesOwn turn.seg.locks.holds) turn.marks (numbered (λ node. turn.seg.sent) turn.outs) made.written (sent-written (λ node. turn.seg.sent) turn.outs)

  pub new-locked : Locked script new_world
  new-locked = record { marked = record { coordinator = record { holds = refl; waits = refl }; segments = λ i one. record { holds = refl; waits = refl } }; granted = tt; waits = tt; late = tt; lets = tt; own = tt; writers = tt; rows = λ i h. tt }

  pub moves-locked : (ms : List Move) → Locked script (world_by script ms)
  moves-locked = moves-keep script some (Locked script) coord-keeps cancel-keeps seg-keeps new-locked

  pub world-locked : (es : List (Event × Bool)) → Locked script (world_of script es)
  world-locked = world-keeps script some (Locked script) coord-keeps cancel-keeps seg-keeps new-locked

  pub world-exclusive : (es : List (Event × Bool)) (before later : List Mark) → marks_in (world_of script es).steps ≡ before ++ later → AreExclusive before
  world-exclusive es before later e = exclusive-behind before (granted-front [] before later (subst (AreGranted []) e (world-locked es).granted))

  pub world-lasting : (es : List (Event × Bool)) (before later : List Mark) → marks_in (world_of script es).steps ≡ before ++ later → DoHoldsLast before
  world-lasting es before later e xs ys node g object mode split lasts f =
      subst (λ m. is_held m node g object mode ≡ true) (sym split)
      (holds-last xs ys node g object mode lasts (subst (AreReleasesLate []) split (late-front [] before later (subst (AreReleasesLate []) e (world-locked es).late))) (subst (λ m. is_ended m g ≡ false) split f))

  pub world-writers : (es : List (Event × Bool)) → DoWritersHold (world_of script es)
  world-writers es earlier later g c node table rid image split lives =
      let q : Locked script (world_of script es) = world-locked es in
      let f : Stands (world_of script es).segs (mark.Write g c node table rid image) = stands-at (world_of script es).segs earlier later (mark.Write g c node table rid image) (subst (Each (Stands (world_of script es).segs)) split q.writers) in
      subst (λ hs. IsIn hs (own_lock g)) (q.marked.segments node.0 f.0).holds (f.1 lives)
