-- Every run of the machine is ordered.
use Rattle.std.proofs.Common.{◌≡◌, ◌≤◌, ◌<◌, inl, inr, ℕ, ◌+◌, List, [], ◌∷◌, ◌++◌, Some, Bool, true, false, refl, sym, subst, ap, ◌∙◌, if◌then◌else◌, ◌&&◌, arith, eqb, length, append-nil}
use Rattle.std.proofs.lemmas.Bool.{eqb-true}
use Rattle.std.proofs.lemmas.Bool.Decides.{nat_tests}
use Rattle.std.proofs.lemmas.List.{append_assoc}
use Rattle.std.proofs.lemmas.List.Elements.{All-cons, All-nil}
use Rattle.std.specs.Prelude.{All, slice_get}
use Rattle.gx_lemmas.proofs.Tests.{and-first}
use Rattle.gx_lemmas.proofs.Options.{some-same}
use Rattle.gx_ids.specs.declared.ids.Node.{Node}
use Rattle.gx_msg.specs.declared.message.Envelope.{Envelope}
use Rattle.gx_msg.specs.declared.message.Out.{Out}
use Rattle.gx_script.specs.declared.Script.{Script}
use Rattle.gx_store.specs.declared.event.Event.{Event}
use Rattle.gx_store.specs.declared.event.Event.TheVariants as event
use Rattle.gx_store.specs.declared.mark.Mark.{Mark}
use Rattle.gx_store.specs.declared.mark.Mark.TheVariants as mark
use Rattle.gx_store.specs.declared.node.NodeEvent.{NodeEvent}
use Rattle.gx_store.specs.declared.node.NodeEvent.TheVariants as here
use Rattle.gx_store.specs.declared.run.Step.{Step}
use Rattle.gx_store.specs.Journals.{is_same_node}
use Rattle.gx_store.specs.Messages.{IsSending}
use Rattle.gx_store.specs.Ordered.{AreNumbered, AreOrdered, IsAtNode, IsDelivery, IsEventAt, IsLink, IsOrderedStep, IsSegment, clock_of, sent_count, sent_in}
use Rattle.gx_store.specs.Refusals.{the_coordinator}
use Rattle.gx_rules.specs.AtCoordinator.{and_cancels, cancel_turn, cancels, coord_can, coord_rule, coord_sends, coord_turn, is_segment, on_event}
use Rattle.gx_rules.specs.AtSegment.{seg_rule}
use Rattle.gx_rules.specs.AtSegment as segment
use Rattle.gx_rules.specs.Coordinators.{Coord, CoordTurn}
use Rattle.gx_rules.specs.Rounds.{victims_at}
use Rattle.gx_rules.specs.Machine.{Letter, World, and_cancelled, coord_did, found, happens, new_world, posted, seg_can, seg_did, with_more, world_of}
use Rattle.gx_rules.specs.Maps.{with_at}
use Rattle.gx_rules.specs.Segments.{Seg, SegTurn}
use Rattle.gx_rules.specs.Sending.{clock_after, counted, heard_in, numbered}
use Rattle.gx_rules.proofs.Turns.{cancels_all-each, with_more-last}
use Rattle.gx_law_order.specs.Moves.{Move, moved, world_by}
use Rattle.gx_law_order.proofs.AtCoordinators.{CoordStays, cancel_stays, coord_stays}
use Rattle.gx_law_order.specs.Places.{CoordIn, OutIn}
use Rattle.gx_law_order.proofs.AtSegments.{PlainAt, SegStays, seg_stays}
use Rattle.gx_law_order.proofs.Clocks.{clock_after-above, clock_after-hears, clock_after-positive, clock_of-other, clock_of-same}
use Rattle.gx_law_order.proofs.Letters.{IsFound, IsLetter, found_is, posted_from, posted_letters}
use Rattle.gx_law_order.proofs.Lists.{each_append, each_weaker}
use Rattle.gx_law_order.specs.Lists.{Each}
use Rattle.gx_law_order.proofs.More.{clock-more, come-more, letter-more, ordered-more, sent-more, sent-other}
use Rattle.gx_law_order.proofs.Moves.{Comes, HasNamed, all-keep, happens-keeps, moved-ways, moves_after, world-moves}
use Rattle.gx_law_order.proofs.Sent.{all-counted, at, count-both, counted-all, numbered-ok, plain-count, plain-numbered, sent_count-append, sent_in-last}
use Rattle.gx_law_order.proofs.Suspended.{AreSuspended, HasCome, IsAmong, among-posted, come-later, come-now, each-both, each-own, suspended-later}
use Rattle.gx_law_order.proofs.Suspensions.{Arrives, event_suspends}
use Rattle.gx_law_order.proofs.OwnLocks.{WritersLock}
use Rattle.gx_law_order.proofs.Writers.{event_locks}
use Rattle.gx_ids.specs.declared.ids.Gxid.{Gxid}

pub record Well (script : Script) (w : World) : Type 0 where
  pub steps : AreOrdered script [] w.steps
  pub coordinator : CoordIn script w.coord
  pub names : (i : ℕ) → (w.segs i).node ≡ at i
  pub clock : clock_of the_coordinator w.steps ≤ w.coord.clock
  pub clocks : (i : ℕ) → 1 ≤ i → clock_of (at i) w.steps ≤ (w.segs i).clock
  pub sent : (i : ℕ) → w.coord.sent i ≡ sent_in the_coordinator (at i) w.steps
  pub answered : (i : ℕ) → 1 ≤ i → (w.segs i).sent ≡ sent_in (at i) the_coordinator w.steps
  pub letters : Each (IsLetter script w.steps) w.sent
  pub waiting : (i : ℕ) → AreSuspended script (HasCome w i) (w.segs i)
  pub writers : (i : ℕ) → WritersLock (w.segs i)

-- one step more
pub ordered-last : (script : Script) (before ss : List Step) (s : Step) → AreOrdered script before ss → IsOrderedStep script (before ++ ss) s → AreOrdered script before (ss ++ s ∷ [])
ordered-last script before [] s e h = (subst (λ x. IsOrderedStep script x s) (append-nil before) h, tt)
ordered-last script before (x ∷ ss) s e h = (e.0, ordered-last script (before ++ x ∷ []) ss s e.1 (subst (λ y. IsOrderedStep script y s) (sym (append_assoc before (x ∷ []) ss)) h))

-- marks
each-all : {A : Type 0} (P : A → Type 0) (xs : List A) → Each P xs → All P xs
each-all P [] e = All-nil P
each-all P (x ∷ xs) e = All-cons P x xs e.0 (each-all P xs e.1)

plain-at : (script : Script) (node : Node) (m : Mark) → PlainAt script node m → IsAtNode script node m
plain-at script node (mark.Sent to number told) e = absurd e
plain-at script node m e = e

numbered-at : (script : Script) (node : Node) (f : ℕ → ℕ) (outs : List Out) → Each (λ o. IsLink script node o.node) outs → Each (IsAtNode script node) (numbered f outs)
numbered-at script node f [] e = tt
numbered-at script node f (o ∷ outs) e = (e.0, numbered-at script node (counted f o) outs e.1)

marks-at : (script : Script) (node : Node) (ms : List Mark) (f : ℕ → ℕ) (outs : List Out) → Each (PlainAt script node) ms → Each (λ o. IsLink script node o.node) outs → Each (IsAtNode script node) (ms ++ numbered f outs)
marks-at script node ms f outs e h = each_append (IsAtNode script node) ms (numbered f outs) (each_weaker (PlainAt script node) (IsAtNode script node) (plain-at script node) ms e) (numbered-at script node f outs h)

-- a single turn of the coordinator, with what it sends
pub sends-at : (script : Script) (sent : ℕ → ℕ) (turn : CoordTurn) (clock : ℕ) → CoordStays script sent turn → Each (IsAtNode script the_coordinator) (coord_sends clock turn).marks
sends-at script sent turn clock kept =
    marks-at script the_coordinator turn.marks turn.coord.sent turn.outs kept.marks (each_weaker (OutIn script.segments) (λ o. IsLink script the_coordinator o.node) (λ o h. inl (refl, h)) turn.outs kept.outs)

-- and all of them
record AreHere (script : Script) (turn : CoordTurn) : Type 0 where
  coord : CoordIn script turn.coord
  marks : Each (IsAtNode script the_coordinator) turn.marks

pub rule-at : (script : Script) → 1 ≤ script.segments → (c : Coord) (x : NodeEvent) (fails : Bool) → CoordIn script c → Each (IsAtNode script the_coordinator) (coord_rule script c x fails).marks
rule-at script some c x fails e = (cancels_all-each (AreHere script) one (victims_at c x) (coord_turn script c x fails) first).marks
  where
    here_so : (sent : ℕ → ℕ) (turn : CoordTurn) (clock : ℕ) → CoordStays script sent turn → AreHere script (coord_sends clock turn)
    here_so sent turn clock k = record { coord = record { table = k.coord.table; works = k.coord.works; reports = k.coord.reports }; marks = sends-at script sent turn clock k }

    first : AreHere script (coord_turn script c x fails)
    first = here_so c.sent (on_event script c x fails) (clock_after c.clock x) (coord_stays script some c x fails e)

    one : (turn : CoordTurn) (g : Gxid) → AreHere script turn → AreHere script (and_cancels turn g)
    one turn g k =
        let next = here_so turn.coord.sent (cancels turn.coord g) turn.coord.clock (cancel_stays script some turn.coord g k.coord) in
        record { coord = next.coord; marks = each_append (IsAtNode script the_coordinator) turn.marks _ k.marks next.marks }

-- nodes apart
apart : (i : ℕ) → 1 ≤ i → is_same_node the_coordinator (at i) ≡ false
apart i h = grind (arith, nat_tests)

pub apart-back : (i : ℕ) → 1 ≤ i → is_same_node (at i) the_coordinator ≡ false
apart-back i h = grind (arith, nat_tests)

pub test-self : (i : ℕ) → is_same_node (at i) (at i) ≡ true
test-self i = grind (arith, nat_tests)

-- what a step adds to the counts
same-adds : (from to : Node) (steps : List Step) (s : Step) → is_same_node s.stamp.node from ≡ true → sent_in from to (steps ++ s ∷ []) ≡ sent_in from to steps + sent_count to s.marks
same-adds from to steps s e = grind (arith, nat_tests, sent_in-last from to steps s)

other-adds : (from to : Node) (steps : List Step) (s : Step) → is_same_node s.stamp.node from ≡ false → sent_in from to (steps ++ s ∷ []) ≡ sent_in from to steps
other-adds from to steps s e = grind (arith, nat_tests, sent_in-last from to steps s)

-- A STEP OF THE COORDINATOR
module _ (script : Script) (some : 1 ≤ script.segments) (w : World) (good : Well script w) (e : Event) (x : NodeEvent) (fails : Bool) where
  abbrev turn : CoordTurn
  turn = on_event script w.coord x fails

  abbrev step : Step
  step = record { stamp = record { clock = clock_after w.coord.clock x; node = the_coordinator }; event = e; marks = (coord_turn script w.coord x fails).marks }

  kept : CoordStays script w.coord.sent turn
  kept = coord_stays script some w.coord x fails good.coordinator

  pub at_coordinator : Each (IsAtNode script the_coordinator) step.marks
  at_coordinator = sends-at script w.coord.sent turn (clock_after w.coord.clock x) kept

  counts : (i : ℕ) → turn.coord.sent i ≡ sent_in the_coordinator (at i) w.steps
  counts i = ap (λ (f : ℕ → ℕ). f i) kept.counts ∙ good.sent i

  numbers : AreNumbered the_coordinator w.steps [] step.marks
  numbers =
      plain-numbered script the_coordinator w.steps [] turn.marks _ kept.marks
      (numbered-ok the_coordinator w.steps (λ i. Unit {0}) turn.outs turn.coord.sent turn.marks
      (λ i q. counts i ∙ plus-none (sent_in the_coordinator (at i) w.steps) _ (plain-count script the_coordinator (at i) turn.marks kept.marks)) (nothing-asked turn.outs))
    where
      plus-none : (a b : ℕ) → b ≡ 0 → a ≡ a + b
      plus-none a b h = omega arith

      nothing-asked : (outs : List Out) → Each (λ o. Unit {0}) outs
      nothing-asked [] = tt
      nothing-asked (o ∷ outs) = (tt, nothing-asked outs)

  is_ordered : IsEventAt script w.steps step e → IsOrderedStep script w.steps step
  is_ordered h =
      record { rising = below good.clock (clock_after-above w.coord.clock x); event = h; marks = each-all (IsAtNode script the_coordinator) step.marks at_coordinator; numbers = numbers }
    where
      below : {a b c : ℕ} → a ≤ b → b < c → a < c
      below h k = omega arith

  pub coord_well : IsEventAt script w.steps step e → Well script (coord_did w e (coord_turn script w.coord x fails))
  coord_well h =
      record {
        steps = ordered-last script [] w.steps step good.steps (is_ordered h);
        coordinator = record { table = kept.coord.table; works = kept.coord.works; reports = kept.coord.reports };
        names = good.names;
        clock = same-le (clock_of-same the_coordinator w.steps step refl (clock_after-positive w.coord.clock x));
        clocks = λ i k. subst (λ c. c ≤ (w.segs i).clock) (sym (clock_of-other (at i) w.steps step (apart i k))) (good.clocks i k);
        sent = λ i. counted-all turn.coord.sent turn.outs i ∙ ap (λ a. a + sent_count (at i) (numbered turn.coord.sent turn.outs)) (counts i)
            ∙ sym (same-adds the_coordinator (at i) w.steps step refl ∙ ap (λ a. sent_in the_coordinator (at i) w.steps + a) (count-both script the_coordinator (at i) turn.marks _ kept.marks));
        answered = λ i k. good.answered i k ∙ sym (other-adds (at i) the_coordinator w.steps step (apart i k));
        letters = posted_letters script w.steps step w.sent at_coordinator good.letters;
        waiting = λ i. suspended-later script (HasCome w i) (HasCome next i) (w.segs i) (λ m. come-later w next i step m refl (among-posted the_coordinator step.stamp.clock step.marks w.sent)) (good.waiting i);
        writers = good.writers;
      }
    where
      next : World
      next = coord_did w e (coord_turn script w.coord x fails)

      same-le : {a b : ℕ} → a ≡ b → a ≤ b
      same-le h = omega arith

-- A VICTIM
module _ (script : Script) (some : 1 ≤ script.segments) (w : World) (good : Well script w) (g : Gxid) (h : HasNamed w.steps w.coord.clock w.coord.rounds g) where
  abbrev victim : CoordTurn
  victim = cancels w.coord g

  abbrev more : List Mark
  more = (cancel_turn w.coord g).marks

  abbrev last : Step
  last = record h.step { marks = h.step.marks ++ more }

  left : CoordStays script w.coord.sent victim
  left = cancel_stays script some w.coord g good.coordinator

  victim_marks : Each (IsAtNode script the_coordinator) more
  victim_marks = sends-at script w.coord.sent victim w.coord.clock left

  own : is_same_node h.step.stamp.node the_coordinator ≡ true
  own = subst (λ n. is_same_node n the_coordinator ≡ true) (sym h.node) refl

  apart_here : (i : ℕ) → 1 ≤ i → is_same_node h.step.stamp.node (at i) ≡ false
  apart_here i k = subst (λ n. is_same_node n (at i) ≡ false) (sym h.node) (apart i k)

  sent_so_far : (i : ℕ) → victim.coord.sent i ≡ sent_in the_coordinator (at i) w.steps
  sent_so_far i = ap (λ (f : ℕ → ℕ). f i) left.counts ∙ good.sent i

  victim_numbers : AreNumbered the_coordinator h.before h.step.marks more
  victim_numbers =
      plain-numbered script the_coordinator h.before h.step.marks victim.marks _ left.marks
      (numbered-ok the_coordinator h.before (λ i. Unit {0}) victim.outs victim.coord.sent (h.step.marks ++ victim.marks) (λ i q. counted i) (nothing_asked victim.outs))
    where
      nothing_asked : (outs : List Out) → Each (λ o. Unit {0}) outs
      nothing_asked [] = tt
      nothing_asked (o ∷ outs) = (tt, nothing_asked outs)

      with_none : (a b c : ℕ) {x y : ℕ} → x ≡ y → y ≡ a + b → c ≡ 0 → x ≡ a + (b + c)
      with_none a b c e f k = omega arith

      counted : (i : ℕ) → victim.coord.sent i ≡ sent_in the_coordinator (at i) h.before + sent_count (at i) (h.step.marks ++ victim.marks)
      counted i =
          with_none (sent_in the_coordinator (at i) h.before) (sent_count (at i) h.step.marks) (sent_count (at i) victim.marks) (sent_so_far i)
          (ap (sent_in the_coordinator (at i)) h.is ∙ same-adds the_coordinator (at i) h.before h.step own) (plain-count script the_coordinator (at i) victim.marks left.marks)
          ∙ ap (λ a. sent_in the_coordinator (at i) h.before + a) (sym (sent_count-append (at i) h.step.marks victim.marks))

  abbrev after_victim : World
  after_victim = and_cancelled w g

  steps_now : with_more w.steps more ≡ h.before ++ last ∷ []
  steps_now = ap (λ ss. with_more ss more) h.is ∙ with_more-last h.before h.step more

  victim_letters : Each (IsLetter script (with_more w.steps more)) (posted the_coordinator w.coord.clock more w.sent)
  victim_letters =
      subst (λ ss. Each (IsLetter script ss) (posted the_coordinator w.coord.clock more w.sent)) (sym steps_now)
      (subst (λ n. Each (IsLetter script (h.before ++ last ∷ [])) (posted n w.coord.clock more w.sent)) h.node
      (subst (λ c. Each (IsLetter script (h.before ++ last ∷ [])) (posted h.step.stamp.node c more w.sent)) h.clock_is
      (posted_from script h.before last h.step.marks more w.sent refl (subst (λ n. Each (IsAtNode script n) more) (sym h.node) victim_marks)
      (subst (λ ss. Each (IsLetter script ss) w.sent) steps_now (each_weaker (IsLetter script w.steps) (IsLetter script (with_more w.steps more)) (letter-more script w.steps more) w.sent good.letters)))))

  pub cancel_well : Well script after_victim
  cancel_well =
      record {
        steps = subst (AreOrdered script []) (sym steps_now)
            (ordered-more script [] h.before h.step more (subst (AreOrdered script []) h.is good.steps) (each-all (IsAtNode script h.step.stamp.node) more (subst (λ n. Each (IsAtNode script n) more) (sym h.node) victim_marks))
            (subst (λ n. AreNumbered n h.before h.step.marks more) (sym h.node) victim_numbers));
        coordinator = record { table = left.coord.table; works = left.coord.works; reports = left.coord.reports };
        names = good.names;
        clock = subst (λ c. c ≤ w.coord.clock) (sym (clock-more the_coordinator w.steps more)) good.clock;
        clocks = λ i k. subst (λ c. c ≤ (w.segs i).clock) (sym (clock-more (at i) w.steps more)) (good.clocks i k);
        sent = λ i. counted-all victim.coord.sent victim.outs i ∙ ap (λ a. a + sent_count (at i) (numbered victim.coord.sent victim.outs)) (sent_so_far i)
            ∙ sym (sent-more the_coordinator (at i) w.steps h.before h.step more h.is own ∙ ap (λ a. sent_in the_coordinator (at i) w.steps + a) (count-both script the_coordinator (at i) victim.marks _ left.marks));
        answered = λ i k. good.answered i k ∙ sym (sent-other (at i) the_coordinator w.steps h.before h.step more h.is (apart_here i k));
        letters = victim_letters;
        waiting = λ i. suspended-later script (HasCome w i) (HasCome after_victim i) (w.segs i) (λ m. come-more w after_victim i more m refl (among-posted the_coordinator w.coord.clock more w.sent)) (good.waiting i);
        writers = good.writers;
      }

-- A STEP OF A SEGMENT
pub at-both : {A : Type 0} (P : ℕ → A → Type 0) (f : ℕ → A) (i : ℕ) (x : A) → P i x → ((j : ℕ) → (j ≡ i → ⊥) → P j (f j)) → (j : ℕ) → P j (with_at f i x j)
at-both P f i x here elsewhere j = by_test (eqb j i) refl
  where
    by_test : (b : Bool) → eqb j i ≡ b → P j (if b then x else f j)
    by_test true e = subst (λ k. P k x) (sym (eqb-true j i e)) here
    by_test false e = elsewhere j (λ same. no_same j i e same)
      where
        no_same : (j i : ℕ) → eqb j i ≡ false → j ≡ i → ⊥
        no_same j i e same = grind (arith, nat_tests)

pub apart-two : (i j : ℕ) → (j ≡ i → ⊥) → is_same_node (at i) (at j) ≡ false
apart-two i j h = grind (arith, nat_tests)

module _ (script : Script) (w : World) (good : Well script w) (e : Event) (x : NodeEvent) (fails : Bool) (i : ℕ) (place : IsSegment script (at i)) where
  abbrev s : Seg
  s = w.segs i

  abbrev seg_turn : SegTurn
  seg_turn = segment.on_event script s x fails

  abbrev seg_step : Step
  seg_step = record { stamp = record { clock = clock_after s.clock x; node = at i }; event = e; marks = (seg_rule script s x fails).marks }

  seg_kept : SegStays script s seg_turn
  seg_kept = seg_stays script s (subst (IsSegment script) (sym (good.names i)) place) x fails

  plain_here : Each (PlainAt script (at i)) seg_turn.marks
  plain_here = subst (λ n. Each (PlainAt script n) seg_turn.marks) (good.names i) seg_kept.marks

  seg_links : Each (λ o. IsLink script (at i) o.node) seg_turn.outs
  seg_links = each_weaker (λ (o : Out). o.node ≡ the_coordinator) (λ o. IsLink script (at i) o.node) (λ o h. inr (place, h)) seg_turn.outs seg_kept.outs

  pub seg_marks : Each (IsAtNode script (at i)) seg_step.marks
  seg_marks = marks-at script (at i) seg_turn.marks (λ node. seg_turn.seg.sent) seg_turn.outs plain_here seg_links

  seg_counts : seg_turn.seg.sent ≡ sent_in (at i) the_coordinator w.steps
  seg_counts = seg_kept.sent ∙ good.answered i place.0

  seg_numbers : AreNumbered (at i) w.steps [] seg_step.marks
  seg_numbers =
      plain-numbered script (at i) w.steps [] seg_turn.marks _ plain_here
      (numbered-ok (at i) w.steps (λ j. j ≡ 0) seg_turn.outs (λ node. seg_turn.seg.sent) seg_turn.marks
      (λ j q. subst (λ k. seg_turn.seg.sent ≡ sent_in (at i) (at k) w.steps + sent_count (at k) seg_turn.marks) (sym q)
      (seg_counts ∙ plus-none (sent_in (at i) the_coordinator w.steps) _ (plain-count script (at i) the_coordinator seg_turn.marks plain_here)))
      (each_weaker (λ (o : Out). o.node ≡ the_coordinator) (λ o. o.node.0 ≡ 0) (λ o h. ap (λ (n : Node). n.0) h) seg_turn.outs seg_kept.outs))
    where
      plus-none : (a b : ℕ) → b ≡ 0 → a ≡ a + b
      plus-none a b h = omega arith

  seg_ordered : IsEventAt script w.steps seg_step e → IsOrderedStep script w.steps seg_step
  seg_ordered h =
      record { rising = below (good.clocks i place.0) (clock_after-above s.clock x); event = h; marks = each-all (IsAtNode script (at i)) seg_step.marks seg_marks; numbers = seg_numbers }
    where
      below : {a b c : ℕ} → a ≤ b → b < c → a < c
      below h k = omega arith

  seg_new_count : seg_turn.seg.sent + length seg_turn.outs ≡ sent_in (at i) the_coordinator (w.steps ++ seg_step ∷ [])
  seg_new_count =
      ap (λ a. a + length seg_turn.outs) seg_counts ∙ ap (λ a. sent_in (at i) the_coordinator w.steps + a) (sym (all-counted (λ node. seg_turn.seg.sent) seg_turn.outs seg_kept.outs))
      ∙ sym (same-adds (at i) the_coordinator w.steps seg_step (test-self i) ∙ ap (λ a. sent_in (at i) the_coordinator w.steps + a) (count-both script (at i) the_coordinator seg_turn.marks _ plain_here))

  abbrev seg_next : World
  seg_next = seg_did w (at i) e (seg_rule script s x fails)

  -- what was sent stays sent, and what has come has come
  seg_more : (l : Letter) → IsAmong l w.sent → IsAmong l seg_next.sent
  seg_more = among-posted (at i) seg_step.stamp.clock seg_step.marks w.sent

  seg_comes : (from : Node) (number : ℕ) (envelope : Envelope) → e ≡ event.Receive from (at i) number → IsFound (λ l. IsLetter script w.steps l × IsAmong l w.sent) from (at i) number envelope → HasCome seg_next i envelope.message
  seg_comes from number envelope is sent = come-now script w seg_next i place.0 seg_step from number envelope refl seg_more refl is sent

  waiting_later : (j : ℕ) → AreSuspended script (HasCome seg_next j) (w.segs j)
  waiting_later j = suspended-later script (HasCome w j) (HasCome seg_next j) (w.segs j) (λ m. come-later w seg_next j seg_step m refl seg_more) (good.waiting j)

  seg_waiting : Arrives (HasCome seg_next i) x → AreSuspended script (HasCome seg_next i) seg_turn.seg
  seg_waiting = event_suspends script (HasCome seg_next i) s (waiting_later i) x fails

  seg_writers : WritersLock seg_turn.seg
  seg_writers = event_locks script (HasCome w i) s (good.waiting i) (good.writers i) x fails

  pub seg_well : IsEventAt script w.steps seg_step e → Arrives (HasCome seg_next i) x → Well script seg_next
  seg_well h come =
      record {
        steps = ordered-last script [] w.steps seg_step good.steps (seg_ordered h);
        coordinator = good.coordinator;
        names = at-both (λ j (t : Seg). t.node ≡ at j) w.segs i _ (seg_kept.node ∙ good.names i) (λ j no. good.names j);
        clock = subst (λ c. c ≤ w.coord.clock) (sym (clock_of-other the_coordinator w.steps seg_step (apart-back i place.0))) good.clock;
        clocks = at-both (λ j (t : Seg). 1 ≤ j → clock_of (at j) (w.steps ++ seg_step ∷ []) ≤ t.clock) w.segs i _
            (λ k. same-le (clock_of-same (at i) w.steps seg_step (test-self i) (clock_after-positive s.clock x)))
            (λ j no k. subst (λ c. c ≤ (w.segs j).clock) (sym (clock_of-other (at j) w.steps seg_step (apart-two i j no))) (good.clocks j k));
        sent = λ j. good.sent j ∙ sym (other-adds the_coordinator (at j) w.steps seg_step (apart-back i place.0));
        answered = at-both (λ j (t : Seg). 1 ≤ j → t.sent ≡ sent_in (at j) the_coordinator (w.steps ++ seg_step ∷ [])) w.segs i _
            (λ k. seg_new_count)
            (λ j no k. good.answered j k ∙ sym (other-adds (at j) the_coordinator w.steps seg_step (apart-two i j no)));
        letters = posted_letters script w.steps seg_step w.sent seg_marks good.letters;
        waiting = at-both (λ j t. AreSuspended script (HasCome seg_next j) t) w.segs i _ (record { each = (seg_waiting come).each; own = (seg_waiting come).own }) (λ j no. waiting_later j);
        writers = at-both (λ j t. WritersLock t) w.segs i _ (record { owns = seg_writers.owns; each = seg_writers.each; awaited = seg_writers.awaited }) (λ j no. good.writers j);
      }
    where
      same-le : {a b : ℕ} → a ≡ b → a ≤ b
      same-le h = omega arith

-- ALL EVENTS
delivery-ok : (script : Script) (w : World) → Well script w → (from to : Node) (number : ℕ) (envelope : Envelope) (clock : ℕ) → IsFound (IsLetter script w.steps) from to number envelope → envelope.clock < clock → IsDelivery script w.steps clock from to number
delivery-ok script w good from to number envelope clock f h =
    let sending : IsSending w.steps f.is.step f.is.mark from to number f.letter.envelope.message =
    subst (λ a. IsSending w.steps f.is.step f.is.mark a to number f.letter.envelope.message) f.source
    (subst (λ a. IsSending w.steps f.is.step f.is.mark f.letter.from a number f.letter.envelope.message) f.target
    (subst (λ a. IsSending w.steps f.is.step f.is.mark f.letter.from f.letter.to a f.letter.envelope.message) f.counted f.is.sending)) in
    record {
      link = subst (λ a. IsLink script a to) f.source (subst (λ a. IsLink script f.letter.from a) f.target f.is.link);
      told = f.letter.envelope.message;
      at = f.is.step;
      place = f.is.mark;
      sending = sending;
      later = λ sender k. earlier sender (same_sender sender k);
    }
  where
    same_sender : (sender : Step) → slice_get w.steps f.is.step ≡ Some sender → sender.stamp.clock ≡ envelope.clock
    same_sender sender k = ap (λ (a : Step). a.stamp.clock) (some-same sender f.is.sending.sender (sym k ∙ f.is.sending.at)) ∙ f.is.clock ∙ ap (λ (a : Envelope). a.clock) f.told

    earlier : (sender : Step) → sender.stamp.clock ≡ envelope.clock → sender.stamp.clock < clock
    earlier sender same = under sender.stamp.clock envelope.clock clock same h
      where
        under : (a b c : ℕ) → a ≡ b → b < c → a < c
        under a b c e h = omega arith

-- who resumes at a segment does so at one of the script's
pub resumes_there : (script : Script) (w : World) (n : Node) (g : Gxid) → Well script w → seg_can script (w.segs n.0) (here.Resume g) ≡ true → IsSegment script n
resumes_there script w n g good ok = inside (w.segs n.0).node (good.names n.0) _ ok
  where
    inside : (m : Node) → m ≡ at n.0 → (c : Bool) → (is_segment script m && c) ≡ true → IsSegment script n
    inside m same c e = subst (IsSegment script) same (placed m (and-first (is_segment script m) c e))
      where
        placed : (m : Node) → is_segment script m ≡ true → IsSegment script m
        placed m e = (grind (arith, nat_tests), grind (arith, nat_tests))

-- what a receipt delivers was sent on its link
pub delivered-is : (script : Script) (w : World) → Well script w → (from to : Node) (number : ℕ) (envelope : Envelope) → found from to number w.sent ≡ Some envelope → IsFound (λ l. IsLetter script w.steps l × IsAmong l w.sent) from to number envelope
delivered-is script w good from to number envelope f =
    found_is (λ l. IsLetter script w.steps l × IsAmong l w.sent) from to number w.sent envelope (each-both (IsLetter script w.steps) (λ l. IsAmong l w.sent) w.sent good.letters (each-own w.sent)) f

-- so whoever takes it at another node than the coordinator is a segment, and has it from the coordinator
pub link-there : (script : Script) (w : World) → Well script w → (from to : Node) (number : ℕ) (envelope : Envelope) → found from to number w.sent ≡ Some envelope → is_same_node to the_coordinator ≡ false → (from ≡ the_coordinator) × IsSegment script to
link-there script w good from to number envelope f away = by_link d.is.0.link
  where
    d : IsFound (λ l. IsLetter script w.steps l × IsAmong l w.sent) from to number envelope
    d = delivered-is script w good from to number envelope f

    not-here : (n : Node) → n ≡ the_coordinator → is_same_node n the_coordinator ≡ false → ⊥
    not-here n same away = grind (arith, nat_tests)

    by_link : IsLink script d.letter.from d.letter.to → (from ≡ the_coordinator) × IsSegment script to
    by_link (inl l) = (sym d.source ∙ l.0, subst (IsSegment script) d.target l.1)
    by_link (inr l) = absurd (not-here to (sym d.target ∙ l.1) away)

-- the event of a step stands at its node
event-at : (script : Script) (w : World) (good : Well script w) (e : Event) (x : NodeEvent) (s : Step) → s.stamp.node ≡ the_coordinator → heard_in x < s.stamp.clock → Comes w e the_coordinator x → IsEventAt script w.steps s e
event-at script w good e (here.Deliver from envelope) s at_node later c = subst (IsEventAt script w.steps s) (sym c.1) (at_node, delivery-ok script w good from the_coordinator c.0 envelope s.stamp.clock (found_is (IsLetter script w.steps) from the_coordinator c.0 w.sent envelope good.letters c.2) later)
event-at script w good e (here.Resume g) s at_node later c = subst (IsEventAt script w.steps s) (sym c) at_node
event-at script w good e (here.Start x) s at_node later c = subst (IsEventAt script w.steps s) (sym c) at_node
event-at script w good e (here.End x) s at_node later c = subst (IsEventAt script w.steps s) (sym c) at_node
event-at script w good e (here.Resend i g) s at_node later c = subst (IsEventAt script w.steps s) (sym c) at_node
event-at script w good e here.Round s at_node later c = subst (IsEventAt script w.steps s) (sym c) at_node

module _ (script : Script) (some : 1 ≤ script.segments) where
  turn_well : (w : World) (e : Event) (x : NodeEvent) (fails : Bool) → Well script w → Comes w e the_coordinator x → coord_can script w.coord x ≡ true → Well script (coord_did w e (coord_turn script w.coord x fails))
  turn_well w e x fails good c ok = coord_well script some w good e x fails (event-at script w good e x (step script some w good e x fails) refl (clock_after-hears w.coord.clock x) c)

  serve_well : (w : World) (e : Event) (x : NodeEvent) (fails : Bool) (n : Node) → Well script w → is_same_node n the_coordinator ≡ false → Comes w e n x → seg_can script (w.segs n.0) x ≡ true → Well script (seg_did w n e (seg_rule script (w.segs n.0) x fails))
  serve_well w e (here.Deliver from envelope) fails n good away c ok =
      let x : NodeEvent = here.Deliver from envelope in
      let place = (link-there script w good from n c.0 envelope c.2 away).1 in
      let d = delivered-is script w good from n c.0 envelope c.2 in
      let letter = found_is (IsLetter script w.steps) from n c.0 w.sent envelope good.letters c.2 in
      seg_well script w good e x fails n.0 place
      (subst (IsEventAt script w.steps (seg_step script w good e x fails n.0 place)) (sym c.1) (refl, delivery-ok script w good from n c.0 envelope _ letter (clock_after-hears (w.segs n.0).clock x)))
      (seg_comes script w good e x fails n.0 place from c.0 envelope c.1 d)
  serve_well w e (here.Resume g) fails n good away c ok =
      let place = resumes_there script w n g good ok in
      seg_well script w good e (here.Resume g) fails n.0 place (subst (IsEventAt script w.steps (seg_step script w good e (here.Resume g) fails n.0 place)) (sym c) refl) tt
  serve_well w e (here.Start s) fails n good away c ok = absurd (cc)
  serve_well w e (here.End s) fails n good away c ok = absurd (cc)
  serve_well w e (here.Resend i g) fails n good away c ok = absurd (cc)
  serve_well w e here.Round fails n good away c ok = absurd (cc)

  moved_well : (m : Move) (w : World) → Well script w → Well script (moved script w m)
  moved_well m w good =
      moved-ways script w (λ move v. Well script v) (λ move. good) (λ e x fails c ok. turn_well w e x fails good c ok) (λ g h. cancel_well script some w good g h)
      (λ e x fails n away c ok. serve_well w e x fails n good away c ok) m

  pub happens_well : (w : World) (e : Event) (fails : Bool) → Well script w → Well script (happens script w e fails)
  happens_well = happens-keeps script (Well script) moved_well

  pub new_well : Well script new_world
  new_well =
      record {
        steps = tt;
        coordinator = record { table = tt; works = λ g. record { writers = tt; command = tt }; reports = tt };
        names = λ i. refl;
        clock = least 0;
        clocks = λ i h. least 0;
        sent = λ i. refl;
        answered = λ i h. refl;
        letters = tt;
        waiting = λ i. record { each = λ h x none. absurd (cc); own = λ h. refl };
        writers = λ i. record { owns = tt; each = λ h. record { says = refl; holds = refl }; awaited = tt };
      }
    where
      least : (k : ℕ) → 0 ≤ k
      least k = omega arith

  pub moves_well : (ms : List Move) → Well script (world_by script ms)
  moves_well ms = all-keep script (Well script) moved_well ms new_world new_well

  pub world_well : (es : List (Event × Bool)) → Well script (world_of script es)
  world_well es = subst (Well script) (sym (world-moves script es)) (moves_well (moves_after script new_world es))
