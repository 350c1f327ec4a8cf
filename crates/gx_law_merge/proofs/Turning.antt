-- A turn of a node's rule on what the run so far tells is the machine's next step, and what it leaves there.
use Rattle.std.proofs.Common.{◌≡◌, ◌≤◌, ◌<◌, ℕ, List, [], ◌∷◌, ◌++◌, Option, Some, None, Bool, refl, sym, subst, ap, ◌∙◌}
use Rattle.gx_lemmas.proofs.Options.{some-same}
use Rattle.gx_ids.specs.declared.ids.Node.{Node}
use Rattle.gx_msg.specs.declared.message.Envelope.{Envelope}
use Rattle.gx_script.specs.declared.Script.{Script}
use Rattle.gx_store.specs.declared.event.Event.{Event}
use Rattle.gx_store.specs.declared.event.Event.TheVariants as event
use Rattle.gx_store.specs.declared.node.NodeEvent.{NodeEvent}
use Rattle.gx_store.specs.declared.node.NodeEvent.TheVariants as node
use Rattle.gx_store.specs.declared.run.Step.{Step}
use Rattle.gx_store.specs.Refusals.{the_coordinator}
use Rattle.gx_rules.specs.AtCoordinator.{coord_rule, coord_turn}
use Rattle.gx_rules.specs.AtSegment.{seg_rule}
use Rattle.gx_rules.specs.Coordinators.{Coord, CoordTurn}
use Rattle.gx_rules.specs.Machine.{delivered, found}
use Rattle.gx_rules.specs.Rounds.{victims_at}
use Rattle.gx_rules.specs.Segments.{Seg, SegTurn}
use Rattle.gx_rules.specs.Sending.{clock_after, heard_in}
use Rattle.gx_rules.proofs.Turns.{cancels_all-each}
use Rattle.gx_law_order.proofs.Clocks.{clock_after-hears}
use Rattle.gx_law_runs.specs.Replays.{IsNextAtCoordinator, IsNextAtSegment, coordinator_after, has_failed, here_at, letters_after, segment_after}
use Rattle.gx_law_runs.proofs.Failing.{coordinator-tells, segment-tells}
use Rattle.gx_law_runs.proofs.Moving.{coordinator-moved, segment-moved}
use Rattle.gx_law_merge.specs.Apart.{IsTurn, Post, coordinators_rule, event_in, here_in, holds_by, segments_rule}

-- CLOCKS
rules-clock : (script : Script) (c : Coord) (x : NodeEvent) (fails : Bool) → (coord_rule script c x fails).coord.clock ≡ clock_after c.clock x
rules-clock script c x fails = cancels_all-each (λ (t : CoordTurn). t.coord.clock ≡ clock_after c.clock x) (λ turn g e. e) (victims_at c x) (coord_turn script c x fails) refl

-- a turn hears what it takes
pub coordinator-hears : (script : Script) (c : Coord) (at : Node) (o : Option NodeEvent) (s : Step) (t : IsTurn (coordinators_rule script) at c o s) → heard_in t.here < s.stamp.clock
coordinator-hears script c at o s t = subst (λ n. heard_in t.here < n) (sym (t.clock ∙ rules-clock script c t.here t.fails)) (clock_after-hears c.clock t.here)

pub segment-hears : (script : Script) (seg : Seg) (at : Node) (o : Option NodeEvent) (s : Step) (t : IsTurn (segments_rule script) at seg o s) → heard_in t.here < s.stamp.clock
segment-hears script seg at o s t = subst (λ n. heard_in t.here < n) (sym t.clock) (clock_after-hears seg.clock t.here)

-- WHAT A STEP IS AT ITS NODE
-- the run so far has at each place what the links have, of what was sent before this clock
abbrev pub IsFoundBelow : ℕ → Post → List Step → Type 0
IsFoundBelow clock post before =
    (from to : Node) (place : ℕ) (e : Envelope) → post from to place ≡ Some e → e.clock < clock → found from to place (letters_after before) ≡ Some e

module _ (post : Post) (before : List Step) (clock : ℕ) (below : IsFoundBelow clock post before) where
  same-receipt : (from to : Node) (place : ℕ) (o : Option Envelope) (x : NodeEvent) → post from to place ≡ o → delivered from o ≡ Some x → heard_in x < clock → delivered from (found from to place (letters_after before)) ≡ Some x
  same-receipt from to place None x is at low = absurd (cc)
  same-receipt from to place (Some e) x is at low =
      ap (delivered from) (below from to place e is (subst (λ y. heard_in y < clock) (sym (some-same (node.Deliver from e) x at)) low)) ∙ at

  pub same-event : (e : Event) (x : NodeEvent) → event_in post e ≡ Some x → heard_in x < clock → here_at before e ≡ Some x
  same-event (event.Receive from to place) x at low = same-receipt from to place (post from to place) x refl at low
  same-event (event.Resume n g) x at low = at
  same-event (event.Start s) x at low = at
  same-event (event.End s) x at low = at
  same-event (event.Resend i g) x at low = at
  same-event event.Round x at low = at
  same-event (event.Restart n) x at low = at

-- THE NEXT STEP
abbrev pub CoordinatorTurns : Script → Post → List Step → Step → Type 0
CoordinatorTurns script post before s = IsTurn (coordinators_rule script) the_coordinator (coordinator_after script before) (here_in post s) s

abbrev pub SegmentTurns : Script → Post → List Step → Step → Type 0
SegmentTurns script post before s = IsTurn (segments_rule script) s.stamp.node (segment_after script s.stamp.node before) (here_in post s) s

module _ (script : Script) (post : Post) (before : List Step) (s : Step) (below : IsFoundBelow s.stamp.clock post before) where
  unfoldable pub coordinators-next : CoordinatorTurns script post before s → IsNextAtCoordinator script before s
  coordinators-next t =
      record {
        node = t.node;
        at = t.place;
        here = t.here;
        fails = t.fails;
        is = same-event post before s.stamp.clock below s.event t.here t.is (coordinator-hears script (coordinator_after script before) the_coordinator (here_in post s) s t);
        admitted = t.admitted;
        marks = t.marks;
        clock = t.clock;
      }

  unfoldable pub segments-next : 1 ≤ s.stamp.node.0 → SegmentTurns script post before s → IsNextAtSegment script before s
  segments-next one t =
      record {
        node = one;
        at = t.place;
        here = t.here;
        fails = t.fails;
        is = same-event post before s.stamp.clock below s.event t.here t.is (segment-hears script (segment_after script s.stamp.node before) s.stamp.node (here_in post s) s t);
        admitted = t.admitted;
        marks = t.marks;
        clock = t.clock;
      }

  -- what it leaves
  pub coordinator-leads : (t : CoordinatorTurns script post before s) → holds_by (coordinators_rule script) (coordinator_after script before) (here_in post s) (has_failed s.marks) ≡ coordinator_after script (before ++ s ∷ [])
  unfolding coordinators-next
  coordinator-leads t =
      let c : Coord = coordinator_after script before in
      ap (λ o. holds_by (coordinators_rule script) c o (has_failed s.marks)) t.is
      ∙ ap (λ ms. (coord_rule script c t.here (has_failed ms)).coord) t.marks
      ∙ ap (λ (turn : CoordTurn). turn.coord) (coordinator-tells script c t.here t.fails)
      ∙ sym (coordinator-moved script before s (coordinators-next t))

  pub segment-leads : (one : 1 ≤ s.stamp.node.0) (t : SegmentTurns script post before s) → holds_by (segments_rule script) (segment_after script s.stamp.node before) (here_in post s) (has_failed s.marks) ≡ segment_after script s.stamp.node (before ++ s ∷ [])
  unfolding segments-next
  segment-leads one t =
      let seg : Seg = segment_after script s.stamp.node before in
      ap (λ o. holds_by (segments_rule script) seg o (has_failed s.marks)) t.is
      ∙ ap (λ ms. (seg_rule script seg t.here (has_failed ms)).seg) t.marks
      ∙ ap (λ (turn : SegTurn). turn.seg) (segment-tells script seg t.here t.fails)
      ∙ sym (segment-moved script before s (segments-next one t))
