-- What each event leaves as the steps tell it.
use Rattle.std.proofs.Common.{◌≡◌, ◌≤◌, ℕ, List, [], ◌∷◌, ◌++◌, Option, Some, None, Bool, true, false, refl, sym, ap, ◌∙◌, if◌then◌else◌, arith, append-nil}
use Rattle.std.proofs.lemmas.Bool.Decides.{nat_tests}
use Rattle.std.proofs.lemmas.List.{append_assoc}
use Rattle.gx_ids.specs.declared.ids.Node.{Node}
use Rattle.gx_script.specs.declared.Script.{Script}
use Rattle.gx_store.specs.declared.event.Event.{Event}
use Rattle.gx_store.specs.declared.event.Event.TheVariants as event
use Rattle.gx_store.specs.declared.node.NodeEvent.{NodeEvent}
use Rattle.gx_store.specs.declared.run.Step.{Step}
use Rattle.gx_store.specs.Journals.{is_same_node}
use Rattle.gx_store.specs.Refusals.{the_coordinator}
use Rattle.gx_rules.specs.AtCoordinator.{coord_rule}
use Rattle.gx_rules.specs.AtSegment.{seg_rule}
use Rattle.gx_rules.specs.Coordinators.{Coord, CoordTurn}
use Rattle.gx_rules.specs.Machine.{Letter, World, after, at_node, can, coord_did, delivered, does, found, happens, new_world, node_of, posted, seg_did, world_of}
use Rattle.gx_rules.specs.Segments.{Seg, SegTurn}
use Rattle.gx_law_order.proofs.Ordered.{at-both}
use Rattle.gx_law_runs.specs.Replays.{AreReplayed, coordinator_after, coordinator_by, coordinator_from, coordinator_next, has_failed, here_at, letters_after, letters_from, segment_after, segment_by, segment_from, segment_next}
use Rattle.gx_law_runs.proofs.Failing.{coordinator-tells, segment-tells}

-- a step of a node's turn
abbrev pub coordinator_step : Event → CoordTurn → Step
coordinator_step e turn = record { stamp = record { clock = turn.coord.clock; node = the_coordinator }; event = e; marks = turn.marks }

abbrev pub segment_step : Node → Event → SegTurn → Step
segment_step node e turn = record { stamp = record { clock = turn.seg.clock; node = node }; event = e; marks = turn.marks }

-- what a world's nodes hold is what its own steps tell
abbrev pub IsReplayed : Script → World → Type 0
IsReplayed script w = AreReplayed script w.steps w

-- ONE STEP MORE
pub letters-last : (sent : List Letter) (ss : List Step) (s : Step) → letters_from sent (ss ++ s ∷ []) ≡ posted s.stamp.node s.stamp.clock s.marks (letters_from sent ss)
letters-last sent [] s = refl
letters-last sent (x ∷ ss) s = letters-last (posted x.stamp.node x.stamp.clock x.marks sent) ss s

pub coordinator-last : (script : Script) (c : Coord) (before ss : List Step) (s : Step) → coordinator_from script c before (ss ++ s ∷ []) ≡ coordinator_next script (before ++ ss) s (coordinator_from script c before ss)
coordinator-last script c before [] s = ap (λ b. coordinator_next script b s c) (sym (append-nil before))
coordinator-last script c before (x ∷ ss) s =
    coordinator-last script (coordinator_next script before x c) (before ++ x ∷ []) ss s
    ∙ ap (λ b. coordinator_next script b s (coordinator_from script c before (x ∷ ss))) (append_assoc before (x ∷ []) ss)

pub segment-last : (script : Script) (node : Node) (seg : Seg) (before ss : List Step) (s : Step) → segment_from script node seg before (ss ++ s ∷ []) ≡ segment_next script node (before ++ ss) s (segment_from script node seg before ss)
segment-last script node seg before [] s = ap (λ b. segment_next script node b s seg) (sym (append-nil before))
segment-last script node seg before (x ∷ ss) s =
    segment-last script node (segment_next script node before x seg) (before ++ x ∷ []) ss s
    ∙ ap (λ b. segment_next script node b s (segment_from script node seg before (x ∷ ss))) (append_assoc before (x ∷ []) ss)

-- WHAT HAPPENS AT A NODE
pub at-here : (w : World) (e : Event) → w.sent ≡ letters_after w.steps → at_node w e ≡ here_at w.steps e
at-here w (event.Receive from to number) q = ap (λ ls. delivered from (found from to number ls)) q
at-here w (event.Resume n g) q = refl
at-here w (event.Start s) q = refl
at-here w (event.End s) q = refl
at-here w (event.Resend i g) q = refl
at-here w event.Round q = refl
at-here w (event.Restart n) q = refl

-- ONE EVENT
module _ (script : Script) (w : World) (r : IsReplayed script w) (e : Event) (x : NodeEvent) (is : at_node w e ≡ Some x) (fails : Bool) where
  now : here_at w.steps e ≡ Some x
  now = sym (at-here w e r.sent) ∙ is

  coord-replayed : IsReplayed script (coord_did w e (coord_rule script w.coord x fails))
  coord-replayed =
      record {
        coordinator = sym (
            coordinator-last script _ [] w.steps step
            ∙ ap (λ c. coordinator_by script c (here_at w.steps e) (has_failed turn.marks)) (sym r.coordinator)
            ∙ ap (λ o. coordinator_by script w.coord o (has_failed turn.marks)) now
            ∙ ap (λ (t : CoordTurn). t.coord) (coordinator-tells script w.coord x fails)
            );
        segments = λ i one. r.segments i one ∙ sym (segment-last script _ _ [] w.steps step ∙ passed i one);
        sent = ap (posted the_coordinator turn.coord.clock turn.marks) r.sent ∙ sym (letters-last [] w.steps step);
      }
    where
      turn : CoordTurn
      turn = coord_rule script w.coord x fails

      step : Step
      step = coordinator_step e turn

      away : (i : ℕ) → 1 ≤ i → is_same_node the_coordinator (record { 0 = i }) ≡ false
      away i one = grind (arith, nat_tests)

      passed : (i : ℕ) → 1 ≤ i → segment_next script (record { 0 = i }) w.steps step (segment_after script (record { 0 = i }) w.steps) ≡ segment_after script (record { 0 = i }) w.steps
      passed i one =
          let seg : Seg = segment_after script (record { 0 = i }) w.steps in
          ap (λ (b : Bool). if b then segment_by script seg (here_at w.steps e) (has_failed turn.marks) else seg) (away i one)

  seg-replayed : (node : Node) → is_same_node node the_coordinator ≡ false → IsReplayed script (seg_did w node e (seg_rule script (w.segs node.0) x fails))
  seg-replayed node away =
      record {
        coordinator = r.coordinator ∙ sym (coordinator-last script _ [] w.steps step ∙ passed);
        segments = at-both (λ i (s : Seg). 1 ≤ i → s ≡ segment_after script (record { 0 = i }) (w.steps ++ step ∷ [])) w.segs node.0 turn.seg own other;
        sent = ap (posted node turn.seg.clock turn.marks) r.sent ∙ sym (letters-last [] w.steps step);
      }
    where
      turn : SegTurn
      turn = seg_rule script (w.segs node.0) x fails

      step : Step
      step = segment_step node e turn

      passed : coordinator_next script w.steps step (coordinator_after script w.steps) ≡ coordinator_after script w.steps
      passed =
          let c : Coord = coordinator_after script w.steps in
          ap (λ (b : Bool). if b then coordinator_by script c (here_at w.steps e) (has_failed turn.marks) else c) away

      apart : (i : ℕ) → (i ≡ node.0 → ⊥) → is_same_node node (record { 0 = i }) ≡ false
      apart i no-same = grind (arith, nat_tests)

      self : is_same_node node (record { 0 = node.0 }) ≡ true
      self = grind (arith, nat_tests)

      own : 1 ≤ node.0 → turn.seg ≡ segment_after script (record { 0 = node.0 }) (w.steps ++ step ∷ [])
      own one = sym (
          segment-last script _ _ [] w.steps step
          ∙ ap (λ (b : Bool). if b then segment_by script (segment_after script (record { 0 = node.0 }) w.steps) (here_at w.steps e) (has_failed turn.marks) else segment_after script (record { 0 = node.0 }) w.steps) self
          ∙ ap (λ s. segment_by script s (here_at w.steps e) (has_failed turn.marks)) (sym (r.segments node.0 one))
          ∙ ap (λ o. segment_by script (w.segs node.0) o (has_failed turn.marks)) now
          ∙ ap (λ (t : SegTurn). t.seg) (segment-tells script (w.segs node.0) x fails)
          )

      other : (i : ℕ) → (i ≡ node.0 → ⊥) → 1 ≤ i → w.segs i ≡ segment_after script (record { 0 = i }) (w.steps ++ step ∷ [])
      other i no-same one =
          let seg : Seg = segment_after script (record { 0 = i }) w.steps in
          r.segments i one ∙ sym (
          segment-last script _ _ [] w.steps step
          ∙ ap (λ (b : Bool). if b then segment_by script seg (here_at w.steps e) (has_failed turn.marks) else seg) (apart i no-same)
          )

module _ (script : Script) where
  does-replayed : (w : World) (e : Event) (fails : Bool) (o : Option NodeEvent) → at_node w e ≡ o → IsReplayed script w → IsReplayed script (does script w e (node_of e) fails o)
  does-replayed w e fails None is r = r
  does-replayed w e fails (Some x) is r = by_node (is_same_node (node_of e) the_coordinator) refl
    where
      by_node : (b : Bool) → is_same_node (node_of e) the_coordinator ≡ b → IsReplayed script (if b then coord_did w e (coord_rule script w.coord x fails) else seg_did w (node_of e) e (seg_rule script (w.segs (node_of e).0) x fails))
      by_node true same = coord-replayed script w r e x is fails
      by_node false away = seg-replayed script w r e x is fails (node_of e) away

  happens-replayed : (w : World) (e : Event) (fails : Bool) → IsReplayed script w → IsReplayed script (happens script w e fails)
  happens-replayed w e fails r = by_can (can script w e)
    where
      by_can : (b : Bool) → IsReplayed script (if b then does script w e (node_of e) fails (at_node w e) else w)
      by_can true = does-replayed w e fails (at_node w e) refl r
      by_can false = r

  after-replayed : (es : List (Event × Bool)) (w : World) → IsReplayed script w → IsReplayed script (after script w es)
  after-replayed [] w r = r
  after-replayed (e ∷ es) w r = after-replayed es (happens script w e.0 e.1) (happens-replayed w e.0 e.1 r)

  pub world-replayed : (es : List (Event × Bool)) → IsReplayed script (world_of script es)
  world-replayed es = after-replayed es new_world (record { coordinator = refl; segments = λ i one. refl; sent = refl })
