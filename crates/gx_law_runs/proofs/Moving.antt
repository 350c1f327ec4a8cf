-- What the nodes hold after one step more.
use Rattle.std.proofs.Common.{◌≡◌, List, [], ◌∷◌, ◌++◌, Bool, true, false, ap, ◌∙◌, if◌then◌else◌, arith}
use Rattle.std.proofs.lemmas.Bool.Decides.{nat_tests}
use Rattle.gx_ids.specs.declared.ids.Node.{Node}
use Rattle.gx_script.specs.declared.Script.{Script}
use Rattle.gx_store.specs.declared.run.Step.{Step}
use Rattle.gx_store.specs.Journals.{is_same_node}
use Rattle.gx_store.specs.Refusals.{the_coordinator}
use Rattle.gx_rules.specs.AtCoordinator.{coord_rule}
use Rattle.gx_rules.specs.AtSegment.{seg_rule}
use Rattle.gx_rules.specs.Coordinators.{Coord, CoordTurn, new_coordinator}
use Rattle.gx_rules.specs.Segments.{Seg, SegTurn, new_segment}
use Rattle.gx_law_runs.specs.Replays.{IsNextAtCoordinator, IsNextAtSegment, coordinator_after, coordinator_by, has_failed, here_at, segment_after, segment_by}
use Rattle.gx_law_runs.proofs.Failing.{coordinator-tells, segment-tells}
use Rattle.gx_law_runs.proofs.Replaying.{coordinator-last, segment-last}

module _ (script : Script) (steps : List Step) (step : Step) where
  pub coordinator-left : is_same_node step.stamp.node the_coordinator ≡ false → coordinator_after script (steps ++ step ∷ []) ≡ coordinator_after script steps
  coordinator-left away =
      let c : Coord = coordinator_after script steps in
      coordinator-last script new_coordinator [] steps step
      ∙ ap (λ (b : Bool). if b then coordinator_by script c (here_at steps step.event) (has_failed step.marks) else c) away

  pub segment-left : (node : Node) → is_same_node step.stamp.node node ≡ false → segment_after script node (steps ++ step ∷ []) ≡ segment_after script node steps
  segment-left node away =
      let s : Seg = segment_after script node steps in
      segment-last script node (new_segment node) [] steps step
      ∙ ap (λ (b : Bool). if b then segment_by script s (here_at steps step.event) (has_failed step.marks) else s) away

  pub coordinator-moved : (n : IsNextAtCoordinator script steps step) → coordinator_after script (steps ++ step ∷ []) ≡ (coord_rule script (coordinator_after script steps) n.here n.fails).coord
  coordinator-moved n =
      let c : Coord = coordinator_after script steps in
      coordinator-last script new_coordinator [] steps step
      ∙ ap (λ m. if is_same_node m the_coordinator then coordinator_by script c (here_at steps step.event) (has_failed step.marks) else c) n.node
      ∙ ap (λ o. coordinator_by script c o (has_failed step.marks)) n.is
      ∙ ap (λ ms. (coord_rule script c n.here (has_failed ms)).coord) n.marks
      ∙ ap (λ (t : CoordTurn). t.coord) (coordinator-tells script c n.here n.fails)

  pub segment-moved : (n : IsNextAtSegment script steps step) → segment_after script step.stamp.node (steps ++ step ∷ []) ≡ (seg_rule script (segment_after script step.stamp.node steps) n.here n.fails).seg
  segment-moved n =
      let s : Seg = segment_after script step.stamp.node steps in
      segment-last script step.stamp.node (new_segment step.stamp.node) [] steps step
      ∙ ap (λ (b : Bool). if b then segment_by script s (here_at steps step.event) (has_failed step.marks) else s) (self step.stamp.node)
      ∙ ap (λ o. segment_by script s o (has_failed step.marks)) n.is
      ∙ ap (λ ms. (seg_rule script s n.here (has_failed ms)).seg) n.marks
      ∙ ap (λ (t : SegTurn). t.seg) (segment-tells script s n.here n.fails)
    where
      self : (node : Node) → is_same_node node node ≡ true
      self node = grind (arith, nat_tests)
