-- What a node's rule makes of what the steps tell is the machine's next step.
use Rattle.std.proofs.Common.{◌≡◌, ◌≤◌, ℕ, List, [], ◌∷◌, ◌++◌, Some, Bool, true, false, refl, sym, ap, ◌∙◌, if◌then◌else◌, arith}
use Rattle.std.proofs.lemmas.Bool.Decides.{nat_tests}
use Rattle.gx_ids.specs.declared.ids.Node.{Node}
use Rattle.gx_script.specs.declared.Script.{Script}
use Rattle.gx_store.specs.declared.event.Event.{Event}
use Rattle.gx_store.specs.declared.mark.Mark.{Mark}
use Rattle.gx_store.specs.declared.node.NodeEvent.{NodeEvent}
use Rattle.gx_store.specs.declared.run.Step.{Step}
use Rattle.gx_store.specs.Journals.{is_same_node}
use Rattle.gx_store.specs.Refusals.{the_coordinator}
use Rattle.gx_rules.specs.AtCoordinator.{coord_can, coord_rule}
use Rattle.gx_rules.specs.AtSegment.{seg_rule}
use Rattle.gx_rules.specs.Machine.{World, after, at_node, can_here, coord_did, does, happens, new_world, node_of, seg_did, world_of, seg_can}
use Rattle.gx_law_order.specs.Runs.{steps_after}
use Rattle.gx_law_runs.specs.Replays.{IsNextAtCoordinator, IsNextAtSegment, coordinator_after, here_at, is_admitted, segment_after, world_behind}
use Rattle.gx_law_runs.proofs.Telling.{can-told}
use Rattle.gx_law_runs.proofs.Replaying.{IsReplayed, at-here, coordinator_step, segment_step, world-replayed}

-- one event more
pub after-last : (script : Script) (w : World) (es : List (Event × Bool)) (x : Event × Bool) → after script w (es ++ x ∷ []) ≡ happens script (after script w es) x.0 x.1
after-last script w [] x = refl
after-last script w (e ∷ es) x = after-last script (happens script w e.0 e.1) es x

-- a step by its parts
same-step : (s : Step) (c : ℕ) (n : Node) (e : Event) (ms : List Mark) → s.stamp.clock ≡ c → s.stamp.node ≡ n → s.event ≡ e → s.marks ≡ ms → s ≡ record { stamp = record { clock = c; node = n }; event = e; marks = ms }
same-step s c n e ms a b d f =
    ap (λ x. let y : Step = record { stamp = record { clock = x; node = s.stamp.node }; event = s.event; marks = s.marks } in y) a
    ∙ ap (λ x. let y : Step = record { stamp = record { clock = c; node = x }; event = s.event; marks = s.marks } in y) b
    ∙ ap (λ x. let y : Step = record { stamp = record { clock = c; node = n }; event = x; marks = s.marks } in y) d
    ∙ ap (λ x. let y : Step = record { stamp = record { clock = c; node = n }; event = e; marks = x } in y) f

module _ (script : Script) (w : World) (r : IsReplayed script w) where
  -- what is admitted is done
  module _ (e : Event) (x : NodeEvent) (fails : Bool) (is : here_at w.steps e ≡ Some x) (ok : is_admitted script w.steps e ≡ true) where
    happened : happens script w e fails ≡ does script w e (node_of e) fails (Some x)
    happened =
        ap (λ (b : Bool). if b then does script w e (node_of e) fails (at_node w e) else w) (can-told script w.steps w r refl e ∙ ok)
        ∙ ap (does script w e (node_of e) fails) (at-here w e r.sent ∙ is)

    pub coord-happened : node_of e ≡ the_coordinator → (happens script w e fails).steps ≡ w.steps ++ coordinator_step e (coord_rule script (coordinator_after script w.steps) x fails) ∷ []
    coord-happened at =
        ap (λ (v : World). v.steps) happened
        ∙ ap (λ n. (does script w e n fails (Some x)).steps) at
        ∙ ap (λ c. w.steps ++ coordinator_step e (coord_rule script c x fails) ∷ []) r.coordinator

    pub seg-happened : (node : Node) → node_of e ≡ node → 1 ≤ node.0 → (happens script w e fails).steps ≡ w.steps ++ segment_step node e (seg_rule script (segment_after script node w.steps) x fails) ∷ []
    seg-happened node at one =
        ap (λ (v : World). v.steps) happened
        ∙ ap (λ n. (does script w e n fails (Some x)).steps) at
        ∙ ap (λ (b : Bool). (if b then coord_did w e (coord_rule script w.coord x fails) else seg_did w node e (seg_rule script (w.segs node.0) x fails)).steps) (away node one)
        ∙ ap (λ s. w.steps ++ segment_step node e (seg_rule script s x fails) ∷ []) (r.segments node.0 one)
      where
        away : (n : Node) → 1 ≤ n.0 → is_same_node n the_coordinator ≡ false
        away n one = grind (arith, nat_tests)

  -- the next step
  pub coordinator-next : (step : Step) (n : IsNextAtCoordinator script w.steps step) → (happens script w step.event n.fails).steps ≡ w.steps ++ step ∷ []
  coordinator-next step n =
      coord-happened step.event n.here n.fails n.is ok n.at
      ∙ ap (λ s. w.steps ++ s ∷ []) (sym (same-step step _ _ step.event _ n.clock n.node refl n.marks))
    where
      ok : is_admitted script w.steps step.event ≡ true
      ok = ap (λ m. can_here script (world_behind script w.steps) m (here_at w.steps step.event)) n.at ∙ ap (can_here script (world_behind script w.steps) the_coordinator) n.is ∙ n.admitted

  pub segment-next : (step : Step) (n : IsNextAtSegment script w.steps step) → (happens script w step.event n.fails).steps ≡ w.steps ++ step ∷ []
  segment-next step n =
      seg-happened step.event n.here n.fails n.is ok step.stamp.node n.at n.node
      ∙ ap (λ s. w.steps ++ s ∷ []) (sym (same-step step _ _ step.event _ n.clock refl refl n.marks))
    where
      away : (m : Node) → 1 ≤ m.0 → is_same_node m the_coordinator ≡ false
      away m one = grind (arith, nat_tests)

      ok : is_admitted script w.steps step.event ≡ true
      ok = ap (λ m. can_here script (world_behind script w.steps) m (here_at w.steps step.event)) n.at
          ∙ ap (can_here script (world_behind script w.steps) step.stamp.node) n.is
          ∙ ap (λ (b : Bool). if b then coord_can script (coordinator_after script w.steps) n.here else seg_can script (segment_after script step.stamp.node w.steps) n.here) (away step.stamp.node n.node)
          ∙ n.admitted

module _ (script : Script) (es : List (Event × Bool)) (step : Step) where
  abbrev w : World
  w = world_of script es

  pub coordinator-leads : (n : IsNextAtCoordinator script (steps_after script es) step) → steps_after script (es ++ (step.event, n.fails) ∷ []) ≡ steps_after script es ++ step ∷ []
  coordinator-leads n = ap (λ (v : World). v.steps) (after-last script new_world es (step.event, n.fails)) ∙ coordinator-next script w (world-replayed script es) step n

  pub segment-leads : (n : IsNextAtSegment script (steps_after script es) step) → steps_after script (es ++ (step.event, n.fails) ∷ []) ≡ steps_after script es ++ step ∷ []
  segment-leads n = ap (λ (v : World). v.steps) (after-last script new_world es (step.event, n.fails)) ∙ segment-next script w (world-replayed script es) step n
