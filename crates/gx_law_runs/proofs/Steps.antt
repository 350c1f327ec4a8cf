-- The failures of a step.
use Rattle.std.proofs.Common.{◌≡◌, ◌≤◌, ℕ, ◌&&◌, Bool, true, false, cond, if◌then◌else◌, List, [], ◌∷◌, ◌++◌, length, length-append, refl, sym, ap, subst, arith}
use Rattle.std.proofs.lemmas.Bool.Decides.{nat_tests}
use Rattle.std.proofs.lemmas.List.{append_cancel_left}
use Rattle.std.specs.Prelude.{None, Option, Some}
use Rattle.gx_lemmas.proofs.Numbers.{same-of}
use Rattle.gx_ids.specs.declared.ids.Node.{Node}
use Rattle.gx_script.specs.declared.Script.{Script}
use Rattle.gx_store.specs.declared.event.Event.{Event}
use Rattle.gx_store.specs.declared.node.NodeEvent.{NodeEvent}
use Rattle.gx_store.specs.declared.run.Step.{Step}
use Rattle.gx_store.specs.Journals.{is_same_node}
use Rattle.gx_store.specs.Refusals.{the_coordinator}
use Rattle.gx_rules.specs.AtCoordinator.{coord_can, coord_rule}
use Rattle.gx_rules.specs.AtSegment.{seg_rule}
use Rattle.gx_rules.specs.Machine.{World, at_node, can_here, coord_did, does, happens, node_of, seg_can, seg_did}
use Rattle.gx_rules.specs.Segments.{Seg}
use Rattle.gx_law_order.proofs.Ordered.{world_well}
use Rattle.gx_law_runs.specs.Reached.{IsReached}
use Rattle.gx_law_runs.specs.Replays.{segment_after, world_behind}
use Rattle.gx_law_runs.proofs.Reaching.{replayed}
use Rattle.gx_law_runs.specs.Failures.{failures_in}
use Rattle.gx_law_runs.proofs.AtCoordinators.{coordinator-may}
use Rattle.gx_law_runs.proofs.AtSegments.{segment-may}
use Rattle.gx_law_runs.proofs.Marks.{MayFail, count-may}

-- no list is longer than itself
no-step : (steps : List Step) (step : Step) → steps ≡ steps ++ step ∷ [] → ⊥
no-step steps step e = omega (arith, ap length e, length-append steps (step ∷ []))

-- the step that was done
same-marks : (steps : List Step) (done step : Step) → steps ++ done ∷ [] ≡ steps ++ step ∷ [] → done.marks ≡ step.marks
same-marks steps done step e =
    let one : done ∷ [] ≡ step ∷ [] = append_cancel_left steps (done ∷ []) (step ∷ []) e in
    let same : done ≡ step = cc in
    ap (λ (s : Step). s.marks) same

same-node : (at node : Node) → is_same_node at node ≡ true → at ≡ node
same-node at node e = let n : at.0 ≡ node.0 = same-of at.0 node.0 e in ap (λ m. record { 0 = m }) n

module _ (script : Script) (w : World) (named : (i : ℕ) → 1 ≤ i → (w.segs i).node ≡ record { 0 = i }) (e : Event) (fails : Bool) (step : Step) where
  abbrev Leads : World → Type 0
  Leads v = v.steps ≡ w.steps ++ step ∷ []

  at-node : (node : Node) (x : NodeEvent) → can_here script w node (Some x) ≡ true → Leads (does script w e node fails (Some x)) → MayFail node fails step.marks
  at-node node x = by (is_same_node node the_coordinator) refl
    where
      away : is_same_node node the_coordinator ≡ false → 1 ≤ node.0
      away off = grind (arith, nat_tests)

      by : (b : Bool) → is_same_node node the_coordinator ≡ b → (if b then coord_can script w.coord x else seg_can script (w.segs node.0) x) ≡ true
          → Leads (if b then coord_did w e (coord_rule script w.coord x fails) else seg_did w node e (seg_rule script (w.segs node.0) x fails)) → MayFail node fails step.marks
      by true at may leads =
          subst (λ (n : Node). MayFail n fails step.marks) (sym (same-node node the_coordinator at))
          (subst (MayFail the_coordinator fails) (same-marks w.steps (record { stamp = record { clock = (coord_rule script w.coord x fails).coord.clock; node = the_coordinator }; event = e; marks = (coord_rule script w.coord x fails).marks }) step leads) (coordinator-may fails script w.coord x may))
      by false off may leads =
          subst (λ (n : Node). MayFail n fails step.marks) (named node.0 (away off))
          (subst (MayFail (w.segs node.0).node fails) (same-marks w.steps (record { stamp = record { clock = (seg_rule script (w.segs node.0) x fails).seg.clock; node = node }; event = e; marks = (seg_rule script (w.segs node.0) x fails).marks }) step leads) (segment-may script (w.segs node.0) x fails))

  -- where nodes have their names
  pub step-may : Leads (happens script w e fails) → MayFail (node_of e) fails step.marks
  step-may = by (at_node w e)
    where
      admitted : (o : Option NodeEvent) (b : Bool) → can_here script w (node_of e) o ≡ b → Leads (if b then does script w e (node_of e) fails o else w) → MayFail (node_of e) fails step.marks
      admitted o false off leads = absurd (no-step w.steps step leads)
      admitted None true on leads = absurd (cc)
      admitted (Some x) true on leads = at-node (node_of e) x on leads

      by : (o : Option NodeEvent) → Leads (if can_here script w (node_of e) o then does script w e (node_of e) fails o else w) → MayFail (node_of e) fails step.marks
      by o = admitted o (can_here script w (node_of e) o) refl

pub behind-few : (script : Script) (steps : List Step) (event : Event) (fails : Bool) (step : Step) (node : Node) → 1 ≤ script.segments → IsReached script steps → (happens script (world_behind script steps) event fails).steps ≡ steps ++ step ∷ []
    → failures_in node step.marks ≤ cond (is_same_node (node_of event) node && fails) 1 0
behind-few script steps event fails step node some reached leads = count-may node (node_of event) fails step.marks (step-may script (world_behind script steps) named event fails step leads)
  where
    named : (i : ℕ) → 1 ≤ i → (segment_after script (record { 0 = i }) steps).node ≡ record { 0 = i }
    named i one = subst (λ (s : Seg). s.node ≡ record { 0 = i }) ((replayed script steps reached).segments i one) ((world_well script some reached.events).names i)
