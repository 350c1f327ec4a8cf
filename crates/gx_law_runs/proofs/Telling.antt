-- A machine whose nodes hold what the steps tell goes on as the steps tell it.
use Rattle.std.proofs.Common.{◌≡◌, ◌≤◌, List, [], ◌∷◌, ◌++◌, Option, Some, None, Bool, true, false, refl, sym, ap, ◌∙◌, if◌then◌else◌, arith}
use Rattle.std.proofs.lemmas.Bool.Decides.{nat_tests}
use Rattle.gx_ids.specs.declared.ids.Node.{Node}
use Rattle.gx_script.specs.declared.Script.{Script}
use Rattle.gx_store.specs.declared.event.Event.{Event}
use Rattle.gx_store.specs.declared.node.NodeEvent.{NodeEvent}
use Rattle.gx_store.specs.declared.run.Step.{Step}
use Rattle.gx_store.specs.Journals.{is_same_node}
use Rattle.gx_store.specs.Refusals.{the_coordinator}
use Rattle.gx_rules.specs.AtCoordinator.{coord_can, coord_rule}
use Rattle.gx_rules.specs.AtSegment.{seg_rule}
use Rattle.gx_rules.specs.Coordinators.{Coord}
use Rattle.gx_rules.specs.Machine.{World, at_node, can, can_here, coord_did, does, happens, node_of, seg_can, seg_did}
use Rattle.gx_law_runs.specs.Replays.{AreReplayed, here_at, is_admitted, letters_after, world_behind}
use Rattle.gx_law_runs.proofs.Replaying.{at-here, coordinator_step, segment_step}
use Rattle.gx_rules.specs.Segments.{Seg}

module _ (script : Script) (steps : List Step) (w : World) (r : AreReplayed script steps w) (same : w.steps ≡ steps) where
  abbrev v : World
  v = world_behind script steps

  here-alike : (e : Event) → at_node w e ≡ at_node v e
  here-alike e = at-here w e (r.sent ∙ ap letters_after (sym same)) ∙ ap (λ ss. here_at ss e) same

  -- what is admitted
  can-alike : (node : Node) (o : Option NodeEvent) → can_here script w node o ≡ can_here script v node o
  can-alike node None = refl
  can-alike node (Some x) = by_node (is_same_node node the_coordinator) refl
    where
      one : is_same_node node the_coordinator ≡ false → 1 ≤ node.0
      one away = grind (arith, nat_tests)

      by_node : (b : Bool) → is_same_node node the_coordinator ≡ b → (if b then coord_can script w.coord x else seg_can script (w.segs node.0) x) ≡ (if b then coord_can script v.coord x else seg_can script (v.segs node.0) x)
      by_node true at = ap (λ (c : Coord). coord_can script c x) r.coordinator
      by_node false away = ap (λ (s : Seg). seg_can script s x) (r.segments node.0 (one away))

  pub can-told : (e : Event) → can script w e ≡ is_admitted script steps e
  can-told e = ap (can_here script w (node_of e)) (here-alike e) ∙ can-alike (node_of e) (at_node v e)

  -- what happens
  does-alike : (e : Event) (fails : Bool) (node : Node) (o : Option NodeEvent) → (does script w e node fails o).steps ≡ (does script v e node fails o).steps
  does-alike e fails node None = same
  does-alike e fails node (Some x) = by_node (is_same_node node the_coordinator) refl
    where
      one : is_same_node node the_coordinator ≡ false → 1 ≤ node.0
      one away = grind (arith, nat_tests)

      by_node : (b : Bool) → is_same_node node the_coordinator ≡ b
          → (if b then coord_did w e (coord_rule script w.coord x fails) else seg_did w node e (seg_rule script (w.segs node.0) x fails)).steps
          ≡ (if b then coord_did v e (coord_rule script v.coord x fails) else seg_did v node e (seg_rule script (v.segs node.0) x fails)).steps
      by_node true at = ap (λ ss. ss ++ coordinator_step e (coord_rule script w.coord x fails) ∷ []) same ∙ ap (λ c. steps ++ coordinator_step e (coord_rule script c x fails) ∷ []) r.coordinator
      by_node false away = ap (λ ss. ss ++ segment_step node e (seg_rule script (w.segs node.0) x fails) ∷ []) same ∙ ap (λ s. steps ++ segment_step node e (seg_rule script s x fails) ∷ []) (r.segments node.0 (one away))

  pub happens-alike : (e : Event) (fails : Bool) → (happens script w e fails).steps ≡ (happens script v e fails).steps
  happens-alike e fails =
      ap (λ o. (if can_here script w (node_of e) o then does script w e (node_of e) fails o else w).steps) (here-alike e)
      ∙ ap (λ (b : Bool). (if b then does script w e (node_of e) fails (at_node v e) else w).steps) (can-alike (node_of e) (at_node v e))
      ∙ by_can (can script v e)
    where
      by_can : (b : Bool) → (if b then does script w e (node_of e) fails (at_node v e) else w).steps ≡ (if b then does script v e (node_of e) fails (at_node v e) else v).steps
      by_can true = does-alike e fails (node_of e) (at_node v e)
      by_can false = same
