-- Machines whose coordinator and segments hold the same.
use Rattle.std.proofs.Common.{◌≡◌, ◌≤◌, ℕ, ◌+◌, List, [], ◌∷◌, ◌++◌, Some, Bool, true, false, eqb, refl, sym, subst, ap, ◌∙◌, if◌then◌else◌, arith}
use Rattle.std.proofs.lemmas.Bool.Decides.{nat_tests}
use Rattle.gx_ids.specs.declared.ids.Node.{Node}
use Rattle.gx_script.specs.declared.Script.{Script}
use Rattle.gx_store.specs.declared.event.Event.{Event}
use Rattle.gx_store.specs.declared.node.NodeEvent.{NodeEvent}
use Rattle.gx_store.specs.declared.run.Run.{Run}
use Rattle.gx_store.specs.declared.run.Step.{Step}
use Rattle.gx_store.specs.Journals.{is_same_node}
use Rattle.gx_store.specs.Refusals.{the_coordinator}
use Rattle.gx_rules.specs.AtCoordinator.{coord_rule}
use Rattle.gx_rules.specs.AtSegment.{seg_rule}
use Rattle.gx_rules.specs.Machine as machine
use Rattle.gx_rules.specs.Machine.{coord_did, does, posted, seg_did}
use Rattle.gx_rules.specs.Maps.{with_at}
use Rattle.gx_coord.specs.Steps.{IsCoord}
use Rattle.gx_segment.specs.Steps.{IsSegment}
use Rattle.gx_world.specs.Links.{ArePosted}
use Rattle.gx_law_runs.specs.Replays.{AreReplayed, world_behind}
use Rattle.gx_law_runs.proofs.Replaying.{coordinator_step, segment_step}
use Rattle.gx_world.specs.declared.network.Network.{Network}
use Rattle.gx_world.specs.Networks.{Stands}

pub record AreAlike (w v : machine.World) : Type 0 where
  pub coord : w.coord ≡ v.coord
  pub segs : (i : ℕ) → 1 ≤ i → w.segs i ≡ v.segs i
  pub steps : w.steps ≡ v.steps
  pub sent : w.sent ≡ v.sent

pub turned-round : (w v : machine.World) → AreAlike w v → AreAlike v w
turned-round w v a = record { coord = sym a.coord; segs = λ i one. sym (a.segs i one); steps = sym a.steps; sent = sym a.sent }

pub replayed-alike : (script : Script) (steps : List Step) (w : machine.World) → AreReplayed script steps w → w.steps ≡ steps → AreAlike w (world_behind script steps)
replayed-alike script steps w r same = record { coord = r.coordinator; segs = r.segments; steps = same; sent = r.sent }

-- so what is where the one stands is where the other does
pub stands-alike : (script : Script) (w v : machine.World) (network : Network) → AreAlike w v → Stands script w network → Stands script v network
stands-alike script w v network a s =
    record {
      language = s.language;
      of = s.of;
      coord = subst (IsCoord network.coord) a.coord s.coord;
      coord_script = s.coord_script;
      coord_usable = s.coord_usable;
      count = s.count;
      segments = λ k x e. let t = s.segments k x e in record { is = subst (IsSegment x) (a.segs (k + 1) (positive k)) t.is; of = t.of; usable = t.usable };
      run = s.run ∙ ap (λ xs. let r : Run = record { steps = xs } in r) a.steps;
      long = s.long;
      letters = subst (ArePosted network.letters network.run.steps) a.sent s.letters;
      placed = s.placed;
      usable = s.usable;
    }
  where
    positive : (k : ℕ) → 1 ≤ k + 1
    positive k = omega arith

pub with_at-alike : {A : Type 0} (f g : ℕ → A) (i : ℕ) (x : A) (j : ℕ) → f j ≡ g j → with_at f i x j ≡ with_at g i x j
with_at-alike f g i x j e = ap (λ y. if eqb j i then x else y) e

pub off-coordinator : (n : Node) → is_same_node n the_coordinator ≡ false → 1 ≤ n.0
off-coordinator n e = grind (arith, nat_tests)

-- and an event at a node leaves both alike
module _ (script : Script) (w v : machine.World) (a : AreAlike w v) (e : Event) (at : Node) (fails : Bool) (here : NodeEvent) where
  coord-alike : AreAlike (coord_did w e (coord_rule script w.coord here fails)) (coord_did v e (coord_rule script v.coord here fails))
  coord-alike =
      record {
        coord = ap (λ c. (coord_rule script c here fails).coord) a.coord;
        segs = a.segs;
        steps = ap (λ ss. ss ++ coordinator_step e (coord_rule script w.coord here fails) ∷ []) a.steps ∙ ap (λ c. v.steps ++ coordinator_step e (coord_rule script c here fails) ∷ []) a.coord;
        sent = ap (posted the_coordinator (coord_rule script w.coord here fails).coord.clock (coord_rule script w.coord here fails).marks) a.sent
            ∙ ap (λ c. posted the_coordinator (coord_rule script c here fails).coord.clock (coord_rule script c here fails).marks v.sent) a.coord;
      }

  seg-alike : 1 ≤ at.0 → AreAlike (seg_did w at e (seg_rule script (w.segs at.0) here fails)) (seg_did v at e (seg_rule script (v.segs at.0) here fails))
  seg-alike one =
      record {
        coord = a.coord;
        segs = λ i some. with_at-alike w.segs v.segs at.0 (seg_rule script (w.segs at.0) here fails).seg i (a.segs i some) ∙ ap (λ s. with_at v.segs at.0 (seg_rule script s here fails).seg i) same;
        steps = ap (λ ss. ss ++ segment_step at e (seg_rule script (w.segs at.0) here fails) ∷ []) a.steps ∙ ap (λ s. v.steps ++ segment_step at e (seg_rule script s here fails) ∷ []) same;
        sent = ap (posted at (seg_rule script (w.segs at.0) here fails).seg.clock (seg_rule script (w.segs at.0) here fails).marks) a.sent
            ∙ ap (λ s. posted at (seg_rule script s here fails).seg.clock (seg_rule script s here fails).marks v.sent) same;
      }
    where
      same : w.segs at.0 ≡ v.segs at.0
      same = a.segs at.0 one

  pub does-alike : AreAlike (does script w e at fails (Some here)) (does script v e at fails (Some here))
  does-alike = by_node (is_same_node at the_coordinator) refl
    where
      by_node : (b : Bool) → is_same_node at the_coordinator ≡ b
          → AreAlike (if b then coord_did w e (coord_rule script w.coord here fails) else seg_did w at e (seg_rule script (w.segs at.0) here fails)) (if b then coord_did v e (coord_rule script v.coord here fails) else seg_did v at e (seg_rule script (v.segs at.0) here fails))
      by_node true same = coord-alike
      by_node false away = seg-alike (off-coordinator at away)

-- THE STEP
module _ (script : Script) (w : machine.World) (e : Event) (at : Node) (fails : Bool) (here : NodeEvent) where
  abbrev step_by : Bool → Step
  step_by b = if b then coordinator_step e (coord_rule script w.coord here fails) else segment_step at e (seg_rule script (w.segs at.0) here fails)

  abbrev pub step_of : Step
  step_of = step_by (is_same_node at the_coordinator)

  pub does-steps : (does script w e at fails (Some here)).steps ≡ w.steps ++ step_of ∷ []
  does-steps = by_node (is_same_node at the_coordinator)
    where
      by_node : (b : Bool) → (if b then coord_did w e (coord_rule script w.coord here fails) else seg_did w at e (seg_rule script (w.segs at.0) here fails)).steps ≡ w.steps ++ step_by b ∷ []
      by_node true = refl
      by_node false = refl

  pub step-event : step_of.event ≡ e
  step-event = by_node (is_same_node at the_coordinator)
    where
      by_node : (b : Bool) → (step_by b).event ≡ e
      by_node true = refl
      by_node false = refl
