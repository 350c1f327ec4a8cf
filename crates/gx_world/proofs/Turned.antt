-- A node's step, as its code does it, is one of the machine.
use Rattle.std.proofs.Common.{◌≡◌, inl, inr, ℕ, List, [], ◌∷◌, ◌++◌, refl, sym, subst, ap, ◌∙◌, if◌then◌else◌, length, All}
use Rattle.std.proofs.lemmas.List.Elements.{All-weaker}
use Rattle.std.specs.Prelude.{slice_get}
use Rattle.gx_ids.specs.declared.ids.Node.{Node}
use Rattle.gx_outside.specs.Shelves.{Shelf}
use Rattle.gx_node.specs.Orders.{Took}
use Rattle.gx_script.specs.declared.Script.{Script}
use Rattle.gx_store.specs.declared.event.Event.{Event}
use Rattle.gx_store.specs.declared.mark.Mark.{Mark}
use Rattle.gx_store.specs.declared.mark.Mark.TheVariants as mark
use Rattle.gx_store.specs.declared.node.NodeEvent.{NodeEvent}
use Rattle.gx_store.specs.declared.run.Run.{Run}
use Rattle.gx_store.specs.declared.run.Step.{Step}
use Rattle.gx_store.specs.Journals.{is_same_node}
use Rattle.gx_store.specs.Ordered.{IsAtNode}
use Rattle.gx_store.specs.Refusals.{the_coordinator}
use Rattle.gx_rules.specs.AtCoordinator.{coord_rule}
use Rattle.gx_rules.specs.Machine as machine
use Rattle.gx_rules.specs.Machine.{coord_did, does, noted, posted, run_of, seg_did}
use Rattle.gx_coord.specs.declared.coord.Coord.{Coord}
use Rattle.gx_coord.specs.Steps as coord
use Rattle.gx_world.specs.Links.{ArePosted, IsAddressed, IsLong, link_in, places_from}
use Rattle.gx_world.specs.declared.network.Network.{Network}
use Rattle.gx_world.specs.Turns.{IsFit, IsNext}
use Rattle.gx_world.specs.Networks.{ArePlaced, HasTurned, Stands}
use Rattle.gx_world.proofs.Posted.{noted-placed, noted-posted}

-- marks that stand at their node are addressed
pub addressed : (script : Script) (node : Node) (ms : List Mark) → All (IsAtNode script node) ms → All (IsAddressed script.segments node) ms
addressed script node ms h = All-weaker (IsAtNode script node) (IsAddressed script.segments node) each ms h
  where
    each : (m : Mark) → IsAtNode script node m → IsAddressed script.segments node m
    each (mark.Sent to number told) (inl e) = inl (e.0, e.1.0, e.1.1)
    each (mark.Sent to number told) (inr e) = inr (e.0.0, e.0.1, e.1)
    each m e = tt

-- a step was pushed, and its messages were noted
pub record IsPushed (script : Script) (old new : Network) (step : Step) : Type 0 where
  pub run : new.run.steps ≡ old.run.steps ++ step ∷ []
  pub long : IsLong script.segments new.letters
  pub links : (f t : Node) → link_in new.letters f t ≡ link_in old.letters f t ++ (if is_same_node f step.stamp.node then places_from (length old.run.steps) 0 t step.marks else [])

abbrev pub made : Node → Event → ℕ → List Mark → Step
made node event clock marks = record { stamp = record { clock = clock; node = node }; event = event; marks = marks }

-- so the run and the letters are those of the machine
pub record AreKept (v : machine.World) (new : Network) : Type 0 where
  pub run : new.run ≡ run_of v
  pub letters : ArePosted new.letters new.run.steps v.sent
  pub placed : ArePlaced new.letters new.run.steps

module _ (script : Script) (w : machine.World) (old new : Network) (stands : Stands script w old) (node : Node) (event : Event) (step : Step) (clock : ℕ) (marks : List Mark) (same : step ≡ made node event clock marks) (fit : IsFit script w.steps node marks) (pushed : IsPushed script old new step) where
  same_steps : old.run.steps ≡ w.steps
  same_steps = ap (λ (r : Run). r.steps) stands.run

  new_steps : new.run.steps ≡ w.steps ++ made node event clock marks ∷ []
  new_steps = pushed.run ∙ ap (λ xs. xs ++ step ∷ []) same_steps ∙ ap (λ s. w.steps ++ s ∷ []) same

  new_links : (f t : Node) → link_in new.letters f t ≡ link_in old.letters f t ++ (if is_same_node f node then places_from (length w.steps) 0 t marks else [])
  new_links f t =
      pushed.links f t
      ∙ ap (λ xs. link_in old.letters f t ++ (if is_same_node f step.stamp.node then places_from (length xs) 0 t step.marks else [])) same_steps
      ∙ ap (λ (s : Step). link_in old.letters f t ++ (if is_same_node f s.stamp.node then places_from (length w.steps) 0 t s.marks else [])) same

  were_posted : ArePosted old.letters w.steps w.sent
  were_posted = subst (λ xs. ArePosted old.letters xs w.sent) same_steps stands.letters

  were_placed : ArePlaced old.letters w.steps
  were_placed = subst (ArePlaced old.letters) same_steps stands.placed

  pub are-kept : AreKept (noted w node clock event marks) new
  are-kept =
      record {
        run = ap (λ xs. let r : Run = record { steps = xs } in r) new_steps;
        letters = subst (λ xs. ArePosted new.letters xs (posted node clock marks w.sent)) (sym new_steps) (noted-posted w.steps w.sent (made node event clock marks) old.letters new.letters were_posted were_placed fit.numbers new_links);
        placed = subst (ArePlaced new.letters) (sym new_steps) (noted-placed w.steps w.sent (made node event clock marks) old.letters new.letters were_posted were_placed fit.numbers new_links);
      }

module _ (script : Script) (w : machine.World) (old new : Network) (stands : Stands script w old) (event : Event) (here : NodeEvent) (before after : Shelf) (told : List Mark) where
  -- THE COORDINATOR
  module _ (c : Coord) (step : Step) (is : step ≡ made the_coordinator event c.clock told) (next : IsNext script w event the_coordinator here) (h : coord.HasStepped old.coord c w.coord here before after told) where
    coord_marks : told ≡ (coord_rule script w.coord here h.fails).marks
    coord_marks = subst (λ x. told ≡ (coord_rule x w.coord here h.fails).marks) stands.coord_script h.told

    coord_is : coord.IsCoord c (coord_rule script w.coord here h.fails).coord
    coord_is = subst (λ x. coord.IsCoord c (coord_rule x w.coord here h.fails).coord) stands.coord_script h.is

    coord_fit : IsFit script w.steps the_coordinator (coord_rule script w.coord here h.fails).marks
    coord_fit = next h.fails _ refl

    pub coord-addressed : All (IsAddressed script.segments step.stamp.node) step.marks
    coord-addressed =
        subst (λ (s : Step). All (IsAddressed script.segments s.stamp.node) s.marks) (sym is)
        (subst (All (IsAddressed script.segments the_coordinator)) (sym coord_marks) (addressed script the_coordinator _ coord_fit.at))

    pub coord-turned : IsPushed script old new step → new ≡ record old { coord = c; letters = new.letters; run = new.run } → HasTurned script w event the_coordinator here new before after
    coord-turned pushed others =
        record {
          fails = h.fails;
          is = record {
            language = stands.language;
            of = ap (λ (x : Network). x.script.value) others ∙ stands.of;
            coord = subst (λ x. coord.IsCoord x (coord_rule script w.coord here h.fails).coord) (sym (ap (λ (x : Network). x.coord) others)) coord_is;
            coord_script = ap (λ (x : Network). x.coord.script.value) others ∙ ap (λ s. s.value) h.script ∙ stands.coord_script;
            coord_usable = ap (λ (x : Network). x.coord.spent) others ∙ h.usable;
            count = ap (λ (x : Network). length x.segments.items) others ∙ stands.count;
            segments = λ k s e. let a = stands.segments k s (ap (λ (x : Network). slice_get x.segments.items k) (sym others) ∙ e) in record { is = a.is; of = a.of; usable = a.usable };
            run = kept.run;
            long = pushed.long;
            letters = kept.letters;
            placed = kept.placed;
            usable = ap (λ (x : Network). x.spent) others ∙ stands.usable;
          };
          took = subst (λ x. Took before after h.fails (coord_rule x w.coord here h.fails).item) stands.coord_script h.took;
        }
      where
        kept : AreKept (noted w the_coordinator (coord_rule script w.coord here h.fails).coord.clock event (coord_rule script w.coord here h.fails).marks) new
        kept =
            are-kept script w old new stands the_coordinator event step _ _
            (is ∙ ap (λ k. made the_coordinator event k told) coord_is.clock ∙ ap (made the_coordinator event (coord_rule script w.coord here h.fails).coord.clock) coord_marks) coord_fit pushed
