-- Rounds of the detector, and who waits for whom, told by what the nodes hold after a run that is reached.
use Rattle.std.proofs.Common.{◌≡◌, ◌≤◌, List, [], ◌∷◌, Option, Some, None, Bool, true, false, refl, sym, subst, ap, ◌∙◌, if◌then◌else◌, ◌&&◌, not}
use Rattle.std.specs.List.{list_any}
use Rattle.std.specs.Prelude.{is_none, is_some}
use Rattle.gx_ids.specs.declared.ids.Node.{Node}
use Rattle.gx_locks.specs.Graphs.{graph_at}
use Rattle.gx_script.specs.declared.Script.{Script}
use Rattle.gx_store.specs.Cancelled.{wait_graph}
use Rattle.gx_store.specs.declared.event.Event.TheVariants.{Resend, Round}
use Rattle.gx_store.specs.declared.run.Step.{Step}
use Rattle.gx_store.specs.Points.{marks_in}
use Rattle.gx_store.specs.Refusals.{the_coordinator}
use Rattle.gx_store.specs.Schedule.{is_any_wait, is_graph_awaited, is_round_running, rounds, segments_of}
use Rattle.gx_rules.specs.AtCoordinator.{is_segment}
use Rattle.gx_rules.specs.Coordinators.{Coord}
use Rattle.gx_rules.specs.Rounds.{awaits_graph, can_begin}
use Rattle.gx_rules.specs.Segments.{Seg}
use Rattle.gx_law_runs.proofs.Graphs as graphs
use Rattle.gx_law_runs.proofs.RoundsEnabled.{AreRoundsTold, world-told}
use Rattle.gx_law_runs.specs.Reached.{IsReached}
use Rattle.gx_law_runs.specs.Replays.{coordinator_after, is_admitted, segment_after}
use Rattle.gx_law_runs.proofs.Reaching.{replayed, w}

module _ (script : Script) (steps : List Step) (some : 1 ≤ script.segments) (is : IsReached script steps) where
  told : AreRoundsTold script (w script steps is)
  told = world-told script some is.events

  -- ROUNDS
  pub graph-awaited : (segment : Node) → is_segment script segment ≡ true → is_graph_awaited steps segment ≡ is_admitted script steps (Resend segment None)
  graph-awaited segment place =
      ap (λ ss. is_graph_awaited ss segment) (sym is.is) ∙ told.awaited segment place ∙ ap (λ (c : Coord). awaits_graph c segment) (replayed script steps is).coordinator

  pub may-begin : is_admitted script steps Round ≡ (script.detector && not (is_round_running steps))
  may-begin =
      ap (can_begin script) (sym (replayed script steps is).coordinator)
      ∙ ap (λ b. script.detector && b) (none-not (w script steps is).coord.reports ∙ ap not (sym told.runs ∙ ap is_round_running is.is))
    where
      none-not : {A : Type 0} (o : Option A) → is_none o ≡ not (is_some o)
      none-not None = refl
      none-not (Some x) = refl

  pub rounds-now : rounds script steps ≡ (if is_admitted script steps Round && is_any_wait script (marks_in steps) then Round ∷ [] else [])
  rounds-now =
      ap (λ (b : Bool). if b then Round ∷ [] else [])
      (together script.detector (not (is_round_running steps)) (is_any_wait script (marks_in steps)) ∙ ap (λ b. b && is_any_wait script (marks_in steps)) (sym may-begin))
    where
      together : (a b c : Bool) → (a && (b && c)) ≡ ((a && b) && c)
      together true b c = refl
      together false b c = refl

  pub some-awaited : is_round_running steps ≡ true → list_any (is_graph_awaited steps) (segments_of script) ≡ true
  some-awaited = subst (λ ss. is_round_running ss ≡ true → list_any (is_graph_awaited ss) (segments_of script) ≡ true) is.is told.lacks

  -- WAIT GRAPHS
  pub graph-here : graph_at (coordinator_after script steps).locks ≡ wait_graph (marks_in steps) the_coordinator
  graph-here =
      ap (λ (c : Coord). graph_at c.locks) (sym (replayed script steps is).coordinator) ∙ graphs.graph-here script some is.events ∙ ap (λ ss. wait_graph (marks_in ss) the_coordinator) is.is

  pub graph-there : (segment : Node) → 1 ≤ segment.0 → graph_at (segment_after script segment steps).locks ≡ wait_graph (marks_in steps) segment
  graph-there segment one =
      ap (λ (s : Seg). graph_at s.locks) (sym ((replayed script steps is).segments segment.0 one)) ∙ graphs.graph-there script some is.events segment.0 one ∙ ap (λ ss. wait_graph (marks_in ss) segment) is.is
