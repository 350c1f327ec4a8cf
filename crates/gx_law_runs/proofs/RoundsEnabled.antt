-- What is enabled of rounds is told by what the coordinator holds of them.
use Rattle.std.proofs.Common.{◌≡◌, ◌≤◌, ℕ, zero, suc, ◌+◌, List, [], Option, None, Some, Bool, true, false, refl, sym, ap, ◌∙◌, ◌&&◌, ◌||◌, not, arith}
use Rattle.std.proofs.lemmas.Bool.Decides.{nat_tests}
use Rattle.std.specs.List.{list_all, list_any}
use Rattle.std.specs.Prelude.{is_some, map, nat_le}
use Rattle.gx_ids.specs.declared.ids.Node.{Node}
use Rattle.gx_detect.specs.Rounds.{are_all}
use Rattle.gx_meaning.specs.Plan.{nodes_from}
use Rattle.gx_script.specs.declared.Script.{Script}
use Rattle.gx_store.specs.declared.event.Event.{Event}
use Rattle.gx_store.specs.Ordered.{IsSegment}
use Rattle.gx_store.specs.Schedule.{is_graph_awaited, is_graph_received, is_round_running, round_count, segments_of}
use Rattle.gx_waits.specs.declared.graph.LocalGraph.{LocalGraph}
use Rattle.gx_rules.specs.AtCoordinator.{is_segment}
use Rattle.gx_rules.specs.Machine.{World, world_of}
use Rattle.gx_rules.specs.Rounds.{awaits_graph}
use Rattle.gx_law_order.proofs.Sent.{at}
use Rattle.gx_law_locks.proofs.Rounded.{AreFirst, Rounded, first_now}
use Rattle.gx_law_locks.proofs.Steps.{received-is}
use Rattle.gx_law_locks.proofs.RoundsInRuns.{rounds-held, running-is, world-rounded}

pub record AreRoundsTold (script : Script) (w : World) : Type 0 where
  pub runs : is_round_running w.steps ≡ is_some w.coord.reports
  pub awaited : (segment : Node) → is_segment script segment ≡ true → is_graph_awaited w.steps segment ≡ awaits_graph w.coord segment
  pub lacks : is_round_running w.steps ≡ true → list_any (is_graph_awaited w.steps) (segments_of script) ≡ true

-- where not all of a row have one, some lacks it
some-lacks : (f : Node → Option LocalGraph) (t : Node → Bool) → ((i : Node) → t i ≡ not (is_some (f i))) → (k n : ℕ) → list_all is_some (map f (nodes_from k n)) ≡ false → list_any t (nodes_from k n) ≡ true
some-lacks f t same k zero e = absurd (cc)
some-lacks f t same k (suc n) e = ap (λ b. b || list_any t (nodes_from (k + 1) n)) (same (at k)) ∙ by_first (is_some (f (at k))) e (some-lacks f t same (k + 1) n)
  where
    by_first : (b : Bool) → (b && list_all is_some (map f (nodes_from (k + 1) n))) ≡ false → (list_all is_some (map f (nodes_from (k + 1) n)) ≡ false → list_any t (nodes_from (k + 1) n) ≡ true)
        → (not b || list_any t (nodes_from (k + 1) n)) ≡ true
    by_first true e later = later e
    by_first false e later = refl

-- a round that runs lacks the graph of some segment
graph-lacks : (script : Script) (w : World) → Rounded script w → is_round_running w.steps ≡ true → list_any (is_graph_awaited w.steps) (segments_of script) ≡ true
graph-lacks script w r runs = by_reports w.coord.reports (sym (running-is script w r) ∙ runs) r.coord.reports r.coord.missing
  where
    awaits : (i : Node) → is_graph_awaited w.steps i ≡ not (is_some (first_now w.steps i))
    awaits i = ap (λ b. b && not (is_graph_received [] i (round_count w.steps) w.steps)) runs ∙ ap not (received-is [] i (round_count w.steps) w.steps)

    by_reports : (o : Option (List (Option LocalGraph))) → is_some o ≡ true → AreFirst script w.steps o → are_all o ≡ false → list_any (is_graph_awaited w.steps) (segments_of script) ≡ true
    by_reports None e are some = absurd (cc)
    by_reports (Some reports) e are some = some-lacks (first_now w.steps) (is_graph_awaited w.steps) awaits 1 script.segments (ap (list_all is_some) (sym are) ∙ some)

pub world-told : (script : Script) (some : 1 ≤ script.segments) (es : List (Event × Bool)) → AreRoundsTold script (world_of script es)
world-told script some es =
    let r = world-rounded script some es in
    record {
      runs = running-is script (world_of script es) r;
      awaited = λ i here. sym ((rounds-held script (world_of script es) r).coordinator.awaited i (place i here));
      lacks = graph-lacks script (world_of script es) r;
    }
  where
    place : (i : Node) → is_segment script i ≡ true → IsSegment script i
    place i e = (low i.0 script.segments e, high i.0 script.segments e)
      where
        low : (a n : ℕ) → (nat_le 1 a && nat_le a n) ≡ true → 1 ≤ a
        low a n e = grind (arith, nat_tests)

        high : (a n : ℕ) → (nat_le 1 a && nat_le a n) ≡ true → a ≤ n
        high a n e = grind (arith, nat_tests)
