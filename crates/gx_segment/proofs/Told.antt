-- What a round that asks for the graph comes to.
use Rattle.std.proofs.Common.{◌≡◌, ℕ, Bool, true, false, if◌then◌else◌, List, Option, Some, None, refl, sym, ap, ◌∙◌, subst, eqb}
use Rattle.std.specs.Prelude.{nat_lt}
use Rattle.gx_ids.specs.declared.ids.Node.{Node}
use Rattle.gx_tree.specs.declared.schema.Schema.{Schema}
use Rattle.gx_waits.specs.declared.graph.LocalGraph.{LocalGraph}
use Rattle.gx_locks.specs.Graphs.{graph_at}
use Rattle.gx_locks.specs.Locks.{Locks}
use Rattle.gx_rules.specs.AtSegment.{on_collect, reports, reports_again}
use Rattle.gx_rules.specs.Segments.{Seg, SegTurn, stays}
use Rattle.gx_slices.specs.Agrees.{IsHeld}
use Rattle.gx_slices.specs.declared.held.Held.{Held}
use Rattle.gx_segment.specs.Done.{Came, HasDone, IsQuiet}
use Rattle.gx_segment.specs.Reports.{kept, report_in, told, told_again, told_now}
use Rattle.gx_segment.specs.declared.collecting.LastReport.{LastReport}
use Rattle.gx_segment.proofs.Aside.{IsHeld-aside}

module _ (tables : List Schema) (held : Held) (s : Seg) (round : ℕ) where
  pub record HasCollected (did : Came) (last : LastReport) (turn : SegTurn) : Type 0 where
    pub done : HasDone tables held s.horizon did turn
    pub quiet : IsQuiet did.fails turn
    pub report : last ≡ report_in turn.seg

  abbrev graph : LocalGraph
  graph = graph_at s.locks

  abbrev told_by : Bool → Bool → Option LocalGraph → Came
  told_by new last before = if new then told_now s.node round graph else (if last then told_again round before else told_again round None)

  abbrev kept_by : Bool → LastReport
  kept_by new = if new then record { round = round; graph = Some graph } else report_in s

  abbrev turn_by : Bool → Bool → Option LocalGraph → SegTurn
  turn_by new last before = if new then reports s round graph else (if last then reports_again s round before else stays s)

  module _ (is : IsHeld tables held s) where
    collects-by : (new last : Bool) (before : Option LocalGraph) → HasCollected (told_by new last before) (kept_by new) (turn_by new last before)
    collects-by true last before = record {
      done = record { held = IsHeld-aside tables held s round (Some graph) s.sent s.clock is; horizon = refl; marks = refl; outs = refl };
      quiet = record { fails = refl; item = refl };
      report = refl;
    }
    collects-by false true None = record { done = record { held = is; horizon = refl; marks = refl; outs = refl }; quiet = record { fails = refl; item = refl }; report = refl }
    collects-by false true (Some told) = record { done = record { held = is; horizon = refl; marks = refl; outs = refl }; quiet = record { fails = refl; item = refl }; report = refl }
    collects-by false false before = record { done = record { held = is; horizon = refl; marks = refl; outs = refl }; quiet = record { fails = refl; item = refl }; report = refl }

    pub collects : (node : Node) (report last : LastReport) (did : Came) → node ≡ s.node → report ≡ report_in s → did ≡ told node held.locks report round → last ≡ kept held.locks report round → HasCollected did last (on_collect s round)
    collects node report last did n r d k =
        let did_is : did ≡ told s.node s.locks (report_in s) round =
        d ∙ ap (λ (i : Node). told i held.locks report round) n ∙ ap (λ (x : Locks). told s.node x report round) is.locks ∙ ap (λ (x : LastReport). told s.node s.locks x round) r in
        let last_is : last ≡ kept s.locks (report_in s) round = k ∙ ap (λ (x : Locks). kept x report round) is.locks ∙ ap (λ (x : LastReport). kept s.locks x round) r in
        subst (λ (x : Came). HasCollected x last (on_collect s round)) (sym did_is)
        (subst (λ (x : LastReport). HasCollected (told s.node s.locks (report_in s) round) x (on_collect s round)) (sym last_is)
        (collects-by (nat_lt s.round round) (eqb s.round round) s.graph))
