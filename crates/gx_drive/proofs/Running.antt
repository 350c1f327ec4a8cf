-- Rounds of the detector, by what is admitted.
use Rattle.std.proofs.Common.{◌≡◌, ◌≤◌, ℕ, ◌+◌, List, [], ◌∷◌, ◌++◌, Option, Some, None, Bool, true, false, not, ◌&&◌, if◌then◌else◌, refl, sym, ap, ◌∙◌, arith, length, append-nil}
use Rattle.std.proofs.lemmas.Bool.{and_parts}
use Rattle.std.proofs.lemmas.Bool.Decides.{nat_tests}
use Rattle.std.proofs.lemmas.List.Elements.{filter-append}
use Rattle.std.specs.Prelude.{filter, nat_le, nat_lt}
use Rattle.gx_ids.specs.declared.ids.Node.{Node}
use Rattle.gx_script.specs.declared.Script.{Script}
use Rattle.gx_store.specs.declared.event.Event.{Event}
use Rattle.gx_store.specs.declared.event.Event.TheVariants as event
use Rattle.gx_store.specs.declared.node.NodeEvent.{NodeEvent}
use Rattle.gx_store.specs.declared.run.Step.{Step}
use Rattle.gx_store.specs.Journals.{is_same_node}
use Rattle.gx_store.specs.Ordered.{IsSegment}
use Rattle.gx_store.specs.Points.{marks_in}
use Rattle.gx_store.specs.Refusals.{the_coordinator}
use Rattle.gx_store.specs.Schedule.{is_any_wait, is_graph_awaited, is_round, is_round_running, recheck_count, round_count, rounds}
use Rattle.gx_rules.specs.AtCoordinator.{coord_rule, is_segment}
use Rattle.gx_rules.specs.AtSegment.{seg_rule}
use Rattle.gx_rules.specs.Machine.{World, after, at_node, can, coord_did, does, happens, new_world, node_of, seg_did}
use Rattle.gx_law_runs.specs.Reached.{IsReached}
use Rattle.gx_law_runs.specs.Replays.{is_admitted}
use Rattle.gx_law_runs.proofs.Detecting.{graph-awaited, may-begin, rounds-now}
use Rattle.gx_law_runs.proofs.Reaching.{by-events}
use Rattle.gx_agenda.specs.Awaited.{AreNoGraphsBefore}

-- WITHOUT A DETECTOR
-- no round begins by a step that is none
one-more : (ss : List Step) (s : Step) → is_round s.event ≡ false → round_count ss ≡ 0 → round_count (ss ++ s ∷ []) ≡ 0
one-more ss s none is =
    ap length (filter-append (λ (step : Step). is_round step.event) ss (s ∷ []))
    ∙ ap (λ b. length (filter (λ (step : Step). is_round step.event) ss ++ (if b then s ∷ [] else []))) none
    ∙ ap length (append-nil (filter (λ (step : Step). is_round step.event) ss))
    ∙ is

module _ (script : Script) (off : script.detector ≡ false) where
  other : (w : World) (e : Event) → can script w e ≡ true → is_round e ≡ false
  other w (event.Receive from to number) ok = refl
  other w (event.Resume n g) ok = refl
  other w (event.Start s) ok = refl
  other w (event.End s) ok = refl
  other w (event.Resend i g) ok = refl
  other w (event.Restart n) ok = refl
  other w event.Round ok = absurd (apart script.detector off (and_parts script.detector _ ok).0)
    where
      apart : (b : Bool) → b ≡ false → b ≡ true → ⊥
      apart b f t = cc

  does-none : (w : World) (e : Event) (at : Node) (fails : Bool) (o : Option NodeEvent) → is_round e ≡ false → round_count w.steps ≡ 0 → round_count (does script w e at fails o).steps ≡ 0
  does-none w e at fails None plain none = none
  does-none w e at fails (Some here) plain none = by (is_same_node at the_coordinator)
    where
      by : (b : Bool) → round_count (if b then coord_did w e (coord_rule script w.coord here fails) else seg_did w at e (seg_rule script (w.segs at.0) here fails)).steps ≡ 0
      by true = one-more w.steps _ plain none
      by false = one-more w.steps _ plain none

  happens-none : (w : World) (e : Event) (fails : Bool) → round_count w.steps ≡ 0 → round_count (happens script w e fails).steps ≡ 0
  happens-none w e fails none = by (can script w e) refl
    where
      by : (b : Bool) → can script w e ≡ b → round_count (if b then does script w e (node_of e) fails (at_node w e) else w).steps ≡ 0
      by true ok = does-none w e (node_of e) fails (at_node w e) (other w e ok) none
      by false ok = none

  after-none : (es : List (Event × Bool)) (w : World) → round_count w.steps ≡ 0 → round_count (after script w es).steps ≡ 0
  after-none [] w none = none
  after-none (e ∷ es) w none = after-none es (happens script w e.0 e.1) (happens-none w e.0 e.1 none)

module _ (script : Script) (steps : List Step) (some : 1 ≤ script.segments) (is : IsReached script steps) where
  pub none-runs : script.detector ≡ false → false ≡ is_round_running steps
  none-runs off = below-none (recheck_count steps) ∙ sym (ap (nat_lt (recheck_count steps)) (by-events script steps is (λ ss. round_count ss ≡ 0) (λ es. after-none script off es new_world refl)))
    where
      below-none : (n : ℕ) → false ≡ nat_lt n 0
      below-none n = grind (arith, nat_tests)

  -- with one
  pub runs-unless : (b : Bool) → script.detector ≡ true → b ≡ not (is_admitted script steps event.Round) → b ≡ is_round_running steps
  runs-unless b on e = e ∙ ap not (may-begin script steps some is ∙ ap (λ d. d && not (is_round_running steps)) on) ∙ twice (is_round_running steps)
    where
      twice : (c : Bool) → not (not c) ≡ c
      twice true = refl
      twice false = refl

  -- GRAPHS
  is-there : (segment : Node) → IsSegment script segment → is_segment script segment ≡ true
  is-there segment there = by segment.0 script.segments there.0 there.1
    where
      by : (a n : ℕ) → 1 ≤ a → a ≤ n → (nat_le 1 a && nat_le a n) ≡ true
      by a n low high = grind (arith, nat_tests)

  pub awaited-as-admitted : (b : Bool) (segment : Node) → IsSegment script segment → b ≡ is_admitted script steps (event.Resend segment None) → b ≡ is_graph_awaited steps segment
  awaited-as-admitted b segment there e = e ∙ sym (graph-awaited script steps some is segment (is-there segment there))

  -- THE NEXT ROUND
  off-from : (a : Bool) → true ≡ not a → a ≡ false
  off-from true e = e
  off-from false e = refl

  on-from : (a : Bool) → false ≡ not a → a ≡ true
  on-from true e = refl
  on-from false e = e

  pub no-round : true ≡ not (is_admitted script steps event.Round) → [] ≡ rounds script steps
  no-round e =
      sym (rounds-now script steps some is ∙ ap (λ b. if b && is_any_wait script (marks_in steps) then event.Round ∷ [] else []) (off-from (is_admitted script steps event.Round) e))

  pub next-round : (b : Bool) → false ≡ not (is_admitted script steps event.Round) → b ≡ is_any_wait script (marks_in steps) → (if b then event.Round ∷ [] else []) ≡ rounds script steps
  next-round b e waits =
      ap (λ c. if c then event.Round ∷ [] else []) waits
      ∙ sym (rounds-now script steps some is ∙ ap (λ c. if c && is_any_wait script (marks_in steps) then event.Round ∷ [] else []) (on-from (is_admitted script steps event.Round) e))

-- BY SEGMENT
module _ (script : Script) (steps : List Step) where
  pub none-at-all : (k : ℕ) → script.segments + 1 ≤ k → AreNoGraphsBefore script steps k → (segment : Node) → IsSegment script segment → is_graph_awaited steps segment ≡ false
  none-at-all k past before segment there = before segment there (omega (arith, past, there.1))
