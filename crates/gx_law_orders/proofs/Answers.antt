-- In every world a segment has sent no more messages than it has taken steps.
use Rattle.std.proofs.Common.{◌≡◌, ◌≤◌, ℕ, ◌+◌, Bool, true, false, cond, List, [], ◌∷◌, ◌++◌, length, refl, sym, subst, ap, ◌∙◌, arith, eqb}
use Rattle.std.proofs.lemmas.Bool.Decides.{nat_tests}
use Rattle.std.specs.Prelude.{filter}
use Rattle.gx_ids.specs.declared.ids.Gxid.{Gxid}
use Rattle.gx_ids.specs.declared.ids.Node.{Node}
use Rattle.gx_script.specs.declared.Script.{Script}
use Rattle.gx_store.specs.Journals.{is_same_node}
use Rattle.gx_store.specs.Ordered.{IsSegment, sent_in}
use Rattle.gx_store.specs.Refusals.{the_coordinator}
use Rattle.gx_store.specs.declared.event.Event.{Event}
use Rattle.gx_store.specs.declared.mark.Mark.{Mark}
use Rattle.gx_store.specs.declared.node.NodeEvent.{NodeEvent}
use Rattle.gx_store.specs.declared.run.Step.{Step}
use Rattle.gx_rules.specs.AtCoordinator.{cancel_turn, coord_turn}
use Rattle.gx_rules.specs.AtSegment as segment
use Rattle.gx_rules.specs.AtSegment.{seg_rule}
use Rattle.gx_rules.specs.Machine.{World, and_cancelled, coord_did, new_world, seg_did, with_more, world_of}
use Rattle.gx_rules.specs.Segments.{Seg}
use Rattle.gx_rules.specs.Sending.{clock_after}
use Rattle.gx_rules.proofs.Turns.{with_more-last}
use Rattle.gx_law_order.proofs.AtSegments.{seg_stays}
use Rattle.gx_law_order.proofs.Induction.{IsThere, at-events}
use Rattle.gx_law_order.proofs.Moves.{HasNamed}
use Rattle.gx_law_order.proofs.Ordered.{Well, at-both, moves_well, world_well}
use Rattle.gx_law_order.proofs.Sent.{at}
use Rattle.gx_law_runs.proofs.QuietSegs.{seg-still}
use Rattle.gx_law_runs.proofs.Reaching.{by-events}
use Rattle.gx_law_runs.specs.Reached.{IsReached}
use Rattle.gx_law_orders.specs.Deliveries.{AreAnswersFew, steps_at}
use Rattle.gx_law_orders.proofs.Receipts.{count-push}

abbrev is_of : Node → Step → Bool
is_of node step = is_same_node step.stamp.node node

steps-push : (node : Node) (steps : List Step) (s : Step) → steps_at node (steps ++ s ∷ []) ≡ steps_at node steps + cond (is_of node s) 1 0
steps-push node steps s = count-push (is_of node) steps s

grown : (node : Node) (steps : List Step) (s : Step) (a : ℕ) → a ≤ steps_at node steps → a ≤ steps_at node (steps ++ s ∷ [])
grown node steps s a l = subst (λ n. a ≤ n) (sym (steps-push node steps s)) (more a (steps_at node steps) (cond (is_of node s) 1 0) l)
  where
    more : (a b c : ℕ) → a ≤ b → a ≤ b + c
    more a b c l = omega arith

-- a victim's marks stand in a step that is there
same-stamps : (node : Node) (ss : List Step) (clock round : ℕ) (g : Gxid) → HasNamed ss clock round g → (ms : List Mark) → steps_at node (with_more ss ms) ≡ steps_at node ss
same-stamps node ss clock round g h ms =
    ap (λ q. steps_at node (with_more q ms)) h.is ∙ ap (steps_at node) (with_more-last h.before h.step ms) ∙ steps-push node h.before (record h.step { marks = h.step.marks ++ ms }) ∙ sym (steps-push node h.before h.step) ∙ sym (ap (steps_at node) h.is)

abbrev IsSparing : World → Type 0
IsSparing w = (i : ℕ) → 1 ≤ i → (w.segs i).sent ≤ steps_at (at i) w.steps

module _ (script : Script) (w : World) (well : Well script w) (q : IsSparing w) where
  coord-sparing : (e : Event) (x : NodeEvent) (fails : Bool) → IsSparing (coord_did w e (coord_turn script w.coord x fails))
  coord-sparing e x fails i one = grown (at i) w.steps _ (w.segs i).sent (q i one)

  victim-sparing : (g : Gxid) → HasNamed w.steps w.coord.clock w.coord.rounds g → IsSparing (and_cancelled w g)
  victim-sparing g h i one = subst (λ n. (w.segs i).sent ≤ n) (sym (same-stamps (at i) w.steps w.coord.clock w.coord.rounds g h (cancel_turn w.coord g).marks)) (q i one)

  module _ (e : Event) (x : NodeEvent) (fails : Bool) (i : ℕ) (place : IsSegment script (at i)) where
    abbrev s : Seg
    s = w.segs i

    abbrev seg_step : Step
    seg_step = record { stamp = record { clock = clock_after s.clock x; node = at i }; event = e; marks = (seg_rule script s x fails).marks }

    own : (seg_rule script s x fails).seg.sent ≤ steps_at (at i) (w.steps ++ seg_step ∷ [])
    own =
        subst (λ n. (seg_rule script s x fails).seg.sent ≤ n) (sym (steps-push (at i) w.steps seg_step ∙ ap (λ b. steps_at (at i) w.steps + cond b 1 0) (eqb-same i)))
        (adds (segment.on_event script s x fails).seg.sent s.sent (steps_at (at i) w.steps) _ (seg_stays script s (subst (IsSegment script) (sym (well.names i)) place) x fails).sent (seg-still script s x fails).outs (q i place.0))
      where
        eqb-same : (a : ℕ) → eqb a a ≡ true
        eqb-same a = grind (arith, nat_tests)

        adds : (a b n k : ℕ) → a ≡ b → k ≤ 1 → b ≤ n → a + k ≤ n + 1
        adds a b n k e l h = omega arith

    seg-sparing : IsSparing (seg_did w (at i) e (seg_rule script s x fails))
    seg-sparing =
        at-both (λ j (z : Seg). 1 ≤ j → z.sent ≤ steps_at (at j) (w.steps ++ seg_step ∷ [])) w.segs i _ (λ one. own)
        (λ j no one. grown (at j) w.steps seg_step (w.segs j).sent (q j one))

module _ (script : Script) (some : 1 ≤ script.segments) where
  world-sparing : (es : List (Event × Bool)) → IsSparing (world_of script es)
  world-sparing =
      at-events script some (Well script) IsSparing (moves_well script some) (λ i one. least (steps_at (at i) [])) (λ w k q e x fails t ok next. coord-sparing script w k q e x fails)
      (λ w k q g h next. victim-sparing script w k q g h) (λ w k q e x fails i place t ok next. seg-sparing script w k q e x fails i place)
    where
      least : (a : ℕ) → 0 ≤ a
      least a = omega arith

  events-sparing : (es : List (Event × Bool)) → AreAnswersFew (world_of script es).steps
  events-sparing es node one = subst (λ n. n ≤ steps_at node (world_of script es).steps) ((world_well script some es).answered node.0 one) (world-sparing es node.0 one)

  pub answers-few : (steps : List Step) → IsReached script steps → AreAnswersFew steps
  answers-few steps is = by-events script steps is AreAnswersFew events-sparing
