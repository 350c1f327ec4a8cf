-- Over every run of the machine, transactions are numbered in the order of their Start marks.
use Rattle.std.proofs.Common.{◌≡◌, ◌≤◌, ℕ, ◌+◌, List, [], ◌∷◌, ◌++◌, Bool, refl, sym, subst, ap, ◌∙◌}
use Rattle.std.proofs.lemmas.List.{append_assoc}
use Rattle.gx_lemmas.proofs.Numbers.{one-le-zero}
use Rattle.gx_ids.specs.declared.ids.Node.{Node}
use Rattle.gx_msg.specs.declared.message.Out.{Out}
use Rattle.gx_script.specs.declared.Script.{Script}
use Rattle.gx_store.specs.declared.event.Event.{Event}
use Rattle.gx_store.specs.declared.mark.Mark.{Mark}
use Rattle.gx_store.specs.declared.mark.Mark.TheVariants as mark
use Rattle.gx_store.specs.declared.node.NodeEvent.{NodeEvent}
use Rattle.gx_store.specs.declared.run.Step.{Step}
use Rattle.gx_store.specs.Marks.{start_count}
use Rattle.gx_store.specs.Ordered.{IsAtNode, IsSegment}
use Rattle.gx_store.specs.Points.{marks_in}
use Rattle.gx_rules.specs.AtCoordinator.{cancels, coord_sends, coord_turn, on_event}
use Rattle.gx_rules.specs.AtSegment.{seg_rule}
use Rattle.gx_rules.specs.Coordinators.{CoordTurn}
use Rattle.gx_rules.specs.Machine.{World, and_cancelled, coord_did, seg_did, world_of}
use Rattle.gx_rules.specs.Sending.{clock_after, counted, numbered}
use Rattle.gx_law_order.specs.Numbers.{AreStartsNumbered}
use Rattle.gx_law_order.specs.Lists.{Each}
use Rattle.gx_law_order.proofs.Numbers.{IsNumbered, NoStart, calm-more, calm-numbered, cancel-numbered, event-numbered, numbered-append}
use Rattle.gx_law_order.proofs.Induction.{after_turn, at-events, marks-by-event, marks-by-victim}
use Rattle.gx_law_order.proofs.More.{marks-last}
use Rattle.gx_law_order.proofs.Ordered.{Well, moves_well, seg_marks}
use Rattle.gx_law_order.proofs.Sent.{at}

record Counts (w : World) : Type 0 where
  marks : AreStartsNumbered [] (marks_in w.steps)
  stands : w.coord.table.next.0 ≡ start_count (marks_in w.steps) + 1

sent-calm : (f : ℕ → ℕ) (outs : List Out) → Each NoStart (numbered f outs)
sent-calm f [] = tt
sent-calm f (o ∷ outs) = (tt, sent-calm (counted f o) outs)

segment-calm : (script : Script) (i : ℕ) → 1 ≤ i → (ms : List Mark) → Each (IsAtNode script (at i)) ms → Each NoStart ms
segment-calm script i one [] e = tt
segment-calm script i one (mark.Start g s ∷ ms) e = absurd (one-le-zero i one (ap (λ (n : Node). n.0) e.0))
segment-calm script i one (m ∷ ms) e = (tt, segment-calm script i one ms e.1)

-- ONE MOVE
module _ (script : Script) (w : World) (k : Counts w) where
  -- a single turn of the coordinator, with what it sends
  turn-counts : (turn : CoordTurn) (clock : ℕ) (steps : List Step) → IsNumbered (marks_in w.steps) turn → marks_in steps ≡ marks_in w.steps ++ (coord_sends clock turn).marks → Counts (after_turn w clock turn steps)
  turn-counts turn clock steps f marks =
      record {
        marks = subst (AreStartsNumbered []) (sym marks)
            (numbered-append [] (marks_in w.steps) (turn.marks ++ sent) k.marks (numbered-append (marks_in w.steps) turn.marks sent f.marks (calm-numbered (marks_in w.steps ++ turn.marks) sent quiet)));
        stands = f.stands ∙ ap (λ n. n + 1) (sym (calm-more (marks_in w.steps ++ turn.marks) sent quiet) ∙ ap start_count (append_assoc (marks_in w.steps) turn.marks sent ∙ sym marks));
      }
    where
      sent : List Mark
      sent = numbered turn.coord.sent turn.outs

      quiet : Each NoStart sent
      quiet = sent-calm turn.coord.sent turn.outs

  serve-counts : Well script w → (e : Event) (x : NodeEvent) (fails : Bool) (j : ℕ) → IsSegment script (at j) → Counts (seg_did w (at j) e (seg_rule script (w.segs j) x fails))
  serve-counts well e x fails j place =
      let ms : List Mark = (seg_rule script (w.segs j) x fails).marks in
      let quiet : Each NoStart ms = segment-calm script j place.0 ms (seg_marks script w well e x fails j place) in
      record {
        marks = subst (AreStartsNumbered []) (sym (marks-last w.steps _)) (numbered-append [] (marks_in w.steps) ms k.marks (calm-numbered (marks_in w.steps) ms quiet));
        stands = k.stands ∙ ap (λ n. n + 1) (sym (calm-more (marks_in w.steps) ms quiet) ∙ ap start_count (sym (marks-last w.steps _)));
      }

-- ALL WORLDS
module _ (script : Script) (some : 1 ≤ script.segments) where
  pub starts-numbered : (es : List (Event × Bool)) → AreStartsNumbered [] (marks_in (world_of script es).steps)
  starts-numbered es =
      (at-events script some (Well script) Counts (moves_well script some) (record { marks = tt; stands = refl })
      (λ w well k e x fails t ok next.
      turn-counts script w k (on_event script w.coord x fails) (clock_after w.coord.clock x) (coord_did w e (coord_turn script w.coord x fails)).steps
      (event-numbered (marks_in w.steps) script w.coord x fails k.stands) (marks-by-event script w e x fails))
      (λ w well k g h next.
      turn-counts script w k (cancels w.coord g) w.coord.clock (and_cancelled w g).steps (cancel-numbered (marks_in w.steps) w.coord g k.stands) (marks-by-victim w g h))
      (λ w well k e x fails j place t ok next. serve-counts script w k well e x fails j place) es).marks
