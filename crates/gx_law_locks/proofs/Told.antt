-- In every run the marks tell of the coordinator's transactions: whose number was drawn, and who was asked to prepare or to commit.
use Rattle.std.proofs.Common.{◌≡◌, ◌≤◌, ◌⊎◌, inl, inr, ℕ, ◌+◌, List, [], ◌∷◌, ◌++◌, Bool, true, refl, sym, subst, ap, ◌∙◌}
use Rattle.std.proofs.lemmas.Bool.{or_left, or_right}
use Rattle.std.proofs.lemmas.List.{append_assoc}
use Rattle.gx_ids.specs.declared.ids.Gxid.{Gxid}
use Rattle.gx_script.specs.declared.Script.{Script}
use Rattle.gx_store.specs.declared.event.Event.{Event}
use Rattle.gx_store.specs.declared.mark.Mark.{Mark}
use Rattle.gx_store.specs.declared.node.NodeEvent.{NodeEvent}
use Rattle.gx_store.specs.declared.run.Step.{Step}
use Rattle.gx_store.specs.Marks.{start_count}
use Rattle.gx_store.specs.Ordered.{IsSegment}
use Rattle.gx_store.specs.Points.{marks_in}
use Rattle.gx_store.specs.Refusals.{the_coordinator}
use Rattle.gx_store.specs.Rounds.{is_committing}
use Rattle.gx_rules.specs.AtCoordinator.{cancels, coord_sends, coord_turn, on_event}
use Rattle.gx_rules.specs.AtSegment.{seg_rule}
use Rattle.gx_rules.specs.Coordinators.{CoordTurn}
use Rattle.gx_rules.specs.Machine.{World, and_cancelled, coord_did, seg_did, world_of}
use Rattle.gx_rules.specs.Sending.{clock_after, numbered}
use Rattle.gx_law_order.proofs.Induction.{after_turn, at-events, marks-by-event, marks-by-victim}
use Rattle.gx_law_order.specs.Lists.{Each}
use Rattle.gx_law_order.proofs.More.{marks-last}
use Rattle.gx_law_order.proofs.Numbers.{IsNumbered, NoStart, calm-more, cancel-numbered, event-numbered}
use Rattle.gx_law_order.proofs.Ordered.{seg_marks}
use Rattle.gx_law_order.proofs.Sent.{at}
use Rattle.gx_law_order.specs.Stages.{stage_of}
use Rattle.gx_law_order.specs.Standings.{gx}
use Rattle.gx_law_order.specs.Stages.Stage.{Closing}
use Rattle.gx_law_order.proofs.World.{Knows, moves_knows}
use Rattle.gx_law_locks.proofs.Asked.{Asked, cancel-asks, event-asks}
use Rattle.gx_law_locks.proofs.Closing.{AreAsked}
use Rattle.gx_law_locks.proofs.Starts.{committing-append, is_posted, posted-more, segment-starts-none, sent-starts-none}

-- WHAT MARKS TELL OF THE TABLE
-- the next number is behind all Start marks; whoever is on its way to a commit was asked; whoever was asked by a mark was asked by a letter
pub record IsTold (w : World) : Type 0 where
  pub next : w.coord.table.next.0 ≡ start_count (marks_in w.steps) + 1
  pub closing : (h : ℕ) → stage_of w.coord h ≡ Closing → is_committing (marks_in w.steps) (gx h) ≡ true
  pub asked : (g : Gxid) → is_committing (marks_in w.steps) g ≡ true → is_posted w.sent g ≡ true

module _ (w : World) (t : IsTold w) where
  -- a single turn of the coordinator, with what it sends
  turn-told : (turn : CoordTurn) (clock : ℕ) (steps : List Step) → IsNumbered (marks_in w.steps) turn → Asked w.coord turn → marks_in steps ≡ marks_in w.steps ++ (coord_sends clock turn).marks → IsTold (after_turn w clock turn steps)
  turn-told turn clock steps n a same =
      record {
        next = n.stands ∙ ap (λ k. k + 1) (sym (calm-more (marks_in w.steps ++ turn.marks) sent (sent-starts-none turn.coord.sent turn.outs)) ∙ ap start_count behind);
        closing = λ h q. by_way h (a.closing h q);
        asked = λ g q. posted-more the_coordinator clock (marks_in w.steps) (turn.marks ++ sent) w.sent g (t.asked g) (subst (λ ms. is_committing ms g ≡ true) same q);
      }
    where
      sent : List Mark
      sent = numbered turn.coord.sent turn.outs

      behind : (marks_in w.steps ++ turn.marks) ++ numbered turn.coord.sent turn.outs ≡ marks_in steps
      behind = append_assoc (marks_in w.steps) turn.marks (numbered turn.coord.sent turn.outs) ∙ sym same

      by_way : (h : ℕ) → (stage_of w.coord h ≡ Closing) ⊎ AreAsked turn.outs h → is_committing (marks_in steps) (gx h) ≡ true
      by_way h (inl q) =
          subst (λ ms. is_committing ms (gx h) ≡ true) (sym same)
          (committing-append (marks_in w.steps) (turn.marks ++ sent) (gx h) ∙ or_left (is_committing (marks_in w.steps) (gx h)) (is_committing (turn.marks ++ sent) (gx h)) (t.closing h q))
      by_way h (inr q) =
          subst (λ ms. is_committing ms (gx h) ≡ true) behind
          (committing-append (marks_in w.steps ++ turn.marks) sent (gx h) ∙ or_right (is_committing (marks_in w.steps ++ turn.marks) (gx h)) (is_committing sent (gx h)) (q turn.coord.sent))

  serve-told : (script : Script) → Knows script w → (e : Event) (x : NodeEvent) (fails : Bool) (i : ℕ) → IsSegment script (at i) → IsTold (seg_did w (at i) e (seg_rule script (w.segs i) x fails))
  serve-told script k e x fails i place =
      record {
        next = t.next ∙ ap (λ n. n + 1) (sym (calm-more (marks_in w.steps) ms quiet) ∙ ap start_count (sym same));
        closing = λ h q.
            subst (λ m. is_committing m (gx h) ≡ true) (sym same)
            (committing-append (marks_in w.steps) ms (gx h) ∙ or_left (is_committing (marks_in w.steps) (gx h)) (is_committing ms (gx h)) (t.closing h q));
        asked = λ g q. posted-more (at i) (seg_rule script (w.segs i) x fails).seg.clock (marks_in w.steps) ms w.sent g (t.asked g) (subst (λ m. is_committing m g ≡ true) same q);
      }
    where
      ms : List Mark
      ms = (seg_rule script (w.segs i) x fails).marks

      s : Step
      s = record { stamp = record { clock = (seg_rule script (w.segs i) x fails).seg.clock; node = at i }; event = e; marks = (seg_rule script (w.segs i) x fails).marks }

      same : marks_in (w.steps ++ record { stamp = record { clock = (seg_rule script (w.segs i) x fails).seg.clock; node = at i }; event = e; marks = (seg_rule script (w.segs i) x fails).marks } ∷ [])
          ≡ marks_in w.steps ++ (seg_rule script (w.segs i) x fails).marks
      same = marks-last w.steps s

      quiet : Each NoStart (seg_rule script (w.segs i) x fails).marks
      quiet = segment-starts-none script i place.0 (seg_rule script (w.segs i) x fails).marks (seg_marks script w k.well e x fails i place)

module _ (script : Script) (some : 1 ≤ script.segments) where
  pub world-told : (es : List (Event × Bool)) → IsTold (world_of script es)
  world-told =
      at-events script some (Knows script) IsTold (moves_knows script some) (record { next = refl; closing = λ h q. absurd (cc); asked = λ g q. absurd (cc) })
      (λ w k t e x fails there ok next.
      turn-told w t (on_event script w.coord x fails) (clock_after w.coord.clock x) (coord_did w e (coord_turn script w.coord x fails)).steps
      (event-numbered (marks_in w.steps) script w.coord x fails t.next) (event-asks w.coord script k.kept.whole x fails) (marks-by-event script w e x fails))
      (λ w k t g h next.
      turn-told w t (cancels w.coord g) w.coord.clock (and_cancelled w g).steps (cancel-numbered (marks_in w.steps) w.coord g t.next) (cancel-asks w.coord k.kept.whole g) (marks-by-victim w g h))
      (λ w k t e x fails i place there ok next. serve-told w t script k e x fails i place)
