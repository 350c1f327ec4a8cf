-- Over every run of the machine, whoever a snapshot sees has ended, and whoever has committed is seen.
use Rattle.std.proofs.Common.{◌≡◌, ◌≤◌, ◌<◌, ℕ, List, [], ◌∷◌, ◌++◌, Bool, refl, sym, subst, ap, ◌∙◌, arith}
use Rattle.std.proofs.lemmas.List.{append_assoc}
use Rattle.gx_lemmas.proofs.Tests.{false-true}
use Rattle.gx_lemmas.proofs.Numbers.{one-le-zero}
use Rattle.gx_ids.specs.declared.ids.Node.{Node}
use Rattle.gx_msg.specs.declared.message.Out.{Out}
use Rattle.gx_script.specs.declared.Script.{Script}
use Rattle.gx_store.specs.declared.event.Event.{Event}
use Rattle.gx_store.specs.declared.mark.Mark.{Mark}
use Rattle.gx_store.specs.declared.mark.Mark.TheVariants as mark
use Rattle.gx_store.specs.declared.node.NodeEvent.{NodeEvent}
use Rattle.gx_store.specs.declared.run.Step.{Step}
use Rattle.gx_store.specs.Ordered.{IsAtNode, IsSegment}
use Rattle.gx_store.specs.Points.{marks_in}
use Rattle.gx_store.specs.Refusals.{the_coordinator}
use Rattle.gx_rules.specs.AtCoordinator.{cancels, coord_sends, coord_turn, on_event}
use Rattle.gx_rules.specs.AtSegment.{seg_rule}
use Rattle.gx_rules.specs.Coordinators.{Coord, CoordTurn}
use Rattle.gx_rules.specs.Machine.{World, and_cancelled, coord_did, new_world, seg_did, world_of}
use Rattle.gx_rules.specs.Sending.{clock_after, counted, numbered}
use Rattle.gx_law_order.specs.Seen.{AreEndedSeen}
use Rattle.gx_law_order.specs.Lists.{Each}
use Rattle.gx_law_order.proofs.Lines.{past-still}
use Rattle.gx_law_order.specs.Moves.{Move, world_by}
use Rattle.gx_law_order.proofs.Induction.{after_turn, at-moves, marks-by-event, marks-by-victim}
use Rattle.gx_law_order.proofs.More.{marks-last}
use Rattle.gx_law_order.proofs.Moves.{moves_after, world-moves}
use Rattle.gx_law_order.proofs.Ordered.{Well, moves_well, new_well, seg_marks}
use Rattle.gx_law_order.proofs.Turns.{Good}
use Rattle.gx_law_order.proofs.Past.{Still, seen-append, still-seen}
use Rattle.gx_law_order.specs.Past.{Past}
use Rattle.gx_law_order.proofs.Replies.{cancel-good, event-good}
use Rattle.gx_law_order.proofs.Sent.{at}
use Rattle.gx_law_order.specs.Sessions.{Kept}

pub record Knows (script : Script) (w : World) : Type 0 where
  pub well : Well script w
  pub kept : Kept script w.coord
  pub past : Past w.coord (marks_in w.steps)
  pub seen : AreEndedSeen [] (marks_in w.steps)

numbered-still : (f : ℕ → ℕ) (outs : List Out) → Each Still (numbered f outs)
numbered-still f [] = tt
numbered-still f (o ∷ outs) = (tt, numbered-still (counted f o) outs)

-- a segment's marks tell of no end
segment-still : (script : Script) (i : ℕ) → 1 ≤ i → (ms : List Mark) → Each (IsAtNode script (at i)) ms → Each Still ms
segment-still script i one [] e = tt
segment-still script i one (mark.Commit g ∷ ms) e = absurd (not-zero e.0)
  where
    not-zero : at i ≡ the_coordinator → ⊥
    not-zero q = one-le-zero i one (ap (λ (n : Node). n.0) q)
segment-still script i one (mark.Abort g ∷ ms) e = absurd (not-zero e.0)
  where
    not-zero : at i ≡ the_coordinator → ⊥
    not-zero q = one-le-zero i one (ap (λ (n : Node). n.0) q)
segment-still script i one (mark.Snap g c x ∷ ms) e = absurd (not-zero e.0)
  where
    not-zero : at i ≡ the_coordinator → ⊥
    not-zero q = one-le-zero i one (ap (λ (n : Node). n.0) q)
segment-still script i one (m ∷ ms) e = (tt, segment-still script i one ms e.1)

-- ONE MOVE
module _ (script : Script) (w : World) (n : Knows script w) where
  -- a single turn of the coordinator, with what it sends
  turn-knows : (turn : CoordTurn) (clock : ℕ) (steps : List Step) → Good script (marks_in w.steps) turn → marks_in steps ≡ marks_in w.steps ++ (coord_sends clock turn).marks → Well script (after_turn w clock turn steps) → Knows script (after_turn w clock turn steps)
  turn-knows turn clock steps f marks well =
      record {
        well = well;
        kept = record { whole = f.kept.whole; tied = f.kept.tied; placed = f.kept.placed; queued = f.kept.queued };
        past = subst (λ m. Past last m) (append_assoc (marks_in w.steps) turn.marks sent ∙ sym marks) (past-still turn.coord last (marks_in w.steps ++ turn.marks) sent f.past refl still);
        seen = subst (λ m. AreEndedSeen [] m) (sym marks) (seen-append [] (marks_in w.steps) (turn.marks ++ sent) n.seen (seen-append (marks_in w.steps) turn.marks sent f.seen (still-seen (marks_in w.steps ++ turn.marks) sent still)));
      }
    where
      last : Coord
      last = (coord_sends clock turn).coord

      sent : List Mark
      sent = numbered turn.coord.sent turn.outs

      still : Each Still sent
      still = numbered-still turn.coord.sent turn.outs

  serve-knows : (e : Event) (x : NodeEvent) (fails : Bool) (i : ℕ) → (place : IsSegment script (at i)) → Well script (seg_did w (at i) e (seg_rule script (w.segs i) x fails)) → Knows script (seg_did w (at i) e (seg_rule script (w.segs i) x fails))
  serve-knows e x fails i place well =
      let ms : List Mark = (seg_rule script (w.segs i) x fails).marks in
      let step : Step = record { stamp = record { clock = clock_after (w.segs i).clock x; node = at i }; event = e; marks = ms } in
      let still : Each Still ms = segment-still script i place.0 ms (seg_marks script w n.well e x fails i place) in
      record {
        well = well;
        kept = n.kept;
        past = subst (λ m. Past w.coord m) (sym (marks-last w.steps step)) (past-still w.coord w.coord (marks_in w.steps) ms n.past refl still);
        seen = subst (λ m. AreEndedSeen [] m) (sym (marks-last w.steps step)) (seen-append [] (marks_in w.steps) ms n.seen (still-seen (marks_in w.steps) ms still));
      }

-- ALL WORLDS
module _ (script : Script) (some : 1 ≤ script.segments) where
  pub new_knows : Knows script new_world
  new_knows =
      record {
        well = new_well script some;
        kept = record {
          whole = record { first = one; apart = tt; drawn = tt };
          tied = λ g. record { live = λ l. absurd (cc); closing = λ l. absurd (cc); awaits = λ m f r. absurd (cc); busy = λ m f. absurd (cc); waits = λ l f. absurd (cc) };
          placed = λ s. record { stands = λ o. absurd (false-true o); free = λ o n. absurd (false-true o) };
          queued = λ g. record { claims = refl; locks = λ l f. absurd (cc) };
        };
        past = record { committed = λ h e. absurd (false-true e); ended = λ h x y z. absurd (none h x y); dropped = λ h e. absurd (cc); latest = λ h x y z. absurd (none h x y); drawn = first };
        seen = tt;
      }
    where
      one : 1 ≤ 1
      one = omega arith

      first : 0 < 1
      first = omega arith

      none : (h : ℕ) → 1 ≤ h → h < 1 → ⊥
      none h x y = omega arith

  pub moves_knows : (ms : List Move) → Knows script (world_by script ms)
  moves_knows =
      at-moves script some (Well script) (Knows script) (moves_well script some) new_knows
      (λ w good n e x fails t ok well.
      turn-knows script w n (on_event script w.coord x fails) (clock_after w.coord.clock x) (coord_did w e (coord_turn script w.coord x fails)).steps
      (event-good script w.coord (marks_in w.steps) n.kept n.past x fails ok) (marks-by-event script w e x fails) well)
      (λ w good n g h well.
      turn-knows script w n (cancels w.coord g) w.coord.clock (and_cancelled w g).steps (cancel-good w.coord (marks_in w.steps) n.kept n.past g.0) (marks-by-victim w g h) well)
      (λ w good n e x fails i place t ok well. serve-knows script w n e x fails i place well)

  pub world_knows : (es : List (Event × Bool)) → Knows script (world_of script es)
  world_knows es = subst (Knows script) (sym (world-moves script es)) (moves_knows (moves_after script new_world es))
