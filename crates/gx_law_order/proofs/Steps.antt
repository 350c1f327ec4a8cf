-- What each single turn keeps holds in every run of the machine.
use Rattle.std.proofs.Common.{◌≡◌, ◌≤◌, ℕ, List, [], ◌∷◌, ◌++◌, Bool, true, refl, sym, subst, ap, ◌∙◌}
use Rattle.gx_ids.specs.declared.ids.Gxid.{Gxid}
use Rattle.gx_ids.specs.declared.ids.Node.{Node}
use Rattle.gx_msg.specs.declared.message.Envelope.{Envelope}
use Rattle.gx_script.specs.declared.Script.{Script}
use Rattle.gx_store.specs.declared.event.Event.{Event}
use Rattle.gx_store.specs.declared.node.NodeEvent.{NodeEvent}
use Rattle.gx_store.specs.Ordered.{IsSegment}
use Rattle.gx_store.specs.Points.{marks_in}
use Rattle.gx_store.specs.Refusals.{the_coordinator}
use Rattle.gx_rules.specs.AtCoordinator.{cancels, coord_can, coord_turn, on_event}
use Rattle.gx_rules.specs.AtSegment.{seg_rule}
use Rattle.gx_rules.specs.Machine.{Letter, World, after, and_cancelled, coord_did, happens, new_world, seg_did, world_of}
use Rattle.gx_law_order.specs.Moves.{Move, moved, moved_by, world_by}
use Rattle.gx_law_order.proofs.Induction.{is-there, place-of}
use Rattle.gx_law_order.proofs.Letters.{IsFound, found_is}
use Rattle.gx_law_order.specs.Lists.{Each}
use Rattle.gx_law_order.proofs.Moves.{HasNamed, all-keep, happens-keeps, moved-ways, moves_after, next-move, world-moves}
use Rattle.gx_law_order.proofs.Waiting.{going-out}
use Rattle.gx_law_order.proofs.World.{Knows}
use Rattle.gx_law_order.specs.Standings.{at}
use Rattle.gx_law_order.proofs.Always.{HeardAt, IsGiven, SaidTo, Sound, heard-at, moves-sound, said-in, said-to}
use Rattle.gx_law_order.proofs.Events.{cancel-led, event-led}
use Rattle.gx_law_order.proofs.Everywhere.{Holds, parts_in}
use Rattle.gx_law_order.proofs.Ways.{Led}

-- a message that was given is found among the letters
pub given-is : (w : World) (e : Event) (i : ℕ) (from : Node) (envelope : Envelope) → (d : IsGiven w e i from envelope) → (P : Letter → Type 0) → Each P w.sent → IsFound P from (at i) d.number envelope
given-is w e i from envelope d P each = found_is P from (at i) d.number w.sent envelope each d.posted

-- a turn of either node keeps this
module _ (script : Script) (some : 1 ≤ script.segments) (Q : World → Type 0)
    (coord-keeps : (w : World) → Knows script w → Holds script w → Q w → (e : Event) (x : NodeEvent) (fails : Bool) → coord_can script w.coord x ≡ true → SaidTo w x → Q (coord_did w e (coord_turn script w.coord x fails)))
    (cancel-keeps : (w : World) → Knows script w → Holds script w → Q w → (g : Gxid) → HasNamed w.steps w.coord.clock w.coord.rounds g → Q (and_cancelled w g))
    (seg-keeps : (w : World) → Knows script w → Holds script w → Q w → (e : Event) (x : NodeEvent) (fails : Bool) (i : ℕ) → IsSegment script (at i) → HeardAt script w e i x → Q (seg_did w (at i) e (seg_rule script (w.segs i) x fails)))
  where
    move-keeps : (w : World) → Sound script w → Q w → (m : Move) → Q (moved script w m)
    move-keeps w k q m =
        moved-ways script w (λ m v. Q v) (λ m. q) (λ e x fails c ok. coord-keeps w k.knows k.holds q e x fails ok (said-to script w k.holds e x (is-there script w k.knows.well e the_coordinator x c)))
        (λ g h. cancel-keeps w k.knows k.holds q g h)
        (λ e x fails n away c ok. let place = place-of script w k.knows.well e x n away c ok in
        seg-keeps w k.knows k.holds q e x fails n.0 place (heard-at script w k.holds e x n.0 place.0 (is-there script w k.knows.well e n x c) ok))
        m

    -- a world that moves lead to, in which it holds
    record Kept (w : World) : Type 0 where
      moves : List Move
      is : w ≡ world_by script moves
      holds : Q w

    one-more : (m : Move) (w : World) → Kept w → Kept (moved script w m)
    one-more m w k =
        record {
          moves = k.moves ++ m ∷ [];
          is = ap (λ v. moved script v m) k.is ∙ sym (next-move script k.moves m);
          holds = move-keeps w (subst (Sound script) (sym k.is) (moves-sound script some k.moves)) k.holds m;
        }

    -- from a world on
    pub moves-keep-on : (done more : List Move) → Q (world_by script done) → Q (moved_by script (world_by script done) more)
    moves-keep-on done more q = (all-keep script Kept one-more more (world_by script done) (record { moves = done; is = refl; holds = q })).holds

    after-kept : (es : List (Event × Bool)) (w : World) → Kept w → Kept (after script w es)
    after-kept [] w k = k
    after-kept (e ∷ es) w k = after-kept es (happens script w e.0 e.1) (happens-keeps script Kept one-more w e.0 e.1 k)

    pub keeps-on : (done more : List (Event × Bool)) → Q (world_of script done) → Q (after script (world_of script done) more)
    keeps-on done more q = (after-kept more (world_of script done) (record { moves = moves_after script new_world done; is = world-moves script done; holds = q })).holds

    -- in every run
    pub moves-keep : Q new_world → (ms : List Move) → Q (world_by script ms)
    moves-keep new ms = moves-keep-on [] ms new

    pub world-keeps : Q new_world → (es : List (Event × Bool)) → Q (world_of script es)
    world-keeps new es = keeps-on [] es new

-- the coordinator's turns lead by the protocol
module _ (script : Script) (w : World) (k : Knows script w) (v : Holds script w) where
  pub event-leads : (x : NodeEvent) (fails : Bool) → coord_can script w.coord x ≡ true → SaidTo w x → Led script (parts_in w) w.coord (marks_in w.steps) (on_event script w.coord x fails)
  event-leads x fails ok d = event-led script (parts_in w) w.coord (marks_in w.steps) v.stands k.kept k.past (λ g. (k.well.coordinator.works g).writers) (going-out script w k) x fails ok (said-in script w k v x d)

  pub cancel-leads : (g : Gxid) → Led script (parts_in w) w.coord (marks_in w.steps) (cancels w.coord g)
  cancel-leads g = cancel-led script (parts_in w) w.coord (marks_in w.steps) v.stands k.kept k.past (λ g. (k.well.coordinator.works g).writers) g
