-- The machine in single moves: what an event does by itself, and then, of each whom a recheck has named, the cancelling.
use Rattle.std.specs.Prelude.{ℕ, ◌==◌, Bool, false, if◌then◌else◌, ◌&&◌, ◌||◌, List, [], ◌∷◌, map, Some, None}
use Rattle.std.specs.declared.option.Option.{Option}
use Rattle.gx_ids.specs.declared.ids.Gxid.{Gxid}
use Rattle.gx_ids.specs.declared.ids.Node.{Node}
use Rattle.gx_detect.specs.Inactive.{is_in}
use Rattle.gx_script.specs.declared.Script.{Script}
use Rattle.gx_store.specs.declared.event.Event.{Event}
use Rattle.gx_store.specs.declared.mark.Mark.{Mark}
use Rattle.gx_store.specs.declared.mark.Mark.TheVariants.{Recheck}
use Rattle.gx_store.specs.declared.node.NodeEvent.{NodeEvent}
use Rattle.gx_store.specs.declared.run.Step.{Step}
use Rattle.gx_store.specs.Journals.{is_same_node}
use Rattle.gx_store.specs.Refusals.{the_coordinator}
use Rattle.gx_waits.specs.declared.verdict.Verdict.TheVariants.{Victims}
use Rattle.gx_rules.specs.AtCoordinator.{coord_turn}
use Rattle.gx_rules.specs.Machine.{World, and_cancelled, at_node, can, does_by, new_world, node_of}
use Rattle.gx_rules.specs.Rounds.{victims_at}

pub data Move : Type 0 where
  Turn : (event : Event) (fails : Bool) → Move
  Cancel : (victim : Gxid) → Move

-- WHO IS NAMED
-- a recheck of this round has named the transaction
abbrev pub names : List Mark → ℕ → Gxid → Bool
names [] round g = false
names (Recheck r own (Victims victims) ∷ ms) round g = ((r == round) && is_in victims g) || names ms round g
names (_ ∷ ms) round g = names ms round g

-- the last step is the coordinator's, of this clock, and has named it
abbrev pub has_named : List Step → ℕ → ℕ → Gxid → Bool
has_named [] clock round g = false
has_named (s ∷ []) clock round g = is_same_node s.stamp.node the_coordinator && ((s.stamp.clock == clock) && names s.marks round g)
has_named (s ∷ t ∷ ss) clock round g = has_named (t ∷ ss) clock round g

abbrev pub cancelled : World → Gxid → World
cancelled w g = if has_named w.steps w.coord.clock w.coord.rounds g then and_cancelled w g else w

-- MOVES
abbrev pub moved : Script → World → Move → World
moved script w (Turn e fails) = if can script w e then does_by (coord_turn script) script w e (node_of e) fails (at_node w e) else w
moved script w (Cancel g) = cancelled w g

abbrev pub moved_by : Script → World → List Move → World
moved_by script w [] = w
moved_by script w (m ∷ ms) = moved_by script (moved script w m) ms

abbrev pub world_by : Script → List Move → World
world_by script moves = moved_by script new_world moves

-- the moves of an event of the machine
abbrev pub victims_there : World → Node → Option NodeEvent → List Gxid
victims_there w at None = []
victims_there w at (Some here) = if is_same_node at the_coordinator then victims_at w.coord here else []

abbrev pub moves_of : Script → World → Event → Bool → List Move
moves_of script w e fails = Turn e fails ∷ (if can script w e then map Cancel (victims_there w (node_of e) (at_node w e)) else [])
