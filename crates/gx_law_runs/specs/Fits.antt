-- Which messages are let through by the tests of whom they come to: commands and orders by those of a segment, answers that are awaited by
-- those of the coordinator.
use Rattle.std.specs.Prelude.{◌≡◌, ◌≤◌, true, false, List, [], ◌∷◌, Some}
use Rattle.gx_ids.specs.declared.ids.Gxid.{Gxid}
use Rattle.gx_ids.specs.declared.ids.Node.{Node}
use Rattle.gx_msg.specs.declared.message.Message.{Message}
use Rattle.gx_msg.specs.declared.message.Message.TheVariants as message
use Rattle.gx_msg.specs.declared.reply.Reply.TheVariants as reply
use Rattle.gx_script.specs.declared.Script.{Script}
use Rattle.gx_store.specs.Marks.{is_aborted}
use Rattle.gx_store.specs.Points.{marks_in}
use Rattle.gx_store.specs.Refusals.{the_coordinator}
use Rattle.gx_rules.specs.AtCoordinator.{is_awaited}
use Rattle.gx_rules.specs.Coordinators.{Command, work_of}
use Rattle.gx_rules.specs.Fits.{fits_exec, fits_part, is_waiting}
use Rattle.gx_rules.specs.Machine.{Letter, World}
use Rattle.gx_rules.specs.Rounds.{awaits_graph, is_report}
use Rattle.gx_rules.specs.Segments.{has_ended, local_of}

-- no slice of the transaction waits at the node once it has aborted
abbrev pub HasNoLateWait : World → Node → Gxid → Type 0
HasNoLateWait w node g = is_waiting (local_of (w.segs node.0) g) ≡ true → is_aborted (marks_in w.steps) g ≡ false

-- A command of a transaction that hasn't ended at the segment is let through. So are PREPARE and COMMIT, for which no slice may wait there.
-- The others are tested by the horizon alone.
abbrev pub FitsThere : Script → World → Node → Message → Type 0
FitsThere script w node (message.Exec g c level snapshot horizon slice) =
    has_ended (local_of (w.segs node.0) g).phase ≡ false → HasNoLateWait w node g → fits_exec script (w.segs node.0) g c snapshot horizon slice ≡ true
FitsThere script w node (message.Prepare g) = HasNoLateWait w node g → is_waiting (local_of (w.segs node.0) g) ≡ false
FitsThere script w node (message.Commit g) = HasNoLateWait w node g → is_waiting (local_of (w.segs node.0) g) ≡ false
FitsThere script w node _ = Unit {0}

-- the part of an answer to the command under way that is awaited of the segment, and a graph of the round that runs, are taken
abbrev pub FitsHere : World → Node → Message → Type 0
FitsHere w from (message.Answer g (reply.Done c wrote count part)) = (k : Command) → (work_of w.coord g).command ≡ Some k → is_awaited k from c ≡ true → fits_part k.stmt part ≡ true
FitsHere w from (message.Graph round graph) = round ≡ w.coord.rounds → awaits_graph w.coord from ≡ true → is_report w.coord from round graph ≡ true
FitsHere w from _ = Unit {0}

-- each of these letters, by the nodes as they stand
abbrev pub DoLettersFit : Script → World → List Letter → Type 0
DoLettersFit script w [] = Unit {0}
DoLettersFit script w (l ∷ ls) =
    ((l.from ≡ the_coordinator → FitsThere script w l.to l.envelope.message) × (1 ≤ l.from.0 → FitsHere w l.from l.envelope.message)) × DoLettersFit script w ls
