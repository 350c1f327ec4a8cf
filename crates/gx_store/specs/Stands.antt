-- Where the rows stand that a step tells of.
use Rattle.std.specs.Prelude.{◌≡◌, ◌⊎◌, List, [], ◌∷◌, ◌++◌, Some, None}
use Rattle.gx_ids.specs.declared.ids.Node.{Node}
use Rattle.gx_msg.specs.declared.message.Message.TheVariants as message
use Rattle.gx_msg.specs.declared.reply.Cause.TheVariants as cause
use Rattle.gx_msg.specs.declared.reply.Reply.TheVariants as reply
use Rattle.gx_store.specs.declared.mark.Mark.{Mark}
use Rattle.gx_store.specs.declared.mark.Mark.TheVariants.{Fault, Sent, Skip}
use Rattle.gx_store.specs.declared.run.Step.{Step}
use Rattle.gx_store.specs.Marks.{node_of}
use Rattle.gx_store.specs.Points.{Point, before}
use Rattle.gx_store.specs.Refusals.{the_coordinator}

-- A row that a command skips, on which it faults, or of which it is said that it was overtaken, stands at the step's node. At the
-- coordinator only an INSERT's constants fault, of a row that isn't there.
abbrev pub StandsAt : Node → Point → Mark → Type 0
StandsAt node point (Skip g c rid) = node_of (before point) rid ≡ Some node
StandsAt node point (Fault g c rid image) = ((node ≡ the_coordinator) × (image ≡ None)) ⊎ (node_of (before point) rid ≡ Some node)
StandsAt node point (Sent to number (message.Answer g (reply.Failed c (cause.Serialization rid h)))) = node_of (before point) rid ≡ Some node
StandsAt node point _ = Unit {0}

abbrev pub DoMarksStand : List Step → Step → List Mark → List Mark → Type 0
DoMarksStand steps step earlier [] = Unit {0}
DoMarksStand steps step earlier (m ∷ ms) =
    StandsAt step.stamp.node (record { steps = steps; event = step.event; earlier = earlier; later = ms }) m × DoMarksStand steps step (earlier ++ m ∷ []) ms

-- in each of these steps, behind the steps before
abbrev pub DoRowsStand : List Step → List Step → Type 0
DoRowsStand before [] = Unit {0}
DoRowsStand before (s ∷ ss) = DoMarksStand before s [] s.marks × DoRowsStand (before ++ s ∷ []) ss
