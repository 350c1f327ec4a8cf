-- Of one command a segment never says both that it is done and that it has failed, nor that it has failed for two causes. What it says where
-- it is done may differ from one time to the next.
use Rattle.std.specs.Prelude.{◌≡◌, ℕ, Bool, List}
use Rattle.gx_ids.specs.declared.ids.Cid.{Cid}
use Rattle.gx_ids.specs.declared.ids.Gxid.{Gxid}
use Rattle.gx_ids.specs.declared.ids.Node.{Node}
use Rattle.gx_tree.specs.declared.part.Part.{Part}
use Rattle.gx_msg.specs.declared.message.Message.TheVariants.{Answer}
use Rattle.gx_msg.specs.declared.reply.Cause.{Cause}
use Rattle.gx_msg.specs.declared.reply.Reply.TheVariants.{Done, Failed}
use Rattle.gx_script.specs.declared.Script.{Script}
use Rattle.gx_store.specs.declared.run.Step.{Step}
use Rattle.gx_store.specs.Messages.{IsSent}
use Rattle.gx_store.specs.Ordered.{IsSegment}

-- in these steps, to whomever it says so and how often
pub record GivesOneAnswer (steps : List Step) (segment : Node) (g : Gxid) (c : Cid) : Type 0 where
  pub done : (to other : Node) (number again count : ℕ) (wrote : Bool) (part : Part) (cause : Cause)
      → IsSent steps segment to number (Answer g (Done c wrote count part)) → IsSent steps segment other again (Answer g (Failed c cause)) → ⊥
  pub failed : (to other : Node) (number again : ℕ) (cause another : Cause)
      → IsSent steps segment to number (Answer g (Failed c cause)) → IsSent steps segment other again (Answer g (Failed c another)) → cause ≡ another

abbrev pub DoSegmentsAnswerOnce : Script → List Step → Type 0
DoSegmentsAnswerOnce script steps = (segment : Node) (g : Gxid) (c : Cid) → IsSegment script segment → GivesOneAnswer steps segment g c
