-- A segment gives one answer to a command.
use Rattle.std.specs.Prelude.{◌≡◌, ℕ, List}
use Rattle.gx_ids.specs.declared.ids.Cid.{Cid}
use Rattle.gx_ids.specs.declared.ids.Gxid.{Gxid}
use Rattle.gx_ids.specs.declared.ids.Node.{Node}
use Rattle.gx_msg.specs.declared.message.Message.TheVariants.{Answer}
use Rattle.gx_msg.specs.declared.reply.Reply.{Reply}
use Rattle.gx_msg.specs.declared.reply.Reply.TheVariants.{Done, Failed}
use Rattle.gx_script.specs.declared.Script.{Script}
use Rattle.gx_store.specs.declared.run.Step.{Step}
use Rattle.gx_store.specs.Messages.{IsSent}
use Rattle.gx_store.specs.Ordered.{IsSegment}

-- a reply to a command
abbrev pub IsOfCommand : Reply → Cid → Type 0
IsOfCommand (Done d wrote count part) c = d ≡ c
IsOfCommand (Failed d cause) c = d ≡ c
IsOfCommand _ c = ⊥

-- any two DONE or FAILED of a command that one segment has sent in these steps, to whomever and how often, are the same
abbrev pub AreAnswersOne : Script → List Step → Type 0
AreAnswersOne script steps =
    (segment to other : Node) (number again : ℕ) (g : Gxid) (c : Cid) (answer second : Reply) → IsSegment script segment → IsOfCommand answer c → IsOfCommand second c
    → IsSent steps segment to number (Answer g answer) → IsSent steps segment other again (Answer g second) → answer ≡ second
