-- What a segment says of a transaction, and whether it was sent and received.
use Rattle.std.specs.Prelude.{◌≡◌, ◌+◌, ℕ, Bool, List, Some, drop, slice_get, take}
use Rattle.gx_ids.specs.declared.ids.Gxid.{Gxid}
use Rattle.gx_ids.specs.declared.ids.Node.{Node}
use Rattle.gx_msg.specs.declared.message.Message.{Message}
use Rattle.gx_msg.specs.declared.message.Message.TheVariants as message
use Rattle.gx_msg.specs.declared.reply.Cause.{Cause}
use Rattle.gx_msg.specs.declared.reply.Reply.{Reply}
use Rattle.gx_msg.specs.declared.reply.Reply.TheVariants as reply
use Rattle.gx_store.specs.declared.event.Event.{Event}
use Rattle.gx_store.specs.declared.event.Event.TheVariants as event
use Rattle.gx_store.specs.declared.mark.Mark.{Mark}
use Rattle.gx_store.specs.declared.mark.Mark.TheVariants.{Sent}
use Rattle.gx_store.specs.declared.run.Step.{Step}
use Rattle.gx_store.specs.Messages.{HasReceived, Receives}
use Rattle.gx_store.specs.Points.{Point}
use Rattle.gx_tree.specs.declared.part.Part.{Part}
use Rattle.gx_legal.specs.declared.word.Word.{Word}
use Rattle.gx_legal.specs.declared.word.Word.TheVariants as word

-- the reply says so
abbrev pub IsReply : Word → Reply → Type 0
IsReply (word.Done c) told = (wrote : Bool) × (count : ℕ) × (part : Part) × (told ≡ reply.Done c wrote count part)
IsReply (word.Failed c) told = (cause : Cause) × (told ≡ reply.Failed c cause)
IsReply (word.FailedFor c cause) told = told ≡ reply.Failed c cause
IsReply word.Jfault told = told ≡ reply.Jfault

-- the message says so of the transaction
abbrev pub Says : Gxid → Word → Message → Type 0
Says g said told = (answer : Reply) × (told ≡ message.Answer g answer) × IsReply said answer

-- the mark sends such a message, under this number
abbrev pub Sends : Gxid → Word → Node → ℕ → Mark → Type 0
Sends g said to number mark = (told : Message) × (mark ≡ Sent to number told) × Says g said told

abbrev pub SendsAt : Gxid → Word → Node → ℕ → List Mark → ℕ → Type 0
SendsAt g said to number marks place = (mark : Mark) × (slice_get marks place ≡ Some mark) × Sends g said to number mark

-- the step of the node sends one
abbrev pub SendsIn : Gxid → Word → Node → Node → ℕ → Step → Type 0
SendsIn g said from to number step = (step.stamp.node ≡ from) × ((place : ℕ) × SendsAt g said to number step.marks place)

abbrev pub SendsInStep : Gxid → Word → Node → Node → ℕ → List Step → ℕ → Type 0
SendsInStep g said from to number steps place = (step : Step) × (slice_get steps place ≡ Some step) × SendsIn g said from to number step

-- the event delivers one
abbrev pub Delivers : Gxid → Word → Node → Node → List Step → Event → Type 0
Delivers g said from to steps event = (told : Message) × Says g said told × Receives steps event from to told

-- one was received by then
abbrev pub HasHeard : Gxid → Word → Node → Node → Point → Type 0
HasHeard g said from to point = (told : Message) × Says g said told × HasReceived point from to told

-- in one of these steps
abbrev pub HasHeardBefore : Gxid → Word → Node → Node → List Step → Type 0
HasHeardBefore g said from to steps = (k : ℕ) × (step : Step) × (slice_get steps k ≡ Some step) × Delivers g said from to (take k steps) step.event

-- BY ITS SENDING
-- the step at this place receives the message of this number
abbrev pub ReceivesAt : Node → Node → ℕ → List Step → ℕ → Type 0
ReceivesAt from to number steps place = (step : Step) × (slice_get steps place ≡ Some step) × (step.event ≡ event.Receive from to number)

-- the mark sends the word, and one of the later steps receives it
abbrev pub IsHeardOf : Gxid → Word → Node → Node → List Step → Mark → Type 0
IsHeardOf g said from to later mark = (number : ℕ) × Sends g said to number mark × ((place : ℕ) × ReceivesAt from to number later place)

abbrev pub IsHeardAt : Gxid → Word → Node → Node → List Step → List Mark → ℕ → Type 0
IsHeardAt g said from to later marks place = (mark : Mark) × (slice_get marks place ≡ Some mark) × IsHeardOf g said from to later mark

abbrev pub IsHeardFrom : Gxid → Word → Node → Node → List Step → Step → Type 0
IsHeardFrom g said from to later step = (step.stamp.node ≡ from) × ((place : ℕ) × IsHeardAt g said from to later step.marks place)

-- the step at this place sends it, and one behind that receives it
abbrev pub IsHeardSince : Gxid → Word → Node → Node → List Step → ℕ → Type 0
IsHeardSince g said from to steps place = (step : Step) × (slice_get steps place ≡ Some step) × IsHeardFrom g said from to (drop (place + 1) steps) step
