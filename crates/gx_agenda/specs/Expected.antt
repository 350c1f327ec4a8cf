-- What messages ask for, and the replies that meet it.
use Rattle.std.specs.Prelude.{◌==◌, Bool, true, false, if◌then◌else◌, ◌&&◌, Option, Some, None}
use Rattle.gx_ids.specs.declared.ids.Cid.{Cid}
use Rattle.gx_ids.specs.declared.ids.Gxid.{Gxid}
use Rattle.gx_msg.specs.declared.message.Message.{Message}
use Rattle.gx_msg.specs.declared.message.Message.TheVariants as message
use Rattle.gx_msg.specs.declared.reply.Reply.{Reply}
use Rattle.gx_msg.specs.declared.reply.Reply.TheVariants as reply
use Rattle.gx_agenda.specs.declared.expected.Expected.{Expected}
use Rattle.gx_agenda.specs.declared.expected.Expected.TheVariants.{Command, Promise, Commit, SecondPhase, Abort, Forget}

-- the transaction that a message to a segment is about
abbrev pub gxid_of : Message → Option Gxid
gxid_of (message.Exec g c level snapshot horizon slice) = Some g
gxid_of (message.Prepare g) = Some g
gxid_of (message.Commit g) = Some g
gxid_of (message.CommitPrepared g) = Some g
gxid_of (message.Abort g) = Some g
gxid_of (message.Forget g) = Some g
gxid_of _ = None

-- what it asks for; a message that is about no transaction is never asked
abbrev pub expected_of : Message → Expected
expected_of (message.Exec g c level snapshot horizon slice) = Command c
expected_of (message.Prepare g) = Promise
expected_of (message.Commit g) = Commit
expected_of (message.CommitPrepared g) = SecondPhase
expected_of (message.Abort g) = Abort
expected_of _ = Forget

-- it is the answer to a command
abbrev pub is_command : Expected → Bool
is_command (Command c) = true
is_command Promise = false
is_command Commit = false
is_command SecondPhase = false
is_command Abort = false
is_command Forget = false

-- the reply says what became of the command
abbrev pub is_command_met : Cid → Reply → Bool
is_command_met c (reply.Done d wrote count part) = d.0 == c.0
is_command_met c (reply.Failed d cause) = d.0 == c.0
is_command_met c _ = false

abbrev pub is_met : Expected → Reply → Bool
is_met (Command c) told = is_command_met c told
is_met Promise reply.Prepared = true
is_met Promise reply.Jfault = true
is_met Commit reply.Committed = true
is_met Commit reply.Jfault = true
is_met SecondPhase reply.Committed = true
is_met Abort reply.Aborted = true
is_met Forget reply.Forgotten = true
is_met _ _ = false

-- what is awaited behind a reply, if it came from there
abbrev pub unless_met : Bool → Reply → Option Expected → Option Expected
unless_met here told None = None
unless_met here told (Some expected) = if here && is_met expected told then None else Some expected
