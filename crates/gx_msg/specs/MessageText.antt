-- The text of a message in a trace.
use Rattle.std.specs.Prelude.{ℕ, List, ◌++◌, codes}
use Rattle.std.specs.Fmt.{decimal}
use Rattle.gx_ids.specs.declared.ids.Cid.{Cid}
use Rattle.gx_ids.specs.declared.ids.Gxid.{Gxid}
use Rattle.gx_msg.specs.declared.message.Message.{Message}
use Rattle.gx_msg.specs.declared.message.Message.TheVariants.{Exec, Prepare, Commit, CommitPrepared, Abort, Forget, Collect, Answer, Graph, Up}
use Rattle.gx_msg.specs.declared.reply.Reply.{Reply}
use Rattle.gx_msg.specs.declared.reply.Reply.TheVariants.{Done, Failed, Prepared, Committed, Jfault, Again, Aborted, Forgotten, Restarted}

-- a name and a number behind it
abbrev pub named : List ℕ → ℕ → List ℕ
named name number = name ++ codes " " ++ decimal number

-- a name, its transaction and its command
abbrev pub named_command : List ℕ → Gxid → Cid → List ℕ
named_command name gxid cid = named name gxid.0 ++ codes " " ++ decimal cid.0

-- a reply has its transaction, and that to a command has the command too
abbrev pub text_of_reply : Gxid → Reply → List ℕ
text_of_reply gxid (Done cid _ _ _) = named_command (codes "done") gxid cid
text_of_reply gxid (Failed cid _) = named_command (codes "failed") gxid cid
text_of_reply gxid Prepared = named (codes "prepared") gxid.0
text_of_reply gxid Committed = named (codes "committed") gxid.0
text_of_reply gxid Jfault = named (codes "jfault") gxid.0
text_of_reply gxid Again = named (codes "again") gxid.0
text_of_reply gxid Aborted = named (codes "aborted") gxid.0
text_of_reply gxid Forgotten = named (codes "forgotten") gxid.0
text_of_reply gxid Restarted = named (codes "restarted") gxid.0

-- a message has its transaction, EXEC the command too, what is of the detector has its round, and that a segment is up has neither
abbrev pub text_of_message : Message → List ℕ
text_of_message (Exec gxid cid _ _ _ _) = named_command (codes "exec") gxid cid
text_of_message (Prepare gxid) = named (codes "prepare") gxid.0
text_of_message (Commit gxid) = named (codes "commit") gxid.0
text_of_message (CommitPrepared gxid) = named (codes "commit prepared") gxid.0
text_of_message (Abort gxid) = named (codes "abort") gxid.0
text_of_message (Forget gxid) = named (codes "forget") gxid.0
text_of_message (Collect round) = named (codes "collect") round
text_of_message (Answer gxid reply) = text_of_reply gxid reply
text_of_message (Graph round _) = named (codes "graph") round
text_of_message Up = codes "up"
