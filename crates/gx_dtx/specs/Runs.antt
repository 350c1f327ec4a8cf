-- Lists of calls, and the tables to which they lead.
use Rattle.std.specs.Prelude.{Bool, List, [], ◌∷◌, None, Some}
use Rattle.gx_ids.specs.declared.ids.Gxid.{Gxid}
use Rattle.gx_ids.specs.declared.ids.Node.{Node}
use Rattle.gx_msg.specs.declared.reply.Reply.{Reply as Answer}
use Rattle.gx_dtx.specs.Table.{Table, new_table, IsActive, xmin_of}
use Rattle.gx_dtx.specs.Rules.{Turn, nothing, begun, with_live, enlisted, on_commit, on_abort, on_reply, AreWriters}

-- a call that may change the table; of a reply, also whether the coordinator's journal fails where it has to append
pub data Call : Type 0 where
  Begin : Call
  Snap : (g : Gxid) → Call
  DropSnap : (g : Gxid) → Call
  Enlist : (g : Gxid) (i : Node) → Call
  Commit : (g : Gxid) (writers : List Node) → Call
  Abort : (g : Gxid) → Call
  Reply : (g : Gxid) (i : Node) (answer : Answer) (refused : Bool) → Call

-- a call that comes to nothing but this table
abbrev pub silent : Table → Turn
silent d = record { table = d; out = nothing }

-- what the call does
abbrev pub on : Table → Call → Turn
on d Begin = silent (begun d)
on d (Snap g) = silent (with_live d g (Some (xmin_of d)))
on d (DropSnap g) = silent (with_live d g None)
on d (Enlist g i) = silent (enlisted d g i)
on d (Commit g writers) = on_commit d g writers
on d (Abort g) = on_abort d g
on d (Reply g i answer refused) = on_reply d g i answer refused

-- the call may be made
abbrev pub Admits : Table → Call → Type 0
Admits d (Snap g) = IsActive d g
Admits d (Enlist g i) = IsActive d g
Admits d (Commit g writers) = IsActive d g × AreWriters d g writers
Admits d (Abort g) = IsActive d g
Admits d _ = Unit {0}

-- the table after the calls; the last call stands first
abbrev pub after : List Call → Table
after [] = new_table
after (call ∷ before) = (on (after before) call).table

-- each call might be made
abbrev pub IsRun : List Call → Type 0
IsRun [] = Unit {0}
IsRun (call ∷ before) = IsRun before × Admits (after before) call
