-- What an order came to, as contracts see it.
use Rattle.std.specs.Prelude.{Bool, option_map}
use Rattle.std.specs.declared.option.Option.{Option}
use Rattle.gx_ids.specs.declared.ids.Gxid.{Gxid}
use Rattle.gx_ids.specs.declared.ids.Node.{Node}
use Rattle.gx_msg.specs.declared.reply.Reply.{Reply}
use Rattle.gx_msg.specs.declared.reply.Reply.TheVariants as reply
use Rattle.gx_store.specs.declared.mark.Mark.{Mark}
use Rattle.gx_store.specs.declared.mark.Mark.TheVariants as mark
use Rattle.gx_node.specs.declared.taken.Noted.{Noted}
use Rattle.gx_node.specs.declared.taken.Noted.TheVariants as noted
use Rattle.gx_node.specs.declared.taken.Told.{Told}
use Rattle.gx_node.specs.declared.taken.Told.TheVariants as told

-- its mark, its answer, whether the journal failed to take an item, and whether the transaction gives its locks back
pub record Outcome : Type 0 where
  pub mark : Option Mark
  pub reply : Option Reply
  pub fails : Bool
  pub ends : Bool

abbrev pub mark_of : Node → Gxid → Noted → Mark
mark_of node g noted.Prepared = mark.Prepared node g
mark_of node g noted.LocalCommit = mark.LocalCommit node g
mark_of node g noted.JournalFailed = mark.JournalFailed node g

abbrev pub answer_of : Told → Reply
answer_of told.Prepared = reply.Prepared
answer_of told.Committed = reply.Committed
answer_of told.Jfault = reply.Jfault
answer_of told.Again = reply.Again
answer_of told.Aborted = reply.Aborted
answer_of told.Forgotten = reply.Forgotten

abbrev pub outcome_of : Node → Gxid → Option Noted → Option Told → Bool → Bool → Outcome
outcome_of node g note said fails ends = record { mark = option_map (mark_of node g) note; reply = option_map answer_of said; fails = fails; ends = ends }
