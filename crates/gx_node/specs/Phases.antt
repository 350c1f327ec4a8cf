-- A transaction at a segment, as the rule has it.
use Rattle.std.specs.Prelude.{option_map}
use Rattle.gx_msg.specs.declared.reply.Reply.{Reply}
use Rattle.gx_msg.specs.declared.reply.Reply.TheVariants as reply
use Rattle.gx_rules.specs.Segments as rule
use Rattle.gx_node.specs.declared.local.Local.{Local}
use Rattle.gx_node.specs.declared.local.Suspended.{Suspended}
use Rattle.gx_node.specs.declared.local.Phase.{Phase}
use Rattle.gx_node.specs.declared.local.Phase.TheVariants.{Reading, Writing, Prepared, Committed, Forgotten, Aborted}
use Rattle.gx_node.specs.declared.local.Vote.{Vote}
use Rattle.gx_node.specs.declared.local.Vote.TheVariants as vote

abbrev pub phase_of : Phase → rule.Phase
phase_of Reading = rule.Reading
phase_of Writing = rule.Writing
phase_of Prepared = rule.Prepared
phase_of Committed = rule.Committed
phase_of (Forgotten committed) = rule.Forgotten committed
phase_of Aborted = rule.Aborted

abbrev pub reply_of : Vote → Reply
reply_of vote.Prepared = reply.Prepared
reply_of vote.Committed = reply.Committed
reply_of vote.Jfault = reply.Jfault

abbrev pub suspended_of : Suspended → rule.Suspended
suspended_of w = record { cid = w.cid; level = w.level; snapshot = w.snapshot; slice = w.slice; count = w.count; row = w.row; rows = w.rows }

abbrev pub local_of : Local → rule.Local
local_of l =
    record { phase = phase_of l.phase; last = l.last; answer = l.answer; vote = option_map reply_of l.vote; suspended = option_map suspended_of l.suspended }
