-- When a command may run at a segment, and that it has run.
use Rattle.std.specs.Prelude.{◌≡◌, ◌≤◌, ◌<◌, ◌+◌, ◌^◌, ◌||◌, is_some, length, nat_lt, true, false, List, [], ◌∷◌, None, Some}
use Rattle.std.specs.declared.option.Option.{Option}
use Rattle.gx_ids.specs.declared.ids.Cid.{Cid}
use Rattle.gx_ids.specs.declared.ids.Gxid.{Gxid}
use Rattle.gx_tree.specs.declared.schema.Schema.{Schema}
use Rattle.gx_tree.specs.declared.slice.Slice.{Slice}
use Rattle.gx_dsnap.specs.declared.snapshot.Snapshot.{Snapshot}
use Rattle.gx_msg.specs.declared.message.Out.{Out}
use Rattle.gx_msg.specs.declared.reply.Reply.{Reply}
use Rattle.gx_node.specs.Right.{IsRightFor}
use Rattle.gx_rules.specs.Fits.{is_waiting, reads_nothing}
use Rattle.gx_rules.specs.Segments.{Seg, SegTurn, Suspended, local_of, reply}
use Rattle.gx_slices.specs.Agrees.{IsHeld}
use Rattle.gx_slices.specs.Waiting.{is_open}
use Rattle.gx_slices.specs.declared.held.Held.{Held}
use Rattle.gx_slices.specs.declared.progress.Progress.{Progress}
use Rattle.gx_slices.specs.declared.running.Ran.{Ran}

-- its number is from 1 on, it has come no sooner than the horizon, waits for nothing, its transaction is open here, and it has a
-- snapshot unless it reads nothing
pub record MayRun (tables : List Schema) (s : Seg) (g : Gxid) (c : Cid) (snapshot : Option Snapshot) (slice : Slice) : Type 0 where
  pub alive : s.horizon.0 ≤ g.0
  pub open_here : is_open (local_of s g).phase ≡ true
  pub free : is_waiting (local_of s g) ≡ false
  pub reads : (is_some snapshot || reads_nothing slice) ≡ true
  pub right : IsRightFor tables g c slice true
  pub new : nat_lt 0 c.0 ≡ true

-- what is held afterwards, the marks and the answer are the turn's
pub record HasRun (tables : List Schema) (held : Held) (g : Gxid) (ran : Ran) (turn : SegTurn) : Type 0 where
  pub agrees : IsHeld tables held turn.seg
  pub marks : ran.marks ≡ turn.marks
  pub outs : turn.outs ≡ reply g ran.reply ∷ []
  pub item : turn.item ≡ None

-- WITH OR WITHOUT AN ANSWER
abbrev pub replies : Gxid → Option Reply → List Out
replies g None = []
replies g (Some r) = reply g r ∷ []

-- a command that has waited, or hasn't run yet: its rows can be counted
pub record MayGoOn (tables : List Schema) (s : Seg) (g : Gxid) (w : Suspended) : Type 0 where
  pub may : MayRun tables s g w.cid w.snapshot w.slice
  pub room : w.count + length w.rows + 1 < 2 ^ 64

pub record HasProgressed (tables : List Schema) (held : Held) (g : Gxid) (progress : Progress) (turn : SegTurn) : Type 0 where
  pub agrees : IsHeld tables held turn.seg
  pub marks : progress.marks ≡ turn.marks
  pub outs : turn.outs ≡ replies g progress.reply
  pub item : turn.item ≡ None
