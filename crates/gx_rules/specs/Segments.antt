-- What a segment holds, as plain data.
use Rattle.std.specs.Prelude.{ℕ, Bool, true, false, List, [], ◌∷◌, ◌++◌, Some, None}
use Rattle.std.specs.declared.option.Option.{Option}
use Rattle.gx_ids.specs.declared.ids.Cid.{Cid}
use Rattle.gx_ids.specs.declared.ids.Gxid.{Gxid}
use Rattle.gx_ids.specs.declared.ids.Node.{Node}
use Rattle.gx_ids.specs.declared.ids.Table.{Table}
use Rattle.gx_ids.specs.declared.rid.Rid.{Rid}
use Rattle.gx_tree.specs.declared.slice.Slice.{Slice}
use Rattle.gx_tree.specs.declared.stmt.Level.{Level}
use Rattle.gx_tree.specs.declared.value.Value.{Value}
use Rattle.gx_dsnap.specs.declared.snapshot.Snapshot.{Snapshot}
use Rattle.gx_waits.specs.declared.graph.LocalGraph.{LocalGraph}
use Rattle.gx_locks.specs.Locks.{Locks}
use Rattle.gx_msg.specs.declared.item.JournalItem.{JournalItem}
use Rattle.gx_msg.specs.declared.message.Message.TheVariants.{Answer}
use Rattle.gx_msg.specs.declared.message.Out.{Out}
use Rattle.gx_msg.specs.declared.reply.Reply.{Reply}
use Rattle.gx_store.specs.declared.mark.Mark.{Mark}
use Rattle.gx_store.specs.Refusals.{the_coordinator}
use Rattle.gx_rules.specs.Maps.{with_at}

-- Where a transaction stands at a segment: it has written nothing there, or something; it has promised to commit; it has
-- committed; it was forgotten, as one that had committed there or not; it was aborted. The last two have ended there.
pub data Phase : Type 0 where
  Reading : Phase
  Writing : Phase
  Prepared : Phase
  Committed : Phase
  Forgotten : (committed : Bool) → Phase
  Aborted : Phase

-- its writes are committed at the segment
abbrev pub has_committed : Phase → Bool
has_committed Committed = true
has_committed (Forgotten committed) = committed
has_committed _ = false

-- its writes may count: it hasn't aborted there, and wasn't forgotten as one that had not committed
abbrev pub is_unaborted : Phase → Bool
is_unaborted Aborted = false
is_unaborted (Forgotten committed) = committed
is_unaborted _ = true

abbrev pub has_ended : Phase → Bool
has_ended (Forgotten committed) = true
has_ended Aborted = true
has_ended _ = false

-- A slice that waits: its command, how many rows it has written, the row at which it waits, and the rows left behind that one.
-- Where it waits for its table there is no row yet.
pub record Suspended : Type 0 where
  pub cid : Cid
  pub level : Level
  pub snapshot : Option Snapshot
  pub slice : Slice
  pub count : ℕ
  pub row : Option Rid
  pub rows : List Rid

-- A transaction at a segment: its phase, its last command there (0 before the first), what was answered to that command and to
-- PREPARE or COMMIT, and the slice that waits.
pub record Local : Type 0 where
  pub phase : Phase
  pub last : ℕ
  pub answer : Option Reply
  pub vote : Option Reply
  pub suspended : Option Suspended

abbrev pub new_local : Local
new_local = record { phase = Reading; last = 0; answer = None; vote = None; suspended = None }

-- what a command wrote of a row; an image of None is a row that is gone
pub record Version : Type 0 where
  pub gxid : Gxid
  pub cid : Cid
  pub table : Table
  pub rid : Rid
  pub image : Option (List Value)

-- A segment: the horizon, the transactions by gxid, all versions in the order in which they were written, its locks, the last
-- round of the detector that asked for a graph there (0 before the first) and the graph that it was told, how many messages it has
-- sent, and its clock. What stands below the horizon counts as ended; nothing is dropped here.
pub record Seg : Type 0 where
  pub node : Node
  pub horizon : Gxid
  pub locals : ℕ → Local
  pub versions : List Version
  pub locks : Locks
  pub round : ℕ
  pub graph : Option LocalGraph
  pub sent : ℕ
  pub clock : ℕ

-- a node where nobody holds or waits
abbrev pub no_locks : Node → Locks
no_locks node = record { node = node; holds = []; waits = [] }

abbrev pub new_segment : Node → Seg
new_segment node =
    record {
      node = node;
      horizon = record { 0 = 0 };
      locals = λ g. new_local;
      versions = [];
      locks = no_locks node;
      round = 0;
      graph = None;
      sent = 0;
      clock = 0;
    }

abbrev pub local_of : Seg → Gxid → Local
local_of s g = s.locals g.0

abbrev pub with_local : Seg → Gxid → Local → Seg
with_local s g l = record s { locals = with_at s.locals g.0 l }

-- what a segment does in one event: its data afterwards, its marks and messages in order, and the item for its journal
pub record SegTurn : Type 0 where
  pub seg : Seg
  pub marks : List Mark
  pub outs : List Out
  pub item : Option JournalItem

-- nothing happens
abbrev pub stays : Seg → SegTurn
stays s = record { seg = s; marks = []; outs = []; item = None }

abbrev pub reply : Gxid → Reply → Out
reply g r = record { node = the_coordinator; message = Answer g r }

-- it answers, and nothing else changes
abbrev pub tells : Seg → Gxid → Reply → SegTurn
tells s g r = record { seg = s; marks = []; outs = reply g r ∷ []; item = None }

-- marks that stand before those of a turn
abbrev pub after_marks : List Mark → SegTurn → SegTurn
after_marks ms turn = record turn { marks = ms ++ turn.marks }

-- what was kept is answered again; where nothing was kept, nothing is
abbrev pub tells_kept : Seg → Gxid → Option Reply → SegTurn
tells_kept s g None = stays s
tells_kept s g (Some r) = tells s g r
