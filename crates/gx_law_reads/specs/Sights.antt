-- What segments show, and what they should.
use Rattle.std.specs.Prelude.{◌≡◌, ◌≤◌, ◌==◌, ◌+◌, ℕ, Bool, true, false, ◌&&◌, ◌||◌, List, [], ◌∷◌, filter, slice_get, take, None, Some}
use Rattle.std.specs.declared.alloc.Global.{Global}
use Rattle.std.specs.declared.vec.Vec.{Vec}
use Rattle.gx_ids.specs.declared.ids.Cid.{Cid}
use Rattle.gx_ids.specs.declared.ids.Gxid.{Gxid}
use Rattle.gx_ids.specs.declared.ids.Node.{Node}
use Rattle.gx_ids.specs.declared.ids.Table.{Table}
use Rattle.gx_ids.specs.declared.rid.Rid.{Rid}
use Rattle.gx_tree.specs.declared.row.KeyedRow.{KeyedRow}
use Rattle.gx_dsnap.specs.Gxids.{is_below}
use Rattle.gx_dsnap.specs.Snapshot.{sees}
use Rattle.gx_dsnap.specs.declared.snapshot.Snapshot.{Snapshot}
use Rattle.gx_meaning.specs.Answer.{AreRising}
use Rattle.gx_msg.specs.declared.message.Message.{Message}
use Rattle.gx_msg.specs.declared.message.Message.TheVariants as message
use Rattle.gx_store.specs.declared.mark.Mark.{Mark}
use Rattle.gx_store.specs.declared.mark.Mark.TheVariants as mark
use Rattle.gx_store.specs.Journals.{is_same_node}
use Rattle.gx_store.specs.Marks.{is_aborted, is_committed, is_same_rid}
use Rattle.gx_store.specs.Points.{marks_in}
use Rattle.gx_store.specs.Protocol.{is_writer}
use Rattle.gx_store.specs.Rows.{row_at}
use Rattle.gx_store.specs.View.{image}
use Rattle.gx_rules.specs.AtSegment.{raised}
use Rattle.gx_rules.specs.Machine.{Letter, World}
use Rattle.gx_rules.specs.Segments.{Seg, Version, has_committed, local_of}
use Rattle.gx_rules.specs.Shown.{last_images, rows_in, shown}
use Rattle.gx_rules.specs.Snapshots.{snapshot_of}
use Rattle.gx_law_reads.specs.Horizons.{IsToRun}

-- THE ENDS OF TRANSACTIONS
-- The marks and a segment's record tell the same of a transaction's end: who has committed is committed at each segment where
-- it has written, and at no other; who was aborted isn't committed there.
pub record DoesEndAt (w : World) (node : Node) (g : Gxid) : Type 0 where
  pub committed : is_committed (marks_in w.steps) g ≡ true → has_committed (local_of (w.segs node.0) g).phase ≡ is_writer (marks_in w.steps) g node
  pub aborted : is_aborted (marks_in w.steps) g ≡ true → has_committed (local_of (w.segs node.0) g).phase ≡ false

-- WHERE ROWS STAND
-- the row is written at this node alone
abbrev pub IsOnlyAt : Node → Rid → List Mark → Type 0
IsOnlyAt node rid [] = Unit {0}
IsOnlyAt node rid (mark.Write g c n table r image ∷ ms) = (is_same_rid r rid ≡ true → is_same_node n node ≡ true) × IsOnlyAt node rid ms
IsOnlyAt node rid (_ ∷ ms) = IsOnlyAt node rid ms

-- WHAT A SEGMENT SHOWS TO NOBODY'S TRANSACTION
abbrev pub counts_for_all : Seg → Snapshot → Version → Bool
counts_for_all s snapshot v = has_committed (local_of s v.gxid).phase && (is_below s.horizon v.gxid || sees snapshot v.gxid)

-- the rows of a table by a snapshot, without anybody's own writes
abbrev pub shown_to_all : Seg → Snapshot → Table → List KeyedRow
shown_to_all s snapshot table = rows_in (last_images (filter (λ v. (v.table.0 == table.0) && counts_for_all s snapshot v) s.versions))

-- a segment's part of a table's committed rows
pub record ShowsCommitted (w : World) (node : Node) (table : Table) : Type 0 where
  pub rising : AreRising (shown_to_all (w.segs node.0) (snapshot_of w.coord.table) table)
  pub images : (rid : Rid) → IsOnlyAt node rid (marks_in w.steps)
      → row_at (shown_to_all (w.segs node.0) (snapshot_of w.coord.table) table) rid ≡ image (marks_in w.steps) (marks_in w.steps) None table rid

-- each row is written at one segment alone
abbrev pub AreAtHome : List Mark → Type 0
AreAtHome marks = (rid : Rid) → (node : Node) × (1 ≤ node.0) × IsOnlyAt node rid marks

-- these are the committed rows of a table that all segments show, in the order of their identities
pub record AreRowsOf (w : World) (table : Table) (rows : List KeyedRow) : Type 0 where
  pub rising : AreRising rows
  pub shown : (node : Node) (rid : Rid) → 1 ≤ node.0 → IsOnlyAt node rid (marks_in w.steps) → row_at rows rid ≡ row_at (shown_to_all (w.segs node.0) (snapshot_of w.coord.table) table) rid

-- and of each table from the one of this number on
abbrev pub AreRowsOfAll : ℕ → World → List (Vec KeyedRow Global) → Type 0
AreRowsOfAll k w [] = Unit {0}
AreRowsOfAll k w (rows ∷ tables) = AreRowsOf w (record { 0 = k }) rows.items × AreRowsOfAll (k + 1) w tables

-- WHAT A SEGMENT SHOWS TO A COMMAND
-- When a command with a snapshot comes to a segment that has still to run it, the segment shows to it each row that is written
-- there alone as it is for the command at the place where its snapshot was taken.
abbrev pub IsShownView : World → Node → Message → Type 0
IsShownView w node (message.Exec g c level (Some snapshot) horizon slice) =
    1 ≤ node.0 → IsToRun w node g c → (place : ℕ) (d : Cid) → slice_get (marks_in w.steps) place ≡ Some (mark.Snap g d snapshot) → (table : Table) (rid : Rid) → IsOnlyAt node rid (marks_in w.steps)
    → row_at (shown (raised (w.segs node.0) horizon) snapshot g c table) rid ≡ image (marks_in w.steps) (take place (marks_in w.steps)) (Some (g, c)) table rid
IsShownView w node _ = Unit {0}

-- to each command that was ever sent
abbrev pub AreShownViews : World → List Letter → Type 0
AreShownViews w [] = Unit {0}
AreShownViews w (letter ∷ letters) = IsShownView w letter.to letter.envelope.message × AreShownViews w letters

-- VIEWS STAY
-- Once a node has taken a command, nothing that is written later changes what the command sees of the rows that stand there
-- alone, at the place of any mark so far.
abbrev pub DoViewsStay : World → World → Type 0
DoViewsStay w late =
    (node : Node) (g : Gxid) (c : Cid) (place : ℕ) (m : Mark) (table : Table) (rid : Rid) → c.0 ≤ (local_of (w.segs node.0) g).last
    → slice_get (marks_in w.steps) place ≡ Some m → IsOnlyAt node rid (marks_in late.steps)
    → image (marks_in late.steps) (take place (marks_in late.steps)) (Some (g, c)) table rid ≡ image (marks_in w.steps) (take place (marks_in w.steps)) (Some (g, c)) table rid
