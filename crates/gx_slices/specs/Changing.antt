-- A command that changes rows, row by row.
use Rattle.std.specs.Prelude.{◌≡◌, ◌≢◌, ◌≤◌, ◌<◌, ◌+◌, ◌^◌, length, Bool, true, false, not, ◌&&◌, ◌||◌, nat_lt, if◌then◌else◌, List, slice_get, fold, drop, unwrap_or, ℕ, All, IsTrue, Some, None}
use Rattle.std.specs.declared.option.Option.{Option}
use Rattle.std.specs.List.{list_any}
use Rattle.gx_ids.specs.declared.ids.Cid.{Cid}
use Rattle.gx_ids.specs.declared.ids.Gxid.{Gxid}
use Rattle.gx_ids.specs.declared.ids.Table.{Table}
use Rattle.gx_ids.specs.declared.rid.Rid.{Rid}
use Rattle.gx_tree.specs.declared.cond.Cond.{Cond}
use Rattle.gx_tree.specs.declared.schema.Schema.{Schema}
use Rattle.gx_tree.specs.declared.slice.Slice.{Slice}
use Rattle.gx_tree.specs.declared.slice.Slice.TheVariants as slice
use Rattle.gx_tree.specs.declared.stmt.Assign.{Assign}
use Rattle.gx_tree.specs.declared.value.Value.{Value}
use Rattle.gx_dsnap.specs.Snapshot.{sees}
use Rattle.gx_dsnap.specs.declared.snapshot.Snapshot.{Snapshot}
use Rattle.gx_waits.specs.Claim.{same_claim}
use Rattle.gx_waits.specs.declared.claim.Claim.{Claim}
use Rattle.gx_waits.specs.Claims.{is_of}
use Rattle.gx_meaning.specs.Kinds.{IsTyped, kinds_of}
use Rattle.gx_rows.specs.Counts.{is_committed}
use Rattle.gx_rows.specs.Xids.{kept}
use Rattle.gx_msg.specs.declared.reply.Reply.{Reply}
use Rattle.gx_msg.specs.declared.reply.Reply.TheVariants.{Failed}
use Rattle.gx_node.specs.Right.{IsRightFor}
use Rattle.gx_store.specs.Marks.{is_same_gxid}
use Rattle.gx_store.specs.declared.mark.Mark.{Mark}
use Rattle.gx_rules.specs.Changes as rule
use Rattle.gx_rules.specs.Changes.RowEnd.{Failing, Skipped, Waiting, Written}
use Rattle.gx_rules.specs.Fits.{is_waiting}
use Rattle.gx_rules.specs.Segments.{Seg, SegTurn, Version, local_of}
use Rattle.gx_rules.specs.Slices.{Moved, answers, own_lock}
use Rattle.gx_slices.specs.Agrees.{IsHeld, entry_at, is_right_image, is_right_version}
use Rattle.gx_slices.specs.Apart.{IsApart}
use Rattle.gx_slices.specs.Store.{Store, Write, passes, status_of}
use Rattle.gx_slices.specs.declared.change.Change.{Change}
use Rattle.gx_slices.specs.declared.held.Entry.{Entry}
use Rattle.gx_slices.specs.declared.held.Held.{Held}
use Rattle.gx_slices.specs.declared.newest.Newest.{Newest}
use Rattle.gx_slices.specs.declared.changing_row.RowEnd.{RowEnd}
use Rattle.gx_slices.specs.declared.changing_row.RowEnd.TheVariants as end
use Rattle.gx_slices.specs.declared.changing_rows.RowsEnd.{RowsEnd}
use Rattle.gx_slices.specs.declared.changing_rows.RowsEnd.TheVariants as rows_end

-- THE COMMAND
abbrev pub slice_in : Table → Option (List Assign) → Option Cond → Slice
slice_in table (Some assigns) cond = slice.Update table assigns cond
slice_in table None cond = slice.Delete table cond

-- the rule's command
abbrev pub change_in : Change → rule.Change
change_in k =
    record {
      cid = k.writer.cid;
      level = k.level;
      snapshot = k.snapshot;
      slice = slice_in k.writer.table k.set k.cond;
      table = k.writer.table;
      set = k.set;
      cond = k.cond;
    }

-- it is right for the tables, its number is from 1 on, and its transaction isn't below the horizon
pub record MayChange (tables : List Schema) (start : Seg) (k : Change) : Type 0 where
  pub alive : start.horizon.0 ≤ k.writer.gxid.0
  pub node : k.writer.node ≡ start.node
  pub right : IsRightFor tables k.writer.gxid k.writer.cid (slice_in k.writer.table k.set k.cond) true
  pub new : nat_lt 0 k.writer.cid.0 ≡ true

-- an image is of the table's kinds
abbrev pub IsRightImage : List Schema → Table → Option (List Value) → Type 0
IsRightImage tables table image = IsTrue (is_right_image (slice_get tables table.0) image)

-- the condition has a meaning on the row
abbrev pub IsTypedFor : Option Cond → List Value → Type 0
IsTypedFor None row = Unit {0}
IsTypedFor (Some cond) row = IsTyped (kinds_of row) cond

-- A ROW'S NEWEST VERSION
abbrev pub newest_as : Write → Newest
newest_as w = record { writer = w.writer; cid = w.cid; image = w.image }

abbrev pub newest_in : Gxid → Version → Newest
newest_in horizon v = record { writer = kept horizon v.gxid; cid = v.cid; image = v.image }

-- who wrote it is awaited, unless it is the command's own transaction or doesn't hold itself any more
abbrev pub awaited_in : List Claim → Gxid → Option Gxid → Option Gxid
awaited_in holds g None = None
awaited_in holds g (Some writer) = if is_same_gxid writer g || not (list_any (same_claim (own_lock writer)) holds) then None else Some writer

-- it counts for the command
abbrev pub counted_in : Store → Snapshot → Gxid → Cid → Gxid → Cid → Bool
counted_in store snapshot g c writer cid =
    if is_same_gxid writer g then nat_lt cid.0 c.0 else passes is_committed (status_of store writer) && sees snapshot writer

-- another transaction has changed the row since the snapshot
abbrev pub overtaker_in : Store → Snapshot → Gxid → Cid → Option Gxid → Cid → Option Gxid
overtaker_in store snapshot g c None cid = None
overtaker_in store snapshot g c (Some writer) cid = if counted_in store snapshot g c writer cid then None else Some writer

-- ROW BY ROW
-- how a command found the segment
pub record Found : Type 0 where
  pub tables : List Schema
  pub start : Seg
  pub was : Held

-- what was held when its transaction's entry had been taken out, and what the rows so far have made of the segment
pub record Stage : Type 0 where
  pub found : Found
  pub first : Held
  pub moved : Moved

-- a row's version at such a stage
pub record Spot : Type 0 where
  pub stage : Stage
  pub version : Version

-- a stage, and how the command leaves the segment
pub record Ending : Type 0 where
  pub stage : Stage
  pub turn : SegTurn

abbrev pub end_of : RowEnd → rule.RowEnd
end_of end.Written = Written
end_of end.Skipped = Skipped
end_of end.Waiting = Waiting
end_of (end.Failing cause) = Failing cause

abbrev pub waits_then : rule.RowEnd → Bool
waits_then Waiting = true
waits_then _ = false

abbrev pub is_done_at : rule.RowEnd → Bool
is_done_at Written = true
is_done_at Skipped = true
is_done_at _ = false

-- what is held, the entry and the marks are as the rows so far have made them
pub record IsAt (stage : Stage) (g : Gxid) (held : Held) (entry : Entry) (marks : List Mark) : Type 0 where
  pub apart : IsApart stage.found.start stage.first held entry g stage.moved.seg
  pub told : marks ≡ stage.moved.marks
  pub typed : All (λ v. IsTrue (is_right_version stage.found.tables v)) stage.moved.seg.versions

-- the transaction waits for nothing
abbrev pub IsFree : Stage → Gxid → Type 0
IsFree stage g = list_any (is_of g) stage.moved.seg.locks.waits ≡ false

-- one row more has made this of them
pub record Came (stage : Stage) (g : Gxid) (held : Held) (entry : Entry) (marks : List Mark) (turn : rule.RowTurn) (e : RowEnd) : Type 0 where
  pub at : IsAt (record stage { moved = turn.moved }) g held entry marks
  pub end : turn.end ≡ end_of e
  pub waits : list_any (is_of g) turn.moved.seg.locks.waits ≡ waits_then turn.end

-- ALL ROWS
-- the segment was held, the transaction waited for nothing there, and its entry has been taken out
pub record IsTaken (stage : Stage) (g : Gxid) : Type 0 where
  pub held : IsHeld stage.found.tables stage.found.was stage.found.start
  pub free : is_waiting (local_of stage.found.start g) ≡ false
  pub others : (h : Gxid) → h.0 ≢ g.0 → entry_at stage.first h ≡ entry_at stage.found.was h
  pub holders : stage.first.holders ≡ stage.found.was.holders

-- the row at a place
abbrev pub rid_at : List Rid → ℕ → Rid
rid_at rids index = unwrap_or (slice_get rids index) (record { gxid = record { 0 = 0 }; cid = record { 0 = 0 }; ordinal = 0 })

-- what these rows, all of them done, have made of the segment
abbrev pub moved_by : Gxid → rule.Change → Moved → List Rid → Moved
moved_by g k m rids = fold (λ n rid. (rule.does_row n g k rid).moved) m rids

-- how many rows that was
abbrev pub written_at : RowEnd → ℕ
written_at end.Written = 1
written_at _ = 0

-- how the rows end at a place where the command isn't done with the row
abbrev pub ended_at : List Rid → ℕ → ℕ → RowEnd → RowsEnd
ended_at rids index count end.Waiting = rows_end.Waiting (rid_at rids index) (drop (index + 1) rids) count
ended_at rids index count (end.Failing cause) = rows_end.Failing cause
ended_at rids index count _ = rows_end.Done count

-- how the rows have ended
abbrev pub ends_as : Gxid → rule.Change → Moved → RowsEnd → SegTurn
ends_as g k m (rows_end.Done count) = rule.is_done m g k.cid count
ends_as g k m (rows_end.Waiting row rows count) = rule.suspends_at m g k (rule.suspended_at k row rows count)
ends_as g k m (rows_end.Failing cause) = answers m.seg g k.cid m.marks (Failed k.cid cause)

abbrev pub waits_at_last : RowsEnd → Bool
waits_at_last (rows_end.Waiting row rows count) = true
waits_at_last _ = false

-- the rows left can be counted
abbrev pub HasRoom : RowsEnd → Type 0
HasRoom (rows_end.Waiting row rows count) = count + length rows + 1 < 2 ^ 64
HasRoom _ = Unit {0}

-- the command has gone through its rows, or has stopped at one
pub record HasGone (stage : Stage) (k : rule.Change) (g : Gxid) (held : Held) (entry : Entry) (marks : List Mark) (turn : SegTurn) (e : RowsEnd) : Type 0 where
  pub moved : Moved
  pub at : IsAt (record stage { moved = moved }) g held entry marks
  pub is : turn ≡ ends_as g k moved e
  pub waits : list_any (is_of g) moved.seg.locks.waits ≡ waits_at_last e
  pub room : HasRoom e

-- it answers
pub record IsAnswered (stage : Stage) (k : rule.Change) (g : Gxid) (held : Held) (entry : Entry) (marks : List Mark) (turn : SegTurn) (r : Reply) : Type 0 where
  pub moved : Moved
  pub at : IsAt (record stage { moved = moved }) g held entry marks
  pub is : turn ≡ answers moved.seg g k.cid moved.marks r
  pub free : list_any (is_of g) moved.seg.locks.waits ≡ false
