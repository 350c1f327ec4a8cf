-- How UPDATE and DELETE go through the rows that they have selected, one behind the other (PostgreSQL manual 13.2).
use Rattle.std.specs.Prelude.{ℕ, ◌+◌, Bool, true, false, not, if◌then◌else◌, ◌||◌, List, [], ◌∷◌, ◌++◌, filter, map, Some, None, Result, Ok, Err}
use Rattle.std.specs.declared.option.Option.{Option}
use Rattle.gx_ids.specs.declared.ids.Cid.{Cid}
use Rattle.gx_ids.specs.declared.ids.Gxid.{Gxid}
use Rattle.gx_ids.specs.declared.ids.Table.{Table}
use Rattle.gx_ids.specs.declared.rid.Rid.{Rid}
use Rattle.gx_tree.specs.declared.cond.Cond.{Cond}
use Rattle.gx_tree.specs.declared.part.Part.TheVariants.{Rows}
use Rattle.gx_tree.specs.declared.row.KeyedRow.{KeyedRow}
use Rattle.gx_tree.specs.declared.slice.Slice.{Slice}
use Rattle.gx_tree.specs.declared.slice.Slice.TheVariants as slice
use Rattle.gx_tree.specs.declared.stmt.Assign.{Assign}
use Rattle.gx_tree.specs.declared.stmt.Level.{Level}
use Rattle.gx_tree.specs.declared.stmt.Level.TheVariants.{ReadCommitted, RepeatableRead}
use Rattle.gx_tree.specs.declared.value.Value.{Value}
use Rattle.gx_dsnap.specs.declared.snapshot.Snapshot.{Snapshot}
use Rattle.gx_modes.specs.declared.modes.Mode.TheVariants.{Exclusive, Share}
use Rattle.gx_waits.specs.declared.claim.Claim.{Claim}
use Rattle.gx_waits.specs.declared.object.Object.TheVariants.{Transaction, Tuple}
use Rattle.gx_waits.specs.Claims.{claim, is_clear}
use Rattle.gx_meaning.specs.Answer.{keeps}
use Rattle.gx_meaning.specs.Expressions.{and_then}
use Rattle.gx_meaning.specs.declared.fault.ArithFault.{ArithFault}
use Rattle.gx_msg.specs.declared.reply.Cause.{Cause}
use Rattle.gx_msg.specs.declared.reply.Cause.TheVariants.{Serialization}
use Rattle.gx_msg.specs.declared.reply.Reply.TheVariants.{Done, Failed}
use Rattle.gx_store.specs.declared.mark.Mark.TheVariants.{Fault, Skip}
use Rattle.gx_store.specs.Commands.{condition_on}
use Rattle.gx_store.specs.Marks.{is_same_gxid}
use Rattle.gx_store.specs.Writes.{set_row}
use Rattle.gx_rules.specs.Locks.{wait_mark, with_wait}
use Rattle.gx_rules.specs.Segments.{Seg, SegTurn, Suspended, Version, after_marks, local_of, stays, with_local}
use Rattle.gx_rules.specs.Shown.{counts, current_of, shown}
use Rattle.gx_rules.specs.Slices.{Moved, answers, cause_of, fails_on, first_fault, gives_back, has_written, is_holding, noted, own_lock, starts_from, takes_lock, writes_row}

-- A command that changes rows of a table. One without a SET list deletes them.
pub record Change : Type 0 where
  pub cid : Cid
  pub level : Level
  pub snapshot : Snapshot
  pub slice : Slice
  pub table : Table
  pub set : Option (List Assign)
  pub cond : Option Cond

abbrev pub change_of : Cid → Level → Option Snapshot → Slice → Option Change
change_of c level (Some snapshot) (slice.Update table assigns cond) =
    Some (record { cid = c; level = level; snapshot = snapshot; slice = slice.Update table assigns cond; table = table; set = Some assigns; cond = cond })
change_of c level (Some snapshot) (slice.Delete table cond) =
    Some (record { cid = c; level = level; snapshot = snapshot; slice = slice.Delete table cond; table = table; set = None; cond = cond })
change_of c level _ _ = None

-- ONE ROW
-- What has come of a row, and of the segment: the row is written or skipped, or its command waits at it, or fails at it.
pub data RowEnd : Type 0 where
  Written : RowEnd
  Skipped : RowEnd
  Waiting : RowEnd
  Failing : (cause : Cause) → RowEnd

pub record RowTurn : Type 0 where
  pub moved : Moved
  pub end : RowEnd

abbrev pub ended : Moved → RowEnd → RowTurn
ended m end = record { moved = m; end = end }

-- what a command makes of a row's image
abbrev pub new_image : Option (List Assign) → List Value → Result (Option (List Value)) ArithFault
new_image None old = Ok None
new_image (Some assigns) old = and_then (set_row assigns old) (λ new. Ok (Some new))

abbrev pub skips : Moved → Gxid → Change → Rid → RowTurn
skips m g k rid = ended (noted m (Skip g k.cid rid)) Skipped

abbrev pub faults : Moved → Gxid → Change → Rid → List Value → ArithFault → RowTurn
faults m g k rid old fault = ended (noted m (Fault g k.cid rid (Some old))) (Failing (cause_of fault))

abbrev pub writes : Moved → Gxid → Change → Rid → List Value → Result (Option (List Value)) ArithFault → RowTurn
writes m g k rid old (Ok image) = ended (writes_row g k.cid k.table m rid image) Written
writes m g k rid old (Err fault) = faults m g k rid old fault

-- by what the condition says of the current image
abbrev pub tested : Moved → Gxid → Change → Rid → List Value → Result Bool ArithFault → RowTurn
tested m g k rid old (Ok true) = writes m g k rid old (new_image k.set old)
tested m g k rid old (Ok false) = skips m g k rid
tested m g k rid old (Err fault) = faults m g k rid old fault

-- At read committed a row that is gone is skipped, and any other is tested again.
abbrev pub looks_again : Moved → Gxid → Change → Rid → Option (List Value) → RowTurn
looks_again m g k rid None = skips m g k rid
looks_again m g k rid (Some old) = tested m g k rid old (condition_on k.cond old)

-- At repeatable read the row that was selected is written.
abbrev pub changes_shown : Moved → Gxid → Change → Rid → Option (List Value) → RowTurn
changes_shown m g k rid None = skips m g k rid
changes_shown m g k rid (Some old) = writes m g k rid old (new_image k.set old)

-- A current version that counts for the command is the one that it is shown: what counts isn't aborted, so it can't stand behind
-- the current one. Where it doesn't count, another transaction has changed the row since the snapshot, which is refused.
abbrev pub processes : Moved → Gxid → Change → Rid → Version → Level → RowTurn
processes m g k rid v ReadCommitted = looks_again m g k rid v.image
processes m g k rid v RepeatableRead =
    if counts m.seg k.snapshot g k.cid v then changes_shown m g k rid v.image else ended m (Failing (Serialization rid v.gxid))

-- WAITING AT A ROW
abbrev pub tuple_lock : Gxid → Rid → Claim
tuple_lock g rid = claim g (Tuple rid) Exclusive

-- a lock that is free when the other transaction has ended at the segment
abbrev pub end_lock : Gxid → Gxid → Claim
end_lock g other = claim g (Transaction other) Share

abbrev pub waits : Claim → Moved → RowTurn
waits wanted m = ended (record { seg = record m.seg { locks = with_wait m.seg.locks wanted }; marks = m.marks ++ wait_mark m.seg.node wanted ∷ [] }) Waiting

-- with the row's lock, which it takes where nothing is in its way there, it waits for who has written the row, and else for the row's lock
abbrev pub waits_at : Moved → Gxid → Rid → Gxid → RowTurn
waits_at m g rid writer =
    if is_holding m (tuple_lock g rid) then waits (end_lock g writer) m
    else if is_clear m.seg.locks.holds m.seg.locks.waits (tuple_lock g rid) then waits (end_lock g writer) (takes_lock (tuple_lock g rid) m)
    else waits (tuple_lock g rid) m

-- A row may be processed where its current version is the transaction's own, or whose writer has ended there.
abbrev pub is_settled : Moved → Gxid → Gxid → Bool
is_settled m g writer = is_same_gxid writer g || not (is_holding m (own_lock writer))

abbrev pub at_current : Moved → Gxid → Change → Rid → Option Version → RowTurn
at_current m g k rid None = skips m g k rid
at_current m g k rid (Some v) = if is_settled m g v.gxid then processes m g k rid v k.level else waits_at m g rid v.gxid

-- a row that is done gives its lock back; where the command waits or fails, it is kept
abbrev pub gives_back_if_held : Claim → Moved → Moved
gives_back_if_held old m = if is_holding m old then gives_back old m else m

abbrev pub without_tuple : Gxid → Rid → RowTurn → RowEnd → RowTurn
without_tuple g rid turn Written = record turn { moved = gives_back_if_held (tuple_lock g rid) turn.moved }
without_tuple g rid turn Skipped = record turn { moved = gives_back_if_held (tuple_lock g rid) turn.moved }
without_tuple g rid turn _ = turn

abbrev pub looked_at : Moved → Gxid → Change → Rid → RowTurn
looked_at m g k rid = at_current m g k rid (current_of m.seg k.table rid)

abbrev pub does_row : Moved → Gxid → Change → Rid → RowTurn
does_row m g k rid = without_tuple g rid (looked_at m g k rid) (looked_at m g k rid).end

-- ALL ROWS
-- the command is suspended at a row, with so many rows written and these left
abbrev pub suspended_at : Change → Rid → List Rid → ℕ → Suspended
suspended_at k rid rids count =
    record { cid = k.cid; level = k.level; snapshot = Some k.snapshot; slice = k.slice; count = count; row = Some rid; rows = rids }

abbrev pub suspends_at : Moved → Gxid → Change → Suspended → SegTurn
suspends_at m g k waiting =
    record { seg = with_local m.seg g (record (local_of m.seg g) { last = k.cid.0; answer = None; suspended = Some waiting }); marks = m.marks; outs = []; item = None }

-- it has done all rows: it answers how many it has written
abbrev pub is_done : Moved → Gxid → Cid → ℕ → SegTurn
is_done m g c count = answers m.seg g c m.marks (Done c (has_written (local_of m.seg g).phase) count (Rows []))

-- the rows behind one, by what has come of that
abbrev pub after_row : (Moved → ℕ → SegTurn) → Gxid → Change → Rid → List Rid → ℕ → Moved → RowEnd → SegTurn
after_row next g k rid rids count m Written = next m (count + 1)
after_row next g k rid rids count m Skipped = next m count
after_row next g k rid rids count m Waiting = suspends_at m g k (suspended_at k rid rids count)
after_row next g k rid rids count m (Failing cause) = answers m.seg g k.cid m.marks (Failed k.cid cause)

-- from a row on, with so many rows written before it
abbrev pub goes_through : Gxid → Change → List Rid → Moved → ℕ → SegTurn
goes_through g k [] m count = is_done m g k.cid count
goes_through g k (rid ∷ rids) m count = after_row (goes_through g k rids) g k rid rids count (does_row m g k rid).moved (does_row m g k rid).end

-- The condition is evaluated on every row that is shown, before any is changed.
abbrev pub selected : Option Cond → List KeyedRow → List Rid
selected cond rows = map (λ row. row.rid) (filter (keeps cond) rows)

abbrev pub unless_fault : Seg → Gxid → Change → List KeyedRow → Option (KeyedRow × ArithFault) → SegTurn
unless_fault s g k rows None = goes_through g k (selected k.cond rows) (starts_from s) 0
unless_fault s g k rows (Some fault) = fails_on s g k.cid fault

abbrev pub shown_to : Seg → Gxid → Change → List KeyedRow
shown_to s g k = shown s k.snapshot g k.cid k.table

abbrev pub changes_rows : Seg → Gxid → Option Change → SegTurn
changes_rows s g None = stays s
changes_rows s g (Some k) = unless_fault s g k (shown_to s g k) (first_fault k.cond (shown_to s g k))

-- the row at which it has waited is looked at again, and then the rows left
abbrev pub goes_on_at : Moved → Gxid → Option Change → Rid → Suspended → SegTurn
goes_on_at m g None rid waiting = after_marks m.marks (stays m.seg)
goes_on_at m g (Some k) rid waiting = goes_through g k (rid ∷ waiting.rows) m waiting.count
