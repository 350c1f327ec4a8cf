-- How a command runs at a segment: it takes its table's lock, or waits for it, and then does its slice; and how it goes on.
use Rattle.std.specs.Prelude.{if◌then◌else◌, [], ◌∷◌, Some, None}
use Rattle.std.specs.declared.option.Option.{Option}
use Rattle.gx_ids.specs.declared.ids.Cid.{Cid}
use Rattle.gx_ids.specs.declared.ids.Gxid.{Gxid}
use Rattle.gx_ids.specs.declared.rid.Rid.{Rid}
use Rattle.gx_tree.specs.declared.slice.Slice.{Slice}
use Rattle.gx_tree.specs.declared.slice.Slice.TheVariants as slice
use Rattle.gx_tree.specs.declared.stmt.Level.{Level}
use Rattle.gx_dsnap.specs.declared.snapshot.Snapshot.{Snapshot}
use Rattle.gx_waits.specs.declared.claim.Claim.{Claim}
use Rattle.gx_waits.specs.declared.object.Object.{Object}
use Rattle.gx_waits.specs.declared.object.Object.TheVariants.{Transaction}
use Rattle.gx_locks.specs.Locks.{resumed}
use Rattle.gx_waits.specs.Claims.{is_clear}
use Rattle.gx_script.specs.declared.Script.{Script}
use Rattle.gx_store.specs.Locks.{slice_lock}
use Rattle.gx_rules.specs.Changes.{change_of, changes_rows, goes_on_at}
use Rattle.gx_rules.specs.Locks.{hold_mark, wait_mark, with_hold, with_wait}
use Rattle.gx_rules.specs.Segments.{Seg, SegTurn, Suspended, after_marks, local_of, with_local}
use Rattle.gx_rules.specs.Slices.{Moved, adds, gives_back, locks, reads}

-- ALL SLICES
abbrev pub runs_slice : Seg → Gxid → Cid → Level → Option Snapshot → Slice → SegTurn
runs_slice s g c level snapshot (slice.Select query) = reads s g c query snapshot
runs_slice s g c level snapshot (slice.Insert table rows) = adds s g c table rows snapshot
runs_slice s g c level snapshot (slice.Update table assigns cond) = changes_rows s g (change_of c level snapshot (slice.Update table assigns cond))
runs_slice s g c level snapshot (slice.Delete table cond) = changes_rows s g (change_of c level snapshot (slice.Delete table cond))
runs_slice s g c level snapshot (slice.Lock table mode) = locks s g c

-- THE TABLE'S LOCK
-- it waits for the lock: the command has come, and isn't answered yet
abbrev pub suspended_slice : Cid → Level → Option Snapshot → Slice → Suspended
suspended_slice c level snapshot slice = record { cid = c; level = level; snapshot = snapshot; slice = slice; count = 0; row = None; rows = [] }

abbrev pub suspends : Seg → Gxid → Cid → Level → Option Snapshot → Slice → Claim → SegTurn
suspends s g c level snapshot slice wanted =
    record {
      seg =
          record (with_local s g (record (local_of s g) { last = c.0; answer = None; suspended = Some (suspended_slice c level snapshot slice) })) {
            locks = with_wait s.locks wanted;
          };
      marks = wait_mark s.node wanted ∷ [];
      outs = [];
      item = None;
    }

-- with the lock it runs
abbrev pub runs_locked : Seg → Gxid → Cid → Level → Option Snapshot → Slice → Claim → SegTurn
runs_locked s g c level snapshot slice wanted =
    after_marks (hold_mark s.node wanted ∷ []) (runs_slice (record s { locks = with_hold s.locks wanted }) g c level snapshot slice)

abbrev pub requests : Seg → Gxid → Cid → Level → Option Snapshot → Slice → Claim → SegTurn
requests s g c level snapshot slice wanted =
    if is_clear s.locks.holds s.locks.waits wanted then runs_locked s g c level snapshot slice wanted else suspends s g c level snapshot slice wanted

abbrev pub starts_slice : Script → Seg → Gxid → Cid → Level → Option Snapshot → Slice → SegTurn
starts_slice script s g c level snapshot slice = requests s g c level snapshot slice (slice_lock script g slice)

-- GOING ON
-- what it has waited for is granted; a lock on another transaction's end is given back at once
abbrev pub unless_end : Claim → Object → Moved → Moved
unless_end wanted (Transaction other) m = gives_back wanted m
unless_end wanted _ m = m

abbrev pub is_granted : Seg → Gxid → Claim → Moved
is_granted s g wanted =
    unless_end wanted wanted.object
    (record {
      seg = record (with_local s g (record (local_of s g) { suspended = None })) { locks = resumed s.locks g (Some wanted) };
      marks = hold_mark s.node wanted ∷ [];
    })

-- it goes on at its row, or, where it has waited for its table, from the start
abbrev pub goes_on : Moved → Gxid → Suspended → Option Rid → SegTurn
goes_on m g waiting None = after_marks m.marks (runs_slice m.seg g waiting.cid waiting.level waiting.snapshot waiting.slice)
goes_on m g waiting (Some rid) = goes_on_at m g (change_of waiting.cid waiting.level waiting.snapshot waiting.slice) rid waiting
