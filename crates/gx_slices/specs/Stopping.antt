-- The locks with which a command stops at a row, and those with which it leaves one that is done.
use Rattle.std.specs.Prelude.{if◌then◌else◌, Bool, ◌||◌, List, [], ◌∷◌, ◌++◌}
use Rattle.std.specs.List.{list_any}
use Rattle.gx_ids.specs.declared.ids.Gxid.{Gxid}
use Rattle.gx_ids.specs.declared.ids.Node.{Node}
use Rattle.gx_ids.specs.declared.rid.Rid.{Rid}
use Rattle.gx_waits.specs.Claim.{same_claim}
use Rattle.gx_locks.specs.Locks.{Locks}
use Rattle.gx_waits.specs.Claims.{is_clear}
use Rattle.gx_node.specs.Locking.{asked_locks, asked_mark}
use Rattle.gx_store.specs.declared.mark.Mark.{Mark}
use Rattle.gx_rules.specs.Changes.{end_lock, tuple_lock}
use Rattle.gx_rules.specs.Locks.{release_mark, wait_mark, with_wait, without_hold}

abbrev pub holds_row : Gxid → Rid → Locks → Bool
holds_row g rid locks = list_any (same_claim (tuple_lock g rid)) locks.holds

-- the row's lock is asked for, unless it is held; with it the command waits for the writer's end
abbrev pub has_row : Gxid → Rid → Locks → Bool
has_row g rid locks = holds_row g rid locks || is_clear locks.holds locks.waits (tuple_lock g rid)

abbrev pub row_locks : Gxid → Rid → Locks → Locks
row_locks g rid locks = if holds_row g rid locks then locks else asked_locks locks (tuple_lock g rid) (is_clear locks.holds locks.waits (tuple_lock g rid))

abbrev pub row_marks : Node → Gxid → Rid → Locks → List Mark
row_marks node g rid locks = if holds_row g rid locks then [] else asked_mark node (tuple_lock g rid) (is_clear locks.holds locks.waits (tuple_lock g rid)) ∷ []

abbrev pub stop_locks : Gxid → Rid → Gxid → Locks → Locks
stop_locks g rid writer locks = if has_row g rid locks then with_wait (row_locks g rid locks) (end_lock g writer) else row_locks g rid locks

abbrev pub stop_marks : Node → Gxid → Rid → Gxid → Locks → List Mark
stop_marks node g rid writer locks = row_marks node g rid locks ++ (if has_row g rid locks then wait_mark node (end_lock g writer) ∷ [] else [])

abbrev pub left_locks : Gxid → Rid → Locks → Locks
left_locks g rid locks = if holds_row g rid locks then without_hold locks (tuple_lock g rid) else locks

abbrev pub left_marks : Node → Gxid → Rid → Locks → List Mark
left_marks node g rid locks = if holds_row g rid locks then release_mark node (tuple_lock g rid) ∷ [] else []

-- once the row is done
abbrev pub locks_after : Bool → Gxid → Rid → Locks → Locks
locks_after done g rid locks = if done then left_locks g rid locks else locks

abbrev pub marks_after : Bool → Node → Gxid → Rid → Locks → List Mark
marks_after done node g rid locks = if done then left_marks node g rid locks else []
