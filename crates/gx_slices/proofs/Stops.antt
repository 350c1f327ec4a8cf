-- A command that stops at a row, and one that leaves a row that is done, in the rule's words.
use Rattle.std.proofs.Common.{◌≡◌, Bool, true, false, if◌then◌else◌, ◌||◌, List, [], ◌∷◌, ◌++◌, append-nil, append_assoc, refl, sym, ap}
use Rattle.gx_ids.specs.declared.ids.Gxid.{Gxid}
use Rattle.gx_ids.specs.declared.rid.Rid.{Rid}
use Rattle.gx_waits.specs.declared.claim.Claim.{Claim}
use Rattle.gx_locks.specs.Locks.{Locks}
use Rattle.gx_waits.specs.Claims.{is_clear}
use Rattle.gx_node.specs.Locking.{asked_locks, asked_mark}
use Rattle.gx_store.specs.declared.mark.Mark.{Mark}
use Rattle.gx_rules.specs.Changes.{end_lock, ended, gives_back_if_held, tuple_lock, waits, waits_at}
use Rattle.gx_rules.specs.Changes.RowEnd.{Waiting}
use Rattle.gx_rules.specs.Locks.{hold_mark, release_mark, wait_mark, with_wait, without_hold}
use Rattle.gx_rules.specs.Slices.{Moved, gives_back, takes_lock}
use Rattle.gx_slices.specs.Stopping.{holds_row, left_locks, left_marks, stop_locks, stop_marks}

-- other locks, and marks behind those so far
abbrev pub moved_on : Moved → Locks → List Mark → Moved
moved_on m locks marks = record { seg = record m.seg { locks = locks }; marks = m.marks ++ marks }

module _ (m : Moved) (g : Gxid) (rid : Rid) (writer : Gxid) where
  abbrev tuple : Claim
  tuple = tuple_lock g rid

  abbrev the_end : Claim
  the_end = end_lock g writer

  two : (ms : List Mark) (a b : Mark) → (ms ++ a ∷ []) ++ b ∷ [] ≡ ms ++ a ∷ b ∷ []
  two ms a b = append_assoc ms (a ∷ []) (b ∷ [])

  abbrev asked : Bool → Bool → Locks
  asked h f = if h then m.seg.locks else asked_locks m.seg.locks tuple f

  abbrev noting : Bool → Bool → List Mark
  noting h f = if h then [] else asked_mark m.seg.node tuple f ∷ []

  by_locks : (h f : Bool) → (if h then waits the_end m else if f then waits the_end (takes_lock tuple m) else waits tuple m)
      ≡ ended (moved_on m (if h || f then with_wait (asked h f) the_end else asked h f) (noting h f ++ (if h || f then wait_mark m.seg.node the_end ∷ [] else []))) Waiting
  by_locks true f = refl
  by_locks false true =
      ap (λ (ms : List Mark). let n : Moved = record { seg = record m.seg { locks = with_wait (asked false true) the_end }; marks = ms } in ended n Waiting)
      (two m.marks (hold_mark m.seg.node tuple) (wait_mark m.seg.node the_end))
  by_locks false false = refl

  pub waits_at-stops : waits_at m g rid writer ≡ ended (moved_on m (stop_locks g rid writer m.seg.locks) (stop_marks m.seg.node g rid writer m.seg.locks)) Waiting
  waits_at-stops = by_locks (holds_row g rid m.seg.locks) (is_clear m.seg.locks.holds m.seg.locks.waits tuple)

module _ (m : Moved) (g : Gxid) (rid : Rid) where
  same : m ≡ moved_on m m.seg.locks []
  same = ap (λ (ms : List Mark). let n : Moved = record m { marks = ms } in n) (sym (append-nil m.marks))

  given : (b : Bool) → (if b then gives_back (tuple_lock g rid) m else m)
      ≡ moved_on m (if b then without_hold m.seg.locks (tuple_lock g rid) else m.seg.locks) (if b then release_mark m.seg.node (tuple_lock g rid) ∷ [] else [])
  given true = refl
  given false = same

  pub gives_back_if_held-leaves : gives_back_if_held (tuple_lock g rid) m ≡ moved_on m (left_locks g rid m.seg.locks) (left_marks m.seg.node g rid m.seg.locks)
  gives_back_if_held-leaves = given (holds_row g rid m.seg.locks)
