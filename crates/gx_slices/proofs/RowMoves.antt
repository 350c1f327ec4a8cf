-- The locks with which a command stops at a row, and those with which it leaves one: who holds itself, and who waits.
use Rattle.std.proofs.Common.{◌≡◌, ◌≢◌, Bool, true, false, if◌then◌else◌, not, ◌||◌, List, [], ◌∷◌, ◌++◌, refl, ap, ◌∙◌}
use Rattle.std.proofs.lemmas.List.Folds.{list_any-append}
use Rattle.std.specs.List.{list_any}
use Rattle.gx_ids.specs.declared.ids.Gxid.{Gxid}
use Rattle.gx_ids.specs.declared.rid.Rid.{Rid}
use Rattle.gx_waits.specs.Claim.{same_claim}
use Rattle.gx_waits.specs.declared.claim.Claim.{Claim}
use Rattle.gx_waits.specs.Claims.{is_clear, is_of}
use Rattle.gx_locks.specs.Locks.{Locks, wait_of}
use Rattle.gx_node.specs.Locking.{asked_locks}
use Rattle.gx_rules.specs.Changes.{end_lock, tuple_lock}
use Rattle.gx_rules.specs.Locks.{with_wait, without_hold}
use Rattle.gx_rules.specs.Segments.{Seg}
use Rattle.gx_slices.specs.Agrees.{AreWriters}
use Rattle.gx_slices.specs.Owning.{AreOwn}
use Rattle.gx_slices.specs.Stopping.{holds_row, left_locks, stop_locks}
use Rattle.gx_slices.proofs.Gxids.{itself}
use Rattle.gx_slices.proofs.OwnMoves.{AreWriters-held, AreWriters-waits, AreWriters-without}
use Rattle.gx_slices.proofs.Owning.{AreOwn-filter, AreOwn-held}
use Rattle.gx_slices.proofs.Waiting.{find-more}

-- STOPPING
module _ (g : Gxid) (rid : Rid) (writer : Gxid) where
  abbrev tuple : Claim
  tuple = tuple_lock g rid

  abbrev the_end : Claim
  the_end = end_lock g writer

  abbrev stopped : Locks → Bool → Bool → Locks
  stopped locks h f = if h || f then with_wait (if h then locks else asked_locks locks tuple f) the_end else (if h then locks else asked_locks locks tuple f)

  AreOwn-by : (locks : Locks) → AreOwn locks.holds → (h f : Bool) → AreOwn (stopped locks h f).holds
  AreOwn-by locks own true f = own
  AreOwn-by locks own false true = AreOwn-held locks.holds tuple refl own
  AreOwn-by locks own false false = own

  pub AreOwn-stop : (locks : Locks) → AreOwn locks.holds → AreOwn (stop_locks g rid writer locks).holds
  AreOwn-stop locks own = AreOwn-by locks own (holds_row g rid locks) (is_clear locks.holds locks.waits tuple)

  AreWriters-by : (s : Seg) → AreWriters s → (h f : Bool) → AreWriters (record s { locks = stopped s.locks h f })
  AreWriters-by s was true f = AreWriters-waits s was (s.locks.waits ++ the_end ∷ [])
  AreWriters-by s was false true = AreWriters-held s was tuple (s.locks.waits ++ the_end ∷ []) refl
  AreWriters-by s was false false = AreWriters-waits s was (s.locks.waits ++ tuple ∷ [])

  pub AreWriters-stop : (s : Seg) → AreWriters s → AreWriters (record s { locks = stop_locks g rid writer s.locks })
  AreWriters-stop s was = AreWriters-by s was (holds_row g rid s.locks) (is_clear s.locks.holds s.locks.waits tuple)

  -- it waits, and the others as before
  others-by : (locks : Locks) (k : Gxid) → k.0 ≢ g.0 → (h f : Bool) → wait_of (stopped locks h f) k ≡ wait_of locks k
  others-by locks k other true f = find-more k locks.waits the_end other
  others-by locks k other false true = find-more k locks.waits the_end other
  others-by locks k other false false = find-more k locks.waits tuple other

  pub others-stop : (locks : Locks) (k : Gxid) → k.0 ≢ g.0 → wait_of (stop_locks g rid writer locks) k ≡ wait_of locks k
  others-stop locks k other = others-by locks k other (holds_row g rid locks) (is_clear locks.holds locks.waits tuple)

  waits-more : (waits : List Claim) (claim : Claim) → is_of g claim ≡ true → list_any (is_of g) (waits ++ claim ∷ []) ≡ true
  waits-more waits claim own = list_any-append (is_of g) waits (claim ∷ []) ∙ ap (λ (b : Bool). list_any (is_of g) waits || (b || false)) own ∙ or-yes (list_any (is_of g) waits)
    where
      or-yes : (b : Bool) → (b || (true || false)) ≡ true
      or-yes true = refl
      or-yes false = refl

  waits-by : (locks : Locks) (h f : Bool) → list_any (is_of g) (stopped locks h f).waits ≡ true
  waits-by locks true f = waits-more locks.waits the_end (itself g.0)
  waits-by locks false true = waits-more locks.waits the_end (itself g.0)
  waits-by locks false false = waits-more locks.waits tuple (itself g.0)

  pub waits-stop : (locks : Locks) → list_any (is_of g) (stop_locks g rid writer locks).waits ≡ true
  waits-stop locks = waits-by locks (holds_row g rid locks) (is_clear locks.holds locks.waits tuple)

-- LEAVING
module _ (g : Gxid) (rid : Rid) where
  pub AreOwn-left : (locks : Locks) → AreOwn locks.holds → AreOwn (left_locks g rid locks).holds
  AreOwn-left locks own = either (holds_row g rid locks)
    where
      either : (b : Bool) → AreOwn (if b then without_hold locks (tuple_lock g rid) else locks).holds
      either true = AreOwn-filter (λ other. not (same_claim (tuple_lock g rid) other)) locks.holds own
      either false = own

  pub AreWriters-left : (s : Seg) → AreWriters s → AreWriters (record s { locks = left_locks g rid s.locks })
  AreWriters-left s was = either (holds_row g rid s.locks)
    where
      either : (b : Bool) → AreWriters (record s { locks = if b then without_hold s.locks (tuple_lock g rid) else s.locks })
      either true = AreWriters-without s was (tuple_lock g rid) s.locks.waits
      either false = was

  pub waits-left : (locks : Locks) → (left_locks g rid locks).waits ≡ locks.waits
  waits-left locks = either (holds_row g rid locks)
    where
      either : (b : Bool) → (if b then without_hold locks (tuple_lock g rid) else locks).waits ≡ locks.waits
      either true = refl
      either false = refl
