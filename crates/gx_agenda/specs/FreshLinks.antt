-- Cursors before anything was delivered.
use Rattle.std.specs.Prelude.{◌≡◌, ℕ, false, List, slice_get, Some}
use Rattle.gx_agenda.specs.declared.cursor.Cursor.{Cursor}
use Rattle.gx_agenda.specs.declared.faults.Faults.{Faults}
use Rattle.gx_agenda.specs.Faults.{Skips}

-- nothing is repeated, and only lost messages are done
pub record IsFresh (faults : Faults) (link : ℕ) (cursor : Cursor) : Type 0 where
  pub once : cursor.again ≡ false
  pub skips : Skips faults link 0 cursor.done

abbrev pub AreFresh : Faults → List Cursor → Type 0
AreFresh faults links = (link : ℕ) (cursor : Cursor) → slice_get links link ≡ Some cursor → IsFresh faults link cursor
