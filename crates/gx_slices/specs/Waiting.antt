-- Slices that wait at a segment for their table's lock, or at a row.
use Rattle.std.specs.Prelude.{◌≡◌, ◌≤◌, ◌<◌, ◌+◌, ◌^◌, ◌||◌, is_some, length, nat_lt, Bool, true, false, List, Some}
use Rattle.std.specs.List.{list_any}
use Rattle.gx_ids.specs.declared.ids.Gxid.{Gxid}
use Rattle.gx_tree.specs.declared.schema.Schema.{Schema}
use Rattle.gx_waits.specs.Claims.{is_of}
use Rattle.gx_node.specs.Right.{IsRightFor}
use Rattle.gx_rules.specs.Fits.{is_waiting, reads_nothing}
use Rattle.gx_rules.specs.Segments.{Phase, Reading, Writing, Seg, Suspended, local_of}

-- the transaction has neither promised anything nor ended here
abbrev pub is_open : Phase → Bool
is_open Reading = true
is_open Writing = true
is_open _ = false

-- the slice is right for the tables, has a snapshot unless it reads nothing, and is of a command, numbered from 1 on, that has come to
-- a transaction which is open here; its rows can be counted
pub record IsRightWait (tables : List Schema) (s : Seg) (g : Gxid) (waiting : Suspended) : Type 0 where
  pub alive : s.horizon.0 ≤ g.0
  pub open_here : is_open (local_of s g).phase ≡ true
  pub came : nat_lt 0 (local_of s g).last ≡ true
  pub reads : (is_some waiting.snapshot || reads_nothing waiting.slice) ≡ true
  pub right : IsRightFor tables g waiting.cid waiting.slice true
  pub new : nat_lt 0 waiting.cid.0 ≡ true
  pub room : waiting.count + length waiting.rows + 1 < 2 ^ 64

-- those who wait for a lock are those whose slices wait
pub record AreWaits (tables : List Schema) (s : Seg) : Type 0 where
  pub standing : (g : Gxid) → list_any (is_of g) s.locks.waits ≡ is_waiting (local_of s g)
  pub right : (g : Gxid) (waiting : Suspended) → (local_of s g).suspended ≡ Some waiting → IsRightWait tables s g waiting
