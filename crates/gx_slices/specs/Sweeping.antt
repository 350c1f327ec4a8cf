-- Rows of which nothing is left to sweep.
use Rattle.std.specs.Prelude.{◌≡◌, ◌++◌, ◌∷◌, [], List, Some}
use Rattle.std.specs.declared.option.Option.{Option}
use Rattle.gx_ids.specs.declared.ids.Cid.{Cid}
use Rattle.gx_ids.specs.declared.ids.Gxid.{Gxid}
use Rattle.gx_ids.specs.declared.ids.Table.{Table}
use Rattle.gx_ids.specs.declared.rid.Rid.{Rid}
use Rattle.gx_tree.specs.declared.value.Value.{Value}
use Rattle.gx_rows.specs.declared.status.LocalStatus.{LocalStatus}
use Rattle.gx_slices.specs.Store.{Store, Write, swept, writes_of}
use Rattle.gx_slices.specs.declared.change.Change.{Change}
use Rattle.gx_slices.specs.declared.changing_row.RowEnd.{RowEnd}
use Rattle.gx_slices.specs.declared.changing_row.RowEnd.TheVariants as end

abbrev pub IsSwept : Store → Table → Rid → Type 0
IsSwept store table rid = swept store (writes_of store table rid) ≡ writes_of store table rid

-- A ROW THAT A COMMAND HAS COME TO
-- a write more, by this command
pub record HasOneMore (g : Gxid) (c : Cid) (before after : List Write) : Type 0 where
  pub status : LocalStatus
  pub image : Option (List Value)
  pub is : after ≡ before ++ record { writer = Some g; cid = c; status = status; image = image } ∷ []

-- one where it has written the row, else none
abbrev pub HasMore : Gxid → Cid → RowEnd → List Write → List Write → Type 0
HasMore g c end.Written before after = HasOneMore g c before after
HasMore g c _ before after = after ≡ before

abbrev pub Writes : Change → Rid → Store → Store → RowEnd → Type 0
Writes k rid old new e = HasMore k.writer.gxid k.writer.cid e (writes_of old k.writer.table rid) (writes_of new k.writer.table rid)

-- of what was there before, what a sweep leaves, and no more
abbrev pub LeavesSwept : Change → Rid → Store → Store → RowEnd → Type 0
LeavesSwept k rid old new e = HasMore k.writer.gxid k.writer.cid e (swept old (writes_of old k.writer.table rid)) (writes_of new k.writer.table rid)
