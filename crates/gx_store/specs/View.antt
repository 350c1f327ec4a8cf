-- The one store without segments that a run is compared with: each row's image for a reader at a point, and a table's
-- rows. A commit is visible everywhere at once, since it is one mark (PostgreSQL manual 13.2).
use Rattle.std.specs.Prelude.{◌≡◌, ℕ, ◌+◌, ◌==◌, nat_lt, Bool, if◌then◌else◌, ◌&&◌, ◌||◌, List, [], ◌∷◌, Some, None}
use Rattle.std.specs.declared.option.Option.{Option}
use Rattle.std.specs.declared.vec.Vec.{Vec}
use Rattle.std.specs.declared.alloc.Global.{Global}
use Rattle.gx_ids.specs.declared.ids.Gxid.{Gxid}
use Rattle.gx_ids.specs.declared.ids.Cid.{Cid}
use Rattle.gx_ids.specs.declared.ids.Table.{Table}
use Rattle.gx_ids.specs.declared.rid.Rid.{Rid}
use Rattle.gx_tree.specs.declared.row.KeyedRow.{KeyedRow}
use Rattle.gx_tree.specs.declared.value.Value.{Value}
use Rattle.gx_meaning.specs.Answer.{AreRising}
use Rattle.gx_store.specs.declared.mark.Mark.{Mark}
use Rattle.gx_store.specs.declared.mark.Mark.TheVariants.{Write}
use Rattle.gx_store.specs.Marks.{is_committed, is_same_gxid, is_same_rid}
use Rattle.gx_store.specs.Rows.{row_at}

-- who reads: a command of a transaction, or nobody's transaction
abbrev pub Reader : Type 0
Reader = Option (Gxid × Cid)

-- a reader is shown the writes of who had committed before its point, and those of its own earlier commands
abbrev pub is_shown_to : Reader → List Mark → Gxid → Cid → Bool
is_shown_to None before g c = is_committed before g
is_shown_to (Some own) before g c = is_committed before g || (is_same_gxid own.0 g && nat_lt c.0 own.1.0)

-- the image that the last of the shown writes to the row left, or the one given where there is none
abbrev pub image_after : (Gxid → Cid → Bool) → Table → Rid → Option (List Value) → List Mark → Option (List Value)
image_after shown table rid image [] = image
image_after shown table rid image (Write g c node t r written ∷ ms) =
    image_after shown table rid (if shown g c && ((t.0 == table.0) && is_same_rid r rid) then written else image) ms
image_after shown table rid image (_ ∷ ms) = image_after shown table rid image ms

-- the image of a row of a table, among the writes of a run, for a reader whose point has these marks before it
abbrev pub image : List Mark → List Mark → Reader → Table → Rid → Option (List Value)
image marks before reader table rid = image_after (is_shown_to reader before) table rid None marks

-- the rows of a table, in the order of their identities, each with its image for the reader
pub record IsView (marks before : List Mark) (reader : Reader) (table : Table) (rows : List KeyedRow) : Type 0 where
  pub rising : AreRising rows
  pub images : (rid : Rid) → row_at rows rid ≡ image marks before reader table rid

-- the tables from the one of this number on, each as nobody's transaction sees it at the end of a run
abbrev pub AreFinalFrom : ℕ → List Mark → List (Vec KeyedRow Global) → Type 0
AreFinalFrom k marks [] = Unit {0}
AreFinalFrom k marks (rows ∷ tables) = IsView marks marks None (record { 0 = k }) rows.items × AreFinalFrom (k + 1) marks tables
