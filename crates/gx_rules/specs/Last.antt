-- The last that versions say of a row.
use Rattle.std.specs.Prelude.{◌==◌, if◌then◌else◌, ◌&&◌, List, [], ◌∷◌, Option, Some, None, filter, map}
use Rattle.std.specs.List.Sorted.{IsStrictlySortedBy}
use Rattle.std.specs.Option.{option_or}
use Rattle.gx_ids.specs.declared.ids.Cid.{Cid}
use Rattle.gx_ids.specs.declared.ids.Gxid.{Gxid}
use Rattle.gx_ids.specs.declared.ids.Table.{Table}
use Rattle.gx_ids.specs.declared.rid.Rid.{Rid}
use Rattle.gx_tree.specs.declared.value.Value.{Value}
use Rattle.gx_dsnap.specs.declared.snapshot.Snapshot.{Snapshot}
use Rattle.gx_meaning.specs.Order.{rid_order}
use Rattle.gx_msg.specs.declared.item.Kept.{Kept}
use Rattle.gx_store.specs.Marks.{is_same_rid}
use Rattle.gx_rules.specs.Segments.{Seg, Version}
use Rattle.gx_rules.specs.Shown.{counts}

-- the last of the versions of this row, if there is one; an image of None is a row that is gone
abbrev pub last_image : Rid → List Version → Option (Option (List Value))
last_image rid [] = None
last_image rid (v ∷ vs) = option_or (last_image rid vs) (if is_same_rid v.rid rid then Some v.image else None)

-- the versions of a table that count for a command
abbrev pub counting : Seg → Snapshot → Gxid → Cid → Table → List Version
counting s snapshot g c table = filter (λ v. (v.table.0 == table.0) && counts s snapshot g c v) s.versions

-- a row that isn't gone
abbrev pub row_of : Option (Option (List Value)) → Option (List Value)
row_of None = None
row_of (Some image) = image

-- what is kept of a row in a list
abbrev pub image_in : Rid → List Kept → Option (Option (List Value))
image_in rid [] = None
image_in rid (k ∷ ks) = if is_same_rid k.rid rid then Some k.image else image_in rid ks

-- rows that rise by their identities
abbrev pub AreKeptInOrder : List Kept → Type 0
AreKeptInOrder kept = IsStrictlySortedBy rid_order (map (λ k. k.rid) kept)
