-- What is gathered of all marks at once, in ordered sets.
use Rattle.std.specs.Prelude.{ℕ, ◌==◌, ◌&&◌, if◌then◌else◌, List, [], ◌∷◌, Some, None}
use Rattle.std.specs.BTreeSet.{insert_key}
use Rattle.std.specs.Ordering.{nat_cmp}
use Rattle.std.specs.declared.option.Option.{Option}
use Rattle.gx_dsnap.specs.Gxids.{gxid_cmp}
use Rattle.gx_ids.specs.declared.ids.Gxid.{Gxid}
use Rattle.gx_ids.specs.declared.ids.Cid.{Cid}
use Rattle.gx_ids.specs.declared.rid.Rid.{Rid}
use Rattle.gx_meaning.specs.Order.{rid_order}
use Rattle.gx_store.specs.declared.mark.Mark.{Mark}
use Rattle.gx_store.specs.declared.mark.Mark.TheVariants.{Commit, Skip, Write}
use Rattle.gx_store.specs.Marks.{is_command_of, is_same_gxid}

-- who has committed, with those before these marks
abbrev pub committed_from : List Gxid → List Mark → List Gxid
committed_from gxids [] = gxids
committed_from gxids (Commit g ∷ ms) = committed_from (insert_key gxid_cmp gxids g) ms
committed_from gxids (_ ∷ ms) = committed_from gxids ms

-- the row that a mark has written or skipped, where it is the command's
abbrev pub if_own : Gxid → Cid → Gxid → Cid → Rid → Option Rid
if_own g c h d rid = if is_command_of g c h d then Some rid else None

abbrev pub row_of : Gxid → Cid → Mark → Option Rid
row_of g c (Write h d node table rid image) = if_own g c h d rid
row_of g c (Skip h d rid) = if_own g c h d rid
row_of g c _ = None

abbrev pub with_row : List Rid → Option Rid → List Rid
with_row rids None = rids
with_row rids (Some rid) = insert_key rid_order rids rid

-- what the command has written or skipped, with what it had before these marks
abbrev pub processed_from : Gxid → Cid → List Rid → List Mark → List Rid
processed_from g c rids [] = rids
processed_from g c rids (m ∷ ms) = processed_from g c (with_row rids (row_of g c m)) ms

-- the ordinals of the command's own rows among them
abbrev pub own_ordinal : Gxid → Cid → Option Rid → Option ℕ
own_ordinal g c None = None
own_ordinal g c (Some rid) = if is_same_gxid rid.gxid g && (rid.cid.0 == c.0) then Some rid.ordinal else None

abbrev pub with_ordinal : List ℕ → Option ℕ → List ℕ
with_ordinal ordinals None = ordinals
with_ordinal ordinals (Some ordinal) = insert_key nat_cmp ordinals ordinal

abbrev pub ordinals_from : Gxid → Cid → List ℕ → List Mark → List ℕ
ordinals_from g c ordinals [] = ordinals
ordinals_from g c ordinals (m ∷ ms) = ordinals_from g c (with_ordinal ordinals (own_ordinal g c (row_of g c m))) ms
