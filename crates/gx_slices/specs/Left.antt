-- The writes to a row that a segment still has, against the versions that its rule has of it: those, in their order, without some that
-- are dead.
use Rattle.std.specs.Prelude.{◌≡◌, ◌⊎◌, ◌==◌, Bool, true, not, ◌&&◌, List, [], ◌∷◌, filter}
use Rattle.gx_dsnap.specs.Gxids.{is_below}
use Rattle.gx_ids.specs.declared.ids.Gxid.{Gxid}
use Rattle.gx_ids.specs.declared.ids.Table.{Table}
use Rattle.gx_ids.specs.declared.rid.Rid.{Rid}
use Rattle.gx_rows.specs.Counts.{is_committed}
use Rattle.gx_rows.specs.Rows as rows
use Rattle.gx_rows.specs.Xids.{kept}
use Rattle.gx_rules.specs.Segments.{Phase, Seg, Version, has_committed, is_unaborted, local_of}
use Rattle.gx_store.specs.Marks.{is_same_rid}
use Rattle.gx_sweep.specs.Swept.{is_dead}
use Rattle.gx_slices.specs.Store.{Write}

abbrev pub IsLeft : (Write → Version → Type 0) → (Version → Bool) → (Version → Bool) → List Write → List Version → Type 0
IsLeft Of aborted settled [] [] = Unit {0}
IsLeft Of aborted settled (w ∷ ws) [] = ⊥
IsLeft Of aborted settled [] (v ∷ vs) = (is_dead aborted settled v vs ≡ true) × IsLeft Of aborted settled [] vs
IsLeft Of aborted settled (w ∷ ws) (v ∷ vs) =
    (Of w v × IsLeft Of aborted settled ws vs) ⊎ ((is_dead aborted settled v vs ≡ true) × IsLeft Of aborted settled (w ∷ ws) vs)

-- AT A SEGMENT
-- The write is the version's: who made it is known from this horizon on, and it has committed or aborted here where that transaction has.
pub record IsTold (horizon : Gxid) (phase : Phase) (w : Write) (v : Version) : Type 0 where
  pub writer : w.writer ≡ kept horizon v.gxid
  pub cid : w.cid ≡ v.cid
  pub image : w.image ≡ v.image
  pub committed : is_committed w.status ≡ has_committed phase
  pub unaborted : rows.is_unaborted w.status ≡ is_unaborted phase

abbrev pub IsOf : Seg → Write → Version → Type 0
IsOf s w v = IsTold s.horizon (local_of s v.gxid).phase w v

abbrev pub is_of_row : Table → Rid → Version → Bool
is_of_row table rid v = (v.table.0 == table.0) && is_same_rid v.rid rid

-- its transaction has aborted there, or was forgotten as one that had not committed
abbrev pub has_aborted : Seg → Version → Bool
has_aborted s v = not (is_unaborted (local_of s v.gxid).phase)

-- committed there, by a transaction below the horizon, whom every reader sees
abbrev pub is_settled : Seg → Version → Bool
is_settled s v = has_committed (local_of s v.gxid).phase && is_below s.horizon v.gxid

abbrev pub AreLeft : Seg → Table → Rid → List Write → Type 0
AreLeft s table rid writes = IsLeft (IsOf s) (has_aborted s) (is_settled s) writes (filter (is_of_row table rid) s.versions)
