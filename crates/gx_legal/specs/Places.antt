-- The places of the snapshots by which a command reads.
use Rattle.std.specs.Prelude.{ℕ, ◌+◌, ◌==◌, Bool, true, false, if◌then◌else◌, ◌&&◌, List, [], ◌∷◌}
use Rattle.gx_ids.specs.declared.ids.Gxid.{Gxid}
use Rattle.gx_ids.specs.declared.ids.Cid.{Cid}
use Rattle.gx_tree.specs.declared.stmt.Level.{Level}
use Rattle.gx_tree.specs.declared.stmt.Level.TheVariants.{ReadCommitted, RepeatableRead}
use Rattle.gx_store.specs.declared.mark.Mark.{Mark}
use Rattle.gx_store.specs.declared.mark.Mark.TheVariants.{Snap}
use Rattle.gx_store.specs.Marks.{is_same_gxid}

-- a snapshot that was taken for the transaction's command d serves its command c
abbrev pub serves : Level → Cid → Cid → Bool
serves ReadCommitted d c = d.0 == c.0
serves RepeatableRead d c = true

abbrev pub is_snapshot : Level → Gxid → Cid → Mark → Bool
is_snapshot level g c (Snap h d snapshot) = is_same_gxid h g && serves level d c
is_snapshot level g c _ = false

-- the places of the marks that pass a test, where the first mark has this place
abbrev pub places_from : (Mark → Bool) → ℕ → List Mark → List ℕ
places_from test place [] = []
places_from test place (m ∷ ms) = if test m then place ∷ places_from test (place + 1) ms else places_from test (place + 1) ms

abbrev pub snapshots : List Mark → Level → Gxid → Cid → List ℕ
snapshots marks level g c = places_from (is_snapshot level g c) 0 marks
