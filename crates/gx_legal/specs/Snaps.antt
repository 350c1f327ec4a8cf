-- What a snapshot sees, by marks.
use Rattle.std.specs.Prelude.{◌≡◌, ◌≤◌, true, List}
use Rattle.gx_dsnap.specs.Snapshot.{sees}
use Rattle.gx_dsnap.specs.declared.snapshot.Snapshot.{Snapshot}
use Rattle.gx_ids.specs.declared.ids.Gxid.{Gxid}
use Rattle.gx_store.specs.declared.mark.Mark.{Mark}
use Rattle.gx_store.specs.Marks.{is_committed, is_ended}

-- it sees all that these marks commit
abbrev pub SeesCommits : List Mark → Snapshot → Type 0
SeesCommits marks snapshot = (h : Gxid) → is_committed marks h ≡ true → sees snapshot h ≡ true

-- all that it sees have ended
abbrev pub SeesEnded : List Mark → Snapshot → Type 0
SeesEnded marks snapshot = (h : Gxid) → 1 ≤ h.0 → sees snapshot h ≡ true → is_ended marks h ≡ true
