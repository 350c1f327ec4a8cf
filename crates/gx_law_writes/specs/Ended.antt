-- Who has ended at a segment, by who holds its own lock there.
use Rattle.std.specs.Prelude.{◌≡◌, ◌≤◌, true, false}
use Rattle.std.specs.List.{list_any}
use Rattle.gx_ids.specs.declared.ids.Gxid.{Gxid}
use Rattle.gx_ids.specs.declared.ids.Node.{Node}
use Rattle.gx_waits.specs.Claim.{same_claim}
use Rattle.gx_store.specs.Marks.{is_ended}
use Rattle.gx_store.specs.Points.{marks_in}
use Rattle.gx_store.specs.Protocol.{is_writer}
use Rattle.gx_rules.specs.Machine.{World}
use Rattle.gx_rules.specs.Slices.{own_lock}

-- whoever has written at a segment and doesn't hold its own lock there has ended
abbrev pub HaveWritersEnded : World → Type 0
HaveWritersEnded w =
    (node : Node) (g : Gxid) → 1 ≤ node.0 → is_writer (marks_in w.steps) g node ≡ true → list_any (same_claim (own_lock g)) (w.segs node.0).locks.holds ≡ false → is_ended (marks_in w.steps) g ≡ true
