-- What the marks say of the stages of transactions.
use Rattle.std.specs.Prelude.{◌≡◌, ◌≤◌, ◌<◌, ℕ, List, true, false}
use Rattle.gx_store.specs.declared.mark.Mark.{Mark}
use Rattle.gx_store.specs.Marks.{is_aborted, is_committed, is_ended}
use Rattle.gx_rules.specs.Coordinators.{Coord}
use Rattle.gx_rules.specs.Snapshots.{latest_number}
use Rattle.gx_law_order.specs.Stages.{is_running, stage_of}
use Rattle.gx_law_order.specs.Stages.Stage.{Dropped}
use Rattle.gx_law_order.specs.Standings.{gx}

pub record Past (c : Coord) (ms : List Mark) : Type 0 where
  pub committed : (h : ℕ) → is_committed ms (gx h) ≡ true → (1 ≤ h) × (h < c.table.next.0) × (is_running (stage_of c h) ≡ false)
  pub ended : (h : ℕ) → 1 ≤ h → h < c.table.next.0 → is_running (stage_of c h) ≡ false → is_ended ms (gx h) ≡ true
  pub dropped : (h : ℕ) → stage_of c h ≡ Dropped → is_aborted ms (gx h) ≡ true
  pub latest : (h : ℕ) → 1 ≤ h → h < c.table.next.0 → is_running (stage_of c h) ≡ false → h ≤ latest_number c.table.latest_ended
  pub drawn : latest_number c.table.latest_ended < c.table.next.0
