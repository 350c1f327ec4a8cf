-- How far counts can have come after so many steps.
use Rattle.std.specs.Prelude.{ℕ, ◌+◌, ◌*◌, ◌≤◌, length}
use Rattle.gx_rules.specs.Machine.{World}

-- No clock, no number of a link's messages and no gxid is above what the number of steps allows: a step of a segment sends one
-- message at most on its link, one of the coordinator one on each, and one more for each victim of a recheck, and all victims
-- together are no more than those who began; a step begins one transaction at most.
pub record HasRoom (w : World) : Type 0 where
  pub clock : w.coord.clock ≤ length w.steps
  pub clocks : (i : ℕ) → (w.segs i).clock ≤ length w.steps
  pub next : w.coord.table.next.0 ≤ length w.steps + 1
  pub sent : (i : ℕ) → w.coord.sent i ≤ 64 * length w.steps
  pub answered : (i : ℕ) → (w.segs i).sent ≤ length w.steps
