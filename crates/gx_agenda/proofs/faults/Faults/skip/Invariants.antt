use Rattle.std.proofs.Common.{◌-◌, ◌≡◌, ◌<◌, ℕ, true, ◌≤◌}
use Rattle.gx_agenda.specs.Faults.{is_lost}
use Rattle.gx_agenda.proofs.faults.Faults.skip.Given as goal

abbrev pub invariant-skipping : goal.invariant-skipping
invariant-skipping l =
    record {
      above : l.done ≤ l.passed;
      lost : (n : ℕ) → l.done < n → n ≤ l.passed → is_lost l.self l.link n ≡ true;
    }

abbrev pub decreases-skipping : goal.decreases-skipping
decreases-skipping l = 18446744073709551615 - l.passed
