use Rattle.std.proofs.Common.{◌≡◌, ◌<◌, length, take}
use Rattle.gx_store.specs.Points.{IsPointOf, Point, marks_in}
use Rattle.gx_legal.specs.Deeds.{IsByCommand, doing_of}
use Rattle.gx_legal.specs.Tallies.{IsTally}
use Rattle.gx_legal.proofs.late.is_by_earlier_step.Given as goal

abbrev pub invariant-loop-number : goal.invariant-loop-number
invariant-loop-number l =
    let m = l.moment in
    record {
      begins : l.start ≡ length (marks_in (take l.number m.steps.now));
      none : (early : Point) → IsPointOf m.steps.now early → length early.steps < l.number → IsByCommand m.script.now early (doing_of l.deed) → ⊥;
      told : IsTally m.script.now (take l.number m.steps.now) (marks_in (take l.number m.steps.now)) l.tally;
    }
