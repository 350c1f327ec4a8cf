use Rattle.std.proofs.Common.{◌<◌, ◌++◌, length, take}
use Rattle.gx_store.specs.Points.{IsBeforeInStep, Point, marks_in}
use Rattle.gx_legal.specs.Deeds.{IsByCommand, doing_of}
use Rattle.gx_legal.specs.Stretches.{end_of}
use Rattle.gx_legal.specs.Tallies.{IsTally}
use Rattle.gx_legal.proofs.late.is_by_earlier_in_step.Given as goal

abbrev pub invariant-loop-count : goal.invariant-loop-count
invariant-loop-count l =
    let s = l.stretch in
    record {
      none : (early : Point) → IsBeforeInStep early (end_of s) → length early.earlier < l.count → IsByCommand s.script.now early (doing_of l.deed) → ⊥;
      told : IsTally s.script.now s.steps.now (marks_in s.steps.now ++ take l.count s.marks.now) l.tally;
    }
