use Rattle.std.proofs.Common.{◌↔◌, ◌++◌, [], drop, take}
use Rattle.gx_judging.specs.Parts.{AreLegalMarksIn}
use Rattle.gx_store.specs.Points.{marks_in}
use Rattle.gx_legal.specs.Tallies.{IsTally}
use Rattle.gx_judging.proofs.parts.are_legal_marks.Given as goal

abbrev pub invariant-loop-number : goal.invariant-loop-number
invariant-loop-number l =
    let s = l.stretch in
    record {
      legal : AreLegalMarksIn l.part s.script.now s.steps.now s.event (take l.number s.marks.now) (drop l.number s.marks.now) ↔ AreLegalMarksIn l.part s.script.now s.steps.now s.event [] s.marks.now;
      told : IsTally s.script.now s.steps.now (marks_in s.steps.now ++ take l.number s.marks.now) l.tally;
    }
