use Rattle.std.proofs.Common.{◌≡◌, ◌<◌, ℕ, length, take}
use Rattle.gx_store.specs.Points.{marks_in}
use Rattle.gx_legal.specs.Firsts.{SendsFrom}
use Rattle.gx_legal.proofs.firsts.first_sending.Given as goal

abbrev pub invariant-loop-number : goal.invariant-loop-number
invariant-loop-number l = record {
  start : l.start ≡ length (marks_in (take l.number l.moment.steps.now));
  none : (number : ℕ) → number < l.number → (place : ℕ) → SendsFrom l.report.gxid l.report.word l.report.from l.report.to l.moment.steps.now number place → ⊥;
}
