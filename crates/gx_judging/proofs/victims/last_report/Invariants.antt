use Rattle.std.proofs.Common.{◌≡◌, None, take}
use Rattle.gx_store.specs.Rounds.{last_report}
use Rattle.gx_judging.proofs.victims.last_report.Given as goal

abbrev pub invariant-loop-place : goal.invariant-loop-place
invariant-loop-place l = last_report l.node l.round None (take l.place l.marks) ≡ last_report l.node l.round None l.marks
