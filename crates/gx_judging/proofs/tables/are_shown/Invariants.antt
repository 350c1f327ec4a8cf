use Rattle.std.proofs.Common.{◌↔◌, drop}
use Rattle.gx_judging.specs.Shown.{AreShownFrom}
use Rattle.gx_judging.proofs.tables.are_shown.Given as goal

abbrev pub invariant-loop-place : goal.invariant-loop-place
invariant-loop-place l = AreShownFrom l.place l.marks (drop l.place l.tables) ↔ AreShownFrom 0 l.marks l.tables
