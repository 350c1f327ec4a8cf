use Rattle.std.proofs.Common.{◌≡◌, ◌+◌, drop, not}
use Rattle.std.specs.List.{prefix_len}
use Rattle.gx_resolve.specs.Kinding.{assign_as}
use Rattle.gx_explain.specs.Places.{sets, other_assigns}
use Rattle.gx_explain.proofs.kinds.other_assigns.Given as goal

abbrev pub invariant-loop-count : goal.invariant-loop-count
invariant-loop-count l = l.count + prefix_len (λ assign. not (sets l.key (assign_as l.columns assign))) (drop l.count l.assigns) ≡ other_assigns l.columns l.key l.assigns
