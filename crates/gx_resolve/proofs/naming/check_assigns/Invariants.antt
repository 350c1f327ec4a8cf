use Rattle.std.proofs.Common.{◌≡◌, []}
use Rattle.std.specs.List.{flat_map}
use Rattle.gx_resolve.specs.Naming.{assign_names, names_right}
use Rattle.gx_resolve.proofs.Names.{left_right}
use Rattle.gx_resolve.proofs.naming.check_assigns.Given as goal

abbrev pub invariant-loop-place : goal.invariant-loop-place
invariant-loop-place l = left_right l.columns l.assigns l.place ≡ names_right l.columns [] (flat_map assign_names l.assigns)
