use Rattle.std.proofs.Common.{◌≡◌, ◌++◌, codes, drop, map}
use Rattle.std.specs.List.{flat_map}
use Rattle.gx_print.proofs.lists.push_others.Given as goal

abbrev pub invariant-loop-part : goal.invariant-loop-part
invariant-loop-part g l = l.text.items ++ flat_map (λ part. codes ", " ++ g.T.Printed.form part) (map (g.T.Printed.written l.columns) (drop l.part-index l.others)) ≡ l.initial.text.items ++ flat_map (λ part. codes ", " ++ g.T.Printed.form part) (map (g.T.Printed.written l.columns) l.others)
