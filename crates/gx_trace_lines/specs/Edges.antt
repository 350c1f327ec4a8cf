-- Whether edges stand as they are printed.
use Rattle.std.specs.Prelude.{Bool, true, false, ◌&&◌, not, List, [], ◌∷◌}
use Rattle.std.specs.Ordering.{is_gt}
use Rattle.gx_report.specs.LockText.{edge_order}
use Rattle.gx_waits.specs.declared.edge.Edge.{Edge}

-- none stands above the next
abbrev pub are_in_order : List Edge → Bool
are_in_order [] = true
are_in_order (e ∷ []) = true
are_in_order (e ∷ f ∷ es) = not (is_gt (edge_order e f)) && are_in_order (f ∷ es)
