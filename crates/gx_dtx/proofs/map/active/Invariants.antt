use Rattle.std.proofs.Common.{◌≡◌, ◌++◌, map, filter}
use Rattle.gx_dtx.specs.Table.{is_active}
use Rattle.gx_dtx.proofs.map.active.Given as goal

abbrev pub invariant-loop-gxid : goal.invariant-loop-gxid
invariant-loop-gxid l = l.active.items ++ map (λ e. e.0) (filter (λ e. is_active e.1.phase) l.gxid-iterator) ≡ map (λ e. e.0) (filter (λ e. is_active e.1.phase) l.txns.entries)
