use Rattle.std.proofs.Common.{◌≡◌, ◌++◌, map, filter}
use Rattle.gx_dsnap.specs.Gxids.{is_below}
use Rattle.gx_dtx.specs.Table.{is_running}
use Rattle.gx_dtx.proofs.map.running_below.Given as goal

abbrev pub invariant-loop-gxid : goal.invariant-loop-gxid
invariant-loop-gxid l =
    l.below.items ++ filter (is_below l.fn.limit) (map (λ e. e.0) (filter (λ e. is_running e.1.phase) l.gxid-iterator)) ≡ filter (is_below l.fn.limit) (map (λ e. e.0) (filter (λ e. is_running e.1.phase) l.txns.entries))
