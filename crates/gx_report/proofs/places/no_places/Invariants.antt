use Rattle.std.proofs.Common.{◌≡◌, [], replicate}
use Rattle.gx_report.proofs.places.no_places.Given as goal

abbrev pub invariant-loop-session : goal.invariant-loop-session
invariant-loop-session l = l.index.items ≡ replicate l._session []
