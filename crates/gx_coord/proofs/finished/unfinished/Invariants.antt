use Rattle.std.proofs.Common.{◌≡◌, ◌<◌, false}
use Rattle.gx_ids.specs.declared.ids.SessionId.{SessionId}
use Rattle.gx_coord.specs.Books.{coord_of}
use Rattle.gx_rules.specs.AtCoordinator.{is_unfinished_there}
use Rattle.gx_coord.proofs.finished.unfinished.Given as goal

abbrev pub invariant-loop-place : goal.invariant-loop-place
invariant-loop-place l = (id : SessionId) → id.0 < l.place → is_unfinished_there l.coord.script.value (coord_of l.coord) id ≡ false
