use Rattle.std.proofs.Common.{◌≡◌, ◌<◌, false, length, subst}
use Rattle.gx_ids.specs.declared.ids.SessionId.{SessionId}
use Rattle.gx_rules.specs.AtCoordinator.{is_unfinished_there}
use Rattle.gx_cells.specs.CoordViews.{coord_data}
use Rattle.gx_threads.proofs.threads.run_cells.Goals as goal

pub returns-then-not-unfinished-clause-done : goal.returns-then-not-unfinished-clause-done
returns-then-not-unfinished-clause-done g c =
    subst (λ v. v.spent ≡ false → (id : SessionId) → id.0 < length v.script.sessions → is_unfinished_there v.script (coord_data v) id ≡ false) c.coord.ensures (λ unspent. c.unfinished.ensures.none unspent c.if-not-unfinished.true)
