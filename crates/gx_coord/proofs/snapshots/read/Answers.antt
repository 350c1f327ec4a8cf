use Rattle.std.proofs.Common.{◌∙◌, Some, ap, sym}
use Rattle.gx_rules.specs.AtCoordinator.{reads_by}
use Rattle.gx_coord.specs.Books.{coord_of}
use Rattle.gx_coord.proofs.snapshots.read.Goals as goal

pub returns-in_ok-take_snapshot-in-None-clause-value : goal.returns-in_ok-take_snapshot-in-None-clause-value
returns-in_ok-take_snapshot-in-None-clause-value c =
    let k = coord_of c.args.coord.now in
    ap Some c.in_ok-take_snapshot-in-None.ensures.value ∙ sym (ap (λ o. (reads_by k c.args.gxid c.args.cid (k.works c.args.gxid.0) o).snapshot) (sym c.in_ok-snapshot.ensures ∙ c.in-None.is))
