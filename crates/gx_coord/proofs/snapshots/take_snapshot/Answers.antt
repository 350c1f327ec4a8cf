use Rattle.std.proofs.Common.{◌∙◌, ◌++◌, ◌∷◌, [], ap}
use Rattle.gx_dsnap.specs.declared.snapshot.Snapshot.{Snapshot}
use Rattle.gx_dtx.specs.Table.{Table}
use Rattle.gx_rules.specs.AtCoordinator.{kept_at}
use Rattle.gx_rules.specs.Coordinators.{with_work}
use Rattle.gx_store.specs.declared.mark.Mark.TheVariants as mark
use Rattle.gx_coord.specs.Books.{coord_of}
use Rattle.gx_coord.proofs.snapshots.take_snapshot.Goals as goal

pub returns-clause-coord : goal.returns-clause-coord
returns-clause-coord c =
    let k = coord_of c.args.coord.now in
    let w = k.works c.args.gxid.0 in
    c.in_ok-keep.ensures.coord
    ∙ ap (λ (d : Table). with_work (record k { table = d }) c.args.gxid (record w { snapshot = kept_at w.level c.in_ok-snapshot.snapshot })) c.in_ok-snapshot.ensures.dtx
    ∙ ap (λ (s : Snapshot). with_work (record k { table = Rattle.gx_dtx.specs.Rules.with_live k.table c.args.gxid (Rattle.std.proofs.Common.Some (Rattle.gx_dtx.specs.Table.xmin_of k.table)) }) c.args.gxid (record w { snapshot = kept_at w.level s })) c.in_ok-snapshot.ensures.value

pub returns-clause-marks : goal.returns-clause-marks
returns-clause-marks c = c.in_ok-push.ensures.items ∙ ap (λ (s : Snapshot). c.args.marks.now.items ++ mark.Snap c.args.gxid c.args.cid s ∷ []) (c.in_ok-copy.ensures ∙ c.in_ok-snapshot.ensures.value)

pub returns-clause-value : goal.returns-clause-value
returns-clause-value c = c.in_ok-snapshot.ensures.value

pub returns-clause-framed : goal.returns-clause-framed
returns-clause-framed c =
    let f = c.in_ok-keep.ensures.framed in
    record { script = f.script; places = f.places; sent = f.sent; clock = f.clock; segments = f.segments; count = f.count }
