use Rattle.std.proofs.Common.{sym, subst}
use Rattle.gx_dtx.specs.Table.{IsActive}
use Rattle.gx_rules.specs.AtCoordinator.{reads_for}
use Rattle.gx_rules.specs.Coordinators.{Coord}
use Rattle.gx_coord.specs.Books.{coord_of}
use Rattle.gx_coord.specs.Faults.{planned}
use Rattle.gx_coord.specs.Turns.{IsBusy}
use Rattle.gx_coord.proofs.Going.{goes-from, goes-outs-from, read-holds}
use Rattle.gx_coord.proofs.dispatch.read_and_go.Goals as goal

pub go-requires-clause-active : goal.go-requires-clause-active
go-requires-clause-active c =
    let k = coord_of c.args.coord.now in
    subst (λ (v : Coord). IsActive v.table c.args.gxid) (sym c.in_ok-snapshot.ensures.coord) (read-holds k c.args.gxid c.args.cid c.requires.active c.requires.busy c.args.line.now).active

pub go-requires-clause-busy : goal.go-requires-clause-busy
go-requires-clause-busy c =
    let k = coord_of c.args.coord.now in
    subst (λ (v : Coord). IsBusy v c.args.gxid.0) (sym c.in_ok-snapshot.ensures.coord) (read-holds k c.args.gxid c.args.cid c.requires.active c.requires.busy c.args.line.now).busy

pub returns-clause-turn : goal.returns-clause-turn
returns-clause-turn c =
    let k = coord_of c.args.coord.now in
    goes-from c.args.coord.now c.read_for.new.coord c.go.new.coord c.args.marks.now.items c.read_for.new.marks.items c.go.new.marks.items c.args.gxid c.args.cid c.args.line.now (reads_for k c.args.gxid c.args.cid (k.works c.args.gxid.0) c.args.line.now) c.in_ok-snapshot.snapshot (planned c.args.script.now c.args.gxid c.args.cid c.args.line.now)
    c.in_ok-snapshot.ensures.coord c.in_ok-snapshot.ensures.value c.go.result c.in_ok-snapshot.ensures.framed c.in_ok-snapshot.ensures.marks c.go.ensures.turn

pub returns-clause-outs : goal.returns-clause-outs
returns-clause-outs c =
    let k = coord_of c.args.coord.now in
    goes-outs-from c.args.coord.now c.read_for.new.coord c.go.new.coord c.args.marks.now.items c.read_for.new.marks.items c.go.new.marks.items c.args.gxid c.args.cid c.args.line.now (reads_for k c.args.gxid c.args.cid (k.works c.args.gxid.0) c.args.line.now) c.in_ok-snapshot.snapshot (planned c.args.script.now c.args.gxid c.args.cid c.args.line.now)
    c.in_ok-snapshot.ensures.coord c.in_ok-snapshot.ensures.value c.go.result c.go.ensures.outs
