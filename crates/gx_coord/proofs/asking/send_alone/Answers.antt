use Rattle.std.proofs.Common.{◌≡◌, [], ◌∷◌, false, ◌+◌, ◌<◌, ◌^◌, subst, sym}
use Rattle.std.specs.List.{list_any}
use Rattle.gx_ids.specs.declared.ids.Gxid.{Gxid}
use Rattle.gx_waits.specs.Claims.{is_of}
use Rattle.gx_tree.specs.declared.stmt.Level.TheVariants.{ReadCommitted}
use Rattle.gx_store.specs.declared.mark.Mark.TheVariants.{Start}
use Rattle.gx_rules.specs.AtCoordinator.{begins, dispatches}
use Rattle.gx_rules.specs.Coordinators.{Coord}
use Rattle.gx_coord.specs.Books.{coord_of, stmt_at}
use Rattle.gx_coord.specs.Turns.{IsBusy}
use Rattle.gx_coord.proofs.Asked.{dispatches-from}
use Rattle.gx_coord.proofs.Turned.{on_behind-turn, outs-from, script-same}
use Rattle.gx_coord.proofs.asking.send_alone.Goals as goal

pub dispatch-requires-clause-room : goal.dispatch-requires-clause-room
dispatch-requires-clause-room c =
    subst (λ (k : Coord). (k.works c.in_ok-gxid.gxid.0).last + 1 < 2 ^ 32) (sym c.in_ok-gxid.ensures.coord)
    (subst (λ (g : Gxid). ((begins (coord_of c.args.coord.now) c.args.id ReadCommitted).works g.0).last + 1 < 2 ^ 32) (sym c.in_ok-gxid.ensures.gxid) c.requires.may.room)

pub dispatch-requires-clause-busy : goal.dispatch-requires-clause-busy
dispatch-requires-clause-busy c =
    subst (λ (k : Coord). IsBusy k c.in_ok-gxid.gxid.0) (sym c.in_ok-gxid.ensures.coord)
    (subst (λ (g : Gxid). IsBusy (begins (coord_of c.args.coord.now) c.args.id ReadCommitted) g.0) (sym c.in_ok-gxid.ensures.gxid) c.requires.may.busy)

pub dispatch-requires-clause-waits_not : goal.dispatch-requires-clause-waits_not
dispatch-requires-clause-waits_not c =
    subst (λ (k : Coord). list_any (is_of c.in_ok-gxid.gxid) k.locks.waits ≡ false) (sym c.in_ok-gxid.ensures.coord)
    (subst (λ (g : Gxid). list_any (is_of g) (begins (coord_of c.args.coord.now) c.args.id ReadCommitted).locks.waits ≡ false) (sym c.in_ok-gxid.ensures.gxid) c.requires.may.waits_not)

pub returns-clause-turn : goal.returns-clause-turn
returns-clause-turn c =
    let old = c.args.coord.now in
    let mid = c.begin.new.coord in
    let asked = dispatches mid.script.value (coord_of mid) c.in_ok-gxid.gxid (stmt_at mid.script.value.lines c.args.place) in
    let turn = dispatches old.script.value (begins (coord_of old) c.args.id ReadCommitted) old.dtx.next (stmt_at old.script.value.lines c.args.place) in
    on_behind-turn c.dispatch.result old mid c.dispatch.new.coord c.args.marks.now.items c.begin.new.marks.items c.dispatch.new.marks.items (Start old.dtx.next c.args.id ∷ []) asked turn c.in_ok-gxid.ensures.framed
    (dispatches-from mid.script.value old.script.value (coord_of mid) (begins (coord_of old) c.args.id ReadCommitted) c.in_ok-gxid.gxid old.dtx.next c.args.place (script-same old mid c.in_ok-gxid.ensures.framed) c.in_ok-gxid.ensures.coord c.in_ok-gxid.ensures.gxid)
    c.in_ok-gxid.ensures.marks c.dispatch.ensures.turn

pub returns-clause-outs : goal.returns-clause-outs
returns-clause-outs c =
    let old = c.args.coord.now in
    let mid = c.begin.new.coord in
    outs-from c.dispatch.result
    (dispatches mid.script.value (coord_of mid) c.in_ok-gxid.gxid (stmt_at mid.script.value.lines c.args.place))
    (dispatches old.script.value (begins (coord_of old) c.args.id ReadCommitted) old.dtx.next (stmt_at old.script.value.lines c.args.place))
    (dispatches-from mid.script.value old.script.value (coord_of mid) (begins (coord_of old) c.args.id ReadCommitted) c.in_ok-gxid.gxid old.dtx.next c.args.place (script-same old mid c.in_ok-gxid.ensures.framed) c.in_ok-gxid.ensures.coord c.in_ok-gxid.ensures.gxid)
    c.dispatch.ensures.outs
