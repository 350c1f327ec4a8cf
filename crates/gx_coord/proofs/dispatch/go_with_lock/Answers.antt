use Rattle.std.proofs.Common.{◌+◌, ◌<◌, ◌^◌, ◌∙◌, subst, sym}
use Rattle.gx_dtx.specs.Table.{IsActive}
use Rattle.gx_rules.specs.Coordinators.{Coord}
use Rattle.gx_coord.specs.Sound.{IsDrawn}
use Rattle.gx_coord.specs.Turns.{IsBusy}
use Rattle.gx_coord.proofs.Requested.{granted-outs, granted-turn, waits-outs, waits-turn}
use Rattle.gx_coord.proofs.Turned.{script-same}
use Rattle.gx_coord.specs.Books.{stmt_at}
use Rattle.gx_coord.proofs.dispatch.go_with_lock.Goals as goal

pub go_locked-requires-clause-room : goal.go_locked-requires-clause-room
go_locked-requires-clause-room c = subst (λ (k : Coord). (k.works c.args.gxid.0).last + 1 < 2 ^ 32) (sym c.in_ok-granted.ensures.coord) c.requires.room

pub go_locked-requires-clause-active : goal.go_locked-requires-clause-active
go_locked-requires-clause-active c = subst (λ (k : Coord). IsActive k.table c.args.gxid) (sym c.in_ok-granted.ensures.coord) c.requires.active

pub go_locked-requires-clause-drawn : goal.go_locked-requires-clause-drawn
go_locked-requires-clause-drawn c = subst (λ (k : Coord). IsDrawn k.table) (sym c.in_ok-granted.ensures.coord) c.requires.drawn

pub go_locked-requires-clause-busy : goal.go_locked-requires-clause-busy
go_locked-requires-clause-busy c = subst (λ (k : Coord). IsBusy k c.args.gxid.0) (sym c.in_ok-granted.ensures.coord) c.requires.busy

pub returns-then-granted-clause-turn : goal.returns-then-granted-clause-turn
returns-then-granted-clause-turn c =
    let old = c.args.coord.now in
    let mid = c.take_lock.new.coord in
    let h = c.in_ok-granted.ensures in
    granted-turn c.go_locked.result old mid c.go_locked.new.coord _ _ _ c.args.gxid old.script.value mid.script.value c.args.place c.args.wanted c.in_ok-granted.granted h.framed (script-same old mid h.framed) c.if-granted.true h.granted h.coord h.marks
    c.go_locked.ensures.turn

pub returns-then-granted-clause-outs : goal.returns-then-granted-clause-outs
returns-then-granted-clause-outs c =
    let old = c.args.coord.now in
    let mid = c.take_lock.new.coord in
    let h = c.in_ok-granted.ensures in
    granted-outs c.go_locked.result old mid c.args.gxid old.script.value mid.script.value c.args.place c.args.wanted c.in_ok-granted.granted (script-same old mid h.framed) c.if-granted.true h.granted h.coord c.go_locked.ensures.outs

pub returns-in_ok-set_waiting-clause-turn : goal.returns-in_ok-set_waiting-clause-turn
returns-in_ok-set_waiting-clause-turn c =
    let old = c.args.coord.now in
    let mid = c.take_lock.new.coord in
    let h = c.in_ok-granted.ensures in
    waits-turn old mid c.set_waiting.new.coord _ _ c.args.gxid old.script.value mid.script.value c.args.place c.args.wanted c.in_ok-granted.granted h.framed (script-same old mid h.framed) c.if-granted.false h.granted h.coord h.marks
    c.in_ok-set_waiting.ensures.framed c.in_ok-set_waiting.ensures.coord

pub returns-in_ok-set_waiting-clause-outs : goal.returns-in_ok-set_waiting-clause-outs
returns-in_ok-set_waiting-clause-outs c =
    let old = c.args.coord.now in
    c.new.ensures ∙ waits-outs old c.args.gxid old.script.value (stmt_at old.script.value.lines c.args.place) c.args.wanted c.in_ok-granted.granted c.if-granted.false c.in_ok-granted.ensures.granted
