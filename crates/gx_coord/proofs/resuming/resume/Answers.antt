use Rattle.std.proofs.Common.{◌<◌, ◌^◌, subst, sym}
use Rattle.gx_store.specs.Language.{IsScript}
use Rattle.gx_coord.proofs.Resumed.{never-nothing, resumed-outs, resumed-turn, script-is, wakes-active, wakes-busy, wakes-command, wakes-drawn, wakes-inside, wakes-room}
use Rattle.gx_coord.proofs.resuming.resume.Goals as goal

pub go_locked-requires-clause-language : goal.go_locked-requires-clause-language
go_locked-requires-clause-language c =
    let old = c.args.coord.now in
    let a = c.in_ok-take_ready.ensures in
    let b = c.in_ok-set_waiting-in-Some.ensures in
    subst IsScript (sym (script-is old c.take_ready.new.coord c.set_waiting.new.coord c.args.script.now c.args.gxid c.requires.sound c.requires.admitted c.requires.same a.framed a.coord b.framed b.coord)) c.requires.language

pub go_locked-requires-clause-inside : goal.go_locked-requires-clause-inside
go_locked-requires-clause-inside c =
    let a = c.in_ok-take_ready.ensures in
    let b = c.in_ok-set_waiting-in-Some.ensures in
    wakes-inside c.args.coord.now c.take_ready.new.coord c.set_waiting.new.coord c.args.script.now c.args.gxid c.requires.sound c.requires.admitted c.requires.same a.framed a.coord b.framed b.coord c.in-Some.place c.in-Some.ensures

pub go_locked-requires-clause-command : goal.go_locked-requires-clause-command
go_locked-requires-clause-command c =
    let a = c.in_ok-take_ready.ensures in
    let b = c.in_ok-set_waiting-in-Some.ensures in
    wakes-command c.args.coord.now c.take_ready.new.coord c.set_waiting.new.coord c.args.script.now c.args.gxid c.requires.sound c.requires.admitted c.requires.same a.framed a.coord b.framed b.coord c.in-Some.place c.in-Some.ensures

pub go_locked-requires-clause-room : goal.go_locked-requires-clause-room
go_locked-requires-clause-room c =
    let a = c.in_ok-take_ready.ensures in
    let b = c.in_ok-set_waiting-in-Some.ensures in
    let lines = c.lines_of-lines.ensures in
    wakes-room c.args.coord.now c.take_ready.new.coord c.set_waiting.new.coord c.args.script.now c.args.gxid c.requires.sound c.requires.admitted c.requires.same a.framed a.coord b.framed b.coord c.in-Some.place c.in-Some.ensures
    (subst (λ n. n < 2 ^ 32) lines.same lines.small)

pub go_locked-requires-clause-active : goal.go_locked-requires-clause-active
go_locked-requires-clause-active c =
    let a = c.in_ok-take_ready.ensures in
    let b = c.in_ok-set_waiting-in-Some.ensures in
    wakes-active c.args.coord.now c.take_ready.new.coord c.set_waiting.new.coord c.args.script.now c.args.gxid c.requires.sound c.requires.admitted c.requires.same a.framed a.coord b.framed b.coord c.in-Some.place c.in-Some.ensures

pub go_locked-requires-clause-drawn : goal.go_locked-requires-clause-drawn
go_locked-requires-clause-drawn c =
    let a = c.in_ok-take_ready.ensures in
    let b = c.in_ok-set_waiting-in-Some.ensures in
    wakes-drawn c.args.coord.now c.take_ready.new.coord c.set_waiting.new.coord c.args.script.now c.args.gxid c.requires.sound c.requires.admitted c.requires.same a.framed a.coord b.framed b.coord c.in-Some.place c.in-Some.ensures

pub go_locked-requires-clause-busy : goal.go_locked-requires-clause-busy
go_locked-requires-clause-busy c =
    let a = c.in_ok-take_ready.ensures in
    let b = c.in_ok-set_waiting-in-Some.ensures in
    wakes-busy c.args.coord.now c.take_ready.new.coord c.set_waiting.new.coord c.args.script.now c.args.gxid c.requires.sound c.requires.admitted c.requires.same a.framed a.coord b.framed b.coord c.in-Some.place c.in-Some.ensures

pub returns-clause-turn : goal.returns-clause-turn
returns-clause-turn c =
    let a = c.in_ok-take_ready.ensures in
    let b = c.in_ok-set_waiting-in-Some.ensures in
    resumed-turn c.args.coord.now c.take_ready.new.coord c.set_waiting.new.coord c.args.script.now c.args.gxid c.requires.sound c.requires.admitted c.requires.same a.framed a.coord b.framed b.coord c.in-Some.place c.in-Some.ensures
    c.go_locked.result c.go_locked.new.coord c.args.marks.now.items c.take_ready.new.marks.items c.go_locked.new.marks.items a.marks c.go_locked.ensures.turn

pub returns-clause-outs : goal.returns-clause-outs
returns-clause-outs c =
    let a = c.in_ok-take_ready.ensures in
    let b = c.in_ok-set_waiting-in-Some.ensures in
    resumed-outs c.args.coord.now c.take_ready.new.coord c.set_waiting.new.coord c.args.script.now c.args.gxid c.requires.sound c.requires.admitted c.requires.same a.framed a.coord b.framed b.coord c.in-Some.place c.in-Some.ensures
    c.go_locked.result c.go_locked.ensures.outs

pub unreachable-requires : goal.unreachable-requires
unreachable-requires c =
    let old = c.args.coord.now in
    let mid = c.take_ready.new.coord in
    let a = c.in_ok-take_ready.ensures in
    never-nothing old mid c.args.script.now c.args.gxid c.requires.sound c.requires.admitted a.coord c.in-None.ensures
