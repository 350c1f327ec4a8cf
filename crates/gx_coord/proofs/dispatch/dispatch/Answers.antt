use Rattle.std.proofs.Common.{◌≡◌, Some, None, false, subst, sym}
use Rattle.std.specs.List.{list_any}
use Rattle.gx_ids.specs.declared.ids.Gxid.{Gxid}
use Rattle.gx_waits.specs.Claims.{is_of}
use Rattle.gx_coord.specs.Books.{coord_of, stmt_at}
use Rattle.gx_coord.proofs.Requested.{dispatched-by}
use Rattle.gx_coord.proofs.Started.{outs-from}
use Rattle.gx_coord.proofs.Turned.{framed-refl, on_turn-from}
use Rattle.gx_coord.proofs.dispatch.dispatch.Goals as goal

pub go_with_lock-requires-clause-waits_not : goal.go_with_lock-requires-clause-waits_not
go_with_lock-requires-clause-waits_not c = subst (λ (g : Gxid). list_any (is_of g) c.args.coord.now.locks.waits ≡ false) (sym c.in-Some.ensures.own) c.requires.waits_not

pub returns-in-Some-clause-turn : goal.returns-in-Some-clause-turn
returns-in-Some-clause-turn c =
    let old = c.args.coord.now in
    let s = old.script.value in
    on_turn-from c.go_with_lock.result _ _ _ _ _ _ _ (framed-refl old) (dispatched-by s (coord_of old) c.args.gxid (stmt_at s.lines c.args.place) (Some c.in-Some.wanted) c.in-Some.ensures.value) c.go_with_lock.ensures.turn

pub returns-in-Some-clause-outs : goal.returns-in-Some-clause-outs
returns-in-Some-clause-outs c =
    let old = c.args.coord.now in
    let s = old.script.value in
    outs-from c.go_with_lock.result _ _ (dispatched-by s (coord_of old) c.args.gxid (stmt_at s.lines c.args.place) (Some c.in-Some.wanted) c.in-Some.ensures.value) c.go_with_lock.ensures.outs

pub returns-in-None-clause-turn : goal.returns-in-None-clause-turn
returns-in-None-clause-turn c =
    let old = c.args.coord.now in
    let s = old.script.value in
    on_turn-from c.go_locked.result _ _ _ _ _ _ _ (framed-refl old) (dispatched-by s (coord_of old) c.args.gxid (stmt_at s.lines c.args.place) None c.in-None.ensures.value) c.go_locked.ensures.turn

pub returns-in-None-clause-outs : goal.returns-in-None-clause-outs
returns-in-None-clause-outs c =
    let old = c.args.coord.now in
    let s = old.script.value in
    outs-from c.go_locked.result _ _ (dispatched-by s (coord_of old) c.args.gxid (stmt_at s.lines c.args.place) None c.in-None.ensures.value) c.go_locked.ensures.outs
