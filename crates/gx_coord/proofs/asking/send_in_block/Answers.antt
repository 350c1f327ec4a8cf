use Rattle.std.proofs.Common.{ap, refl}
use Rattle.gx_rules.specs.AtCoordinator.{dispatches}
use Rattle.gx_rules.specs.Coordinators.{Session}
use Rattle.gx_coord.specs.Books.{coord_of, stmt_at}
use Rattle.gx_coord.proofs.Asked.{dispatches-from}
use Rattle.gx_coord.proofs.Turned.{framed-refl, on_turn-from, outs-from}
use Rattle.gx_coord.proofs.asking.send_in_block.Goals as goal

pub returns-clause-turn : goal.returns-clause-turn
returns-clause-turn c =
    let old = c.args.coord.now in
    let found = c.find_session-session.result.transaction in
    let its = ((coord_of old).sessions c.args.id.0).transaction in
    let stmt = stmt_at old.script.value.lines c.args.place in
    on_turn-from c.dispatch.result old old c.dispatch.new.coord c.args.marks.now.items c.dispatch.new.marks.items (dispatches old.script.value (coord_of old) found stmt) (dispatches old.script.value (coord_of old) its stmt) (framed-refl old)
    (dispatches-from old.script.value old.script.value (coord_of old) (coord_of old) found its c.args.place refl refl (ap (λ (x : Session). x.transaction) c.find_session-session.ensures))
    c.dispatch.ensures.turn

pub returns-clause-outs : goal.returns-clause-outs
returns-clause-outs c =
    let old = c.args.coord.now in
    let found = c.find_session-session.result.transaction in
    let its = ((coord_of old).sessions c.args.id.0).transaction in
    let stmt = stmt_at old.script.value.lines c.args.place in
    outs-from c.dispatch.result (dispatches old.script.value (coord_of old) found stmt) (dispatches old.script.value (coord_of old) its stmt)
    (dispatches-from old.script.value old.script.value (coord_of old) (coord_of old) found its c.args.place refl refl (ap (λ (x : Session). x.transaction) c.find_session-session.ensures))
    c.dispatch.ensures.outs
