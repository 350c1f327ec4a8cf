use Rattle.gx_coord.specs.Books.{coord_of, session_of}
use Rattle.gx_coord.proofs.Begun.{ends-from}
use Rattle.gx_coord.proofs.Turned.{on_turn-from, outs-from}
use Rattle.gx_coord.proofs.event.end.Goals as goal

pub returns-in-Open-clause-turn : goal.returns-in-Open-clause-turn
returns-in-Open-clause-turn c =
    on_turn-from c.roll_back.result _ _ _ _ _ _ _ c.set_state.ensures.framed
    (ends-from (coord_of c.args.coord.now) (coord_of c.set_state.new.coord) c.args.id (session_of c.find_session-session.result) c.new.result c.in-Open.field-0 c.set_state.ensures.coord c.new.ensures c.find_session-session.ensures c.in-Open.is)
    c.roll_back.ensures.turn

pub returns-in-Open-clause-outs : goal.returns-in-Open-clause-outs
returns-in-Open-clause-outs c =
    outs-from c.roll_back.result _ _
    (ends-from (coord_of c.args.coord.now) (coord_of c.set_state.new.coord) c.args.id (session_of c.find_session-session.result) c.new.result c.in-Open.field-0 c.set_state.ensures.coord c.new.ensures c.find_session-session.ensures c.in-Open.is)
    c.roll_back.ensures.outs
