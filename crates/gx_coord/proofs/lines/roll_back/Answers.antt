use Rattle.gx_dtx.specs.Rules.{on_abort}
use Rattle.gx_coord.specs.Books.{coord_of}
use Rattle.gx_coord.specs.Locking.{tells_abort}
use Rattle.gx_coord.proofs.Back.{back-rolled, back-turn}
use Rattle.gx_coord.proofs.lines.roll_back.Goals as goal

pub returns-clause-turn : goal.returns-clause-turn
returns-clause-turn c =
    let old = c.args.coord.now in
    back-rolled old c.give_back.new.coord _ _ c.args.gxid (on_abort old.dtx c.args.gxid)
    (back-turn old c.abort.new.coord c.give_back.new.coord _ _ _ c.args.gxid (tells_abort (coord_of old) c.args.gxid (on_abort old.dtx c.args.gxid)) c.in_ok-outs.ensures.turn
    c.in_ok-give_back.ensures.framed c.in_ok-give_back.ensures.coord c.in_ok-give_back.ensures.marks)
