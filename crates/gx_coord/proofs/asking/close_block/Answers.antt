use Rattle.std.proofs.Common.{ap}
use Rattle.gx_rules.specs.Coordinators.{Session}
use Rattle.gx_coord.proofs.Back.{block-closed}
use Rattle.gx_coord.proofs.asking.close_block.Goals as goal

pub returns-clause-turn : goal.returns-clause-turn
returns-clause-turn c =
    block-closed c.args.coord.now c.abort.new.coord c.give_back.new.coord c.args.id c.find_session-session.result.transaction _ _ _ _ c.in_ok-outs.ensures.turn c.in_ok-answer_at_once.ensures
    c.in_ok-give_back.ensures.framed c.in_ok-give_back.ensures.coord c.in_ok-give_back.ensures.marks
    (ap (λ (x : Session). x.transaction) c.find_session-session.ensures)
