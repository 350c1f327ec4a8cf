use Rattle.std.proofs.Common.{ap, ◌∙◌}
use Rattle.std.proofs.lemmas.Result.{IfOk-weaker}
use Rattle.gx_rules.specs.AtCoordinator.{commits}
use Rattle.gx_rules.specs.Coordinators.{CoordTurn, Session}
use Rattle.gx_coord.specs.Books.{coord_of}
use Rattle.gx_coord.proofs.Turned.{framed-refl, on_turn-from}
use Rattle.gx_coord.proofs.asking.commit_block.Goals as goal

pub returns-clause-turn : goal.returns-clause-turn
returns-clause-turn c =
    on_turn-from c.commit.result _ _ _ _ _ _ _ (framed-refl c.args.coord.now)
    (ap (λ (x : Session). commits (coord_of c.args.coord.now) x.transaction) c.find_session-session.ensures)
    c.commit.ensures.turn

pub returns-clause-outs : goal.returns-clause-outs
returns-clause-outs c =
    IfOk-weaker c.commit.result _ _ (λ outs h. h ∙ ap (λ (t : CoordTurn). t.outs)
    (ap (λ (x : Session). commits (coord_of c.args.coord.now) x.transaction) c.find_session-session.ensures))
    c.commit.ensures.outs
