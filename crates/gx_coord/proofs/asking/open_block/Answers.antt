use Rattle.std.proofs.Common.{ap, refl}
use Rattle.gx_store.specs.declared.answer.StmtAnswer.TheVariants as told
use Rattle.gx_rules.specs.AtCoordinator.{answers_at_once}
use Rattle.gx_rules.specs.Coordinators.{Coord}
use Rattle.gx_coord.proofs.Turned.{behind-turn, framed-refl}
use Rattle.gx_coord.proofs.asking.open_block.Goals as goal

pub returns-clause-turn : goal.returns-clause-turn
returns-clause-turn c =
    let mid = c.begin.new.coord in
    behind-turn c.args.coord.now mid mid c.args.marks.now.items c.begin.new.marks.items _ _ _ _ c.in_ok-begin.ensures.framed
    (ap (λ (k : Coord). answers_at_once k c.args.id told.Begin) c.in_ok-begin.ensures.coord)
    c.in_ok-begin.ensures.marks
    (record { framed = framed-refl mid; coord = refl; marks = c.in_ok-answer_at_once.ensures })
