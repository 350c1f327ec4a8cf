use Rattle.std.proofs.Common.{List, ap}
use Rattle.gx_ids.specs.declared.ids.Node.{Node}
use Rattle.gx_rules.specs.Coordinators.{Session, new_work}
use Rattle.gx_coord.specs.Books.{coord_of}
use Rattle.gx_coord.proofs.Begun.{begins-from}
use Rattle.gx_coord.proofs.lines.begin.Goals as goal

pub returns-clause-coord : goal.returns-clause-coord
returns-clause-coord c =
    begins-from (coord_of c.args.coord.now) (coord_of c.set_work.new.coord) (coord_of c.set_session.new.coord) c.begin.new.self c.in_ok-gxid.gxid c.args.id c.args.level _ _ c.in_ok-gxid.ensures.ok c.in_ok-gxid.ensures.next
    (ap (λ (ns : List Node). record (new_work c.args.id c.args.level) { writers = ns }) c.new.ensures)
    c.in_ok-set_work.ensures.coord
    (ap (λ (x : Session). record x { transaction = c.in_ok-gxid.gxid }) c.find_session-session.ensures)
    c.set_session.ensures.coord
