use Rattle.std.proofs.Common.{Some, ap}
use Rattle.gx_coord.specs.Books.{coord_of}
use Rattle.gx_coord.proofs.Changes.{found-with}
use Rattle.gx_coord.proofs.books.set_work.Goals as goal

pub returns-clause-coord : goal.returns-clause-coord
returns-clause-coord c =
    let old = c.args.coord.now in
    ap (λ f. record (coord_of old) { works = f }) (found-with old.script.value.lines old.works.items c.put.new.entries.items c.args.gxid (Some c.args.work) c.in_ok-put.ensures)
