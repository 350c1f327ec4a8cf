use Rattle.std.proofs.Common.{None, ap}
use Rattle.gx_coord.specs.Books.{coord_of}
use Rattle.gx_coord.proofs.Changes.{found-with}
use Rattle.gx_coord.proofs.books.forget_work.Goals as goal

pub returns-in-Some-clause-coord : goal.returns-in-Some-clause-coord
returns-in-Some-clause-coord c =
    let old = c.args.coord.now in
    ap (λ f. record (coord_of old) { works = f }) (found-with old.script.value.lines old.works.items c.take_out.new.entries.items c.args.gxid None c.take_out.ensures)

pub returns-in-None-clause-coord : goal.returns-in-None-clause-coord
returns-in-None-clause-coord c =
    let old = c.args.coord.now in
    ap (λ f. record (coord_of old) { works = f }) (found-with old.script.value.lines old.works.items c.take_out.new.entries.items c.args.gxid None c.take_out.ensures)
