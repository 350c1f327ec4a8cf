use Rattle.std.proofs.Common.{◌∙◌, ap}
use Rattle.std.specs.Vec.{with_item}
use Rattle.gx_coord.specs.Books.{coord_of}
use Rattle.gx_coord.proofs.Changes.{session_at-set}
use Rattle.gx_coord.proofs.books.set_session.Goals as goal

pub returns-clause-coord : goal.returns-clause-coord
returns-clause-coord c =
    let old = c.args.coord.now in
    ap (λ n. coord_of (record old { sessions = with_item old.sessions n c.args.session })) c.from.ensures
    ∙ ap (λ f. record (coord_of old) { sessions = f }) (session_at-set old.sessions.items c.args.id.0 c.args.session c.requires)
