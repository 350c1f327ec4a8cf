use Rattle.std.proofs.Common.{sym, subst}
use Rattle.gx_rules.specs.Coordinators.{Coord}
use Rattle.gx_dtx.specs.Rules.{on_commit}
use Rattle.gx_coord.specs.Books.{coord_of}
use Rattle.gx_coord.specs.Turns.{IsBusy, IsFit}
use Rattle.gx_coord.proofs.Turned.{commits-from, on_turn-from}
use Rattle.gx_coord.proofs.ends.commit.Goals as goal

pub follow-requires-clause-busy : goal.follow-requires-clause-busy
follow-requires-clause-busy c h = subst (λ (k : Coord). IsBusy k c.args.gxid.0) (sym c.in_ok-out.ensures.coord) c.requires.busy

pub follow-requires-clause-fits : goal.follow-requires-clause-fits
follow-requires-clause-fits c = subst (λ (k : Coord). IsFit (k.works c.args.gxid.0).command) (sym c.in_ok-out.ensures.coord) c.requires.fits

pub returns-clause-turn : goal.returns-clause-turn
returns-clause-turn c =
    let k = coord_of c.args.coord.now in
    on_turn-from c.follow.result _ _ _ _ _ _ _ c.in_ok-out.ensures.framed
    (commits-from k (coord_of c.commit_writers.new.coord) c.args.gxid (on_commit k.table c.args.gxid (k.works c.args.gxid.0).writers) c.in_ok-out.out c.in_ok-out.ensures.coord c.in_ok-out.ensures.out)
    c.follow.ensures.turn
