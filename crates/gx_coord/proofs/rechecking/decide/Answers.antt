use Rattle.std.proofs.Common.{◌∙◌, ap, refl}
use Rattle.gx_detect.specs.Rounds.{Rounds}
use Rattle.gx_coord.specs.Books.{coord_of}
use Rattle.gx_coord.proofs.Graphs.{verdict-is}
use Rattle.gx_coord.proofs.rechecking.decide.Goals as goal

pub returns-clause-framed : goal.returns-clause-framed
returns-clause-framed c = record { script = refl; places = refl; sent = refl; clock = refl; segments = ap (λ (d : Rounds). d.segments) c.in_ok-verdict.ensures.ok; count = refl }

pub returns-clause-coord : goal.returns-clause-coord
returns-clause-coord c = ap (λ (d : Rounds). coord_of (record c.args.coord.now { detector = d })) c.in_ok-verdict.ensures.ok

pub returns-clause-verdict : goal.returns-clause-verdict
returns-clause-verdict c = c.in_ok-verdict.ensures.computed ∙ verdict-is c.args.coord.now c.args.own _ c.requires.own (c.as_slice.ensures.value ∙ c.in_ok-active.ensures)
