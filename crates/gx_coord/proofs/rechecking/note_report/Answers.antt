use Rattle.std.proofs.Common.{◌∙◌, ◌&&◌, ap, refl}
use Rattle.gx_detect.specs.Rounds.{is_complete}
use Rattle.gx_coord.proofs.Graphs.{noted-is, noted-segments}
use Rattle.gx_coord.proofs.rechecking.note_report.Goals as goal

pub returns-clause-framed : goal.returns-clause-framed
returns-clause-framed c = record { script = refl; places = refl; sent = refl; clock = refl; segments = noted-segments c.args.coord.now.detector _ c.args.round c.args.graph c.requires.last c.in_ok-all.ensures.heard; count = refl }

pub returns-clause-coord : goal.returns-clause-coord
returns-clause-coord c = noted-is c.args.coord.now _ c.args.round c.args.graph c.requires.last c.in_ok-all.ensures.heard

pub returns-clause-all : goal.returns-clause-all
returns-clause-all c = c.in_ok-all.ensures.complete ∙ ap (λ b. b && is_complete c.report.new.self) c.requires.last
