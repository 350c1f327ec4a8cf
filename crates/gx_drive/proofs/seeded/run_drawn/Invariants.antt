use Rattle.std.proofs.Common.{◌≡◌}
use Rattle.std.specs.Prelude.{map}
use Rattle.gx_drive.specs.Agrees.{IsUnderWay}
use Rattle.gx_drive.specs.Seeded.{IsDrawn, behind, seeded}
use Rattle.gx_drive.proofs.seeded.run_drawn.Given as goal

abbrev pub invariant-loop-turn : goal.invariant-loop-turn
invariant-loop-turn g l =
    IsUnderWay (IsDrawn l.initial.world.script l.seed) l.initial.world.script l._turn l.world l.agenda (map g.J.Journal.shelf l.initial.journals)
    (map g.J.Journal.shelf l.journals)
    × (l.generator ≡ behind l._turn (seeded l.seed))
