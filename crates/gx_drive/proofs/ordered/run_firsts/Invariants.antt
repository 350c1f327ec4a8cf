use Rattle.std.specs.Prelude.{map}
use Rattle.gx_drive.specs.Agrees.{IsUnderWay}
use Rattle.gx_drive.specs.Ordered.{IsFirst}
use Rattle.gx_drive.proofs.ordered.run_firsts.Given as goal

abbrev pub invariant-loop-turn : goal.invariant-loop-turn
invariant-loop-turn g l =
    IsUnderWay (IsFirst l.initial.world.script) l.initial.world.script l._turn l.world l.agenda (map g.J.Journal.shelf l.initial.journals)
    (map g.J.Journal.shelf l.journals)
