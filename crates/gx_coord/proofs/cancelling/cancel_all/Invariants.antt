use Rattle.std.proofs.Common.{◌≡◌, ◌<◌, ◌+◌, ◌^◌, [], All, drop, length}
use Rattle.gx_rules.specs.AtCoordinator.{and_cancels_all}
use Rattle.gx_coord.specs.Books.{coord_of}
use Rattle.gx_coord.specs.Sound.{IsSound}
use Rattle.gx_coord.specs.Steps.{HasStayed}
use Rattle.gx_coord.specs.Turns.{so_far, untold}
use Rattle.gx_coord.proofs.cancelling.cancel_all.Given as goal

abbrev pub invariant-loop-victim : goal.invariant-loop-victim
invariant-loop-victim l =
    record {
      stayed : HasStayed l.fn.coord l.coord;
      sound : IsSound l.coord.script.value (coord_of l.coord);
      room : All (λ n. n < 2 ^ 62 + length l.marks.items) l.coord.sent.items;
      turns : untold (and_cancels_all (drop l.victim-index l.victims) (so_far (coord_of l.coord) l.marks.items [])) ≡ untold (and_cancels_all l.victims (so_far (coord_of l.fn.coord) l.fn.marks.items []));
    }
