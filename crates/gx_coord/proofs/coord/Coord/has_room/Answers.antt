use Rattle.std.proofs.Common.{◌+◌, ◌^◌, ◌&&◌, ◌∙◌, ap, refl, sym}
use Rattle.std.specs.Prelude.{nat_lt}
use Rattle.std.specs.List.{list_all}
use Rattle.gx_rules.specs.Coordinators.{Coord}
use Rattle.gx_coord.specs.Books.{coord_of}
use Rattle.gx_coord.specs.Room.{has_room}
use Rattle.gx_coord.proofs.Counts.{read-all}
use Rattle.gx_coord.proofs.coord.Coord.has_room.Goals as goal

pub returns : goal.returns
returns g c =
    let k = c.args.self.now in
    c.are_numbers_left.ensures
    ∙ ap (λ xs. nat_lt (k.clock + 1) (2 ^ 62) && (nat_lt k.detector.begun (2 ^ 62) && list_all (λ sent. nat_lt sent (2 ^ 62)) xs)) (sym (read-all (coord_of k).sent k.sent.items (k.script.value.segments + 1) c.requires.sent (λ i. refl)))
    ∙ ap (λ (x : Coord). has_room k.script.value x) c.requires.holds
