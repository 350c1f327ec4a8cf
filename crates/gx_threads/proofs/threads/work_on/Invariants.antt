use Rattle.std.proofs.Common.{Some}
use Rattle.std.specs.Prelude.{map}
use Rattle.gx_threads.specs.Sets.{coord_id, segment_id}
use Rattle.gx_threads.proofs.threads.work_on.Given as goal

-- the name that the cells give
abbrev pub ghosts-opened : goal.ghosts-opened
ghosts-opened g a = record { coordinator = Some (coord_id a.coord); segments = map segment_id a.segments.items }
