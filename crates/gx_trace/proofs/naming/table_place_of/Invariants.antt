use Rattle.std.proofs.Common.{◌≡◌, drop}
use Rattle.gx_trace.specs.Lawful.{names_of}
use Rattle.gx_trace.specs.Names.{found}
use Rattle.gx_trace.proofs.naming.table_place_of.Given as goal

abbrev pub invariant-loop-place : goal.invariant-loop-place
invariant-loop-place l = found l.place (names_of (drop l.place l.tables)) l.name ≡ found 0 (names_of l.tables) l.name
