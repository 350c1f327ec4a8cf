-- Rows that all segments show are the final ones.
use Rattle.std.proofs.Common.{List, subst}
use Rattle.std.specs.declared.alloc.Global.{Global}
use Rattle.std.specs.declared.vec.Vec.{Vec}
use Rattle.gx_tree.specs.declared.row.KeyedRow.{KeyedRow}
use Rattle.gx_script.specs.declared.Script.{Script}
use Rattle.gx_store.specs.Language.{IsScript}
use Rattle.gx_store.specs.Points.{marks_in}
use Rattle.gx_store.specs.View.{AreFinalFrom}
use Rattle.gx_store.specs.declared.run.Step.{Step}
use Rattle.gx_rules.specs.Coordinators.{Coord}
use Rattle.gx_rules.specs.Machine.{world_of}
use Rattle.gx_rules.specs.Segments.{Seg}
use Rattle.gx_rules.specs.Snapshots.{snapshot_of}
use Rattle.gx_law_answers.proofs.AtHome.{at-home}
use Rattle.gx_law_reads.proofs.Seeing.{world-tables}
use Rattle.gx_law_reads.specs.Sights.{AreRowsOfAll}
use Rattle.gx_law_runs.proofs.Reaching.{replayed, rows-of-all}
use Rattle.gx_law_runs.specs.Reached.{IsReached}
use Rattle.gx_law_runs.specs.Replays.{world_behind}
use Rattle.gx_tables.proofs.Gathered.{rows-of-tables}
use Rattle.gx_tables.specs.Left.{AreLeftBy}
use Rattle.gx_tables.specs.Tables.{AreTablesOf}

final-rows : (script : Script) → IsScript script → (steps : List Step) → IsReached script steps → (tables : List (Vec KeyedRow Global)) → AreRowsOfAll 0 (world_behind script steps) tables → AreFinalFrom 0 (marks_in steps) tables
final-rows script language steps is tables rows =
    subst (λ ss. AreFinalFrom 0 (marks_in ss) tables) is.is
    (world-tables script language.some_segments is.events tables 0 (at-home script language.some_segments language.numbers is.events)
    (rows-of-all script steps (world_of script is.events) (replayed script steps is) is.is 0 tables rows))

pub tables-are-final : (script : Script) → IsScript script → (steps : List Step) (coord : Coord) (segments : List Seg) → AreLeftBy script steps coord segments → (tables : List (Vec KeyedRow Global)) → AreTablesOf segments (snapshot_of coord.table) 0 tables
    → AreFinalFrom 0 (marks_in steps) tables
tables-are-final script language steps coord segments left tables are = final-rows script language steps left.reached tables (rows-of-tables script language.some_segments steps coord segments left 0 tables are)
