-- What the lines of a text that may be shown are read as.
use Rattle.std.specs.Prelude.{◌≡◌, ℕ, List, ◌++◌, map, All, Some}
use Rattle.gx_script.specs.declared.Script.{Script}
use Rattle.gx_store.specs.Language.{table_name}
use Rattle.gx_trace.specs.Lawful.{IsLine}
use Rattle.gx_trace.specs.Shown.{IsShown}
use Rattle.gx_trace.specs.declared.seen.Seen.{Seen}
use Rattle.gx_read_trace.specs.Lines.{seen_lines}
use Rattle.gx_read_trace.specs.Machine.{Mid, ended, run, start}

-- the lines lead from the start to an end at which this was seen
pub record AreReadAs (script : Script) (lines : List (List ℕ)) (seen : Seen) : Type 0 where
  pub last : Mid
  pub leads : run script lines (start script) ≡ Some last
  pub tells : ended last.so_far last.next ≡ Some seen

-- no name has a line feed in it
pub record HasPlainNames (script : Script) : Type 0 where
  pub sessions : All IsLine script.sessions
  pub tables : All IsLine (map table_name script.tables)

-- the lines lead from the start to some state
pub record AreTaken (script : Script) (lines : List (List ℕ)) : Type 0 where
  pub state : Mid
  pub leads : run script lines (start script) ≡ Some state

-- what some text's lines begin with
pub record BeginText (script : Script) (lines : List (List ℕ)) : Type 0 where
  pub seen : Seen
  pub others : List (List ℕ)
  pub is : IsShown script seen
  pub parts : seen_lines script seen ≡ lines ++ others
