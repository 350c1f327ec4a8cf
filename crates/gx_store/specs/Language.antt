-- What a script has that keeps the rules and the limits of the language.
use Rattle.std.specs.Prelude.{◌≡◌, ◌⊎◌, ℕ, ◌+◌, ◌<◌, ◌≤◌, ◌==◌, if◌then◌else◌, List, [], ◌∷◌, ◌++◌, map, length, All}
use Rattle.gx_tree.specs.declared.schema.Schema.{Schema}
use Rattle.gx_script.specs.declared.Line.{Line}
use Rattle.gx_script.specs.declared.LinkFault.{LinkFault}
use Rattle.gx_script.specs.declared.Script.{Script}
use Rattle.gx_meaning.specs.Statements.{AreDistinct, column_text, IsSchema, IsStmtOf}
use Rattle.gx_store.specs.Limits.{IsWord, IsBoundedLine, HaveTuplesTo}
use Rattle.gx_store.specs.Heads.{AreGroups}

abbrev pub table_name : Schema → List ℕ
table_name table = table.name

-- a name of the language that is short enough
abbrev pub IsName : List ℕ → Type 0
IsName name = (length name ≤ 63) × IsWord name

pub record IsTable (table : Schema) : Type 0 where
  pub name : IsName table.name
  pub schema : IsSchema table
  pub few_columns : length table.columns ≤ 32
  pub column_names : All IsName (map column_text table.columns)

-- a line of one of so many sessions, with a statement over these tables
abbrev pub IsLine : List Schema → ℕ → Line → Type 0
IsLine tables sessions line = (line.session.0 < sessions) × IsStmtOf tables line.stmt

-- how many of the lines are of the session at this place
abbrev pub lines_in : ℕ → List Line → ℕ
lines_in session [] = 0
lines_in session (l ∷ ls) = if l.session.0 == session then lines_in session ls + 1 else lines_in session ls

-- behind these lines, each line's number is one more than the lines of its session before it
abbrev pub AreLinesNumbered : List Line → List Line → Type 0
AreLinesNumbered before [] = Unit {0}
AreLinesNumbered before (l ∷ ls) = (l.number ≡ lines_in l.session.0 before + 1) × AreLinesNumbered (before ++ l ∷ []) ls

-- where so many sessions have begun, each line is of one of them or begins the next, until all have begun
abbrev pub BeginInOrder : ℕ → List Line → ℕ → Type 0
BeginInOrder begun [] all = begun ≡ all
BeginInOrder begun (l ∷ ls) all = ((l.session.0 < begun) × BeginInOrder begun ls all) ⊎ ((l.session.0 ≡ begun) × BeginInOrder (begun + 1) ls all)

-- the fault's link is one to or from one of so many segments, and its message is counted from 1
abbrev pub IsFault : ℕ → LinkFault → Type 0
IsFault segments fault = (1 ≤ fault.segment.0) × (fault.segment.0 ≤ segments) × (1 ≤ fault.number)

pub record IsScript (script : Script) : Type 0 where
  pub some_segments : 1 ≤ script.segments
  pub few_segments : script.segments ≤ 16
  pub tables : All IsTable script.tables
  pub table_names : AreDistinct (map table_name script.tables)
  pub few_tables : length script.tables ≤ 64
  pub sessions : All IsName script.sessions
  pub session_names : AreDistinct script.sessions
  pub few_sessions : length script.sessions ≤ 64
  pub lines : All (IsLine script.tables (length script.sessions)) script.lines
  pub limits : All IsBoundedLine script.lines
  pub few_tuples : HaveTuplesTo 4294967295 script.lines
  pub few_lines : length script.lines ≤ 100000
  pub numbers : AreLinesNumbered [] script.lines
  pub order : BeginInOrder 0 script.lines (length script.sessions)
  pub groups : AreGroups (length script.sessions) script.groups
  -- no head says yet that a segment restarts
  pub restarts : script.restarts ≡ []
  pub faults : All (IsFault script.segments) script.faults

-- No link has the same fault of one message twice. A run is what it is either way; a reader keeps each fault once.
abbrev pub HasFaultsOnce : Script → Type 0
HasFaultsOnce script = AreDistinct script.faults
