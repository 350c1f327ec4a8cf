-- A script of heads and one line.
use Rattle.std.specs.Prelude.{◌≡◌, ℕ, ◌<◌, List, [], ◌∷◌, ◌++◌, codes, length, map, Result, Ok, IsUtf8}
use Rattle.gx_tree.specs.declared.stmt.Stmt.{Stmt}
use Rattle.gx_script.specs.declared.Script.{Script}
use Rattle.gx_script.specs.declared.group.SlotGroup.{SlotGroup}
use Rattle.gx_lex.specs.Lexing.{every}
use Rattle.gx_sql.specs.declared.refusal.Refusal.{Refusal}
use Rattle.gx_sql.specs.Cutting.{is_within}
use Rattle.gx_sql.specs.Lines.{lines_of}
use Rattle.gx_sql.specs.Script.{Reads}

-- the bytes are read as the script, and as nothing else
pub record IsReadAs (bytes : List ℕ) (script : Script) : Type 0 where
  pub is : Reads bytes (Ok script)
  pub only : (r : Result Script Refusal) → Reads bytes r → r ≡ Ok script

-- the bytes are heads alone, which end with a line feed and leave room for a line
pub record AreHeads (bytes : List ℕ) (script : Script) : Type 0 where
  pub read : Reads bytes (Ok script)
  pub alone : script.lines ≡ []
  pub front : List ℕ
  pub fed : bytes ≡ front ++ 10 ∷ []
  pub room : length (lines_of bytes) < 100000

-- the text may stand in a line of a script
pub record IsOneLine (text : List ℕ) : Type 0 where
  pub unfed : every is_within text
  pub coded : IsUtf8 text

-- a statement's text as a session's line
abbrev pub line_of : List ℕ → List ℕ → List ℕ
line_of name text = name ++ (codes ": " ++ text)

-- heads with these groups, and the first line of a session of this name
abbrev pub with_one : Script → List SlotGroup → List ℕ → Stmt → Script
with_one heads groups name stmt = record heads { sessions = name ∷ []; lines = record { session = record { 0 = 0 }; number = 1; stmt = stmt } ∷ []; groups = groups }

abbrev pub emptied : SlotGroup → SlotGroup
emptied group = record group { sessions = [] }

-- The bytes are read as the heads and one line. A group that names its session has that, and is else as the heads have it.
pub record IsReadWith (bytes : List ℕ) (heads : Script) (name : List ℕ) (stmt : Stmt) : Type 0 where
  pub groups : List SlotGroup
  pub same : map emptied groups ≡ heads.groups
  pub read : IsReadAs bytes (with_one heads groups name stmt)
