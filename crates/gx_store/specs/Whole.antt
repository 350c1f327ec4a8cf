-- Statements as the language has them: each INSERT with a tuple, and each tuple with a value for the distribution column, which no
-- UPDATE sets; each query with an item.
use Rattle.std.specs.Prelude.{◌≤◌, List, [], ◌∷◌, length}
use Rattle.gx_tree.specs.declared.expr.Expr.{Expr}
use Rattle.gx_tree.specs.declared.schema.Dist.{Dist}
use Rattle.gx_tree.specs.declared.schema.Schema.{Schema}
use Rattle.gx_tree.specs.declared.stmt.Stmt.{Stmt}
use Rattle.gx_tree.specs.declared.stmt.Stmt.TheVariants as stmt
use Rattle.gx_meaning.specs.Constants.{HasKey}
use Rattle.gx_meaning.specs.Statements.{KeepsKey}
use Rattle.gx_script.specs.declared.Line.{Line}
use Rattle.gx_store.specs.Writes.{dist_of}

abbrev pub HaveKeys : Dist → List (List Expr) → Type 0
HaveKeys dist [] = Unit {0}
HaveKeys dist (tuple ∷ tuples) = HasKey dist tuple × HaveKeys dist tuples

abbrev pub IsWholeStmt : List Schema → Stmt → Type 0
IsWholeStmt tables (stmt.Insert table []) = ⊥
IsWholeStmt tables (stmt.Insert table (tuple ∷ tuples)) = HaveKeys (dist_of tables table.0) (tuple ∷ tuples)
IsWholeStmt tables (stmt.Update table assigns cond) = KeepsKey (dist_of tables table.0) assigns
IsWholeStmt tables _ = Unit {0}

abbrev pub AreInsertsWhole : List Schema → List Line → Type 0
AreInsertsWhole tables [] = Unit {0}
AreInsertsWhole tables (l ∷ ls) = IsWholeStmt tables l.stmt × AreInsertsWhole tables ls

-- each query has an item
abbrev pub HasItem : Stmt → Type 0
HasItem (stmt.Select query) = 1 ≤ length query.items
HasItem _ = Unit {0}

abbrev pub HaveItems : List Line → Type 0
HaveItems [] = Unit {0}
HaveItems (l ∷ ls) = HasItem l.stmt × HaveItems ls
