-- A text that reads as a statement.
use Rattle.std.specs.Prelude.{◌≡◌, ◌⊎◌, ℕ, List, [], ◌∷◌, Ok}
use Rattle.gx_lex.specs.declared.token.Token.{Token}
use Rattle.gx_lex.specs.Lexing.{Lexes}
use Rattle.gx_tree.specs.declared.schema.Schema.{Schema}
use Rattle.gx_tree.specs.declared.stmt.Stmt.{Stmt}
use Rattle.gx_lines.specs.declared.syn.StmtSyn.{StmtSyn}
use Rattle.gx_lines.specs.Statements.{stmt}
use Rattle.gx_resolve.specs.Resolving.{stmt_of}
use Rattle.gx_sql.specs.Script.{the_limits}

abbrev pub Among : {X : Type 0} → X → List X → Type 0
Among x [] = ⊥
Among x (y ∷ ys) = (x ≡ y) ⊎ Among x ys

-- under these tables these bytes are cut into tokens, spelled within the limits and resolved as this statement
abbrev pub ReadsAs : List Schema → Stmt → List ℕ → Type 0
ReadsAs tables x bytes = (ts : List Token) × (s : StmtSyn) × Lexes ts bytes × stmt the_limits s ts × (stmt_of tables s ≡ Ok x)
