-- Scripts that only insert.
use Rattle.std.specs.Prelude.{◌≡◌, Bool, true, false, List, [], ◌∷◌}
use Rattle.gx_tree.specs.declared.stmt.Stmt.{Stmt}
use Rattle.gx_tree.specs.declared.stmt.Stmt.TheVariants.{Begin, Commit, Rollback, Insert}
use Rattle.gx_script.specs.declared.Line.{Line}

-- INSERT, BEGIN, COMMIT and ROLLBACK
abbrev pub is_inserting : Stmt → Bool
is_inserting (Begin level) = true
is_inserting Commit = true
is_inserting Rollback = true
is_inserting (Insert table tuples) = true
is_inserting _ = false

abbrev pub AreInserting : List Line → Type 0
AreInserting [] = Unit {0}
AreInserting (l ∷ ls) = (is_inserting l.stmt ≡ true) × AreInserting ls
