-- The limits of the language on names and on what a statement holds: how deep its expressions are, written with parentheses only where they are
-- needed, how many operators they have, how long their texts are, and how many parts its lists have.
use Rattle.std.specs.Prelude.{◌≡◌, ℕ, ◌+◌, ◌≤◌, ◌==◌, nat_le, max, Bool, true, false, ◌&&◌, ◌||◌, if◌then◌else◌, List, [], ◌∷◌, length, All, Option, Some, None}
use Rattle.std.specs.List.{list_any}
use Rattle.gx_lex.specs.Words.{keyword_of}
use Rattle.gx_lex.specs.Lexing.{is_digit, Begins}
use Rattle.gx_tree.specs.declared.value.Value.{Value}
use Rattle.gx_tree.specs.declared.value.Value.TheVariants as value
use Rattle.gx_tree.specs.declared.expr.ArithOp.{ArithOp}
use Rattle.gx_tree.specs.declared.expr.ArithOp.TheVariants.{Add, Sub}
use Rattle.gx_tree.specs.declared.expr.Expr.{Expr}
use Rattle.gx_tree.specs.declared.expr.Expr.TheOpen.{Expr-F}
use Rattle.gx_tree.specs.declared.expr.Expr.TheFolds.{fold-Expr}
use Rattle.gx_tree.specs.declared.cond.Cond.{Cond}
use Rattle.gx_tree.specs.declared.cond.Cond.TheOpen.{Cond-F}
use Rattle.gx_tree.specs.declared.cond.Cond.TheFolds.{fold-Cond}
use Rattle.gx_tree.specs.declared.query.Item.{Item}
use Rattle.gx_tree.specs.declared.query.Item.TheVariants as item
use Rattle.gx_tree.specs.declared.query.Query.{Query}
use Rattle.gx_tree.specs.declared.stmt.Assign.{Assign}
use Rattle.gx_tree.specs.declared.stmt.Stmt.{Stmt}
use Rattle.gx_tree.specs.declared.stmt.Stmt.TheVariants as stmt
use Rattle.gx_script.specs.declared.Line.{Line}

-- NAMES
abbrev pub is_small_letter : ℕ → Bool
is_small_letter b = nat_le 97 b && nat_le b 122

abbrev pub is_name_byte : ℕ → Bool
is_name_byte b = is_small_letter b || (is_digit b || (b == 95))

-- a letter, then letters, digits and underscores, all in small, and no keyword
abbrev pub IsWord : List ℕ → Type 0
IsWord name = Begins is_small_letter is_name_byte name × (keyword_of name ≡ None)

-- EXPRESSIONS
-- the level of the rule that writes it (1 OR, 2 AND, 3 NOT, 4 comparisons, 5 sums, 6 products, 7 all else), how many NOTs, minus signs and needed
-- parentheses stand around its deepest token, a parenthesis directly after a minus sign not counted, how many operators it has, a literal's sign not
-- counted, and how long its longest text is
pub record Extent : Type 0 where
  pub level : ℕ
  pub depth : ℕ
  pub operators : ℕ
  pub text : ℕ

-- where the rule of a level writes it, or else in parentheses
abbrev pub depth_at : ℕ → Extent → ℕ
depth_at level x = if nat_le level x.level then x.depth else x.depth + 1

-- a token
abbrev pub leaf : ℕ → Extent
leaf text = record { level = 7; depth = 0; operators = 0; text = text }

-- behind a minus sign, and behind NOT
abbrev pub negative : Extent → Extent
negative x = record { level = 7; depth = x.depth + 1; operators = x.operators + 1; text = x.text }

abbrev pub negated : Extent → Extent
negated x = record { level = 3; depth = depth_at 3 x + 1; operators = x.operators + 1; text = x.text }

-- an operator of a level between two of these levels
abbrev pub joined : ℕ → ℕ → ℕ → Extent → Extent → Extent
joined level left right x y =
    record { level = level; depth = max (depth_at left x) (depth_at right y); operators = x.operators + (1 + y.operators); text = max x.text y.text }

abbrev pub value_length : Value → ℕ
value_length (value.Int number) = 0
value_length (value.Text text) = length text

-- sums and products take what stands on their left as it is
abbrev pub arith_extent : ArithOp → Extent → Extent → Extent
arith_extent Add x y = joined 5 5 6 x y
arith_extent Sub x y = joined 5 5 6 x y
arith_extent _ x y = joined 6 6 7 x y

abbrev pub expr_step : Expr-F Extent → Extent
expr_step (Expr-F.Lit value) = leaf (value_length value)
expr_step (Expr-F.Col place) = leaf 0
expr_step (Expr-F.Neg inner) = negative inner
expr_step (Expr-F.Bin op left right) = arith_extent op left right

abbrev pub expr_extent : Expr → Extent
expr_extent expr = fold-Expr Extent expr_step expr

abbrev pub cond_step : Cond-F Extent → Extent
cond_step (Cond-F.Cmp op left right) = joined 4 5 5 (expr_extent left) (expr_extent right)
cond_step (Cond-F.And left right) = joined 2 2 3 left right
cond_step (Cond-F.Or left right) = joined 1 1 2 left right
cond_step (Cond-F.Not inner) = negated inner

abbrev pub cond_extent : Cond → Extent
cond_extent cond = fold-Cond Extent cond_step cond

-- at most 100 around a token, 1,000 operators, and texts of 1,000 bytes
pub record IsBounded (x : Extent) : Type 0 where
  pub depth : x.depth ≤ 100
  pub operators : x.operators ≤ 1000
  pub text : x.text ≤ 1000

abbrev pub IsBoundedExpr : Expr → Type 0
IsBoundedExpr expr = IsBounded (expr_extent expr)

abbrev pub IsBoundedWhere : Option Cond → Type 0
IsBoundedWhere None = Unit {0}
IsBoundedWhere (Some cond) = IsBounded (cond_extent cond)

-- STATEMENTS
abbrev pub is_aggregate : Item → Bool
is_aggregate (item.Col place) = false
is_aggregate _ = true

-- GROUP BY stands, or else an aggregate
abbrev pub has_groups : List ℕ → List Item → Bool
has_groups [] items = list_any is_aggregate items
has_groups (c ∷ cs) items = true

pub record IsBoundedQuery (query : Query) : Type 0 where
  pub items : 1 ≤ length query.items
  pub grouped : query.grouped ≡ has_groups query.group query.items
  pub cond : IsBoundedWhere query.cond

abbrev pub IsBoundedTuple : List Expr → Type 0
IsBoundedTuple tuple = All IsBoundedExpr tuple

abbrev pub IsBoundedAssign : Assign → Type 0
IsBoundedAssign assign = IsBoundedExpr assign.expr

-- its lists have a part at least, and its expressions are within the limits
abbrev pub IsBoundedStmt : Stmt → Type 0
IsBoundedStmt (stmt.Select query) = IsBoundedQuery query
IsBoundedStmt (stmt.Insert table tuples) = (1 ≤ length tuples) × All IsBoundedTuple tuples
IsBoundedStmt (stmt.Update table assigns cond) = (1 ≤ length assigns) × All IsBoundedAssign assigns × IsBoundedWhere cond
IsBoundedStmt (stmt.Delete table cond) = IsBoundedWhere cond
IsBoundedStmt _ = Unit {0}

abbrev pub IsBoundedLine : Line → Type 0
IsBoundedLine line = IsBoundedStmt line.stmt

-- an INSERT has at most so many tuples
abbrev pub HasTuplesTo : ℕ → Stmt → Type 0
HasTuplesTo most (stmt.Insert table tuples) = length tuples ≤ most
HasTuplesTo most _ = Unit {0}

abbrev pub IsLineTo : ℕ → Line → Type 0
IsLineTo most line = HasTuplesTo most line.stmt

abbrev pub HaveTuplesTo : ℕ → List Line → Type 0
HaveTuplesTo most lines = All (IsLineTo most) lines
