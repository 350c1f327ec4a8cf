-- A statement as it is written, with the names of its tables and columns.
use Rattle.std.specs.Prelude.{ℕ, ◌==◌, ℤ, pos, negsuc, suc, Bool, true, false, if◌then◌else◌, List, [], ◌∷◌, map, slice_get, Option, Some, None}
use Rattle.std.specs.Option.{option_map}
use Rattle.gx_tree.specs.declared.value.Value.{Value}
use Rattle.gx_tree.specs.declared.value.Value.TheVariants as value
use Rattle.gx_tree.specs.declared.schema.Column.{Column}
use Rattle.gx_tree.specs.declared.schema.Schema.{Schema}
use Rattle.gx_tree.specs.declared.expr.ArithOp.{ArithOp}
use Rattle.gx_tree.specs.declared.expr.ArithOp.TheVariants as arith
use Rattle.gx_tree.specs.declared.expr.Expr.{Expr}
use Rattle.gx_tree.specs.declared.expr.Expr.TheOpen.{Expr-F}
use Rattle.gx_tree.specs.declared.expr.Expr.TheFolds.{fold-Expr}
use Rattle.gx_tree.specs.declared.cond.CmpOp.{CmpOp}
use Rattle.gx_tree.specs.declared.cond.CmpOp.TheVariants as cmp
use Rattle.gx_tree.specs.declared.cond.Cond.{Cond}
use Rattle.gx_tree.specs.declared.cond.Cond.TheOpen.{Cond-F}
use Rattle.gx_tree.specs.declared.cond.Cond.TheFolds.{fold-Cond}
use Rattle.gx_tree.specs.declared.query.Item.{Item}
use Rattle.gx_tree.specs.declared.query.Item.TheVariants as item
use Rattle.gx_tree.specs.declared.query.Key.{Key}
use Rattle.gx_tree.specs.declared.query.Query.{Query}
use Rattle.gx_tree.specs.declared.stmt.Assign.{Assign}
use Rattle.gx_tree.specs.declared.stmt.Stmt.{Stmt}
use Rattle.gx_tree.specs.declared.stmt.Stmt.TheVariants as stmt
use Rattle.gx_grammar.specs.declared.syn.Op.{Op}
use Rattle.gx_grammar.specs.declared.syn.Op.TheVariants as op
use Rattle.gx_grammar.specs.declared.syn.Syn.{Syn}
use Rattle.gx_grammar.specs.declared.syn.Syn.TheVariants as syn
use Rattle.gx_lines.specs.declared.classes.Agg.TheVariants as agg
use Rattle.gx_lines.specs.declared.classes.Direction.{Direction}
use Rattle.gx_lines.specs.declared.classes.Direction.TheVariants as direction
use Rattle.gx_lines.specs.declared.classes.Size.{Size}
use Rattle.gx_lines.specs.declared.syn.ItemSyn.{ItemSyn}
use Rattle.gx_lines.specs.declared.syn.ItemSyn.TheVariants as item_syn
use Rattle.gx_lines.specs.declared.syn.ItemsSyn.TheVariants as items_syn
use Rattle.gx_lines.specs.declared.syn.KeySyn.{KeySyn}
use Rattle.gx_lines.specs.declared.syn.SelectSyn.{SelectSyn}
use Rattle.gx_lines.specs.declared.syn.TupleSyn.{TupleSyn}
use Rattle.gx_lines.specs.declared.syn.AssignSyn.{AssignSyn}
use Rattle.gx_lines.specs.declared.syn.StmtSyn.{StmtSyn}
use Rattle.gx_lines.specs.declared.syn.StmtSyn.TheVariants as stmt_syn
use Rattle.gx_print.specs.Statements.{stmt_text}

-- the name and the columns of a table, nothing where there is no table of this place
abbrev pub name_of_schema : Option Schema → List ℕ
name_of_schema None = []
name_of_schema (Some s) = s.name

abbrev pub columns_of_schema : Option Schema → List Column
columns_of_schema None = []
columns_of_schema (Some s) = s.columns

abbrev pub table_name : List Schema → ℕ → List ℕ
table_name tables t = name_of_schema (slice_get tables t)

abbrev pub columns_of : List Schema → ℕ → List Column
columns_of tables t = columns_of_schema (slice_get tables t)

-- the name of a column, nothing where there is no column of this place
abbrev pub name_of_column : Option Column → List ℕ
name_of_column None = []
name_of_column (Some c) = c.name

abbrev pub column_name : List Column → ℕ → List ℕ
column_name columns c = name_of_column (slice_get columns c)

-- a negative number has a sign
abbrev pub number_syn : ℤ → Syn
number_syn (pos n) = syn.Number false (Some n)
number_syn (negsuc n) = syn.Number true (Some (suc n))

abbrev pub value_syn : Value → Syn
value_syn (value.Int z) = number_syn z
value_syn (value.Text t) = syn.Text t

abbrev pub arith_op : ArithOp → Op
arith_op arith.Add = op.Add
arith_op arith.Sub = op.Sub
arith_op arith.Mul = op.Mul
arith_op arith.Div = op.Div
arith_op arith.Rem = op.Rem

abbrev pub cmp_op : CmpOp → Op
cmp_op cmp.Eq = op.Equal
cmp_op cmp.Ne = op.NotEqual
cmp_op cmp.Lt = op.Less
cmp_op cmp.Le = op.LessEqual
cmp_op cmp.Gt = op.Greater
cmp_op cmp.Ge = op.GreaterEqual

abbrev pub expr_step : List Column → Expr-F Syn → Syn
expr_step columns (Expr-F.Lit v) = value_syn v
expr_step columns (Expr-F.Col c) = syn.Column (column_name columns c)
expr_step columns (Expr-F.Neg t) = syn.Neg t
expr_step columns (Expr-F.Bin o s t) = syn.Bin (arith_op o) s t

abbrev pub expr_syn : List Column → Expr → Syn
expr_syn columns e = fold-Expr Syn (expr_step columns) e

abbrev pub cond_step : List Column → Cond-F Syn → Syn
cond_step columns (Cond-F.Cmp o a b) = syn.Bin (cmp_op o) (expr_syn columns a) (expr_syn columns b)
cond_step columns (Cond-F.And s t) = syn.Bin op.And s t
cond_step columns (Cond-F.Or s t) = syn.Bin op.Or s t
cond_step columns (Cond-F.Not t) = syn.Not t

abbrev pub cond_syn : List Column → Cond → Syn
cond_syn columns c = fold-Cond Syn (cond_step columns) c

abbrev pub item_syn_of : List Column → Item → ItemSyn
item_syn_of columns (item.Col c) = item_syn.Column (column_name columns c)
item_syn_of columns item.Count = item_syn.Count
item_syn_of columns (item.Sum c) = item_syn.Agg agg.Sum (column_name columns c)
item_syn_of columns (item.Min c) = item_syn.Agg agg.Min (column_name columns c)
item_syn_of columns (item.Max c) = item_syn.Agg agg.Max (column_name columns c)

-- rising has no word
abbrev pub direction_of_key : Bool → Option Direction
direction_of_key true = Some direction.Desc
direction_of_key false = None

abbrev pub key_syn : List Column → Key → KeySyn
key_syn columns k = record { column = column_name columns k.col; direction = direction_of_key k.desc }

abbrev pub unless_empty : {A B : Type 0} → (A → B) → List A → Option (List B)
unless_empty f [] = None
unless_empty f (x ∷ xs) = Some (map f (x ∷ xs))

abbrev pub to_size : ℕ → Size
to_size n = record { 0 = Some n }

-- a SELECT from the table of a name and of columns
abbrev pub select_syn : List ℕ → List Column → Query → SelectSyn
select_syn name columns q = record {
  items = items_syn.These (map (item_syn_of columns) q.items);
  table = name;
  cond = option_map (cond_syn columns) q.cond;
  group = unless_empty (column_name columns) q.group;
  order = unless_empty (key_syn columns) q.order;
  limit = option_map to_size q.limit;
}

abbrev pub query_syn : List Schema → Query → SelectSyn
query_syn tables q = select_syn (table_name tables q.table.0) (columns_of tables q.table.0) q

abbrev pub tuple_syn : List Column → List Expr → TupleSyn
tuple_syn columns es = record { values = map (expr_syn columns) es }

abbrev pub assign_syn : List Column → Assign → AssignSyn
assign_syn columns a = record { column = column_name columns a.col; value = expr_syn columns a.expr }

-- a statement as it is written; `*` is kept as its columns
abbrev pub written : List Schema → Stmt → StmtSyn
written tables (stmt.Begin l) = stmt_syn.Begin l
written tables stmt.Commit = stmt_syn.Commit
written tables stmt.Rollback = stmt_syn.Rollback
written tables (stmt.Select q) = stmt_syn.Select (query_syn tables q)
written tables (stmt.Insert t tuples) = stmt_syn.Insert (table_name tables t.0) (map (tuple_syn (columns_of tables t.0)) tuples)
written tables (stmt.Update t assigns cond) = stmt_syn.Update (table_name tables t.0) (map (assign_syn (columns_of tables t.0)) assigns) (option_map (cond_syn (columns_of tables t.0)) cond)
written tables (stmt.Delete t cond) = stmt_syn.Delete (table_name tables t.0) (option_map (cond_syn (columns_of tables t.0)) cond)
written tables (stmt.Lock t m) = stmt_syn.Lock (table_name tables t.0) m

-- the printed form of a statement over its tables
abbrev pub printed : List Schema → Stmt → List ℕ
printed tables s = stmt_text (written tables s)
