-- The plan of a line of a script: its table, that it can be planned, and the nodes that its pieces are for.
use Rattle.std.proofs.Common.{◌≡◌, ◌∙◌, ℕ, zero, suc, List, [], ◌∷◌, Option, Some, None, Result, Ok, Err, All, IsSome, length, map, slice_get, refl, sym, subst, ap, arith}
use Rattle.std.proofs.lemmas.List.{length-map}
use Rattle.std.proofs.lemmas.List.Elements.{All-from_recursion, recursion_from_All}
use Rattle.std.specs.List.{AllByRecursion}
use Rattle.std.specs.Prelude.{Contains, MatchOption}
use Rattle.gx_ids.specs.declared.ids.Cid.{Cid}
use Rattle.gx_ids.specs.declared.ids.Gxid.{Gxid}
use Rattle.gx_ids.specs.declared.ids.Node.{Node}
use Rattle.gx_ids.specs.declared.ids.Table.{Table}
use Rattle.gx_lemmas.proofs.Options.{none-some, some-same}
use Rattle.gx_meaning.specs.Constants.{HasKey, IsConstant}
use Rattle.gx_meaning.specs.declared.fault.ArithFault.{ArithFault}
use Rattle.gx_meaning.specs.declared.piece.Piece.{Piece}
use Rattle.gx_meaning.specs.Kinds.{kind_of}
use Rattle.gx_meaning.specs.Plan.{IsCommand, plan_of}
use Rattle.gx_meaning.specs.Statements.{IsAt, IsDist, IsOver, IsStmtOf, IsTuple, column_kind, column_kinds, table_of}
use Rattle.gx_script.specs.declared.Script.{Script}
use Rattle.gx_store.specs.Answers.{GoesTo}
use Rattle.gx_store.specs.Language.{IsScript, IsTable}
use Rattle.gx_store.specs.Writes.{dist_of}
use Rattle.gx_tree.specs.declared.expr.Expr.{Expr}
use Rattle.gx_tree.specs.declared.schema.Column.{Column}
use Rattle.gx_tree.specs.declared.schema.Dist.{Dist}
use Rattle.gx_tree.specs.declared.schema.Dist.TheVariants.{By, Randomly}
use Rattle.gx_tree.specs.declared.schema.Kind.{Kind}
use Rattle.gx_tree.specs.declared.schema.Schema.{Schema}
use Rattle.gx_tree.specs.declared.stmt.Stmt.{Stmt}
use Rattle.gx_tree.specs.declared.stmt.Stmt.TheVariants as stmt
use Rattle.gx_legal.specs.Done.{AreSent, node_of}
use Rattle.gx_legal.specs.Tables.{IsOn, IsShort, table_at}

-- ITS TABLE
table-in : (tables : List Schema) (n : ℕ) (schema : Schema) → AllByRecursion IsTable tables → slice_get tables n ≡ Some schema → IsTable schema
table-in [] n schema all e = absurd (cc)
table-in (t ∷ ts) zero schema all e = subst IsTable (some-same t schema e) all.0
table-in (t ∷ ts) (suc n) schema all e = table-in ts n schema all.1 e

dist-at : (tables : List Schema) (n : ℕ) (schema : Schema) → slice_get tables n ≡ Some schema → dist_of tables n ≡ schema.dist
dist-at [] n schema e = absurd (cc)
dist-at (t ∷ ts) zero schema e = ap (λ (s : Schema). s.dist) (some-same t schema e)
dist-at (t ∷ ts) (suc n) schema e = dist-at ts n schema e

-- CONSTANTS
some-kinds : (tuple : List Expr) (kinds : List Kind) → map (kind_of []) tuple ≡ map Some kinds → AllByRecursion IsConstant tuple
some-kinds [] kinds h = tt
some-kinds (e ∷ es) [] h = absurd (cc)
some-kinds (e ∷ es) (k ∷ ks) h =
    let here : Some k ≡ kind_of [] e = cc in
    let behind : map (kind_of []) es ≡ map Some ks = cc in
    (subst IsSome here refl, some-kinds es ks behind)

as-wide : (columns : List Column) (tuple : List Expr) → IsTuple columns tuple → length tuple ≡ length columns
as-wide columns tuple h = sym (length-map tuple (kind_of [])) ∙ ap length h ∙ length-map (column_kinds columns) Some ∙ length-map columns column_kind

has-key : (columns : List Column) (dist : Dist) (tuple : List Expr) → IsDist columns dist → IsTuple columns tuple → HasKey dist tuple
has-key columns (By column) tuple d h = let same = as-wide columns tuple h in omega (arith, d, same)
has-key columns Randomly tuple d h = tt

-- IT CAN BE PLANNED
module _ (script : Script) (language : IsScript script) (schema : Schema) where
  pub plannable : (line : Stmt) → IsStmtOf script.tables line → IsOn script.tables line schema → IsShort line → IsCommand schema.dist line
  plannable (stmt.Begin level) is on short = absurd (cc)
  plannable stmt.Commit is on short = absurd (cc)
  plannable stmt.Rollback is on short = absurd (cc)
  plannable (stmt.Select query) is on short = tt
  plannable (stmt.Update table assigns found) is on short = tt
  plannable (stmt.Delete table found) is on short = tt
  plannable (stmt.Lock table mode) is on short = tt
  plannable (stmt.Insert table tuples) is on short = (
    short,
    λ k tuple inside. record {
      constants = All-from_recursion IsConstant _ (some-kinds _ (column_kinds schema.columns) (over k tuple inside));
      key = has-key schema.columns schema.dist _ (table-in script.tables table.0 schema (recursion_from_All IsTable script.tables language.tables) on).schema.key (over k tuple inside);
    },
  )
    where
      over : All (IsTuple schema.columns) tuples
      over = subst (λ (s : Schema). All (IsTuple s.columns) tuples) (some-same is.0 schema (sym is.1 ∙ on)) is.2

-- WHERE ITS PIECES GO
ok-same : {A E : Type 0} {x y : A} → ◌≡◌ {A = Result A E} (Ok x) (Ok y) → x ≡ y
ok-same e = cc

module _ (script : Script) (g : Gxid) (c : Cid) (line : Stmt) where
  on-table : (schema : Schema) (table : Table) → IsOn script.tables line schema → table_of line ≡ Some table → dist_of script.tables table.0 ≡ schema.dist
  on-table schema table on of = dist-at script.tables table.0 schema (subst (λ o. table_at script.tables o ≡ Some schema) of on)

  plan-there : (schema : Schema) (goes : (node : Node) × GoesTo script g c line node) → IsOn script.tables line schema → plan_of script.segments schema.dist g c line ≡ Ok goes.1.pieces
  plan-there schema goes on = sym (ap (λ d. plan_of script.segments d g c line) (on-table schema goes.1.table on goes.1.of)) ∙ goes.1.plan

  pub pieces-sent : (schema : Schema) (pieces : List Piece) → IsOn script.tables line schema → plan_of script.segments schema.dist g c line ≡ Ok pieces → AreSent script g c line pieces
  pieces-sent schema pieces on plan node = (
    λ goes. subst (λ ps. Contains (map node_of ps) node) (sym (ok-same (sym plan
        ∙ plan-there schema (node, goes) on))) goes.among,
    λ among. at (table_of line) refl among,
  )
    where
      at : (o : Option Table) → table_of line ≡ o → Contains (map node_of pieces) node → GoesTo script g c line node
      at None e among = absurd (none-some _ schema (ap (table_at script.tables) e) on)
      at (Some table) e among = record { table = table; of = e; pieces = pieces; plan = ap (λ d. plan_of script.segments d g c line) (on-table schema table on e) ∙ plan; among = among }

  pub none-sent : ((node : Node) → GoesTo script g c line node → ⊥) → AreSent script g c line []
  none-sent none node = (λ goes. absurd (none node goes), λ among. absurd (omega (arith, among.1)))

  pub fault-sent : (schema : Schema) (fault : ArithFault) → IsOn script.tables line schema → plan_of script.segments schema.dist g c line ≡ Err fault → AreSent script g c line []
  fault-sent schema fault on plan = none-sent (λ node goes. clash goes.pieces (sym plan ∙ plan-there schema (node, goes) on))
    where
      clash : (pieces : List Piece) → ◌≡◌ {A = Result (List Piece) ArithFault} (Err fault) (Ok pieces) → ⊥
      clash pieces e = cc

  pub unplanned-sent : IsStmtOf script.tables line → table_at script.tables (table_of line) ≡ None → AreSent script g c line []
  unplanned-sent is none = none-sent (λ node goes. there goes.table
      (subst (λ o. MatchOption o (Unit {0}) (λ table. (schema : Schema) × IsAt script.tables table schema × IsOver schema line)) goes.of is)
      (subst (λ o. table_at script.tables o ≡ None) goes.of none))
    where
      there : (table : Table) → (schema : Schema) × IsAt script.tables table schema × IsOver schema line → slice_get script.tables table.0 ≡ None → ⊥
      there table s e = none-some _ s.0 e s.1
