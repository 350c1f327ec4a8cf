-- What the pieces of a plan are of: which statement's slice an EXEC has.
use Rattle.std.proofs.Common.{◌≡◌, ◌∙◌, ℕ, List, [], ◌∷◌, Option, Some, None, Result, Ok, Err, true, refl, subst, ap}
use Rattle.std.specs.Prelude.{map, Contains}
use Rattle.std.specs.List.{flat_map}
use Rattle.gx_ids.specs.declared.ids.Cid.{Cid}
use Rattle.gx_ids.specs.declared.ids.Gxid.{Gxid}
use Rattle.gx_ids.specs.declared.ids.Node.{Node}
use Rattle.gx_ids.specs.declared.ids.Table.{Table}
use Rattle.gx_tree.specs.declared.cond.Cond.{Cond}
use Rattle.gx_tree.specs.declared.expr.Expr.{Expr}
use Rattle.gx_tree.specs.declared.query.Query.{Query}
use Rattle.gx_tree.specs.declared.row.KeyedRow.{KeyedRow}
use Rattle.gx_tree.specs.declared.schema.Dist.{Dist}
use Rattle.gx_tree.specs.declared.slice.Slice.{Slice}
use Rattle.gx_tree.specs.declared.slice.Slice.TheVariants as slice
use Rattle.gx_tree.specs.declared.stmt.Assign.{Assign}
use Rattle.gx_tree.specs.declared.stmt.Level.{Level}
use Rattle.gx_tree.specs.declared.stmt.Stmt.{Stmt}
use Rattle.gx_tree.specs.declared.stmt.Stmt.TheVariants as stmt
use Rattle.gx_meaning.specs.Expressions.{and_then}
use Rattle.gx_meaning.specs.declared.fault.ArithFault.{ArithFault}
use Rattle.gx_meaning.specs.Constants.{rows_of}
use Rattle.gx_meaning.specs.Plan.{insert_pieces, nodes_from, piece, plan_of, row_pieces, rows_at}
use Rattle.gx_meaning.specs.declared.piece.Piece.{Piece}
use Rattle.gx_law_order.proofs.Lists.{each_append}
use Rattle.gx_law_order.specs.Lists.{Each}
use Rattle.gx_dsnap.specs.declared.snapshot.Snapshot.{Snapshot}
use Rattle.gx_script.specs.declared.Script.{Script}
use Rattle.gx_store.specs.declared.mark.Mark.{Mark}
use Rattle.gx_store.specs.Lines.{is_on_rows}
use Rattle.gx_store.specs.Writes.{dist_of}
use Rattle.gx_rules.specs.AtCoordinator.{table_of}
use Rattle.gx_rules.specs.Changes.{Change, change_of}
use Rattle.gx_law_order.specs.Orders.{IsOrder}
use Rattle.gx_law_writes.proofs.Plans.{in-each, same-pieces}

-- the slice of a statement
abbrev pub IsSliceOf : Stmt → Slice → Type 0
IsSliceOf (stmt.Select query) s = s ≡ slice.Select query
IsSliceOf (stmt.Insert table tuples) (slice.Insert t rows) = Unit {0}
IsSliceOf (stmt.Update table assigns cond) s = s ≡ slice.Update table assigns cond
IsSliceOf (stmt.Delete table cond) s = s ≡ slice.Delete table cond
IsSliceOf (stmt.Lock table mode) s = s ≡ slice.Lock table mode
IsSliceOf _ s = ⊥

row-part : (line : Stmt) (table : Table) (tuples : List (List Expr)) (node : Node) (rows : List KeyedRow) → Each (λ (p : Piece). IsSliceOf (stmt.Insert table tuples) p.slice) (row_pieces table node rows)
row-part line table tuples node [] = tt
row-part line table tuples node (r ∷ rs) = (tt, tt)

row-parts : (n : ℕ) (dist : Dist) (table : Table) (tuples : List (List Expr)) (all : List KeyedRow) (nodes : List Node) → Each (λ (p : Piece). IsSliceOf (stmt.Insert table tuples) p.slice) (flat_map (λ (node : Node). row_pieces table node (rows_at n dist all node.0)) nodes)
row-parts n dist table tuples all [] = tt
row-parts n dist table tuples all (node ∷ nodes) = each_append (λ (p : Piece). IsSliceOf (stmt.Insert table tuples) p.slice) _ _ (row-part (stmt.Insert table tuples) table tuples node (rows_at n dist all node.0)) (row-parts n dist table tuples all nodes)

ok-same : {xs ys : List Piece} → (let o : Result (List Piece) ArithFault = Ok xs in o) ≡ Ok ys → xs ≡ ys
ok-same q = cc

one-slice : (s : Slice) (nodes : List Node) (ps : List Piece) (p : Piece) → (let o : Result (List Piece) ArithFault = Ok (map (piece s) nodes) in o) ≡ Ok ps → Contains ps p → p.slice ≡ s
one-slice s nodes ps p e k = in-each (λ (x : Piece). x.slice ≡ s) ps p (subst (Each (λ (x : Piece). x.slice ≡ s)) (ok-same e) (same-pieces s nodes)) k

none-slice : (ps : List Piece) (p : Piece) → (let o : Result (List Piece) ArithFault = Ok [] in o) ≡ Ok ps → Contains ps p → ⊥
none-slice ps p e k = in-each (λ (x : Piece). ⊥) ps p (subst (Each (λ (x : Piece). ⊥)) (ok-same e) tt) k

insert-slice : (n : ℕ) (dist : Dist) (t : Table) (tuples : List (List Expr)) (ps : List Piece) (p : Piece) (o : Result (List KeyedRow) ArithFault) → and_then o (λ all. Ok (insert_pieces n dist t all)) ≡ Ok ps → Contains ps p → IsSliceOf (stmt.Insert t tuples) p.slice
insert-slice n dist t tuples ps p (Ok all) e k = in-each (λ (x : Piece). IsSliceOf (stmt.Insert t tuples) x.slice) ps p (subst (Each (λ (x : Piece). IsSliceOf (stmt.Insert t tuples) x.slice)) (ok-same e) (row-parts n dist t tuples all (nodes_from 1 n))) k
insert-slice n dist t tuples ps p (Err f) e k = absurd (cc)

-- each piece of a statement's plan has a slice of it
pub slice-is : (n : ℕ) (dist : Dist) (g : Gxid) (c : Cid) (line : Stmt) (ps : List Piece) (p : Piece) → plan_of n dist g c line ≡ Ok ps → Contains ps p → IsSliceOf line p.slice
slice-is n dist g c (stmt.Select q) ps p e k = one-slice (slice.Select q) _ ps p e k
slice-is n dist g c (stmt.Insert t tuples) ps p e k = insert-slice n dist t tuples ps p (rows_of g c tuples) e k
slice-is n dist g c (stmt.Update t a d) ps p e k = one-slice (slice.Update t a d) _ ps p e k
slice-is n dist g c (stmt.Delete t d) ps p e k = one-slice (slice.Delete t d) _ ps p e k
slice-is n dist g c (stmt.Lock t m) ps p e k = one-slice (slice.Lock t m) _ ps p e k
slice-is n dist g c (stmt.Begin l) ps p e k = none-slice ps p e k
slice-is n dist g c stmt.Commit ps p e k = none-slice ps p e k
slice-is n dist g c stmt.Rollback ps p e k = none-slice ps p e k

-- so a SELECT's slice is of that SELECT
pub select-line : (line : Stmt) (query : Query) → IsSliceOf line (slice.Select query) → line ≡ stmt.Select query
select-line (stmt.Select q) query e = ap stmt.Select (same q query e)
  where
    same : (q query : Query) → slice.Select query ≡ slice.Select q → q ≡ query
    same q query e = cc
select-line (stmt.Insert t tuples) query e = absurd e
select-line (stmt.Update t a d) query e = absurd (no e)
  where
    no : slice.Select query ≡ slice.Update t a d → ⊥
    no e = cc
select-line (stmt.Delete t d) query e = absurd (no e)
  where
    no : slice.Select query ≡ slice.Delete t d → ⊥
    no e = cc
select-line (stmt.Lock t m) query e = absurd (no e)
  where
    no : slice.Select query ≡ slice.Lock t m → ⊥
    no e = cc
select-line (stmt.Begin l) query e = absurd e
select-line stmt.Commit query e = absurd e
select-line stmt.Rollback query e = absurd e

-- an UPDATE's and a DELETE's
pub update-line : (line : Stmt) (table : Table) (assigns : List Assign) (cond : Option Cond) → IsSliceOf line (slice.Update table assigns cond) → line ≡ stmt.Update table assigns cond
update-line (stmt.Update t a d) table assigns cond e = same t table a assigns d cond e
  where
    same : (t table : Table) (a assigns : List Assign) (d cond : Option Cond) → slice.Update table assigns cond ≡ slice.Update t a d → stmt.Update t a d ≡ stmt.Update table assigns cond
    same t table a assigns d cond e = cc
update-line (stmt.Insert t tuples) table assigns cond e = absurd e
update-line (stmt.Select q) table assigns cond e = absurd (no e)
  where
    no : slice.Update table assigns cond ≡ slice.Select q → ⊥
    no e = cc
update-line (stmt.Delete t d) table assigns cond e = absurd (no e)
  where
    no : slice.Update table assigns cond ≡ slice.Delete t d → ⊥
    no e = cc
update-line (stmt.Lock t m) table assigns cond e = absurd (no e)
  where
    no : slice.Update table assigns cond ≡ slice.Lock t m → ⊥
    no e = cc
update-line (stmt.Begin l) table assigns cond e = absurd e
update-line stmt.Commit table assigns cond e = absurd e
update-line stmt.Rollback table assigns cond e = absurd e

pub delete-line : (line : Stmt) (table : Table) (cond : Option Cond) → IsSliceOf line (slice.Delete table cond) → line ≡ stmt.Delete table cond
delete-line (stmt.Delete t d) table cond e = same t table d cond e
  where
    same : (t table : Table) (d cond : Option Cond) → slice.Delete table cond ≡ slice.Delete t d → stmt.Delete t d ≡ stmt.Delete table cond
    same t table d cond e = cc
delete-line (stmt.Insert t tuples) table cond e = absurd e
delete-line (stmt.Select q) table cond e = absurd (no e)
  where
    no : slice.Delete table cond ≡ slice.Select q → ⊥
    no e = cc
delete-line (stmt.Update t a d) table cond e = absurd (no e)
  where
    no : slice.Delete table cond ≡ slice.Update t a d → ⊥
    no e = cc
delete-line (stmt.Lock t m) table cond e = absurd (no e)
  where
    no : slice.Delete table cond ≡ slice.Lock t m → ⊥
    no e = cc
delete-line (stmt.Begin l) table cond e = absurd e
delete-line stmt.Commit table cond e = absurd e
delete-line stmt.Rollback table cond e = absurd e

-- the slice of an EXEC is of its command's statement
pub order-slice : (script : Script) (marks : List Mark) (node : Node) (g : Gxid) (c : Cid) (level : Level) (snapshot : Option Snapshot) (s : Slice) (o : IsOrder script marks node g c level snapshot s) → IsSliceOf o.line s
order-slice script marks node g c level snapshot s o = slice-is script.segments (dist_of script.tables (table_of o.line)) g c o.line o.pieces (record { node = node; slice = s }) o.plan o.among
