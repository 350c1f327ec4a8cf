-- A command goes to some segment.
use Rattle.std.proofs.Common.{◌≡◌, ◌≤◌, ℕ, zero, suc, List, [], ◌∷◌, Option, Some, None, Result, Ok, Err, true, refl}
use Rattle.std.specs.Prelude.{map}
use Rattle.gx_lemmas.proofs.Numbers.{one-le-none}
use Rattle.gx_ids.specs.declared.ids.Cid.{Cid}
use Rattle.gx_ids.specs.declared.ids.Gxid.{Gxid}
use Rattle.gx_ids.specs.declared.ids.Node.{Node}
use Rattle.gx_ids.specs.declared.ids.Table.{Table}
use Rattle.gx_tree.specs.declared.cond.Cond.{Cond}
use Rattle.gx_tree.specs.declared.expr.Expr.{Expr}
use Rattle.gx_tree.specs.declared.row.KeyedRow.{KeyedRow}
use Rattle.gx_tree.specs.declared.schema.Dist.{Dist}
use Rattle.gx_tree.specs.declared.schema.Dist.TheVariants.{By, Randomly}
use Rattle.gx_tree.specs.declared.stmt.Stmt.{Stmt}
use Rattle.gx_tree.specs.declared.stmt.Stmt.TheVariants.{Begin, Commit, Rollback, Select, Insert, Update, Delete, Lock}
use Rattle.gx_tree.specs.declared.value.Value.{Value}
use Rattle.gx_dtx.specs.Nodes.{has}
use Rattle.gx_meaning.specs.Expressions.{and_then}
use Rattle.gx_meaning.specs.declared.fault.ArithFault.{ArithFault}
use Rattle.gx_meaning.specs.Target.{key_of, key_target, target_of}
use Rattle.gx_meaning.specs.Constants.{each_from, tuple_row}
use Rattle.gx_meaning.specs.Plan.{insert_pieces, nodes_from, nodes_of, plan_of}
use Rattle.gx_meaning.specs.declared.piece.Piece.{Piece}
use Rattle.gx_rules.specs.AtCoordinator.{nodes_in}
use Rattle.gx_law_writes.proofs.Counts.{all-there}

-- there is one
abbrev pub IsFull : {A : Type 0} → List A → Type 0
IsFull [] = ⊥
IsFull (x ∷ xs) = Unit {0}

-- the pieces of a plan, if it has any
abbrev pub IsPlanFull : Result (List Piece) ArithFault → Type 0
IsPlanFull (Ok pieces) = IsFull pieces
IsPlanFull (Err fault) = Unit {0}

-- a command, and an INSERT has a tuple
abbrev pub IsFilled : Stmt → Type 0
IsFilled (Insert table tuples) = IsFull tuples
IsFilled (Select query) = Unit {0}
IsFilled (Update table assigns cond) = Unit {0}
IsFilled (Delete table cond) = Unit {0}
IsFilled (Lock table mode) = Unit {0}
IsFilled _ = ⊥

map-full : {A B : Type 0} (f : A → B) (xs : List A) → IsFull xs → IsFull (map f xs)
map-full f [] e = e
map-full f (x ∷ xs) e = tt

has-full : (i : Node) (pieces : List Piece) → has i (nodes_in pieces) ≡ true → IsFull pieces
has-full i [] e = absurd (cc)
has-full i (p ∷ ps) e = tt

module _ (n : ℕ) (some : 1 ≤ n) where
  all-full : IsFull (nodes_from 1 n)
  all-full = by_count n some
    where
      by_count : (k : ℕ) → 1 ≤ k → IsFull (nodes_from 1 k)
      by_count zero l = absurd (one-le-none l)
      by_count (suc k) l = tt

  key-full : (v : Option Value) → IsFull (nodes_of n (key_target n v))
  key-full None = all-full
  key-full (Some v) = tt

  target-full : (dist : Dist) (c : Option Cond) → IsFull (nodes_of n (target_of n dist c))
  target-full (By column) (Some c) = key-full (key_of column c)
  target-full (By column) None = all-full
  target-full Randomly c = all-full

  rows-full : (dist : Dist) (table : Table) (first : Result KeyedRow ArithFault) (others : Result (List KeyedRow) ArithFault) → IsPlanFull (and_then (and_then first (λ y. and_then others (λ ys. Ok (y ∷ ys)))) (λ rows. Ok (insert_pieces n dist table rows)))
  rows-full dist table (Err f) others = tt
  rows-full dist table (Ok y) (Err f) = tt
  rows-full dist table (Ok y) (Ok ys) = has-full _ (insert_pieces n dist table (y ∷ ys)) (all-there n dist table [] (y ∷ ys) (y ∷ ys) some refl).0

  insert-full : (dist : Dist) (g : Gxid) (c : Cid) (table : Table) (tuples : List (List Expr)) → IsFull tuples → IsPlanFull (plan_of n dist g c (Insert table tuples))
  insert-full dist g c table [] e = absurd e
  insert-full dist g c table (t ∷ ts) e = rows-full dist table (tuple_row g c 1 t) (each_from (tuple_row g c) 2 ts)

  pub plan-full : (dist : Dist) (g : Gxid) (c : Cid) (line : Stmt) → IsFilled line → IsPlanFull (plan_of n dist g c line)
  plan-full dist g c (Select q) e = map-full _ _ (target-full dist q.cond)
  plan-full dist g c (Insert table tuples) e = insert-full dist g c table tuples e
  plan-full dist g c (Update table assigns w) e = map-full _ _ (target-full dist w)
  plan-full dist g c (Delete table w) e = map-full _ _ (target-full dist w)
  plan-full dist g c (Lock table mode) e = map-full _ _ all-full
  plan-full dist g c (Begin level) e = absurd e
  plan-full dist g c Commit e = absurd e
  plan-full dist g c Rollback e = absurd e
