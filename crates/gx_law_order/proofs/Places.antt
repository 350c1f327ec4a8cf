-- Commands go to segments.
use Rattle.std.proofs.Common.{◌≤◌, ◌<◌, ℕ, zero, suc, ◌+◌, ◌%◌, List, [], ◌∷◌, Option, Some, None, Result, Ok, Err, arith, pos, negsuc}
use Rattle.std.proofs.Math.Nat.{mod-lt}
use Rattle.gx_ids.specs.declared.ids.Cid.{Cid}
use Rattle.gx_ids.specs.declared.ids.Gxid.{Gxid}
use Rattle.gx_ids.specs.declared.ids.Node.{Node}
use Rattle.gx_ids.specs.declared.ids.Table.{Table}
use Rattle.gx_tree.specs.declared.cond.Cond.{Cond}
use Rattle.gx_tree.specs.declared.row.KeyedRow.{KeyedRow}
use Rattle.gx_tree.specs.declared.schema.Dist.{Dist}
use Rattle.gx_tree.specs.declared.schema.Dist.TheVariants.{By, Randomly}
use Rattle.gx_tree.specs.declared.slice.Slice.{Slice}
use Rattle.gx_tree.specs.declared.slice.Slice.TheVariants as slice
use Rattle.gx_tree.specs.declared.stmt.Stmt.{Stmt}
use Rattle.gx_tree.specs.declared.stmt.Stmt.TheVariants.{Begin, Commit, Rollback, Select, Insert, Update, Delete, Lock}
use Rattle.gx_tree.specs.declared.value.Value.{Value}
use Rattle.gx_tree.specs.declared.value.Value.TheVariants.{Int, Text}
use Rattle.gx_meaning.specs.Expressions.{and_then}
use Rattle.gx_meaning.specs.declared.fault.ArithFault.{ArithFault}
use Rattle.gx_meaning.specs.Place.{hash_of, value_place}
use Rattle.gx_meaning.specs.Target.{key_of, key_target, target_of}
use Rattle.gx_meaning.specs.declared.target.Target.{Target}
use Rattle.gx_meaning.specs.declared.target.Target.TheVariants.{All}
use Rattle.gx_meaning.specs.Constants.{rows_of}
use Rattle.gx_meaning.specs.Plan.{insert_pieces, nodes_from, nodes_of, piece, pieces, plan_of, row_pieces, rows_at}
use Rattle.gx_meaning.specs.declared.piece.Piece.{Piece}
use Rattle.std.specs.List.{range_with_len}
use Rattle.std.specs.Prelude.{map}
use Rattle.gx_detect.specs.Rounds.{collects}
use Rattle.gx_msg.specs.declared.message.Message.TheVariants.{Collect}
use Rattle.gx_msg.specs.declared.message.Out.{Out}
use Rattle.gx_law_order.proofs.Lists.{each_flat, each_map, each_weaker}
use Rattle.gx_law_order.specs.Lists.{Each}
use Rattle.gx_law_order.specs.Places.{IsOneOf}

abbrev pub IsAtOneOf : ℕ → Piece → Type 0
IsAtOneOf n p = IsOneOf n p.node

-- what a plan's pieces are at, if it has any
abbrev pub PlanIn : ℕ → Result (List Piece) ArithFault → Type 0
PlanIn n (Ok ps) = Each (IsAtOneOf n) ps
PlanIn n (Err f) = Unit {0}

module _ (n : ℕ) (some : 1 ≤ n) where
  value_in : (v : Value) → IsOneOf n (record { 0 = value_place n v })
  value_in (Int (pos k)) = let e : k % n < n = mod-lt k some in (omega arith, omega arith)
  value_in (Int (negsuc k)) = let e : k % n < n = mod-lt k some in (omega arith, omega arith)
  value_in (Text t) = let e : hash_of t % n < n = mod-lt (hash_of t) some in (omega arith, omega arith)

  nodes_in : (a k : ℕ) → 1 ≤ a → a + k ≤ n + 1 → Each (IsOneOf n) (nodes_from a k)
  nodes_in a zero l h = tt
  nodes_in a (suc k) l h = ((l, omega arith), nodes_in (a + 1) k (omega arith) (omega arith))

  all_in : Each (IsOneOf n) (nodes_from 1 n)
  all_in = nodes_in 1 n (omega arith) (omega arith)

  key_in : (v : Option Value) → Each (IsOneOf n) (nodes_of n (key_target n v))
  key_in None = all_in
  key_in (Some v) = (value_in v, tt)

  target_in : (dist : Dist) (c : Option Cond) → Each (IsOneOf n) (nodes_of n (target_of n dist c))
  target_in (By column) (Some c) = key_in (key_of column c)
  target_in (By column) None = all_in
  target_in Randomly c = all_in

  pieces_in : (t : Target) (s : Slice) → Each (IsOneOf n) (nodes_of n t) → Each (IsAtOneOf n) (pieces n t s)
  pieces_in t s e = each_map (IsAtOneOf n) (piece s) (nodes_of n t) e

  row_pieces_in : (table : Table) (node : Node) (rows : List KeyedRow) → IsOneOf n node → Each (IsAtOneOf n) (row_pieces table node rows)
  row_pieces_in table node [] e = tt
  row_pieces_in table node (r ∷ rs) e = (e, tt)

  insert_in : (dist : Dist) (table : Table) (rows : List KeyedRow) → Each (IsAtOneOf n) (insert_pieces n dist table rows)
  insert_in dist table rows =
      each_flat (IsAtOneOf n) (λ node. row_pieces table node (rows_at n dist rows node.0)) (nodes_from 1 n)
      (each_weaker (IsOneOf n) (λ node. Each (IsAtOneOf n) (row_pieces table node (rows_at n dist rows node.0))) (λ node e. row_pieces_in table node (rows_at n dist rows node.0) e) (nodes_from 1 n) all_in)

  rows_in : (dist : Dist) (table : Table) (r : Result (List KeyedRow) ArithFault) → PlanIn n (and_then r (λ rows. Ok (insert_pieces n dist table rows)))
  rows_in dist table (Ok rows) = insert_in dist table rows
  rows_in dist table (Err f) = tt

  pub plan_in : (dist : Dist) (g : Gxid) (c : Cid) (line : Stmt) → PlanIn n (plan_of n dist g c line)
  plan_in dist g c (Select q) = pieces_in (target_of n dist q.cond) (slice.Select q) (target_in dist q.cond)
  plan_in dist g c (Insert table tuples) = rows_in dist table (rows_of g c tuples)
  plan_in dist g c (Update table assigns w) = pieces_in (target_of n dist w) (slice.Update table assigns w) (target_in dist w)
  plan_in dist g c (Delete table w) = pieces_in (target_of n dist w) (slice.Delete table w) (target_in dist w)
  plan_in dist g c (Lock table mode) = pieces_in All (slice.Lock table mode) all_in
  plan_in dist g c (Begin level) = tt
  plan_in dist g c Commit = tt
  plan_in dist g c Rollback = tt

-- A round asks each segment.
asks-from : (P : Out → Type 0) (n round : ℕ) → ((i : ℕ) → 1 ≤ i → i ≤ n → P (record { node = record { 0 = i }; message = Collect round })) → (k m : ℕ) → 1 ≤ k → k + m ≤ n + 1
    → Each P (map (λ i. record { node = record { 0 = i }; message = Collect round }) (range_with_len k m))
asks-from P n round p k zero one h = tt
asks-from P n round p k (suc m) one h = (p k one (omega arith), asks-from P n round p (k + 1) m (omega arith) (omega arith))

pub collects-each : (P : Out → Type 0) (n round : ℕ) → ((i : ℕ) → 1 ≤ i → i ≤ n → P (record { node = record { 0 = i }; message = Collect round })) → Each P (collects n round)
collects-each P n round p = asks-from P n round p 1 n (omega arith) (omega arith)
