-- What the plan of an INSERT sends.
use Rattle.std.proofs.Common.{◌≡◌, ℕ, ◌+◌, List, [], ◌∷◌, Option, Some, Result, Ok, Err, refl, sym, subst, ap, ◌∙◌}
use Rattle.std.proofs.lemmas.List.Elements.{All-cons, All-contains, All-nil}
use Rattle.std.specs.Prelude.{All, Contains, map}
use Rattle.std.specs.List.{flat_map}
use Rattle.gx_ids.specs.declared.ids.Cid.{Cid}
use Rattle.gx_ids.specs.declared.ids.Gxid.{Gxid}
use Rattle.gx_ids.specs.declared.ids.Node.{Node}
use Rattle.gx_ids.specs.declared.ids.Table.{Table}
use Rattle.gx_tree.specs.declared.expr.Expr.{Expr}
use Rattle.gx_tree.specs.declared.row.KeyedRow.{KeyedRow}
use Rattle.gx_tree.specs.declared.schema.Dist.{Dist}
use Rattle.gx_tree.specs.declared.slice.Slice.{Slice}
use Rattle.gx_tree.specs.declared.slice.Slice.TheVariants as slice
use Rattle.gx_tree.specs.declared.stmt.Level.{Level}
use Rattle.gx_tree.specs.declared.stmt.Stmt.{Stmt}
use Rattle.gx_tree.specs.declared.stmt.Stmt.TheVariants as stmt
use Rattle.gx_tree.specs.declared.value.Value.{Value}
use Rattle.gx_dsnap.specs.declared.snapshot.Snapshot.{Snapshot}
use Rattle.gx_meaning.specs.Expressions.{and_then}
use Rattle.gx_meaning.specs.declared.fault.ArithFault.{ArithFault}
use Rattle.gx_msg.specs.declared.message.Message.{Message}
use Rattle.gx_msg.specs.declared.message.Message.TheVariants as message
use Rattle.gx_meaning.specs.Constants.{each_from, keyed, rows_of, tuple_row, values_of}
use Rattle.gx_meaning.specs.Plan.{insert_pieces, nodes_from, piece, plan_of, row_pieces, rows_at}
use Rattle.gx_meaning.specs.declared.piece.Piece.{Piece}
use Rattle.gx_script.specs.declared.Script.{Script}
use Rattle.gx_store.specs.declared.mark.Mark.{Mark}
use Rattle.gx_store.specs.Writes.{dist_of}
use Rattle.gx_rules.specs.AtCoordinator.{table_of}
use Rattle.gx_rules.specs.Machine.{Letter}
use Rattle.gx_law_order.proofs.Lists.{each_append}
use Rattle.gx_law_order.specs.Lists.{Each}
use Rattle.gx_law_order.specs.Orders.{AreOrders, IsOrder, IsOrderOf}
use Rattle.gx_law_writes.specs.Rows.{ArePieces, AreRowsOf, IsPiece, IsRowPiece, IsSlicePiece}

-- ROWS OF TUPLES
pub rows-are : (g : Gxid) (c : Cid) (k : ℕ) (tuples : List (List Expr)) (rows : List KeyedRow) → each_from (tuple_row g c) k tuples ≡ Ok rows → AreRowsOf g c k tuples rows
rows-are g c k [] [] e = tt
rows-are g c k [] (r ∷ rows) e = absurd (cc)
rows-are g c k (t ∷ ts) rows e = by_values (λ ys q. rows-are g c (k + 1) ts ys q) (values_of t) refl rows e
  where
    by_rest : (vs : List Value) → values_of t ≡ Ok vs → (rest : Result (List KeyedRow) ArithFault) → ((ys : List KeyedRow) → rest ≡ Ok ys → AreRowsOf g c (k + 1) ts ys) → (rows : List KeyedRow) → and_then rest (λ ys. let o : Result (List KeyedRow) ArithFault = Ok (keyed g c k vs ∷ ys) in o) ≡ Ok rows → AreRowsOf g c k (t ∷ ts) rows
    by_rest vs v (Ok ys) later [] e = absurd (cc)
    by_rest vs v (Ok ys) later (r ∷ rows) e = (vs, v, (cc), later rows (cc))
    by_rest vs v (Err f) later rows e = absurd (cc)

    by_values : ((ys : List KeyedRow) → each_from (tuple_row g c) (k + 1) ts ≡ Ok ys → AreRowsOf g c (k + 1) ts ys) → (o : Result (List Value) ArithFault) → values_of t ≡ o → (rows : List KeyedRow) → and_then (and_then o (λ row. Ok (keyed g c k row))) (λ y. and_then (each_from (tuple_row g c) (k + 1) ts) (λ ys. Ok (y ∷ ys))) ≡ Ok rows → AreRowsOf g c k (t ∷ ts) rows
    by_values later (Ok vs) v rows e = by_rest vs v (each_from (tuple_row g c) (k + 1) ts) later rows e
    by_values later (Err f) v rows e = absurd (cc)

-- PIECES
each-all : {A : Type 0} (P : A → Type 0) (xs : List A) → Each P xs → All P xs
each-all P [] e = All-nil P
each-all P (x ∷ xs) e = All-cons P x xs e.0 (each-all P xs e.1)

-- a piece of an INSERT
abbrev pub IsPart : ℕ → Dist → Table → List KeyedRow → Piece → Type 0
IsPart n dist table all p = p.slice ≡ slice.Insert table (rows_at n dist all p.node.0)

row-part : (n : ℕ) (dist : Dist) (table : Table) (all : List KeyedRow) (node : Node) (rows : List KeyedRow) → rows_at n dist all node.0 ≡ rows → Each (IsPart n dist table all) (row_pieces table node rows)
row-part n dist table all node [] e = tt
row-part n dist table all node (r ∷ rs) e = (ap (slice.Insert table) (sym e), tt)

parts-are : (n : ℕ) (dist : Dist) (table : Table) (all : List KeyedRow) (nodes : List Node) → Each (IsPart n dist table all) (flat_map (λ (node : Node). row_pieces table node (rows_at n dist all node.0)) nodes)
parts-are n dist table all [] = tt
parts-are n dist table all (node ∷ nodes) = each_append (IsPart n dist table all) _ _ (row-part n dist table all node (rows_at n dist all node.0) refl) (parts-are n dist table all nodes)

-- pieces that all have one slice
pub same-pieces : (s : Slice) (nodes : List Node) → Each (λ (p : Piece). p.slice ≡ s) (map (piece s) nodes)
same-pieces s [] = tt
same-pieces s (node ∷ nodes) = (refl, same-pieces s nodes)

pub in-each : (P : Piece → Type 0) (ps : List Piece) (p : Piece) → Each P ps → Contains ps p → P p
in-each P ps p e k = All-contains P ps p (each-all P ps e) k

-- a piece with rows is one of an INSERT
pub record IsPlan (n : ℕ) (dist : ℕ → Dist) (g : Gxid) (c : Cid) (line : Stmt) (node : Node) (table : Table) (rows : List KeyedRow) : Type 0 where
  pub tuples : List (List Expr)
  pub of : line ≡ stmt.Insert table tuples
  pub all : List KeyedRow
  pub planned : rows_of g c tuples ≡ Ok all
  pub here : rows ≡ rows_at n (dist table.0) all node.0

pub none-at-all : (node : Node) (ps : List Piece) (s : Slice) → (let o : Result (List Piece) ArithFault = Ok [] in o) ≡ Ok ps → Contains ps (record { node = node; slice = s }) → ⊥
none-at-all node ps s e k = in-each (λ (p : Piece). ⊥) ps (record { node = node; slice = s }) (subst (Each (λ (p : Piece). ⊥)) (ok-same e) tt) k
  where
    ok-same : {xs ys : List Piece} → (let o : Result (List Piece) ArithFault = Ok xs in o) ≡ Ok ys → xs ≡ ys
    ok-same q = cc

module _ (n : ℕ) (dist : ℕ → Dist) (g : Gxid) (c : Cid) (node : Node) (table : Table) (rows : List KeyedRow) where
  abbrev its : Piece
  its = record { node = node; slice = slice.Insert table rows }

  none-same : (s : Slice) (nodes : List Node) (ps : List Piece) → (s ≡ slice.Insert table rows → ⊥) → (let o : Result (List Piece) ArithFault = Ok (map (piece s) nodes) in o) ≡ Ok ps → Contains ps its → ⊥
  none-same s nodes ps other e k = other (sym (in-each (λ (p : Piece). p.slice ≡ s) ps its (subst (Each (λ (p : Piece). p.slice ≡ s)) (ok-same e) (same-pieces s nodes)) k))
    where
      ok-same : {xs ys : List Piece} → (let o : Result (List Piece) ArithFault = Ok xs in o) ≡ Ok ys → xs ≡ ys
      ok-same q = cc

  insert-piece : (t : Table) (tuples : List (List Expr)) (ps : List Piece) → plan_of n (dist t.0) g c (stmt.Insert t tuples) ≡ Ok ps → Contains ps its → IsPlan n dist g c (stmt.Insert t tuples) node table rows
  insert-piece t tuples ps e k = by_rows (rows_of g c tuples) refl e
    where
      ok-same : {xs ys : List Piece} → (let o : Result (List Piece) ArithFault = Ok xs in o) ≡ Ok ys → xs ≡ ys
      ok-same q = cc

      by_rows : (o : Result (List KeyedRow) ArithFault) → rows_of g c tuples ≡ o → and_then o (λ all. Ok (insert_pieces n (dist t.0) t all)) ≡ Ok ps → IsPlan n dist g c (stmt.Insert t tuples) node table rows
      by_rows (Ok all) r q = found (in-each (IsPart n (dist t.0) t all) ps its (subst (Each (IsPart n (dist t.0) t all)) (ok-same q) (parts-are n (dist t.0) t all (nodes_from 1 n))) k)
        where
          found : slice.Insert table rows ≡ slice.Insert t (rows_at n (dist t.0) all node.0) → IsPlan n dist g c (stmt.Insert t tuples) node table rows
          found z =
              let same : table ≡ t = cc in
              record { tuples = tuples; of = ap (λ x. stmt.Insert x tuples) (sym same); all = all; planned = r; here = subst (λ (x : Table). rows ≡ rows_at n (dist x.0) all node.0) (sym same) (cc) }
      by_rows (Err f) r q = absurd (cc)

  pub piece-is : (line : Stmt) (ps : List Piece) → plan_of n (dist (table_of line)) g c line ≡ Ok ps → Contains ps its → IsPlan n dist g c line node table rows
  piece-is (stmt.Insert t tuples) ps e k = insert-piece t tuples ps e k
  piece-is (stmt.Select q) ps e k = absurd (none-same _ _ ps (λ z. no-select z) e k)
    where
      no-select : {q : Rattle.gx_tree.specs.declared.query.Query.Query} → slice.Select q ≡ slice.Insert table rows → ⊥
      no-select z = cc
  piece-is (stmt.Update t a d) ps e k = absurd (none-same _ _ ps (λ z. no-update z) e k)
    where
      no-update : slice.Update t a d ≡ slice.Insert table rows → ⊥
      no-update z = cc
  piece-is (stmt.Delete t d) ps e k = absurd (none-same _ _ ps (λ z. no-delete z) e k)
    where
      no-delete : slice.Delete t d ≡ slice.Insert table rows → ⊥
      no-delete z = cc
  piece-is (stmt.Lock t m) ps e k = absurd (none-same _ _ ps (λ z. no-lock z) e k)
    where
      no-lock : slice.Lock t m ≡ slice.Insert table rows → ⊥
      no-lock z = cc
  piece-is (stmt.Begin l) ps e k = absurd (none-at-all node ps (slice.Insert table rows) e k)
  piece-is stmt.Commit ps e k = absurd (none-at-all node ps (slice.Insert table rows) e k)
  piece-is stmt.Rollback ps e k = absurd (none-at-all node ps (slice.Insert table rows) e k)

-- an INSERT's piece has the rows of its segment
pub insert-slice : (n : ℕ) (dist : ℕ → Dist) (g : Gxid) (c : Cid) (node : Node) (t : Table) (tuples : List (List Expr)) (all : List KeyedRow) (ps : List Piece) (s : Slice) → rows_of g c tuples ≡ Ok all → plan_of n (dist t.0) g c (stmt.Insert t tuples) ≡ Ok ps → Contains ps (record { node = node; slice = s }) → s ≡ slice.Insert t (rows_at n (dist t.0) all node.0)
insert-slice n dist g c node t tuples all ps s r e k =
    in-each (IsPart n (dist t.0) t all) ps (record { node = node; slice = s }) (subst (Each (IsPart n (dist t.0) t all)) (ok-same (sym (ap (λ o. and_then o (λ xs. Ok (insert_pieces n (dist t.0) t xs))) r) ∙ e)) (parts-are n (dist t.0) t all (nodes_from 1 n))) k
  where
    ok-same : {xs ys : List Piece} → (let o : Result (List Piece) ArithFault = Ok xs in o) ≡ Ok ys → xs ≡ ys
    ok-same q = cc

-- THE ORDERS OF A RUN
module _ (script : Script) (marks : List Mark) where
  pub row-piece : (node : Node) (g : Gxid) (c : Cid) (level : Level) (snapshot : Option Snapshot) (table : Table) (rows : List KeyedRow) → IsOrder script marks node g c level snapshot (slice.Insert table rows) → IsRowPiece script marks node g c table rows
  row-piece node g c level snapshot table rows o =
      let p : IsPlan script.segments (dist_of script.tables) g c o.line node table rows = piece-is script.segments (dist_of script.tables) g c node table rows o.line o.pieces o.plan o.among in
      record { tuples = p.tuples; of = o.of ∙ ap Some p.of; all = p.all; planned = p.planned; here = p.here }

  slice-piece : (node : Node) (g : Gxid) (c : Cid) (level : Level) (snapshot : Option Snapshot) (s : Slice) → IsOrder script marks node g c level snapshot s → IsSlicePiece script marks node g c s
  slice-piece node g c level snapshot (slice.Insert table rows) o = row-piece node g c level snapshot table rows o
  slice-piece node g c level snapshot (slice.Select q) o = tt
  slice-piece node g c level snapshot (slice.Update t a d) o = tt
  slice-piece node g c level snapshot (slice.Delete t d) o = tt
  slice-piece node g c level snapshot (slice.Lock t m) o = tt

  message-piece : (node : Node) (m : Message) → IsOrderOf script marks node m → IsPiece script marks node m
  message-piece node (message.Exec g c level snapshot horizon s) o = slice-piece node g c level snapshot s o
  message-piece node (message.Prepare g) o = tt
  message-piece node (message.Commit g) o = tt
  message-piece node (message.CommitPrepared g) o = tt
  message-piece node (message.Abort g) o = tt
  message-piece node (message.Forget g) o = tt
  message-piece node (message.Collect round) o = tt
  message-piece node (message.Answer g r) o = tt
  message-piece node (message.Graph round graph) o = tt
  message-piece node message.Up o = tt

  pub pieces-are : (ls : List Letter) → AreOrders script marks ls → ArePieces script marks ls
  pieces-are [] o = tt
  pieces-are (l ∷ ls) o = (λ same. message-piece l.to l.envelope.message (o.0 same), pieces-are ls o.1)
