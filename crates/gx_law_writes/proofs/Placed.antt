-- An INSERT's rows are of its tuples, each at its place; all writes of a row stand at one node.
use Rattle.std.proofs.Common.{◌≡◌, ◌≤◌, ℕ, ◌+◌, ◌-◌, List, [], ◌∷◌, Option, Some, Result, Ok, Bool, true, false, refl, sym, subst, ap, ◌∙◌, ◌==◌, arith, suc, cond}
use Rattle.std.proofs.lemmas.Bool.{eqb-true}
use Rattle.std.specs.Prelude.{filter, slice_get}
use Rattle.gx_lemmas.proofs.Options.{some-same}
use Rattle.gx_ids.specs.declared.ids.Cid.{Cid}
use Rattle.gx_ids.specs.declared.ids.Gxid.{Gxid}
use Rattle.gx_ids.specs.declared.ids.Node.{Node}
use Rattle.gx_ids.specs.declared.ids.Table.{Table}
use Rattle.gx_ids.specs.declared.rid.Rid.{Rid}
use Rattle.gx_tree.specs.declared.expr.Expr.{Expr}
use Rattle.gx_tree.specs.declared.row.KeyedRow.{KeyedRow}
use Rattle.gx_tree.specs.declared.schema.Dist.{Dist}
use Rattle.gx_tree.specs.declared.schema.Dist.TheVariants.{By, Randomly}
use Rattle.gx_tree.specs.declared.stmt.Stmt.TheVariants as stmt
use Rattle.gx_tree.specs.declared.value.Value.{Value}
use Rattle.gx_meaning.specs.declared.fault.ArithFault.{ArithFault}
use Rattle.gx_meaning.specs.Place.{row_place}
use Rattle.gx_meaning.specs.Constants.{keyed, values_of}
use Rattle.gx_meaning.specs.Plan.{rows_at}
use Rattle.gx_script.specs.declared.Script.{Script}
use Rattle.gx_store.specs.declared.mark.Mark.{Mark}
use Rattle.gx_store.specs.Writes.{dist_of}
use Rattle.gx_law_order.specs.Lists.{Each}
use Rattle.gx_law_writes.specs.Homes.{IsPlaced, IsRowOf, IsSameKey}
use Rattle.gx_law_writes.specs.Rows.{AreRowsOf}
use Rattle.gx_law_order.specs.Scanned.{stmt_of_command}

-- one row of the tuples from this ordinal on
pub record IsRow (g : Gxid) (c : Cid) (k : ℕ) (tuples : List (List Expr)) (row : KeyedRow) : Type 0 where
  pub own : (row.rid.gxid ≡ g) × (row.rid.cid ≡ c)
  pub counted : k ≤ row.rid.ordinal
  pub tuple : List Expr
  pub among : slice_get tuples (row.rid.ordinal - k) ≡ Some tuple
  pub constants : values_of tuple ≡ Ok row.row

next-row : (g : Gxid) (c : Cid) (k : ℕ) (t : List Expr) (ts : List (List Expr)) (row : KeyedRow) → IsRow g c (k + 1) ts row → IsRow g c k (t ∷ ts) row
next-row g c k t ts row r =
    record { own = r.own; counted = less k row.rid.ordinal r.counted; tuple = r.tuple; among = ap (slice_get (t ∷ ts)) (minus k row.rid.ordinal r.counted) ∙ r.among; constants = r.constants }
  where
    less : (k o : ℕ) → k + 1 ≤ o → k ≤ o
    less k o l = omega arith

    minus : (k o : ℕ) → k + 1 ≤ o → o - k ≡ suc (o - (k + 1))
    minus k o l = omega arith

each-next : (g : Gxid) (c : Cid) (k : ℕ) (t : List Expr) (ts : List (List Expr)) (rows : List KeyedRow) → Each (IsRow g c (k + 1) ts) rows → Each (IsRow g c k (t ∷ ts)) rows
each-next g c k t ts [] e = tt
each-next g c k t ts (r ∷ rs) e = (next-row g c k t ts r e.0, each-next g c k t ts rs e.1)

pub each-row : (g : Gxid) (c : Cid) (k : ℕ) (tuples : List (List Expr)) (rows : List KeyedRow) → AreRowsOf g c k tuples rows → Each (IsRow g c k tuples) rows
each-row g c k [] [] e = tt
each-row g c k [] (r ∷ rs) e = absurd e
each-row g c k (t ∷ ts) [] e = absurd e
each-row g c k (t ∷ ts) (r ∷ rs) e =
    let first : IsRow g c k (t ∷ ts) (keyed g c k e.0) = record { own = (refl, refl); counted = le-same k; tuple = t; among = ap (slice_get (t ∷ ts)) (minus-same k); constants = e.1 } in
    (subst (IsRow g c k (t ∷ ts)) (sym e.2) first, each-next g c k t ts rs (each-row g c (k + 1) ts rs e.3))
  where
    le-same : (k : ℕ) → k ≤ k
    le-same k = omega arith

    minus-same : (k : ℕ) → k - k ≡ 0
    minus-same k = omega arith

-- ordinals rise
abbrev pub Rising : ℕ → List KeyedRow → Type 0
Rising k [] = Unit {0}
Rising k (r ∷ rs) = (k ≤ r.rid.ordinal) × Rising (r.rid.ordinal + 1) rs

rising-weaker : (j k : ℕ) (rows : List KeyedRow) → j ≤ k → Rising k rows → Rising j rows
rising-weaker j k [] l e = tt
rising-weaker j k (r ∷ rs) l e = (le-trans l e.0, e.1)
  where
    le-trans : {a b c : ℕ} → a ≤ b → b ≤ c → a ≤ c
    le-trans x y = omega arith

pub rows-rise : (g : Gxid) (c : Cid) (k : ℕ) (tuples : List (List Expr)) (rows : List KeyedRow) → AreRowsOf g c k tuples rows → Rising k rows
rows-rise g c k [] [] e = tt
rows-rise g c k [] (r ∷ rs) e = absurd e
rows-rise g c k (t ∷ ts) [] e = absurd e
rows-rise g c k (t ∷ ts) (r ∷ rs) e = (same-le (sym ordinal), subst (λ o. Rising (o + 1) rs) (sym ordinal) (rows-rise g c (k + 1) ts rs e.3))
  where
    ordinal : r.rid.ordinal ≡ k
    ordinal = ap (λ (x : KeyedRow). x.rid.ordinal) e.2

    same-le : {a b : ℕ} → a ≡ b → a ≤ b
    same-le q = omega arith

pub filter-rises : (p : KeyedRow → Bool) (k : ℕ) (rows : List KeyedRow) → Rising k rows → Rising k (filter p rows)
filter-rises p k [] e = tt
filter-rises p k (r ∷ rs) e = by_test (p r) (filter-rises p (r.rid.ordinal + 1) rs e.1)
  where
    up : (k o : ℕ) → k ≤ o → k ≤ o + 1
    up k o l = omega arith

    by_test : (b : Bool) → Rising (r.rid.ordinal + 1) (filter p rs) → Rising k (cond b (r ∷ filter p rs) (filter p rs))
    by_test true h = (e.0, h)
    by_test false h = rising-weaker k (r.rid.ordinal + 1) (filter p rs) (up k r.rid.ordinal e.0) h

-- WRITES
-- the rows of a piece
pub record IsPlacedRow (script : Script) (g : Gxid) (c : Cid) (node : Node) (table : Table) (tuples : List (List Expr)) (row : KeyedRow) : Type 0 where
  pub row_is : IsRow g c 1 tuples row
  pub place : node.0 ≡ row_place script.segments (dist_of script.tables table.0) row.row row.rid

-- what passes a filter passes its test
each-passes : (p : KeyedRow → Bool) (P Q : KeyedRow → Type 0) → ((r : KeyedRow) → p r ≡ true → P r → Q r) → (rows : List KeyedRow) → Each P rows → Each Q (filter p rows)
each-passes p P Q f [] e = tt
each-passes p P Q f (r ∷ rs) e = by_test (p r) refl (each-passes p P Q f rs e.1)
  where
    by_test : (b : Bool) → p r ≡ b → Each Q (filter p rs) → Each Q (cond b (r ∷ filter p rs) (filter p rs))
    by_test true q h = (f r q e.0, h)
    by_test false q h = h

pub piece-rows : (script : Script) (g : Gxid) (c : Cid) (node : Node) (table : Table) (tuples : List (List Expr)) (all rows : List KeyedRow) → AreRowsOf g c 1 tuples all → rows ≡ rows_at script.segments (dist_of script.tables table.0) all node.0 → Each (IsPlacedRow script g c node table tuples) rows × Rising 1 rows
piece-rows script g c node table tuples all rows a e = (
  subst (Each (IsPlacedRow script g c node table tuples)) (sym e) (each-passes here (IsRow g c 1 tuples) (IsPlacedRow script g c node table tuples) (λ r q x. record { row_is = x; place = sym (eqb-true _ _ q) }) all (each-row g c 1 tuples all a)),
  subst (Rising 1) (sym e) (filter-rises here 1 all (rows-rise g c 1 tuples all a)),
)
  where
    here : KeyedRow → Bool
    here row = row_place script.segments (dist_of script.tables table.0) row.row row.rid == node.0

pub row-of : (script : Script) (ms : List Mark) (g : Gxid) (c : Cid) (node : Node) (table : Table) (tuples : List (List Expr)) (row : KeyedRow) → stmt_of_command script ms g c ≡ Some (stmt.Insert table tuples) → IsPlacedRow script g c node table tuples row → IsRowOf script ms table row.rid row.row
row-of script ms g c node table tuples row of r =
    record {
      tuples = tuples;
      of = ap (λ z. stmt_of_command script ms z row.rid.cid) r.row_is.own.0 ∙ ap (stmt_of_command script ms g) r.row_is.own.1 ∙ of;
      counted = r.row_is.counted;
      tuple = r.row_is.tuple;
      among = r.row_is.among;
      constants = r.row_is.constants;
    }

same-key : (dist : Dist) (row : List Value) → IsSameKey dist row row
same-key (By column) row = refl
same-key Randomly row = tt

pub row-placed : (script : Script) (ms : List Mark) (g : Gxid) (c : Cid) (node : Node) (table : Table) (tuples : List (List Expr)) (row : KeyedRow) → stmt_of_command script ms g c ≡ Some (stmt.Insert table tuples) → IsPlacedRow script g c node table tuples row → IsPlaced script ms node table row.rid (Some row.row)
row-placed script ms g c node table tuples row of r =
    record { values = row.row; row_of = row-of script ms g c node table tuples row of r; place = r.place; key = λ keeps. same-key (dist_of script.tables table.0) row.row }

-- ONE ROW, ONE PLACE
node-is : (a b : Node) → a.0 ≡ b.0 → a ≡ b
node-is a b e = ap (λ n. let r : Node = record { 0 = n } in r) e

ok-same : (a b : List Value) → (let o : Result (List Value) ArithFault = Ok a in o) ≡ Ok b → a ≡ b
ok-same a b e = (cc)

insert-same : (t u : Table) (a b : List (List Expr)) → Some (stmt.Insert t a) ≡ Some (stmt.Insert u b) → (t ≡ u) × (a ≡ b)
insert-same t u a b e = (cc, cc)

-- a row was inserted into one table, with the values of one tuple
module _ (script : Script) (ms : List Mark) (rid : Rid) (t u : Table) (v w : List Value) (p : IsRowOf script ms t rid v) (q : IsRowOf script ms u rid w) where
  line : (t ≡ u) × (p.tuples ≡ q.tuples)
  line = insert-same t u p.tuples q.tuples (sym p.of ∙ q.of)

  tuple : p.tuple ≡ q.tuple
  tuple = some-same p.tuple q.tuple (sym p.among ∙ ap (λ z. slice_get z (rid.ordinal - 1)) line.1 ∙ q.among)

  pub one-row : (t ≡ u) × (v ≡ w)
  one-row = (line.0, ok-same v w (sym p.constants ∙ ap values_of tuple ∙ q.constants))

-- two writes of one row stand at one node
pub same-place : (script : Script) (ms : List Mark) (n m : Node) (t u : Table) (rid : Rid) (x y : Option (List Value)) → IsPlaced script ms n t rid x → IsPlaced script ms m u rid y → m ≡ n
same-place script ms n m t u rid x y p q =
    node-is m n (q.place ∙ ap (λ (z : Table). row_place script.segments (dist_of script.tables z.0) q.values rid) (sym one.0) ∙ ap (λ z. row_place script.segments (dist_of script.tables t.0) z rid) (sym one.1) ∙ sym p.place)
  where
    one : (t ≡ u) × (p.values ≡ q.values)
    one = one-row script ms rid t u p.values q.values p.row_of q.row_of
