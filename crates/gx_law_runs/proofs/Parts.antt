-- A segment's part of a query has the query's form, and a plan's slices ask for the form of their statement.
use Rattle.std.proofs.Common.{◌≡◌, ℕ, List, [], ◌∷◌, Result, Ok, Err, Bool, true, false, refl, ap, if◌then◌else◌, ◌&&◌, not, arith, length}
use Rattle.std.proofs.lemmas.Bool.Decides.{nat_tests}
use Rattle.std.specs.Prelude.{◌==◌, map}
use Rattle.std.specs.List.{list_all}
use Rattle.std.proofs.lemmas.Bool.{and_from}
use Rattle.std.proofs.lemmas.List.{length-map}
use Rattle.gx_ids.specs.declared.ids.Cid.{Cid}
use Rattle.gx_ids.specs.declared.ids.Gxid.{Gxid}
use Rattle.gx_ids.specs.declared.ids.Node.{Node}
use Rattle.gx_ids.specs.declared.ids.Table.{Table}
use Rattle.gx_tree.specs.declared.part.Part.{Part}
use Rattle.gx_tree.specs.declared.part.Part.TheVariants.{Groups, Rows}
use Rattle.gx_tree.specs.declared.query.Query.{Query}
use Rattle.gx_tree.specs.declared.row.KeyedRow.{KeyedRow}
use Rattle.gx_tree.specs.declared.schema.Dist.{Dist}
use Rattle.gx_tree.specs.declared.slice.Slice.{Slice}
use Rattle.gx_tree.specs.declared.slice.Slice.TheVariants as slice
use Rattle.gx_tree.specs.declared.stmt.Stmt.{Stmt}
use Rattle.gx_tree.specs.declared.stmt.Stmt.TheVariants.{Begin, Commit, Rollback, Select, Insert, Update, Delete, Lock}
use Rattle.gx_tree.specs.declared.value.Value.{Value}
use Rattle.gx_meaning.specs.Expressions.{and_then}
use Rattle.gx_meaning.specs.declared.fault.ArithFault.{ArithFault}
use Rattle.gx_meaning.specs.Answer.{group_of, part_of}
use Rattle.gx_meaning.specs.Groups.{is_same_key, key_of, keys_of, once}
use Rattle.gx_meaning.specs.Order.{in_order, rising}
use Rattle.gx_meaning.specs.Target.{target_of}
use Rattle.gx_meaning.specs.declared.target.Target.TheVariants.{All}
use Rattle.gx_meaning.specs.Constants.{rows_of}
use Rattle.gx_meaning.specs.Plan.{insert_pieces, nodes_from, nodes_of, piece, plan_of, row_pieces, rows_at}
use Rattle.gx_meaning.specs.declared.piece.Piece.{Piece}
use Rattle.gx_rules.specs.Fits.{fits_group, fits_part, fits_query, is_no_rows}
use Rattle.gx_law_locks.proofs.Claims.{each-of}
use Rattle.gx_law_locks.proofs.Released.{each-in_order}
use Rattle.gx_law_order.proofs.Lists.{each_filter, each_flat, each_map}
use Rattle.gx_law_order.specs.Lists.{Each}

-- the part is right for a slice
abbrev pub is_right_part : Slice → Part → Bool
is_right_part (slice.Select query) part = fits_query query part
is_right_part _ part = is_no_rows part

-- LISTS OF KEYS
each-once : {X : Type 0} (P : X → Type 0) (same : X → X → Bool) (xs : List X) → Each P xs → Each P (once same xs)
each-once P same [] e = tt
each-once P same (x ∷ xs) e = (e.0, each_filter P (λ y. not (same x y)) (once same xs) (each-once P same xs e.1))

abbrev IsKeyOf : List ℕ → List Value → Type 0
IsKeyOf group key = length key ≡ length group

keys-right : (group : List ℕ) (rows : List KeyedRow) → Each (IsKeyOf group) (keys_of group rows)
keys-right [] rows = (refl, tt)
keys-right (column ∷ columns) rows =
    each-once (IsKeyOf (column ∷ columns)) is_same_key (map (key_of (column ∷ columns)) rows)
    (each_map (IsKeyOf (column ∷ columns)) (key_of (column ∷ columns)) rows (each-of (λ row. IsKeyOf (column ∷ columns) (key_of (column ∷ columns) row)) (λ row. length-map (column ∷ columns) _) rows))

groups-right : (query : Query) (rows : List KeyedRow) (keys : List (List Value)) → Each (IsKeyOf query.group) keys → list_all (fits_group query) (map (group_of query rows) keys) ≡ true
groups-right query rows [] e = refl
groups-right query rows (key ∷ keys) e = and_from _ _ (lengths (length key) (length query.group) _ (length query.items) e.0 (length-map query.items _)) (groups-right query rows keys e.1)
  where
    lengths : (a b c d : ℕ) → a ≡ b → c ≡ d → ((a == b) && (c == d)) ≡ true
    lengths a b c d e f = grind (arith, nat_tests)

pub part-right : (query : Query) (rows : List KeyedRow) → fits_query query (part_of query rows) ≡ true
part-right query rows = by_grouped query.grouped refl
  where
    by_grouped : (b : Bool) → query.grouped ≡ b → fits_query query (if b then Groups (map (group_of query rows) (in_order rising (keys_of query.group rows))) else Rows rows) ≡ true
    by_grouped true e = and_from query.grouped _ e (groups-right query rows (in_order rising (keys_of query.group rows))
        (each-in_order rising (IsKeyOf query.group) (keys_of query.group rows) (keys-right query.group rows)))
    by_grouped false e = ap not e

-- PLANS
-- a part that is right for the slice fits the statement
abbrev pub IsFor : Stmt → Slice → Type 0
IsFor line s = (part : Part) → is_right_part s part ≡ true → fits_part line part ≡ true

abbrev pub PlanFor : Stmt → Result (List Piece) ArithFault → Type 0
PlanFor line (Ok ps) = Each (λ (p : Piece). IsFor line p.slice) ps
PlanFor line (Err f) = Unit {0}

pieces-for : (line : Stmt) (s : Slice) (nodes : List Node) → IsFor line s → Each (λ (p : Piece). IsFor line p.slice) (map (piece s) nodes)
pieces-for line s [] f = tt
pieces-for line s (x ∷ xs) f = (f, pieces-for line s xs f)

rows-for : (line : Stmt) (table : Table) (node : Node) (rows : List KeyedRow) → ((t : Table) (rs : List KeyedRow) → IsFor line (slice.Insert t rs)) → Each (λ (p : Piece). IsFor line p.slice) (row_pieces table node rows)
rows-for line table node [] f = tt
rows-for line table node (r ∷ rs) f = (f table (r ∷ rs), tt)

pub plan-for : (n : ℕ) (dist : Dist) (g : Gxid) (c : Cid) (line : Stmt) → PlanFor line (plan_of n dist g c line)
plan-for n dist g c (Select q) = pieces-for (Select q) (slice.Select q) (nodes_of n (target_of n dist q.cond)) (λ part e. e)
plan-for n dist g c (Insert table tuples) = by_rows (rows_of g c tuples)
  where
    by_rows : (r : Result (List KeyedRow) ArithFault) → PlanFor (Insert table tuples) (and_then r (λ rows. Ok (insert_pieces n dist table rows)))
    by_rows (Ok rows) =
        each_flat (λ (p : Piece). IsFor (Insert table tuples) p.slice) (λ node. row_pieces table node (rows_at n dist rows node.0)) (nodes_from 1 n)
        (each-of (λ node. Each (λ (p : Piece). IsFor (Insert table tuples) p.slice) (row_pieces table node (rows_at n dist rows node.0))) (λ node. rows-for (Insert table tuples) table node (rows_at n dist rows node.0) (λ t rs part e. e)) (nodes_from 1 n))
    by_rows (Err f) = tt
plan-for n dist g c (Update table assigns w) = pieces-for (Update table assigns w) (slice.Update table assigns w) (nodes_of n (target_of n dist w)) (λ part e. e)
plan-for n dist g c (Delete table w) = pieces-for (Delete table w) (slice.Delete table w) (nodes_of n (target_of n dist w)) (λ part e. e)
plan-for n dist g c (Lock table mode) = pieces-for (Lock table mode) (slice.Lock table mode) (nodes_of n All) (λ part e. e)
plan-for n dist g c (Begin level) = tt
plan-for n dist g c Commit = tt
plan-for n dist g c Rollback = tt
