-- How far an INSERT has come: the rows of the segments that have answered are written and counted.
use Rattle.std.proofs.Common.{◌≡◌, ◌≤◌, ◌<◌, ℕ, ◌+◌, List, [], ◌∷◌, ◌++◌, Result, Ok, Err, Bool, true, false, refl, sym, subst, ap, ◌∙◌, if◌then◌else◌, arith, eqb, suc}
use Rattle.std.proofs.lemmas.Bool.{eqb-true}
use Rattle.std.proofs.lemmas.Bool.Decides.{nat_tests}
use Rattle.std.proofs.lemmas.List.Elements.{All-cons, All-nil}
use Rattle.std.specs.Prelude.{All, filter, length}
use Rattle.gx_lemmas.proofs.Numbers.{eqb-back}
use Rattle.gx_lemmas.proofs.Tests.{true-false}
use Rattle.gx_ids.specs.declared.ids.Cid.{Cid}
use Rattle.gx_ids.specs.declared.ids.Gxid.{Gxid}
use Rattle.gx_ids.specs.declared.ids.Node.{Node}
use Rattle.gx_ids.specs.declared.ids.Table.{Table}
use Rattle.gx_tree.specs.declared.expr.Expr.{Expr}
use Rattle.gx_tree.specs.declared.part.Part.{Part as QueryPart}
use Rattle.gx_tree.specs.declared.row.KeyedRow.{KeyedRow}
use Rattle.gx_tree.specs.declared.slice.Slice.TheVariants as slice
use Rattle.gx_tree.specs.declared.stmt.Level.{Level}
use Rattle.gx_tree.specs.declared.stmt.Stmt.{Stmt}
use Rattle.gx_tree.specs.declared.stmt.Stmt.TheVariants as stmt
use Rattle.gx_dtx.specs.Nodes.{has, without}
use Rattle.gx_meaning.specs.Expressions.{and_then}
use Rattle.gx_meaning.specs.declared.fault.ArithFault.{ArithFault}
use Rattle.gx_msg.specs.declared.message.Out.{Out}
use Rattle.gx_meaning.specs.Place.{row_place}
use Rattle.gx_meaning.specs.Constants.{rows_of}
use Rattle.gx_meaning.specs.Plan.{insert_pieces, plan_of, rows_at}
use Rattle.gx_meaning.specs.declared.piece.Piece.{Piece}
use Rattle.gx_script.specs.declared.Script.{Script}
use Rattle.gx_store.specs.declared.mark.Mark.{Mark}
use Rattle.gx_store.specs.Answers.{HasValues, Inserts}
use Rattle.gx_store.specs.Commands.{has_own_snapshot}
use Rattle.gx_store.specs.Writes.{dist_of}
use Rattle.gx_rules.specs.AtCoordinator.{nodes_in, with_done}
use Rattle.gx_rules.specs.Coordinators.{Command}
use Rattle.gx_law_order.proofs.Lists.{each_weaker}
use Rattle.gx_law_order.specs.Lists.{Each}
use Rattle.gx_law_order.proofs.Nodes.{has-without}
use Rattle.gx_law_order.specs.Standings.{at, gx}
use Rattle.gx_law_writes.specs.Rows.{AreRowsOf, is_own_written}
use Rattle.gx_law_writes.proofs.Counts.{all-there, each-passing, left, left-all, left-none, left-without, stands_at, waits_for}
use Rattle.gx_law_writes.proofs.Alive.{own-more}
use Rattle.gx_law_writes.proofs.Plans.{rows-are}
use Rattle.gx_law_writes.proofs.Told.{IsDoneSlice, IsWritten, written-more}

module _ (script : Script) (table : Table) where
  abbrev pub place_of : KeyedRow → ℕ
  place_of row = row_place script.segments (dist_of script.tables table.0) row.row row.rid

  pub record Progress (ms : List Mark) (g : ℕ) (level : Level) (m : Command) (tuples : List (List Expr)) : Type 0 where
    pub rows : List KeyedRow
    pub planned : rows_of (gx g) m.cid tuples ≡ Ok rows
    pub count : m.count + left place_of m.awaited rows ≡ length rows
    pub written : Each (λ (row : KeyedRow). waits_for place_of m.awaited row ≡ false → is_own_written ms row.rid ≡ true) rows
    pub snapped : has_own_snapshot level ms (gx g) m.cid ≡ true

  pub progress-more : (ms ns : List Mark) (g : ℕ) (level : Level) (m : Command) (tuples : List (List Expr)) → Progress ms g level m tuples → Progress (ms ++ ns) g level m tuples
  progress-more ms ns g level m tuples p =
      record {
        rows = p.rows;
        planned = p.planned;
        count = p.count;
        written = each_weaker (λ (row : KeyedRow). waits_for place_of m.awaited row ≡ false → is_own_written ms row.rid ≡ true) (λ (row : KeyedRow). waits_for place_of m.awaited row ≡ false → is_own_written (ms ++ ns) row.rid ≡ true) (λ r f e. written-more ms ns r.rid (f e)) p.rows p.written;
        snapped = own-more level ms ns (gx g) m.cid p.snapped;
      }

  -- it goes out
  pub progress-new : (ms : List Mark) (g : ℕ) (level : Level) (cid : Cid) (line : Stmt) (tuples : List (List Expr)) (pieces : List Piece) (orders : List Out) → 1 ≤ script.segments → plan_of script.segments (dist_of script.tables table.0) (gx g) cid (stmt.Insert table tuples) ≡ Ok pieces → has_own_snapshot level ms (gx g) cid ≡ true → Progress ms g level (record { stmt = line; cid = cid; orders = orders; awaited = nodes_in pieces; count = 0; parts = [] }) tuples
  progress-new ms g level cid line tuples pieces orders some plan snapped = by_rows (rows_of (gx g) cid tuples) refl plan
    where
      ok-same : {xs ys : List Piece} → (let o : Result (List Piece) ArithFault = Ok xs in o) ≡ Ok ys → xs ≡ ys
      ok-same q = cc

      none-more : (a b : ℕ) → a ≡ b → 0 + a ≡ b
      none-more a b e = omega arith

      by_rows : (o : Result (List KeyedRow) ArithFault) → rows_of (gx g) cid tuples ≡ o → and_then o (λ rows. Ok (insert_pieces script.segments (dist_of script.tables table.0) table rows)) ≡ Ok pieces → Progress ms g level (record { stmt = line; cid = cid; orders = orders; awaited = nodes_in pieces; count = 0; parts = [] }) tuples
      by_rows (Err f) r e = absurd (cc)
      by_rows (Ok rows) r e =
          let there : Each (λ (row : KeyedRow). waits_for place_of (nodes_in pieces) row ≡ true) rows = subst (λ ps. Each (λ (row : KeyedRow). waits_for place_of (nodes_in ps) row ≡ true) rows) (ok-same e) (all-there script.segments (dist_of script.tables table.0) table [] rows rows some refl) in
          record {
            rows = rows;
            planned = r;
            count = none-more _ _ (left-all place_of (nodes_in pieces) rows there);
            written = each_weaker (λ (row : KeyedRow). waits_for place_of (nodes_in pieces) row ≡ true) (λ (row : KeyedRow). waits_for place_of (nodes_in pieces) row ≡ false → is_own_written ms row.rid ≡ true) (λ row t f. absurd (true-false _ t f)) rows there;
            snapped = snapped;
          }

  -- a segment has answered
  pub progress-done : (ms : List Mark) (g : ℕ) (level : Level) (m : Command) (tuples : List (List Expr)) (i : Node) (count : ℕ) (part : QueryPart) → has i m.awaited ≡ true → (p : Progress ms g level m tuples) → IsDoneSlice ms (slice.Insert table (rows_at script.segments (dist_of script.tables table.0) p.rows i.0)) count → Progress ms g level (with_done m i count part) tuples
  progress-done ms g level m tuples i count part awaited p d =
      record {
        rows = p.rows;
        planned = p.planned;
        count = sum m.count count (left place_of m.awaited p.rows) (left place_of (without i m.awaited) p.rows) (length (filter (stands_at place_of i) p.rows)) p.count d.0 (left-without place_of m.awaited i p.rows awaited);
        written = each-two p.rows (each-passing (stands_at place_of i) (IsWritten ms) p.rows d.1) p.written;
        snapped = p.snapped;
      }
    where
      sum : (a b l r n : ℕ) {t : ℕ} → a + l ≡ t → b ≡ n → l ≡ n + r → (a + b) + r ≡ t
      sum a b l r n x y z = omega arith

      by_test : (row : KeyedRow) → (stands_at place_of i row ≡ true → IsWritten ms row) → (waits_for place_of m.awaited row ≡ false → is_own_written ms row.rid ≡ true) → (b : Bool) → eqb i.0 (place_of row) ≡ b → has (at (place_of row)) (without i m.awaited) ≡ false → is_own_written ms row.rid ≡ true
      by_test row f h true e q = f (eqb-back i.0 (place_of row) e)
      by_test row f h false e q = h (ap (λ b. if b then false else has (at (place_of row)) m.awaited) (sym e) ∙ sym (has-without (at (place_of row)) i m.awaited) ∙ q)

      each-two : (rows : List KeyedRow) → Each (λ (row : KeyedRow). stands_at place_of i row ≡ true → IsWritten ms row) rows → Each (λ (row : KeyedRow). waits_for place_of m.awaited row ≡ false → is_own_written ms row.rid ≡ true) rows → Each (λ (row : KeyedRow). waits_for place_of (without i m.awaited) row ≡ false → is_own_written ms row.rid ≡ true) rows
      each-two [] f h = tt
      each-two (r ∷ rs) f h = (λ q. by_test r f.0 h.0 (eqb i.0 (place_of r)) refl q, each-two rs f.1 h.1)

-- WHEN ALL HAVE ANSWERED
rows-count : (g : Gxid) (c : Cid) (k : ℕ) (tuples : List (List Expr)) (rows : List KeyedRow) → AreRowsOf g c k tuples rows → length rows ≡ length tuples
rows-count g c k [] [] a = refl
rows-count g c k [] (r ∷ rs) a = absurd a
rows-count g c k (t ∷ ts) [] a = absurd a
rows-count g c k (t ∷ ts) (r ∷ rs) a = more (rows-count g c (k + 1) ts rs a.3)
  where
    more : {a b : ℕ} → a ≡ b → suc a ≡ suc b
    more e = ap suc e

pub rows-values : (g : Gxid) (c : Cid) (k : ℕ) (tuples : List (List Expr)) (rows : List KeyedRow) → AreRowsOf g c k tuples rows → All HasValues tuples
rows-values g c k [] [] a = All-nil HasValues
rows-values g c k [] (r ∷ rs) a = absurd a
rows-values g c k (t ∷ ts) [] a = absurd a
rows-values g c k (t ∷ ts) (r ∷ rs) a = All-cons HasValues t ts (a.0, a.1) (rows-values g c (k + 1) ts rs a.3)

rows-written : (ms : List Mark) (g : Gxid) (c : Cid) (k : ℕ) (tuples : List (List Expr)) (rows : List KeyedRow) → AreRowsOf g c k tuples rows → Each (IsWritten ms) rows → (o : ℕ) → k ≤ o → o < k + length rows → is_own_written ms (record { gxid = g; cid = c; ordinal = o }) ≡ true
rows-written ms g c k [] [] a e o l m = absurd (none k o l m)
  where
    none : (k o : ℕ) → k ≤ o → o < k + 0 → ⊥
    none k o l m = omega arith
rows-written ms g c k [] (r ∷ rs) a e o l m = absurd a
rows-written ms g c k (t ∷ ts) [] a e o l m = absurd a
rows-written ms g c k (t ∷ ts) (r ∷ rs) a e o l m = by_test (eqb k o) refl (λ more. rows-written ms g c (k + 1) ts rs a.3 e.1 o more (shift k o (length rs) m))
  where
    shift : (k o n : ℕ) → o < k + suc n → o < (k + 1) + n
    shift k o n m = omega arith

    beyond : (k o : ℕ) → eqb k o ≡ false → k ≤ o → k + 1 ≤ o
    beyond k o e l = grind (arith, nat_tests)

    by_test : (b : Bool) → eqb k o ≡ b → (k + 1 ≤ o → is_own_written ms (record { gxid = g; cid = c; ordinal = o }) ≡ true) → is_own_written ms (record { gxid = g; cid = c; ordinal = o }) ≡ true
    by_test true q later = subst (λ n. is_own_written ms (record { gxid = g; cid = c; ordinal = n }) ≡ true) (eqb-true k o q) (subst (λ (x : KeyedRow). is_own_written ms x.rid ≡ true) a.2 e.0)
    by_test false q later = later (beyond k o q l)

pub progress-end : (script : Script) (ms : List Mark) (g : ℕ) (level : Level) (m : Command) (table : Table) (tuples : List (List Expr)) → Progress script table ms g level m tuples → m.awaited ≡ [] → Inserts ms level (gx g) m.cid tuples m.count
progress-end script ms g level m table tuples p e =
    record {
      count = counted ∙ rows-count (gx g) m.cid 1 tuples p.rows rows;
      snapped = p.snapped;
      values = rows-values (gx g) m.cid 1 tuples p.rows rows;
      each = λ o l n. rows-written ms (gx g) m.cid 1 tuples p.rows rows all o l (less o m.count (length p.rows) n counted);
    }
  where
    rows : AreRowsOf (gx g) m.cid 1 tuples p.rows
    rows = rows-are (gx g) m.cid 1 tuples p.rows p.planned

    plus-none : (a b n : ℕ) → a + b ≡ n → b ≡ 0 → a ≡ n
    plus-none a b n x y = omega arith

    less : (o a n : ℕ) → o ≤ a → a ≡ n → o < 1 + n
    less o a n x y = omega arith

    counted : m.count ≡ length p.rows
    counted = plus-none m.count _ (length p.rows) p.count (ap (λ aw. left (place_of script table) aw p.rows) e ∙ left-none (place_of script table) p.rows)

    all : Each (IsWritten ms) p.rows
    all = each_weaker (λ (row : KeyedRow). waits_for (place_of script table) m.awaited row ≡ false → is_own_written ms row.rid ≡ true) (IsWritten ms) (λ row f. f (ap (has (at (place_of script table row))) e)) p.rows p.written
