-- Rows by the segments that have still to answer for them.
use Rattle.std.proofs.Common.{◌≡◌, ◌≤◌, ◌<◌, ℕ, ◌+◌, ◌-◌, List, [], ◌∷◌, ◌++◌, Option, Some, None, Bool, true, false, refl, sym, subst, ap, ◌∙◌, if◌then◌else◌, ◌==◌, ◌||◌, arith, eqb, zero, suc, cond, ℤ, pos, negsuc, ◌%◌}
use Rattle.std.proofs.lemmas.Bool.{both_ways, eqb-true, or_left, or_right}
use Rattle.std.proofs.lemmas.Bool.Decides.{nat_tests}
use Rattle.std.proofs.Math.Nat.{mod-lt}
use Rattle.std.specs.Prelude.{filter, length, slice_get}
use Rattle.std.specs.List.{flat_map}
use Rattle.gx_lemmas.proofs.Numbers.{eqb-self}
use Rattle.gx_ids.specs.declared.ids.Node.{Node}
use Rattle.gx_ids.specs.declared.ids.Table.{Table}
use Rattle.gx_ids.specs.declared.rid.Rid.{Rid}
use Rattle.gx_tree.specs.declared.row.KeyedRow.{KeyedRow}
use Rattle.gx_tree.specs.declared.schema.Dist.{Dist}
use Rattle.gx_tree.specs.declared.schema.Dist.TheVariants.{By, Randomly}
use Rattle.gx_tree.specs.declared.value.Value.{Value}
use Rattle.gx_tree.specs.declared.value.Value.TheVariants.{Int, Text}
use Rattle.gx_dtx.specs.Nodes.{has, without}
use Rattle.gx_meaning.specs.Place.{hash_of, key_place, remainder, row_place, value_place}
use Rattle.gx_meaning.specs.Plan.{insert_pieces, nodes_from, row_pieces, rows_at}
use Rattle.gx_meaning.specs.declared.piece.Piece.{Piece}
use Rattle.gx_rules.specs.AtCoordinator.{nodes_in}
use Rattle.gx_law_order.specs.Lists.{Each}
use Rattle.gx_law_order.proofs.Nodes.{has-append, has-without}
use Rattle.gx_law_order.specs.Standings.{at}

-- ROWS THAT ARE AWAITED
module _ (place : KeyedRow → ℕ) where
  abbrev pub waits_for : List Node → KeyedRow → Bool
  waits_for awaited row = has (at (place row)) awaited

  abbrev pub left : List Node → List KeyedRow → ℕ
  left awaited rows = length (filter (waits_for awaited) rows)

  abbrev pub stands_at : Node → KeyedRow → Bool
  stands_at i row = place row == i.0

  pub left-none : (rows : List KeyedRow) → left [] rows ≡ 0
  left-none [] = refl
  left-none (r ∷ rs) = left-none rs

  pub left-all : (awaited : List Node) (rows : List KeyedRow) → Each (λ row. waits_for awaited row ≡ true) rows → left awaited rows ≡ length rows
  left-all awaited [] e = refl
  left-all awaited (r ∷ rs) e = ap (λ b. length (cond b (r ∷ filter (waits_for awaited) rs) (filter (waits_for awaited) rs))) e.0 ∙ ap suc (left-all awaited rs e.1)

  -- one segment less
  pub left-without : (awaited : List Node) (i : Node) (rows : List KeyedRow) → has i awaited ≡ true → left awaited rows ≡ length (filter (stands_at i) rows) + left (without i awaited) rows
  left-without awaited i [] e = refl
  left-without awaited i (r ∷ rs) e = by_tests (waits_for awaited r) (stands_at i r) (waits_for (without i awaited) r) (three (waits_for awaited r) (place r) i.0 (waits_for (without i awaited) r) here (has-without (at (place r)) i awaited)) (left-without awaited i rs e)
    where
      here : eqb (place r) i.0 ≡ true → waits_for awaited r ≡ true
      here q = ap (λ p. has (at p) awaited) (eqb-true (place r) i.0 q) ∙ e

      three : (a : Bool) (p i : ℕ) (b : Bool) → (eqb p i ≡ true → a ≡ true) → b ≡ (if eqb i p then false else a) → (if eqb p i then (if a then (if b then false else true) else false) else (if a then b else (if b then false else true))) ≡ true
      three a p i b h e = grind (arith, nat_tests)

      by_tests : (a s b : Bool) → (if s then (if a then (if b then false else true) else false) else (if a then b else (if b then false else true))) ≡ true → left awaited rs ≡ length (filter (stands_at i) rs) + left (without i awaited) rs → length (cond a (r ∷ filter (waits_for awaited) rs) (filter (waits_for awaited) rs)) ≡ length (cond s (r ∷ filter (stands_at i) rs) (filter (stands_at i) rs)) + length (cond b (r ∷ filter (waits_for (without i awaited)) rs) (filter (waits_for (without i awaited)) rs))
      by_tests true true false h k = first _ _ _ k
        where
          first : (x y z : ℕ) → x ≡ y + z → suc x ≡ suc y + z
          first x y z k = omega arith
      by_tests true false true h k = second _ _ _ k
        where
          second : (x y z : ℕ) → x ≡ y + z → suc x ≡ y + suc z
          second x y z k = omega arith
      by_tests false false false h k = k
      by_tests true true true h k = absurd (cc)
      by_tests true false false h k = absurd (cc)
      by_tests false true true h k = absurd (cc)
      by_tests false true false h k = absurd (cc)
      by_tests false false true h k = absurd (cc)

-- what holds of those that pass holds of each that passes
pub each-passing : {A : Type 0} (p : A → Bool) (Q : A → Type 0) (rows : List A) → Each Q (filter p rows) → Each (λ row. p row ≡ true → Q row) rows
each-passing p Q [] e = tt
each-passing p Q (r ∷ rs) e = by_test (p r) refl e (λ f. each-passing p Q rs f)
  where
    by_test : (b : Bool) → p r ≡ b → Each Q (cond b (r ∷ filter p rs) (filter p rs)) → (Each Q (filter p rs) → Each (λ row. p row ≡ true → Q row) rs) → (p r ≡ true → Q r) × Each (λ row. p row ≡ true → Q row) rs
    by_test true q f later = (λ z. f.0, later f.1)
    by_test false q f later = (λ z. absurd (both_ways (p r) q z), later f)

-- PLACES
remainder-below : (z : ℤ) (n : ℕ) → 1 ≤ n → remainder z n < n
remainder-below (pos k) n l = mod-lt k l
remainder-below (negsuc k) n l = less n (k % n) l
  where
    less : (n m : ℕ) → 1 ≤ n → n - 1 - m < n
    less n m l = omega arith

above : {k n : ℕ} → k < n → (1 ≤ 1 + k) × (1 + k ≤ n)
above l = (one l, up l)
  where
    one : {k n : ℕ} → k < n → 1 ≤ 1 + k
    one l = omega arith

    up : {k n : ℕ} → k < n → 1 + k ≤ n
    up l = omega arith

value-within : (n : ℕ) (v : Value) → 1 ≤ n → (1 ≤ value_place n v) × (value_place n v ≤ n)
value-within n (Int z) l = above (remainder-below z n l)
value-within n (Text t) l = above (mod-lt (hash_of t) l)

key-within : (n : ℕ) (v : Option Value) → 1 ≤ n → (1 ≤ key_place n v) × (key_place n v ≤ n)
key-within n None l = (one, l)
  where
    one : 1 ≤ 1
    one = omega arith
key-within n (Some v) l = value-within n v l

pub row-within : (n : ℕ) (dist : Dist) (row : List Value) (rid : Rid) → 1 ≤ n → (1 ≤ row_place n dist row rid) × (row_place n dist row rid ≤ n)
row-within n (By column) row rid l = key-within n (slice_get row column) l
row-within n Randomly row rid l = above (mod-lt (rid.gxid.0 + rid.ordinal) l)

-- EACH ROW'S SEGMENT HAS A PIECE
nodes-append : (xs ys : List Piece) → nodes_in (xs ++ ys) ≡ nodes_in xs ++ nodes_in ys
nodes-append [] ys = refl
nodes-append (x ∷ xs) ys = ap (λ q. x.node ∷ q) (nodes-append xs ys)

piece-there : (table : Table) (p : ℕ) (rows : List KeyedRow) → (rows ≡ [] → ⊥) → has (at p) (nodes_in (row_pieces table (at p) rows)) ≡ true
piece-there table p [] e = absurd (e refl)
piece-there table p (r ∷ rs) e = or_left (eqb p p) false (eqb-self p)

module _ (table : Table) (rows : ℕ → List KeyedRow) (p : ℕ) (some : rows p ≡ [] → ⊥) where
  pieces-there : (k count : ℕ) → k ≤ p → p < k + count → has (at p) (nodes_in (flat_map (λ (node : Node). row_pieces table node (rows node.0)) (nodes_from k count))) ≡ true
  pieces-there k zero l m = absurd (none k p l m)
    where
      none : (k p : ℕ) → k ≤ p → p < k + 0 → ⊥
      none k p l m = omega arith
  pieces-there k (suc count) l m =
      ap (has (at p)) (nodes-append (row_pieces table (at k) (rows k)) (flat_map (λ (node : Node). row_pieces table node (rows node.0)) (nodes_from (k + 1) count)))
      ∙ has-append (at p) (nodes_in (row_pieces table (at k) (rows k))) (nodes_in (flat_map (λ (node : Node). row_pieces table node (rows node.0)) (nodes_from (k + 1) count)))
      ∙ by_test (eqb k p) refl (λ more. pieces-there (k + 1) count more (shift k p count m))
    where
      shift : (k p count : ℕ) → p < k + suc count → p < (k + 1) + count
      shift k p count m = omega arith

      beyond : (k p : ℕ) → eqb k p ≡ false → k ≤ p → k + 1 ≤ p
      beyond k p e l = grind (arith, nat_tests)

      by_test : (b : Bool) → eqb k p ≡ b → (k + 1 ≤ p → has (at p) (nodes_in (flat_map (λ (node : Node). row_pieces table node (rows node.0)) (nodes_from (k + 1) count))) ≡ true) → (has (at p) (nodes_in (row_pieces table (at k) (rows k))) || has (at p) (nodes_in (flat_map (λ (node : Node). row_pieces table node (rows node.0)) (nodes_from (k + 1) count)))) ≡ true
      by_test true e later = or_left _ _ (subst (λ j. has (at p) (nodes_in (row_pieces table (at j) (rows j))) ≡ true) (sym (eqb-true k p e)) (piece-there table p (rows p) some))
      by_test false e later = or_right _ _ (later (beyond k p e l))

filter-some : (p : KeyedRow → Bool) (done : List KeyedRow) (row : KeyedRow) (rows : List KeyedRow) → p row ≡ true → filter p (done ++ row ∷ rows) ≡ [] → ⊥
filter-some p [] row rows e q = differ (ap (λ b. cond b (row ∷ filter p rows) (filter p rows)) (sym e) ∙ q)
  where
    differ : row ∷ filter p rows ≡ [] → ⊥
    differ z = cc
filter-some p (d ∷ done) row rows e q = by_test (p d) q (λ z. filter-some p done row rows e z)
  where
    by_test : (b : Bool) → cond b (d ∷ filter p (done ++ row ∷ rows)) (filter p (done ++ row ∷ rows)) ≡ [] → (filter p (done ++ row ∷ rows) ≡ [] → ⊥) → ⊥
    by_test true z later = absurd (cc)
    by_test false z later = later z

pub all-there : (n : ℕ) (dist : Dist) (table : Table) (done rows all : List KeyedRow) → 1 ≤ n → all ≡ done ++ rows → Each (λ (row : KeyedRow). has (at (row_place n dist row.row row.rid)) (nodes_in (insert_pieces n dist table all)) ≡ true) rows
all-there n dist table done [] all l e = tt
all-there n dist table done (r ∷ rs) all l e = (
  pieces-there table (rows_at n dist all) (row_place n dist r.row r.rid) (λ z. filter-some (λ (row : KeyedRow). row_place n dist row.row row.rid == row_place n dist r.row r.rid) done r rs (eqb-self (row_place n dist r.row r.rid)) (ap (filter (λ (row : KeyedRow). row_place n dist row.row row.rid == row_place n dist r.row r.rid)) (sym e) ∙ z)) 1 n w.0 (less n (row_place n dist r.row r.rid) w.1),
  all-there n dist table (done ++ r ∷ []) rs all l (e ∙ sym (Rattle.std.proofs.lemmas.List.append_assoc done (r ∷ []) rs)),
)
  where
    w : (1 ≤ row_place n dist r.row r.rid) × (row_place n dist r.row r.rid ≤ n)
    w = row-within n dist r.row r.rid l

    less : (n p : ℕ) → p ≤ n → p < 1 + n
    less n p q = omega arith
