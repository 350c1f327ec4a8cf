-- What is summed over the accounts of a rising list is summed over its rows.
use Rattle.std.proofs.Common.{◌≡◌, ◌≢◌, ◌≤◌, ℕ, zero, suc, ◌*◌, ℤ, pos, ◌+ℤ◌, Bool, true, false, if◌then◌else◌, List, [], ◌∷◌, Option, Some, None, map, refl, sym, ap, ◌∙◌, subst, arith}
use Rattle.std.proofs.lemmas.Bool.Decides.{nat_tests}
use Rattle.std.proofs.lemmas.Int.{ints}
use Rattle.std.specs.Prelude.{fold, length}
use Rattle.std.specs.List.{AllByRecursion}
use Rattle.std.specs.List.Sorted.{IsStrictlySortedBy}
use Rattle.std.specs.declared.cmp.Ordering.TheVariants.{Less}
use Rattle.gx_ids.specs.declared.ids.Gxid.{Gxid}
use Rattle.gx_ids.specs.declared.rid.Rid.{Rid}
use Rattle.gx_tree.specs.declared.row.KeyedRow.{KeyedRow}
use Rattle.gx_tree.specs.declared.value.Value.{Value}
use Rattle.gx_meaning.specs.Answer.{AreRising}
use Rattle.gx_meaning.specs.Order.{rid_order}
use Rattle.gx_report.specs.Summary.{balance, total_balance}
use Rattle.gx_store.specs.Marks.{is_same_rid}
use Rattle.gx_store.specs.Rows.{row_at}
use Rattle.gx_store.proofs.Rows.{is_same_rid-refl, same_rid}
use Rattle.gx_law_sums.proofs.Ledger.{total, total-one}
use Rattle.gx_law_sums.proofs.Neat.{row_of}
use Rattle.gx_law_sums.proofs.Shows.{number_of}

-- PLAIN FACTS
less-apart : (a b : Rid) → rid_order a b ≡ Less → is_same_rid b a ≡ false
less-apart a b e = grind (arith, nat_tests)

abbrev Above : Rid → List KeyedRow → Type 0
Above rid rows = AllByRecursion (λ r. rid_order rid r ≡ Less) (map (λ row. row.rid) rows)

none-above : (rid : Rid) (rows : List KeyedRow) → Above rid rows → row_at rows rid ≡ None
none-above rid [] above = refl
none-above rid (r ∷ rs) above = ap (λ (b : Bool). if b then Some r.row else row_at rs rid) (less-apart rid r.rid above.0) ∙ none-above rid rs above.1

pub no-row : (row : List Value) → (let o : Option (List Value) = None in o ≡ Some row) → ⊥
no-row row e = cc

pub found-first : (r : KeyedRow) (rs : List KeyedRow) → row_at (r ∷ rs) r.rid ≡ Some r.row
found-first r rs = ap (λ (b : Bool). if b then Some r.row else row_at rs r.rid) (is_same_rid-refl r.rid)

both-none : (x y : ℤ) → x ≡ pos 0 → y ≡ pos 0 → x +ℤ y ≡ pos 0
both-none x y e f = omega (arith, ints)

pub total-none : (f : ℕ → ℤ) (n : ℕ) → ((k : ℕ) → f k ≡ pos 0) → total f n ≡ pos 0
total-none f zero each = refl
total-none f (suc n) each = both-none (f (suc n)) (total f n) (each (suc n)) (total-none f n each)

-- the sum of what each row counts
abbrev pub sum_rows : (Option (List Value) → ℤ) → List KeyedRow → ℤ
sum_rows counts [] = pos 0
sum_rows counts (r ∷ rs) = counts (Some r.row) +ℤ sum_rows counts rs

-- an account of this load
abbrev pub IsOf : Gxid → Rid → Type 0
IsOf L rid = (rid ≡ row_of L rid.ordinal) × (1 ≤ rid.ordinal) × (rid.ordinal ≤ 64)

module _ (counts : Option (List Value) → ℤ) (none : counts None ≡ pos 0) (L : Gxid) where
  abbrev pub count_at : List KeyedRow → ℕ → ℤ
  count_at rows o = counts (row_at rows (row_of L o))

  -- a row that the others don't have
  module _ (r : KeyedRow) (rs : List KeyedRow) (own : r.rid ≡ row_of L r.rid.ordinal) (absent : row_at rs r.rid ≡ None) where
    here : count_at (r ∷ rs) r.rid.ordinal ≡ count_at rs r.rid.ordinal +ℤ counts (Some r.row)
    here =
        ap (λ (q : Rid). counts (row_at (r ∷ rs) q)) (sym own) ∙ ap counts (found-first r rs)
        ∙ plain (counts (Some r.row)) (count_at rs r.rid.ordinal) (ap (λ (q : Rid). counts (row_at rs q)) (sym own) ∙ ap counts absent ∙ none)
      where
        plain : (x y : ℤ) → y ≡ pos 0 → x ≡ y +ℤ x
        plain x y e = omega (arith, ints)

    away : (k : ℕ) → k ≢ r.rid.ordinal → count_at (r ∷ rs) k ≡ count_at rs k
    away k f = by_test (is_same_rid r.rid (row_of L k)) refl
      where
        by_test : (b : Bool) → is_same_rid r.rid (row_of L k) ≡ b → counts (if b then Some r.row else row_at rs (row_of L k)) ≡ count_at rs k
        by_test true e = absurd (f (sym (ap (λ (q : Rid). q.ordinal) (same_rid r.rid (row_of L k) e))))
        by_test false e = refl

  pub total-rows : (rows : List KeyedRow) → AreRising rows → ((rid : Rid) (row : List Value) → row_at rows rid ≡ Some row → IsOf L rid) → total (count_at rows) 64 ≡ sum_rows counts rows
  unfolding IsStrictlySortedBy
  total-rows [] rising of = total-none (count_at []) 64 (λ k. none)
  total-rows (r ∷ rs) rising of =
      total-one (count_at rs) (count_at (r ∷ rs)) r.rid.ordinal (counts (Some r.row)) 64 first.1 first.2 (here r rs first.0 absent) (away r rs first.0 absent)
      ∙ turned (total (count_at rs) 64) (sum_rows counts rs) (counts (Some r.row)) (total-rows rs rising.1 later)
    where
      first : IsOf L r.rid
      first = of r.rid r.row (found-first r rs)

      absent : row_at rs r.rid ≡ None
      absent = none-above r.rid rs rising.0

      turned : (a b d : ℤ) → a ≡ b → a +ℤ d ≡ d +ℤ b
      turned a b d e = omega (arith, ints)

      later : (rid : Rid) (row : List Value) → row_at rs rid ≡ Some row → IsOf L rid
      later rid row e = by_test (is_same_rid r.rid rid) refl
        where
          by_test : (b : Bool) → is_same_rid r.rid rid ≡ b → IsOf L rid
          by_test true s = absurd (no-row row (sym (subst (λ q. row_at rs q ≡ None) (same_rid r.rid rid s) absent) ∙ e))
          by_test false s = of rid row (ap (λ (b : Bool). if b then Some r.row else row_at rs rid) s ∙ e)

-- THE SUM OF THE BALANCES
folded : (z : ℤ) (rows : List KeyedRow) → fold (λ sum row. sum +ℤ balance row) z rows ≡ z +ℤ sum_rows number_of rows
folded z [] = plain z
  where
    plain : (z : ℤ) → z ≡ z +ℤ pos 0
    plain z = omega (arith, ints)
folded z (r ∷ rs) = folded (z +ℤ balance r) rs ∙ regroup z (balance r) (sum_rows number_of rs)
  where
    regroup : (a b c : ℤ) → (a +ℤ b) +ℤ c ≡ a +ℤ (b +ℤ c)
    regroup a b c = omega (arith, ints)

pub total_balance-sum : (rows : List KeyedRow) → total_balance rows ≡ sum_rows number_of rows
total_balance-sum rows = folded (pos 0) rows ∙ plain (sum_rows number_of rows)
  where
    plain : (z : ℤ) → pos 0 +ℤ z ≡ z
    plain z = omega (arith, ints)

-- HOW MANY THEY ARE
abbrev pub hundred_of : Option (List Value) → ℤ
hundred_of None = pos 0
hundred_of (Some row) = pos 100

hundreds : (rows : List KeyedRow) → sum_rows hundred_of rows ≡ pos (100 * length rows)
hundreds [] = refl
hundreds (r ∷ rs) = next (sum_rows hundred_of rs) (length rs) (hundreds rs)
  where
    next : (z : ℤ) (n : ℕ) → z ≡ pos (100 * n) → pos 100 +ℤ z ≡ pos (100 * suc n)
    next z n e = omega (arith, ints)

pub length-sum : (rows : List KeyedRow) → sum_rows hundred_of rows ≡ pos 6400 → length rows ≡ 64
length-sum rows e = plain (sum_rows hundred_of rows) (length rows) (hundreds rows) e
  where
    plain : (z : ℤ) (n : ℕ) → z ≡ pos (100 * n) → z ≡ pos 6400 → n ≡ 64
    plain z n e f = omega (arith, ints)
