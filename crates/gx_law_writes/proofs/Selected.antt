-- The rows that a command has selected of those that a segment shows to it.
use Rattle.std.proofs.Common.{◌≡◌, ◌∙◌, ◌⊎◌, inl, inr, ℕ, Bool, true, false, List, [], ◌∷◌, ◌++◌, Option, Some, None, Result, Ok, Err, ap, refl, sym, subst, if◌then◌else◌, arith}
use Rattle.std.specs.Prelude.{filter, map}
use Rattle.std.specs.List.{AllByRecursion}
use Rattle.std.specs.List.Sorted.{IsStrictlySortedBy}
use Rattle.std.specs.declared.cmp.Ordering.TheVariants.{Less}
use Rattle.gx_ids.specs.declared.rid.Rid.{Rid}
use Rattle.gx_tree.specs.declared.cond.Cond.{Cond}
use Rattle.gx_tree.specs.declared.row.KeyedRow.{KeyedRow}
use Rattle.gx_tree.specs.declared.value.Value.{Value}
use Rattle.gx_meaning.specs.Answer.{AreRising, keeps}
use Rattle.gx_meaning.specs.Order.{rid_order}
use Rattle.gx_meaning.specs.Expressions.{truth_of}
use Rattle.gx_meaning.specs.declared.fault.ArithFault.{ArithFault}
use Rattle.gx_store.proofs.Rows.{is_same_rid-refl}
use Rattle.gx_store.specs.Commands.{condition_on}
use Rattle.gx_store.specs.Marks.{is_same_rid}
use Rattle.gx_store.specs.Rows.{row_at}
use Rattle.gx_rules.specs.Changes.{Change, selected}
use Rattle.gx_rules.proofs.RowOrder.{less_apart_back}
use Rattle.gx_law_order.specs.Lists.{Each}
use Rattle.gx_law_writes.proofs.Chosen.{IsChosen}
use Rattle.gx_law_writes.proofs.Path.{AreApart}

-- where it keeps a row, the condition is true on it
keeps-true : (cond : Option Cond) (row : KeyedRow) → keeps cond row ≡ true → condition_on cond row.row ≡ Ok true
keeps-true None row e = refl
keeps-true (Some cond) row e = by_truth (truth_of row.row cond) refl
  where
    no : false ≡ true → ⊥
    no z = cc

    by_truth : (t : Result Bool ArithFault) → truth_of row.row cond ≡ t → truth_of row.row cond ≡ Ok true
    by_truth (Ok true) q = q
    by_truth (Ok false) q = absurd (no (sym (rw q refl) ∙ e))
    by_truth (Err fault) q = absurd (no (sym (rw q refl) ∙ e))

-- each row that is kept stands among those of the view
module _ (view : List KeyedRow) (k : Change) where
  pub selected-chosen : (rows : List KeyedRow) → Each (λ (row : KeyedRow). row_at view row.rid ≡ Some row.row) rows → Each (IsChosen view k) (selected k.cond rows)
  selected-chosen [] e = tt
  selected-chosen (row ∷ rows) e = by_test (keeps k.cond row) refl (selected-chosen rows e.1)
    where
      by_test : (b : Bool) → keeps k.cond row ≡ b → Each (IsChosen view k) (selected k.cond rows) → Each (IsChosen view k) (map (λ r. r.rid) (if b then row ∷ filter (keeps k.cond) rows else filter (keeps k.cond) rows))
      by_test true q more = (record { row = row.row; shown = e.0; chosen = keeps-true k.cond row q }, more)
      by_test false q more = more

-- ROWS THAT ARE APART STAY SO
abbrev pub AreRowsApart : List KeyedRow → Type 0
AreRowsApart [] = Unit {0}
AreRowsApart (row ∷ rows) = Each (λ (r : KeyedRow). is_same_rid row.rid r.rid ≡ false) rows × AreRowsApart rows

pub selected-each : (P : Rid → Type 0) (cond : Option Cond) (rows : List KeyedRow) → Each (λ (row : KeyedRow). P row.rid) rows → Each P (selected cond rows)
selected-each P cond [] e = tt
selected-each P cond (row ∷ rows) e = by_test (keeps cond row) (selected-each P cond rows e.1)
  where
    by_test : (b : Bool) → Each P (selected cond rows) → Each P (map (λ r. r.rid) (if b then row ∷ filter (keeps cond) rows else filter (keeps cond) rows))
    by_test true more = (e.0, more)
    by_test false more = more

pub selected-apart : (cond : Option Cond) (rows : List KeyedRow) → AreRowsApart rows → AreApart (selected cond rows)
selected-apart cond [] e = tt
selected-apart cond (row ∷ rows) e = by_test (keeps cond row) (selected-apart cond rows e.1)
  where
    by_test : (b : Bool) → AreApart (selected cond rows) → AreApart (map (λ r. r.rid) (if b then row ∷ filter (keeps cond) rows else filter (keeps cond) rows))
    by_test true more = (selected-each (λ q. is_same_rid row.rid q ≡ false) cond rows e.0, more)
    by_test false more = more

-- a row among rows apart is found at its identity
pub rows-found : (rows : List KeyedRow) → AreRowsApart rows → Each (λ (row : KeyedRow). row_at rows row.rid ≡ Some row.row) rows
rows-found [] e = tt
rows-found (row ∷ rows) e = (ap (λ b. if b then Some row.row else row_at rows row.rid) (is_same_rid-refl row.rid), behind rows e.0 (rows-found rows e.1))
  where
    behind : (rs : List KeyedRow) → Each (λ (r : KeyedRow). is_same_rid row.rid r.rid ≡ false) rs → Each (λ (r : KeyedRow). row_at rows r.rid ≡ Some r.row) rs → Each (λ (r : KeyedRow). row_at (row ∷ rows) r.rid ≡ Some r.row) rs
    behind [] a f = tt
    behind (r ∷ rs) a f = (ap (λ b. if b then Some row.row else row_at rows r.rid) a.0 ∙ f.0, behind rs a.1 f.1)

-- rows that rise are apart
each-less : (a : Rid) (rows : List KeyedRow) → AllByRecursion (λ r. rid_order a r ≡ Less) (map (λ (row : KeyedRow). row.rid) rows) → Each (λ (r : KeyedRow). is_same_rid a r.rid ≡ false) rows
each-less a [] e = tt
each-less a (r ∷ rs) e = (less_apart_back a r.rid e.0, each-less a rs e.1)

pub rising-apart : (rows : List KeyedRow) → AreRising rows → AreRowsApart rows
unfolding IsStrictlySortedBy
rising-apart [] e = tt
rising-apart (row ∷ rows) e = (each-less row.rid rows e.0, rising-apart rows e.1)
