-- Rows without a condition.
use Rattle.std.proofs.Common.{◌≡◌, List, [], ◌∷◌, Option, None, filter, refl, sym, ap, subst}
use Rattle.gx_tree.specs.declared.cond.Cond.{Cond}
use Rattle.gx_tree.specs.declared.row.KeyedRow.{KeyedRow}
use Rattle.gx_meaning.specs.Answer.{keeps}
use Rattle.gx_rules.specs.Slices.{first_fault}

none_faults : (rows : List KeyedRow) → first_fault None rows ≡ None
none_faults [] = refl
none_faults (row ∷ rows) = none_faults rows

all_kept : (rows : List KeyedRow) → rows ≡ filter (keeps None) rows
all_kept [] = refl
all_kept (row ∷ rows) = ap (λ l. row ∷ l) (all_kept rows)

pub picked-all : (cond : Option Cond) (rows : List KeyedRow) → cond ≡ None → (first_fault cond rows ≡ None) × (rows ≡ filter (keeps cond) rows)
picked-all cond rows none = subst (λ (o : Option Cond). (first_fault o rows ≡ None) × (rows ≡ filter (keeps o) rows)) (sym none) (none_faults rows, all_kept rows)
