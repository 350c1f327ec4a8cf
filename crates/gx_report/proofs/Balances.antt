-- The sum of balances, row by row.
use Rattle.std.proofs.Common.{◌≡◌, ℕ, ◌+◌, ◌<◌, ℤ, pos, ◌+ℤ◌, List, length, get_or, take, ap, sym, ◌∙◌}
use Rattle.std.proofs.lemmas.List.Sums.{fold_more}
use Rattle.gx_tree.specs.declared.row.KeyedRow.{KeyedRow}
use Rattle.gx_report.specs.Summary.{balance, total_balance}

pub total_balance-next : (rows : List KeyedRow) (i : ℕ) (row : KeyedRow) (sum added : ℤ) → i < length rows → row ≡ get_or rows i row → sum ≡ total_balance (take i rows) → added ≡ balance row → sum +ℤ added ≡ total_balance (take (i + 1) rows)
total_balance-next rows i row sum added inside is before more =
    ap (λ s. s +ℤ added) before ∙ ap (λ b. total_balance (take i rows) +ℤ b) (more ∙ ap balance is) ∙ sym (fold_more (λ s r. s +ℤ balance r) (pos 0) rows i row inside)
