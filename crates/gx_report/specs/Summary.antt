-- The line that tells of a run of generated work.
use Rattle.std.specs.Prelude.{ℕ, ℤ, pos, ◌+ℤ◌, Bool, true, false, List, [], ◌∷◌, ◌++◌, codes, count_by, fold, length, slice_get, sum_by, Some, None}
use Rattle.std.specs.Fmt.{decimal, signed_decimal}
use Rattle.std.specs.declared.alloc.Global.{Global}
use Rattle.std.specs.declared.option.Option.{Option}
use Rattle.std.specs.declared.vec.Vec.{Vec}
use Rattle.gx_script.specs.declared.Script.{Script}
use Rattle.gx_store.specs.declared.answer.StmtAnswer.{StmtAnswer}
use Rattle.gx_store.specs.declared.answer.StmtAnswer.TheVariants as answer
use Rattle.gx_store.specs.declared.mark.Mark.{Mark}
use Rattle.gx_store.specs.declared.mark.Mark.TheVariants.{Answer}
use Rattle.gx_store.specs.declared.run.Run.{Run}
use Rattle.gx_store.specs.declared.run.Step.{Step}
use Rattle.gx_tree.specs.declared.row.KeyedRow.{KeyedRow}
use Rattle.gx_tree.specs.declared.value.Value.{Value}
use Rattle.gx_tree.specs.declared.value.Value.TheVariants.{Int, Text}

abbrev pub says_commit : StmtAnswer → Bool
says_commit answer.Commit = true
says_commit said = false

abbrev pub says_refusal : StmtAnswer → Bool
says_refusal (answer.Refused reason) = true
says_refusal said = false

-- the mark answers a line by COMMIT
unfoldable pub is_commit : Mark → Bool
is_commit (Answer session number said) = says_commit said
is_commit mark = false

-- the mark refuses a line
unfoldable pub is_refusal : Mark → Bool
is_refusal (Answer session number said) = says_refusal said
is_refusal mark = false

-- how many lines a step answers by COMMIT, and how many it refuses
abbrev pub commits_in : Step → ℕ
commits_in step = count_by is_commit step.marks

abbrev pub refusals_in : Step → ℕ
refusals_in step = count_by is_refusal step.marks

abbrev pub number_in : Option Value → ℤ
number_in (Some (Int number)) = number
number_in (Some (Text bytes)) = pos 0
number_in None = pos 0

-- the second value of an account is its balance
abbrev pub balance : KeyedRow → ℤ
balance row = number_in (slice_get row.row 1)

abbrev pub total_balance : List KeyedRow → ℤ
total_balance rows = fold (λ sum row. sum +ℤ balance row) (pos 0) rows

-- generated work has one table, that of the accounts
abbrev pub accounts_in : List (Vec KeyedRow Global) → List KeyedRow
accounts_in [] = []
accounts_in (rows ∷ tables) = rows.items

-- the number that the work was made from, how many lines it has, how many commits and refusals were answered, how many accounts there are
-- now, and the sum of their balances
abbrev pub summary_of : ℕ → Script → Run → List (Vec KeyedRow Global) → List ℕ
summary_of number script run tables =
    codes "gen " ++ decimal number ++ codes ": lines " ++ decimal (length script.lines) ++ codes ", commits " ++ decimal (sum_by commits_in run.steps)
    ++ codes ", refusals " ++ decimal (sum_by refusals_in run.steps)
    ++ codes ", rows " ++ decimal (length (accounts_in tables))
    ++ codes ", sum " ++ signed_decimal (total_balance (accounts_in tables))
    ++ codes "\n"
