-- The line of an answer, with its session and number.
use Rattle.std.specs.Prelude.{ℕ, ◌^◌, ◌==◌, if◌then◌else◌, List, ◌++◌, Option, Some, None, option_and_then, codes}
use Rattle.std.specs.Fmt.{decimal}
use Rattle.gx_trace.specs.Readers.{Front, behind, number_below}
use Rattle.gx_trace_lines.specs.Heads.{head, head_text}
use Rattle.gx_trace_lines.specs.declared.heads.AnswerHead.{AnswerHead}

-- the first line of the answer to a session's line of this number
abbrev pub answer_head_text : List ℕ → ℕ → AnswerHead → List ℕ
answer_head_text name number said = name ++ (codes "." ++ (decimal number ++ (codes " " ++ head_text said)))

abbrev pub kept_number : ℕ → ℕ × List ℕ → Front (Unit {0})
kept_number n x = if x.0 == n then Some (tt, x.1) else None

-- this very number
abbrev pub exactly : ℕ → List ℕ → Front (Unit {0})
exactly n bytes = option_and_then (kept_number n) (number_below (2 ^ 32) bytes)

abbrev pub behind_number : {A : Type 0} → ℕ → (List ℕ → Front A) → List ℕ → Front A
behind_number n read bytes = option_and_then (λ x. read x.1) (exactly n bytes)

abbrev pub answer_head : List ℕ → ℕ → List ℕ → Front AnswerHead
answer_head name number = behind name (behind (codes ".") (behind_number number (behind (codes " ") head)))
