use Rattle.std.proofs.Common.{ℕ, ◌≡◌, IfOk, sym, ◌∙◌, subst}
use Rattle.gx_explain.specs.declared.attempt.Attempt.{Attempt}
use Rattle.gx_explain.specs.Reasons.{reason_utf8}
use Rattle.gx_explain.specs.Top.{IsOfBytes}
use Rattle.gx_explain.proofs.Attempts.{of-utf8}
use Rattle.gx_explain.proofs.attempt.explained.Goals as goal

pub returns-in-Err : goal.returns-in-Err
returns-in-Err c =
    subst (λ (a : Attempt). IsOfBytes c.args.bytes.now a) (sym c.refused.ensures)
    (of-utf8 c.args.bytes.now c.utf8_text.result c.in-Err.ensures.cases.0
    (subst (λ (n : ℕ). IfOk c.utf8_text.result (λ text. text.items ≡ reason_utf8 n)) (c.valid_up_to.ensures ∙ c.in-Err.ensures.valid_len) c.utf8_text.ensures))
