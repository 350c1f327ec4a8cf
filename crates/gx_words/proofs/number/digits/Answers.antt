use Rattle.std.proofs.Common.{rules, ◌<◌, ◌+◌, List, ℕ, length, drop, get_or, sym, ap, ◌∙◌, arith}
use Rattle.std.proofs.lemmas.List.{drop_more}
use Rattle.gx_words.specs.Words.{fitting, number_behind}
use Rattle.gx_words.proofs.Numbers.{fitting-lost}
use Rattle.gx_words.proofs.number.digits.Goals as goal

pub returns-in_err-number : goal.returns-in_err-number
returns-in_err-number c =
    let i = c.loop-digit.digit-index in
    let inside : i < length c.args.digits.now = search (rules, arith) in
    ap fitting c.from_residual.ensures
    ∙ sym (fitting-lost c.loop-digit.number (get_or c.args.digits.now i 0) (drop (i + 1) c.args.digits.now) (sym c.in_err-number.ensures))
    ∙ sym (ap (λ (ds : List ℕ). fitting (number_behind c.loop-digit.number ds)) (drop_more c.args.digits.now i 0 inside)) ∙ c.loop-digit.invariant
