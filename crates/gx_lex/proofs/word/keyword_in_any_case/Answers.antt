use Rattle.std.proofs.Common.{◌≡◌, ℕ, List, ◌∷◌, suc, length, sym, ◌∙◌, ap}
use Rattle.gx_lex.specs.Lexing.{smalls}
use Rattle.gx_lex.specs.Words.{find, keyword_of}
use Rattle.gx_lex.proofs.Runs.{length_smalls}
use Rattle.gx_lex.proofs.word.keyword_in_any_case.Goals as goal

pub returns-in-Some : goal.returns-in-Some
returns-in-Some c =
    let others = c.in-Some._others.now in
    let spelled : smalls c.args.word.now ≡ c.small.result ∷ smalls others = ap smalls c.in-Some.ensures.cases.0 ∙ ap (λ (b : ℕ). b ∷ smalls others) (sym c.small.ensures) in
    let long = ap suc (length_smalls others) ∙ sym (ap length c.in-Some.ensures.cases.0) in
    c.find.ensures ∙ ap (λ (w : List ℕ). find w c.of_shape.result.now) spelled ∙ c.of_shape.ensures (smalls others) long ∙ ap keyword_of (sym spelled)
