use Rattle.std.proofs.Common.{◌≡◌, List, [], ◌∷◌, ◌++◌, ℕ, sym, ◌∙◌, ap, take, drop}
use Rattle.gx_lex.specs.declared.token.Token.{Token}
use Rattle.std.specs.List.{list_any, prefix_len}
use Rattle.gx_lex.specs.Lexing.{is_word_byte, is_capital, smalls}
use Rattle.gx_lex.specs.Reader.{Gap, word_token, lex_on}
use Rattle.gx_lex.proofs.Runs.{word_read}
use Rattle.gx_lex.proofs.cut.word.Goals as goal

pub returns-clause-said : goal.returns-clause-said
returns-clause-said c out =
    let line = c.args.line.now in
    let front : c.split_at.result.0.now ≡ take (prefix_len is_word_byte line) line = c.split_at.ensures.front ∙ ap (λ (n : ℕ). take n line) c.word_len.ensures.value in
    let back : c.split_at.result.1.now ≡ drop (prefix_len is_word_byte line) line = c.split_at.ensures.back ∙ ap (λ (n : ℕ). drop n line) c.word_len.ensures.value in
    word_read line out
    ∙ ap (λ (w : List ℕ). lex_on (drop (prefix_len is_word_byte line) line) (out ++ word_token (smalls w) (list_any is_capital w) ∷ []) Gap) (sym front)
    ∙ ap (λ (t : Token). lex_on (drop (prefix_len is_word_byte line) line) (out ++ t ∷ []) Gap) (sym c.word_token.ensures)
    ∙ ap (λ (rest : List ℕ). lex_on rest (out ++ c.word_token.result ∷ []) Gap) (sym back)
