-- Words, signs, names, and lists.
use Rattle.std.specs.Prelude.{ℕ, ◌==◌, nat_le, Bool, false, if◌then◌else◌, List, ◌∷◌, length}
use Rattle.gx_lex.specs.Words as words
use Rattle.gx_lex.specs.Symbols as symbols
use Rattle.gx_lex.specs.declared.word.Word.{Word}
use Rattle.gx_lex.specs.declared.symbol.Symbol.{Symbol}
use Rattle.gx_lex.specs.declared.symbol.Symbol.TheVariants as symbol
use Rattle.gx_lex.specs.declared.token.Token.{Token}
use Rattle.gx_lex.specs.declared.token.Token.TheVariants as token
use Rattle.gx_grammar.specs.declared.fault.Limits.{Limits}
use Rattle.gx_grammar.specs.declared.fault.LineLimit.TheVariants as limit
use Rattle.gx_grammar.specs.Rules.{Pick, Is, Isnt, Passes, one, both, many, made, behind, marked, Reading, one_at, both_at, many_at, made_at, behind_at}

abbrev pub is_word : Word → Token → Bool
is_word w (token.Word v) = words.number_of v == words.number_of w
is_word w _ = false

abbrev pub is_sign : Symbol → Token → Bool
is_sign s (token.Symbol t) = symbols.number_of t == symbols.number_of s
is_sign s _ = false

-- a name that is short enough
abbrev pub name_of : Limits → Token → Pick (List ℕ)
name_of d (token.Name n) = if nat_le (length n) d.name then Is n else Passes limit.Name
name_of d _ = Isnt

abbrev pub is_comma : Token → Bool
is_comma y = is_sign symbol.Comma y

-- listed = g { "," g }
abbrev pub listed : {A : Type 0} → (A → List Token → Type 0) → List A → List Token → Type 0
listed g = made (λ p. p.0 ∷ p.1) (both g (many (behind is_comma g)))

abbrev pub listed_at : {A : Type 0} → (List Token → Reading A) → List Token → Reading (List A)
listed_at r = made_at (λ p. p.0 ∷ p.1) (both_at r (many_at is_comma (behind_at is_comma r)))

-- enclosed = "(" g ")"
abbrev pub enclosed : {A : Type 0} → (A → List Token → Type 0) → A → List Token → Type 0
enclosed g = made (λ p. p.0) (both (behind (is_sign symbol.Open) g) (one (marked (is_sign symbol.Close))))

abbrev pub enclosed_at : {A : Type 0} → (List Token → Reading A) → List Token → Reading A
enclosed_at r = made_at (λ p. p.0) (both_at (behind_at (is_sign symbol.Open) r) (one_at (marked (is_sign symbol.Close))))
