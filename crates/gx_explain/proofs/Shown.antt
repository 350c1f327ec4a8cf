-- What is shown of a line, from what was found in it.
use Rattle.std.proofs.Common.{◌≡◌, ℕ, List, ◌++◌, ◌∙◌, ap, append_assoc, refl}
use Rattle.gx_lex.specs.declared.token.Token.{Token}
use Rattle.gx_lex.specs.Lexing.{Lexes}
use Rattle.gx_sql.specs.declared.refusal.LineFault.{LineFault}
use Rattle.gx_sql.specs.Progress.{Progress}
use Rattle.gx_explain.specs.Places.{IsPlace}
use Rattle.gx_explain.specs.Tails.{IsTail}
use Rattle.gx_explain.specs.Top.{IsShown}
use Rattle.gx_explain.specs.Windows.{chars_before, window}

pub shown-with : (p : Progress) (f : LineFault) (line tail old now text words : List ℕ) (tokens : List Token) (place : ℕ) → Lexes tokens line → IsPlace p f tokens place → IsTail place line tail
    → now ≡ old ++ window line (chars_before line tail) → text ≡ now ++ words → (shown : List ℕ) × (more : List ℕ) × IsShown p f line shown × (text ≡ old ++ (shown ++ more))
shown-with p f line tail old now text words tokens place cut is from n t = (
  window line (chars_before line tail),
  words,
  record { tokens = tokens; cut = cut; place = place; is = is; tail = tail; from = from; told = refl },
  t ∙ ap (λ (x : List ℕ). x ++ words) n ∙ append_assoc old (window line (chars_before line tail)) words,
)
