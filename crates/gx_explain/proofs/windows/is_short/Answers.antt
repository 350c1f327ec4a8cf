use Rattle.std.proofs.Common.{◌==◌, ◌∙◌, List, ℕ, ap, length}
use Rattle.gx_explain.proofs.Chars.{behind-none}
use Rattle.gx_explain.proofs.windows.is_short.Goals as goal

pub returns : goal.returns
returns c = c.is_empty.ensures ∙ ap (λ (xs : List ℕ). length xs == 0) c.behind_chars.ensures ∙ behind-none 100 c.args.line.now
