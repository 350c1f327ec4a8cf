use Rattle.std.proofs.Common.{◌≡◌, ◌-◌, ◌≤◌, ◌∙◌, ℕ, arith, refl, take}
use Rattle.gx_explain.proofs.Chars.{behind-near}
use Rattle.gx_explain.specs.Windows.{chars}
use Rattle.gx_explain.proofs.windows.behind_from.Goals as goal

pub returns-then-shown-count : goal.returns-then-shown-count
returns-then-shown-count c =
    let place = chars (take c.args.at c.args.line.now) in
    c.behind_chars.ensures
    ∙ behind-near c.args.line.now c.saturating_sub-near.result c.args.at (place - c.args.shown) place c.args.shown c.chars-count.result
    (omega (arith, c.saturating_sub-near.ensures)) refl c.chars-count.ensures (back c.args.shown place c.requires.before) (less c.args.shown place) (omega (arith, c.if-shown-count.true))
  where
    back : (n m : ℕ) → n ≤ m → n ≡ m - (m - n)
    back n m h = omega (arith, h)

    less : (n m : ℕ) → m - n ≤ m
    less n m = omega arith
