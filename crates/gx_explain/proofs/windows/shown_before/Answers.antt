use Rattle.std.proofs.Common.{◌∙◌, arith, sym, take}
use Rattle.gx_explain.proofs.Chars.{near-within, shown-long}
use Rattle.gx_explain.specs.Windows.{chars}
use Rattle.gx_explain.proofs.windows.shown_before.Goals as goal

pub returns-then-chars-ge-HALF : goal.returns-then-chars-ge-HALF
returns-then-chars-ge-HALF c =
    let within = near-within c.args.line.now c.saturating_sub.result c.args.at (omega (arith, c.saturating_sub.ensures)) in
    shown-long c.args.line.now (chars (take c.args.at c.args.line.now)) (sym c.is_short.ensures ∙ c.if-is_short.false) (omega (arith, c.if-chars-ge-HALF.true, c.chars-2.ensures, within))
