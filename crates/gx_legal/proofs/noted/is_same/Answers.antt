use Rattle.std.proofs.Common.{sym, ◌∙◌}
use Rattle.gx_legal.proofs.Equal.{images-decided}
use Rattle.gx_legal.proofs.noted.is_same.Goals as goal

pub returns : goal.returns
returns c =
    let decided = images-decided c.args.image.now c.args.other.now in
    (λ t. decided.0 (sym c.is_same_image-is.ensures ∙ t), λ same. c.is_same_image-is.ensures ∙ decided.1 same)
