use Rattle.std.proofs.Common.{rules}
use Rattle.std.proofs.lemmas.Slice.Eq.{slice_eq-Decides}
use Rattle.gx_judging.proofs.victims.are_same.Goals as goal

pub returns : goal.returns
returns c =
    let d = slice_eq-Decides (λ a b. search rules) c.args.a.now c.args.b.now c.eq.result c.eq.ensures in
    (λ t. d.0 t, λ e. d.1 e)
