use Rattle.std.proofs.Common.{◌≡◌, ◌∷◌, ◌∙◌, [], Bool, ap, false, not, refl, sym, true}
use Rattle.std.specs.Prelude.{◌||◌}
use Rattle.gx_agenda.proofs.Waiting.{none-waits}
use Rattle.gx_agenda.proofs.asked.Asked.is_passed_over.Goals as goal

off : (b : Bool) → not b ≡ true → b ≡ false
off true e = absurd (cc)
off false e = refl

pub returns-then-is_empty : goal.returns-then-is_empty
returns-then-is_empty c = λ passed.
    none-waits c.args.self.now (c.args.mark.now ∷ []) (c.is_empty.ensures.0 c.if-is_empty.true) (ap (λ b. b || false) (sym c.begins.ensures ∙ off c.begins.result passed))
