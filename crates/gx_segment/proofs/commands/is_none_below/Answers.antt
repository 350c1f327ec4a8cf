use Rattle.std.proofs.Common.{◌≡◌, List, [], ◌∷◌, ◌<◌, length, true, false, refl, arith}
use Rattle.std.proofs.lemmas.Bool.Decides.{nat_tests}
use Rattle.gx_ids.specs.declared.ids.Gxid.{Gxid}
use Rattle.gx_segment.proofs.Below.{none_below-first, none_below-nobody}
use Rattle.gx_segment.proofs.commands.is_none_below.Goals as goal

empty : (ks : List Gxid) → (0 < length ks → false ≡ true) → ks ≡ []
empty [] none = refl
empty (k ∷ ks) none = absurd (differ (none (omega arith)))
  where
    differ : false ≡ true → ⊥
    differ e = cc

pub returns-in-Some : goal.returns-in-Some
returns-in-Some c = none_below-first c.args.holders.now c.in-Some.first.now c.args.low.0 c.in-Some.ensures.member c.in-Some.ensures.least c.le.result (grind (arith, nat_tests, c.le.ensures))

pub returns-in-None : goal.returns-in-None
returns-in-None c = none_below-nobody c.args.holders.now c.args.low.0 (empty c.args.holders.now.keys c.in-None.ensures.variant.1)
