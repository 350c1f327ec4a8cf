-- The members of a list below a limit.
use Rattle.std.proofs.Common.{◌≡◌, ◌<◌, List, true, sym, subst, arith}
use Rattle.std.proofs.lemmas.Bool.Decides.{nat_tests}
use Rattle.std.proofs.lemmas.List.Kept.{IsStrictlySortedBy-filter}
use Rattle.std.proofs.lemmas.List.Elements.{filter_passes, All-weaker}
use Rattle.std.specs.Prelude.{All, filter}
use Rattle.gx_ids.specs.declared.ids.Gxid.{Gxid}
use Rattle.gx_dsnap.specs.Gxids.{IsRising, is_below, gxid_cmp}

pub IsRising-below : (below gxids : List Gxid) (limit : Gxid) → below ≡ filter (is_below limit) gxids → IsRising gxids → IsRising below
IsRising-below below gxids limit are rising = subst IsRising (sym are) (IsStrictlySortedBy-filter gxid_cmp (is_below limit) gxids rising)

is_below-lt : (limit g : Gxid) → is_below limit g ≡ true → g.0 < limit.0
is_below-lt limit g passes = grind (arith, nat_tests)

pub All-below : (below gxids : List Gxid) (limit : Gxid) → below ≡ filter (is_below limit) gxids → All (λ g. g.0 < limit.0) below
All-below below gxids limit are =
    subst (All (λ g. g.0 < limit.0)) (sym are) (All-weaker (λ g. is_below limit g ≡ true) (λ g. g.0 < limit.0) (is_below-lt limit) (filter (is_below limit) gxids) (filter_passes (is_below limit) gxids))
