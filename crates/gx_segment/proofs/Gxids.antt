-- Gxids as keys.
use Rattle.std.proofs.Common.{◌≡◌, ◌≢◌, ◌<◌, ◌≤◌, true, false, eqb, arith}
use Rattle.std.proofs.lemmas.Bool.Decides.{nat_tests}
use Rattle.std.specs.BTreeMap.{is_at}
use Rattle.gx_ids.specs.declared.ids.Gxid.{Gxid}
use Rattle.gx_dsnap.specs.Gxids.{gxid_cmp}

pub same_gxid : (g h : Gxid) → eqb h.0 g.0 ≡ true → g ≡ h
same_gxid g h e = grind (arith, nat_tests)

pub apart : (g h : Gxid) → eqb h.0 g.0 ≡ false → h.0 ≢ g.0
apart g h e = λ f. grind (arith, nat_tests)

pub below : (g h k : Gxid) → h.0 < k.0 → k.0 ≤ g.0 → h.0 ≢ g.0
below g h k under alive = λ same. omega (arith, under, alive, same)

pub is_at-gxid : (g h : Gxid) → is_at (gxid_cmp g) h ≡ eqb h.0 g.0
is_at-gxid g h = grind (arith, nat_tests)

pub is_at-apart : (g h : Gxid) → h.0 ≢ g.0 → is_at (gxid_cmp g) h ≡ false
is_at-apart g h e = grind (arith, nat_tests)
