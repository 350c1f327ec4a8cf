-- Where an entry stands in a list of them, and what a change of one value leaves.
use Rattle.std.specs.Prelude.{◌≡◌, ℕ, zero, suc, Bool, true, false, List, [], ◌∷◌, Option, cond}
use Rattle.std.specs.BTreeMap.{is_at}
use Rattle.std.specs.Map.{lookup}
use Rattle.gx_ids.specs.declared.ids.Gxid.{Gxid}
use Rattle.gx_dsnap.specs.Gxids.{gxid_cmp}

-- the first entry whose key passes stands at the place
abbrev pub StandsAt : {K X : Type 0} → (K → Bool) → List (K × X) → ℕ → Type 0
StandsAt test [] place = ⊥
StandsAt test (e ∷ es) zero = test e.0 ≡ true
StandsAt test (e ∷ es) (suc place) = (test e.0 ≡ false) × StandsAt test es place

-- this is found at the gxid, and at each other one what was found before
abbrev pub IsUpdated : {X : Type 0} → List (Gxid × X) → List (Gxid × X) → Gxid → Option X → Type 0
IsUpdated old new g value = (q : Gxid) → lookup (is_at (gxid_cmp q)) new ≡ cond (is_at (gxid_cmp g) q) value (lookup (is_at (gxid_cmp q)) old)
