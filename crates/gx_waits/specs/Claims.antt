-- Claims that stand at a node: those that are held, or those that are waited for.
use Rattle.std.specs.Prelude.{◌==◌, Bool, not, if◌then◌else◌, List, [], ◌∷◌, ◌++◌, filter}
use Rattle.std.specs.List.{list_any}
use Rattle.gx_ids.specs.declared.ids.Gxid.{Gxid}
use Rattle.gx_modes.specs.declared.modes.Mode.{Mode}
use Rattle.gx_waits.specs.Claim.{in_the_way, meets, same_claim}
use Rattle.gx_waits.specs.declared.claim.Claim.{Claim}
use Rattle.gx_waits.specs.declared.object.Object.{Object}

abbrev pub claim : Gxid → Object → Mode → Claim
claim g object mode = record { gxid = g; object = object; mode = mode }

-- whether the claim is the transaction's
abbrev pub is_of : Gxid → Claim → Bool
is_of g claim = claim.gxid.0 == g.0

-- with one more; one that stands already isn't added again
abbrev pub with_claim : Claim → List Claim → List Claim
with_claim new claims = if list_any (same_claim new) claims then claims else claims ++ new ∷ []

-- without one
abbrev pub without_claim : Claim → List Claim → List Claim
without_claim old claims = filter (λ other. not (same_claim old other)) claims

-- without those of a transaction
abbrev pub without : Gxid → List Claim → List Claim
without g claims = filter (λ claim. not (is_of g claim)) claims

-- whether a claim meets none of these
abbrev pub is_free : List Claim → Claim → Bool
is_free claims claim = not (list_any (meets claim) claims)

-- whether a claim's way is clear: nothing that is held, or waited for ahead of it, meets it
abbrev pub is_clear : List Claim → List Claim → Claim → Bool
is_clear holds waits claim = is_free (in_the_way holds waits claim) claim
