-- An empty report of a segment where a transaction waits is refused.
use Rattle.std.proofs.Common.{◌≡◌, ℕ, [], ◌∷◌, inl, refl, ap, arith}
use Rattle.gx_ids.specs.declared.ids.Gxid.{Gxid}
use Rattle.gx_modes.specs.declared.modes.Mode.TheVariants.{Exclusive}
use Rattle.gx_script.specs.declared.Script.{Script}
use Rattle.gx_waits.specs.Claim.{IsEdge, IsEdgeOf, Meets, edge_of, in_the_way}
use Rattle.gx_waits.specs.declared.claim.Claim.{Claim}
use Rattle.gx_waits.specs.declared.object.Object.TheVariants.{Relation}
use Rattle.gx_waits.proofs.Members.{any_from_has, has_from_contains}
use Rattle.gx_store.specs.RefusedParts.{first_txn, second_txn}
use Rattle.gx_store.specs.RefusedRounds.{nothing_reported, watched}
use Rattle.gx_store.specs.RefusedWaits.{first_table}
use Rattle.gx_store.specs.Rounds.{AreRounds}

module _ (script : Script) where
  abbrev wait : Claim
  wait = record { gxid = second_txn; object = Relation first_table; mode = Exclusive }

  abbrev hold : Claim
  hold = record { gxid = first_txn; object = Relation first_table; mode = Exclusive }

  it-meets : Meets wait hold
  it-meets = record { other = λ e. differ second_txn.0 refl (ap (λ (g : Gxid). g.0) e); same_object = refl; conflicting = refl }
    where
      differ : (n : ℕ) → n ≡ 2 → n ≡ 1 → ⊥
      differ n d e = omega arith

  it-stands : IsEdge (wait ∷ []) (hold ∷ []) (edge_of wait hold)
  it-stands =
      any_from_has (λ w. IsEdgeOf w (in_the_way (hold ∷ []) (wait ∷ []) w) (edge_of wait hold)) (wait ∷ []) wait (inl refl)
      (any_from_has (λ h. Meets wait h × (edge_of wait hold ≡ edge_of wait h)) (hold ∷ []) hold (inl refl) (it-meets, refl))

  pub no-rounds : AreRounds (watched script) [] nothing_reported → ⊥
  no-rounds h = has_from_contains (edge_of wait hold) [] (h.5.5.5.1.0.tells.edges.all_of_them (edge_of wait hold) it-stands)
