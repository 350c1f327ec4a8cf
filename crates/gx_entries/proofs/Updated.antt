-- What a change of one value leaves at each gxid.
use Rattle.std.proofs.Common.{◌≡◌, ◌∙◌, ℕ, Bool, true, false, cond, List, [], ◌∷◌, ◌++◌, Option, Some, None, get_or, slice_set, refl, sym, ap, subst}
use Rattle.std.specs.BTreeMap.{is_at}
use Rattle.std.specs.List.{remove}
use Rattle.std.specs.Map.{lookup}
use Rattle.gx_ids.specs.declared.ids.Gxid.{Gxid}
use Rattle.gx_dsnap.specs.Gxids.{gxid_cmp}
use Rattle.gx_entries.specs.Standing.{IsUpdated, StandsAt}
use Rattle.gx_entries.proofs.Gxids.{alike, apart, itself}
use Rattle.gx_entries.proofs.Stood.{pushed-apart, pushed-same, removed-apart, set-apart, set-same}

module _ {X : Type 0} (es : List (Gxid × X)) (g : Gxid) where
  by-gxid : (fs : List (Gxid × X)) (w : Option X) → lookup (is_at (gxid_cmp g)) fs ≡ w → ((q : Gxid) → is_at (gxid_cmp g) q ≡ false → lookup (is_at (gxid_cmp q)) fs ≡ lookup (is_at (gxid_cmp q)) es) → IsUpdated es fs g w
  by-gxid fs w here others q = by (is_at (gxid_cmp g) q) refl
    where
      by : (b : Bool) → is_at (gxid_cmp g) q ≡ b → lookup (is_at (gxid_cmp q)) fs ≡ cond b w (lookup (is_at (gxid_cmp q)) es)
      by true e = subst (λ (k : Gxid). lookup (is_at (gxid_cmp k)) fs ≡ w) (sym (alike g q e)) here
      by false e = others q e

  pub set-updates : (p : ℕ) (d : Gxid × X) (w : X) → StandsAt (is_at (gxid_cmp g)) es p → IsUpdated es (slice_set es p ((get_or es p d).0, w)) g (Some w)
  set-updates p d w s = by-gxid _ (Some w) (set-same (is_at (gxid_cmp g)) es p d w s) (λ q e. set-apart (is_at (gxid_cmp g)) (is_at (gxid_cmp q)) (apart g q e) es p d w s)

  pub push-updates : (w : X) → lookup (is_at (gxid_cmp g)) es ≡ None → IsUpdated es (es ++ (g, w) ∷ []) g (Some w)
  push-updates w none = by-gxid _ (Some w) (pushed-same (is_at (gxid_cmp g)) es g w none (itself g)) (λ q e. pushed-apart (is_at (gxid_cmp g)) (is_at (gxid_cmp q)) (apart g q e) es g w (itself g))

  -- what isn't there is as if it were taken out
  pub none-updates : lookup (is_at (gxid_cmp g)) es ≡ None → IsUpdated es es g None
  none-updates none = by-gxid es None none (λ q e. refl)

  pub removed-others : (p : ℕ) → StandsAt (is_at (gxid_cmp g)) es p → (q : Gxid) → cond (is_at (gxid_cmp g) q) None (lookup (is_at (gxid_cmp q)) (remove es p)) ≡ cond (is_at (gxid_cmp g) q) None (lookup (is_at (gxid_cmp q)) es)
  removed-others p s q = by (is_at (gxid_cmp g) q) refl
    where
      by : (b : Bool) → is_at (gxid_cmp g) q ≡ b → cond b None (lookup (is_at (gxid_cmp q)) (remove es p)) ≡ cond b None (lookup (is_at (gxid_cmp q)) es)
      by true e = refl
      by false e = removed-apart (is_at (gxid_cmp g)) (is_at (gxid_cmp q)) (apart g q e) es p s
