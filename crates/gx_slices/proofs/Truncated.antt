-- The store with a higher horizon.
use Rattle.std.proofs.Common.{◌≡◌, ◌≤◌, List, [], ◌∷◌, map, refl, sym, ap, ◌∙◌, subst, Bool, true, false, cond, ltb, arith}
use Rattle.std.proofs.lemmas.Bool.Decides.{nat_tests}
use Rattle.std.specs.Prelude.{Option, None, Some, option_and_then, option_map}
use Rattle.std.specs.List.{AllByRecursion}
use Rattle.gx_ids.specs.declared.ids.Gxid.{Gxid}
use Rattle.gx_ids.specs.declared.ids.Lxid.{Lxid}
use Rattle.gx_ids.specs.declared.ids.Table.{Table}
use Rattle.gx_ids.specs.declared.rid.Rid.{Rid}
use Rattle.gx_rows.specs.declared.status.LocalStatus.{LocalStatus}
use Rattle.gx_rows.specs.declared.version.Version.{Version}
use Rattle.gx_rows.specs.Xids as xids
use Rattle.gx_rows.specs.Truncated.{IsTruncated}
use Rattle.gx_rows.specs.Xids.{Xids, gxid_of, is_given, kept, lxid_of}
use Rattle.gx_slices.specs.Store.{Write, forgotten, kept_at, status_of, writes_of}
use Rattle.gx_slices.specs.Filed.{IsFiled, IsSound, store_of, write_of}
use Rattle.gx_slices.proofs.KeptVersions.{kept_at-map}
use Rattle.gx_slices.proofs.Lists.{all_map}
use Rattle.gx_slices.proofs.Statuses.{none_some, some_same, status_of-lxid_of}

module _ (tables : List (Table × List (Rid × List Version))) (x x' : Xids) (h : Gxid) (sound : IsSound tables x) (is : IsTruncated x h x') where
  -- who has an entry still is from the horizon on, and had it
  was_lxid : (g : Gxid) (l : Lxid) (b : Bool) → ltb g.0 h.0 ≡ b → lxid_of x' g ≡ Some l → (h.0 ≤ g.0) × (lxid_of x g ≡ Some l)
  was_lxid g l true e at = absurd (none_some (sym (is.lxids g ∙ ap (λ (b : Bool). cond b None (lxid_of x g)) e) ∙ at))
  was_lxid g l false e at = (grind (arith, nat_tests, e), sym (is.lxids g ∙ ap (λ (b : Bool). cond b None (lxid_of x g)) e) ∙ at)

  still_lxid : (g : Gxid) → h.0 ≤ g.0 → lxid_of x' g ≡ lxid_of x g
  still_lxid g up = is.lxids g ∙ ap (λ (b : Bool). cond b None (lxid_of x g)) (not_below g up)
    where
      not_below : (g : Gxid) → h.0 ≤ g.0 → ltb g.0 h.0 ≡ false
      not_below g up = grind (arith, nat_tests)

  kept_up : (g : Gxid) → h.0 ≤ g.0 → kept h g ≡ Some g
  kept_up g up = ap (λ (b : Bool). cond b None (Some g)) (not_below g up)
    where
      not_below : (g : Gxid) → h.0 ≤ g.0 → ltb g.0 h.0 ≡ false
      not_below g up = grind (arith, nat_tests)

  kept_is : (r q : Gxid) (b : Bool) → ltb r.0 h.0 ≡ b → cond b None (Some r) ≡ Some q → (r ≡ q) × (h.0 ≤ r.0)
  kept_is r q true e at = absurd (none_some at)
  kept_is r q false e at = (some_same at, grind (arith, nat_tests, e))

  was_gxid : (l : Lxid) (q : Gxid) (o : Option Gxid) → gxid_of x l ≡ o → option_and_then (kept h) o ≡ Some q → (gxid_of x l ≡ Some q) × (h.0 ≤ q.0)
  was_gxid l q None e at = absurd (none_some at)
  was_gxid l q (Some r) e at =
      let k = kept_is r q (ltb r.0 h.0) refl at in
      (e ∙ ap Some k.0, subst (λ (g : Gxid). h.0 ≤ g.0) k.0 k.1)

  given_same : (l : Lxid) → is_given x' l ≡ is_given x l
  given_same l = ap (λ n. is_given (record x { given = n }) l) is.given

  greatest : (g : Gxid) (b : Bool) → ltb x.horizon.0 h.0 ≡ b → h.0 ≤ g.0 → x.horizon.0 ≤ g.0 → (cond b h x.horizon).0 ≤ g.0
  greatest g true e up from = up
  greatest g false e up from = from

  pub IsSound-truncated : IsSound tables x'
  IsSound-truncated = record {
    there = λ g l at.
        let was = was_lxid g l (ltb g.0 h.0) refl at in
        is.gxids l ∙ ap (option_and_then (kept h)) (sound.there g l was.1) ∙ kept_up g was.0;
    back = λ g l at.
        let was = was_gxid l g (gxid_of x l) refl (sym (is.gxids l) ∙ at) in
        still_lxid g was.1 ∙ sound.back g l was.0;
    given = λ g l at. given_same l ∙ sound.given g l (was_lxid g l (ltb g.0 h.0) refl at).1;
    high = λ g l at.
        let was = was_lxid g l (ltb g.0 h.0) refl at in
        subst (λ (k : Gxid). k.0 ≤ g.0) (sym is.horizon) (greatest g (ltb x.horizon.0 h.0) refl was.0 (sound.high g l was.1));
    filed = λ t r. all_map (λ v filed. (filed.0, given_same v.lxid ∙ filed.1)) (kept_at tables t r) (sound.filed t r);
  }

  write_forgotten : (v : Version) → write_of x' v ≡ forgotten h (write_of x v)
  write_forgotten v =
      ap (λ (o : Option Gxid). let w : Write = record { writer = o; cid = v.cid; status = xids.status_of x' v.lxid; image = v.image } in w) (is.gxids v.lxid)
      ∙ ap (λ (s : LocalStatus). let w : Write = record { writer = option_and_then (kept h) (gxid_of x v.lxid); cid = v.cid; status = s; image = v.image } in w) (is.statuses v.lxid)

  all_forgotten : (vs : List Version) → map (write_of x') vs ≡ map (forgotten h) (map (write_of x) vs)
  all_forgotten [] = refl
  all_forgotten (v ∷ vs) =
      ap (λ (w : Write). w ∷ map (write_of x') vs) (write_forgotten v) ∙ ap (λ (ws : List Write). forgotten h (write_of x v) ∷ ws) (all_forgotten vs)

  pub writes_of-truncated : (t : Table) (r : Rid) → writes_of (store_of tables x') t r ≡ map (forgotten h) (writes_of (store_of tables x) t r)
  writes_of-truncated t r =
      kept_at-map (write_of x') r tables t ∙ all_forgotten (kept_at tables t r) ∙ ap (map (forgotten h)) (sym (kept_at-map (write_of x) r tables t))

  statuses_same : (o : Option Lxid) → option_map (xids.status_of x') o ≡ option_map (xids.status_of x) o
  statuses_same None = refl
  statuses_same (Some l) = ap Some (is.statuses l)

  pub status_of-truncated : (g : Gxid) → h.0 ≤ g.0 → status_of (store_of tables x') g ≡ status_of (store_of tables x) g
  status_of-truncated g up =
      status_of-lxid_of tables x' g ∙ ap (option_map (xids.status_of x')) (still_lxid g up) ∙ statuses_same (lxid_of x g) ∙ sym (status_of-lxid_of tables x g)
