-- The least waiter that isn't active.
use Rattle.std.proofs.Common.{◌≡◌, ◌<◌, ◌≤◌, List, [], ◌∷◌, ◌++◌, ◌||◌, Bool, true, false, cond, map, ◌⊎◌, inl, inr, ⊎_elim, sym, ◌∙◌, ap, subst, arith, append_assoc, append-nil, refl}
use Rattle.std.proofs.lemmas.Bool.{eq-eqb, eqb-true, ltb-false, ltb-true, or_parts}
use Rattle.std.proofs.lemmas.List.Elements.{Contains-append_left, Contains-push, Contains-push_cases}
use Rattle.std.specs.Prelude.{Contains, Option, None, Some, fold, nat_lt, ◌==◌}
use Rattle.gx_ids.specs.declared.ids.Gxid.{Gxid}
use Rattle.gx_waits.specs.declared.placed_edge.PlacedEdge.{PlacedEdge}
use Rattle.gx_waits.specs.Closed.{IsStuck, IsNamedInStuck}
use Rattle.gx_waits.specs.Victims.{IsLeastInactive}
use Rattle.gx_waits.proofs.Determined.{same_gxid}
use Rattle.gx_waits.proofs.Members.{Has, has_from_contains, contains_from_has}
use Rattle.gx_waits.proofs.StuckWaits.{named_waits}
use Rattle.gx_detect.proofs.Stuck.{map_has, has_map}
use Rattle.gx_detect.specs.Inactive.{is_in, lesser, with_waiter}

found : (active : List Gxid) (v : Gxid) → is_in active v ≡ true → Has v active
found [] v e = absurd (never e)
  where
    never : false ≡ true → ⊥
    never e = cc
found (w ∷ ws) v e = go (w.0 == v.0) (λ t. same_gxid w v (eqb-true w.0 v.0 t)) (found ws v) e
  where
    go : (b : Bool) → (b ≡ true → w ≡ v) → (is_in ws v ≡ true → Has v ws) → (b || is_in ws v) ≡ true → (w ≡ v) ⊎ Has v ws
    go true same rest t = inl (same refl)
    go false same rest t = inr (rest t)

missed : (active : List Gxid) (v : Gxid) → is_in active v ≡ false → Has v active → ⊥
missed [] v e h = h
missed (w ∷ ws) v e (inl same) = apart (sym (eq-eqb w.0 v.0 (ap (λ (g : Gxid). g.0) same)) ∙ (or_parts (w.0 == v.0) (is_in ws v) e).0)
  where
    apart : true ≡ false → ⊥
    apart e = cc
missed (w ∷ ws) v e (inr h) = missed ws v ((or_parts (w.0 == v.0) (is_in ws v) e).1) h

-- the least of these that isn't active, if there is one
abbrev pub IsLeastOf : List Gxid → List Gxid → Option Gxid → Type 0
IsLeastOf active gs None = (w : Gxid) → Contains gs w → Contains active w
IsLeastOf active gs (Some v) = Contains gs v × (Contains active v → ⊥) × ((w : Gxid) → Contains gs w → w.0 < v.0 → Contains active w)

-- one more
module _ (active gs : List Gxid) (g : Gxid) where
  passed : (seen : Option Gxid) → Contains active g → IsLeastOf active gs seen → IsLeastOf active (gs ++ g ∷ []) seen
  passed None here least = λ w c. ⊎_elim (λ (o : Contains gs w). least w o) (λ (e : g ≡ w). subst (λ x. Contains active x) e here)
      (Contains-push_cases gs g w c)
  passed (Some v) here least = (
    Contains-append_left gs (g ∷ []) v least.0,
    least.1,
    λ w c l. ⊎_elim (λ (o : Contains gs w). least.2 w o l) (λ (e : g ≡ w). subst (λ x. Contains active x) e here) (Contains-push_cases gs g w c),
  )

  is_new : (Contains active g → ⊥) → ((w : Gxid) → Contains gs w → w.0 < g.0 → Contains active w) → IsLeastOf active (gs ++ g ∷ []) (Some g)
  is_new out below = (
    Contains-push gs g,
    out,
    λ w c l. ⊎_elim (λ (o : Contains gs w). below w o l) (λ (e : g ≡ w). let number : g.0 ≡ w.0 = ap (λ (x : Gxid). x.0) e in absurd (omega arith))
        (Contains-push_cases gs g w c),
  )

  is_old : (v : Gxid) → v.0 < g.0 → IsLeastOf active gs (Some v) → IsLeastOf active (gs ++ g ∷ []) (Some v)
  is_old v less least = (
    Contains-append_left gs (g ∷ []) v least.0,
    least.1,
    λ w c l. ⊎_elim (λ (o : Contains gs w). least.2 w o l) (λ (e : g ≡ w). let number : g.0 ≡ w.0 = ap (λ (x : Gxid). x.0) e in absurd (omega arith))
        (Contains-push_cases gs g w c),
  )

  taken : (seen : Option Gxid) → (Contains active g → ⊥) → IsLeastOf active gs seen → IsLeastOf active (gs ++ g ∷ []) (Some (lesser seen g))
  taken None out least = is_new out (λ w o l. least w o)
  taken (Some v) out least = go (nat_lt v.0 g.0) refl
    where
      go : (b : Bool) → nat_lt v.0 g.0 ≡ b → IsLeastOf active (gs ++ g ∷ []) (Some (cond b v g))
      go true t = is_old v (ltb-true v.0 g.0 t) least
      go false t = let upper : g.0 ≤ v.0 = ltb-false v.0 g.0 t in is_new out (λ w o l. least.2 w o (omega arith))

  one_more : (seen : Option Gxid) → IsLeastOf active gs seen → IsLeastOf active (gs ++ g ∷ []) (cond (is_in active g) seen (Some (lesser seen g)))
  one_more seen least = go (is_in active g) refl
    where
      go : (b : Bool) → is_in active g ≡ b → IsLeastOf active (gs ++ g ∷ []) (cond b seen (Some (lesser seen g)))
      go true t = passed seen (contains_from_has g active (found active g t)) least
      go false t = taken seen (λ c. missed active g t (has_from_contains g active c)) least

abbrev pub waiters_of : List PlacedEdge → List Gxid
waiters_of edges = map (λ e. e.edge.waiter) edges

of_edges : (active gs : List Gxid) (seen : Option Gxid) (edges : List PlacedEdge) → IsLeastOf active gs seen
    → IsLeastOf active (gs ++ waiters_of edges) (fold (with_waiter active) seen edges)
of_edges active gs seen [] least = subst (λ xs. IsLeastOf active xs seen) (sym (append-nil gs)) least
of_edges active gs seen (e ∷ es) least =
    subst (λ xs. IsLeastOf active xs (fold (with_waiter active) (with_waiter active seen e) es)) (append_assoc gs (e.edge.waiter ∷ []) (waiters_of es))
    (of_edges active (gs ++ e.edge.waiter ∷ []) (with_waiter active seen e) es (one_more active gs e.edge.waiter seen least))

-- of just the stuck edges
module _ (edges stuck : List PlacedEdge) (active : List Gxid)
    (exact : (e : PlacedEdge) → (Contains stuck e → IsStuck edges e) × (IsStuck edges e → Contains stuck e)) where
  stuck_waits : (v : Gxid) → IsNamedInStuck edges v → Contains (waiters_of stuck) v
  stuck_waits v (e, is, named) =
      let f = named_waits edges is.set is.closed is.within e v (has_from_contains e is.set is.member) named in
      let there : Contains stuck f.0 = (exact f.0).1
      (record { set = is.set; closed = is.closed; within = is.within; member = contains_from_has f.0 is.set f.1 }) in
      let waits = has_map (λ e. e.edge.waiter) stuck f.0 (has_from_contains f.0 stuck there) in
      contains_from_has v (waiters_of stuck) (subst (λ w. Has w (waiters_of stuck)) f.2 waits)

  waits_stuck : (v : Gxid) → Contains (waiters_of stuck) v → IsNamedInStuck edges v
  waits_stuck v c =
      let e = map_has (λ e. e.edge.waiter) stuck v (has_from_contains v (waiters_of stuck) c) in
      (e.0, (exact e.0).0 (contains_from_has e.0 stuck e.1), inl e.2)

  least : (o : Option Gxid) → o ≡ fold (with_waiter active) None stuck → IsLeastOf active (waiters_of stuck) o
  least o is = subst (λ x. IsLeastOf active (waiters_of stuck) x) (sym is) (of_edges active [] None stuck (λ w c. absurd (has_from_contains w [] c)))

  pub is_least_inactive : (v : Gxid) → Some v ≡ fold (with_waiter active) None stuck → IsLeastInactive edges active v
  is_least_inactive v is =
      let found = least (Some v) is in
      record { stuck = waits_stuck v found.0; inactive = found.1; least = λ w named l. found.2 w (stuck_waits w named) l }

  pub all_active : None ≡ fold (with_waiter active) None stuck → (v : Gxid) → IsNamedInStuck edges v → Contains active v
  all_active is v named = least None is v (stuck_waits v named)
