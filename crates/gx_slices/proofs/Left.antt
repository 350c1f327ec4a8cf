-- The writes that are left of a row's versions.
use Rattle.std.proofs.Common.{◌≡◌, ◌⊎◌, inl, inr, ⊎_elim, Bool, true, false, cond, if◌then◌else◌, ◌||◌, List, [], ◌∷◌, ◌++◌, Option, Some, None, map, filter, refl, sym, ap, ◌∙◌}
use Rattle.std.proofs.lemmas.List.Folds.{list_any-append}
use Rattle.std.specs.List.{AllByRecursion, list_any}
use Rattle.std.specs.Option.{option_or}
use Rattle.std.specs.Prelude.{is_some, option_map}
use Rattle.gx_rows.specs.Rows.{last_passing}
use Rattle.gx_rules.specs.Segments.{Version}
use Rattle.gx_slices.specs.Left.{IsLeft}
use Rattle.gx_slices.specs.Store.{Write}
use Rattle.gx_slices.proofs.Lists.{last_passing-cons, or_mapped, or_none}
use Rattle.gx_sweep.specs.Swept.{is_dead, living}

or_right : (a b c : Bool) → (b ≡ true → c ≡ true) → (a || b) ≡ true → (a || c) ≡ true
or_right true b c more e = refl
or_right false b c more e = more e

or_both : (a b c d : Bool) → (a ≡ true → c ≡ true) → (b ≡ true → d ≡ true) → (a || b) ≡ true → (c || d) ≡ true
or_both true b true d first later e = refl
or_both true b false d first later e = absurd (differ (first refl))
  where
    differ : false ≡ true → ⊥
    differ f = cc
or_both false b true d first later e = refl
or_both false b false d first later e = later e

or_first : (a b : Bool) → a ≡ true → (a || b) ≡ true
or_first true b e = refl
or_first false b e = absurd (cc)

-- ONE VERSION MORE
module _ (Of : Write → Version → Type 0) (aborted settled : Version → Bool) where
  -- the dead one is left out
  pub left-without : (v : Version) (ws : List Write) (vs : List Version) → is_dead aborted settled v vs ≡ true → IsLeft Of aborted settled ws vs → IsLeft Of aborted settled ws (v ∷ vs)
  left-without v [] vs dead is = (dead, is)
  left-without v (w ∷ ws) vs dead is = inr (dead, is)

  dead-push : (u v : Version) (vs : List Version) → is_dead aborted settled u vs ≡ true → is_dead aborted settled u (vs ++ v ∷ []) ≡ true
  dead-push u v vs dead =
      or_right (aborted u) (list_any settled vs) (list_any settled (vs ++ v ∷ []))
      (λ e. list_any-append settled vs (v ∷ []) ∙ or_first (list_any settled vs) (settled v || false) e)
      dead

  pub left-push : (x : Write) (v : Version) → Of x v → (ws : List Write) (vs : List Version) → IsLeft Of aborted settled ws vs → IsLeft Of aborted settled (ws ++ x ∷ []) (vs ++ v ∷ [])
  left-push x v its [] [] is = inl (its, tt)
  left-push x v its (w ∷ ws) [] is = absurd is
  left-push x v its [] (u ∷ vs) is = inr (dead-push u v vs is.0, left-push x v its [] vs is.1)
  left-push x v its (w ∷ ws) (u ∷ vs) is =
      ⊎_elim
      (λ (same : Of w u × IsLeft Of aborted settled ws vs). inl (same.0, left-push x v its ws vs same.1))
      (λ (gone : (is_dead aborted settled u vs ≡ true) × IsLeft Of aborted settled (w ∷ ws) vs). inr (dead-push u v vs gone.0, left-push x v its (w ∷ ws) vs gone.1))
      is

-- MORE THAT ARE DEAD
module _ (Of Of' : Write → Version → Type 0) (aborted settled aborted' settled' : Version → Bool) (first : (v : Version) → aborted v ≡ true → aborted' v ≡ true) (later : (v : Version) → settled v ≡ true → settled' v ≡ true) where
  any-weaker : (vs : List Version) → list_any settled vs ≡ true → list_any settled' vs ≡ true
  any-weaker [] e = absurd (cc)
  any-weaker (v ∷ vs) e = or_both (settled v) (list_any settled vs) (settled' v) (list_any settled' vs) (later v) (any-weaker vs) e

  dead-weaker : (v : Version) (vs : List Version) → is_dead aborted settled v vs ≡ true → is_dead aborted' settled' v vs ≡ true
  dead-weaker v vs dead = or_both (aborted v) (list_any settled vs) (aborted' v) (list_any settled' vs) (first v) (any-weaker vs) dead

  pub left-weaker : ((w : Write) (v : Version) → Of w v → Of' w v) → (ws : List Write) (vs : List Version) → IsLeft Of aborted settled ws vs → IsLeft Of' aborted' settled' ws vs
  left-weaker told [] [] is = tt
  left-weaker told (w ∷ ws) [] is = absurd is
  left-weaker told [] (v ∷ vs) is = (dead-weaker v vs is.0, left-weaker told [] vs is.1)
  left-weaker told (w ∷ ws) (v ∷ vs) is =
      ⊎_elim
      (λ (same : Of w v × IsLeft Of aborted settled ws vs). inl (told w v same.0, left-weaker told ws vs same.1))
      (λ (gone : (is_dead aborted settled v vs ≡ true) × IsLeft Of aborted settled (w ∷ ws) vs). inr (dead-weaker v vs gone.0, left-weaker told (w ∷ ws) vs gone.1))
      is

  -- and what becomes of each write
  pub left-mapped : (f : Write → Write) → ((w : Write) (v : Version) → Of w v → Of' (f w) v) → (ws : List Write) (vs : List Version) → IsLeft Of aborted settled ws vs → IsLeft Of' aborted' settled' (map f ws) vs
  left-mapped f told [] [] is = tt
  left-mapped f told (w ∷ ws) [] is = absurd is
  left-mapped f told [] (v ∷ vs) is = (dead-weaker v vs is.0, left-mapped f told [] vs is.1)
  left-mapped f told (w ∷ ws) (v ∷ vs) is =
      ⊎_elim
      (λ (same : Of w v × IsLeft Of aborted settled ws vs). inl (told w v same.0, left-mapped f told ws vs same.1))
      (λ (gone : (is_dead aborted settled v vs ≡ true) × IsLeft Of aborted settled (w ∷ ws) vs). inr (dead-weaker v vs gone.0, left-mapped f told (w ∷ ws) vs gone.1))
      is

-- WHAT A SWEEP LEAVES
module _ (Of : Write → Version → Type 0) (aborted settled : Version → Bool) (gone past : Write → Bool) (first : (w : Write) (v : Version) → Of w v → gone w ≡ true → aborted v ≡ true) (later : (w : Write) (v : Version) → Of w v → past w ≡ true → settled v ≡ true) where
  -- what is settled among the writes is so among the versions
  any-left : (ws : List Write) (vs : List Version) → IsLeft Of aborted settled ws vs → list_any past ws ≡ true → list_any settled vs ≡ true
  any-left [] vs is e = absurd (cc)
  any-left (w ∷ ws) [] is e = absurd is
  any-left (w ∷ ws) (v ∷ vs) is e =
      ⊎_elim
      (λ (same : Of w v × IsLeft Of aborted settled ws vs). or_both (past w) (list_any past ws) (settled v) (list_any settled vs) (later w v same.0) (any-left ws vs same.1) e)
      (λ (out : (is_dead aborted settled v vs ≡ true) × IsLeft Of aborted settled (w ∷ ws) vs). or_later (settled v) (list_any settled vs) (any-left (w ∷ ws) vs out.1 e))
      is
    where
      or_later : (a b : Bool) → b ≡ true → (a || b) ≡ true
      or_later true b e = refl
      or_later false b e = e

  kept_once : (w : Write) (ws : List Write) (v : Version) (vs : List Version) (b : Bool) → is_dead gone past w ws ≡ b → Of w v → IsLeft Of aborted settled ws vs → IsLeft Of aborted settled (living gone past ws) vs
      → IsLeft Of aborted settled (if b then living gone past ws else w ∷ living gone past ws) (v ∷ vs)
  kept_once w ws v vs true e same is more =
      left-without Of aborted settled v (living gone past ws) vs
      (or_both (gone w) (list_any past ws) (aborted v) (list_any settled vs) (first w v same) (any-left ws vs is) e)
      more
  kept_once w ws v vs false e same is more = inl (same, more)

  pub left-living : (ws : List Write) (vs : List Version) → IsLeft Of aborted settled ws vs → IsLeft Of aborted settled (living gone past ws) vs
  left-living [] [] is = tt
  left-living (w ∷ ws) [] is = absurd is
  left-living [] (v ∷ vs) is = is
  left-living (w ∷ ws) (v ∷ vs) is =
      ⊎_elim
      (λ (same : Of w v × IsLeft Of aborted settled ws vs). kept_once w ws v vs (is_dead gone past w ws) refl same.0 same.1 (left-living ws vs same.1))
      (λ (out : (is_dead aborted settled v vs ≡ true) × IsLeft Of aborted settled (w ∷ ws) vs).
      left-without Of aborted settled v (living gone past (w ∷ ws)) vs out.0 (left-living (w ∷ ws) vs out.1))
      is

-- WHAT A READER TAKES
or_found : {X : Type 0} (o p : Option X) → is_some o ≡ true → option_or o p ≡ o
or_found None p e = absurd (cc)
or_found (Some w) p e = refl

-- one who takes none of an aborted transaction, and each that is settled
module _ (Of : Write → Version → Type 0) (aborted settled : Version → Bool) (p : Write → Bool) (q : Version → Bool) (agree : (w : Write) (v : Version) → Of w v → p w ≡ q v) (there : Version → Bool) (never : (v : Version) → aborted v ≡ true → q v ≡ false) (always : (v : Version) → there v ≡ true → settled v ≡ true → q v ≡ true) where
  abbrev taken : List Version → Option Version
  taken vs = last_passing q vs

  found_first : (v : Version) (vs : List Version) (a b : Bool) → settled v ≡ a → list_any settled vs ≡ b → there v ≡ true → (a || b) ≡ true → (b ≡ true → is_some (taken vs) ≡ true) → is_some (option_or (taken vs) (cond (q v) (Some v) None)) ≡ true
  found_first v vs a true f g is e more = ap is_some (or_found (taken vs) (cond (q v) (Some v) None) (more refl)) ∙ more refl
  found_first v vs true false f g is e more = ap (λ (b : Bool). is_some (option_or (taken vs) (cond b (Some v) None))) (always v is f) ∙ either (taken vs)
    where
      either : (o : Option Version) → is_some (option_or o (Some v)) ≡ true
      either None = refl
      either (Some w) = refl
  found_first v vs false false f g is e more = absurd (cc)

  found-settled : (vs : List Version) → AllByRecursion (λ v. there v ≡ true) vs → list_any settled vs ≡ true → is_some (taken vs) ≡ true
  found-settled [] all e = absurd (cc)
  found-settled (v ∷ vs) all e =
      ap is_some (last_passing-cons q v vs)
      ∙ found_first v vs (settled v) (list_any settled vs) refl refl all.0 e (λ (f : list_any settled vs ≡ true). found-settled vs all.1 f)

  taken-dead : (v : Version) (vs : List Version) → AllByRecursion (λ v. there v ≡ true) vs → is_dead aborted settled v vs ≡ true → taken (v ∷ vs) ≡ taken vs
  taken-dead v vs all dead = last_passing-cons q v vs ∙ by_test (aborted v) refl
    where
      by_test : (a : Bool) → aborted v ≡ a → option_or (taken vs) (cond (q v) (Some v) None) ≡ taken vs
      by_test true f = ap (λ (b : Bool). option_or (taken vs) (cond b (Some v) None)) (never v f) ∙ or_none (taken vs)
      by_test false f = or_found (taken vs) (cond (q v) (Some v) None) (found-settled vs all (ap (λ (b : Bool). b || list_any settled vs) (sym f) ∙ dead))

  -- takes the same of the writes that are left, by what a write and its version both tell
  module _ {Y : Type 0} (of_write : Write → Y) (of_version : Version → Y) (same_told : (w : Write) (v : Version) → Of w v → of_write w ≡ of_version v) where
    pub taken-left : (ws : List Write) (vs : List Version) → AllByRecursion (λ v. there v ≡ true) vs → IsLeft Of aborted settled ws vs → option_map of_write (last_passing p ws) ≡ option_map of_version (taken vs)
    taken-left [] [] all is = refl
    taken-left (w ∷ ws) [] all is = absurd is
    taken-left [] (v ∷ vs) all is = taken-left [] vs all.1 is.1 ∙ sym (ap (option_map of_version) (taken-dead v vs all.1 is.0))
    taken-left (w ∷ ws) (v ∷ vs) all is =
        ⊎_elim
        (λ (same : Of w v × IsLeft Of aborted settled ws vs).
        ap (option_map of_write) (last_passing-cons p w ws)
        ∙ or_mapped of_write w (last_passing p ws) (p w)
        ∙ ap (λ (o : Option Y). option_or o (cond (p w) (Some (of_write w)) None)) (taken-left ws vs all.1 same.1)
        ∙ ap (λ (b : Bool). option_or (option_map of_version (taken vs)) (cond b (Some (of_write w)) None)) (agree w v same.0)
        ∙ ap (λ (y : Y). option_or (option_map of_version (taken vs)) (cond (q v) (Some y) None)) (same_told w v same.0)
        ∙ sym (or_mapped of_version v (taken vs) (q v))
        ∙ sym (ap (option_map of_version) (last_passing-cons q v vs)))
        (λ (out : (is_dead aborted settled v vs ≡ true) × IsLeft Of aborted settled (w ∷ ws) vs). taken-left (w ∷ ws) vs all.1 out.1 ∙ sym (ap (option_map of_version) (taken-dead v vs all.1 out.0)))
        is

-- what holds of all versions holds of a row's
pub all-filter : (P : Version → Type 0) (q : Version → Bool) (vs : List Version) → AllByRecursion P vs → AllByRecursion P (filter q vs)
all-filter P q [] all = tt
all-filter P q (v ∷ vs) all = either (q v) (all-filter P q vs all.1)
  where
    either : (b : Bool) → AllByRecursion P (filter q vs) → AllByRecursion P (if b then v ∷ filter q vs else filter q vs)
    either true more = (all.0, more)
    either false more = more
