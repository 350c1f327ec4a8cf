-- A row that was swept is swept.
use Rattle.std.proofs.Common.{◌≡◌, List, [], ◌∷◌, Bool, true, false, ◌||◌, if◌then◌else◌, refl, sym, ap, ◌∙◌}
use Rattle.std.specs.List.{list_any}
use Rattle.gx_ids.specs.declared.ids.Gxid.{Gxid}
use Rattle.gx_ids.specs.declared.ids.Table.{Table}
use Rattle.gx_ids.specs.declared.rid.Rid.{Rid}
use Rattle.gx_sweep.specs.Swept.{is_dead, living}
use Rattle.gx_slices.specs.Store.{Store, Write, has_aborted, is_settled, swept, writes_of}
use Rattle.gx_slices.specs.Sweeping.{IsSwept}

neither : (a b : Bool) → (a || b) ≡ false → (a ≡ false) × (b ≡ false)
neither true b e = absurd (cc)
neither false b e = (refl, e)

none-of : (a b : Bool) → a ≡ false → b ≡ false → (a || b) ≡ false
none-of a b e f = ap (λ x. x || b) e ∙ f

module _ {X : Type 0} (aborted settled : X → Bool) where
  living-none : (xs : List X) → list_any settled xs ≡ false → list_any settled (living aborted settled xs) ≡ false
  living-none [] e = refl
  living-none (x ∷ xs) e = by (is_dead aborted settled x xs) (living-none xs (neither (settled x) (list_any settled xs) e).1)
    where
      by : (b : Bool) → list_any settled (living aborted settled xs) ≡ false → list_any settled (if b then living aborted settled xs else x ∷ living aborted settled xs) ≡ false
      by true h = h
      by false h = none-of (settled x) (list_any settled (living aborted settled xs)) (neither (settled x) (list_any settled xs) e).0 h

  living-twice : (xs : List X) → living aborted settled (living aborted settled xs) ≡ living aborted settled xs
  living-twice [] = refl
  living-twice (x ∷ xs) = by (is_dead aborted settled x xs) refl (living-twice xs)
    where
      by : (b : Bool) → is_dead aborted settled x xs ≡ b → living aborted settled (living aborted settled xs) ≡ living aborted settled xs
          → living aborted settled (if b then living aborted settled xs else x ∷ living aborted settled xs) ≡ (if b then living aborted settled xs else x ∷ living aborted settled xs)
      by true dead more = more
      by false dead more =
          let apart = neither (aborted x) (list_any settled xs) dead in
          ap (λ b. if b then living aborted settled (living aborted settled xs) else x ∷ living aborted settled (living aborted settled xs))
          (none-of (aborted x) (list_any settled (living aborted settled xs)) apart.0 (living-none xs apart.1))
          ∙ ap (λ ys. x ∷ ys) more

pub swept-twice : (old new : Store) (table : Table) (rid : Rid) → writes_of new table rid ≡ swept old (writes_of old table rid) → new.horizon ≡ old.horizon → IsSwept new table rid
swept-twice old new table rid is low =
    ap (λ (h : Gxid). living has_aborted (is_settled h) (writes_of new table rid)) low
    ∙ ap (living has_aborted (is_settled old.horizon)) is
    ∙ living-twice has_aborted (is_settled old.horizon) (writes_of old table rid)
    ∙ sym is
