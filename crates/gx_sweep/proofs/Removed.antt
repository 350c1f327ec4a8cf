-- A row that has lost the last version of its untouched part.
use Rattle.std.proofs.Common.{◌≡◌, ◌<◌, ◌≤◌, ◌+◌, ◌-◌, ◌++◌, ◌∷◌, ◌||◌, ◌&&◌, ℕ, Bool, true, false, not, List, take, drop, length, refl, sym, ap, ◌∙◌, if◌then◌else◌, arith}
use Rattle.std.proofs.Math.ListN.{get_or}
use Rattle.std.proofs.Math.Seq.{drop-append_seam}
use Rattle.std.proofs.lemmas.List.{drop_more, get_or_append_left, get_or-take, length-append, length-take-le, take-append-drop, take-append-le}
use Rattle.std.specs.List.{list_any}
use Rattle.gx_rows.specs.Counts.{is_committed}
use Rattle.gx_rows.specs.Rows.{is_unaborted}
use Rattle.gx_rows.specs.declared.status.LocalStatus.{LocalStatus}
use Rattle.gx_rows.specs.declared.status.LocalStatus.TheVariants.{Running, Prepared, Committed, Aborted}
use Rattle.gx_sweep.specs.Swept.{living}

pub unsettled : (s : LocalStatus) (past : Bool) → not (is_unaborted s) ≡ true → (is_committed s && past) ≡ false
unsettled Running past e = refl
unsettled Prepared past e = refl
unsettled Committed past e = absurd (cc)
unsettled Aborted past e = refl

module _ {X : Type 0} (all rest : List X) (n : ℕ) (more : 0 < n) (inside : n ≤ length all) where
  long : length (take n all) ≡ n
  long = length-take-le n all inside

  within : n - 1 ≤ length (take n all)
  within = let a = long in omega (arith, more)

  kept : take (n - 1) (take n all ++ rest) ≡ take (n - 1) all
  kept =
      take-append-le (n - 1) (take n all) rest within
      ∙ sym (take-append-le (n - 1) (take n all) (drop n all) within)
      ∙ ap (take (n - 1)) (take-append-drop n all)

  next : n - 1 + 1 ≡ length (take n all)
  next = let a = long in omega (arith, more)

  behind : drop (n - 1 + 1) (take n all ++ rest) ≡ rest
  behind = ap (λ (k : ℕ). drop k (take n all ++ rest)) next ∙ drop-append_seam (take n all) rest

  pub without-last : (xs new : List X) → xs ≡ take n all ++ rest → new ≡ take (n - 1) xs ++ drop (n - 1 + 1) xs → new ≡ take (n - 1) all ++ rest
  without-last xs new so_far e =
      e
      ∙ ap (λ (ys : List X). take (n - 1) ys ++ drop (n - 1 + 1) ys) so_far
      ∙ ap (λ (ys : List X). ys ++ drop (n - 1 + 1) (take n all ++ rest)) kept
      ∙ ap (λ (ys : List X). take (n - 1) all ++ ys) behind

  pub last-inside : (xs : List X) → xs ≡ take n all ++ rest → n - 1 < length xs
  last-inside xs so_far =
      let a = long in
      let b : length xs ≡ length (take n all) + length rest = ap length so_far ∙ length-append (take n all) rest in
      omega (arith, more)

  -- what is read there was there at the beginning
  pub last-read : (xs : List X) (d : X) → xs ≡ take n all ++ rest → get_or xs (n - 1) d ≡ get_or all (n - 1) d
  last-read xs d so_far =
      let a = long in
      ap (λ (ys : List X). get_or ys (n - 1) d) so_far
      ∙ get_or_append_left (take n all) rest d (n - 1) (omega (arith, more))
      ∙ get_or-take n all (n - 1) d (omega (arith, more))

module _ {X : Type 0} (aborted settled : X → Bool) (never : (x : X) → aborted x ≡ true → settled x ≡ false) (all : List X) (n : ℕ) (more : 0 < n) (inside : n ≤ length all) (d : X) where
  one_more : drop (n - 1) all ≡ get_or all (n - 1) d ∷ drop n all
  one_more =
      let next : n - 1 + 1 ≡ n = omega (arith, more) in
      drop_more all (n - 1) d (omega (arith, more, inside)) ∙ ap (λ (k : ℕ). get_or all (n - 1) d ∷ drop k all) next

  any_dead : (a s later : Bool) → (a ≡ true → s ≡ false) → (later || a) ≡ true → later ≡ (s || later)
  any_dead a true true f e = refl
  any_dead a false true f e = refl
  any_dead a false false f e = refl
  any_dead true true false f e = let g = f refl in absurd (cc)
  any_dead false true false f e = absurd (cc)

  turned : (a later : Bool) → (later || a) ≡ true → (a || later) ≡ true
  turned true later e = refl
  turned false true e = refl
  turned false false e = absurd (cc)

  -- the dead one falls out
  pub falls : (list_any settled (drop n all) || aborted (get_or all (n - 1) d)) ≡ true → living aborted settled (drop n all) ≡ living aborted settled (drop (n - 1) all)
  falls dead =
      sym
      (ap (living aborted settled) one_more
      ∙ ap (λ (b : Bool). if b then living aborted settled (drop n all) else get_or all (n - 1) d ∷ living aborted settled (drop n all)) (turned (aborted (get_or all (n - 1) d)) (list_any settled (drop n all)) dead))

  -- and settles nothing
  pub settles-none : (list_any settled (drop n all) || aborted (get_or all (n - 1) d)) ≡ true → list_any settled (drop n all) ≡ list_any settled (drop (n - 1) all)
  settles-none dead =
      any_dead (aborted (get_or all (n - 1) d)) (settled (get_or all (n - 1) d)) (list_any settled (drop n all)) (never (get_or all (n - 1) d)) dead
      ∙ sym (ap (list_any settled) one_more)
