-- The keys of the groups: each key that a row has stands once.
use Rattle.std.proofs.Common.{◌||◌, ℕ, ◌≡◌, ◌∙◌, Bool, true, false, cond, not, List, [], ◌∷◌, filter, map, refl, ap, sym}
use Rattle.std.specs.List.{list_any}
use Rattle.gx_tree.specs.declared.row.KeyedRow.{KeyedRow}
use Rattle.gx_tree.specs.declared.value.Value.{Value}
use Rattle.gx_meaning.specs.Groups.{is_same_key, key_of, keys_of, once}
use Rattle.gx_gather.specs.Laws.{rising-equiv}
use Rattle.gx_meaning.specs.Tallies.{has_group}
use Rattle.gx_gather.proofs.Orders.{same-exact}

-- ---- a filter of a filter
module _ {X : Type 0} (p r : X → Bool) where
  filter-none-step : ((x : X) → p x ≡ true → r x ≡ false) → (x : X) (xs : List X) (a b : Bool) → p x ≡ a → r x ≡ b → filter p (filter r xs) ≡ [] → filter p (cond b (x ∷ filter r xs) (filter r xs)) ≡ []
  filter-none-step apart x xs true true t u more = let e : true ≡ false = sym u ∙ apart x t in cc
  filter-none-step apart x xs false true t u more = ap (λ b. cond b (x ∷ filter p (filter r xs)) (filter p (filter r xs))) t ∙ more
  filter-none-step apart x xs a false t u more = more

  pub filter-none : ((x : X) → p x ≡ true → r x ≡ false) → (xs : List X) → filter p (filter r xs) ≡ []
  filter-none apart [] = refl
  filter-none apart (x ∷ xs) = filter-none-step apart x xs (p x) (r x) refl refl (filter-none apart xs)

  filter-through-step : ((x : X) → p x ≡ true → r x ≡ true) → (x : X) (xs : List X) (a b : Bool) → p x ≡ a → r x ≡ b → filter p (filter r xs) ≡ filter p xs → filter p (cond b (x ∷ filter r xs) (filter r xs)) ≡ cond a (x ∷ filter p xs) (filter p xs)
  filter-through-step within x xs true true t u more = ap (λ b. cond b (x ∷ filter p (filter r xs)) (filter p (filter r xs))) t ∙ ap (λ l. x ∷ l) more
  filter-through-step within x xs false true t u more = ap (λ b. cond b (x ∷ filter p (filter r xs)) (filter p (filter r xs))) t ∙ more
  filter-through-step within x xs true false t u more = let e : true ≡ false = sym (within x t) ∙ u in cc
  filter-through-step within x xs false false t u more = more

  pub filter-through : ((x : X) → p x ≡ true → r x ≡ true) → (xs : List X) → filter p (filter r xs) ≡ filter p xs
  filter-through within [] = refl
  filter-through within (x ∷ xs) = filter-through-step within x xs (p x) (r x) refl refl (filter-through within xs)

-- ---- keys that stand once
not-true : (b : Bool) → b ≡ true → not b ≡ false
not-true true e = refl
not-true false e = cc

not-false : (b : Bool) → b ≡ false → not b ≡ true
not-false true e = cc
not-false false e = refl

-- x is the same as q, and so is y
both-same : (q x y : List Value) → is_same_key q x ≡ true → is_same_key q y ≡ true → is_same_key x y ≡ true
both-same q x y a b = sym (rising-equiv.congr q x y a) ∙ b

-- x isn't the same as q, and y is
one-same : (q x y : List Value) → is_same_key q x ≡ false → is_same_key q y ≡ true → is_same_key x y ≡ false
one-same q x y a b = rising-equiv.symm x y ∙ sym (rising-equiv.congr q y x b) ∙ a

-- a key, where it stands
abbrev pub if_there : Bool → List Value → List (List Value)
if_there true q = q ∷ []
if_there false q = []

once-step : (q x : List Value) (ks : List (List Value)) (b : Bool) → is_same_key q x ≡ b → filter (is_same_key q) (once is_same_key ks) ≡ if_there (list_any (is_same_key q) ks) q → cond b (x ∷ filter (is_same_key q) (filter (λ y. not (is_same_key x y)) (once is_same_key ks))) (filter (is_same_key q) (filter (λ y. not (is_same_key x y)) (once is_same_key ks))) ≡ if_there (b || (list_any (is_same_key q) ks)) q
once-step q x ks true same more =
    ap (λ l. x ∷ l) (filter-none (is_same_key q) (λ y. not (is_same_key x y)) (λ y e. not-true (is_same_key x y) (both-same q x y same e)) (once is_same_key ks))
    ∙ ap (λ k. k ∷ []) (sym (same-exact q x same))
once-step q x ks false same more =
    filter-through (is_same_key q) (λ y. not (is_same_key x y)) (λ y e. not-false (is_same_key x y) (one-same q x y same e)) (once is_same_key ks) ∙ more

pub filter-once : (q : List Value) (ks : List (List Value)) → filter (is_same_key q) (once is_same_key ks) ≡ if_there (list_any (is_same_key q) ks) q
filter-once q [] = refl
filter-once q (x ∷ ks) = once-step q x ks (is_same_key q x) refl (filter-once q ks)

any-map : {X Y : Type 0} (p : Y → Bool) (f : X → Y) (xs : List X) → list_any p (map f xs) ≡ list_any (λ x. p (f x)) xs
any-map p f [] = refl
any-map p f (x ∷ xs) = ap (λ b. (p (f x)) || b) (any-map p f xs)

only-step : (q : List Value) (b : Bool) → is_same_key q [] ≡ b → cond b ([] ∷ []) [] ≡ if_there b q
only-step q true same = ap (λ k. k ∷ []) (sym (same-exact q [] same))
only-step q false same = refl

no-columns : (q : List Value) (rows : List KeyedRow) (b : Bool) → is_same_key q [] ≡ b → b || (list_any (λ row. is_same_key q (key_of [] row)) rows) ≡ b
no-columns q rows true same = refl
no-columns q [] false same = refl
no-columns q (row ∷ rows) false same = ap (λ b. b || (list_any (λ row. is_same_key q (key_of [] row)) rows)) same ∙ no-columns q rows false same

-- what stands at a key among the keys of the groups
pub filter-keys_of : (group : List ℕ) (rows : List KeyedRow) (q : List Value) → filter (is_same_key q) (keys_of group rows) ≡ if_there (has_group group rows q) q
filter-keys_of [] rows q = only-step q (is_same_key q []) refl ∙ ap (λ b. if_there b q) (sym (no-columns q rows (is_same_key q []) refl))
filter-keys_of (column ∷ columns) rows q =
    filter-once q (map (key_of (column ∷ columns)) rows) ∙ ap (λ b. if_there b q) (any-map (is_same_key q) (key_of (column ∷ columns)) rows)
