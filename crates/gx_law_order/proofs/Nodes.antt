-- Who is among nodes.
use Rattle.std.proofs.Common.{◌≡◌, ℕ, List, [], ◌∷◌, ◌++◌, Bool, true, false, refl, sym, subst, ap, ◌∙◌, if◌then◌else◌, ◌||◌, cond, arith, eqb}
use Rattle.std.proofs.lemmas.Bool.Decides.{nat_tests}
use Rattle.std.proofs.lemmas.List.{append_assoc}
use Rattle.std.specs.Prelude.{filter, nat_lt, not}
use Rattle.gx_lemmas.proofs.Tests.{or-assoc}
use Rattle.gx_ids.specs.declared.ids.Node.{Node}
use Rattle.gx_dtx.specs.Nodes.{has, with_node, without}
use Rattle.gx_law_order.proofs.Lists.{each_append, each_filter}
use Rattle.gx_law_order.specs.Lists.{Each}

pub has-append : (i : Node) (xs ys : List Node) → has i (xs ++ ys) ≡ (has i xs || has i ys)
has-append i [] ys = refl
has-append i (x ∷ xs) ys = ap (λ b. eqb x.0 i.0 || b) (has-append i xs ys) ∙ or-assoc (eqb x.0 i.0) (has i xs) (has i ys)

has-filter : (t : Node → Bool) (i x : Node) (xs : List Node) (b : Bool) → has i (cond b (x ∷ filter t xs) (filter t xs)) ≡ ((if b then eqb x.0 i.0 else false) || has i (filter t xs))
has-filter t i x xs true = refl
has-filter t i x xs false = refl

pub has-without : (i j : Node) (xs : List Node) → has i (without j xs) ≡ (if eqb j.0 i.0 then false else has i xs)
has-without i j [] = none (eqb j.0 i.0)
  where
    none : (b : Bool) → false ≡ (if b then false else false)
    none true = refl
    none false = refl
has-without i j (x ∷ xs) = has-filter (λ y. not (eqb y.0 j.0)) i x xs (not (eqb x.0 j.0)) ∙ plain i.0 j.0 x.0 (has i (without j xs)) (has i xs) (has-without i j xs)
  where
    plain : (i j x : ℕ) (a b : Bool) → a ≡ (if eqb j i then false else b) → ((if not (eqb x j) then eqb x i else false) || a) ≡ (if eqb j i then false else (eqb x i || b))
    plain i j x a b e = grind (arith, nat_tests)

split-has : (i j : Node) (xs : List Node) → eqb j.0 i.0 ≡ false → (has i (filter (λ y. nat_lt y.0 j.0) xs) || has i (filter (λ y. nat_lt j.0 y.0) xs)) ≡ has i xs
split-has i j [] e = refl
split-has i j (x ∷ xs) e =
    ap (λ b. b || has i (filter (λ y. nat_lt j.0 y.0) (x ∷ xs))) (has-filter (λ y. nat_lt y.0 j.0) i x xs (nat_lt x.0 j.0))
    ∙ ap (λ b. ((if nat_lt x.0 j.0 then eqb x.0 i.0 else false) || has i (filter (λ y. nat_lt y.0 j.0) xs)) || b) (has-filter (λ y. nat_lt j.0 y.0) i x xs (nat_lt j.0 x.0))
    ∙ plain i.0 j.0 x.0 (has i (filter (λ y. nat_lt y.0 j.0) xs)) (has i (filter (λ y. nat_lt j.0 y.0) xs)) (has i xs) e (split-has i j xs e)
  where
    plain : (i j x : ℕ) (a b c : Bool) → eqb j i ≡ false → (a || b) ≡ c → (((if nat_lt x j then eqb x i else false) || a) || ((if nat_lt j x then eqb x i else false) || b)) ≡ (eqb x i || c)
    plain i j x a b c e f = grind (arith, nat_tests)

has-at : (i j : ℕ) → eqb j i ≡ true → (xs : List Node) → has (record { 0 = i }) xs ≡ has (record { 0 = j }) xs
has-at i j e [] = refl
has-at i j e (x ∷ xs) = plain i j x.0 (has (record { 0 = i }) xs) (has (record { 0 = j }) xs) e (has-at i j e xs)
  where
    plain : (i j x : ℕ) (a b : Bool) → eqb j i ≡ true → a ≡ b → (eqb x i || a) ≡ (eqb x j || b)
    plain i j x a b e f = grind (arith, nat_tests)

pub has-with : (i j : Node) (xs : List Node) → has i (with_node j xs) ≡ (eqb j.0 i.0 || has i xs)
has-with i j xs = by_has (has j xs) refl
  where
    inside : (b a : Bool) → eqb j.0 i.0 ≡ b → has j xs ≡ true → has i xs ≡ (b || has i xs)
    inside true a e h = has-at i.0 j.0 e xs ∙ h
    inside false a e h = refl

    both : (b : Bool) → eqb j.0 i.0 ≡ b → has i (filter (λ y. nat_lt y.0 j.0) xs ++ j ∷ filter (λ y. nat_lt j.0 y.0) xs) ≡ (b || has i xs)
    both b e = has-append i (filter (λ y. nat_lt y.0 j.0) xs) (j ∷ filter (λ y. nat_lt j.0 y.0) xs) ∙ by_same b e
      where
        middle : (a b : Bool) → (a || (true || b)) ≡ true
        middle true b = refl
        middle false b = refl

        by_same : (b : Bool) → eqb j.0 i.0 ≡ b → (has i (filter (λ y. nat_lt y.0 j.0) xs) || (eqb j.0 i.0 || has i (filter (λ y. nat_lt j.0 y.0) xs))) ≡ (b || has i xs)
        by_same true e = ap (λ q. has i (filter (λ y. nat_lt y.0 j.0) xs) || (q || has i (filter (λ y. nat_lt j.0 y.0) xs))) e ∙ middle (has i (filter (λ y. nat_lt y.0 j.0) xs)) (has i (filter (λ y. nat_lt j.0 y.0) xs))
        by_same false e = ap (λ q. has i (filter (λ y. nat_lt y.0 j.0) xs) || (q || has i (filter (λ y. nat_lt j.0 y.0) xs))) e ∙ split-has i j xs e

    by_has : (a : Bool) → has j xs ≡ a → has i (if a then xs else filter (λ y. nat_lt y.0 j.0) xs ++ j ∷ [] ++ filter (λ y. nat_lt j.0 y.0) xs) ≡ (eqb j.0 i.0 || has i xs)
    by_has true h = inside (eqb j.0 i.0) true refl h
    by_has false h = ap (has i) (append_assoc (filter (λ y. nat_lt y.0 j.0) xs) (j ∷ []) (filter (λ y. nat_lt j.0 y.0) xs)) ∙ both (eqb j.0 i.0) refl

-- each is among them
pub each-within : (zs xs : List Node) → ((i : Node) → has i xs ≡ true → has i zs ≡ true) → Each (λ (x : Node). has x zs ≡ true) xs
each-within zs [] f = tt
each-within zs (x ∷ xs) f = (f x (self x.0 (has x xs)), each-within zs xs (λ i h. f i (later x.0 i.0 (has i xs) h)))
  where
    self : (a : ℕ) (b : Bool) → (eqb a a || b) ≡ true
    self a b = grind (arith, nat_tests)

    later : (a i : ℕ) (b : Bool) → b ≡ true → (eqb a i || b) ≡ true
    later a i b h = grind (arith, nat_tests)

pub each-has : (xs : List Node) → Each (λ (x : Node). has x xs ≡ true) xs
each-has xs = each-within xs xs (λ i h. h)

-- no two are the same
abbrev pub AreApart : List Node → Type 0
AreApart [] = Unit {0}
AreApart (x ∷ xs) = Each (λ (y : Node). eqb x.0 y.0 ≡ false) xs × AreApart xs

apart-filter : (t : Node → Bool) (xs : List Node) → AreApart xs → AreApart (filter t xs)
apart-filter t [] e = tt
apart-filter t (x ∷ xs) e = by_test (t x) (apart-filter t xs e.1)
  where
    by_test : (b : Bool) → AreApart (filter t xs) → AreApart (cond b (x ∷ filter t xs) (filter t xs))
    by_test true f = (each_filter (λ (y : Node). eqb x.0 y.0 ≡ false) t xs e.0, f)
    by_test false f = f

each-low : (j : Node) (xs : List Node) → Each (λ (y : Node). nat_lt y.0 j.0 ≡ true) (filter (λ y. nat_lt y.0 j.0) xs)
each-low j [] = tt
each-low j (x ∷ xs) = by_test (nat_lt x.0 j.0) refl (each-low j xs)
  where
    by_test : (b : Bool) → nat_lt x.0 j.0 ≡ b → Each (λ (y : Node). nat_lt y.0 j.0 ≡ true) (filter (λ y. nat_lt y.0 j.0) xs) → Each (λ (y : Node). nat_lt y.0 j.0 ≡ true) (cond b (x ∷ filter (λ y. nat_lt y.0 j.0) xs) (filter (λ y. nat_lt y.0 j.0) xs))
    by_test true e f = (e, f)
    by_test false e f = f

each-high : (j : Node) (xs : List Node) → Each (λ (y : Node). nat_lt j.0 y.0 ≡ true) (filter (λ y. nat_lt j.0 y.0) xs)
each-high j [] = tt
each-high j (x ∷ xs) = by_test (nat_lt j.0 x.0) refl (each-high j xs)
  where
    by_test : (b : Bool) → nat_lt j.0 x.0 ≡ b → Each (λ (y : Node). nat_lt j.0 y.0 ≡ true) (filter (λ y. nat_lt j.0 y.0) xs) → Each (λ (y : Node). nat_lt j.0 y.0 ≡ true) (cond b (x ∷ filter (λ y. nat_lt j.0 y.0) xs) (filter (λ y. nat_lt j.0 y.0) xs))
    by_test true e f = (e, f)
    by_test false e f = f

apart-around : (j : Node) (xs ys : List Node) → AreApart xs → AreApart ys → Each (λ (y : Node). nat_lt y.0 j.0 ≡ true) xs → Each (λ (y : Node). nat_lt j.0 y.0 ≡ true) ys → AreApart (xs ++ j ∷ ys)
apart-around j [] ys a b l h = (differs ys h, b)
  where
    high : (j y : ℕ) → nat_lt j y ≡ true → eqb j y ≡ false
    high j y e = grind (arith, nat_tests)

    differs : (ys : List Node) → Each (λ (y : Node). nat_lt j.0 y.0 ≡ true) ys → Each (λ (y : Node). eqb j.0 y.0 ≡ false) ys
    differs [] e = tt
    differs (y ∷ ys) e = (high j.0 y.0 e.0, differs ys e.1)
apart-around j (x ∷ xs) ys a b l h = (each_append (λ (y : Node). eqb x.0 y.0 ≡ false) xs (j ∷ ys) a.0 (low x.0 j.0 l.0, beyond ys h), apart-around j xs ys a.1 b l.1 h)
  where
    low : (x j : ℕ) → nat_lt x j ≡ true → eqb x j ≡ false
    low x j e = grind (arith, nat_tests)

    two : (x j y : ℕ) → nat_lt x j ≡ true → nat_lt j y ≡ true → eqb x y ≡ false
    two x j y e f = grind (arith, nat_tests)

    beyond : (ys : List Node) → Each (λ (y : Node). nat_lt j.0 y.0 ≡ true) ys → Each (λ (y : Node). eqb x.0 y.0 ≡ false) ys
    beyond [] e = tt
    beyond (y ∷ ys) e = (two x.0 j.0 y.0 l.0 e.0, beyond ys e.1)

pub apart-with : (j : Node) (xs : List Node) → AreApart xs → AreApart (with_node j xs)
apart-with j xs e = by_has (has j xs)
  where
    by_has : (a : Bool) → AreApart (if a then xs else filter (λ y. nat_lt y.0 j.0) xs ++ j ∷ [] ++ filter (λ y. nat_lt j.0 y.0) xs)
    by_has true = e
    by_has false = subst AreApart (sym (append_assoc (filter (λ y. nat_lt y.0 j.0) xs) (j ∷ []) (filter (λ y. nat_lt j.0 y.0) xs))) (apart-around j (filter (λ y. nat_lt y.0 j.0) xs) (filter (λ y. nat_lt j.0 y.0) xs) (apart-filter (λ y. nat_lt y.0 j.0) xs e) (apart-filter (λ y. nat_lt j.0 y.0) xs e) (each-low j xs) (each-high j xs))
