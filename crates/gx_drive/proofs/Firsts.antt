-- The first of several lists.
use Rattle.std.proofs.Common.{◌≡◌, ◌<◌, ℕ, zero, suc, ◌+◌, ◌-◌, List, [], ◌∷◌, ◌++◌, Bool, true, false, cond, Option, Some, None, refl, sym, ap, ◌∙◌, subst, arith}
use Rattle.std.specs.Prelude.{filter, is_some, map}
use Rattle.std.specs.List.{flat_map, range_with_len}
use Rattle.std.specs.Option.{option_to_list}
use Rattle.gx_ids.specs.declared.ids.Node.{Node}
use Rattle.gx_ids.specs.declared.ids.SessionId.{SessionId}
use Rattle.gx_meaning.specs.Plan.{nodes_from}
use Rattle.gx_store.specs.declared.event.Event.{Event}
use Rattle.gx_store.specs.declared.event.Event.TheVariants.{End}
use Rattle.gx_store.specs.Schedule.{first_of}

-- where the first list has nothing the second decides
first-behind : (xs ys : List Event) → first_of xs ≡ [] → first_of (xs ++ ys) ≡ first_of ys
first-behind [] ys e = refl
first-behind (x ∷ xs) ys e = absurd (cc)

first-before : (xs ys : List Event) (e : Event) → first_of xs ≡ e ∷ [] → first_of (xs ++ ys) ≡ e ∷ []
first-before [] ys e h = absurd (cc)
first-before (x ∷ xs) ys e h = h

pub first-none : (xs : List Event) → first_of xs ≡ [] → xs ≡ []
first-none [] e = refl
first-none (x ∷ xs) e = absurd (cc)

pub first-twice : (xs : List Event) → first_of (first_of xs) ≡ first_of xs
first-twice [] = refl
first-twice (x ∷ xs) = refl

-- what is first is so before others, and what is first behind nothing
pub some-first : (e : Event) (xs ys : List Event) → e ∷ [] ≡ first_of xs → e ∷ [] ≡ first_of (xs ++ ys)
some-first e xs ys h = sym (first-before xs ys e (sym h))

pub none-first : (zs xs ys : List Event) → [] ≡ first_of xs → zs ≡ first_of ys → zs ≡ first_of (xs ++ ys)
none-first zs xs ys none h = h ∙ sym (first-behind xs ys (sym none))

pub option-none : (o : Option Event) → is_some o ≡ false → option_to_list o ≡ []
option-none None e = refl
option-none (Some x) e = absurd (cc)

-- nothing in two lists
pub none-left : (xs ys : List Event) → xs ++ ys ≡ [] → xs ≡ []
none-left [] ys e = refl
none-left (x ∷ xs) ys e = absurd (cc)

pub none-right : (xs ys : List Event) → xs ++ ys ≡ [] → ys ≡ []
none-right [] ys e = e
none-right (x ∷ xs) ys e = absurd (cc)

-- BY NODE
module _ (f : Node → List Event) where
  -- the nodes up to a number, from one on
  pub nodes-next : (k m : ℕ) → k < m → flat_map f (nodes_from k (m - k)) ≡ f (record { 0 = k }) ++ flat_map f (nodes_from (k + 1) (m - (k + 1)))
  nodes-next k m h = ap (λ n. flat_map f (nodes_from k n)) same
    where
      same : m - k ≡ suc (m - (k + 1))
      same = omega (arith, h)

  pub nodes-skip : (k m : ℕ) → k < m → f (record { 0 = k }) ≡ [] → first_of (flat_map f (nodes_from (k + 1) (m - (k + 1)))) ≡ first_of (flat_map f (nodes_from k (m - k)))
  nodes-skip k m h e = ap (λ xs. first_of (xs ++ flat_map f (nodes_from (k + 1) (m - (k + 1))))) (sym e) ∙ ap first_of (sym (nodes-next k m h))

  pub nodes-take : (k m : ℕ) (o : Option Event) → k < m → is_some o ≡ true → option_to_list o ≡ f (record { 0 = k }) → option_to_list o ≡ first_of (flat_map f (nodes_from k (m - k)))
  nodes-take k m None h some e = absurd (cc)
  nodes-take k m (Some x) h some e = sym (ap first_of (nodes-next k m h) ∙ first-before (f (record { 0 = k })) (flat_map f (nodes_from (k + 1) (m - (k + 1)))) x (ap first_of (sym e)))

  pub nodes-none : (k n : ℕ) → flat_map f (nodes_from k n) ≡ [] → (i : ℕ) → i < n → f (record { 0 = k + i }) ≡ []
  nodes-none k zero e i h = absurd (omega (arith, h))
  nodes-none k (suc n) e zero h = subst (λ j. f (record { 0 = j }) ≡ []) (omega arith) (none-left (f (record { 0 = k })) (flat_map f (nodes_from (k + 1) n)) e)
  nodes-none k (suc n) e (suc i) h =
      subst (λ j. f (record { 0 = j }) ≡ []) (omega arith) (nodes-none (k + 1) n (none-right (f (record { 0 = k })) (flat_map f (nodes_from (k + 1) n)) e) i (omega (arith, h)))

-- BY SESSION
module _ (p : SessionId → Bool) where
  -- the sessions from one on that pass the test
  abbrev pub passing : ℕ → ℕ → List Event
  passing k n = map End (filter p (map (λ s. record { 0 = s }) (range_with_len k n)))

  pub passing-skips : (k m : ℕ) → k < m → p (record { 0 = k }) ≡ false → passing k (m - k) ≡ passing (k + 1) (m - (k + 1))
  passing-skips k m h e = ap (λ n. passing k n) same ∙ skipped (m - (k + 1))
    where
      same : m - k ≡ suc (m - (k + 1))
      same = omega (arith, h)

      skipped : (n : ℕ) → passing k (suc n) ≡ passing (k + 1) n
      skipped n = ap (λ (b : Bool). map End (cond b (record { 0 = k } ∷ filter p (map (λ s. record { 0 = s }) (range_with_len (k + 1) n))) (filter p (map (λ s. record { 0 = s }) (range_with_len (k + 1) n))))) e

  pub passing-next : (k m : ℕ) → k < m → p (record { 0 = k }) ≡ true → passing k (m - k) ≡ End (record { 0 = k }) ∷ passing (k + 1) (m - (k + 1))
  passing-next k m h e = ap (λ n. passing k n) same ∙ taken (m - (k + 1))
    where
      same : m - k ≡ suc (m - (k + 1))
      same = omega (arith, h)

      taken : (n : ℕ) → passing k (suc n) ≡ End (record { 0 = k }) ∷ passing (k + 1) n
      taken n = ap (λ (b : Bool). map End (cond b (record { 0 = k } ∷ filter p (map (λ s. record { 0 = s }) (range_with_len (k + 1) n))) (filter p (map (λ s. record { 0 = s }) (range_with_len (k + 1) n))))) e

  pub passing-takes : (k m : ℕ) → k < m → p (record { 0 = k }) ≡ true → first_of (passing k (m - k)) ≡ End (record { 0 = k }) ∷ []
  passing-takes k m h e = ap first_of (passing-next k m h e)
