-- An ordered map whose keys have numbers, in their order: its entries are what is found at the numbers, one after the other.
use Rattle.std.proofs.Common.{◌≡◌, ◌≢◌, ℕ, zero, suc, ◌+◌, ◌<◌, ◌≤◌, true, false, List, [], ◌∷◌, Option, Some, None, refl, sym, ap, ◌∙◌, arith, ⊎_elim}
use Rattle.std.proofs.lemmas.Bool.{cases_Bool, cases_eq}
use Rattle.std.proofs.lemmas.Cmp.{eq_by_cmp_equiv, tied_itself}
use Rattle.std.proofs.lemmas.Map.{lookup-none}
use Rattle.std.proofs.lemmas.Map.Entries.{lookup_head, lookup_tail, none_below_head, none_past_head}
use Rattle.std.proofs.lemmas.Map.Keys.{IsDistinct-from_sorted, sorted_tail}
use Rattle.std.proofs.lemmas.Option.{same_Some}
use Rattle.std.specs.BTreeMap.{is_at}
use Rattle.std.specs.Cmp.{IsTotalOrder}
use Rattle.std.specs.List.{cons_option, filter_map, range_with_len}
use Rattle.std.specs.List.Sorted.{IsStrictlySortedBy}
use Rattle.std.specs.Map.{keys_of, lookup}
use Rattle.std.specs.Ordering.{is_eq, ordering_reverse}
use Rattle.std.specs.Prelude.{is_some, option_map}
use Rattle.std.specs.declared.cmp.Ordering.{Ordering}
use Rattle.std.specs.declared.cmp.Ordering.TheVariants.{Less}

not-none : {X : Type 0} (o : Option X) → o ≡ None → is_some o ≡ true → ⊥
not-none None none some = cc
not-none (Some x) none some = cc

not-some : {X : Type 0} (o : Option X) (x : X) → o ≡ None → o ≡ Some x → ⊥
not-some None x none some = cc
not-some (Some y) x none some = cc

-- the key has a number, from the first one on, of so many
pub record IsNumbered {K : Type 0} (at : ℕ → K) (first count : ℕ) (k : K) : Type 0 where
  pub number : ℕ
  pub is : k ≡ at number
  pub low : first ≤ number
  pub high : number < first + count

-- the entry of a number, where something is found at it
abbrev pub entry : {K X : Type 0} → (ℕ → K) → (ℕ → Option X) → ℕ → Option (K × X)
entry at f n = option_map (λ v. (at n, v)) (f n)

-- a number that isn't the first one is a later one
later : {K : Type 0} (at : ℕ → K) (first count : ℕ) (k : K) (w : IsNumbered at first (suc count) k) → first ≢ w.number → IsNumbered at (first + 1) count k
later at first count k w other = record { number = w.number; is = w.is; low = above first w.number w.low other; high = within first count w.number w.high }
  where
    above : (a b : ℕ) → a ≤ b → a ≢ b → a + 1 ≤ b
    above a b l other = omega (arith, l, other)

    within : (a n b : ℕ) → b < a + suc n → b < a + 1 + n
    within a n b h = omega (arith, h)

module _ {K : Type 0} {R : K → K → Ordering} (total : IsTotalOrder R) (at : ℕ → K) (rises : (m n : ℕ) → m < n → R (at m) (at n) ≡ Less) where
  apart : (m n : ℕ) → m < n → is_at (R (at n)) (at m) ≡ false
  apart m n below = ap is_eq (total.antisymm (at n) (at m) ∙ ap ordering_reverse (rises m n below))

module _ {K X : Type 0} {R : K → K → Ordering} (total : IsTotalOrder R) (at : ℕ → K) (rises : (m n : ℕ) → m < n → R (at m) (at n) ≡ Less) where
  abbrev pub find : List (K × X) → K → Option X
  find es k = lookup (is_at (R k)) es

  at-head : (e : K × X) (es : List (K × X)) → find (e ∷ es) e.0 ≡ Some e.1
  at-head e es = lookup_head (is_at (R e.0)) e es (ap is_eq (tied_itself total e.0))

  past-head : (q : K) (e : K × X) (es : List (K × X)) → IsStrictlySortedBy R (keys_of (e ∷ es)) → is_at (R q) e.0 ≡ true → find es q ≡ None
  past-head q e es sorted tied = lookup-none (is_at (R q)) es (none_past_head (eq_by_cmp_equiv total) q e es (IsDistinct-from_sorted R (keys_of (e ∷ es)) sorted) tied)

  below-head : (q : K) (e : K × X) (es : List (K × X)) → IsStrictlySortedBy R (keys_of (e ∷ es)) → R q e.0 ≡ Less → find (e ∷ es) q ≡ None
  below-head q e es sorted less = lookup-none (is_at (R q)) (e ∷ es) (none_below_head total q e es sorted less)

  -- what is found behind the first is found
  found-behind : (k : K) (e : K × X) (es : List (K × X)) → IsStrictlySortedBy R (keys_of (e ∷ es)) → is_some (find es k) ≡ true → (is_at (R k) e.0 ≡ false) × (is_some (find (e ∷ es) k) ≡ true)
  found-behind k e es sorted there =
      ⊎_elim
      (λ tied. absurd (not-none (find es k) (past-head k e es sorted tied) there))
      (λ other. (other, ap is_some (lookup_tail (is_at (R k)) e es other) ∙ there))
      (cases_Bool (is_at (R k) e.0))

  module _ (f : ℕ → Option X) where
    abbrev FindsAs : ℕ → ℕ → List (K × X) → Type 0
    FindsAs first count es = (n : ℕ) → first ≤ n → n < first + count → find es (at n) ≡ f n

    abbrev AreNumbered : ℕ → ℕ → List (K × X) → Type 0
    AreNumbered first count es = (k : K) → is_some (find es k) ≡ true → IsNumbered at first count k

    abbrev listed : ℕ → ℕ → List (K × X)
    listed first count = filter_map (entry at f) (range_with_len first count)

    module _ (first count : ℕ) (more : (es : List (K × X)) → IsStrictlySortedBy R (keys_of es) → AreNumbered (first + 1) count es → FindsAs (first + 1) count es → es ≡ listed (first + 1) count) where
      inside : (n : ℕ) → n < first + 1 + count → n < first + suc count
      inside n high = omega (arith, high)

      above : (n : ℕ) → first + 1 ≤ n → first ≤ n
      above n low = omega (arith, low)

      here : first < first + suc count
      here = omega arith

      same-first : first ≤ first
      same-first = omega arith

      step-none : (es : List (K × X)) → IsStrictlySortedBy R (keys_of es) → AreNumbered first (suc count) es → FindsAs first (suc count) es → f first ≡ None → es ≡ listed first (suc count)
      step-none es sorted numbers finds none =
          more es sorted rest (λ n low high. finds n (above n low) (inside n high))
          ∙ sym (ap (λ (o : Option X). cons_option (option_map (λ v. (at first, v)) o) (listed (first + 1) count)) none)
        where
          rest : AreNumbered (first + 1) count es
          rest k there = later at first count k (numbers k there) (λ e. not-none (find es k) (ap (find es) ((numbers k there).is ∙ ap at (sym e)) ∙ finds first same-first here ∙ none) there)

      step-some : (es : List (K × X)) (v : X) → IsStrictlySortedBy R (keys_of es) → AreNumbered first (suc count) es → FindsAs first (suc count) es → f first ≡ Some v → es ≡ listed first (suc count)
      step-some [] v sorted numbers finds some = absurd (not-some (f first) v (sym (finds first same-first here)) some)
      step-some (e ∷ es) v sorted numbers finds some = ⊎_elim is-first (λ other. absurd (not-some (f first) v (sym (finds first same-first here) ∙ below-head (at first) e es sorted (under other)) some)) (cases_eq first w.number)
        where
          w : IsNumbered at first (suc count) e.0
          w = numbers e.0 (ap is_some (at-head e es))

          under : first ≢ w.number → R (at first) e.0 ≡ Less
          under other = ap (R (at first)) w.is ∙ rises first w.number (less first w.number w.low other)
            where
              less : (a b : ℕ) → a ≤ b → a ≢ b → a < b
              less a b l other = omega (arith, l, other)

          is-first : first ≡ w.number → e ∷ es ≡ listed first (suc count)
          is-first same =
              ap (λ (x : K × X). x ∷ es) (λ i. (key i, value i))
              ∙ ap (λ xs. (at first, v) ∷ xs) (more es (sorted_tail R e.0 (keys_of es) sorted) numbers-behind finds-behind)
              ∙ sym (ap (λ (o : Option X). cons_option (option_map (λ x. (at first, x)) o) (listed (first + 1) count)) some)
            where
              key : e.0 ≡ at first
              key = w.is ∙ ap at (sym same)

              value : e.1 ≡ v
              value = same_Some e.1 v (sym (at-head e es) ∙ ap (find (e ∷ es)) key ∙ finds first same-first here ∙ some)

              numbers-behind : AreNumbered (first + 1) count es
              numbers-behind k there =
                  let b = found-behind k e es sorted there in
                  let n = numbers k b.1 in
                  later at first count k n (λ m. not-none (find es k) (past-head k e es sorted (ap (λ x. is_at (R x) e.0) (n.is ∙ ap at (sym m) ∙ sym key) ∙ ap is_eq (tied_itself total e.0))) there)

              finds-behind : FindsAs (first + 1) count es
              finds-behind n low high =
                  sym (lookup_tail (is_at (R (at n))) e es (ap (is_at (R (at n))) key ∙ apart total at rises first n (strictly first n low)))
                  ∙ finds n (above n low) (inside n high)
                where
                  strictly : (a b : ℕ) → a + 1 ≤ b → a < b
                  strictly a b l = omega (arith, l)

      step : (es : List (K × X)) (o : Option X) → f first ≡ o → IsStrictlySortedBy R (keys_of es) → AreNumbered first (suc count) es → FindsAs first (suc count) es → es ≡ listed first (suc count)
      step es None is sorted numbers finds = step-none es sorted numbers finds is
      step es (Some v) is sorted numbers finds = step-some es v sorted numbers finds is

    pub numbered : (first count : ℕ) (es : List (K × X)) → IsStrictlySortedBy R (keys_of es) → AreNumbered first count es → FindsAs first count es → es ≡ listed first count
    numbered first zero [] sorted numbers finds = refl
    numbered first zero (e ∷ es) sorted numbers finds = let w = numbers e.0 (ap is_some (at-head e es)) in absurd (omega (arith, w.low, w.high))
    numbered first (suc count) es sorted numbers finds = step first count (numbered (first + 1) count) es (f first) refl sorted numbers finds
