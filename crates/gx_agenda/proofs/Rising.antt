-- Entries whose keys rise: what a search by halves finds, and what an edit at its place does.
use Rattle.std.proofs.Common.{◌≡◌, ℕ, zero, suc, ◌<◌, ◌≤◌, Bool, true, false, cond, List, [], ◌∷◌, length, get_or, slice_get, Some, None, Result, Ok, Err, refl, sym, ap, ◌∙◌, subst, arith, ⊎_elim}
use Rattle.std.proofs.lemmas.Bool.{cases_eq, cases_lt}
use Rattle.std.proofs.lemmas.Cmp.{alike_right, eq_by_cmp_equiv}
use Rattle.std.proofs.lemmas.List.{get_or-map}
use Rattle.std.proofs.lemmas.Map.{NonePasses, keys-set_value, lookup-insert, lookup-none, lookup-remove_entry, lookup-set_value}
use Rattle.std.proofs.lemmas.Map.Entries.{length-keys_of, none_below_head}
use Rattle.std.proofs.lemmas.Map.Keys.{IsDistinct-from_sorted, Less-from_sorted, sorted_head, sorted_tail}
use Rattle.std.specs.BTreeMap.{is_at}
use Rattle.std.specs.Cmp.{IsTotalOrder}
use Rattle.std.specs.List.{AllByRecursion, insert, remove, slice_set}
use Rattle.std.specs.List.Sorted.{IsBinarySearchResult, IsNonDecreasingBy, IsSearchInRange, IsStrictlySortedBy}
use Rattle.std.specs.Map.{keys_of, remove_entry, set_value}
use Rattle.std.specs.Ordering.{is_eq, is_gt, ordering_index, ordering_reverse}
use Rattle.std.specs.Prelude.{IfErr, IfOk, IfSome, IsSome}
use Rattle.std.specs.declared.cmp.Ordering.{Ordering}
use Rattle.std.specs.declared.cmp.Ordering.TheVariants.{Less, Equal, Greater}
use Rattle.gx_agenda.specs.VecMap.{IsGapFor, IsLeast, IsRising, StandsAt, at}

-- KEYS
rising-cons : {K : Type 0} (R : K → K → Ordering) (k : K) (ks : List K) → AllByRecursion (λ y. R k y ≡ Less) ks → IsStrictlySortedBy R ks → IsStrictlySortedBy R (k ∷ ks)
unfolding IsStrictlySortedBy
rising-cons R k ks all sorted = (all, sorted)

pub rising-none : {K : Type 0} (R : K → K → Ordering) → IsStrictlySortedBy R []
unfolding IsStrictlySortedBy
rising-none R = tt

module _ {K X : Type 0} (P : K → Type 0) where
  all-insert : (es : List (K × X)) (i : ℕ) (k : K) (v : X) → AllByRecursion P (keys_of es) → P k → AllByRecursion P (keys_of (insert es i (k, v)))
  all-insert es zero k v all here = (here, all)
  all-insert [] (suc i) k v all here = (here, all)
  all-insert (e ∷ es) (suc i) k v all here = (all.0, all-insert es i k v all.1 here)

  all-remove : (es : List (K × X)) (i : ℕ) → AllByRecursion P (keys_of es) → AllByRecursion P (keys_of (remove es i))
  all-remove [] zero all = all
  all-remove [] (suc i) all = all
  all-remove (e ∷ es) zero all = all.1
  all-remove (e ∷ es) (suc i) all = (all.0, all-remove es i all.1)

  all-from : (es : List (K × X)) → ((j : ℕ) (d : K × X) → j < length es → P (get_or es j d).0) → AllByRecursion P (keys_of es)
  all-from [] each = tt
  all-from (e ∷ es) each = (each 0 e (omega arith), all-from es (λ j d inside. each (suc j) d (omega (arith, inside))))

none-from : {K X : Type 0} (test : K → Bool) (es : List (K × X)) → ((j : ℕ) (d : K × X) → j < length es → test (get_or es j d).0 ≡ false) → NonePasses test es
none-from test [] each = tt
none-from test (e ∷ es) each = (each 0 e (omega arith), none-from test es (λ j d inside. each (suc j) d (omega (arith, inside))))

-- ONE ORDER
equal : (o : Ordering) → is_eq o ≡ true → o ≡ Equal
equal Less e = absurd (cc)
equal Equal e = refl
equal Greater e = absurd (cc)

never : Less ≡ Greater → ⊥
never e = cc

module _ {K : Type 0} {R : K → K → Ordering} (total : IsTotalOrder R) where
  back : (x y : K) (o : Ordering) → R x y ≡ o → R y x ≡ ordering_reverse o
  back x y o e = total.antisymm y x ∙ ap ordering_reverse e

  -- what is equal to a key is equal to another where the key is
  one : (key x y : K) → is_at (R key) x ≡ true → is_at (R key) y ≡ is_eq (R x y)
  one key x y tied = ap is_eq (total.congr key x y (equal (R key x) tied))

  -- a key that rises doesn't fall behind a third one
  same-side : (key x y : K) → R x y ≡ Less → ordering_index (R x key) ≤ ordering_index (R y key)
  same-side key x y less = by (R x key) (R y key) refl refl
    where
      by : (a b : Ordering) → R x key ≡ a → R y key ≡ b → ordering_index a ≤ ordering_index b
      by Less b e f = omega arith
      by Equal Less e f = absurd (never (sym less ∙ total.congr x key y e ∙ back y key Less f))
      by Equal Equal e f = omega arith
      by Equal Greater e f = omega arith
      by Greater Less e f = absurd (never (sym (total.trans x y key less f) ∙ e))
      by Greater Equal e f = absurd (never (sym less ∙ alike_right total y key x f ∙ e))
      by Greater Greater e f = omega arith

module _ {K X : Type 0} {R : K → K → Ordering} (total : IsTotalOrder R) where
  -- one key is below another that stands behind it
  below-behind : (es : List (K × X)) (i j : ℕ) (d : K × X) → IsRising R es → i < j → j < length es → R (get_or es i d).0 (get_or es j d).0 ≡ Less
  below-behind es i j d rising before inside =
      let key : (n : ℕ) → n < length es → get_or (keys_of es) n d.0 ≡ (get_or es n d).0 = λ n within. get_or-map (λ (e : K × X). e.0) es n d d.0 within in
      ap (λ k. R k (get_or es j d).0) (sym (key i (omega (arith, before, inside)))) ∙ ap (R (get_or (keys_of es) i d.0)) (sym (key j inside))
      ∙ Less-from_sorted R (keys_of es) i j d.0 rising before (subst (λ n. j < n) (sym (length-keys_of es)) inside)

  -- the first key is the least
  pub least-first : (es : List (K × X)) → IsRising R es → IfSome (slice_get es 0) (λ e. IsLeast R es e.0)
  least-first [] rising = tt
  least-first (e ∷ es) rising = λ q there. by q there (R e.0 q) refl
    where
      none : false ≡ true → ⊥
      none f = cc

      by : (q : K) → IsSome (at R (e ∷ es) q) → (o : Ordering) → R e.0 q ≡ o → is_gt o ≡ false
      by q there Less f = refl
      by q there Equal f = refl
      by q there Greater f = absurd (none (subst IsSome (lookup-none (is_at (R q)) (e ∷ es) (none_below_head total q e es rising (back total e.0 q Greater f))) there))

  pub rising-remove : (es : List (K × X)) (i : ℕ) → IsRising R es → IsRising R (remove es i)
  rising-remove [] zero rising = rising
  rising-remove [] (suc i) rising = rising
  rising-remove (e ∷ es) zero rising = sorted_tail R e.0 (keys_of es) rising
  rising-remove (e ∷ es) (suc i) rising =
      rising-cons R e.0 (keys_of (remove es i)) (all-remove (λ y. R e.0 y ≡ Less) es i (sorted_head R e.0 (keys_of es) rising)) (rising-remove es i (sorted_tail R e.0 (keys_of es) rising))

  module _ (key : K) where
    -- THE SEARCH
    searchable : (es : List (K × X)) → IsRising R es → IsNonDecreasingBy (λ e. ordering_index (R e.0 key)) es
    searchable es rising i j d upto inside = ⊎_elim
        (λ (same : i ≡ j). subst (λ n. ordering_index (R (get_or es i d).0 key) ≤ ordering_index (R (get_or es n d).0 key)) same (omega arith))
        (λ apart. same-side total key (get_or es i d).0 (get_or es j d).0 (below-behind es i j d rising (omega (arith, upto, apart)) inside))
        (cases_eq i j)

    pub found : (es : List (K × X)) (r : Result ℕ ℕ) → IsRising R es → IsSearchInRange r (length es) → IsBinarySearchResult (λ e. R e.0 key) es r → IfOk r (StandsAt (R key) es)
    found es (Ok i) rising inside is = record { inside = inside; same = λ d. back total (get_or es i d).0 key Equal (is d) }
    found es (Err i) rising inside is = tt

    pub missed : (es : List (K × X)) (r : Result ℕ ℕ) → IsRising R es → IsSearchInRange r (length es) → IsBinarySearchResult (λ e. R e.0 key) es r → IfErr r (IsGapFor (R key) es)
    missed es (Ok i) rising inside is = tt
    missed es (Err i) rising inside is =
        let parts = is (searchable es rising) in
        record {
          inside = inside;
          below = λ j d before. back total (get_or es j d).0 key Less (parts.0 j d (omega arith) before);
          above = λ j d behind within. back total (get_or es j d).0 key Greater (parts.1 j d behind within);
        }

    -- A KEY THAT STANDS THERE
    stands-behind : (e : K × X) (es : List (K × X)) (i : ℕ) → StandsAt (R key) (e ∷ es) (suc i) → StandsAt (R key) es i
    stands-behind e es i stands = record { inside = omega (arith, stands.inside); same = λ d. stands.same d }

    not-first : (e : K × X) (es : List (K × X)) (i : ℕ) → IsRising R (e ∷ es) → StandsAt (R key) (e ∷ es) (suc i) → is_at (R key) e.0 ≡ false
    not-first e es i rising stands =
        let x = get_or es i e in
        ap is_eq (total.congr key x.0 e.0 (stands.same e) ∙ back total e.0 x.0 Less (below-behind (e ∷ es) 0 (suc i) e rising (omega arith) stands.inside))

    pub at-place : (es : List (K × X)) (i : ℕ) (d : K × X) → IsRising R es → StandsAt (R key) es i → at R es key ≡ Some (get_or es i d).1
    at-place [] i d rising stands = absurd (omega (arith, stands.inside))
    at-place (e ∷ es) zero d rising stands = ap (λ o. cond (is_eq o) (Some e.1) (at R es key)) (stands.same e)
    at-place (e ∷ es) (suc i) d rising stands =
        ap (λ b. cond b (Some e.1) (at R es key)) (not-first e es i rising stands) ∙ at-place es i d (sorted_tail R e.0 (keys_of es) rising) (stands-behind e es i stands)

    set-is : (es : List (K × X)) (i : ℕ) (d : K × X) (v : X) → IsRising R es → StandsAt (R key) es i → slice_set es i ((get_or es i d).0, v) ≡ set_value (is_at (R key)) es v
    set-is [] i d v rising stands = absurd (omega (arith, stands.inside))
    set-is (e ∷ es) zero d v rising stands = sym (ap (λ o. cond (is_eq o) ((e.0, v) ∷ es) (e ∷ set_value (is_at (R key)) es v)) (stands.same e))
    set-is (e ∷ es) (suc i) d v rising stands =
        ap (λ xs. e ∷ xs) (set-is es i d v (sorted_tail R e.0 (keys_of es) rising) (stands-behind e es i stands))
        ∙ sym (ap (λ b. cond b ((e.0, v) ∷ es) (e ∷ set_value (is_at (R key)) es v)) (not-first e es i rising stands))

    remove-is : (es : List (K × X)) (i : ℕ) → IsRising R es → StandsAt (R key) es i → remove es i ≡ remove_entry (is_at (R key)) es
    remove-is [] i rising stands = absurd (omega (arith, stands.inside))
    remove-is (e ∷ es) zero rising stands = sym (ap (λ o. cond (is_eq o) es (e ∷ remove_entry (is_at (R key)) es)) (stands.same e))
    remove-is (e ∷ es) (suc i) rising stands =
        ap (λ xs. e ∷ xs) (remove-is es i (sorted_tail R e.0 (keys_of es) rising) (stands-behind e es i stands))
        ∙ sym (ap (λ b. cond b es (e ∷ remove_entry (is_at (R key)) es)) (not-first e es i rising stands))

    pub rising-set : (es : List (K × X)) (i : ℕ) (d : K × X) (v : X) → IsRising R es → StandsAt (R key) es i → IsRising R (slice_set es i ((get_or es i d).0, v))
    rising-set es i d v rising stands = subst (IsStrictlySortedBy R) (sym (ap keys_of (set-is es i d v rising stands) ∙ keys-set_value (is_at (R key)) es v)) rising

    pub at-set : (es : List (K × X)) (i : ℕ) (d : K × X) (v : X) → IsRising R es → StandsAt (R key) es i → (q : K) → at R (slice_set es i ((get_or es i d).0, v)) q ≡ cond (is_at (R key) q) (Some v) (at R es q)
    at-set es i d v rising stands q =
        ap (λ xs. at R xs q) (set-is es i d v rising stands)
        ∙ lookup-set_value (eq_by_cmp_equiv total) (is_at (R key)) (one total key) q v es (subst IsSome (sym (at-place es i d rising stands)) refl)

    pub at-remove : (es : List (K × X)) (i : ℕ) → IsRising R es → StandsAt (R key) es i → (q : K) → at R (remove es i) q ≡ cond (is_at (R key) q) None (at R es q)
    at-remove es i rising stands q =
        ap (λ xs. at R xs q) (remove-is es i rising stands)
        ∙ lookup-remove_entry (eq_by_cmp_equiv total) (is_at (R key)) (one total key) q es (IsDistinct-from_sorted R (keys_of es) rising)

    -- A KEY THAT DOESN'T
    gap-behind : (e : K × X) (es : List (K × X)) (i : ℕ) → IsGapFor (R key) (e ∷ es) (suc i) → IsGapFor (R key) es i
    gap-behind e es i gap = record {
      inside = omega (arith, gap.inside);
      below = λ j d before. gap.below (suc j) d (omega (arith, before));
      above = λ j d behind within. gap.above (suc j) d (omega (arith, behind)) (omega (arith, within));
    }

    apart : (es : List (K × X)) (i : ℕ) → IsGapFor (R key) es i → NonePasses (is_at (R key)) es
    apart es i gap = none-from (is_at (R key)) es (λ j d inside. ⊎_elim
        (λ (before : j < i). ap is_eq (gap.below j d before))
        (λ (behind : i ≤ j). ap is_eq (gap.above j d behind inside))
        (cases_lt j i))

    pub at-gap : (es : List (K × X)) (i : ℕ) → IsGapFor (R key) es i → at R es key ≡ None
    at-gap es i gap = lookup-none (is_at (R key)) es (apart es i gap)

    pub unchanged : (es : List (K × X)) (i : ℕ) → IsGapFor (R key) es i → (q : K) → at R es q ≡ cond (is_at (R key) q) None (at R es q)
    unchanged es i gap q = by (is_at (R key) q) refl
      where
        by : (b : Bool) → is_at (R key) q ≡ b → at R es q ≡ cond b None (at R es q)
        by true e = lookup-none (is_at (R q)) es (none-from (is_at (R q)) es (λ j d inside.
            ap is_eq (sym (total.congr key q (get_or es j d).0 (equal (R key q) e))) ∙ ⊎_elim
            (λ (before : j < i). ap is_eq (gap.below j d before))
            (λ (behind : i ≤ j). ap is_eq (gap.above j d behind inside))
            (cases_lt j i)))
        by false e = refl

    pub rising-insert : (es : List (K × X)) (i : ℕ) (v : X) → IsRising R es → IsGapFor (R key) es i → IsRising R (insert es i (key, v))
    rising-insert es zero v rising gap = rising-cons R key (keys_of es) (all-from (λ y. R key y ≡ Less) es (λ j d inside. gap.above j d (omega arith) inside)) rising
    rising-insert [] (suc i) v rising gap = absurd (omega (arith, gap.inside))
    rising-insert (e ∷ es) (suc i) v rising gap =
        rising-cons R e.0 (keys_of (insert es i (key, v)))
        (all-insert (λ y. R e.0 y ≡ Less) es i key v (sorted_head R e.0 (keys_of es) rising) (back total key e.0 Greater (gap.below 0 e (omega arith))))
        (rising-insert es i v (sorted_tail R e.0 (keys_of es) rising) (gap-behind e es i gap))

    pub at-insert : (es : List (K × X)) (i : ℕ) (v : X) → IsGapFor (R key) es i → (q : K) → at R (insert es i (key, v)) q ≡ cond (is_at (R key) q) (Some v) (at R es q)
    at-insert es i v gap q = lookup-insert (eq_by_cmp_equiv total) key v q es i (apart es i gap)
