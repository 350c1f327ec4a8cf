-- A snapshot that was taken is the rule's.
use Rattle.std.proofs.Common.{◌≡◌, ◌≤◌, ◌<◌, Result, Ok, Err, IfOk, ℕ, zero, suc, ◌+◌, List, [], ◌∷◌, Bool, true, false, refl, sym, subst, ap, ◌∙◌, cond, ◌==◌, ◌&&◌, ◌||◌, not, arith, ltb, nat_cmp, Less, map, filter, nat_lt, nat_le, All}
use Rattle.std.proofs.lemmas.Bool.{eqb-true, or_from}
use Rattle.std.proofs.lemmas.Bool.Decides.{nat_tests}
use Rattle.std.specs.List.{AllByRecursion}
use Rattle.std.specs.List.Sorted.{IsStrictlySortedBy}
use Rattle.gx_lemmas.proofs.Numbers.{le-of}
use Rattle.gx_ids.specs.declared.ids.Gxid.{Gxid}
use Rattle.std.proofs.Props.{props}
use Rattle.std.proofs.lemmas.List.Elements.{recursion_from_All}
use Rattle.std.specs.List.Sorted.{IsStrictlySortedBy-prop}
use Rattle.gx_dsnap.specs.Gxids.{IsRising, after_ended, first_or, gxid_cmp, is_below, is_listed}
use Rattle.gx_dsnap.specs.Snapshot.{sees}
use Rattle.gx_dsnap.specs.declared.snapshot.Snapshot.{Snapshot}
use Rattle.gx_dtx.specs.Table.{Table, find_txn, has_ended, listed_of, runs, xmax_of}
use Rattle.gx_dtx.specs.declared.txn.Txn.{Txn}
use Rattle.gx_rules.specs.Gxids.{filter-rising, gxids_from}
use Rattle.gx_rules.specs.Snapshots.{after_latest, latest_number, running_below, snapshot_of}
use Rattle.gx_law_order.specs.Stages.{Below, IsWhole}

same-gxid : (g h : Gxid) → g.0 ≡ h.0 → g ≡ h
same-gxid g h e = ap (λ n. record { 0 = n }) e

under : (m n : ℕ) → nat_cmp m n ≡ Less → m < n
under m n e = grind (arith, nat_tests)

not-listed : (x g : Gxid) (ys : List Gxid) → AllByRecursion (λ y. gxid_cmp x y ≡ Less) ys → g.0 ≤ x.0 → is_listed g ys ≡ false
not-listed x g [] a l = refl
not-listed x g (y ∷ ys) a l = or_from (y.0 == g.0) (is_listed g ys) (apart y.0 g.0 (beyond (under x.0 y.0 a.0) l)) (not-listed x g ys a.1 l)
  where
    beyond : x.0 < y.0 → g.0 ≤ x.0 → g.0 < y.0
    beyond p q = omega (arith, p, q)

    apart : (m n : ℕ) → n < m → (m == n) ≡ false
    apart m n p = grind (arith, nat_tests)

-- two rising lists of the same gxids are one
pub rising-same : (xs ys : List Gxid) → IsRising xs → IsRising ys → ((g : Gxid) → is_listed g xs ≡ is_listed g ys) → xs ≡ ys
unfolding IsStrictlySortedBy
rising-same [] [] r s f = refl
rising-same [] (y ∷ ys) r s f = absurd (clash y.0 (is_listed y ys) (f y))
  where
    clash : (n : ℕ) (b : Bool) → false ≡ ((n == n) || b) → ⊥
    clash n b e = grind (arith, nat_tests)
rising-same (x ∷ xs) [] r s f = absurd (clash x.0 (is_listed x xs) (f x))
  where
    clash : (n : ℕ) (b : Bool) → ((n == n) || b) ≡ false → ⊥
    clash n b e = grind (arith, nat_tests)
rising-same (x ∷ xs) (y ∷ ys) r s f = step (heads (ltb x.0 y.0) (ltb y.0 x.0) refl refl) (λ h. rising-same xs ys r.1 s.1 h)
  where
    lower : (m n : ℕ) → ltb m n ≡ true → m ≤ n
    lower m n e = grind (arith, nat_tests)

    first-only : (m n : ℕ) (b : Bool) → ((m == m) || b) ≡ ((n == m) || false) → n ≡ m
    first-only m n b e = grind (arith, nat_tests)

    equal : (m n : ℕ) → ltb m n ≡ false → ltb n m ≡ false → m ≡ n
    equal m n e h = grind (arith, nat_tests)

    heads : (a b : Bool) → ltb x.0 y.0 ≡ a → ltb y.0 x.0 ≡ b → x.0 ≡ y.0
    heads true b e h = sym (first-only x.0 y.0 (is_listed x xs) (f x ∙ ap (λ c. (y.0 == x.0) || c) (not-listed y x ys s.0 (lower x.0 y.0 e))))
    heads false true e h = first-only y.0 x.0 (is_listed y ys) (sym (f y) ∙ ap (λ c. (x.0 == y.0) || c) (not-listed x y xs r.0 (lower y.0 x.0 h)))
    heads false false e h = equal x.0 y.0 e h

    others : x.0 ≡ y.0 → (g : Gxid) → (b : Bool) → (x.0 == g.0) ≡ b → is_listed g xs ≡ is_listed g ys
    others e g true q = not-listed x g xs r.0 (low x.0 g.0 q) ∙ sym (not-listed y g ys s.0 (low y.0 g.0 (ap (λ n. n == g.0) (sym e) ∙ q)))
      where
        low : (m n : ℕ) → (m == n) ≡ true → n ≤ m
        low m n q = grind (arith, nat_tests)
    others e g false q = sym (ap (λ c. c || is_listed g xs) q) ∙ f g ∙ ap (λ c. c || is_listed g ys) (ap (λ n. n == g.0) (sym e) ∙ q)

    step : x.0 ≡ y.0 → (((g : Gxid) → is_listed g xs ≡ is_listed g ys) → xs ≡ ys) → (x ∷ xs) ≡ (y ∷ ys)
    step e more = ap (λ z. z ∷ xs) (same-gxid x y e) ∙ ap (λ zs. y ∷ zs) (more (λ g. others e g (x.0 == g.0) refl))

-- gxids that pass a test, from a number on
listed-from : (p : Gxid → Bool) (a n : ℕ) (g : Gxid) → is_listed g (filter p (gxids_from a n)) ≡ ((nat_le a g.0 && nat_lt g.0 (a + n)) && p g)
listed-from p a zero g = sym (none a g.0 (p g))
  where
    none : (a m : ℕ) (b : Bool) → ((nat_le a m && nat_lt m (a + 0)) && b) ≡ false
    none a m b = grind (arith, nat_tests)
listed-from p a (suc n) g = by_first (p (record { 0 = a })) refl (a == g.0) refl (listed-from p (suc a) n g)
  where
    first : (a m n : ℕ) (b : Bool) → (a == m) ≡ true → b ≡ ((nat_le a m && nat_lt m (a + suc n)) && b)
    first a m n b e = grind (arith, nat_tests)

    later : (a m n : ℕ) (b : Bool) → (a == m) ≡ false → ((nat_le (suc a) m && nat_lt m (suc a + n)) && b) ≡ ((nat_le a m && nat_lt m (a + suc n)) && b)
    later a m n b e = grind (arith, nat_tests)

    out : (a m n : ℕ) (b : Bool) → (a == m) ≡ true → ((nat_le (suc a) m && nat_lt m (suc a + n)) && b) ≡ false
    out a m n b e = grind (arith, nat_tests)

    by_first : (b : Bool) → p (record { 0 = a }) ≡ b → (c : Bool) → (a == g.0) ≡ c → is_listed g (filter p (gxids_from (suc a) n)) ≡ ((nat_le (suc a) g.0 && nat_lt g.0 (suc a + n)) && p g) → is_listed g (cond b (record { 0 = a } ∷ filter p (gxids_from (suc a) n)) (filter p (gxids_from (suc a) n))) ≡ ((nat_le a g.0 && nat_lt g.0 (a + suc n)) && p g)
    by_first true q true e h = ap (λ x. x || is_listed g (filter p (gxids_from (suc a) n))) e ∙ sym q ∙ ap p (same-gxid (record { 0 = a }) g (eqb-true a g.0 e)) ∙ first a g.0 n (p g) e
    by_first true q false e h = ap (λ x. x || is_listed g (filter p (gxids_from (suc a) n))) e ∙ h ∙ later a g.0 n (p g) e
    by_first false q true e h = h ∙ out a g.0 n (p g) e ∙ sym q ∙ ap p (same-gxid (record { 0 = a }) g (eqb-true a g.0 e)) ∙ first a g.0 n (p g) e
    by_first false q false e h = h ∙ later a g.0 n (p g) e

-- A snapshot is its numbers.
abbrev the_snapshot : (x m : Gxid) (rs : List Gxid) → IsRising rs → All (λ g. g.0 < m.0) rs → x ≡ first_or rs m → Snapshot
the_snapshot x m rs u a p = record { xmin = x; xmax = m; running = rs; rising = u; below = a; least = p }

gxid-set : (g h : Gxid) → IsProp (g ≡ h)
gxid-set g h = Prim.hlevel props

prop-data : (x m : Gxid) (rs : List Gxid) (u v : IsRising rs) (a b : All (λ g. g.0 < m.0) rs) (p q : x ≡ first_or rs m) → the_snapshot x m rs u a p ≡ the_snapshot x m rs v b q
prop-data x m rs u v a b p q =
    let below : IsProp (All (λ (g : Gxid). g.0 < m.0) rs) = Prim.hlevel props in
    ap (λ z. the_snapshot x m rs z a p) (IsStrictlySortedBy-prop gxid_cmp rs u v) ∙ ap (λ z. the_snapshot x m rs v z p) (below a b) ∙ ap (λ z. the_snapshot x m rs v b z) (gxid-set x (first_or rs m) p q)

same-snapshot : (a b : Snapshot) → a.xmin ≡ b.xmin → a.xmax ≡ b.xmax → a.running ≡ b.running → a ≡ b
same-snapshot a b e f h = by_running b.running h b.rising b.below b.least
  where
    by_xmin : (x : Gxid) → a.xmin ≡ x → (p : x ≡ first_or a.running a.xmax) → a ≡ the_snapshot x a.xmax a.running a.rising a.below p
    by_xmin x e = subst (λ (y : Gxid). (p : y ≡ first_or a.running a.xmax) → a ≡ the_snapshot y a.xmax a.running a.rising a.below p) e (λ p. prop-data a.xmin a.xmax a.running a.rising a.rising a.below a.below a.least p)

    by_xmax : (m : Gxid) → a.xmax ≡ m → (v : All (λ g. g.0 < m.0) a.running) (p : b.xmin ≡ first_or a.running m) → a ≡ the_snapshot b.xmin m a.running a.rising v p
    by_xmax m f = subst (λ (n : Gxid). (v : All (λ g. g.0 < n.0) a.running) (p : b.xmin ≡ first_or a.running n) → a ≡ the_snapshot b.xmin n a.running a.rising v p) f (λ v p. by_xmin b.xmin e p ∙ prop-data b.xmin a.xmax a.running a.rising a.rising a.below v p p)

    by_running : (rs : List Gxid) → a.running ≡ rs → (u : IsRising rs) (v : All (λ g. g.0 < b.xmax.0) rs) (p : b.xmin ≡ first_or rs b.xmax) → a ≡ the_snapshot b.xmin b.xmax rs u v p
    by_running rs h = subst (λ (ss : List Gxid). (u : IsRising ss) (v : All (λ g. g.0 < b.xmax.0) ss) (p : b.xmin ≡ first_or ss b.xmax) → a ≡ the_snapshot b.xmin b.xmax ss u v p) h (λ u v p. by_xmax b.xmax f v p ∙ prop-data b.xmin b.xmax a.running a.rising u v v p p)

-- below the limit alone
none-above : (m : ℕ) (g : Gxid) (xs : List Gxid) → AllByRecursion (λ h. h.0 < m) xs → m ≤ g.0 → is_listed g xs ≡ false
none-above m g [] a l = refl
none-above m g (x ∷ xs) a l = or_from (x.0 == g.0) (is_listed g xs) (apart x.0 g.0 a.0 l) (none-above m g xs a.1 l)
  where
    apart : (k n : ℕ) → k < m → m ≤ n → (k == n) ≡ false
    apart k n p q = grind (arith, nat_tests)

none-zero : (next : ℕ) (p : Gxid → Bool) (q : Gxid × Txn → Bool) (g : Gxid) (es : List (Gxid × Txn)) → g.0 ≡ 0 → Below next es → is_listed g (filter p (map (λ (e : Gxid × Txn). e.0) (filter q es))) ≡ false
none-zero next p q g [] z b = refl
none-zero next p q g (e ∷ es) z b = by_test (q e) (none-zero next p q g es z b.1)
  where
    apart : (k n : ℕ) → 1 ≤ k → n ≡ 0 → (k == n) ≡ false
    apart k n x y = grind (arith, nat_tests)

    by_head : (c : Bool) → is_listed g (filter p (map (λ (e : Gxid × Txn). e.0) (filter q es))) ≡ false → is_listed g (cond c (e.0 ∷ filter p (map (λ (e : Gxid × Txn). e.0) (filter q es))) (filter p (map (λ (e : Gxid × Txn). e.0) (filter q es)))) ≡ false
    by_head true h = or_from (e.0.0 == g.0) _ (apart e.0.0 g.0 b.0.0 z) h
    by_head false h = h

    by_test : (c : Bool) → is_listed g (filter p (map (λ (e : Gxid × Txn). e.0) (filter q es))) ≡ false → is_listed g (filter p (map (λ (e : Gxid × Txn). e.0) (cond c (e ∷ filter q es) (filter q es)))) ≡ false
    by_test true h = by_head (p e.0) h
    by_test false h = h

module _ (d : Table) (snap : Snapshot) (whole : IsWhole d) (late : latest_number d.latest_ended < d.next.0) (xmax : snap.xmax ≡ xmax_of d) (running : snap.running ≡ listed_of d) (seen : (g : Gxid) → 0 < g.0 → sees snap g ≡ has_ended d g) where
  limit : snap.xmax.0 ≡ 1 + latest_number d.latest_ended
  limit = ap (λ (g : Gxid). g.0) xmax ∙ sym (after_latest d.latest_ended)

  at-zero : (g : Gxid) → g.0 ≡ 0 → is_listed g snap.running ≡ false
  at-zero g z = ap (is_listed g) running ∙ none-zero d.next.0 _ _ g d.txns z whole.drawn

  below-limit : (g : Gxid) → 0 < g.0 → nat_lt g.0 (1 + latest_number d.latest_ended) ≡ true → is_listed g snap.running ≡ runs (find_txn d g)
  below-limit g one low =
      solved (is_below snap.xmax g) (is_listed g snap.running) (nat_lt 0 g.0) (is_below d.next g) (runs (find_txn d g)) (ap (λ n. nat_lt g.0 n) limit ∙ low) (positive g.0 one) (drawn g.0 (latest_number d.latest_ended) d.next.0 low late) (seen g one)
    where
      positive : (n : ℕ) → 0 < n → nat_lt 0 n ≡ true
      positive n l = grind (arith, nat_tests)

      drawn : (n k m : ℕ) → nat_lt n (1 + k) ≡ true → k < m → nat_lt n m ≡ true
      drawn n k m e l = grind (arith, nat_tests)

      solved : (below listed pos drawn ran : Bool) → below ≡ true → pos ≡ true → drawn ≡ true → (below && not listed) ≡ ((pos && drawn) && not ran) → listed ≡ ran
      solved below listed pos drawn ran x y z e = grind arith

  above-limit : (g : Gxid) → nat_lt g.0 (1 + latest_number d.latest_ended) ≡ false → is_listed g snap.running ≡ false
  above-limit g high = none-above snap.xmax.0 g snap.running (recursion_from_All (λ (h : Gxid). h.0 < snap.xmax.0) snap.running snap.below) (subst (λ n. n ≤ g.0) (sym limit) (le-of g.0 (1 + latest_number d.latest_ended) high))

  listed-is : (g : Gxid) (n : ℕ) → g.0 ≡ n → (b : Bool) → nat_lt g.0 (1 + latest_number d.latest_ended) ≡ b → is_listed g snap.running ≡ ((nat_le 1 g.0 && nat_lt g.0 (1 + latest_number d.latest_ended)) && runs (find_txn d g))
  listed-is g zero z b e = at-zero g z ∙ sym (none g.0 (nat_lt g.0 (1 + latest_number d.latest_ended)) (runs (find_txn d g)) z)
    where
      none : (n : ℕ) (x y : Bool) → n ≡ 0 → ((nat_le 1 n && x) && y) ≡ false
      none n x y z = grind (arith, nat_tests)
  listed-is g (suc n) z true e = below-limit g (positive g.0 n z) e ∙ sym (here g.0 n (nat_lt g.0 (1 + latest_number d.latest_ended)) (runs (find_txn d g)) z e)
    where
      positive : (k n : ℕ) → k ≡ suc n → 0 < k
      positive k n z = omega (arith, z)

      here : (k n : ℕ) (x y : Bool) → k ≡ suc n → x ≡ true → ((nat_le 1 k && x) && y) ≡ y
      here k n x y z e = grind (arith, nat_tests)
  listed-is g (suc n) z false e = above-limit g e ∙ sym (none (nat_le 1 g.0) (nat_lt g.0 (1 + latest_number d.latest_ended)) (runs (find_txn d g)) e)
    where
      none : (w x y : Bool) → x ≡ false → ((w && x) && y) ≡ false
      none w x y e = grind arith

  running-is : snap.running ≡ running_below d d.latest_ended
  running-is = rising-same snap.running (running_below d d.latest_ended) snap.rising (filter-rising (λ g. runs (find_txn d g)) 1 (latest_number d.latest_ended)) (λ g. listed-is g g.0 refl (nat_lt g.0 (1 + latest_number d.latest_ended)) refl ∙ sym (listed-from (λ h. runs (find_txn d h)) 1 (latest_number d.latest_ended) g))

  xmin-is : snap.xmin ≡ first_or (running_below d d.latest_ended) (after_ended d.latest_ended)
  xmin-is = snap.least ∙ ap (λ rs. first_or rs snap.xmax) running-is ∙ ap (first_or (running_below d d.latest_ended)) xmax

  pub snapped : snap ≡ snapshot_of d
  snapped = same-snapshot snap (snapshot_of d) xmin-is xmax running-is

pub ok-snapped : {E : Type 0} (d : Table) (r : Result Snapshot E) → IsWhole d → latest_number d.latest_ended < d.next.0 → IfOk r (λ snap. snap.xmax ≡ xmax_of d) → IfOk r (λ snap. snap.running ≡ listed_of d) → IfOk r (λ snap. (g : Gxid) → 0 < g.0 → sees snap g ≡ has_ended d g) → IfOk r (λ snap. snap ≡ snapshot_of d)
ok-snapped d (Ok snap) w l x r s = snapped d snap w l x r s
ok-snapped d (Err e) w l x r s = tt
