-- A snapshot that is taken sees whoever is below the xmin that lives.
use Rattle.std.proofs.Common.{◌≡◌, ◌≤◌, ◌<◌, ℕ, ◌+◌, List, [], ◌∷◌, Option, Some, None, Bool, true, false, refl, sym, subst, ap, ◌∙◌, cond, if◌then◌else◌, ◌&&◌, not, ltb, arith, eqb, map, filter}
use Rattle.std.proofs.lemmas.Bool.{eqb-true}
use Rattle.std.proofs.lemmas.Bool.Decides.{nat_tests}
use Rattle.gx_lemmas.proofs.Options.{some-same}
use Rattle.gx_ids.specs.declared.ids.Gxid.{Gxid}
use Rattle.gx_dsnap.specs.Gxids.{after_ended, first_or, is_below, is_listed}
use Rattle.gx_dsnap.specs.Snapshot.{sees}
use Rattle.gx_dsnap.specs.declared.snapshot.Snapshot.{Snapshot}
use Rattle.gx_dtx.specs.Table.{Table, find_txn, horizon_of, is_running, runs, xmax_of, xmin_of}
use Rattle.gx_dtx.specs.Whole.{AreRisen, IsBelowAll}
use Rattle.gx_dtx.specs.declared.txn.Txn.{Txn}
use Rattle.gx_rules.specs.Snapshots.{latest_number, running_below, snapshot_of}
use Rattle.gx_law_order.specs.Lists.{Each}
use Rattle.gx_law_order.proofs.Past.{listed-is}
use Rattle.gx_law_order.proofs.Stages.{at_gxid, first-at}
use Rattle.gx_law_order.specs.Standings.{gx}
use Rattle.gx_law_reads.proofs.Heights.{Above, Bounds, Sorted, Txns, horizon-bounds}

-- a snapshot sees whoever is below the xmin that lives for it
abbrev pub Held : Option Gxid → Snapshot → Type 0
Held None x = ⊥
Held (Some y) x = (h : ℕ) → 1 ≤ h → h < y.0 → sees x (gx h) ≡ true

abbrev run_in : Txns → List Gxid
run_in es = map (λ (e : Gxid × Txn). e.0) (filter (λ (e : Gxid × Txn). is_running e.1.phase) es)

-- xmin is at most xmax
first-below : (limit : Gxid) (gs : List Gxid) → (first_or (filter (is_below limit) gs) limit).0 ≤ limit.0
first-below limit [] = le-refl limit.0
  where
    le-refl : (a : ℕ) → a ≤ a
    le-refl a = omega arith
first-below limit (g ∷ gs) = by_test (is_below limit g) refl (first-below limit gs)
  where
    under : (a b : ℕ) → ltb a b ≡ true → a ≤ b
    under a b e = grind (arith, nat_tests)

    by_test : (b : Bool) → is_below limit g ≡ b → (first_or (filter (is_below limit) gs) limit).0 ≤ limit.0 → (first_or (cond b (g ∷ filter (is_below limit) gs) (filter (is_below limit) gs)) limit).0 ≤ limit.0
    by_test true e f = under g.0 limit.0 e
    by_test false e f = f

-- and at most each that runs below xmax
first-running : (limit : Gxid) (h : ℕ) (t : Txn) (es : Txns) → AreRisen es → at_gxid h es ≡ Some t → is_running t.phase ≡ true → h < limit.0 → (first_or (filter (is_below limit) (run_in es)) limit).0 ≤ h
first-running limit h t [] r e s l = absurd (cc)
first-running limit h t (x ∷ es) r e s l = by_same (eqb h x.0.0) refl (sym (first-at h x es) ∙ e) (λ f. first-running limit h t es r.1 f s l)
  where
    le-refl : (a b : ℕ) → a ≡ b → a ≤ b
    le-refl a b e = omega arith

    under : (a b : ℕ) → a < b → ltb a b ≡ true
    under a b l = grind (arith, nat_tests)

    -- a kept head is the first
    head : (a b : Bool) → (b ≡ true → x.0.0 ≤ h) → is_below limit x.0 ≡ a → is_running x.1.phase ≡ b → (first_or (filter (is_below limit) (run_in es)) limit).0 ≤ h → (first_or (filter (is_below limit) (map (λ (e : Gxid × Txn). e.0) (cond b (x ∷ filter (λ (e : Gxid × Txn). is_running e.1.phase) es) (filter (λ (e : Gxid × Txn). is_running e.1.phase) es)))) limit).0 ≤ h
    head a false k p q f = f
    head true true k p q f = subst (λ b. (first_or (cond b (x.0 ∷ filter (is_below limit) (run_in es)) (filter (is_below limit) (run_in es))) limit).0 ≤ h) (sym p) (k refl)
    head false true k p q f = subst (λ b. (first_or (cond b (x.0 ∷ filter (is_below limit) (run_in es)) (filter (is_below limit) (run_in es))) limit).0 ≤ h) (sym p) f

    found-above : (n k : ℕ) (u : Txn) (xs : Txns) → IsBelowAll n xs → at_gxid k xs ≡ Some u → n < k
    found-above n k u [] b f = absurd (cc)
    found-above n k u (y ∷ ys) b f = inner (eqb k y.0.0) refl (sym (first-at k y ys) ∙ f) (λ q. found-above n k u ys b.1 q)
      where
        inner : (q : Bool) → eqb k y.0.0 ≡ q → (if q then Some y.1 else at_gxid k ys) ≡ Some u → (at_gxid k ys ≡ Some u → n < k) → n < k
        inner true q f more = subst (λ j. n < j) (sym (eqb-true k y.0.0 q)) b.0
        inner false q f more = more f

    less : (a b : ℕ) → a < b → a ≤ b
    less a b l = omega arith

    here : x.1 ≡ t → h ≡ x.0.0 → (first_or (filter (is_below limit) (run_in (x ∷ es))) limit).0 ≤ h
    here u q =
        subst (λ b. (first_or (filter (is_below limit) (map (λ (e : Gxid × Txn). e.0) (cond b (x ∷ filter (λ (e : Gxid × Txn). is_running e.1.phase) es) (filter (λ (e : Gxid × Txn). is_running e.1.phase) es)))) limit).0 ≤ h) (sym (ap (λ (t : Txn). is_running t.phase) u ∙ s))
        (subst (λ b. (first_or (cond b (x.0 ∷ filter (is_below limit) (run_in es)) (filter (is_below limit) (run_in es))) limit).0 ≤ h) (sym (under x.0.0 limit.0 (subst (λ j. j < limit.0) q l))) (le-refl x.0.0 h (sym q)))

    by_same : (b : Bool) → eqb h x.0.0 ≡ b → (if b then Some x.1 else at_gxid h es) ≡ Some t → (at_gxid h es ≡ Some t → (first_or (filter (is_below limit) (run_in es)) limit).0 ≤ h) → (first_or (filter (is_below limit) (run_in (x ∷ es))) limit).0 ≤ h
    by_same true q f more = here (some-same x.1 t f) (eqb-true h x.0.0 q)
    by_same false q f more = head (is_below limit x.0) (is_running x.1.phase) (λ b. less x.0.0 h (found-above x.0.0 h t es r.0 f)) refl refl (more f)

-- whoever is below xmin doesn't run
below-still : (d : Table) (h : ℕ) → Sorted d → h < (xmin_of d).0 → runs (find_txn d (gx h)) ≡ false
below-still d h s l = by_found (find_txn d (gx h)) refl
  where
    under : (a b c : ℕ) → a < b → b ≤ c → a < c
    under a b c l m = omega arith

    clash : (a b : ℕ) → a < b → b ≤ a → ⊥
    clash a b l m = omega arith

    by_found : (o : Option Txn) → find_txn d (gx h) ≡ o → runs o ≡ false
    by_found None e = refl
    by_found (Some t) e = by_run (is_running t.phase) refl
      where
        by_run : (b : Bool) → is_running t.phase ≡ b → b ≡ false
        by_run false r = refl
        by_run true r = absurd (clash h (xmin_of d).0 l (first-running (xmax_of d) h t d.txns s.risen e r (under h (xmin_of d).0 (xmax_of d).0 l (first-below (xmax_of d) (run_in d.txns)))))

-- so a snapshot that is taken now sees them
pub held-now : (d : Table) → Sorted d → Held (Some (xmin_of d)) (snapshot_of d)
held-now d s h one l = both (is_below (after_ended d.latest_ended) (gx h)) (is_listed (gx h) (running_below d d.latest_ended)) (below h (xmin_of d).0 (xmax_of d).0 l (first-below (xmax_of d) (run_in d.txns))) (by_test (is_listed (gx h) (running_below d d.latest_ended)) refl)
  where
    both : (a b : Bool) → a ≡ true → b ≡ false → (a && not b) ≡ true
    both a b e f = grind arith

    below : (a b c : ℕ) → a < b → b ≤ c → ltb a c ≡ true
    below a b c l m = grind (arith, nat_tests)

    clash : (b : Bool) → b ≡ true → b ≡ false → ⊥
    clash b e f = grind arith

    by_test : (b : Bool) → is_listed (gx h) (running_below d d.latest_ended) ≡ b → b ≡ false
    by_test false e = refl
    by_test true e = absurd (clash (runs (find_txn d (gx h))) (listed-is (λ g. runs (find_txn d g)) 1 (latest_number d.latest_ended) h e).2 (below-still d h s l))

-- THE HORIZON IS AT OR BELOW XMIN
-- whoever was drawn and doesn't run isn't above the latest that has ended
pub record Latest (d : Table) : Type 0 where
  pub all : (h : ℕ) → 1 ≤ h → h < d.next.0 → runs (find_txn d (gx h)) ≡ false → h ≤ latest_number d.latest_ended
  pub drawn : latest_number d.latest_ended < d.next.0

above-first : (n : ℕ) (limit : Gxid) (es : Txns) → n ≤ limit.0 → Each (Above n) es → n ≤ (first_or (filter (is_below limit) (run_in es)) limit).0
above-first n limit [] l e = l
above-first n limit (x ∷ es) l e = by_run (is_running x.1.phase) (is_below limit x.0) refl (above-first n limit es l e.1)
  where
    by_run : (b a : Bool) → is_below limit x.0 ≡ a → n ≤ (first_or (filter (is_below limit) (run_in es)) limit).0 → n ≤ (first_or (filter (is_below limit) (map (λ (e : Gxid × Txn). e.0) (cond b (x ∷ filter (λ (e : Gxid × Txn). is_running e.1.phase) es) (filter (λ (e : Gxid × Txn). is_running e.1.phase) es)))) limit).0
    by_run false a p f = f
    by_run true true p f = subst (λ b. n ≤ (first_or (cond b (x.0 ∷ filter (is_below limit) (run_in es)) (filter (is_below limit) (run_in es))) limit).0) (sym p) e.0.0
    by_run true false p f = subst (λ b. n ≤ (first_or (cond b (x.0 ∷ filter (is_below limit) (run_in es)) (filter (is_below limit) (run_in es))) limit).0) (sym p) f

there-above : (n h : ℕ) (t : Txn) (es : Txns) → Each (Above n) es → at_gxid h es ≡ Some t → n ≤ h
there-above n h t [] e f = absurd (cc)
there-above n h t (x ∷ es) e f = by_same (eqb h x.0.0) refl (sym (first-at h x es) ∙ f) (λ q. there-above n h t es e.1 q)
  where
    by_same : (b : Bool) → eqb h x.0.0 ≡ b → (if b then Some x.1 else at_gxid h es) ≡ Some t → (at_gxid h es ≡ Some t → n ≤ h) → n ≤ h
    by_same true q f more = subst (λ j. n ≤ j) (sym (eqb-true h x.0.0 q)) e.0.0
    by_same false q f more = more f

pub horizon-xmin : (d : Table) → Latest d → (horizon_of d).0 ≤ (xmin_of d).0
horizon-xmin d k = above-first (horizon_of d).0 (xmax_of d) d.txns (under-limit d.latest_ended refl) b.each
  where
    b : Bounds (horizon_of d).0 d
    b = horizon-bounds d

    after : (latest : Option Gxid) → (after_ended latest).0 ≡ latest_number latest + 1
    after None = refl
    after (Some g) = refl

    -- the number behind the latest
    k1 : ℕ
    k1 = latest_number d.latest_ended + 1

    one : (a : ℕ) → 1 ≤ a + 1
    one a = omega arith

    over : (a : ℕ) → a + 1 ≤ a → ⊥
    over a l = omega arith

    equal : (a b : ℕ) → a < b → ltb (a + 1) b ≡ false → b ≤ a + 1
    equal a b l e = grind (arith, nat_tests)

    le-trans : (a b c : ℕ) → a ≤ b → b ≤ c → a ≤ c
    le-trans a b c l m = omega arith

    is-less : (a b : ℕ) → ltb a b ≡ true → a < b
    is-less a b e = grind (arith, nat_tests)

    drawn : k1 < d.next.0 → (horizon_of d).0 ≤ k1
    drawn l = by_found (find_txn d (gx k1)) refl
      where
        by_found : (o : Option Txn) → find_txn d (gx k1) ≡ o → (horizon_of d).0 ≤ k1
        by_found None e = absurd (over (latest_number d.latest_ended) (k.all k1 (one (latest_number d.latest_ended)) l (ap runs e)))
        by_found (Some t) e = there-above (horizon_of d).0 k1 t d.txns b.each e

    by_next : (q : Bool) → ltb k1 d.next.0 ≡ q → (horizon_of d).0 ≤ k1
    by_next true q = drawn (is-less k1 d.next.0 q)
    by_next false q = le-trans (horizon_of d).0 d.next.0 k1 b.next (equal (latest_number d.latest_ended) d.next.0 k.drawn q)

    under-limit : (latest : Option Gxid) → d.latest_ended ≡ latest → (horizon_of d).0 ≤ (xmax_of d).0
    under-limit latest e = subst (λ m. (horizon_of d).0 ≤ m) (sym (after d.latest_ended)) (by_next (ltb k1 d.next.0) refl)
