-- The horizon of the coordinator's transactions never falls.
use Rattle.std.proofs.Common.{◌≡◌, ◌≤◌, ◌<◌, ℕ, ◌+◌, List, [], ◌∷◌, Option, Some, None, Bool, true, false, refl, sym, subst, cond, arith}
use Rattle.std.proofs.lemmas.Bool.Decides.{nat_tests}
use Rattle.std.specs.List.{flat_map}
use Rattle.std.specs.BTreeMap.{is_at}
use Rattle.std.specs.Map.{lookup, remove_entry, set_value}
use Rattle.gx_lemmas.proofs.Options.{some-same}
use Rattle.gx_ids.specs.declared.ids.Gxid.{Gxid}
use Rattle.gx_ids.specs.declared.ids.Node.{Node}
use Rattle.gx_dsnap.specs.Gxids.{gxid_cmp, least_of, lesser}
use Rattle.gx_dtx.specs.Nodes.{with_node}
use Rattle.gx_dtx.specs.Rules.{begun, changed, enlisted, moved, with_found, with_live, with_step, with_txn}
use Rattle.gx_dtx.specs.Table.{Table, holds_back, horizon_of, live_xmin, new_txn}
use Rattle.gx_dtx.specs.Whole.{AreDrawn, AreRisen}
use Rattle.gx_dtx.specs.declared.change.Change.{Change}
use Rattle.gx_dtx.specs.declared.change.Step.{Step}
use Rattle.gx_dtx.specs.declared.change.Step.TheVariants.{GoesTo, Leaves, Stays}
use Rattle.gx_dtx.specs.declared.phase.Phase.{Phase}
use Rattle.gx_dtx.specs.declared.phase.Phase.TheVariants.{Aborting, Active, CommittingOne, CommittingTwo, Ended, Preparing}
use Rattle.gx_dtx.specs.declared.txn.Txn.{Txn}
use Rattle.gx_dtx.proofs.Entries.{drawn-push, drawn-remove, drawn-with, risen-push, risen-remove, risen-with}
use Rattle.gx_dtx.proofs.Least.{least_of-append}
use Rattle.gx_law_order.proofs.Lists.{each_append}
use Rattle.gx_law_order.specs.Lists.{Each}
use Rattle.gx_rules.specs.AtCoordinator.{enlisted_all}

abbrev pub Txns : Type 0
Txns = List (Gxid × Txn)

-- a number is at or below what a transaction holds the horizon at
abbrev pub LiveAbove : ℕ → Option Gxid → Type 0
LiveAbove n None = Unit {0}
LiveAbove n (Some x) = n ≤ x.0

abbrev pub Above : ℕ → Gxid × Txn → Type 0
Above n e = (n ≤ e.0.0) × LiveAbove n e.1.live

-- and so at or below the horizon
lesser-above : (n : ℕ) (a b : Gxid) → n ≤ a.0 → n ≤ b.0 → n ≤ (lesser a b).0
lesser-above n a b x y = grind (arith, nat_tests)

one-above : (n : ℕ) (g : Gxid) (live : Option Gxid) (other : Gxid) → n ≤ g.0 → LiveAbove n live → n ≤ other.0 → n ≤ (least_of (g ∷ live_xmin live) other).0
one-above n g None other a b d = lesser-above n g other a d
one-above n g (Some x) other a b d = lesser-above n x (lesser g other) b (lesser-above n g other a d)

above-all : (n : ℕ) (es : Txns) (other : Gxid) → Each (Above n) es → n ≤ other.0 → n ≤ (least_of (flat_map holds_back es) other).0
above-all n [] other e d = d
above-all n (x ∷ es) other e d =
    subst (λ (least : Gxid). n ≤ least.0) (sym (least_of-append (holds_back x) (flat_map holds_back es) other)) (above-all n es (least_of (holds_back x) other) e.1 (one-above n x.0 x.1.live other e.0.0 e.0.1 d))

-- the horizon is at or below each
one-low : (m : ℕ) (g : Gxid) (live : Option Gxid) (other : Gxid) → m ≤ (least_of (g ∷ live_xmin live) other).0 → (m ≤ g.0) × LiveAbove m live × (m ≤ other.0)
one-low m g None other l = (left m g other l, tt, right m g other l)
  where
    left : (m : ℕ) (a b : Gxid) → m ≤ (lesser a b).0 → m ≤ a.0
    left m a b l = grind (arith, nat_tests)

    right : (m : ℕ) (a b : Gxid) → m ≤ (lesser a b).0 → m ≤ b.0
    right m a b l = grind (arith, nat_tests)
one-low m g (Some x) other l = (left m g other (right m x (lesser g other) l), left m x (lesser g other) l, right m g other (right m x (lesser g other) l))
  where
    left : (m : ℕ) (a b : Gxid) → m ≤ (lesser a b).0 → m ≤ a.0
    left m a b l = grind (arith, nat_tests)

    right : (m : ℕ) (a b : Gxid) → m ≤ (lesser a b).0 → m ≤ b.0
    right m a b l = grind (arith, nat_tests)

all-low : (m : ℕ) (es : Txns) (other : Gxid) → m ≤ (least_of (flat_map holds_back es) other).0 → Each (Above m) es × (m ≤ other.0)
all-low m [] other l = (tt, l)
all-low m (x ∷ es) other l = joined (all-low m es (least_of (holds_back x) other) (subst (λ (least : Gxid). m ≤ least.0) (least_of-append (holds_back x) (flat_map holds_back es) other) l))
  where
    joined : Each (Above m) es × (m ≤ (least_of (holds_back x) other).0) → Each (Above m) (x ∷ es) × (m ≤ other.0)
    joined r = let o = one-low m x.0 x.1.live other r.1 in (((o.0, o.1), r.0), o.2)

-- WHAT HOLDS OF A TABLE
pub record Sorted (d : Table) : Type 0 where
  pub first : 0 < d.next.0
  pub risen : AreRisen d.txns
  pub drawn : AreDrawn d.next.0 d.txns

pub record Bounds (n : ℕ) (d : Table) : Type 0 where
  pub next : n ≤ d.next.0
  pub each : Each (Above n) d.txns

pub horizon-bounds : (d : Table) → Bounds (horizon_of d).0 d
horizon-bounds d = let r = all-low (horizon_of d).0 d.txns d.next (le-refl (horizon_of d).0) in record { next = r.1; each = r.0 }
  where
    le-refl : (a : ℕ) → a ≤ a
    le-refl a = omega arith

pub bounds-horizon : (n : ℕ) (d : Table) → Bounds n d → n ≤ (horizon_of d).0
bounds-horizon n d b = above-all n d.txns d.next b.each b.next

-- a table that follows another
pub record Rises (d u : Table) : Type 0 where
  pub sorted : Sorted u
  pub low : (horizon_of d).0 ≤ (horizon_of u).0

pub rises-by : (d u : Table) → Sorted u → Bounds (horizon_of d).0 u → Rises d u
rises-by d u s b = record { sorted = s; low = bounds-horizon (horizon_of d).0 u b }

pub rises-same : (d : Table) → Sorted d → Rises d d
rises-same d s = rises-by d d s (horizon-bounds d)

pub rises-then : (d u v : Table) → Rises d u → Rises u v → Rises d v
rises-then d u v a b = record { sorted = b.sorted; low = le-trans (horizon_of d).0 (horizon_of u).0 (horizon_of v).0 a.low b.low }
  where
    le-trans : (a b c : ℕ) → a ≤ b → b ≤ c → a ≤ c
    le-trans a b c x y = omega arith

-- ENTRIES
module _ (n : ℕ) where
  found-above : (test : Gxid → Bool) (es : Txns) (t : Txn) → Each (Above n) es → lookup test es ≡ Some t → LiveAbove n t.live
  found-above test [] t e f = absurd (cc)
  found-above test (x ∷ es) t e f = by_test (test x.0) f (λ q. found-above test es t e.1 q)
    where
      by_test : (b : Bool) → cond b (Some x.1) (lookup test es) ≡ Some t → (lookup test es ≡ Some t → LiveAbove n t.live) → LiveAbove n t.live
      by_test true f more = subst (λ (u : Txn). LiveAbove n u.live) (some-same x.1 t f) e.0.1
      by_test false f more = more f

  set-above : (test : Gxid → Bool) (u : Txn) (es : Txns) → LiveAbove n u.live → Each (Above n) es → Each (Above n) (set_value test es u)
  set-above test u [] l e = tt
  set-above test u (x ∷ es) l e = by_test (test x.0) (set-above test u es l e.1)
    where
      by_test : (b : Bool) → Each (Above n) (set_value test es u) → Each (Above n) (cond b ((x.0, u) ∷ es) (x ∷ set_value test es u))
      by_test true f = ((e.0.0, l), e.1)
      by_test false f = (e.0, f)

  remove-above : (test : Gxid → Bool) (es : Txns) → Each (Above n) es → Each (Above n) (remove_entry test es)
  remove-above test [] e = tt
  remove-above test (x ∷ es) e = by_test (test x.0) (remove-above test es e.1)
    where
      by_test : (b : Bool) → Each (Above n) (remove_entry test es) → Each (Above n) (cond b es (x ∷ remove_entry test es))
      by_test true f = e.1
      by_test false f = (e.0, f)

  with-above : (es : Txns) (g : Gxid) (f : Txn → Txn) → ((t : Txn) → LiveAbove n t.live → LiveAbove n (f t).live) → Each (Above n) es → Each (Above n) (with_txn es g f)
  with-above es g f k e = by_found (lookup (is_at (gxid_cmp g)) es) refl
    where
      by_found : (o : Option Txn) → lookup (is_at (gxid_cmp g)) es ≡ o → Each (Above n) (with_found es g f o)
      by_found None q = e
      by_found (Some t) q = set-above (is_at (gxid_cmp g)) (f t) es (k t (found-above (is_at (gxid_cmp g)) es t e q)) e

  moved-above : (p : Phase) (t : Txn) → LiveAbove n t.live → LiveAbove n (moved p t).live
  moved-above Active t l = l
  moved-above (Preparing a b) t l = l
  moved-above (CommittingOne a) t l = l
  moved-above (CommittingTwo a) t l = l
  moved-above (Ended a) t l = tt
  moved-above (Aborting a) t l = tt

  step-above : (es : Txns) (g : Gxid) (s : Step) → Each (Above n) es → Each (Above n) (with_step es g s)
  step-above es g Stays e = e
  step-above es g (GoesTo p) e = with-above es g (moved p) (moved-above p) e
  step-above es g Leaves e = remove-above (is_at (gxid_cmp g)) es e

-- CALLS
pub begun-rises : (d : Table) → Sorted d → Rises d (begun d)
begun-rises d s =
    let b = horizon-bounds d in
    rises-by d (begun d)
    (record { first = more d.next.0 s.first; risen = risen-push d.next new_txn d.txns s.drawn s.risen; drawn = drawn-push d.next new_txn d.txns s.first s.drawn })
    (record { next = later (horizon_of d).0 d.next.0 b.next; each = each_append (Above (horizon_of d).0) d.txns ((d.next, new_txn) ∷ []) b.each ((b.next, tt), tt) })
  where
    more : (a : ℕ) → 0 < a → 0 < a + 1
    more a l = omega arith

    later : (n a : ℕ) → n ≤ a → n ≤ a + 1
    later n a l = omega arith

with-rises : (d : Table) (g : Gxid) (f : Txn → Txn) → Sorted d → ((t : Txn) → LiveAbove (horizon_of d).0 t.live → LiveAbove (horizon_of d).0 (f t).live) → Rises d (record d { txns = with_txn d.txns g f })
with-rises d g f s k =
    let b = horizon-bounds d in
    rises-by d _ (record { first = s.first; risen = risen-with g f d.txns s.risen; drawn = drawn-with d.next.0 g f d.txns s.drawn })
    (record { next = b.next; each = with-above (horizon_of d).0 d.txns g f k b.each })

pub live-rises : (d : Table) (g : Gxid) (live : Option Gxid) → Sorted d → LiveAbove (horizon_of d).0 live → Rises d (with_live d g live)
live-rises d g live s l = with-rises d g (λ t. record t { live = live }) s (λ t q. l)

one-enlisted : (d : Table) (g : Gxid) (i : Node) → Sorted d → Rises d (enlisted d g i)
one-enlisted d g i s = with-rises d g (λ t. record t { participants = with_node i t.participants }) s (λ t q. q)

pub enlisted-rises : (nodes : List Node) (d : Table) (g : Gxid) → Sorted d → Rises d (enlisted_all d g nodes)
enlisted-rises [] d g s = rises-same d s
enlisted-rises (i ∷ is) d g s = rises-then d (enlisted d g i) (enlisted_all (enlisted d g i) g is) (one-enlisted d g i s) (enlisted-rises is (enlisted d g i) g (one-enlisted d g i s).sorted)

pub changed-rises : (d : Table) (g : Gxid) (c : Change) → Sorted d → Rises d (changed d g c)
changed-rises d g c s =
    let b = horizon-bounds d in
    rises-by d (changed d g c) (record { first = s.first; risen = risen c.step; drawn = drawn c.step }) (record { next = b.next; each = step-above (horizon_of d).0 d.txns g c.step b.each })
  where
    risen : (x : Step) → AreRisen (with_step d.txns g x)
    risen Stays = s.risen
    risen (GoesTo p) = risen-with g (moved p) d.txns s.risen
    risen Leaves = risen-remove (is_at (gxid_cmp g)) d.txns s.risen

    drawn : (x : Step) → AreDrawn d.next.0 (with_step d.txns g x)
    drawn Stays = s.drawn
    drawn (GoesTo p) = drawn-with d.next.0 g (moved p) d.txns s.drawn
    drawn Leaves = drawn-remove d.next.0 (is_at (gxid_cmp g)) d.txns s.drawn
