-- Snapshots are read as they are printed.
use Rattle.std.proofs.Common.{◌≡◌, ℕ, ◌+◌, ◌<◌, ◌==◌, nat_lt, Bool, true, false, ◌&&◌, List, [], ◌∷◌, ◌++◌, codes, Option, Some, None, refl, sym, ◌∙◌, ap, subst, arith}
use Rattle.std.proofs.Props.{props}
use Rattle.std.specs.Prelude.{All, option_and_then}
use Rattle.std.specs.Option.{option_map}
use Rattle.std.specs.List.{flat_map, AllByRecursion}
use Rattle.std.specs.List.Sorted.{IsStrictlySortedBy, IsStrictlySortedBy-prop}
use Rattle.std.specs.Ordering.{nat_cmp}
use Rattle.std.specs.declared.cmp.Ordering.TheVariants.{Less}
use Rattle.std.proofs.lemmas.List.Elements.{All-head, All-tail}
use Rattle.std.proofs.lemmas.Option.{none-some, same_Some, some_pair_parts, option_and_then_some}
use Rattle.gx_dsnap.specs.Gxids.{IsRising, first_or, gxid_cmp}
use Rattle.gx_dsnap.specs.declared.snapshot.Snapshot.{Snapshot}
use Rattle.gx_ids.specs.declared.ids.Gxid.{Gxid}
use Rattle.gx_report.specs.Words.{gxid_text}
use Rattle.gx_trace.specs.Lawful.{IsGxid, IsSnapshot}
use Rattle.gx_trace.specs.Readers.{Front, both, IsEnd, IsReaderOf}
use Rattle.gx_trace.proofs.ReadFields.{gxid-lists, gxids}
use Rattle.gx_trace.proofs.Readers.{behind-word, one-behind-other}
use Rattle.gx_trace_lines.specs.Snapshots.{Shown, are_below, bounds, is_snapshot, kept_snapshot, rises, running, snapshot, snapshot_by, snapshot_if}

-- A SNAPSHOT IS ITS NUMBERS
abbrev the_snapshot : (x m : Gxid) (rs : List Gxid) → IsRising rs → All (λ g. g.0 < m.0) rs → x ≡ first_or rs m → Snapshot
the_snapshot x m rs u a p = record { xmin = x; xmax = m; running = rs; rising = u; below = a; least = p }

gxid-set : (g h : Gxid) → IsProp (g ≡ h)
gxid-set g h = Prim.hlevel props

prop-data : (x m : Gxid) (rs : List Gxid) (u v : IsRising rs) (a b : All (λ g. g.0 < m.0) rs) (p q : x ≡ first_or rs m) → the_snapshot x m rs u a p ≡ the_snapshot x m rs v b q
prop-data x m rs u v a b p q =
    let below : IsProp (All (λ (g : Gxid). g.0 < m.0) rs) = Prim.hlevel props in
    ap (λ z. the_snapshot x m rs z a p) (IsStrictlySortedBy-prop gxid_cmp rs u v) ∙ ap (λ z. the_snapshot x m rs v z p) (below a b) ∙ ap (λ z. the_snapshot x m rs v b z) (gxid-set x (first_or rs m) p q)

-- WHAT STANDS IN ONE
less : (a b : ℕ) → nat_cmp a b ≡ Less → nat_lt a b ≡ true
less a b e = grind (arith, e)

rises-of : (gs : List Gxid) → IsRising gs → rises gs ≡ true
unfolding IsStrictlySortedBy
rises-of [] is = refl
rises-of (g ∷ []) is = refl
rises-of (g ∷ h ∷ gs) is = ap (λ b. b && rises (h ∷ gs)) (less g.0 h.0 is.0.0) ∙ rises-of (h ∷ gs) is.1

are-below : (n : ℕ) (gs : List Gxid) → All (λ g. g.0 < n) gs → are_below n gs ≡ true
are-below n [] all = refl
are-below n (g ∷ gs) all =
    let P : Gxid → Type 0 = λ h. h.0 < n in
    ap (λ b. b && are_below n gs) (of-lt g.0 n (All-head P g gs all)) ∙ are-below n gs (All-tail P g gs all)
  where
    of-lt : (a b : ℕ) → a < b → nat_lt a b ≡ true
    of-lt a b l = grind arith

same-number : (n : ℕ) → (n == n) ≡ true
same-number n = grind arith

all-true : (p q r : Bool) → p ≡ true → q ≡ true → r ≡ true → (p && (q && r)) ≡ true
all-true p q r a b c = grind (arith, a, b, c)

is-one : (s : Snapshot) → is_snapshot s.xmin s.xmax s.running ≡ true
is-one s =
    all-true (rises s.running) (are_below s.xmax.0 s.running) (s.xmin.0 == (first_or s.running s.xmax).0) (rises-of s.running s.rising) (are-below s.xmax.0 s.running s.below)
    (ap (λ (g : Gxid). s.xmin.0 == g.0) (sym s.least) ∙ same-number s.xmin.0)

taken-by : (s : Snapshot) (c : Bool) (e : is_snapshot s.xmin s.xmax s.running ≡ c) → c ≡ true → snapshot_by s.xmin s.xmax s.running c e ≡ Some s
taken-by s true e is = ap Some (prop-data s.xmin s.xmax s.running _ s.rising _ s.below _ s.least)
taken-by s false e is = absurd (grind (arith, is))

-- the snapshot of a snapshot's numbers is it
pub taken-again : (s : Snapshot) → snapshot_if s.xmin s.xmax s.running ≡ Some s
taken-again s = taken-by s (is_snapshot s.xmin s.xmax s.running) refl (is-one s)

abbrev pub IsOf : Gxid → Gxid → List Gxid → Snapshot → Type 0
IsOf x m rs s = (s.xmin ≡ x) × (s.xmax ≡ m) × (s.running ≡ rs)

pub taken-is : (x m : Gxid) (rs : List Gxid) (s : Snapshot) → IsOf x m rs s → snapshot_if x m rs ≡ Some s
taken-is x m rs s is = let (a, b, c) = is in (λ i. snapshot_if (sym a i) (sym b i) (sym c i)) ∙ taken-again s

of-by : (x m : Gxid) (rs : List Gxid) (s : Snapshot) (c : Bool) (e : is_snapshot x m rs ≡ c) → snapshot_by x m rs c e ≡ Some s → IsOf x m rs s
of-by x m rs s true e is = subst (IsOf x m rs) (same_Some _ s is) (refl, refl, refl)
of-by x m rs s false e is = absurd (none-some s is)

-- READ
abbrev shown_text : Shown → List ℕ
shown_text x = ((codes " xmin" ++ gxid_text x.0.0) ++ (codes " xmax" ++ gxid_text x.0.1)) ++ (codes " running" ++ flat_map gxid_text x.1)

abbrev IsThere : Shown → Type 0
IsThere x = (IsGxid x.0.0 × IsGxid x.0.1) × All IsGxid x.1

shown : IsReaderOf shown_text IsThere IsEnd (both bounds running)
shown = one-behind-other (one-behind-other (behind-word (codes " xmin") gxids) (behind-word (codes " xmax") gxids) (λ b rest is ends. refl)) (behind-word (codes " running") gxid-lists) (λ b rest is ends. refl)

abbrev pub snapshot_text : Snapshot → List ℕ
snapshot_text s = shown_text ((s.xmin, s.xmax), s.running)

kept-by : (left rest : List ℕ) (s : Snapshot) (o : Option Snapshot) → ◌≡◌ {A = Front Snapshot} (option_map (λ t. (t, left)) o) (Some (s, rest)) → (o ≡ Some s) × (left ≡ rest)
kept-by left rest s None e = absurd (none-some _ e)
kept-by left rest s (Some t) e = let (p, q) = some_pair_parts t s left rest e in (ap Some p, q)

pub snapshots : IsReaderOf snapshot_text IsSnapshot IsEnd snapshot
snapshots = record {
  again = λ s rest is end.
      ap (option_and_then kept_snapshot) (shown.again ((s.xmin, s.xmax), s.running) rest ((is.0, is.1), is.2) end) ∙ ap (option_map (λ t. (t, rest))) (taken-again s);
  sound = λ bytes rest s e. option_and_then_some kept_snapshot (both bounds running bytes) (s, rest) e (λ x is kept.
      let (taken, q) = kept-by x.1 rest s (snapshot_if x.0.0.0 x.0.0.1 x.0.1) kept in
      let (a, b, c) = of-by x.0.0.0 x.0.0.1 x.0.1 s (is_snapshot x.0.0.0 x.0.0.1 x.0.1) refl taken in
      let (lawful, t) = shown.sound bytes x.1 x.0 is in
      ((subst IsGxid (sym a) lawful.0.0, subst IsGxid (sym b) lawful.0.1, subst (All IsGxid) (sym c) lawful.1), t ∙ (λ i. shown_text ((sym a i, sym b i), sym c i) ++ q i)));
}
