-- A command's snapshot, from what its mark shows.
use Rattle.std.proofs.Common.{◌≡◌, ℕ, ◌<◌, ◌==◌, nat_lt, Bool, true, false, ◌&&◌, List, [], ◌∷◌, Option, Some, None, refl, sym, ap}
use Rattle.std.proofs.Math.Nat.{lt_trans}
use Rattle.std.proofs.lemmas.Bool.{eqb-true, ltb-true}
use Rattle.std.proofs.lemmas.List.Elements.{All-cons, All-nil}
use Rattle.std.specs.Prelude.{All, codes, option_and_then}
use Rattle.std.specs.Option.{option_map}
use Rattle.std.specs.Cmp.{nat_cmp_is}
use Rattle.std.specs.List.{AllByRecursion}
use Rattle.std.specs.List.Sorted.{IsStrictlySortedBy}
use Rattle.std.specs.declared.cmp.Ordering.TheVariants.{Less}
use Rattle.gx_dsnap.specs.Gxids.{IsRising, first_or, gxid_cmp}
use Rattle.gx_dsnap.specs.declared.snapshot.Snapshot.{Snapshot}
use Rattle.gx_ids.specs.declared.ids.Cid.{Cid}
use Rattle.gx_ids.specs.declared.ids.Gxid.{Gxid}
use Rattle.gx_trace.specs.Fields.{cid, gxid, gxid_of}
use Rattle.gx_trace.specs.Lists.{gxids}
use Rattle.gx_trace.specs.Readers.{Front, behind, both}

-- each is below the next
abbrev pub rises : List Gxid → Bool
rises [] = true
rises (g ∷ []) = true
rises (g ∷ h ∷ gs) = nat_lt g.0 h.0 && rises (h ∷ gs)

abbrev pub are_below : ℕ → List Gxid → Bool
are_below n [] = true
are_below n (g ∷ gs) = nat_lt g.0 n && are_below n gs

-- who runs rises, below xmax, and xmin is the first of them, or else xmax
abbrev pub is_snapshot : Gxid → Gxid → List Gxid → Bool
is_snapshot xmin xmax running = rises running && (are_below xmax.0 running && (xmin.0 == (first_or running xmax).0))

pub first-of : (p q : Bool) → (p && q) ≡ true → p ≡ true
first-of true q e = refl
first-of false q e = e

pub second-of : (p q : Bool) → (p && q) ≡ true → q ≡ true
second-of true q e = e
second-of false true e = refl
second-of false false e = e

weaker : (g h : Gxid) (gs : List Gxid) → g.0 < h.0 → AllByRecursion (λ y. h.0 < y.0) gs → AllByRecursion (λ y. g.0 < y.0) gs
weaker g h [] below all = tt
weaker g h (y ∷ ys) below all = (lt_trans below all.0, weaker g h ys below all.1)

above-of : (g : Gxid) (gs : List Gxid) → rises (g ∷ gs) ≡ true → AllByRecursion (λ y. g.0 < y.0) gs
above-of g [] e = tt
above-of g (h ∷ gs) e =
    let below = ltb-true g.0 h.0 (first-of (nat_lt g.0 h.0) (rises (h ∷ gs)) e) in
    (below, weaker g h gs below (above-of h gs (second-of (nat_lt g.0 h.0) (rises (h ∷ gs)) e)))

as-less : (g : Gxid) (gs : List Gxid) → AllByRecursion (λ y. g.0 < y.0) gs → AllByRecursion (λ y. gxid_cmp g y ≡ Less) gs
as-less g [] all = tt
as-less g (y ∷ ys) all = (sym (nat_cmp_is g.0 y.0 Less all.0), as-less g ys all.1)

pub rising-of : (gs : List Gxid) → rises gs ≡ true → IsRising gs
unfolding IsStrictlySortedBy
rising-of [] e = tt
rising-of (g ∷ []) e = (tt, tt)
rising-of (g ∷ h ∷ gs) e = (as-less g (h ∷ gs) (above-of g (h ∷ gs) e), rising-of (h ∷ gs) (second-of (nat_lt g.0 h.0) (rises (h ∷ gs)) e))

pub below-of : (n : ℕ) (gs : List Gxid) → are_below n gs ≡ true → All (λ g. g.0 < n) gs
below-of n [] e = All-nil (λ (g : Gxid). g.0 < n)
below-of n (g ∷ gs) e = All-cons (λ (h : Gxid). h.0 < n) g gs (ltb-true g.0 n (first-of (nat_lt g.0 n) (are_below n gs) e)) (below-of n gs (second-of (nat_lt g.0 n) (are_below n gs) e))

pub least-of : (g h : Gxid) → (g.0 == h.0) ≡ true → g ≡ h
least-of g h e = ap gxid_of (eqb-true g.0 h.0 e)

abbrev pub snapshot_by : (xmin xmax : Gxid) (running : List Gxid) (c : Bool) → is_snapshot xmin xmax running ≡ c → Option Snapshot
snapshot_by xmin xmax running false e = None
snapshot_by xmin xmax running true e =
    let more = second-of (rises running) (are_below xmax.0 running && (xmin.0 == (first_or running xmax).0)) e in
    Some (record {
      xmin = xmin;
      xmax = xmax;
      running = running;
      rising = rising-of running (first-of (rises running) (are_below xmax.0 running && (xmin.0 == (first_or running xmax).0)) e);
      below = below-of xmax.0 running (first-of (are_below xmax.0 running) (xmin.0 == (first_or running xmax).0) more);
      least = least-of xmin (first_or running xmax) (second-of (are_below xmax.0 running) (xmin.0 == (first_or running xmax).0) more);
    })

-- the snapshot of these bounds and of who runs, where there is one
abbrev pub snapshot_if : Gxid → Gxid → List Gxid → Option Snapshot
snapshot_if xmin xmax running = snapshot_by xmin xmax running (is_snapshot xmin xmax running) refl

abbrev pub bounds : List ℕ → Front (Gxid × Gxid)
bounds = both (behind (codes " xmin") gxid) (behind (codes " xmax") gxid)

abbrev pub running : List ℕ → Front (List Gxid)
running = behind (codes " running") gxids

abbrev pub Shown : Type 0
Shown = (Gxid × Gxid) × List Gxid

abbrev pub kept_snapshot : Shown × List ℕ → Front Snapshot
kept_snapshot x = option_map (λ s. (s, x.1)) (snapshot_if x.0.0.0 x.0.0.1 x.0.1)

abbrev pub snapshot : List ℕ → Front Snapshot
snapshot bytes = option_and_then kept_snapshot (both bounds running bytes)
