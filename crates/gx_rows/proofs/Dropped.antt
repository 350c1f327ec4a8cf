-- Dropping entries below a snapshot's xmin changes nothing that its reader sees.
use Rattle.std.proofs.Common.{◌≡◌, ℕ, ◌<◌, ◌≤◌, List, [], ◌∷◌, refl, ap, ◌∙◌, Bool, true, false, cond, ltb, eqb, arith, ◌&&◌, ◌||◌, not}
use Rattle.std.proofs.lemmas.Bool.Decides.{nat_tests}
use Rattle.std.proofs.lemmas.List.Elements.{All-cons, All-head, All-weaker}
use Rattle.std.proofs.lemmas.List.Folds.{list_any_none}
use Rattle.std.proofs.lemmas.Map.Views.{All-after_first}
use Rattle.std.specs.Prelude.{find, reverse, All, Option, None, Some, option_and_then}
use Rattle.std.specs.Ordering.{nat_cmp}
use Rattle.std.specs.declared.cmp.Ordering.TheVariants.{Less}
use Rattle.gx_ids.specs.declared.ids.Gxid.{Gxid}
use Rattle.gx_ids.specs.declared.ids.Lxid.{Lxid}
use Rattle.gx_ids.specs.declared.ids.Cid.{Cid}
use Rattle.gx_dsnap.specs.declared.snapshot.Snapshot.{Snapshot}
use Rattle.gx_dsnap.specs.Gxids.{gxid_cmp, IsRising, is_listed, is_below, first_or}
use Rattle.gx_dsnap.specs.Snapshot.{sees}
use Rattle.gx_rows.specs.Truncated.{IsTruncated}
use Rattle.gx_rows.specs.Xids.{Xids, gxid_of, kept, status_of}
use Rattle.gx_rows.specs.declared.version.Version.{Version}
use Rattle.gx_rows.specs.Counts.{is_seen, is_own, is_committed, counts, shown_of}
use Rattle.gx_rows.specs.declared.status.LocalStatus.{LocalStatus}

apart_first : (g h : ℕ) → g < h → eqb h g ≡ false
apart_first g h lower = grind (arith, nat_tests)

apart_later : (g h k : ℕ) → g < h → nat_cmp h k ≡ Less → eqb k g ≡ false
apart_later g h k lower above = grind (arith, nat_tests)

-- what is below the first of a rising list isn't in it
is_listed-below : (g xmax : Gxid) (running : List Gxid) → IsRising running → g.0 < (first_or running xmax).0 → is_listed g running ≡ false
is_listed-below g xmax [] rising lower = refl
is_listed-below g xmax (h ∷ hs) rising lower =
    list_any_none
    (λ k. eqb k.0 g.0)
    (h ∷ hs)
    (All-cons (λ k. eqb k.0 g.0 ≡ false) h hs (apart_first g.0 h.0 lower) (All-weaker (λ k. gxid_cmp h k ≡ Less) (λ k. eqb k.0 g.0 ≡ false) (λ k above. apart_later g.0 h.0 k.0 lower above) hs (All-after_first gxid_cmp h hs rising)))

is_below-first : (g xmax : Gxid) (running : List Gxid) → All (λ h. h.0 < xmax.0) running → g.0 < (first_or running xmax).0 → is_below xmax g ≡ true
is_below-first g xmax [] under lower = grind (arith, nat_tests)
is_below-first g xmax (h ∷ hs) under lower = let first : h.0 < xmax.0 = All-head (λ k. k.0 < xmax.0) h hs under in below_through g.0 h.0 xmax.0 lower first
  where
    below_through : (a b c : ℕ) → a < b → b < c → ltb a c ≡ true
    below_through a b c ab bc = grind (arith, nat_tests)

-- a snapshot sees each gxid below its xmin
pub sees-below : (snap : Snapshot) (g : Gxid) → g.0 < snap.xmin.0 → sees snap g ≡ true
sees-below snap g low =
    let lower : g.0 < (first_or snap.running snap.xmax).0 = rw (← snap.least) low in
    ap (λ b. b && not (is_listed g snap.running)) (is_below-first g snap.xmax snap.running snap.below lower)
    ∙ ap not (is_listed-below g snap.xmax snap.running snap.rising lower)

or_same : (h g m : ℕ) (s : Bool) → h ≤ m → (g < m → s ≡ true) → (ltb g h || s) ≡ s
or_same h g m s below seen = grind (arith, nat_tests)

is_seen-kept : (snap : Snapshot) (h g : Gxid) (b : Bool) → is_seen snap (cond b None (Some g)) ≡ (b || sees snap g)
is_seen-kept snap h g true = refl
is_seen-kept snap h g false = refl

at_entry : (snap : Snapshot) (o : Option Gxid) (h : Gxid) → h.0 ≤ snap.xmin.0 → is_seen snap (option_and_then (kept h) o) ≡ is_seen snap o
at_entry snap None h below = refl
at_entry snap (Some g) h below = is_seen-kept snap h g (ltb g.0 h.0) ∙ or_same h.0 g.0 snap.xmin.0 (sees snap g) below (sees-below snap g)

-- a version counts as before
pub counts-truncated : (v : Version) (x x' : Xids) (h : Gxid) (snap : Snapshot) (own : Option Lxid) (cid : Cid) → IsTruncated x h x' → h.0 ≤ snap.xmin.0 → counts v x' snap own cid ≡ counts v x snap own cid
counts-truncated v x x' h snap own cid is below =
    ap (λ (s : LocalStatus). is_own v own cid || (is_committed s && is_seen snap (gxid_of x' v.lxid))) (is.statuses v.lxid)
    ∙ ap (λ (seen : Bool). is_own v own cid || (is_committed (status_of x v.lxid) && seen)) (ap (is_seen snap) (is.gxids v.lxid) ∙ at_entry snap (gxid_of x v.lxid) h below)

find_agree : {X : Type 0} (p q : X → Bool) (xs : List X) → ((x : X) → p x ≡ q x) → find p xs ≡ find q xs
find_agree p q [] agree = refl
find_agree p q (x ∷ xs) agree = ap (λ b. cond b (Some x) (find p xs)) (agree x) ∙ ap (cond (q x) (Some x)) (find_agree p q xs agree)

-- and the same one is shown
pub shown_of-truncated : (versions : List Version) (x x' : Xids) (h : Gxid) (snap : Snapshot) (own : Option Lxid) (cid : Cid) → IsTruncated x h x' → h.0 ≤ snap.xmin.0 → shown_of versions x' snap own cid ≡ shown_of versions x snap own cid
shown_of-truncated versions x x' h snap own cid is below =
    find_agree (λ v. counts v x' snap own cid) (λ v. counts v x snap own cid) (reverse versions) (λ v. counts-truncated v x x' h snap own cid is below)
