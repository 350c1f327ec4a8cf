-- What lists of marks say with one more at their end, for loops from the last mark to the first.
use Rattle.std.proofs.Common.{◌≡◌, ◌∙◌, ℕ, suc, ◌+◌, ◌==◌, ◌&&◌, ◌||◌, Bool, true, false, cond, not, if◌then◌else◌, List, [], ◌∷◌, ◌++◌, length, Option, Some, None, refl, ap, arith}
use Rattle.std.specs.List.{list_any}
use Rattle.std.specs.Prelude.{unwrap_or}
use Rattle.gx_ids.specs.declared.ids.Gxid.{Gxid}
use Rattle.gx_ids.specs.declared.ids.Cid.{Cid}
use Rattle.gx_ids.specs.declared.ids.Table.{Table}
use Rattle.gx_ids.specs.declared.rid.Rid.{Rid}
use Rattle.gx_lemmas.proofs.Numbers.{same-plus-none}
use Rattle.gx_store.proofs.Marks as marks
use Rattle.gx_store.specs.declared.mark.Mark.{Mark}
use Rattle.gx_store.specs.declared.mark.Mark.TheVariants.{Hold, Release, Write}
use Rattle.gx_store.specs.Marks.{has_snapshot, is_aborted, is_committed, is_same_rid, is_snapped}
use Rattle.gx_store.specs.View.{image_after}
use Rattle.gx_store.specs.Writes.{Written, last_write}
use Rattle.gx_waits.specs.Claims.{claim}
use Rattle.gx_waits.specs.Claim.{same_claim}
use Rattle.gx_waits.specs.declared.claim.Claim.{Claim}
use Rattle.gx_legal.specs.Places.{places_from}
use Rattle.gx_legal.proofs.Turned.{or-across, or-turned}
use Rattle.gx_legal.specs.Told.{held_after, held_by, held_from}

-- WHO HAS ENDED, AND WHO READS
pub committed-last : (xs : List Mark) (m : Mark) (g : Gxid) → is_committed (xs ++ m ∷ []) g ≡ (is_committed (m ∷ []) g || is_committed xs g)
committed-last xs m g = marks.is_committed-append xs (m ∷ []) g ∙ or-turned (is_committed xs g) (is_committed (m ∷ []) g)

pub aborted-last : (xs : List Mark) (m : Mark) (g : Gxid) → is_aborted (xs ++ m ∷ []) g ≡ (is_aborted (m ∷ []) g || is_aborted xs g)
aborted-last xs m g = marks.is_aborted-append xs (m ∷ []) g ∙ or-turned (is_aborted xs g) (is_aborted (m ∷ []) g)

pub snapped-last : (xs : List Mark) (m : Mark) (g : Gxid) (c : Cid) → is_snapped (xs ++ m ∷ []) g c ≡ (is_snapped (m ∷ []) g c || is_snapped xs g c)
snapped-last xs m g c = marks.is_snapped-append xs (m ∷ []) g c ∙ or-turned (is_snapped xs g c) (is_snapped (m ∷ []) g c)

pub snapshot-last : (xs : List Mark) (m : Mark) (g : Gxid) → has_snapshot (xs ++ m ∷ []) g ≡ (has_snapshot (m ∷ []) g || has_snapshot xs g)
snapshot-last xs m g = marks.has_snapshot-append xs (m ∷ []) g ∙ or-turned (has_snapshot xs g) (has_snapshot (m ∷ []) g)

-- THE WRITES TO A ROW
pub image-last : (shown : Gxid → Cid → Bool) (table : Table) (rid : Rid) (xs : List Mark) (m : Mark) → image_after shown table rid None (xs ++ m ∷ []) ≡ image_after shown table rid (image_after shown table rid None xs) (m ∷ [])
image-last shown table rid xs m = marks.image_after-append shown table rid None xs (m ∷ [])

next-place : (k n : ℕ) → k + 1 + n ≡ k + suc n
next-place k n = omega arith

last_write-append : (counts : Gxid → Cid → Bool) (rid : Rid) (k : ℕ) (last : Option Written) (xs ys : List Mark) → last_write counts rid k last (xs ++ ys) ≡ last_write counts rid (k + length xs) (last_write counts rid k last xs) ys
last_write-append counts rid k last [] ys = ap (λ n. last_write counts rid n last ys) (same-plus-none k)
last_write-append counts rid k last (Write g c n t r written ∷ xs) ys =
    let next : Option Written = cond (counts g c && is_same_rid r rid) (Some (record { place = k; gxid = g; cid = c; image = written })) last in
    last_write-append counts rid (k + 1) next xs ys ∙ ap (λ n. last_write counts rid n (last_write counts rid (k + 1) next xs) ys) (next-place k (length xs))
last_write-append counts rid k last (m ∷ xs) ys =
    last_write-append counts rid (k + 1) last xs ys ∙ ap (λ n. last_write counts rid n (last_write counts rid (k + 1) last xs) ys) (next-place k (length xs))

pub written-last : (counts : Gxid → Cid → Bool) (rid : Rid) (k : ℕ) (xs : List Mark) (m : Mark) → last_write counts rid k None (xs ++ m ∷ []) ≡ last_write counts rid (k + length xs) (last_write counts rid k None xs) (m ∷ [])
written-last counts rid k xs m = last_write-append counts rid k None xs (m ∷ [])

-- SNAPSHOTS
module _ (q : ℕ → Bool) (test : Mark → Bool) where
  abbrev found : ℕ → List Mark → Bool
  found k xs = list_any q (places_from test k xs)

  pub any-places : (k : ℕ) (xs : List Mark) (m : Mark) → found k (xs ++ m ∷ []) ≡ ((test m && q (k + length xs)) || found k xs)
  any-places k [] m = by_test (test m)
    where
      by_test : (b : Bool) → list_any q (if b then k ∷ [] else []) ≡ ((b && q (k + 0)) || false)
      by_test true = ap (λ n. q n || false) (same-plus-none k)
      by_test false = refl
  any-places k (x ∷ xs) m = by_test (test x) (any-places (k + 1) xs m ∙ ap (λ n. (test m && q n) || found (k + 1) xs) (next-place k (length xs)))
    where
      by_test : (b : Bool) → found (k + 1) (xs ++ m ∷ []) ≡ ((test m && q (k + suc (length xs))) || found (k + 1) xs) → list_any q (if b then k ∷ places_from test (k + 1) (xs ++ m ∷ []) else places_from test (k + 1) (xs ++ m ∷ [])) ≡ ((test m && q (k + suc (length xs))) || list_any q (if b then k ∷ places_from test (k + 1) xs else places_from test (k + 1) xs))
      by_test true e = ap (λ b. q k || b) e ∙ or-across (q k) (test m && q (k + suc (length xs))) (found (k + 1) xs)
      by_test false e = e

-- LOCKS
held_from-append : (node : ℕ) (wanted : Claim) (held : Bool) (xs ys : List Mark) → held_from node wanted held (xs ++ ys) ≡ held_from node wanted (held_from node wanted held xs) ys
held_from-append node wanted held [] ys = refl
held_from-append node wanted held (m ∷ xs) ys = held_from-append node wanted (held_after node wanted held m) xs ys

held-or : (b held : Bool) → (held || b) ≡ unwrap_or (cond b (Some true) None) held
held-or true true = refl
held-or true false = refl
held-or false true = refl
held-or false false = refl

held-and : (b held : Bool) → (held && not b) ≡ unwrap_or (cond b (Some false) None) held
held-and true true = refl
held-and true false = refl
held-and false true = refl
held-and false false = refl

held-after : (node : ℕ) (wanted : Claim) (held : Bool) (m : Mark) → held_after node wanted held m ≡ unwrap_or (held_by node wanted m) held
held-after node wanted held (Hold n g object mode) = held-or ((n.0 == node) && same_claim wanted (claim g object mode)) held
held-after node wanted held (Release n g object mode) = held-and ((n.0 == node) && same_claim (claim g object mode) wanted) held
held-after node wanted held _ = refl

pub held-last : (node : ℕ) (wanted : Claim) (xs : List Mark) (m : Mark) → held_from node wanted false (xs ++ m ∷ []) ≡ unwrap_or (held_by node wanted m) (held_from node wanted false xs)
held-last node wanted xs m = held_from-append node wanted false xs (m ∷ []) ∙ held-after node wanted (held_from node wanted false xs) m
