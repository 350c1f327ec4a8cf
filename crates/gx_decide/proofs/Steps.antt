-- What the calls on the disk leave of an image.
use Rattle.std.proofs.Common.{◌≡◌, ◌≢◌, inl, inr, ⊎_elim, ℕ, ◌+◌, ◌*◌, ◌<◌, ◌^◌, List, [], ◌∷◌, ◌++◌, length, get_or, refl, sym, ap, ◌∙◌, subst, arith, cond, eqb, true, false, Bool, not, ◌&&◌}
use Rattle.std.specs.Prelude.{Option, None, Some, nat_lt}
use Rattle.std.specs.Int.{w64, from_le_bytes, to_le_bytes}
use Rattle.std.proofs.lemmas.Nat.{from_le_bytes-to_le_bytes_8}
use Rattle.std.proofs.lemmas.Bool.Decides.{nat_tests}
use Rattle.gx_decide.specs.declared.decision.Decision.{Decision}
use Rattle.gx_decide.specs.Disk.{DiskState, Image, IsOutside, StopLeaves, Stayed, Synced, Touched, Written}
use Rattle.gx_decide.specs.Log.{Pair, byte_of, gate_at, verdict_in}
use Rattle.gx_decide.specs.Calls.{AreMade, AreMadePartly, shutting}
use Rattle.gx_decide.proofs.Images.{IsImageOf, IsImageOf-front, gxid_at-same}
use Rattle.gx_decide.proofs.Pairs.{opened}

-- nothing is pending
abbrev pub IsQuiet : DiskState → Type 0
IsQuiet disk = (place : ℕ) → disk.pending place ≡ false

-- whatever a stop leaves of it agrees with the image outside of a range
pub record Reaches (size at n : ℕ) (image : Image) (disk : DiskState) : Type 0 where
  pub sized : disk.size ≡ size
  pub each : (left : DiskState) → StopLeaves disk left → (place : ℕ) → IsOutside at n place → left.seen place ≡ image place

pub stays : (disk : DiskState) → IsQuiet disk → StopLeaves disk disk
stays disk quiet = record { size = refl; seen = λ place e. refl; durable = quiet }

pub synced-left : (old new : DiskState) → Synced old new → StopLeaves old new
synced-left old new s = record { size = s.size; seen = λ place e. s.seen place; durable = s.durable }

pub stayed-left : (old new left : DiskState) → Stayed old new → StopLeaves new left → StopLeaves old left
stayed-left old new left s l = record { size = l.size ∙ s.size; seen = λ place e. l.seen place (s.pending place e) ∙ s.seen place; durable = l.durable }

pub stopped-left : (old new left : DiskState) → StopLeaves old new → StopLeaves new left → StopLeaves old left
stopped-left old new left s l = record { size = l.size ∙ s.size; seen = λ place e. l.seen place (s.durable place) ∙ s.seen place e; durable = l.durable }

pub touched-reaches : (at n : ℕ) (old new : DiskState) → IsQuiet old → Touched at n old new → Reaches old.size at n old.seen new
touched-reaches at n old new quiet t = record { sized = t.size; each = λ left l place out. l.seen place (t.pending place out (quiet place)) ∙ t.seen place out }

pub stayed-reaches : (size at n : ℕ) (image : Image) (old new : DiskState) → Reaches size at n image old → Stayed old new → Reaches size at n image new
stayed-reaches size at n image old new r s = record { sized = s.size ∙ r.sized; each = λ left l. r.each left (stayed-left old new left s l) }

pub synced-reaches : (size at n : ℕ) (image : Image) (old new : DiskState) → Reaches size at n image old → Synced old new → Reaches size at n image new
synced-reaches size at n image old new r s = record { sized = s.size ∙ r.sized; each = λ left l. r.each left (stopped-left old new left (synced-left old new s) l) }

pub same-reaches : (disk : DiskState) → IsQuiet disk → Reaches disk.size 0 0 disk.seen disk
same-reaches disk quiet = record { sized = refl; each = λ left l place out. l.seen place (quiet place) }

module _ (slots : ℕ) (pairs : List Pair) where
  abbrev k : ℕ
  k = length pairs

  -- the pair's bytes may be torn: the gate is shut
  pub pair-torn : (size : ℕ) (image : Image) (disk left : DiskState) → IsImageOf slots pairs None image → Reaches size (16 * k) 9 image disk → StopLeaves disk left → IsImageOf slots pairs None left.seen
  pair-torn size image disk left is r l =
      IsImageOf-front slots pairs None None image left.seen is
      (λ place out. r.each left l place (⊎_elim (λ before. inl before) (λ behind. inr (omega (arith, behind))) out))
      (λ inside. r.each left l (16 * k + 9) (inr (omega arith)) ∙ is.front inside)

  -- the gate may be torn: the pair stands behind it
  pub gate-torn : (size : ℕ) (pair : Pair) (image : Image) (disk left : DiskState) → IsImageOf slots pairs (Some pair) image → Reaches size (16 * k + 9) 1 image disk → StopLeaves disk left → IsImageOf slots pairs (Some pair) left.seen
  gate-torn size pair image disk left is r l =
      let f = is.front in
      IsImageOf-front slots pairs (Some pair) (Some pair) image left.seen is
      (λ place out. r.each left l place (⊎_elim (λ before. inl (omega (arith, before))) (λ behind. inr (omega (arith, behind))) out)) (
        f.0,
        gxid_at-same image left.seen k (λ place from below. r.each left l place (inl (omega (arith, below)))) ∙ f.1,
        r.each left l (16 * k + 8) (inl (omega arith)) ∙ f.2,
        f.3,
        f.4,
      )

  -- nothing differs
  pub whole-left : (last : Option Pair) (disk left : DiskState) → IsImageOf slots pairs last disk.seen → IsQuiet disk → StopLeaves disk left → IsImageOf slots pairs last left.seen
  whole-left None disk left is quiet l =
      IsImageOf-front slots pairs None None disk.seen left.seen is (λ place out. l.seen place (quiet place)) (λ inside. l.seen (16 * k + 9) (quiet (16 * k + 9)) ∙ is.front inside)
  whole-left (Some pair) disk left is quiet l =
      let f = is.front in
      IsImageOf-front slots pairs (Some pair) (Some pair) disk.seen left.seen is (λ place out. l.seen place (quiet place))
      (f.0, gxid_at-same disk.seen left.seen k (λ place from below. l.seen place (quiet place)) ∙ f.1, l.seen (16 * k + 8) (quiet (16 * k + 8)) ∙ f.2, f.3, f.4)

  -- the pair is written and synced
  pub pair-written : (gxid : ℕ) (decision : Decision) (old mid new : DiskState) → IsImageOf slots pairs None old.seen → k < slots → gxid < 2 ^ 64 → gxid ≢ 0 → verdict_in pairs gxid ≡ None
      → Written (16 * k) (to_le_bytes w64 gxid ++ byte_of decision ∷ []) old mid → Synced mid new → IsImageOf slots pairs (Some (record { gxid = gxid; decision = decision })) new.seen
  pair-written gxid decision old mid new is room fits drawn none w s =
      let at : (j : ℕ) → j < 9 → new.seen (16 * k + j) ≡ get_or (to_le_bytes w64 gxid ++ byte_of decision ∷ []) j 0 = λ j below. s.seen (16 * k + j) ∙ w.there j below in
      let a : new.seen (16 * k) ≡ get_or (to_le_bytes w64 gxid ++ byte_of decision ∷ []) 0 0 = ap new.seen (omega arith) ∙ at 0 (omega arith) in
      let b = at 1 (omega arith) in
      let c = at 2 (omega arith) in
      let d = at 3 (omega arith) in
      let e = at 4 (omega arith) in
      let f = at 5 (omega arith) in
      let g = at 6 (omega arith) in
      let h = at 7 (omega arith) in
      IsImageOf-front slots pairs None (Some (record { gxid = gxid; decision = decision })) old.seen new.seen is
      (λ place out. s.seen place ∙ w.range.seen place (⊎_elim (λ before. inl before) (λ behind. inr (omega (arith, behind))) out))
      (room, ap (from_le_bytes w64) (λ i. a i ∷ b i ∷ c i ∷ d i ∷ e i ∷ f i ∷ g i ∷ h i ∷ []) ∙ from_le_bytes-to_le_bytes_8 gxid fits, at 8 (omega arith), drawn, none)

  -- and then its gate is opened, and that synced
  pub gate-opened : (pair : Pair) (old mid new : DiskState) → IsImageOf slots pairs (Some pair) old.seen → Written (16 * k + 9) (1 ∷ []) old mid → Synced mid new → IsImageOf slots (pairs ++ pair ∷ []) None new.seen
  gate-opened pair old mid new is w s =
      let f = is.front in
      let gate : gate_at new.seen k ≡ 1 = s.seen (16 * k + 9) ∙ ap mid.seen (omega arith) ∙ w.there 0 (omega arith) in
      let out : (place : ℕ) → IsOutside (16 * k + 9) 1 place → new.seen place ≡ old.seen place = λ place o. s.seen place ∙ w.range.seen place o in
      opened slots pairs pair new.seen
      (IsImageOf-front slots pairs (Some pair) (Some pair) old.seen new.seen is
      (λ place o. out place (⊎_elim (λ before. inl (omega (arith, before))) (λ behind. inr (omega (arith, behind))) o))
      (f.0, gxid_at-same old.seen new.seen k (λ place from below. out place (inl (omega (arith, below)))) ∙ f.1, out (16 * k + 8) (inl (omega arith)) ∙ f.2, f.3, f.4))
      gate

  -- a gate is shut
  pub gate-shut : (last : Option Pair) (old mid new : DiskState) → IsImageOf slots pairs last old.seen → Written (16 * k + 9) (0 ∷ []) old mid → Synced mid new → IsImageOf slots pairs None new.seen
  gate-shut last old mid new is w s =
      IsImageOf-front slots pairs last None old.seen new.seen is
      (λ place o. s.seen place ∙ w.range.seen place (⊎_elim (λ before. inl (omega (arith, before))) (λ behind. inr (omega (arith, behind))) o))
      (λ inside. s.seen (16 * k + 9) ∙ ap mid.seen (omega arith) ∙ w.there 0 (omega arith))

  -- what an open leaves, from a sync on
  pub shut-made : (last : Option Pair) (old new : DiskState) (test : Bool) → test ≡ (nat_lt k slots && not (eqb (gate_at old.seen k) 0)) → IsImageOf slots pairs last old.seen → IsQuiet old
      → AreMade (cond test (shutting k) []) old new → (new.size ≡ old.size) × IsImageOf slots pairs None new.seen × IsQuiet new
  shut-made last old new true is_test is quiet made =
      let written = made.1 in
      let mid2 = made.2.0 in
      let synced = made.2.1 in
      let end : new ≡ mid2 = made.2.2 in (
        ap (λ (d : DiskState). d.size) end ∙ synced.size ∙ written.range.size,
        subst (λ (d : DiskState). IsImageOf slots pairs None d.seen) (sym end) (gate-shut last old made.0 mid2 is written synced),
        subst IsQuiet (sym end) synced.durable,
      )
  shut-made last old new false is_test is quiet made =
      let shut : k < slots → gate_at old.seen k ≡ 0 = λ inside. grind (arith, nat_tests) in (
        ap (λ (d : DiskState). d.size) made,
        subst (λ (d : DiskState). IsImageOf slots pairs None d.seen) (sym made) (IsImageOf-front slots pairs last None old.seen old.seen is (λ place o. refl) shut),
        subst IsQuiet (sym made) quiet,
      )

  -- and where it is cut short
  pub shut-partly : (last : Option Pair) (old new left : DiskState) (test : Bool) → test ≡ (nat_lt k slots && not (eqb (gate_at old.seen k) 0)) → IsImageOf slots pairs last old.seen → IsQuiet old
      → AreMadePartly (cond test (shutting k) []) old new → (new.size ≡ old.size) × (StopLeaves new left → IsImageOf slots pairs last left.seen)
  shut-partly last old new left false is_test is quiet made =
      (ap (λ (d : DiskState). d.size) made, λ l. whole-left last old left is quiet (subst (λ (d : DiskState). StopLeaves d left) made l))
  shut-partly None old new left true is_test is quiet made = absurd (grind (arith, nat_tests, is.front))
  shut-partly (Some pair) old new left true is_test is quiet made =
      let r = reached made in
      (r.sized, λ l. gate-torn old.size pair old.seen new left is r l)
    where
      reached : AreMadePartly (shutting k) old new → Reaches old.size (16 * k + 9) 1 old.seen new
      reached (inl begun) = touched-reaches (16 * k + 9) 1 old new quiet begun
      reached (inr (mid, written, inl begun)) = stayed-reaches old.size (16 * k + 9) 1 old.seen mid new (touched-reaches (16 * k + 9) 1 old mid quiet written.range) begun
      reached (inr (mid, written, inr (mid2, synced, end))) =
          subst (Reaches old.size (16 * k + 9) 1 old.seen) (sym end) (synced-reaches old.size (16 * k + 9) 1 old.seen mid mid2 (touched-reaches (16 * k + 9) 1 old mid quiet written.range) synced)
