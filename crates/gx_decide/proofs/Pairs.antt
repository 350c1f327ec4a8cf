-- Pairs of a log, and one more behind them.
use Rattle.std.proofs.Common.{◌≡◌, ◌≢◌, ◌⊎◌, inl, inr, ⊎_elim, ℕ, zero, suc, ◌<◌, ◌≤◌, List, [], ◌∷◌, ◌++◌, length, refl, sym, ap, ◌∙◌, subst, arith, cond, eqb, false}
use Rattle.std.specs.Prelude.{Option, None, Some}
use Rattle.std.proofs.lemmas.Bool.{cases_lt, cases_eq}
use Rattle.std.proofs.lemmas.Bool.Decides.{nat_tests}
use Rattle.gx_decide.specs.declared.decision.Decision.{Decision}
use Rattle.gx_decide.specs.declared.decision.Decision.TheVariants.{Commit, Abort}
use Rattle.gx_decide.specs.Disk.{Image}
use Rattle.gx_decide.specs.Log.{IsEnd, IsLog, IsSound, Pair, byte_of, decision_of, gate_at, gxid_at, pair_at, pairs_before, verdict_at, verdict_in}
use Rattle.gx_decide.proofs.Images.{IsImageOf}

pub verdict_in-kept : (pairs more : List Pair) (gxid : ℕ) (decision : Decision) → verdict_in pairs gxid ≡ Some decision → verdict_in (pairs ++ more) gxid ≡ Some decision
verdict_in-kept [] more gxid decision found = absurd (cc)
verdict_in-kept (pair ∷ pairs) more gxid decision found = elim (cases_eq pair.gxid gxid) [
  | inl same ↦ grind (arith, nat_tests)
  | inr other ↦
      let test : eqb pair.gxid gxid ≡ false = grind (arith, nat_tests) in
      ap (λ b. cond b (Some pair.decision) (verdict_in (pairs ++ more) gxid)) test
      ∙ verdict_in-kept pairs more gxid decision (sym (ap (λ b. cond b (Some pair.decision) (verdict_in pairs gxid)) test) ∙ found)
]

pub verdict_in-new : (pairs : List Pair) (pair : Pair) → verdict_in pairs pair.gxid ≡ None → verdict_in (pairs ++ pair ∷ []) pair.gxid ≡ Some pair.decision
verdict_in-new [] pair none = grind (arith, nat_tests)
verdict_in-new (first ∷ pairs) pair none = elim (cases_eq first.gxid pair.gxid) [
  | inl same ↦ absurd (grind (arith, nat_tests))
  | inr other ↦
      let test : eqb first.gxid pair.gxid ≡ false = grind (arith, nat_tests) in
      ap (λ b. cond b (Some first.decision) (verdict_in (pairs ++ pair ∷ []) pair.gxid)) test
      ∙ verdict_in-new pairs pair (sym (ap (λ b. cond b (Some first.decision) (verdict_in pairs pair.gxid)) test) ∙ none)
]

-- a transaction more doesn't come from elsewhere
pub verdict_in-other : (pairs : List Pair) (pair : Pair) (gxid : ℕ) → pair.gxid ≢ gxid → verdict_in (pairs ++ pair ∷ []) gxid ≡ verdict_in pairs gxid
verdict_in-other [] pair gxid other = grind (arith, nat_tests)
verdict_in-other (first ∷ pairs) pair gxid other = ap (λ v. cond (eqb first.gxid gxid) (Some first.decision) v) (verdict_in-other pairs pair gxid other)

-- a transaction without a verdict stands in no slot
pub no-slot : (image : Image) (end gxid : ℕ) → verdict_in (pairs_before image end) gxid ≡ None → (slot : ℕ) → slot < end → gxid_at image slot ≢ gxid
no-slot image zero gxid none slot below e = omega (arith, below)
no-slot image (suc end) gxid none slot below e =
    let first = pairs_before image end in
    elim (cases_eq (gxid_at image end) gxid) [
      | inl same ↦
          let last : verdict_in (first ++ pair_at image end ∷ []) gxid ≡ None = none in
          ⊎_elim
          (λ (missing : verdict_in first gxid ≡ None).
          let found = verdict_in-new first (pair_at image end) (ap (verdict_in first) same ∙ missing) in
          let there : verdict_in (first ++ pair_at image end ∷ []) gxid ≡ Some (pair_at image end).decision = ap (verdict_in (first ++ pair_at image end ∷ [])) (sym same) ∙ found in
          is_none there last)
          (λ (found : (d : Decision) × (verdict_in first gxid ≡ Some d)). is_none (verdict_in-kept first (pair_at image end ∷ []) gxid found.0 found.1) last)
          (cases (verdict_in first gxid) refl)
      | inr other ↦
          let before : verdict_in first gxid ≡ None = sym (verdict_in-other first (pair_at image end) gxid other) ∙ none in
          ⊎_elim
          (λ (earlier : slot < end). no-slot image end gxid before slot earlier e)
          (λ (most : end ≤ slot). let same : slot ≡ end = omega (arith, most, below) in other (ap (gxid_at image) (sym same) ∙ e))
          (cases_lt slot end)
    ]
  where
    is_none : {d : Decision} {found : Option Decision} → found ≡ Some d → found ≡ None → ⊥
    is_none some none = cc (sym some ∙ none)

    cases : (found : Option Decision) → {v : Option Decision} → v ≡ found → (v ≡ None) ⊎ ((d : Decision) × (v ≡ Some d))
    cases None is = inl is
    cases (Some d) is = inr (d, is)

pub decision-byte : (decision : Decision) → decision_of (byte_of decision) ≡ decision
decision-byte Commit = refl
decision-byte Abort = refl

pub verdict-byte : (decision : Decision) → (byte_of decision ≡ 1) ⊎ (byte_of decision ≡ 2)
verdict-byte Commit = inl refl
verdict-byte Abort = inr refl

pub length-more : (pairs : List Pair) (pair : Pair) → length (pairs ++ pair ∷ []) ≡ suc (length pairs)
length-more [] pair = refl
length-more (first ∷ pairs) pair = ap suc (length-more pairs pair)

-- a shut gate ends a log, and no slot of it is bad
pub shut-end : (slots : ℕ) (pairs : List Pair) (last : Option Pair) (image : Image) → IsImageOf slots pairs last image → (length pairs < slots → gate_at image (length pairs) ≢ 1) → IsEnd slots image (length pairs)
shut-end slots pairs last image is shut = record { within = is.few; gates = is.gates; shut = shut }

pub good-all : (slots : ℕ) (pairs : List Pair) (last : Option Pair) (image : Image) → IsImageOf slots pairs last image → IsLog slots image (length pairs)
good-all slots pairs last image is slot inside = record {
  before = is.sound slot;
  behind = λ behind gate. omega (arith, is.behind slot behind inside, gate);
}

-- the gate is open: the pair stands
pub opened : (slots : ℕ) (pairs : List Pair) (pair : Pair) (image : Image) → IsImageOf slots pairs (Some pair) image → gate_at image (length pairs) ≡ 1 → IsImageOf slots (pairs ++ pair ∷ []) None image
opened slots pairs pair image is gate =
    let k = length pairs in
    let f = is.front in
    let long : length (pairs ++ pair ∷ []) ≡ suc k = length-more pairs pair in
    let verdict : verdict_at image k ≡ byte_of pair.decision = f.2 in
    let there : pair_at image k ≡ pair = λ i. record { gxid = f.1 i; decision = (ap decision_of verdict ∙ decision-byte pair.decision) i } in
    let stand : pairs_before image (suc k) ≡ pairs ++ pair ∷ [] = λ i. is.stand i ++ there i ∷ [] in
    let none : verdict_in (pairs_before image k) (gxid_at image k) ≡ None = (λ i. verdict_in (is.stand i) (f.1 i)) ∙ f.4 in
    let sound : IsSound image k = record {
      verdict = ⊎_elim (λ one. inl (verdict ∙ one)) (λ two. inr (verdict ∙ two)) (verdict-byte pair.decision);
      drawn = λ zero_. f.3 (sym f.1 ∙ zero_);
      fresh = no-slot image k (gxid_at image k) none;
      blank = is.blank k (omega arith) f.0;
    } in
    record {
      few = omega (arith, long, f.0);
      stand = ap (pairs_before image) long ∙ stand;
      gates = λ slot before. ⊎_elim (λ (earlier : slot < k). is.gates slot earlier) (λ (most : k ≤ slot). let same : slot ≡ k = omega (arith, most, before, long) in ap (gate_at image) same ∙ gate) (cases_lt slot k);
      sound = λ slot before. ⊎_elim (λ (earlier : slot < k). is.sound slot earlier) (λ (most : k ≤ slot). let same : k ≡ slot = omega (arith, most, before, long) in subst (IsSound image) same sound) (cases_lt slot k);
      front = λ inside. is.behind (length (pairs ++ pair ∷ [])) (omega (arith, long)) inside;
      behind = λ slot behind inside. is.behind slot (omega (arith, behind, long)) inside;
      blank = λ slot behind inside. is.blank slot (omega (arith, behind, long)) inside;
    }
