-- Images of a log: its pairs, what stands at the end, and zeros behind it.
use Rattle.std.proofs.Common.{◌≡◌, ◌≢◌, ◌⊎◌, inl, inr, ⊎_elim, ℕ, zero, suc, ◌+◌, ◌*◌, ◌<◌, ◌≤◌, List, [], ◌∷◌, ◌++◌, length, refl, sym, ap, ◌∙◌, arith}
use Rattle.std.specs.Prelude.{Option, None, Some}
use Rattle.std.specs.Int.{w64, from_le_bytes}
use Rattle.std.proofs.lemmas.Bool.{cases_lt, cases_eq}
use Rattle.gx_decide.specs.Disk.{Image}
use Rattle.gx_decide.specs.Log.{IsBlankBehind, IsEnd, IsSound, Pair, byte_of, decision_of, gate_at, gxid_at, pairs_before, verdict_at, verdict_in}

-- two images agree in the ten bytes of a slot up to the gate
abbrev pub Agree : (ℕ → Type 0) → Image → Image → Type 0
Agree where_ old new = (place : ℕ) → where_ place → new place ≡ old place

-- what stands in the slot at the end: a shut gate, or a pair of a transaction that has none, whose gate may have been opened
abbrev pub Front : ℕ → List Pair → Option Pair → Image → Type 0
Front slots pairs None image = length pairs < slots → gate_at image (length pairs) ≡ 0
Front slots pairs (Some pair) image =
    (length pairs < slots) × (gxid_at image (length pairs) ≡ pair.gxid) × (verdict_at image (length pairs) ≡ byte_of pair.decision) × (pair.gxid ≢ 0) × (verdict_in pairs pair.gxid ≡ None)

pub record IsImageOf (slots : ℕ) (pairs : List Pair) (last : Option Pair) (image : Image) : Type 0 where
  pub few : length pairs ≤ slots
  pub stand : pairs_before image (length pairs) ≡ pairs
  pub gates : (slot : ℕ) → slot < length pairs → gate_at image slot ≡ 1
  pub sound : (slot : ℕ) → slot < length pairs → IsSound image slot
  pub front : Front slots pairs last image
  pub behind : (slot : ℕ) → length pairs < slot → slot < slots → gate_at image slot ≡ 0
  pub blank : (slot : ℕ) → length pairs ≤ slot → slot < slots → IsBlankBehind image slot

module _ (old new : Image) where
  -- slots with the same bytes
  pub gxid_at-same : (slot : ℕ) → ((place : ℕ) → 16 * slot ≤ place → place < 16 * slot + 8 → new place ≡ old place) → gxid_at new slot ≡ gxid_at old slot
  gxid_at-same slot same =
      let a : new (16 * slot) ≡ old (16 * slot) = same (16 * slot) (omega arith) (omega arith) in
      let b : new (16 * slot + 1) ≡ old (16 * slot + 1) = same (16 * slot + 1) (omega arith) (omega arith) in
      let c : new (16 * slot + 2) ≡ old (16 * slot + 2) = same (16 * slot + 2) (omega arith) (omega arith) in
      let d : new (16 * slot + 3) ≡ old (16 * slot + 3) = same (16 * slot + 3) (omega arith) (omega arith) in
      let e : new (16 * slot + 4) ≡ old (16 * slot + 4) = same (16 * slot + 4) (omega arith) (omega arith) in
      let f : new (16 * slot + 5) ≡ old (16 * slot + 5) = same (16 * slot + 5) (omega arith) (omega arith) in
      let g : new (16 * slot + 6) ≡ old (16 * slot + 6) = same (16 * slot + 6) (omega arith) (omega arith) in
      let h : new (16 * slot + 7) ≡ old (16 * slot + 7) = same (16 * slot + 7) (omega arith) (omega arith) in
      ap (from_le_bytes w64) (λ i. a i ∷ b i ∷ c i ∷ d i ∷ e i ∷ f i ∷ g i ∷ h i ∷ [])

  pub IsBlankBehind-same : (slot : ℕ) → ((place : ℕ) → 16 * slot + 10 ≤ place → place < 16 * slot + 16 → new place ≡ old place) → IsBlankBehind old slot → IsBlankBehind new slot
  IsBlankBehind-same slot same zeros = (
    same (16 * slot + 10) (omega arith) (omega arith) ∙ zeros.0,
    same (16 * slot + 11) (omega arith) (omega arith) ∙ zeros.1,
    same (16 * slot + 12) (omega arith) (omega arith) ∙ zeros.2,
    same (16 * slot + 13) (omega arith) (omega arith) ∙ zeros.3,
    same (16 * slot + 14) (omega arith) (omega arith) ∙ zeros.4,
    same (16 * slot + 15) (omega arith) (omega arith) ∙ zeros.5,
  )

  pub pairs_before-same : (end : ℕ) → ((place : ℕ) → place < 16 * end → new place ≡ old place) → pairs_before new end ≡ pairs_before old end
  pairs_before-same zero same = refl
  pairs_before-same (suc end) same =
      let first : pairs_before new end ≡ pairs_before old end = pairs_before-same end (λ place below. same place (omega (arith, below))) in
      let gxid : gxid_at new end ≡ gxid_at old end = gxid_at-same end (λ place from below. same place (omega (arith, below))) in
      let verdict : verdict_at new end ≡ verdict_at old end = same (16 * end + 8) (omega arith) in
      λ i. first i ++ (record { gxid = gxid i; decision = decision_of (verdict i) }) ∷ []

  pub IsSound-same : (slot : ℕ) → ((place : ℕ) → place < 16 * slot + 16 → new place ≡ old place) → IsSound old slot → IsSound new slot
  IsSound-same slot same was =
      let verdict : verdict_at new slot ≡ verdict_at old slot = same (16 * slot + 8) (omega arith) in
      let gxid : (s : ℕ) → s ≤ slot → gxid_at new s ≡ gxid_at old s = λ s most. gxid_at-same s (λ place from below. same place (omega (arith, below, most))) in
      record {
        verdict = ⊎_elim (λ one. inl (verdict ∙ one)) (λ two. inr (verdict ∙ two)) was.verdict;
        drawn = λ none. was.drawn (sym (gxid slot (omega arith)) ∙ none);
        fresh = λ earlier before e. was.fresh earlier before (sym (gxid earlier (omega (arith, before))) ∙ e ∙ gxid slot (omega arith));
        blank = IsBlankBehind-same slot (λ place from below. same place below) was.blank;
      }

-- only the bytes of the slot at the end differ, up to its gate
pub IsImageOf-front : (slots : ℕ) (pairs : List Pair) (last last' : Option Pair) (old new : Image) → IsImageOf slots pairs last old
    → ((place : ℕ) → (place < 16 * length pairs) ⊎ (16 * length pairs + 10 ≤ place) → new place ≡ old place) → Front slots pairs last' new → IsImageOf slots pairs last' new
IsImageOf-front slots pairs last last' old new was same front = record {
  few = was.few;
  stand = pairs_before-same old new (length pairs) (λ place below. same place (inl below)) ∙ was.stand;
  gates = λ slot before. same (16 * slot + 9) (inl (omega (arith, before))) ∙ was.gates slot before;
  sound = λ slot before. IsSound-same old new slot (λ place below. same place (inl (omega (arith, below, before)))) (was.sound slot before);
  front = front;
  behind = λ slot behind inside. same (16 * slot + 9) (inr (omega (arith, behind))) ∙ was.behind slot behind inside;
  blank = λ slot behind inside. IsBlankBehind-same old new slot (λ place from below. same place (inr (omega (arith, from, behind)))) (was.blank slot behind inside);
}

-- the end of a log is one
pub end-once : (slots : ℕ) (image : Image) (one other : ℕ) → IsEnd slots image one → IsEnd slots image other → one ≡ other
end-once slots image one other a b =
    ⊎_elim
    (λ (below : one < other). absurd (a.shut (omega (arith, below, b.within)) (b.gates one below)))
    (λ (most : other ≤ one). ⊎_elim
    (λ (below : other < one). absurd (b.shut (omega (arith, below, a.within)) (a.gates other below)))
    (λ (most' : one ≤ other). omega (arith, most, most'))
    (cases_lt other one))
    (cases_lt one other)

-- there is one
pub record Ends (slots : ℕ) (image : Image) (from : ℕ) : Type 0 where
  pub end : ℕ
  pub is : IsEnd slots image end
  pub behind : from ≤ end

pub ends : (left slots from : ℕ) (image : Image) → from + left ≡ slots → ((slot : ℕ) → slot < from → gate_at image slot ≡ 1) → Ends slots image from
ends zero slots from image last gates = record { end = from; is = record { within = omega (arith, last); gates = gates; shut = λ below. absurd (omega (arith, below, last)) }; behind = omega arith }
ends (suc left) slots from image last gates = elim (cases_eq (gate_at image from) 1) [
  | inl is_open ↦
      let more = ends left slots (from + 1) image (omega (arith, last)) (λ slot below. ⊎_elim (λ (before : slot < from). gates slot before) (λ (most : from ≤ slot). let same : slot ≡ from = omega (arith, most, below) in ap (gate_at image) same ∙ is_open) (cases_lt slot from)) in
      record { end = more.end; is = more.is; behind = omega (arith, more.behind) }
  | inr shut ↦ record { end = from; is = record { within = omega (arith, last); gates = gates; shut = λ below. shut }; behind = omega arith }
]
