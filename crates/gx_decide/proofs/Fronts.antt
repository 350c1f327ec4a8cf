-- Slots that are read one after the other.
use Rattle.std.proofs.Common.{◌≡◌, ◌≢◌, inl, inr, ⊎_elim, ℕ, zero, suc, ◌+◌, ◌*◌, ◌<◌, ◌≤◌, List, [], ◌∷◌, ◌++◌, refl, sym, ap, ◌∙◌, subst, arith, cond, true, false, Bool}
use Rattle.std.specs.Prelude.{None, Some}
use Rattle.std.specs.Ordering.{nat_cmp}
use Rattle.std.specs.BTreeMap.{BTreeMap, Updates, get, is_at}
use Rattle.std.proofs.lemmas.Bool.{cases_eq, cases_lt}
use Rattle.std.proofs.lemmas.Bool.Decides.{nat_tests}
use Rattle.gx_decide.specs.declared.decision.Decision.{Decision}
use Rattle.gx_decide.specs.declared.slot.Slot.{Slot}
use Rattle.gx_decide.specs.Disk.{Image, ReachesTo}
use Rattle.gx_decide.specs.Log.{IsSound, Pair, decision_of, gxid_at, pair_at, pairs_before, verdict_in}
use Rattle.gx_decide.specs.Deciding.{IsSlot, IsSoundSlot}
use Rattle.gx_decide.proofs.Pairs.{no-slot, verdict_in-new, verdict_in-other}

none-slot : (image : Image) (end gxid : ℕ) → ((slot : ℕ) → slot < end → gxid_at image slot ≢ gxid) → verdict_in (pairs_before image end) gxid ≡ None
none-slot image zero gxid other = refl
none-slot image (suc end) gxid other =
    verdict_in-other (pairs_before image end) (pair_at image end) gxid (other end (omega arith)) ∙ none-slot image end gxid (λ slot below. other slot (omega (arith, below)))

-- a bound on a list that grows by one
pub below-more : {P : ℕ → Type 0} (end : ℕ) → ((slot : ℕ) → slot < end → P slot) → P end → (slot : ℕ) → slot < end + 1 → P slot
below-more {P} end first last slot below =
    ⊎_elim (λ (before : slot < end). first slot before) (λ (most : end ≤ slot). let same : end ≡ slot = omega (arith, most, below) in subst P same last) (cases_lt slot end)

-- a slot within is asked for
pub reaches-on : (slots end before mid now : ℕ) → end < slots → ReachesTo (16 * slots) before mid → ReachesTo (16 * end + 16) mid now → ReachesTo (16 * slots) before now
reaches-on slots end before mid now inside first then_ = omega (arith, inside, first, then_)

module _ (image : Image) (end : ℕ) (slot : Slot) (is : IsSlot image end slot) where
  pub sound-slot : (decision : Decision) → IsSoundSlot slot decision → verdict_in (pairs_before image end) slot.gxid ≡ None → IsSound image end
  sound-slot decision sound none = record {
    verdict = ⊎_elim (λ one. inl (sym is.verdict ∙ one)) (λ two. inr (sym is.verdict ∙ two)) sound.verdict;
    drawn = λ zero_. sound.drawn (is.gxid ∙ zero_);
    fresh = no-slot image end (gxid_at image end) (ap (verdict_in (pairs_before image end)) (sym is.gxid) ∙ none);
    blank = is.blank.0 sound.blank;
  }

  -- where no verdict makes it sound, it isn't
  pub bad-slot : ((decision : Decision) → IsSoundSlot slot decision → verdict_in (pairs_before image end) slot.gxid ≡ None → ⊥) → IsSound image end → ⊥
  bad-slot bad sound =
      bad (decision_of slot.verdict)
      (record {
        verdict = ⊎_elim (λ one. inl (is.verdict ∙ one)) (λ two. inr (is.verdict ∙ two)) sound.verdict;
        is = refl;
        drawn = λ zero_. sound.drawn (sym is.gxid ∙ zero_);
        blank = is.blank.1 sound.blank;
      })
      (ap (verdict_in (pairs_before image end)) is.gxid ∙ none-slot image end (gxid_at image end) sound.fresh)

  pub verdicts-more : (decision : Decision) (old new : BTreeMap ℕ Decision) → decision ≡ decision_of slot.verdict → verdict_in (pairs_before image end) slot.gxid ≡ None
      → ((gxid : ℕ) → get nat_cmp old gxid ≡ verdict_in (pairs_before image end) gxid) → Updates nat_cmp old new slot.gxid (Some decision)
      → (gxid : ℕ) → get nat_cmp new gxid ≡ verdict_in (pairs_before image (end + 1)) gxid
  verdicts-more decision old new told none was updates gxid =
      let pairs = pairs_before image end in
      let one : end + 1 ≡ suc end = omega arith in
      let pair : Pair = record { gxid = slot.gxid; decision = decision } in
      let there : pair ≡ pair_at image end = λ i. record { gxid = is.gxid i; decision = (told ∙ ap decision_of is.verdict) i } in
      let all : pairs ++ pair ∷ [] ≡ pairs_before image (end + 1) = (λ i. pairs ++ there i ∷ []) ∙ ap (pairs_before image) (sym one) in
      elim (cases_eq slot.gxid gxid) [
        | inl same ↦
            let test : is_at (nat_cmp slot.gxid) gxid ≡ true = grind (arith, nat_tests, same) in
            updates.0 gxid ∙ ap (λ (b : Bool). cond b (Some decision) (get nat_cmp old gxid)) test
            ∙ sym (ap (λ (ps : List Pair). verdict_in ps gxid) (sym all) ∙ ap (verdict_in (pairs ++ pair ∷ [])) (sym same) ∙ verdict_in-new pairs pair none)
        | inr other ↦
            let test : is_at (nat_cmp slot.gxid) gxid ≡ false = grind (arith, nat_tests, other) in
            updates.0 gxid ∙ ap (λ (b : Bool). cond b (Some decision) (get nat_cmp old gxid)) test ∙ was gxid
            ∙ sym (ap (λ (ps : List Pair). verdict_in ps gxid) (sym all) ∙ verdict_in-other pairs pair gxid other)
      ]
