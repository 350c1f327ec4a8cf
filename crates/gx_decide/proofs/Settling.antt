-- A settle is an event of a history, and its decider knows the disk afterwards.
use Rattle.std.proofs.Common.{◌≡◌, ◌⊎◌, inl, inr, ⊎_elim, ℕ, suc, ◌+◌, ◌*◌, ◌<◌, ◌≤◌, ◌^◌, List, [], ◌∷◌, ◌++◌, get_or, refl, sym, ap, ◌∙◌, subst, arith, cond, true, false, Bool}
use Rattle.std.specs.Prelude.{Option, None, Some, Result, Ok, Err, OnErr}
use Rattle.std.specs.Int.{w64, from_le_bytes, to_le_bytes}
use Rattle.std.specs.Ordering.{nat_cmp}
use Rattle.std.specs.BTreeMap.{is_at}
use Rattle.std.proofs.lemmas.Nat.{from_le_bytes-to_le_bytes_8}
use Rattle.std.proofs.lemmas.Bool.{cases_eq, cases_lt}
use Rattle.std.proofs.lemmas.Bool.Decides.{nat_tests}
use Rattle.gx_decide.specs.declared.decision.Decision.{Decision}
use Rattle.gx_decide.specs.Disk.{DiskState}
use Rattle.gx_decide.specs.Log.{IsEnd, Pair, byte_of, decision_of, gate_at, gxid_at, pair_at, pairs_before, slots_of, verdict_at, verdict_in}
use Rattle.gx_decide.specs.Calls.{AreMade, AreMadePartly, settling}
use Rattle.gx_decide.specs.History.{DoesBreak, DoesSettle, Event, GoesOn, Led, SettleBroken, Settled}
use Rattle.gx_decide.specs.Kept.{Kept, Knows, verdict_by}
use Rattle.gx_decide.proofs.Images.{pairs_before-same}
use Rattle.gx_decide.proofs.Pairs.{decision-byte, verdict_in-new, verdict_in-other}
use Rattle.gx_decide.proofs.Verdicts.{goes-on}

pub on-err : {T E P : Type 0} (result : Result T E) → P → OnErr result P
on-err (Ok t) p = tt
on-err (Err e) p = p

module _ (decider : Kept) (old new : DiskState) (gxid : ℕ) (wish : Decision) (know : Knows decider old) (drawn : 0 < gxid) (fits : gxid < 2 ^ 64) (events : List Event) (led : Led events old true) where
  end_there : IsEnd (slots_of old.size) old.seen decider.used
  end_there = subst (λ (n : ℕ). IsEnd n old.seen decider.used) know.slots know.end

  pub settled-goes-on : (answer : Decision) → DoesSettle decider.used gxid wish answer (verdict_by decider gxid) old new → GoesOn (Settled gxid wish answer) events new true
  settled-goes-on answer does =
      goes-on (Settled gxid wish answer) events old new true true led
      (refl, refl, drawn, fits, decider.used, end_there, subst (λ (v : Option Decision). DoesSettle decider.used gxid wish answer v old new) (know.verdicts gxid) does)

  pub broken-goes-on : DoesBreak decider.used gxid wish (verdict_by decider gxid) old new → GoesOn (SettleBroken gxid wish) events new false
  broken-goes-on does =
      goes-on (SettleBroken gxid wish) events old new true false led
      (refl, refl, drawn, fits, decider.used, end_there, subst (λ (v : Option Decision). DoesBreak decider.used gxid wish v old new) (know.verdicts gxid) does)

-- a transaction without a verdict: its pair was written in the slot at the end, or the writing of it failed
module _ (decider : Kept) (old new : DiskState) (gxid : ℕ) (wish : Decision) (know : Knows decider old) (none : verdict_by decider gxid ≡ None) (room : decider.used < decider.slots) (slot : ℕ) (last : slot ≡ decider.used) where
  inside : decider.used < slots_of old.size
  inside = omega (arith, room, know.slots)

  pub settles-new : AreMade (settling slot gxid wish) old new → DoesSettle decider.used gxid wish wish (verdict_by decider gxid) old new
  settles-new made = subst (λ (v : Option Decision). DoesSettle decider.used gxid wish wish v old new) (sym none)
      (refl, inside, subst (λ (n : ℕ). AreMade (settling n gxid wish) old new) last made)

  pub breaks-new : AreMadePartly (settling slot gxid wish) old new → DoesBreak decider.used gxid wish (verdict_by decider gxid) old new
  breaks-new made = subst (λ (v : Option Decision). DoesBreak decider.used gxid wish v old new) (sym none)
      (inr (inside, subst (λ (n : ℕ). AreMadePartly (settling n gxid wish) old new) last made))

-- what the writes of a pair leave
record Wrote (slot number : ℕ) (wish : Decision) (old new : DiskState) : Type 0 where
  pub size : new.size ≡ old.size
  pub elsewhere : (place : ℕ) → (place < 16 * slot) ⊎ (16 * slot + 10 ≤ place) → new.seen place ≡ old.seen place
  pub gxid : gxid_at new.seen slot ≡ number
  pub verdict : verdict_at new.seen slot ≡ byte_of wish
  pub gate : gate_at new.seen slot ≡ 1
  pub durable : (place : ℕ) → new.pending place ≡ false

wrote : (slot number : ℕ) (wish : Decision) (old new : DiskState) → number < 2 ^ 64 → AreMade (settling slot number wish) old new → Wrote slot number wish old new
wrote slot number wish old new fits (one, written, (two, synced, (three, gate, (four, last, same)))) =
    subst (Wrote slot number wish old) (sym same) (
    let back : (place : ℕ) → (place < 16 * slot + 9) ⊎ (16 * slot + 9 + 1 ≤ place) → four.seen place ≡ one.seen place = λ place out. last.seen place ∙ gate.range.seen place out ∙ synced.seen place in
    let at : (j : ℕ) → j < 9 → four.seen (16 * slot + j) ≡ get_or (to_le_bytes w64 number ++ byte_of wish ∷ []) j 0 = λ j below. back (16 * slot + j) (inl (omega (arith, below))) ∙ written.there j below in
    let a : four.seen (16 * slot) ≡ get_or (to_le_bytes w64 number ++ byte_of wish ∷ []) 0 0 = ap four.seen (omega arith) ∙ at 0 (omega arith) in
    let b = at 1 (omega arith) in
    let c = at 2 (omega arith) in
    let d = at 3 (omega arith) in
    let e = at 4 (omega arith) in
    let f = at 5 (omega arith) in
    let g = at 6 (omega arith) in
    let h = at 7 (omega arith) in
    record {
      size = last.size ∙ gate.range.size ∙ synced.size ∙ written.range.size;
      elsewhere = λ place out.
          back place (⊎_elim (λ before. inl (omega (arith, before))) (λ behind. inr (omega (arith, behind))) out)
          ∙ written.range.seen place (⊎_elim (λ before. inl before) (λ behind. inr (omega (arith, behind))) out);
      gxid = ap (from_le_bytes w64) (λ i. a i ∷ b i ∷ c i ∷ d i ∷ e i ∷ f i ∷ g i ∷ h i ∷ []) ∙ from_le_bytes-to_le_bytes_8 number fits;
      verdict = at 8 (omega arith);
      gate = last.seen (16 * slot + 9) ∙ ap three.seen (omega arith) ∙ gate.there 0 (omega arith);
      durable = last.durable;
    }
    )

pub knows-more : (decider decider' : Kept) (old new : DiskState) (gxid : ℕ) (wish : Decision) → Knows decider old → gxid < 2 ^ 64 → verdict_by decider gxid ≡ None → decider.used < decider.slots
    → AreMade (settling decider.used gxid wish) old new → decider'.slots ≡ decider.slots → decider'.used ≡ decider.used + 1 → ((g : ℕ) → verdict_by decider' g ≡ cond (is_at (nat_cmp gxid) g) (Some wish) (verdict_by decider g)) → Knows decider' new
knows-more decider decider' old new gxid wish know fits none room made slots used updates =
    let u = decider.used in
    let k = wrote u gxid wish old new fits made in
    let pairs = pairs_before old.seen u in
    let pair : Pair = record { gxid = gxid; decision = wish } in
    let first : pairs_before new.seen u ≡ pairs = pairs_before-same old.seen new.seen u (λ place below. k.elsewhere place (inl below)) in
    let there : pair_at new.seen u ≡ pair = λ i. record { gxid = k.gxid i; decision = (ap decision_of k.verdict ∙ decision-byte wish) i } in
    let one : u + 1 ≡ suc u = omega arith in
    let all : pairs_before new.seen decider'.used ≡ pairs ++ pair ∷ [] = ap (pairs_before new.seen) (used ∙ one) ∙ (λ i. first i ++ there i ∷ []) in
    let missing : verdict_in pairs gxid ≡ None = sym (know.verdicts gxid) ∙ none in
    record {
      slots = slots ∙ know.slots ∙ ap slots_of (sym k.size);
      end = record {
        within = omega (arith, room, slots, used);
        gates = λ slot below. ⊎_elim
            (λ (before : slot < u). k.elsewhere (16 * slot + 9) (inl (omega (arith, before))) ∙ know.end.gates slot before)
            (λ (most : u ≤ slot). let same : slot ≡ u = omega (arith, most, below, used) in ap (gate_at new.seen) same ∙ k.gate)
            (cases_lt slot u);
        shut = λ inside gate. know.behind decider'.used (omega (arith, used)) (omega (arith, inside, slots)) (sym (k.elsewhere (16 * decider'.used + 9) (inr (omega (arith, used)))) ∙ gate);
      };
      behind = λ slot behind inside gate.
          know.behind slot (omega (arith, behind, used)) (omega (arith, inside, slots)) (sym (k.elsewhere (16 * slot + 9) (inr (omega (arith, behind, used)))) ∙ gate);
      verdicts = λ number. elim (cases_eq gxid number) [
        | inl same ↦
            let test : is_at (nat_cmp gxid) number ≡ true = grind (arith, nat_tests) in
            updates number ∙ ap (λ (b : Bool). cond b (Some wish) (verdict_by decider number)) test
            ∙ sym (ap (λ (ps : List Pair). verdict_in ps number) all ∙ ap (verdict_in (pairs ++ pair ∷ [])) (sym same) ∙ verdict_in-new pairs pair missing)
        | inr other ↦
            let test : is_at (nat_cmp gxid) number ≡ false = grind (arith, nat_tests) in
            updates number ∙ ap (λ (b : Bool). cond b (Some wish) (verdict_by decider number)) test ∙ know.verdicts number
            ∙ sym (ap (λ (ps : List Pair). verdict_in ps number) all ∙ verdict_in-other pairs pair number other)
      ];
      durable = k.durable;
    }
