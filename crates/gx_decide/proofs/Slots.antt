-- A slot of the disk is what its bytes say.
use Rattle.std.proofs.Common.{◌≡◌, ℕ, ◌+◌, ◌*◌, ◌<◌, List, [], ◌∷◌, length, get_or, ap, sym, ◌∙◌, arith, Bool, true, eqb, ◌&&◌, ◌↔◌}
use Rattle.std.proofs.lemmas.Bool.Decides.{nat_tests}
use Rattle.std.specs.Int.{w64, from_le_bytes}
use Rattle.gx_decide.specs.declared.slot.Slot.{Slot}
use Rattle.gx_decide.specs.Disk.{Image, IsRead}
use Rattle.gx_decide.specs.Deciding.{IsSlotOf, IsSlot}

pub slot-at : (image : Image) (place : ℕ) (bytes : List ℕ) (slot : Slot) → length bytes ≡ 16 → IsRead image (16 * place) bytes → IsSlotOf bytes slot → IsSlot image place slot
slot-at image place bytes slot long read of =
    let at : (k : ℕ) → k < 16 → get_or bytes k 0 ≡ image (16 * place + k) = λ k below. read k (omega (arith, long, below)) in
    let first : get_or bytes 0 0 ≡ image (16 * place) = at 0 (omega arith) ∙ ap image (omega arith) in
    let a = at 1 (omega arith) in
    let b = at 2 (omega arith) in
    let c = at 3 (omega arith) in
    let d = at 4 (omega arith) in
    let e = at 5 (omega arith) in
    let f = at 6 (omega arith) in
    let g = at 7 (omega arith) in
    record {
      gxid = of.gxid ∙ ap (from_le_bytes w64) (λ i. first i ∷ a i ∷ b i ∷ c i ∷ d i ∷ e i ∷ f i ∷ g i ∷ []);
      verdict = of.verdict ∙ at 8 (omega arith);
      gate = of.gate ∙ at 9 (omega arith);
      blank = (
        λ is. let z = of.blank.0 is in (
          sym (at 10 (omega arith)) ∙ z.0,
          sym (at 11 (omega arith)) ∙ z.1,
          sym (at 12 (omega arith)) ∙ z.2,
          sym (at 13 (omega arith)) ∙ z.3,
          sym (at 14 (omega arith)) ∙ z.4,
          sym (at 15 (omega arith)) ∙ z.5,
        ),
        λ z. of.blank.1 (
          at 10 (omega arith) ∙ z.0,
          at 11 (omega arith) ∙ z.1,
          at 12 (omega arith) ∙ z.2,
          at 13 (omega arith) ∙ z.3,
          at 14 (omega arith) ∙ z.4,
          at 15 (omega arith) ∙ z.5,
        ),
      );
    }

-- six bytes are zeros
pub six_zeros : (result : Bool) (a b c d e f : ℕ) → result ≡ (eqb a 0 && (eqb b 0 && (eqb c 0 && (eqb d 0 && (eqb e 0 && (eqb f 0 && true))))))
    → (result ≡ true) ↔ ((a ≡ 0) × (b ≡ 0) × (c ≡ 0) × (d ≡ 0) × (e ≡ 0) × (f ≡ 0))
six_zeros result a b c d e f is = (λ yes. grind (arith, nat_tests), λ zeros. grind (arith, nat_tests))
