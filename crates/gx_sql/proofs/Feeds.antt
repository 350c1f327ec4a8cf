-- The first line feed ends the first line.
use Rattle.std.proofs.Common.{◌≡◌, ℕ, ◌==◌, Bool, true, false, not, List, length, get_or, Some, None, refl, sym, ap, arith}
use Rattle.std.proofs.lemmas.List.Sums.{prefix_len_is}
use Rattle.std.specs.List.{prefix_len}
use Rattle.memchr.specs.Find.{IsFirstByte, is_byte}
use Rattle.gx_sql.specs.Cutting.{is_within}

not_true : (b : Bool) → (b ≡ true → ⊥) → not b ≡ true
not_true true h = absurd (h refl)
not_true false h = refl

pub to_feed : (bs : List ℕ) (k : ℕ) → IsFirstByte (is_byte 10) bs (Some k) → k ≡ prefix_len is_within bs
to_feed bs k h = sym (prefix_len_is is_within bs k 0 (omega (arith, h.0.high)) (λ j l. not_true (get_or bs j 0 == 10) (h.0.before j (omega arith) l)) (λ l. ap not h.1))

pub to_end : (bs : List ℕ) → IsFirstByte (is_byte 10) bs None → length bs ≡ prefix_len is_within bs
to_end bs h = sym (prefix_len_is is_within bs (length bs) 0 (omega arith) (λ j l. not_true (get_or bs j 0 == 10) (h j (omega arith) l)) (λ l. absurd (omega (arith, l))))
