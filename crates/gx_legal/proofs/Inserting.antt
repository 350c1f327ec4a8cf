-- The test of what an INSERT has done decides the definition.
use Rattle.std.proofs.Common.{◌≡◌, ◌∙◌, ℕ, ◌+◌, ◌==◌, ◌≤◌, Bool, true, false, All, List, [], ◌∷◌, length, Ok, Err, Result, refl, ap, arith}
use Rattle.std.proofs.lemmas.Bool.{and_from}
use Rattle.std.proofs.lemmas.Bool.Decides.{nat_tests}
use Rattle.std.proofs.lemmas.List.Elements.{All-nil, All-cons, All-head, All-tail}
use Rattle.gx_ids.specs.declared.ids.Gxid.{Gxid}
use Rattle.gx_ids.specs.declared.ids.Cid.{Cid}
use Rattle.gx_ids.specs.declared.rid.Rid.{Rid}
use Rattle.gx_lemmas.proofs.Numbers.{eqb-of, same-of}
use Rattle.gx_lemmas.proofs.Tests.{and-first, and-second}
use Rattle.gx_tree.specs.declared.expr.Expr.{Expr}
use Rattle.gx_tree.specs.declared.stmt.Level.{Level}
use Rattle.gx_tree.specs.declared.value.Value.{Value}
use Rattle.gx_meaning.specs.Constants.{values_of}
use Rattle.gx_meaning.specs.declared.fault.ArithFault.{ArithFault}
use Rattle.gx_store.specs.declared.mark.Mark.{Mark}
use Rattle.gx_store.specs.Answers.{HasValues, Inserts}
use Rattle.gx_store.specs.Commands.{has_own_snapshot}
use Rattle.gx_store.specs.Marks.{is_processed}
use Rattle.gx_legal.specs.Faulted.{are_whole, is_whole}
use Rattle.gx_legal.specs.Told.{are_own_done, has_inserted}
use Rattle.gx_legal.proofs.Decided.{no_more}

whole-is : (o : Result (List Value) ArithFault) → is_whole o ≡ true → (values : List Value) × (o ≡ Ok values)
whole-is (Ok values) e = (values, refl)
whole-is (Err fault) e = no_more _ e

wholes-are : (tuples : List (List Expr)) → are_whole tuples ≡ true → All HasValues tuples
wholes-are [] e = All-nil HasValues
wholes-are (t ∷ ts) e =
    All-cons HasValues t ts (whole-is (values_of t) (and-first (is_whole (values_of t)) _ e)) (wholes-are ts (and-second (is_whole (values_of t)) _ e))

are-wholes : (tuples : List (List Expr)) → All HasValues tuples → are_whole tuples ≡ true
are-wholes [] all = refl
are-wholes (t ∷ ts) all =
    and_from (is_whole (values_of t)) _ (ap is_whole (All-head HasValues t ts all).1) (are-wholes ts (All-tail HasValues t ts all))

module _ (marks : List Mark) (g : Gxid) (c : Cid) where
  abbrev row : ℕ → Rid
  row o = record { gxid = g; cid = c; ordinal = o }

  above : (o k : ℕ) → k + 1 ≤ o → (o == k + 1) ≡ false → k + 1 + 1 ≤ o
  above o k low e = grind (arith, nat_tests)

  done-are : (k : ℕ) (ts : List (List Expr)) → are_own_done marks g c k ts ≡ true → (o : ℕ) → k + 1 ≤ o → o ≤ k + length ts → is_processed marks g c (row o) ≡ true
  done-are k [] e o low high = absurd (omega (arith, low, high))
  done-are k (t ∷ ts) e o low high =
      by_place (o == k + 1) refl (done-are (k + 1) ts (and-second (is_processed marks g c (row (k + 1))) _ e) o)
    where
      by_place : (b : Bool) → (o == k + 1) ≡ b → (k + 1 + 1 ≤ o → o ≤ k + 1 + length ts → is_processed marks g c (row o) ≡ true) → is_processed marks g c (row o) ≡ true
      by_place true at later = ap (λ (n : ℕ). is_processed marks g c (row n)) (same-of o (k + 1) at) ∙ and-first (is_processed marks g c (row (k + 1))) _ e
      by_place false at later = later (above o k low at) (omega (arith, high))

  are-done : (k : ℕ) (ts : List (List Expr)) → ((o : ℕ) → k + 1 ≤ o → o ≤ k + length ts → is_processed marks g c (row o) ≡ true) → are_own_done marks g c k ts ≡ true
  are-done k [] h = refl
  are-done k (t ∷ ts) h =
      and_from (is_processed marks g c (row (k + 1))) _ (h (k + 1) (omega arith) (omega arith))
      (are-done (k + 1) ts (λ o low high. h o (omega (arith, low)) (omega (arith, high))))

module _ (marks : List Mark) (level : Level) (g : Gxid) (c : Cid) (tuples : List (List Expr)) (n : ℕ) where
  pub inserted-is : has_inserted marks level g c tuples n ≡ true → Inserts marks level g c tuples n
  inserted-is e =
      let rest = and-second (n == length tuples) _ e in
      let more = and-second (has_own_snapshot level marks g c) _ rest in
      let count : n ≡ length tuples = same-of n (length tuples) (and-first (n == length tuples) _ e) in
      record {
        count = count;
        snapped = and-first (has_own_snapshot level marks g c) _ rest;
        values = wholes-are tuples (and-first (are_whole tuples) _ more);
        each = λ o low high. done-are marks g c 0 tuples (and-second (are_whole tuples) _ more) o (omega (arith, low)) (omega (arith, high, count));
      }

  pub is-inserted : Inserts marks level g c tuples n → has_inserted marks level g c tuples n ≡ true
  is-inserted i =
      and_from (n == length tuples) _ (eqb-of n (length tuples) i.count)
      (and_from (has_own_snapshot level marks g c) _ i.snapped
      (and_from (are_whole tuples) _ (are-wholes tuples i.values)
      (are-done marks g c 0 tuples (λ o low high. i.each o (omega (arith, low)) (omega (arith, high, i.count))))))
