-- Segments whose graphs are awaited.
use Rattle.std.proofs.Common.{◌≡◌, ℕ, zero, suc, ◌+◌, ◌-◌, ◌≤◌, ◌<◌, Bool, true, false, cond, not, eqb, List, [], ◌∷◌, length, get_or, map, refl, sym, ap, ◌∙◌, subst, arith}
use Rattle.std.proofs.lemmas.Bool.{eq-eqb, eqb-true}
use Rattle.std.proofs.lemmas.Bool.Decides.{nat_tests}
use Rattle.std.specs.List.{range_with_len}
use Rattle.std.specs.Prelude.{Option, None, Some, is_none, is_some}
use Rattle.gx_ids.specs.declared.ids.Node.{Node}
use Rattle.gx_waits.specs.declared.graph.LocalGraph.{LocalGraph}
use Rattle.gx_detect.specs.Reports.{IsSegment, lacks_from}
use Rattle.gx_detect.specs.Rounds.{Rounds, awaits, lacks}
use Rattle.gx_detect.specs.Calls.{Call, HasReported, after, begun_by, first_from, heard_since, is_running}
use Rattle.gx_detect.proofs.Complete.{has_reported, is_reported}
use Rattle.gx_detect.proofs.Places.{eqb-other}
use Rattle.gx_detect.proofs.Told.{after-told}

true_false : true ≡ false → ⊥
true_false e = cc

-- AT ITS PLACE
lacks_from-before : (number : ℕ) (reports : List (Option LocalGraph)) (segment : Node) → segment.0 < number → lacks_from number reports segment ≡ false
lacks_from-before number [] segment less = refl
lacks_from-before number (r ∷ rs) segment less =
    ap (λ b. cond b (is_none r) (lacks_from (number + 1) rs segment)) (eqb-other segment.0 number (λ (e : segment.0 ≡ number). omega arith))
    ∙ lacks_from-before (number + 1) rs segment (omega arith)

lacks_from-behind : (number : ℕ) (reports : List (Option LocalGraph)) (segment : Node) → number + length reports ≤ segment.0 → lacks_from number reports segment ≡ false
lacks_from-behind number [] segment more = refl
lacks_from-behind number (r ∷ rs) segment more =
    ap (λ b. cond b (is_none r) (lacks_from (number + 1) rs segment)) (eqb-other segment.0 number (λ (e : segment.0 ≡ number). omega arith))
    ∙ lacks_from-behind (number + 1) rs segment (omega arith)

lacks_from-at : (number : ℕ) (reports : List (Option LocalGraph)) (segment : Node) (i : ℕ) (d : Option LocalGraph) → segment.0 ≡ number + i
    → i < length reports → lacks_from number reports segment ≡ is_none (get_or reports i d)
lacks_from-at number [] segment i d at inside = absurd (omega arith)
lacks_from-at number (r ∷ rs) segment zero d at inside = ap (λ b. cond b (is_none r) (lacks_from (number + 1) rs segment)) (eq-eqb segment.0 number (omega arith))
lacks_from-at number (r ∷ rs) segment (suc i) d at inside =
    ap (λ b. cond b (is_none r) (lacks_from (number + 1) rs segment)) (eqb-other segment.0 number (λ (e : segment.0 ≡ number). omega arith))
    ∙ lacks_from-at (number + 1) rs segment i d (omega arith) (omega arith)

pub is_none-of : (o : Option LocalGraph) (b : Bool) → is_some o ≡ not b → b ≡ is_none o
is_none-of None true e = refl
is_none-of None false e = absurd (true_false (sym e))
is_none-of (Some g) true e = absurd (true_false e)
is_none-of (Some g) false e = refl

from_one : (n : ℕ) → (n ≡ 0 → ⊥) → 1 ≤ n
from_one zero some = absurd (some refl)
from_one (suc n) some = omega arith

module _ (reports : List (Option LocalGraph)) (segment : Node) where
  pub lacks-nobody : segment.0 ≡ 0 → false ≡ lacks_from 1 reports segment
  lacks-nobody none = sym (lacks_from-before 1 reports segment (omega arith))

  pub lacks-beyond : length reports < segment.0 → false ≡ lacks_from 1 reports segment
  lacks-beyond more = sym (lacks_from-behind 1 reports segment (omega arith))

  pub lacks-there : (report : Option LocalGraph) → (segment.0 ≡ 0 → ⊥) → segment.0 ≤ length reports → report ≡ get_or reports (segment.0 - 1) report
      → is_none report ≡ lacks_from 1 reports segment
  lacks-there report some high is =
      let low = from_one segment.0 some in
      ap is_none is ∙ sym (lacks_from-at 1 reports segment (segment.0 - 1) report (omega arith) (omega arith))

-- BY CALLS
module _ (from : ℕ → Option LocalGraph) (segment : Node) where
  abbrev Awaited : ℕ → ℕ → Type 0
  Awaited k n = (k ≤ segment.0) × (segment.0 < k + n) × (is_none (from segment.0) ≡ true)

  awaited_if : (k n : ℕ) → lacks_from k (map from (range_with_len k n)) segment ≡ true → Awaited k n
  awaited_if k zero e = absurd (true_false (sym e))
  awaited_if k (suc n) e = go (eqb segment.0 k) refl e (awaited_if (k + 1) n)
    where
      go : (b : Bool) → eqb segment.0 k ≡ b → cond b (is_none (from k)) (lacks_from (k + 1) (map from (range_with_len (k + 1) n)) segment) ≡ true
          → (lacks_from (k + 1) (map from (range_with_len (k + 1) n)) segment ≡ true → Awaited (k + 1) n) → Awaited k (suc n)
      go true t e rest = let s = eqb-true segment.0 k t in (omega arith, omega arith, subst (λ i. is_none (from i) ≡ true) (sym s) e)
      go false t e rest = let r = rest e in (omega (arith, r.0), omega (arith, r.1), r.2)

  is_awaited : (k n : ℕ) → Awaited k n → lacks_from k (map from (range_with_len k n)) segment ≡ true
  is_awaited k zero a = absurd (omega (arith, a.0, a.1))
  is_awaited k (suc n) a = go (eqb segment.0 k) refl (is_awaited (k + 1) n)
    where
      other : eqb segment.0 k ≡ false → (segment.0 ≡ k → ⊥)
      other f e = true_false (sym (eq-eqb segment.0 k e) ∙ f)

      above : (i j : ℕ) → j ≤ i → (i ≡ j → ⊥) → j + 1 ≤ i
      above i j low apart = grind (arith, nat_tests)

      go : (b : Bool) → eqb segment.0 k ≡ b → (Awaited (k + 1) n → lacks_from (k + 1) (map from (range_with_len (k + 1) n)) segment ≡ true)
          → cond b (is_none (from k)) (lacks_from (k + 1) (map from (range_with_len (k + 1) n)) segment) ≡ true
      go true t rest = subst (λ i. is_none (from i) ≡ true) (eqb-true segment.0 k t) a.2
      go false t rest = rest (above segment.0 k a.0 (other t), omega (arith, a.1), a.2)

none_some : (o : Option LocalGraph) → is_none o ≡ true → is_some o ≡ true → ⊥
none_some None n s = true_false (sym s)
none_some (Some g) n s = true_false (sym n)

some_or_none : (o : Option LocalGraph) → (is_some o ≡ true → ⊥) → is_none o ≡ true
some_or_none None none = refl
some_or_none (Some g) none = absurd (none refl)

lacks_if : (b : Bool) (reports : List (Option LocalGraph)) (segment : Node) → lacks (cond b (Some reports) None) segment ≡ true
    → (b ≡ true) × (lacks_from 1 reports segment ≡ true)
lacks_if true reports segment e = (refl, e)
lacks_if false reports segment e = absurd (true_false (sym e))

module _ (segments : ℕ) (calls : List Call) (segment : Node) where
  abbrev first : ℕ → Option LocalGraph
  first = first_from (begun_by calls) (heard_since calls)

  abbrev HasNotReported : Type 0
  HasNotReported = (is_running calls ≡ true) × IsSegment segments segment × (HasReported (begun_by calls) segment.0 (heard_since calls) → ⊥)

  told-awaits : awaits (after segments calls) segment ≡ lacks (cond (is_running calls) (Some (map first (range_with_len 1 segments))) None) segment
  told-awaits = ap (λ (d : Rounds). awaits d segment) (after-told segments calls)

  pub awaited_tells : awaits (after segments calls) segment ≡ true → HasNotReported
  awaited_tells e =
      let parts = lacks_if (is_running calls) (map first (range_with_len 1 segments)) segment (sym told-awaits ∙ e) in
      let a = awaited_if first segment 1 segments parts.1 in (
        parts.0,
        record { from_one = a.0; within = omega (arith, a.1) },
        λ has. none_some (first segment.0) a.2 (is_reported (begun_by calls) segment.0 (heard_since calls) has),
      )

  pub awaited_is : HasNotReported → awaits (after segments calls) segment ≡ true
  awaited_is (runs, is, none) =
      told-awaits
      ∙ ap (λ b. lacks (cond b (Some (map first (range_with_len 1 segments))) None) segment) runs
      ∙ is_awaited first segment 1 segments
      (is.from_one, omega (arith, is.within), some_or_none (first segment.0) (λ s. none (has_reported (begun_by calls) segment.0 (heard_since calls) s)))
