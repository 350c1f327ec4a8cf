-- Marks with a failure at most.
use Rattle.std.proofs.Common.{◌≡◌, ◌≤◌, ℕ, ◌+◌, ◌&&◌, Bool, true, false, cond, List, [], ◌∷◌, ◌++◌, refl, sym, subst, arith}
use Rattle.gx_ids.specs.declared.ids.Node.{Node}
use Rattle.gx_msg.specs.declared.message.Out.{Out}
use Rattle.gx_store.specs.declared.mark.Mark.{Mark}
use Rattle.gx_store.specs.declared.mark.Mark.TheVariants.{JournalFailed}
use Rattle.gx_store.specs.Journals.{is_same_node}
use Rattle.gx_rules.specs.Sending.{counted, numbered}
use Rattle.gx_law_runs.specs.Failures.{failures_in}

abbrev pub NoFailures : List Mark → Type 0
NoFailures [] = Unit {0}
NoFailures (JournalFailed n g ∷ ms) = ⊥
NoFailures (_ ∷ ms) = NoFailures ms

-- one at this node, if the append fails
abbrev pub MayFail : Node → Bool → List Mark → Type 0
MayFail at fails [] = Unit {0}
MayFail at fails (JournalFailed n g ∷ ms) = (n ≡ at) × (fails ≡ true) × NoFailures ms
MayFail at fails (_ ∷ ms) = MayFail at fails ms

-- MORE MARKS
pub none-append : (xs ys : List Mark) → NoFailures xs → NoFailures ys → NoFailures (xs ++ ys)
none-append [] ys a b = b
none-append (JournalFailed n g ∷ xs) ys a b = absurd a
none-append (m ∷ xs) ys a b = none-append xs ys a b

pub none-sent : (f : ℕ → ℕ) (outs : List Out) → NoFailures (numbered f outs)
none-sent f [] = tt
none-sent f (out ∷ outs) = none-sent (counted f out) outs

module _ (at : Node) (fails : Bool) where
  pub may-none : (ms : List Mark) → NoFailures ms → MayFail at fails ms
  may-none [] none = tt
  may-none (JournalFailed n g ∷ ms) none = absurd none
  may-none (m ∷ ms) none = may-none ms none

  pub may-append : (xs ys : List Mark) → MayFail at fails xs → NoFailures ys → MayFail at fails (xs ++ ys)
  may-append [] ys a b = may-none ys b
  may-append (JournalFailed n g ∷ xs) ys a b = (a.0, a.1, none-append xs ys a.2 b)
  may-append (m ∷ xs) ys a b = may-append xs ys a b

  -- with what is sent
  pub may-sent : (ms : List Mark) (f : ℕ → ℕ) (outs : List Out) → MayFail at fails ms → MayFail at fails (ms ++ numbered f outs)
  may-sent ms f outs may = may-append ms (numbered f outs) may (none-sent f outs)

-- COUNTS
module _ (node : Node) where
  count-none : (ms : List Mark) → NoFailures ms → failures_in node ms ≡ 0
  count-none [] none = refl
  count-none (JournalFailed n g ∷ ms) none = absurd none
  count-none (m ∷ ms) none = count-none ms none

  one : (b : Bool) (n : ℕ) → n ≡ 0 → cond b (n + 1) n ≤ cond (b && true) 1 0
  one true n e = omega (arith, e)
  one false n e = omega (arith, e)

  pub count-may : (at : Node) (fails : Bool) (ms : List Mark) → MayFail at fails ms → failures_in node ms ≤ cond (is_same_node at node && fails) 1 0
  count-may at fails [] may = omega arith
  count-may at fails (JournalFailed n g ∷ ms) may =
      subst (λ (k : Node). cond (is_same_node n node) (failures_in node ms + 1) (failures_in node ms) ≤ cond (is_same_node k node && fails) 1 0) may.0
      (subst (λ (b : Bool). cond (is_same_node n node) (failures_in node ms + 1) (failures_in node ms) ≤ cond (is_same_node n node && b) 1 0) (sym may.1) (one (is_same_node n node) (failures_in node ms) (count-none ms may.2)))
  count-may at fails (m ∷ ms) may = count-may at fails ms may
