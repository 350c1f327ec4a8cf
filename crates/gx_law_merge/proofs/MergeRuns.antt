-- The small run's histories fit and merge to it; by node first they are no run, and with too low a clock they don't fit.
use Rattle.std.proofs.Common.{◌≡◌, ◌≤◌, ℕ, zero, suc, ◌==◌, List, [], ◌∷◌, Some, Bool, true, false, refl, sym, subst, ap, ◌∙◌, arith}
use Rattle.std.proofs.lemmas.Bool.Decides.{nat_tests}
use Rattle.std.proofs.lemmas.Bool.{and_parts}
use Rattle.std.specs.List.{list_all}
use Rattle.std.specs.Prelude.{get_or, nat_le, slice_get, take}
use Rattle.gx_lemmas.proofs.Options.{some-same}
use Rattle.std.specs.List.Sorted.{IsStrictlySortedBy}
use Rattle.gx_ids.specs.declared.ids.Node.{Node}
use Rattle.gx_store.specs.declared.node.NodeEvent.TheVariants as here
use Rattle.gx_store.specs.declared.run.Step.{Step}
use Rattle.gx_store.specs.Ordered.{IsSegment}
use Rattle.gx_store.specs.Refusals.{the_coordinator}
use Rattle.gx_rules.specs.Rows.{session}
use Rattle.gx_rules.specs.Segments.{new_segment}
use Rattle.gx_rules.specs.Sending.{clock_after}
use Rattle.gx_law_merge.specs.Apart.{DoesFollow, IsTurn, here_in, segments_rule}
use Rattle.gx_law_merge.specs.Merge.{DoFit, IsMergeOf, history_of, own_steps, posted_in}
use Rattle.gx_law_merge.specs.MergeRuns.{IsListOf, IsMerged, IsNoRun, IsTooLow, by_node_first, locked_histories, locked_run, low_histories, low_receipt, one_lock, the_segment}
use Rattle.gx_law_merge.proofs.Rising.{own-there}

-- NODES
only : (node : Node) → IsSegment one_lock node → the_segment ≡ node
only node place = ap (λ n. let x : Node = record { 0 = n } in x) (same node.0 place.0 place.1)
  where
    same : (n : ℕ) → 1 ≤ n → n ≤ 1 → 1 ≡ n
    same n a b = omega arith

-- steps of these two are nobody else's
abbrev is_of_two : Step → Bool
is_of_two s = nat_le s.stamp.node.0 1

nobody : (n : ℕ) (ss : List Step) → list_all is_of_two ss ≡ true → own_steps (record { 0 = suc (suc n) }) ss ≡ []
nobody n [] e = refl
nobody n (s ∷ ss) e = own-there (record { 0 = suc (suc n) }) s ss (off s.stamp.node.0 n (and_parts (is_of_two s) (list_all is_of_two ss) e).0) ∙ nobody n ss (and_parts (is_of_two s) (list_all is_of_two ss) e).1
  where
    off : (a n : ℕ) → nat_le a 1 ≡ true → (a == suc (suc n)) ≡ false
    off a n h = grind (arith, nat_tests)

-- THE RUN
segment-follows : DoesFollow (segments_rule one_lock) the_segment (posted_in locked_histories) (new_segment the_segment) (history_of locked_histories the_segment)
segment-follows = (record { node = refl; place = refl; here = _; fails = false; is = refl; admitted = refl; marks = refl; clock = refl }, tt)

fits : DoFit one_lock locked_histories
fits =
    record {
      count = refl;
      coordinator = (
        record { node = refl; place = refl; here = here.Start (session 0); fails = false; is = refl; admitted = refl; marks = refl; clock = refl },
        (
          record { node = refl; place = refl; here = here.Start (session 0); fails = false; is = refl; admitted = refl; marks = refl; clock = refl },
          (record { node = refl; place = refl; here = _; fails = false; is = refl; admitted = refl; marks = refl; clock = refl }, tt),
        ),
      );
      segments = λ node place.
          subst (λ n. DoesFollow (segments_rule one_lock) n (posted_in locked_histories) (new_segment n) (history_of locked_histories n)) (only node place) segment-follows;
    }

-- each node's own among steps of these two
own-by : (steps : List Step) → own_steps the_coordinator steps ≡ history_of locked_histories the_coordinator → own_steps the_segment steps ≡ history_of locked_histories the_segment
    → ((n : ℕ) → own_steps (record { 0 = suc (suc n) }) steps ≡ []) → (node : Node) → own_steps node steps ≡ history_of locked_histories node
own-by steps a b c node = by_number node.0
  where
    by_number : (n : ℕ) → own_steps (record { 0 = n }) steps ≡ get_or locked_histories n []
    by_number zero = a
    by_number (suc zero) = b
    by_number (suc (suc n)) = c n

merged : IsMergeOf locked_histories locked_run
unfolding IsStrictlySortedBy
merged =
    record {
      rising = ((refl, (refl, (refl, tt))), ((refl, (refl, tt)), ((refl, tt), (tt, tt))));
      own = own-by locked_run refl refl (λ n. nobody n locked_run refl);
    }

pub is_merged : IsMerged
is_merged = record { fit = fits; merge = merged }

-- BY NODE FIRST
listed : IsListOf locked_histories by_node_first
unfolding IsStrictlySortedBy
listed =
    record {
      rising = ((refl, (refl, (refl, tt))), ((refl, (refl, tt)), ((refl, tt), (tt, tt))));
      own = own-by by_node_first refl refl (λ n. nobody n by_node_first refl);
    }

-- the third step receives what the segment has sent, and both steps before are the coordinator's
abbrev is_first : Step → Bool
is_first s = s.stamp.node.0 == 0

all-at : (ss : List Step) (k : ℕ) (s : Step) → list_all is_first ss ≡ true → slice_get ss k ≡ Some s → is_first s ≡ true
all-at [] k s e at = absurd (cc)
all-at (x ∷ ss) zero s e at = subst (λ y. is_first y ≡ true) (some-same x s at) (and_parts (is_first x) (list_all is_first ss) e).0
all-at (x ∷ ss) (suc k) s e at = all-at ss k s (and_parts (is_first x) (list_all is_first ss) e).1 at

not-both : (n : Node) → (n.0 == 0) ≡ true → n ≡ the_segment → ⊥
not-both n first second = by_parts (subst (λ m. (m.0 == 0) ≡ true) second first)
  where
    by_parts : false ≡ true → ⊥
    by_parts e = cc

pub is_no_run : IsNoRun
is_no_run = record { list = listed; refused = λ o. let sending = o.1.1.0.event.1.sending in not-both sending.sender.stamp.node (all-at (take 2 by_node_first) o.1.1.0.event.1.at sending.sender refl sending.at) sending.node }

-- TOO LOW A CLOCK
apart : (n : ℕ) → n ≡ suc n → ⊥
apart n e = omega (arith, e)

pub is_too_low : IsTooLow
is_too_low = record { refused = λ fit. by_turn (fit.segments the_segment (omega arith, omega arith)).0 }
  where
    by_turn : IsTurn (segments_rule one_lock) the_segment (new_segment the_segment) (here_in (posted_in low_histories) low_receipt) low_receipt → ⊥
    by_turn t = apart 2 (t.clock ∙ ap (clock_after 0) (sym (some-same _ t.here t.is)))
