-- Where a link stands after a delivery, by the counts of its messages.
use Rattle.std.proofs.Common.{◌≡◌, ◌≢◌, ◌⊎◌, inl, inr, ℕ, ◌+◌, ◌<◌, ◌≤◌, ◌^◌, Bool, true, false, not, cond, ◌&&◌, refl, sym, ap, ◌∙◌, subst, arith}
use Rattle.gx_agenda.specs.declared.cursor.Cursor.{Cursor}
use Rattle.gx_agenda.specs.declared.faults.Faults.{Faults}
use Rattle.gx_agenda.specs.Agrees.{StandsAt}
use Rattle.gx_agenda.specs.Faults.{Follows, FollowsBy, Skips, is_lost, is_repeated, times, times_of}
use Rattle.gx_agenda.specs.FreshLinks.{IsFresh}
use Rattle.gx_agenda.proofs.Numbers.{three}

-- the same counts
pub stands_same : (received later due : ℕ → ℕ) (cursor : Cursor) → ((n : ℕ) → later n ≡ received n) → StandsAt received due cursor → StandsAt later due cursor
stands_same received later due cursor same s =
    record {
      done = λ n low high. same n ∙ s.done n low high;
      again = same (cursor.done + 1) ∙ s.again;
      next = λ small. subst (λ r. r < due (cursor.done + 1)) (sym (same (cursor.done + 1))) (s.next small);
      behind = λ n above. same n ∙ s.behind n above;
    }

never : (lost repeated : Bool) (due : ℕ) → times_of lost repeated ≡ due → lost ≡ true → due ≡ 0
never lost repeated due e is = grind arith

some_times : (lost repeated : Bool) (due : ℕ) → times_of lost repeated ≡ due → lost ≡ false → 0 < due
some_times lost repeated due e is = grind arith

twice : (lost repeated : Bool) (due : ℕ) → times_of lost repeated ≡ due → 0 < due → repeated ≡ true → due ≡ 2
twice lost repeated due e left is = grind arith

once : (lost repeated : Bool) (due : ℕ) → times_of lost repeated ≡ due → 0 < due → repeated ≡ false → due ≡ 1
once lost repeated due e left is = grind arith

at_most_twice : (lost repeated : Bool) (due : ℕ) → times_of lost repeated ≡ due → 1 < due → due ≡ 2
at_most_twice lost repeated due e left = grind arith

-- nothing was received: the link stands behind the lost messages at its head
pub stands_fresh : (faults : Faults) (link : ℕ) (received due : ℕ → ℕ) (cursor : Cursor) → ((n : ℕ) → times faults link n ≡ due n) → ((n : ℕ) → received n ≡ 0) → IsFresh faults link cursor → StandsAt received due cursor
stands_fresh faults link received due cursor known none fresh =
    record {
      done = λ n low high. none n ∙ sym (never (is_lost faults link n) (is_repeated faults link n) (due n) (known n) (fresh.skips.lost n low high));
      again = none (cursor.done + 1) ∙ ap (λ b. cond b 1 0) (sym fresh.once);
      next = λ small. subst (λ r. r < due (cursor.done + 1)) (sym (none (cursor.done + 1))) (some_times (is_lost faults link (cursor.done + 1)) (is_repeated faults link (cursor.done + 1)) (due (cursor.done + 1)) (known (cursor.done + 1)) (fresh.skips.next small));
      behind = λ n above. none n;
    }

plain : (again repeated : Bool) → (not again && repeated) ≡ true → (again ≡ false) × (repeated ≡ true)
plain false true e = (refl, refl)
plain false false e = absurd (cc)
plain true repeated e = absurd (cc)

-- a message is due as often as it was received, this time included, where its link goes on
last_time : (again repeated lost : Bool) (received due : ℕ) → (not again && repeated) ≡ false → times_of lost repeated ≡ due → received < due → received ≡ cond again 1 0 → received + 1 ≡ due
last_time true repeated lost received due e known left is = let two : due ≡ 2 = at_most_twice lost repeated due known (omega (arith, left, is)) in omega arith
last_time false true lost received due e known left is = absurd (cc)
last_time false false lost received due e known left is = let one : due ≡ 1 = once lost false due known (omega arith) refl in omega arith

-- one message was received once more, the one that the cursor is at
pub record Turns (faults : Faults) (link : ℕ) (received later due : ℕ → ℕ) (cursor : Cursor) : Type 0 where
  pub known : (n : ℕ) → times faults link n ≡ due n
  pub here : later (cursor.done + 1) ≡ received (cursor.done + 1) + 1
  pub others : (n : ℕ) → n ≢ cursor.done + 1 → later n ≡ received n
  pub small : cursor.done + 1 < 2 ^ 64
  pub stood : StandsAt received due cursor

module _ (faults : Faults) (link : ℕ) (received later due : ℕ → ℕ) (cursor : Cursor) where
  -- it comes once more
  stays : Turns faults link received later due cursor → (not cursor.again && is_repeated faults link (cursor.done + 1)) ≡ true → StandsAt later due (record { done = cursor.done; again = true })
  stays t is =
      let p : (cursor.again ≡ false) × (is_repeated faults link (cursor.done + 1) ≡ true) = plain cursor.again (is_repeated faults link (cursor.done + 1)) is in
      let none : received (cursor.done + 1) ≡ 0 = t.stood.again ∙ ap (λ b. cond b 1 0) p.0 in
      let left : received (cursor.done + 1) < due (cursor.done + 1) = t.stood.next t.small in
      let two : due (cursor.done + 1) ≡ 2 = twice (is_lost faults link (cursor.done + 1)) (is_repeated faults link (cursor.done + 1)) (due (cursor.done + 1)) (t.known (cursor.done + 1)) (omega arith) p.1 in
      let one : later (cursor.done + 1) ≡ 1 = t.here ∙ ap (λ n. n + 1) none in
      record {
        done = λ n low high. t.others n (λ same. absurd (omega arith)) ∙ t.stood.done n low high;
        again = one;
        next = λ small. omega arith;
        behind = λ n above. t.others n (λ same. absurd (omega arith)) ∙ t.stood.behind n above;
      }

  -- it was the last time
  moved : Turns faults link received later due cursor → (not cursor.again && is_repeated faults link (cursor.done + 1)) ≡ false → (new : Cursor) → Skips faults link (cursor.done + 1) new.done → (n : ℕ) → 0 < n → n ≤ new.done → (n ≤ cursor.done) ⊎ ((n ≡ cursor.done + 1) ⊎ (cursor.done + 1 < n)) → later n ≡ due n
  moved t is new skips n low high (inl old) = t.others n (λ same. absurd (omega arith)) ∙ t.stood.done n low old
  moved t is new skips n low high (inr (inl e)) =
      subst (λ m. later m ≡ due m) (sym e)
      (t.here ∙ last_time cursor.again (is_repeated faults link (cursor.done + 1)) (is_lost faults link (cursor.done + 1)) (received (cursor.done + 1)) (due (cursor.done + 1)) is (t.known (cursor.done + 1)) (t.stood.next t.small) t.stood.again)
  moved t is new skips n low high (inr (inr above)) =
      t.others n (λ same. absurd (omega arith)) ∙ t.stood.behind n above ∙ sym (never (is_lost faults link n) (is_repeated faults link n) (due n) (t.known n) (skips.lost n above high))

  moves : Turns faults link received later due cursor → (not cursor.again && is_repeated faults link (cursor.done + 1)) ≡ false → (new : Cursor) → new.again ≡ false → Skips faults link (cursor.done + 1) new.done → StandsAt later due new
  moves t is new over skips =
      let far : cursor.done + 1 ≤ new.done = skips.above in
      let none : (n : ℕ) → new.done < n → later n ≡ 0 = λ n above. t.others n (λ same. absurd (omega arith)) ∙ t.stood.behind n (omega arith) in
      record {
        done = λ n low high. moved t is new skips n low high (three n cursor.done);
        again = none (new.done + 1) (omega arith) ∙ ap (λ b. cond b 1 0) (sym over);
        next = λ small. subst (λ r. r < due (new.done + 1)) (sym (none (new.done + 1) (omega arith))) (some_times (is_lost faults link (new.done + 1)) (is_repeated faults link (new.done + 1)) (due (new.done + 1)) (t.known (new.done + 1)) (skips.next small));
        behind = λ n above. none n (omega arith);
      }

  by_case : Turns faults link received later due cursor → (b : Bool) → (not cursor.again && is_repeated faults link (cursor.done + 1)) ≡ b → (new : Cursor) → FollowsBy b faults link cursor new → StandsAt later due new
  by_case t true is new follows = subst (λ k. StandsAt later due k) (sym follows) (stays t is)
  by_case t false is new follows = moves t is new follows.0 follows.1

  pub stands_after : Turns faults link received later due cursor → (new : Cursor) → Follows faults link cursor new → StandsAt later due new
  stands_after t new follows = by_case t (not cursor.again && is_repeated faults link (cursor.done + 1)) refl new follows
