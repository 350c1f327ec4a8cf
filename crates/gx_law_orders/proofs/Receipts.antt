-- Where each step does what was enabled, no message is received more than twice.
use Rattle.std.proofs.Common.{◌≡◌, ◌≤◌, ◌<◌, ℕ, zero, suc, ◌+◌, ◌*◌, ◌==◌, nat_lt, Bool, true, false, not, ◌&&◌, if◌then◌else◌, cond, List, [], ◌∷◌, ◌++◌, length, Some, None, inl, inr, refl, sym, subst, ap, ◌∙◌, arith, eqb, append-nil}
use Rattle.std.proofs.lemmas.Bool.{eqb-true}
use Rattle.std.proofs.lemmas.Bool.Decides.{nat_tests}
use Rattle.std.proofs.lemmas.List.{append_assoc}
use Rattle.std.specs.Prelude.{filter, map, Contains}
use Rattle.std.specs.List.{flat_map, list_any, range_with_len}
use Rattle.gx_ids.specs.declared.ids.Gxid.{Gxid}
use Rattle.gx_ids.specs.declared.ids.Node.{Node}
use Rattle.gx_script.specs.declared.Line.{Line}
use Rattle.gx_script.specs.declared.Script.{Script}
use Rattle.gx_waits.proofs.Members.{Has, has_from_contains}
use Rattle.gx_store.specs.Ordered.{sent_in}
use Rattle.gx_store.specs.Points.{marks_in}
use Rattle.gx_store.specs.Refusals.{the_coordinator}
use Rattle.gx_store.specs.Schedule.{at_segment, deliveries, enabled, ends, first_of, gxids_of, is_fault_of, is_graph_awaited, is_left, is_next, is_quiet, is_receipt_of, is_to_end, left_on, may_resend, received_count, resends, resumptions, rounds, segments_of, sessions_of, starts}
use Rattle.gx_store.specs.declared.event.Event.{Event}
use Rattle.gx_store.specs.declared.event.Event.TheVariants as event
use Rattle.gx_store.specs.declared.run.Step.{Step}
use Rattle.gx_law_order.proofs.Lists.{each_append, each_flat, each_map}
use Rattle.gx_law_order.proofs.Sent.{sent_in-last}
use Rattle.gx_law_order.specs.Lists.{Each}
use Rattle.gx_law_runs.proofs.Enabled.{each-every, each-first, each-passing, each-range}
use Rattle.gx_law_orders.specs.Deliveries.{AreEnabled, is_receipt_on, receipts_on}
use Rattle.gx_law_orders.proofs.Weights.{weight, weight-less}

-- A TEST'S COUNT
pub count-push : {A : Type 0} (p : A → Bool) (xs : List A) (x : A) → length (filter p (xs ++ x ∷ [])) ≡ length (filter p xs) + cond (p x) 1 0
count-push p [] x = by_test (p x)
  where
    by_test : (b : Bool) → length (cond b (x ∷ []) []) ≡ 0 + cond b 1 0
    by_test true = refl
    by_test false = refl
count-push p (y ∷ ys) x = by_test (p y) (count-push p ys x)
  where
    by_test : (b : Bool) → length (filter p (ys ++ x ∷ [])) ≡ length (filter p ys) + cond (p x) 1 0 → length (cond b (y ∷ filter p (ys ++ x ∷ [])) (filter p (ys ++ x ∷ []))) ≡ length (cond b (y ∷ filter p ys) (filter p ys)) + cond (p x) 1 0
    by_test true e = next _ _ _ e
      where
        next : (a b c : ℕ) → a ≡ b + c → suc a ≡ suc b + c
        next a b c e = omega arith
    by_test false e = e

-- SUMS
weight-same : (f g : ℕ → ℕ) → ((k : ℕ) → f k ≡ g k) → (n : ℕ) → weight f n ≡ weight g n
weight-same f g e zero = refl
weight-same f g e (suc n) = ap (λ a. a + weight f n) (e (suc n)) ∙ ap (λ b. g (suc n) + b) (weight-same f g e n)

weight-twice : (f : ℕ → ℕ) → ((k : ℕ) → f k ≤ 2) → (n : ℕ) → weight f n ≤ 2 * n
weight-twice f e zero = omega arith
weight-twice f e (suc n) = more (f (suc n)) (weight f n) n (e (suc n)) (weight-twice f e n)
  where
    more : (a b c : ℕ) → a ≤ 2 → b ≤ 2 * c → a + b ≤ 2 * suc c
    more a b c x y = omega arith

-- one of a list
one-of : {A : Type 0} (P : A → Type 0) (x : A) (xs : List A) → Each P xs → Has x xs → P x
one-of P x [] e h = absurd h
one-of P x (y ∷ ys) e (inl same) = subst P same e.0
one-of P x (y ∷ ys) e (inr h) = one-of P x ys e.1 h

-- WHAT IS ENABLED
-- a delivery is of a message that was sent and is still owed
abbrev pub IsOwed : Script → List Step → Event → Type 0
IsOwed script steps (event.Receive from to number) = (is_left script steps from to number ≡ true) × (1 ≤ number) × (number ≤ sent_in from to steps)
IsOwed script steps _ = Unit {0}

module _ (script : Script) (steps : List Step) where
  abbrev Owed : Event → Type 0
  Owed = IsOwed script steps

  left-owed : (from to : Node) → Each Owed (left_on script steps from to)
  left-owed from to =
      each_map Owed (event.Receive from to) (filter (is_left script steps from to) (range_with_len 1 (sent_in from to steps)))
      (each-passing (λ n. Owed (event.Receive from to n)) (is_left script steps from to) (range_with_len 1 (sent_in from to steps))
      (each-range (λ n. is_left script steps from to n ≡ true → Owed (event.Receive from to n)) 1 (sent_in from to steps) (λ k l h e. (e, l, up-to k (sent_in from to steps) h))))
    where
      up-to : (k n : ℕ) → k < 1 + n → k ≤ n
      up-to k n h = omega arith

  resumed-owed : (node : Node) → Each Owed (resumptions (marks_in steps) node)
  resumed-owed node = each-first Owed _ (each_map Owed (event.Resume node) _ (each-every (λ g. Unit {0}) (λ g. tt) _))

  segment-owed : (segment : Node) → Each Owed (at_segment script steps segment)
  segment-owed segment = each-first Owed _ (each_append Owed (resumptions (marks_in steps) segment) _ (resumed-owed segment) (each-first Owed _ (left-owed the_coordinator segment)))

  resends-owed : (segment : Node) → Each Owed (resends script steps segment)
  resends-owed segment = by_quiet (is_quiet script steps segment)
    where
      graph : (b : Bool) → Each Owed (if b then event.Resend segment None ∷ [] else [])
      graph true = (tt, tt)
      graph false = tt

      both : Each Owed (map (λ g. event.Resend segment (Some g)) (filter (may_resend steps segment) (gxids_of (marks_in steps))) ++ (if is_graph_awaited steps segment then event.Resend segment None ∷ [] else []))
      both =
          each_append Owed _ _ (each_map Owed (λ g. event.Resend segment (Some g)) (filter (may_resend steps segment) (gxids_of (marks_in steps))) (each-every (λ g. Unit {0}) (λ g. tt) _))
          (graph (is_graph_awaited steps segment))

      by_quiet : (b : Bool) →
          Each Owed (if b then map (λ g. event.Resend segment (Some g)) (filter (may_resend steps segment) (gxids_of (marks_in steps))) ++ (if is_graph_awaited steps segment then event.Resend segment None ∷ [] else []) else [])
      by_quiet true = both
      by_quiet false = tt

  rounds-owed : Each Owed (rounds script steps)
  rounds-owed = by_test _
    where
      by_test : (b : Bool) → Each Owed (if b then event.Round ∷ [] else [])
      by_test true = (tt, tt)
      by_test false = tt

  receipts-here-owed : Each Owed (flat_map (λ segment. first_of (left_on script steps segment the_coordinator)) (segments_of script))
  receipts-here-owed = each_flat Owed _ (segments_of script) (each-every _ (λ segment. each-first Owed _ (left-owed segment the_coordinator)) (segments_of script))

  at-segments-owed : Each Owed (flat_map (at_segment script steps) (segments_of script))
  at-segments-owed = each_flat Owed _ (segments_of script) (each-every _ segment-owed (segments_of script))

  again-owed : Each Owed (flat_map (resends script steps) (segments_of script))
  again-owed = each_flat Owed _ (segments_of script) (each-every _ resends-owed (segments_of script))

  starts-owed : Each Owed (starts script steps)
  starts-owed = each_map Owed (λ (line : Line). event.Start line.session) (filter (is_next steps) script.lines) (each-every (λ (line : Line). Unit {0}) (λ (line : Line). tt) _)

  ends-owed : Each Owed (ends script steps)
  ends-owed = each_map Owed event.End (filter (is_to_end script steps) (sessions_of script)) (each-every (λ s. Unit {0}) (λ s. tt) _)

  enabled-owed : Each Owed (enabled script steps)
  enabled-owed =
      each_append Owed _ (rounds script steps)
      (each_append Owed _ (ends script steps)
      (each_append Owed _ (starts script steps)
      (each_append Owed _ _ (each_append Owed _ _ (each_append Owed _ _ receipts-here-owed at-segments-owed) (resumed-owed the_coordinator)) again-owed) starts-owed) ends-owed) rounds-owed

  owed : (e : Event) → Contains (enabled script steps) e → IsOwed script steps e
  owed e c = one-of Owed e (enabled script steps) enabled-owed (has_from_contains e (enabled script steps) c)

at-most-two : (script : Script) (from to : Node) (number : ℕ) → deliveries script from to number ≤ 2
at-most-two script from to number = by_test (list_any (λ fault. is_fault_of from to number fault && not fault.repeat) script.faults) (list_any (is_fault_of from to number) script.faults)
  where
    by_test : (a b : Bool) → (if a then 0 else (if b then 2 else 1)) ≤ 2
    by_test true b = omega arith
    by_test false true = omega arith
    by_test false false = omega arith

-- A LINK
module _ (script : Script) (from to : Node) where
  abbrev came : List Step → ℕ → ℕ
  came steps n = received_count from to n steps

  -- all that came has one of the first numbers, none more than twice
  record IsCounted (most : ℕ) (steps : List Step) : Type 0 where
    all : receipts_on from to steps ≤ weight (came steps) most
    twice : (n : ℕ) → came steps n ≤ 2

  came-push : (steps : List Step) (s : Step) (n : ℕ) → came (steps ++ s ∷ []) n ≡ came steps n + cond (is_receipt_of from to n s.event) 1 0
  came-push steps s n = count-push (λ (step : Step). is_receipt_of from to n step.event) steps s

  receipts-push : (steps : List Step) (s : Step) → receipts_on from to (steps ++ s ∷ []) ≡ receipts_on from to steps + cond (is_receipt_on from to s.event) 1 0
  receipts-push steps s = count-push (λ (step : Step). is_receipt_on from to step.event) steps s

  -- a step that is none of the link's
  other-counted : (most : ℕ) (steps : List Step) (s : Step) → is_receipt_on from to s.event ≡ false → ((n : ℕ) → is_receipt_of from to n s.event ≡ false) → IsCounted most steps → IsCounted most (steps ++ s ∷ [])
  other-counted most steps s on of k = record { all = subst (λ a. a ≤ weight (came (steps ++ s ∷ [])) most) (sym none) (subst (λ a. receipts_on from to steps ≤ a) (sym (weight-same _ _ same most)) k.all); twice = λ n. subst (λ a. a ≤ 2) (sym (same n)) (k.twice n) }
    where
      nothing : (a : ℕ) → a + 0 ≡ a
      nothing a = omega arith

      none : receipts_on from to (steps ++ s ∷ []) ≡ receipts_on from to steps
      none = receipts-push steps s ∙ ap (λ b. receipts_on from to steps + cond b 1 0) on ∙ nothing _

      same : (n : ℕ) → came (steps ++ s ∷ []) n ≡ came steps n
      same n = came-push steps s n ∙ ap (λ b. came steps n + cond b 1 0) (of n) ∙ nothing _

  -- a receipt of a message that is still owed
  own-counted : (most : ℕ) (steps : List Step) (s : Step) (number : ℕ) → s.event ≡ event.Receive from to number → IsOwed script steps (event.Receive from to number) → sent_in from to steps ≤ most → IsCounted most steps → IsCounted most (steps ++ s ∷ [])
  own-counted most steps s number is o up k = record { all = all; twice = twice }
    where
      eqb-same : (a : ℕ) → eqb a a ≡ true
      eqb-same a = grind (arith, nat_tests)

      on : is_receipt_on from to s.event ≡ true
      on = ap (is_receipt_on from to) is ∙ both _ _ (eqb-same from.0) (eqb-same to.0)
        where
          both : (a b : Bool) → a ≡ true → b ≡ true → (a && b) ≡ true
          both a b e f = grind arith

      of : (n : ℕ) → is_receipt_of from to n s.event ≡ (number == n)
      of n = ap (is_receipt_of from to n) is ∙ three _ _ (number == n) (eqb-same from.0) (eqb-same to.0)
        where
          three : (a b c : Bool) → a ≡ true → b ≡ true → (a && (b && c)) ≡ c
          three a b c e f = grind arith

      below : came steps number < 2
      below = under _ _ o.0 (at-most-two script from to number)
        where
          under : (a b : ℕ) → nat_lt a b ≡ true → b ≤ 2 → a < 2
          under a b e l = grind (arith, nat_tests)

      twice : (n : ℕ) → came (steps ++ s ∷ []) n ≤ 2
      twice n = subst (λ a. a ≤ 2) (sym (came-push steps s n ∙ ap (λ b. came steps n + cond b 1 0) (of n))) (by_test (number == n) refl)
        where
          by_test : (b : Bool) → (number == n) ≡ b → came steps n + cond b 1 0 ≤ 2
          by_test true e = subst (λ m. came steps m + 1 ≤ 2) (eqb-true number n e) (one _ below)
            where
              one : (a : ℕ) → a < 2 → a + 1 ≤ 2
              one a l = omega arith
          by_test false e = plus _ (k.twice n)
            where
              plus : (a : ℕ) → a ≤ 2 → a + 0 ≤ 2
              plus a l = omega arith

      here : came steps number + 1 ≤ came (steps ++ s ∷ []) number
      here = subst (λ a. came steps number + 1 ≤ a) (sym (came-push steps s number ∙ ap (λ b. came steps number + cond b 1 0) (of number ∙ eqb-same number))) (same _)
        where
          same : (a : ℕ) → a ≤ a
          same a = omega arith

      others : (n : ℕ) → eqb n number ≡ false → came steps n ≡ came (steps ++ s ∷ []) n
      others n e = sym (came-push steps s n ∙ ap (λ b. came steps n + cond b 1 0) (of n ∙ flipped n number e) ∙ nothing _)
        where
          nothing : (a : ℕ) → a + 0 ≡ a
          nothing a = omega arith

          flipped : (a b : ℕ) → eqb a b ≡ false → eqb b a ≡ false
          flipped a b e = grind (arith, nat_tests)

      all : receipts_on from to (steps ++ s ∷ []) ≤ weight (came (steps ++ s ∷ [])) most
      all = subst (λ a. a ≤ weight (came (steps ++ s ∷ [])) most) (sym (receipts-push steps s ∙ ap (λ b. receipts_on from to steps + cond b 1 0) on))
          (joined _ _ _ k.all (weight-less (came (steps ++ s ∷ [])) (came steps) number others here o.1 most (through _ _ _ o.2 up)))
        where
          joined : (a b c : ℕ) → a ≤ b → b + 1 ≤ c → a + 1 ≤ c
          joined a b c l h = omega arith

          through : (a b c : ℕ) → a ≤ b → b ≤ c → a ≤ c
          through a b c l h = omega arith

  step-counted : (most : ℕ) (steps : List Step) (s : Step) → IsOwed script steps s.event → sent_in from to steps ≤ most → IsCounted most steps → IsCounted most (steps ++ s ∷ [])
  step-counted most steps s o up k = by_event s.event refl o
    where
      quiet : (e : Event) → s.event ≡ e → is_receipt_on from to e ≡ false → ((n : ℕ) → is_receipt_of from to n e ≡ false) → IsCounted most (steps ++ s ∷ [])
      quiet e is on of = other-counted most steps s (ap (is_receipt_on from to) is ∙ on) (λ n. ap (is_receipt_of from to n) is ∙ of n) k

      by_link : (f t : Node) (number : ℕ) → s.event ≡ event.Receive f t number → IsOwed script steps (event.Receive f t number) → (a b : Bool) → eqb f.0 from.0 ≡ a → eqb t.0 to.0 ≡ b → IsCounted most (steps ++ s ∷ [])
      by_link f t number is o true true x y =
          own-counted most steps s number (is ∙ ap (λ z. event.Receive z t number) (same-node f from x) ∙ ap (λ z. event.Receive from z number) (same-node t to y))
          (subst (λ z. IsOwed script steps (event.Receive from z number)) (same-node t to y) (subst (λ z. IsOwed script steps (event.Receive z t number)) (same-node f from x) o)) up k
        where
          same-node : (p q : Node) → eqb p.0 q.0 ≡ true → p ≡ q
          same-node p q e = ap (λ n. let r : Node = record { 0 = n } in r) (eqb-true p.0 q.0 e)
      by_link f t number is o true false x y = quiet (event.Receive f t number) is (second _ _ x y) (λ n. second-of n _ _ x y)
        where
          second : (a b : Bool) → a ≡ true → b ≡ false → (a && b) ≡ false
          second a b e g = grind arith

          second-of : (n : ℕ) (a b : Bool) → a ≡ true → b ≡ false → (a && (b && (number == n))) ≡ false
          second-of n a b e g = grind arith
      by_link f t number is o false b x y = quiet (event.Receive f t number) is (first _ _ x) (λ n. first _ _ x)
        where
          first : (a c : Bool) → a ≡ false → (a && c) ≡ false
          first a c e = grind arith

      by_event : (e : Event) → s.event ≡ e → IsOwed script steps e → IsCounted most (steps ++ s ∷ [])
      by_event (event.Receive f t number) is o = by_link f t number is o (eqb f.0 from.0) (eqb t.0 to.0) refl refl
      by_event (event.Resume node g) is o = quiet (event.Resume node g) is refl (λ n. refl)
      by_event (event.Start session) is o = quiet (event.Start session) is refl (λ n. refl)
      by_event (event.End session) is o = quiet (event.End session) is refl (λ n. refl)
      by_event (event.Resend segment g) is o = quiet (event.Resend segment g) is refl (λ n. refl)
      by_event event.Round is o = quiet event.Round is refl (λ n. refl)
      by_event (event.Restart node) is o = quiet (event.Restart node) is refl (λ n. refl)

  steps-counted : (most : ℕ) (before steps : List Step) → AreEnabled script before steps → sent_in from to (before ++ steps) ≤ most → IsCounted most before → IsCounted most (before ++ steps)
  steps-counted most before [] e up k = subst (IsCounted most) (sym (append-nil before)) k
  steps-counted most before (s ∷ ss) e up k =
      subst (IsCounted most) (append_assoc before (s ∷ []) ss)
      (steps-counted most (before ++ s ∷ []) ss e.1 (subst (λ xs. sent_in from to xs ≤ most) (sym (append_assoc before (s ∷ []) ss)) up) (step-counted most before s (owed script before s.event e.0) (earlier before (s ∷ ss) up) k))
    where
      earlier : (xs ys : List Step) → sent_in from to (xs ++ ys) ≤ most → sent_in from to xs ≤ most
      earlier xs ys l = through _ _ _ (sent-grows xs ys) l
        where
          through : (a b c : ℕ) → a ≤ b → b ≤ c → a ≤ c
          through a b c l h = omega arith

          sent-grows : (xs ys : List Step) → sent_in from to xs ≤ sent_in from to (xs ++ ys)
          sent-grows [] ys = omega arith
          sent-grows (x ∷ xs) ys = grind (arith, nat_tests, sent-grows xs ys)

  pub receipts-few : (steps : List Step) → AreEnabled script [] steps → receipts_on from to steps ≤ 2 * sent_in from to steps
  receipts-few steps e = let k = steps-counted (sent_in from to steps) [] steps e (same _) new in through _ _ _ k.all (weight-twice (came steps) k.twice (sent_in from to steps))
    where
      same : (a : ℕ) → a ≤ a
      same a = omega arith

      new : IsCounted (sent_in from to steps) []
      new = record { all = least _; twice = λ n. least 2 }
        where
          least : (a : ℕ) → 0 ≤ a
          least a = omega arith

      through : (a b c : ℕ) → a ≤ b → b ≤ c → a ≤ c
      through a b c l h = omega arith
