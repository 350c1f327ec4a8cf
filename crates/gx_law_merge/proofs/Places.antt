-- What stands at a place of a link.
use Rattle.std.proofs.Common.{◌≡◌, ◌≤◌, ◌<◌, ℕ, zero, suc, ◌+◌, ◌==◌, List, [], ◌∷◌, ◌++◌, Some, None, Bool, true, false, if◌then◌else◌, refl, sym, subst, ap, ◌∙◌, arith, length, slice_get}
use Rattle.std.proofs.lemmas.Bool.Decides.{nat_tests}
use Rattle.std.proofs.lemmas.List.{append_assoc}
use Rattle.gx_lemmas.proofs.Lists.{get-append}
use Rattle.gx_lemmas.proofs.Options.{some-same}
use Rattle.gx_ids.specs.declared.ids.Node.{Node}
use Rattle.gx_msg.specs.declared.message.Envelope.{Envelope}
use Rattle.gx_store.specs.declared.mark.Mark.{Mark}
use Rattle.gx_store.specs.declared.mark.Mark.TheVariants.{Sent}
use Rattle.gx_store.specs.declared.run.Step.{Step}
use Rattle.gx_store.specs.Journals.{is_same_node}
use Rattle.gx_store.specs.Ordered.{sent_count}
use Rattle.gx_law_order.specs.Lists.{Each}
use Rattle.gx_law_order.proofs.Lists.{each_append}
use Rattle.gx_law_merge.specs.Apart.{at_place, envelope_of, sent_in_step, sent_to}
use Rattle.gx_law_merge.proofs.Rising.{IsFrom}

-- PLACES
-- a longer link has the same
pub place-kept : (xs ys : List Envelope) (place : ℕ) (e : Envelope) → at_place xs place ≡ Some e → at_place (xs ++ ys) place ≡ Some e
place-kept xs ys zero e at = absurd (cc)
place-kept xs ys (suc k) e at = get-append xs ys k e at

abbrev IsSentFrom : ℕ → Envelope → Type 0
IsSentFrom clock e = clock ≤ e.clock

each-at : (P : Envelope → Type 0) (xs : List Envelope) (k : ℕ) (e : Envelope) → Each P xs → slice_get xs k ≡ Some e → P e
each-at P [] k e all at = absurd (cc)
each-at P (x ∷ xs) zero e all at = subst P (some-same x e at) all.0
each-at P (x ∷ xs) (suc k) e all at = each-at P xs k e all.1 at

-- what was sent before the others stands among the first
first-part : (xs ys : List Envelope) (k clock : ℕ) (e : Envelope) → slice_get (xs ++ ys) k ≡ Some e → Each (IsSentFrom clock) ys → e.clock < clock → slice_get xs k ≡ Some e
first-part [] ys k clock e at later low = absurd (apart e.clock clock low (each-at (IsSentFrom clock) ys k e later at))
  where
    apart : (a b : ℕ) → a < b → b ≤ a → ⊥
    apart a b h g = omega arith
first-part (x ∷ xs) ys zero clock e at later low = at
first-part (x ∷ xs) ys (suc k) clock e at later low = first-part xs ys k clock e at later low

pub place-first : (xs ys : List Envelope) (place clock : ℕ) (e : Envelope) → at_place (xs ++ ys) place ≡ Some e → Each (IsSentFrom clock) ys → e.clock < clock → at_place xs place ≡ Some e
place-first xs ys zero clock e at later low = absurd (cc)
place-first xs ys (suc k) clock e at later low = first-part xs ys k clock e at later low

-- one envelope more
get-last : (es : List Envelope) (e : Envelope) (k : ℕ) → slice_get (es ++ e ∷ []) k ≡ (if length es == k then Some e else slice_get es k)
get-last [] e zero = refl
get-last [] e (suc k) = sym (ap (λ (b : Bool). if b then Some e else None) (apart k))
  where
    apart : (k : ℕ) → (zero == suc k) ≡ false
    apart k = grind (arith, nat_tests)
get-last (x ∷ es) e zero = sym (ap (λ (b : Bool). if b then Some e else Some x) (apart (length es)))
  where
    apart : (k : ℕ) → (suc k == zero) ≡ false
    apart k = grind (arith, nat_tests)
get-last (x ∷ es) e (suc k) = get-last es e k ∙ ap (λ (b : Bool). if b then Some e else slice_get es k) (same (length es) k)
  where
    same : (a b : ℕ) → (a == b) ≡ (suc a == suc b)
    same a b = grind (arith, nat_tests)

pub place-last : (es : List Envelope) (e : Envelope) (number place : ℕ) → number ≡ length es + 1 → at_place (es ++ e ∷ []) place ≡ (if number == place then Some e else at_place es place)
place-last es e number zero is = sym (ap (λ (b : Bool). if b then Some e else None) (not-none number (length es) is))
  where
    not-none : (n a : ℕ) → n ≡ a + 1 → (n == zero) ≡ false
    not-none n a h = grind (arith, nat_tests)
place-last es e number (suc k) is = get-last es e k ∙ ap (λ (b : Bool). if b then Some e else slice_get es k) (same number (length es) k is)
  where
    same : (n a k : ℕ) → n ≡ a + 1 → (a == k) ≡ (n == suc k)
    same n a k h = grind (arith, nat_tests)

-- WHAT STEPS SEND
pub sent-append : (to : Node) (xs ys : List Step) → sent_to to (xs ++ ys) ≡ sent_to to xs ++ sent_to to ys
sent-append to [] ys = refl
sent-append to (x ∷ xs) ys = ap (λ es. sent_in_step to x.stamp.clock x.marks ++ es) (sent-append to xs ys) ∙ sym (append_assoc (sent_in_step to x.stamp.clock x.marks) (sent_to to xs) (sent_to to ys))

step-from : (to : Node) (low clock : ℕ) (ms : List Mark) → low ≤ clock → Each (IsSentFrom low) (sent_in_step to clock ms)
step-from to low clock [] h = tt
step-from to low clock (Sent t number message ∷ ms) h = by_test (is_same_node t to) (step-from to low clock ms h)
  where
    by_test : (b : Bool) → Each (IsSentFrom low) (sent_in_step to clock ms) → Each (IsSentFrom low) (if b then envelope_of clock number message ∷ sent_in_step to clock ms else sent_in_step to clock ms)
    by_test true rest = (h, rest)
    by_test false rest = rest
step-from to low clock (m ∷ ms) h = step-from to low clock ms h

pub sent-from : (to : Node) (low : ℕ) (ss : List Step) → Each (IsFrom low) ss → Each (IsSentFrom low) (sent_to to ss)
sent-from to low [] all = tt
sent-from to low (s ∷ ss) all = each_append (IsSentFrom low) (sent_in_step to s.stamp.clock s.marks) (sent_to to ss) (step-from to low s.stamp.clock s.marks all.0) (sent-from to low ss all.1)

pub step-count : (to : Node) (clock : ℕ) (ms : List Mark) → length (sent_in_step to clock ms) ≡ sent_count to ms
step-count to clock [] = refl
step-count to clock (Sent t number message ∷ ms) = by_test (is_same_node t to) (step-count to clock ms)
  where
    next : (a b : ℕ) → a ≡ b → suc a ≡ b + 1
    next a b e = omega arith

    by_test : (b : Bool) → length (sent_in_step to clock ms) ≡ sent_count to ms → length (if b then envelope_of clock number message ∷ sent_in_step to clock ms else sent_in_step to clock ms) ≡ (if b then sent_count to ms + 1 else sent_count to ms)
    by_test true e = next (length (sent_in_step to clock ms)) (sent_count to ms) e
    by_test false e = e
step-count to clock (m ∷ ms) = step-count to clock ms
