-- Whether a step may follow, by how far nodes and links have come.
use Rattle.std.proofs.Common.{◌≡◌, ◌↔◌, inl, inr, ℕ, zero, suc, ◌+◌, ◌<◌, ◌≤◌, Bool, true, false, List, [], ◌∷◌, ◌++◌, Some, All, length, take, drop, get_or, slice_get, slice_set, refl, sym, subst, ap, ◌∙◌, if◌then◌else◌, ◌==◌, arith, append-nil}
use Rattle.std.proofs.lemmas.List.{drop_all, drop_more, take_more}
use Rattle.std.proofs.lemmas.List.Elements.{All-weaker}
use Rattle.std.proofs.lemmas.List.{get_or-replicate, length-replicate}
use Rattle.std.proofs.lemmas.Option.{slice_get-get_or}
use Rattle.std.specs.Prelude.{IfOk, OnOk, Ok, Err, replicate, unwrap_or}
use Rattle.std.specs.declared.result.Result.{Result}
use Rattle.gx_lemmas.proofs.Lists.{get-set, get-set-other, length-set}
use Rattle.gx_lemmas.proofs.Numbers.{eqb-of, eqb-swap, same-of}
use Rattle.gx_lemmas.proofs.Options.{some-same}
use Rattle.gx_ids.specs.declared.ids.Node.{Node}
use Rattle.gx_ids.specs.declared.stamp.Stamp.{Stamp}
use Rattle.gx_script.specs.declared.Script.{Script}
use Rattle.gx_store.specs.declared.mark.Mark.{Mark}
use Rattle.gx_store.specs.declared.mark.Mark.TheVariants.{Sent}
use Rattle.gx_store.specs.declared.run.Step.{Step}
use Rattle.gx_store.specs.Journals.{is_same_node}
use Rattle.gx_store.specs.Messages.{IsSending}
use Rattle.gx_store.specs.Ordered.{AreNumbered, AreOrdered, IsAtNode, IsDelivery, IsLink, IsOrderedStep, IsSegment, clock_of, sent_in}
use Rattle.gx_ordered.specs.Links.{AreFiled, IsLong, IsOnLink, IsProgress, IsSentAt, IsSentBefore, IsSentOnLink, MayStand, clocks_in, clocks_sent, link_in, nth_link}
use Rattle.gx_ordered.specs.declared.progress.Progress.{Progress}
use Rattle.gx_store.specs.Refusals.{the_coordinator}
use Rattle.gx_ordered.proofs.Counts.{all-count, clock_of-other, clock_of-same, clocks-last}

-- where a call gave something, what it says of it together
pub all-ok : {A E P Q : Type 0} {R S : A → Type 0} (r : Result A E) → OnOk r P → OnOk r Q → IfOk r R → ((a : A) → P → Q → R a → S a) → IfOk r S
all-ok (Ok a) p q r f = f a p q r
all-ok (Err e) p q r f = tt

-- RECEIPTS
pub delivery-is : (script : Script) (steps : List Step) (progress : Progress) (from to : Node) (number clock : ℕ) (clocks : List ℕ) → IsProgress steps progress → AreFiled steps → IsLink script from to → clocks ≡ link_in progress from to
    → IsSentBefore clocks number clock ↔ IsDelivery script steps clock from to number
delivery-is script steps progress from to number clock clocks far filed link is = (
  λ h. delivered h.0 h.1 h.2 (filed.sent from to h.0 h.2 (ap (λ cs. slice_get cs h.0) (sym same) ∙ h.3)) h.4,
  λ d.
      let s = filed.stands from to d.at d.place number d.told d.sending in
      (s.0, s.1, d.sending.sender.stamp.clock, ap (λ cs. slice_get cs s.0) same ∙ s.2, d.later d.sending.sender d.sending.at),
)
  where
    same : clocks ≡ clocks_sent from to steps
    same = is ∙ far.links from to

    delivered : (before : ℕ) → number ≡ before + 1 → (sent : ℕ) → (h : IsSentAt steps from to before sent) → sent < clock → IsDelivery script steps clock from to number
    delivered before e sent h lt = record {
      link = link;
      told = h.told;
      at = h.step;
      place = h.mark;
      sending = subst (λ (n : ℕ). IsSending steps h.step h.mark from to n h.told) (sym e) h.sending;
      later = λ sender at. subst (λ (n : ℕ). n < clock) (sym h.clock_is ∙ ap (λ (x : Step). x.stamp.clock) (some-same h.sending.sender sender (sym h.sending.at ∙ at))) lt;
    }

-- MESSAGES
on-link : (script : Script) (node : Node) (m : Mark) → IsAtNode script node m → IsSentOnLink node m
on-link script node (Sent to number told) h = elim h [ inl a ↦ inl (a.0, a.1.0) | inr b ↦ inr (b.0.0, b.1) ]
on-link script node m h = tt

pub are-on-links : (script : Script) (node : Node) (ms : List Mark) → All (IsAtNode script node) ms → All (IsSentOnLink node) ms
are-on-links script node ms all = All-weaker _ (IsSentOnLink node) (on-link script node) ms all

pub clock-above : (a b : ℕ) → a < b → 0 < b
clock-above a b h = omega (arith, h)

-- WITH A CLOCK MORE
pub long-clock : (old new : Progress) (stamp : Stamp) → IsLong old → new ≡ record old { clocks = new.clocks } → new.clocks.items ≡ slice_set old.clocks.items stamp.node.0 stamp.clock → IsLong new
long-clock old new stamp long others clocks = record {
  clocks = ap length clocks ∙ length-set old.clocks.items stamp.node.0 stamp.clock ∙ long.clocks;
  to = ap (λ (p : Progress). length p.to.items) others ∙ long.to;
  from = ap (λ (p : Progress). length p.from.items) others ∙ long.from;
}

pub links-clock : (old new : Progress) (f t : Node) → new ≡ record old { clocks = new.clocks } → link_in new f t ≡ link_in old f t
links-clock old new f t others = ap (λ (p : Progress). link_in p f t) others

pub counts-clock : (steps : List Step) (old new : Progress) (node to : Node) → IsProgress steps old → new ≡ record old { clocks = new.clocks } → length (link_in new node to) ≡ sent_in node to steps
counts-clock steps old new node to far others = ap length (links-clock old new node to others ∙ far.links node to) ∙ all-count node to steps

-- A STEP MORE
pub progress-last : (steps : List Step) (s : Step) (old mid new : Progress) → IsProgress steps old → 0 < s.stamp.clock → s.stamp.node.0 < 256
    → mid ≡ record old { clocks = mid.clocks } → mid.clocks.items ≡ slice_set old.clocks.items s.stamp.node.0 s.stamp.clock → IsLong new → new.clocks ≡ mid.clocks
    → ((f t : Node) → link_in new f t ≡ link_in mid f t ++ (if is_same_node f s.stamp.node then clocks_in s.stamp.clock t s.marks else []))
    → IsProgress (steps ++ s ∷ []) new
progress-last steps s old mid new far rising few others clocks long same links = record {
  long = long;
  clocks = λ node inside. ap (λ cs. slice_get cs node.0) items ∙ by_test node inside (node.0 == s.stamp.node.0) refl;
  links = λ f t.
      links f t ∙ ap (λ xs. xs ++ (if is_same_node f s.stamp.node then clocks_in s.stamp.clock t s.marks else [])) (links-clock old mid f t others ∙ far.links f t)
      ∙ ap (λ b. clocks_sent f t steps ++ (if b then clocks_in s.stamp.clock t s.marks else [])) (eqb-swap f.0 s.stamp.node.0) ∙ sym (clocks-last f t steps s);
}
  where
    items : new.clocks.items ≡ slice_set old.clocks.items s.stamp.node.0 s.stamp.clock
    items = ap (λ v. v.items) same ∙ clocks

    by_test : (node : Node) → node.0 < 256 → (b : Bool) → (node.0 == s.stamp.node.0) ≡ b → slice_get (slice_set old.clocks.items s.stamp.node.0 s.stamp.clock) node.0 ≡ Some (clock_of node (steps ++ s ∷ []))
    by_test node inside true is =
        ap (slice_get (slice_set old.clocks.items s.stamp.node.0 s.stamp.clock)) (same-of node.0 s.stamp.node.0 is)
        ∙ get-set old.clocks.items s.stamp.node.0 (clock_of s.stamp.node steps) s.stamp.clock (far.clocks s.stamp.node few)
        ∙ ap (λ n. Some n) (sym (clock_of-same node steps s (eqb-swap s.stamp.node.0 node.0 ∙ is) rising))
    by_test node inside false is =
        get-set-other old.clocks.items s.stamp.node.0 node.0 s.stamp.clock (λ e. other (eqb-of node.0 s.stamp.node.0 e))
        ∙ far.clocks node inside ∙ ap (λ n. Some n) (sym (clock_of-other node steps s (eqb-swap s.stamp.node.0 node.0 ∙ is)))
      where
        other : (node.0 == s.stamp.node.0) ≡ true → ⊥
        other e = apart (sym is ∙ e)
          where
            apart : false ≡ true → ⊥
            apart f = cc

pub ordered-of : (script : Script) (steps : List Step) (s : Step) → MayStand script steps s → AreNumbered s.stamp.node steps [] s.marks → IsOrderedStep script steps s
ordered-of script steps s may numbers = record { rising = may.rising; event = may.event; marks = may.marks; numbers = numbers }

pub stand-of : (script : Script) (steps : List Step) (s : Step) → IsOrderedStep script steps s → MayStand script steps s
stand-of script steps s h = record { rising = h.rising; event = h.event; marks = h.marks }

-- THE STEPS OF A RUN
module _ (script : Script) (steps : List Step) (k : ℕ) (s : Step) (inside : k < length steps) (is : s ≡ get_or steps k s) where
  left : drop k steps ≡ s ∷ drop (k + 1) steps
  left = drop_more steps k s inside ∙ ap (λ x. x ∷ drop (k + 1) steps) (sym is)

  pub step-next : take k steps ++ s ∷ [] ≡ take (k + 1) steps
  step-next = ap (λ x. take k steps ++ x ∷ []) is ∙ sym (take_more steps k s inside)

  steps-to : AreOrdered script (take k steps) (drop k steps) → IsOrderedStep script (take k steps) s × AreOrdered script (take (k + 1) steps) (drop (k + 1) steps)
  steps-to h =
      let parts = subst (AreOrdered script (take k steps)) left h in
      (parts.0, subst (λ ss. AreOrdered script ss (drop (k + 1) steps)) step-next parts.1)

  steps-from : IsOrderedStep script (take k steps) s → AreOrdered script (take (k + 1) steps) (drop (k + 1) steps) → AreOrdered script (take k steps) (drop k steps)
  steps-from o h = subst (AreOrdered script (take k steps)) (sym left) (o, subst (λ ss. AreOrdered script ss (drop (k + 1) steps)) (sym step-next) h)

  pub ordered-next : {W : Type 0} → IsOrderedStep script (take k steps) s → AreOrdered script (take k steps) (drop k steps) ↔ W → AreOrdered script (take (k + 1) steps) (drop (k + 1) steps) ↔ W
  ordered-next o w = (λ h. w.0 (steps-from o h), λ x. (steps-to (w.1 x)).1)

  pub ordered-stop : {W : Type 0} → (IsOrderedStep script (take k steps) s → ⊥) → AreOrdered script (take k steps) (drop k steps) ↔ W → W → ⊥
  ordered-stop not w x = not (steps-to (w.1 x)).0

pub ordered-end : (script : Script) (steps : List Step) (k : ℕ) {W : Type 0} → length steps ≤ k → AreOrdered script (take k steps) (drop k steps) ↔ W → W
ordered-end script steps k past w = w.0 (subst (AreOrdered script (take k steps)) (sym (drop_all k steps past)) tt)

-- NOTHING WAS DONE
nth-none : (n k : ℕ) → nth_link (replicate n []) k ≡ []
nth-none zero k = refl
nth-none (suc n) zero = refl
nth-none (suc n) (suc k) = nth-none n k

pub none-progress : (progress : Progress) → progress.clocks.items ≡ replicate 256 0 → progress.to.items ≡ replicate 256 [] → progress.from.items ≡ replicate 256 [] → IsProgress [] progress
none-progress progress clocks to from = record {
  long = record { clocks = ap length clocks ∙ length-replicate {A = ℕ} 256 0; to = ap length to ∙ length-replicate {A = List ℕ} 256 []; from = ap length from ∙ length-replicate {A = List ℕ} 256 [] };
  clocks = λ node inside. ap (λ cs. slice_get cs node.0) clocks ∙ first node inside;
  links = λ f t. by_tests f t (is_same_node f the_coordinator) (is_same_node t the_coordinator);
}
  where
    first : (node : Node) → node.0 < 256 → (let zeros : List ℕ = replicate 256 0 in slice_get zeros node.0 ≡ Some 0)
    first node inside =
        let zeros : List ℕ = replicate 256 0 in
        slice_get-get_or zeros node.0 0 (subst (λ n. node.0 < n) (sym (length-replicate {A = ℕ} 256 0)) inside) ∙ ap (λ (n : ℕ). Some n) (get_or-replicate {A = ℕ} 256 node.0 0 0 inside)

    by_tests : (f t : Node) (b d : Bool) → (if b then unwrap_or (slice_get progress.to.items t.0) [] else (if d then unwrap_or (slice_get progress.from.items f.0) [] else [])) ≡ []
    by_tests f t true d = ap (λ cs. unwrap_or (slice_get cs t.0) []) to ∙ nth-none 256 t.0
    by_tests f t false true = ap (λ cs. unwrap_or (slice_get cs f.0) []) from ∙ nth-none 256 f.0
    by_tests f t false false = refl
