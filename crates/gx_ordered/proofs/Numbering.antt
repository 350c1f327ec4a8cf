-- The marks of a step, one by one: their numbers, and when what they send was sent.
use Rattle.std.proofs.Common.{◌≡◌, ◌↔◌, ℕ, ◌+◌, ◌<◌, ◌≤◌, Bool, true, false, List, [], ◌∷◌, ◌++◌, length, take, drop, get_or, refl, sym, subst, ap, ◌∙◌, if◌then◌else◌, arith, append-nil, length-append}
use Rattle.std.proofs.lemmas.List.{append_assoc, drop_all, drop_more, take_more}
use Rattle.gx_lemmas.proofs.Numbers.{eqb-self}
use Rattle.gx_ids.specs.declared.ids.Node.{Node}
use Rattle.gx_store.specs.declared.mark.Mark.{Mark}
use Rattle.gx_store.specs.declared.mark.Mark.TheVariants.{Sent}
use Rattle.gx_store.specs.declared.run.Step.{Step}
use Rattle.gx_store.specs.Journals.{is_same_node}
use Rattle.gx_store.specs.Ordered.{AreNumbered, sent_count, sent_in}
use Rattle.gx_ordered.specs.Links.{HasNext, clocks_in}
use Rattle.gx_ordered.proofs.Counts.{clocks-count, clocks_in-append}

-- by what stands at a link so far
pub whole-link : (b : Bool) (xs : List ℕ) → xs ≡ xs ++ (if b then [] else [])
whole-link true xs = sym (append-nil xs)
whole-link false xs = sym (append-nil xs)

pub link-next : (b : Bool) (old mid new xs ys zs : List ℕ) → mid ≡ old ++ (if b then xs else []) → new ≡ mid ++ (if b then ys else []) → zs ≡ xs ++ ys → new ≡ old ++ (if b then zs else [])
link-next true old mid new xs ys zs m n z = n ∙ ap (λ l. l ++ ys) m ∙ append_assoc old xs ys ∙ ap (λ l. old ++ l) (sym z)
link-next false old mid new xs ys zs m n z = n ∙ append-nil mid ∙ m

pub clocks-next : (clock : ℕ) (to : Node) (ms : List Mark) (k : ℕ) (m : Mark) → k < length ms → m ≡ get_or ms k m → clocks_in clock to (take (k + 1) ms) ≡ clocks_in clock to (take k ms) ++ clocks_in clock to (m ∷ [])
clocks-next clock to ms k m inside is =
    ap (clocks_in clock to) (take_more ms k m inside ∙ ap (λ x. take k ms ++ x ∷ []) (sym is)) ∙ clocks_in-append clock to (take k ms) (m ∷ [])

pub own-count : (node : Node) (clock : ℕ) (to : Node) (mid old : List ℕ) (front : List Mark) (base : ℕ) → mid ≡ old ++ (if is_same_node node node then clocks_in clock to front else []) → length old ≡ base
    → length mid ≡ base + sent_count to front
own-count node clock to mid old front base m l =
    ap length (m ∙ ap (λ b. old ++ (if b then clocks_in clock to front else [])) (eqb-self node.0)) ∙ length-append old (clocks_in clock to front)
    ∙ ap (λ n. n + length (clocks_in clock to front)) l ∙ ap (λ n. base + n) (clocks-count clock to front)

-- numbers
pub next-same : (f g : Node → ℕ) → ((to : Node) → f to ≡ g to) → (m : Mark) → HasNext f m → HasNext g m
next-same f g same (Sent to number told) h = h ∙ ap (λ n. n + 1) (same to)
next-same f g same m h = tt

cons-to : (node : Node) (steps : List Step) (earlier : List Mark) (m : Mark) (ms : List Mark) → AreNumbered node steps earlier (m ∷ ms)
    → HasNext (λ to. sent_in node to steps + sent_count to earlier) m × AreNumbered node steps (earlier ++ m ∷ []) ms
cons-to node steps earlier (Sent to number told) ms h = (h.0, h.1)
cons-to node steps earlier m ms h = (tt, h)

cons-from : (node : Node) (steps : List Step) (earlier : List Mark) (m : Mark) (ms : List Mark) → HasNext (λ to. sent_in node to steps + sent_count to earlier) m
    → AreNumbered node steps (earlier ++ m ∷ []) ms → AreNumbered node steps earlier (m ∷ ms)
cons-from node steps earlier (Sent to number told) ms n h = (n, h)
cons-from node steps earlier m ms n h = h

module _ (node : Node) (steps : List Step) (ms : List Mark) (k : ℕ) (m : Mark) (inside : k < length ms) (is : m ≡ get_or ms k m) where
  left : drop k ms ≡ m ∷ drop (k + 1) ms
  left = drop_more ms k m inside ∙ ap (λ x. x ∷ drop (k + 1) ms) (sym is)

  next : take k ms ++ m ∷ [] ≡ take (k + 1) ms
  next = ap (λ x. take k ms ++ x ∷ []) is ∙ sym (take_more ms k m inside)

  numbers-to : AreNumbered node steps (take k ms) (drop k ms) → HasNext (λ to. sent_in node to steps + sent_count to (take k ms)) m × AreNumbered node steps (take (k + 1) ms) (drop (k + 1) ms)
  numbers-to h =
      let parts = cons-to node steps (take k ms) m (drop (k + 1) ms) (subst (AreNumbered node steps (take k ms)) left h) in
      (parts.0, subst (λ e. AreNumbered node steps e (drop (k + 1) ms)) next parts.1)

  numbers-from : HasNext (λ to. sent_in node to steps + sent_count to (take k ms)) m → AreNumbered node steps (take (k + 1) ms) (drop (k + 1) ms) → AreNumbered node steps (take k ms) (drop k ms)
  numbers-from n h =
      subst (AreNumbered node steps (take k ms)) (sym left) (cons-from node steps (take k ms) m (drop (k + 1) ms) n (subst (λ e. AreNumbered node steps e (drop (k + 1) ms)) (sym next) h))

  pub next-numbers : {W : Type 0} → HasNext (λ to. sent_in node to steps + sent_count to (take k ms)) m → AreNumbered node steps (take k ms) (drop k ms) ↔ W
      → AreNumbered node steps (take (k + 1) ms) (drop (k + 1) ms) ↔ W
  next-numbers n w = (λ h. w.0 (numbers-from n h), λ x. (numbers-to (w.1 x)).1)

  pub last-numbers : {W : Type 0} → (HasNext (λ to. sent_in node to steps + sent_count to (take k ms)) m → ⊥) → AreNumbered node steps (take k ms) (drop k ms) ↔ W → W → ⊥
  last-numbers not w x = not (numbers-to (w.1 x)).0

pub numbers-end : (node : Node) (steps : List Step) (ms : List Mark) (k : ℕ) {W : Type 0} → length ms ≤ k → AreNumbered node steps (take k ms) (drop k ms) ↔ W → W
numbers-end node steps ms k past w = w.0 (subst (AreNumbered node steps (take k ms)) (sym (drop_all k ms past)) tt)
