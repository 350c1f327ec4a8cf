-- Each message stands at its number among those of its link, step by step.
use Rattle.std.proofs.Common.{◌≡◌, ◌⊎◌, inl, inr, ℕ, zero, suc, ◌+◌, ◌<◌, Bool, true, false, List, [], ◌∷◌, ◌++◌, Some, length, slice_get, refl, sym, subst, ap, ◌∙◌, if◌then◌else◌, ◌==◌, arith, append-nil}
use Rattle.std.proofs.lemmas.Bool.Decides.{nat_tests}
use Rattle.gx_lemmas.proofs.Lists.{get-append, place-below}
use Rattle.gx_lemmas.proofs.Numbers.{eqb-of, lt-none, none-plus, plus-none, same-of}
use Rattle.gx_lemmas.proofs.Options.{some-same}
use Rattle.gx_ids.specs.declared.ids.Node.{Node}
use Rattle.gx_msg.specs.declared.message.Message.{Message}
use Rattle.gx_store.specs.declared.mark.Mark.{Mark}
use Rattle.gx_store.specs.declared.mark.Mark.TheVariants.{Sent}
use Rattle.gx_store.specs.declared.run.Step.{Step}
use Rattle.gx_store.specs.Journals.{is_same_node}
use Rattle.gx_store.specs.Messages.{IsSending}
use Rattle.gx_store.specs.Ordered.{AreNumbered, sent_count, sent_in}
use Rattle.gx_ordered.specs.Links.{AreFiled, IsSentAt, clocks_in, clocks_sent}
use Rattle.gx_ordered.proofs.Counts.{all-count, clocks-last, sent_count-append}

-- LISTS
get-split : {A : Type 0} (xs ys : List A) (i : ℕ) (x : A) → slice_get (xs ++ ys) i ≡ Some x → (slice_get xs i ≡ Some x) ⊎ ((j : ℕ) × (i ≡ length xs + j) × (slice_get ys j ≡ Some x))
get-split [] ys i x e = inr (i, sym (none-plus i), e)
get-split (y ∷ xs) ys zero x e = inl e
get-split (y ∷ xs) ys (suc i) x e = elim (get-split xs ys i x e) [ inl h ↦ inl h | inr h ↦ inr (h.0, more i (length xs) h.0 h.1, h.2) ]
  where
    more : (i n j : ℕ) → i ≡ n + j → suc i ≡ suc n + j
    more i n j e = omega (arith, e)

get-behind : {A : Type 0} (xs ys : List A) (j : ℕ) (x : A) → slice_get ys j ≡ Some x → slice_get (xs ++ ys) (length xs + j) ≡ Some x
get-behind [] ys j x e = ap (slice_get ys) (none-plus j) ∙ e
get-behind (y ∷ xs) ys j x e = ap (slice_get ((y ∷ xs) ++ ys)) (more (length xs) j) ∙ get-behind xs ys j x e
  where
    more : (n j : ℕ) → suc n + j ≡ suc (n + j)
    more n j = omega arith

same-node : (a b : Node) → is_same_node a b ≡ true → a ≡ b
same-node a b e = ap (λ (n : ℕ). record { 0 = n }) (same-of a.0 b.0 e)

-- THE MARKS OF A STEP
-- a mark that sends a message to a node, of this number
record SendsAt (ms : List Mark) (to : Node) (number : ℕ) : Type 0 where
  pub mark : ℕ
  pub told : Message
  pub at : slice_get ms mark ≡ Some (Sent to number told)

next-sends : (m : Mark) (ms : List Mark) (to : Node) (number : ℕ) → SendsAt ms to number → SendsAt (m ∷ ms) to number
next-sends m ms to number h = record { mark = suc h.mark; told = h.told; at = h.at }

-- by the list of a link
module _ (node to : Node) (clock : ℕ) (steps : List Step) where
  marks-sent : (earlier ms : List Mark) → AreNumbered node steps earlier ms → (j c : ℕ) → slice_get (clocks_in clock to ms) j ≡ Some c
      → (c ≡ clock) × SendsAt ms to (sent_in node to steps + sent_count to earlier + j + 1)
  marks-sent earlier [] e j c h = absurd (cc)
  marks-sent earlier (Sent t number told ∷ ms) e j c h = by_test (is_same_node t to) refl h (λ i k. marks-sent (earlier ++ Sent t number told ∷ []) ms e.1 i c k)
    where
      rest : List ℕ
      rest = clocks_in clock to ms

      base : ℕ
      base = sent_in node to steps + sent_count to earlier

      own : List Mark
      own = earlier ++ Sent t number told ∷ []

      counted : (b : Bool) → is_same_node t to ≡ b → sent_count to own ≡ sent_count to earlier + (if b then 1 else 0)
      counted b is = sent_count-append to earlier (Sent t number told ∷ []) ∙ ap (λ n. sent_count to earlier + n) (ap (λ (q : Bool). if q then 0 + 1 else 0) is ∙ tidy b)
        where
          tidy : (q : Bool) → (if q then 0 + 1 else 0) ≡ (if q then 1 else 0)
          tidy true = refl
          tidy false = refl

      by_test : (b : Bool) → is_same_node t to ≡ b → slice_get (if b then clock ∷ rest else rest) j ≡ Some c
          → ((i : ℕ) → slice_get rest i ≡ Some c → (c ≡ clock) × SendsAt ms to (sent_in node to steps + sent_count to own + i + 1))
          → (c ≡ clock) × SendsAt (Sent t number told ∷ ms) to (base + j + 1)
      by_test true is k later = by_place j k
        where
          mine : number ≡ base + 0 + 1
          mine = first number (sent_in node t steps) (sent_in node to steps) (sent_count t earlier) (sent_count to earlier) e.0 (ap (λ n. sent_in node n steps) (same-node t to is)) (ap (λ n. sent_count n earlier) (same-node t to is))
            where
              first : (n a b c d : ℕ) → n ≡ a + c + 1 → a ≡ b → c ≡ d → n ≡ b + d + 0 + 1
              first n a b c d f g h = omega (arith, f, g, h)

          by_place : (j : ℕ) → slice_get (clock ∷ rest) j ≡ Some c → (c ≡ clock) × SendsAt (Sent t number told ∷ ms) to (base + j + 1)
          by_place zero k = (
            sym (some-same clock c k),
            record { mark = 0; told = told; at = λ i. Some (Sent (same-node t to is i) (mine i) told) },
          )
          by_place (suc i) k =
              let h = later i k in (
                h.0,
                subst (SendsAt (Sent t number told ∷ ms) to) (shift (sent_in node to steps) (sent_count to own) (sent_count to earlier) i (counted true is)) (next-sends (Sent t number told) ms to _ h.1),
              )
            where
              shift : (a b c i : ℕ) → b ≡ c + 1 → a + b + i + 1 ≡ a + c + suc i + 1
              shift a b c i f = omega (arith, f)
      by_test false is k later =
          let h = later j k in (
            h.0,
            subst (SendsAt (Sent t number told ∷ ms) to) (shift (sent_in node to steps) (sent_count to own) (sent_count to earlier) j (counted false is)) (next-sends (Sent t number told) ms to _ h.1),
          )
        where
          shift : (a b c i : ℕ) → b ≡ c + 0 → a + b + i + 1 ≡ a + c + i + 1
          shift a b c i f = omega (arith, f)
  marks-sent earlier (m ∷ ms) e j c h =
      let k = marks-sent (earlier ++ m ∷ []) ms e j c h in (
        k.0,
        subst (SendsAt (m ∷ ms) to) (shift (sent_in node to steps) (sent_count to (earlier ++ m ∷ [])) (sent_count to earlier) j (sent_count-append to earlier (m ∷ []))) (next-sends m ms to _ k.1),
      )
    where
      shift : (a b c i : ℕ) → b ≡ c + 0 → a + b + i + 1 ≡ a + c + i + 1
      shift a b c i f = omega (arith, f)

  -- by the mark
  marks-stand : (earlier ms : List Mark) → AreNumbered node steps earlier ms → (p number : ℕ) (told : Message) → slice_get ms p ≡ Some (Sent to number told)
      → (j : ℕ) × (number ≡ sent_in node to steps + sent_count to earlier + j + 1) × (slice_get (clocks_in clock to ms) j ≡ Some clock)
  marks-stand earlier [] e p number told h = absurd (cc)
  marks-stand earlier (m ∷ ms) e zero number told h = at_front m (some-same m (Sent to number told) h) e
    where
      at_front : (x : Mark) → x ≡ Sent to number told → AreNumbered node steps earlier (x ∷ ms)
          → (j : ℕ) × (number ≡ sent_in node to steps + sent_count to earlier + j + 1) × (slice_get (clocks_in clock to (x ∷ ms)) j ≡ Some clock)
      at_front x same =
          subst (λ y. AreNumbered node steps earlier (y ∷ ms) → (j : ℕ) × (number ≡ sent_in node to steps + sent_count to earlier + j + 1) × (slice_get (clocks_in clock to (y ∷ ms)) j ≡ Some clock))
          (sym same) (λ f. (0, f.0 ∙ ap (λ n. n + 1) (sym (plus-none (sent_in node to steps + sent_count to earlier))), ap (λ b. slice_get (if b then clock ∷ clocks_in clock to ms else clocks_in clock to ms) 0) (eqb-of to.0 to.0 refl)))
  marks-stand earlier (Sent t n other ∷ ms) e (suc p) number told h = by_test (is_same_node t to) refl (marks-stand (earlier ++ Sent t n other ∷ []) ms e.1 p number told h)
    where
      own : List Mark
      own = earlier ++ Sent t n other ∷ []

      by_test : (b : Bool) → is_same_node t to ≡ b → (j : ℕ) × (number ≡ sent_in node to steps + sent_count to own + j + 1) × (slice_get (clocks_in clock to ms) j ≡ Some clock)
          → (j : ℕ) × (number ≡ sent_in node to steps + sent_count to earlier + j + 1) × (slice_get (if b then clock ∷ clocks_in clock to ms else clocks_in clock to ms) j ≡ Some clock)
      by_test true is k = (suc k.0, shift number (sent_in node to steps) (sent_count to own) (sent_count to earlier) k.0 k.1 counted, k.2)
        where
          counted : sent_count to own ≡ sent_count to earlier + (0 + 1)
          counted = sent_count-append to earlier (Sent t n other ∷ []) ∙ ap (λ (q : Bool). sent_count to earlier + (if q then 0 + 1 else 0)) is

          shift : (n a b c i : ℕ) → n ≡ a + b + i + 1 → b ≡ c + (0 + 1) → n ≡ a + c + suc i + 1
          shift n a b c i f g = omega (arith, f, g)
      by_test false is k = (k.0, shift number (sent_in node to steps) (sent_count to own) (sent_count to earlier) k.0 k.1 counted, k.2)
        where
          counted : sent_count to own ≡ sent_count to earlier + 0
          counted = sent_count-append to earlier (Sent t n other ∷ []) ∙ ap (λ (q : Bool). sent_count to earlier + (if q then 0 + 1 else 0)) is

          shift : (n a b c i : ℕ) → n ≡ a + b + i + 1 → b ≡ c + 0 → n ≡ a + c + i + 1
          shift n a b c i f g = omega (arith, f, g)
  marks-stand earlier (m ∷ ms) e (suc p) number told h =
      let k = marks-stand (earlier ++ m ∷ []) ms e p number told h in
      (k.0, shift number (sent_in node to steps) (sent_count to (earlier ++ m ∷ [])) (sent_count to earlier) k.0 k.1 (sent_count-append to earlier (m ∷ [])), k.2)
    where
      shift : (n a b c i : ℕ) → n ≡ a + b + i + 1 → b ≡ c + 0 → n ≡ a + c + i + 1
      shift n a b c i f g = omega (arith, f, g)

-- A STEP MORE
module _ (steps : List Step) (s : Step) (filed : AreFiled steps) (numbers : AreNumbered s.stamp.node steps [] s.marks) where
  -- how many were sent before the step
  base : (from to : Node) → s.stamp.node ≡ from → length (clocks_sent from to steps) ≡ sent_in s.stamp.node to steps
  base from to is = all-count from to steps ∙ ap (λ n. sent_in n to steps) (sym is)

  here : slice_get (steps ++ s ∷ []) (length steps + 0) ≡ Some s
  here = get-behind steps (s ∷ []) 0 s refl

  sent-before : (from to : Node) (before clock : ℕ) → IsSentAt steps from to before clock → IsSentAt (steps ++ s ∷ []) from to before clock
  sent-before from to before clock h = record {
    step = h.step;
    mark = h.mark;
    told = h.told;
    sending = record { sender = h.sending.sender; at = get-append steps (s ∷ []) h.step h.sending.sender h.sending.at; node = h.sending.node; sent = h.sending.sent };
    clock_is = h.clock_is;
  }

  sent-now : (from to : Node) (j clock : ℕ) (b : Bool) → is_same_node s.stamp.node from ≡ b → slice_get (if b then clocks_in s.stamp.clock to s.marks else []) j ≡ Some clock
      → IsSentAt (steps ++ s ∷ []) from to (length (clocks_sent from to steps) + j) clock
  sent-now from to j clock false is h = absurd (cc)
  sent-now from to j clock true is h =
      let own = marks-sent s.stamp.node to s.stamp.clock steps [] s.marks numbers j clock h in
      let node = same-node s.stamp.node from is in
      let count : sent_in s.stamp.node to steps + 0 + j + 1 ≡ length (clocks_sent from to steps) + j + 1 = shift (sent_in s.stamp.node to steps) (length (clocks_sent from to steps)) j (base from to node) in
      record {
        step = length steps + 0;
        mark = own.1.mark;
        told = own.1.told;
        sending = record { sender = s; at = here; node = node; sent = own.1.at ∙ ap (λ n. Some (Sent to n own.1.told)) count };
        clock_is = sym own.0;
      }
    where
      shift : (a l j : ℕ) → l ≡ a → a + 0 + j + 1 ≡ l + j + 1
      shift a l j e = omega (arith, e)

  stands-now : (from to : Node) (mark number : ℕ) (told : Message) → s.stamp.node ≡ from → slice_get s.marks mark ≡ Some (Sent to number told)
      → (before : ℕ) × (number ≡ before + 1) × (slice_get (clocks_sent from to (steps ++ s ∷ [])) before ≡ Some s.stamp.clock)
  stands-now from to mark number told node at =
      let own = marks-stand s.stamp.node to s.stamp.clock steps [] s.marks numbers mark number told at in (
        length (clocks_sent from to steps) + own.0,
        shift number (sent_in s.stamp.node to steps) (length (clocks_sent from to steps)) own.0 own.1 (base from to node),
        ap (λ cs. slice_get cs (length (clocks_sent from to steps) + own.0)) (clocks-last from to steps s)
            ∙ ap (λ b. slice_get (clocks_sent from to steps ++ (if b then clocks_in s.stamp.clock to s.marks else [])) (length (clocks_sent from to steps) + own.0)) (eqb-of s.stamp.node.0 from.0 (ap (λ (n : Node). n.0) node))
            ∙ get-behind (clocks_sent from to steps) (clocks_in s.stamp.clock to s.marks) own.0 s.stamp.clock own.2,
      )
    where
      shift : (n a l j : ℕ) → n ≡ a + 0 + j + 1 → l ≡ a → n ≡ l + j + 1
      shift n a l j e f = omega (arith, e, f)

  stands-before : (from to : Node) (clock number : ℕ) → (before : ℕ) × (number ≡ before + 1) × (slice_get (clocks_sent from to steps) before ≡ Some clock)
      → (before : ℕ) × (number ≡ before + 1) × (slice_get (clocks_sent from to (steps ++ s ∷ [])) before ≡ Some clock)
  stands-before from to clock number h = (h.0, h.1, ap (λ cs. slice_get cs h.0) (clocks-last from to steps s) ∙ get-append (clocks_sent from to steps) _ h.0 clock h.2)

  pub filed-last : AreFiled (steps ++ s ∷ [])
  filed-last = record {
    sent = λ from to before clock h.
        elim (get-split (clocks_sent from to steps) _ before clock (ap (λ cs. slice_get cs before) (sym (clocks-last from to steps s)) ∙ h)) [
          | inl old ↦ sent-before from to before clock (filed.sent from to before clock old)
          | inr new ↦ subst (λ n. IsSentAt (steps ++ s ∷ []) from to n clock) (sym new.1) (sent-now from to new.0 clock (is_same_node s.stamp.node from) refl new.2)
        ];
    stands = λ from to step mark number told sending.
        elim (get-split steps (s ∷ []) step sending.sender sending.at) [
          | inl old ↦ stands-before from to sending.sender.stamp.clock number (filed.stands from to step mark number told (record { sender = sending.sender; at = old; node = sending.node; sent = sending.sent }))
          | inr new ↦ stands-same from to mark number told sending.sender (only new.0 s sending.sender new.2) sending.node sending.sent
        ];
  }
    where
      only : (j : ℕ) (x y : Step) → slice_get (x ∷ []) j ≡ Some y → x ≡ y
      only zero x y e = some-same x y e
      only (suc j) x y e = absurd (cc)

      stands-same : (from to : Node) (mark number : ℕ) (told : Message) (sender : Step) → s ≡ sender → sender.stamp.node ≡ from → slice_get sender.marks mark ≡ Some (Sent to number told)
          → (before : ℕ) × (number ≡ before + 1) × (slice_get (clocks_sent from to (steps ++ s ∷ [])) before ≡ Some sender.stamp.clock)
      stands-same from to mark number told sender same =
          subst (λ (x : Step). x.stamp.node ≡ from → slice_get x.marks mark ≡ Some (Sent to number told) → (before : ℕ) × (number ≡ before + 1) × (slice_get (clocks_sent from to (steps ++ s ∷ [])) before ≡ Some x.stamp.clock))
          same (λ node at. stands-now from to mark number told node at)

pub none-filed : AreFiled []
none-filed = record { sent = λ from to before clock h. absurd (cc); stands = λ from to step mark number told sending. absurd (lt-none _ (place-below [] step sending.sender sending.at)) }
