-- What a link's messages are, by the steps and by the letters.
use Rattle.std.proofs.Common.{◌≡◌, ◌≤◌, ℕ, ◌+◌, List, [], ◌∷◌, ◌++◌, Option, Some, None, Bool, true, false, refl, sym, subst, ap, ◌∙◌, if◌then◌else◌, ◌&&◌, arith, append-nil}
use Rattle.std.proofs.lemmas.Bool.{and_parts, eqb-true}
use Rattle.std.proofs.lemmas.Bool.Decides.{nat_tests}
use Rattle.std.proofs.lemmas.List.{append_assoc}
use Rattle.std.specs.Prelude.{is_some, nat_le, nat_lt, ◌==◌}
use Rattle.gx_lemmas.proofs.Options.{some-same}
use Rattle.gx_lemmas.proofs.Numbers.{eqb-self, plus-none}
use Rattle.gx_ids.specs.declared.ids.Node.{Node}
use Rattle.gx_msg.specs.declared.message.Envelope.{Envelope}
use Rattle.gx_msg.specs.declared.message.Message.{Message}
use Rattle.gx_script.specs.declared.Script.{Script}
use Rattle.gx_store.specs.declared.mark.Mark.{Mark}
use Rattle.gx_store.specs.declared.mark.Mark.TheVariants as mark
use Rattle.gx_store.specs.declared.run.Step.{Step}
use Rattle.gx_store.specs.Journals.{is_same_node}
use Rattle.gx_store.specs.Ordered.{AreNumbered, AreOrdered, sent_count, sent_in}
use Rattle.gx_store.specs.Schedule.{message_in, sent_message}
use Rattle.gx_rules.specs.Machine.{Letter, found, posted}
use Rattle.gx_law_order.proofs.Letters.{same_node}
use Rattle.gx_law_order.proofs.Sent.{sent_count-append, sent_in-last}
use Rattle.gx_law_runs.specs.Links.{is_number, message_of}

abbrev letter : Node → ℕ → Node → ℕ → Message → Letter
letter node clock to number told = record { from = node; to = to; envelope = record { number = number; clock = clock; incarnation = 1; message = told } }

-- THE STEPS' WORD FOR A MESSAGE, ONE STEP MORE
pub sent_message-kept : (from to : Node) (number : ℕ) (steps : List Step) (s : Step) (m : Message) → sent_message from to number steps ≡ Some m → sent_message from to number (steps ++ s ∷ []) ≡ Some m
sent_message-kept from to number [] s m e = absurd (cc)
sent_message-kept from to number (x ∷ steps) s m e = grind (arith, nat_tests, sent_message-kept from to number steps s m)

pub sent_message-new : (from to : Node) (number : ℕ) (steps : List Step) (s : Step) → sent_message from to number steps ≡ None → sent_message from to number (steps ++ s ∷ []) ≡ (if is_same_node s.stamp.node from then message_in to number s.marks else None)
sent_message-new from to number [] s e = grind (arith, nat_tests)
sent_message-new from to number (x ∷ steps) s e = grind (arith, nat_tests, sent_message-new from to number steps s)

-- THE LETTERS' WORD FOR IT
found-elsewhere : (from to : Node) (number : ℕ) (node : Node) (clock : ℕ) (ms : List Mark) (sent : List Letter) → is_same_node node from ≡ false → found from to number (posted node clock ms sent) ≡ found from to number sent
found-elsewhere from to number node clock [] sent e = refl
found-elsewhere from to number node clock (mark.Sent t k told ∷ ms) sent e =
    found-elsewhere from to number node clock ms (letter node clock t k told ∷ sent) e ∙ ap (λ (b : Bool). if b && (is_same_node t to && (k == number)) then Some (letter node clock t k told).envelope else found from to number sent) e
found-elsewhere from to number node clock (m ∷ ms) sent e = found-elsewhere from to number node clock ms sent e

differ : {A : Type 0} (a : A) (b : Bool) (o : Option A) → (if b then Some a else o) ≡ None → (b ≡ false) × (o ≡ None)
differ a true o e = absurd (cc)
differ a false o e = (refl, e)

found-none : (node to : Node) (number clock : ℕ) (ms : List Mark) (sent : List Letter) → message_in to number ms ≡ None → found node to number (posted node clock ms sent) ≡ found node to number sent
found-none node to number clock [] sent e = refl
found-none node to number clock (mark.Sent t k told ∷ ms) sent e =
    let d = differ told (is_same_node t to && (k == number)) (message_in to number ms) e in
    found-none node to number clock ms (letter node clock t k told ∷ sent) d.1 ∙ other (is_same_node node node) (is_same_node t to && (k == number)) d.0
  where
    other : (a b : Bool) → b ≡ false → (if a && b then Some (letter node clock t k told).envelope else found node to number sent) ≡ found node to number sent
    other true b e = ap (λ (b : Bool). if b then Some (letter node clock t k told).envelope else found node to number sent) e
    other false b e = refl
found-none node to number clock (m ∷ ms) sent e = found-none node to number clock ms sent e

-- NUMBERS
-- the numbers of what a step sends to a node follow each other
module _ (node to : Node) (number : ℕ) (steps : List Step) where
  abbrev base : List Mark → ℕ
  base earlier = sent_in node to steps + sent_count to earlier

  abbrev is_within : ℕ → ℕ → Bool
  is_within low count = nat_lt low number && nat_le number (low + count)

  in-marks : (earlier ms : List Mark) → AreNumbered node steps earlier ms → is_some (message_in to number ms) ≡ is_within (base earlier) (sent_count to ms)
  in-marks earlier [] e = none (base earlier)
    where
      none : (a : ℕ) → false ≡ (nat_lt a number && nat_le number (a + 0))
      none a = grind (arith, nat_tests)
  in-marks earlier (mark.Sent t k told ∷ ms) e = by_node (is_same_node t to) refl (in-marks (earlier ++ mark.Sent t k told ∷ []) ms e.1)
    where
      more : sent_count to (earlier ++ mark.Sent t k told ∷ []) ≡ sent_count to earlier + (if is_same_node t to then 0 + 1 else 0)
      more = sent_count-append to earlier (mark.Sent t k told ∷ [])

      first : is_same_node t to ≡ true → k ≡ sent_in node to steps + sent_count to earlier + 1
      first same = subst (λ x. k ≡ sent_in node x steps + sent_count x earlier + 1) (same_node t to same) e.0

      own : (s a k n c : ℕ) (o : Option Message) → k ≡ s + a + 1 → is_some o ≡ (nat_lt (s + (a + (0 + 1))) n && nat_le n (s + (a + (0 + 1)) + c)) → is_some (if (k == n) then Some told else o) ≡ (nat_lt (s + a) n && nat_le n (s + a + (c + 1)))
      own s a k n c o e h = grind (arith, nat_tests)

      by_node : (b : Bool) → is_same_node t to ≡ b → is_some (message_in to number ms) ≡ is_within (sent_in node to steps + sent_count to (earlier ++ mark.Sent t k told ∷ [])) (sent_count to ms) → is_some (if b && (k == number) then Some told else message_in to number ms) ≡ is_within (base earlier) (if b then sent_count to ms + 1 else sent_count to ms)
      by_node true same h =
          own (sent_in node to steps) (sent_count to earlier) k number (sent_count to ms) (message_in to number ms) (first same)
          (subst (λ x. is_some (message_in to number ms) ≡ is_within (sent_in node to steps + x) (sent_count to ms)) (more ∙ ap (λ (b : Bool). sent_count to earlier + (if b then 0 + 1 else 0)) same) h)
      by_node false same h = subst (λ x. is_some (message_in to number ms) ≡ is_within (sent_in node to steps + x) (sent_count to ms)) (more ∙ ap (λ (b : Bool). sent_count to earlier + (if b then 0 + 1 else 0)) same ∙ plus-none (sent_count to earlier)) h
  in-marks earlier (m ∷ ms) e = grind (arith, nat_tests, in-marks (earlier ++ m ∷ []) ms e, sent_count-append to earlier (m ∷ []))

  not-some : {A : Type 0} (o : Option A) → is_some o ≡ false → o ≡ None
  not-some None e = refl
  not-some (Some x) e = absurd (cc)

  not-yet : (earlier ms : List Mark) → AreNumbered node steps earlier ms → number ≤ base earlier → message_in to number ms ≡ None
  not-yet earlier ms e h = not-some (message_in to number ms) (in-marks earlier ms e ∙ below (base earlier) (sent_count to ms) h)
    where
      below : (a c : ℕ) → number ≤ a → (nat_lt a number && nat_le number (a + c)) ≡ false
      below a c h = grind (arith, nat_tests)

  found-new : (clock : ℕ) (earlier ms : List Mark) (sent : List Letter) (m : Message) → AreNumbered node steps earlier ms → message_in to number ms ≡ Some m → found node to number (posted node clock ms sent) ≡ Some (letter node clock to number m).envelope
  found-new clock earlier [] sent m e h = absurd (cc)
  found-new clock earlier (mark.Sent t k told ∷ ms) sent m e h = by_test (is_same_node t to && (k == number)) refl h (λ q. found-new clock (earlier ++ mark.Sent t k told ∷ []) ms (letter node clock t k told ∷ sent) m e.1 q)
    where
      at-most : (a s c : ℕ) → number ≡ s + a + 1 → c ≡ a + (0 + 1) → number ≤ s + c
      at-most a s c e h = omega arith

      by_test : (b : Bool) → (is_same_node t to && (k == number)) ≡ b → (if b then Some told else message_in to number ms) ≡ Some m → (message_in to number ms ≡ Some m → found node to number (posted node clock ms (letter node clock t k told ∷ sent)) ≡ Some (letter node clock to number m).envelope) → found node to number (posted node clock ms (letter node clock t k told ∷ sent)) ≡ Some (letter node clock to number m).envelope
      by_test true is h r =
          let z = and_parts _ _ is in
          let same : t ≡ to = same_node t to z.0 in
          let counted : k ≡ number = eqb-true k number z.1 in
          found-none node to number clock ms (letter node clock t k told ∷ sent)
          (not-yet (earlier ++ mark.Sent t k told ∷ []) ms e.1
          (at-most (sent_count to earlier) (sent_in node to steps) (sent_count to (earlier ++ mark.Sent t k told ∷ [])) (sym counted ∙ subst (λ x. k ≡ sent_in node x steps + sent_count x earlier + 1) same e.0)
          (sent_count-append to earlier (mark.Sent t k told ∷ []) ∙ ap (λ (b : Bool). sent_count to earlier + (if b then 0 + 1 else 0)) z.0)))
          ∙ here (is_same_node node node) (is_same_node t to && (k == number)) (eqb-self node.0) is
          ∙ ap Some (ap (λ n. let x : Envelope = record { number = n; clock = clock; incarnation = 1; message = told } in x) counted ∙ ap (λ y. let x : Envelope = record { number = number; clock = clock; incarnation = 1; message = y } in x) (some-same told m h))
        where
          here : (a b : Bool) → a ≡ true → b ≡ true → (if a && b then Some (letter node clock t k told).envelope else found node to number sent) ≡ Some (letter node clock t k told).envelope
          here true b e f = ap (λ (b : Bool). if b then Some (letter node clock t k told).envelope else found node to number sent) f
          here false b e f = absurd (cc)
      by_test false is h r = r h
  found-new clock earlier (x ∷ ms) sent m e h = found-new clock (earlier ++ x ∷ []) ms sent m e h

-- BOTH ALIKE
-- steps and letters have the same messages, and one of each number up to the count
pub record DoLinksAgree (steps : List Step) (sent : List Letter) (from to : Node) (number : ℕ) : Type 0 where
  pub message : sent_message from to number steps ≡ message_of (found from to number sent)
  pub counted : is_some (found from to number sent) ≡ is_number number (sent_in from to steps)

module _ (steps : List Step) (sent : List Letter) (s : Step) (from to : Node) (number : ℕ) (numbers : AreNumbered s.stamp.node steps [] s.marks) (agree : DoLinksAgree steps sent from to number) where
  abbrev now : List Letter
  now = posted s.stamp.node s.stamp.clock s.marks sent

  abbrev more : List Step
  more = steps ++ s ∷ []

  one-more : sent_in from to more ≡ sent_in from to steps + (if is_same_node s.stamp.node from then sent_count to s.marks else 0)
  one-more = sent_in-last from to steps s

  elsewhere : is_same_node s.stamp.node from ≡ false → DoLinksAgree more now from to number
  elsewhere away =
      record {
        message = by (sent_message from to number steps) refl ∙ agree.message ∙ ap message_of (sym same);
        counted = ap is_some same ∙ agree.counted ∙ ap (is_number number) (sym (one-more ∙ ap (λ (b : Bool). sent_in from to steps + (if b then sent_count to s.marks else 0)) away ∙ plus-none (sent_in from to steps)));
      }
    where
      same : found from to number now ≡ found from to number sent
      same = found-elsewhere from to number s.stamp.node s.stamp.clock s.marks sent away

      by : (o : Option Message) → sent_message from to number steps ≡ o → sent_message from to number more ≡ sent_message from to number steps
      by None e = sent_message-new from to number steps s e ∙ ap (λ (b : Bool). if b then message_in to number s.marks else None) away ∙ sym e
      by (Some m) e = sent_message-kept from to number steps s m e ∙ sym e

  of-some : (o : Option Envelope) (m : Message) → Some m ≡ message_of o → is_some o ≡ true
  of-some None m e = absurd (cc)
  of-some (Some x) m e = refl

  of-none : (o : Option Envelope) → None ≡ message_of o → o ≡ None
  of-none None e = refl
  of-none (Some x) e = absurd (cc)

  at-node : s.stamp.node ≡ from → DoLinksAgree more now from to number
  at-node same = by_steps (sent_message from to number steps) refl
    where
      test : (a b : Node) → a ≡ b → is_same_node a b ≡ true
      test a b e = grind (arith, nat_tests)

      own : is_same_node s.stamp.node from ≡ true
      own = test s.stamp.node from same

      source : AreNumbered from steps [] s.marks
      source = subst (λ n. AreNumbered n steps [] s.marks) same numbers

      count : sent_in from to more ≡ sent_in from to steps + sent_count to s.marks
      count = one-more ∙ ap (λ (b : Bool). sent_in from to steps + (if b then sent_count to s.marks else 0)) own

      later : (n a b : ℕ) → is_number n a ≡ true → is_number n (a + b) ≡ true
      later n a b e = grind (arith, nat_tests)

      up-to : (n a : ℕ) → is_number n a ≡ true → n ≤ a + 0
      up-to n a e = grind (arith, nat_tests)

      not-in : (n a c : ℕ) → is_number n a ≡ false → (nat_lt (a + 0) n && nat_le n (a + 0 + c)) ≡ is_number n (a + c)
      not-in n a c e = grind (arith, nat_tests)

      here : (ls : List Letter) → found s.stamp.node to number ls ≡ found from to number ls
      here ls = ap (λ n. found n to number ls) same

      by_marks : (o : Option Message) → message_in to number s.marks ≡ o → message_of (found from to number sent) ≡ None → message_of (found from to number now) ≡ o
      by_marks None e h = ap message_of (sym (here now) ∙ found-none s.stamp.node to number s.stamp.clock s.marks sent e ∙ here sent) ∙ h
      by_marks (Some m) e h = ap message_of (sym (here now) ∙ found-new s.stamp.node to number steps s.stamp.clock [] s.marks sent m numbers e)

      some-of : (o : Option Envelope) → is_some (message_of o) ≡ is_some o
      some-of None = refl
      some-of (Some x) = refl

      by_steps : (o : Option Message) → sent_message from to number steps ≡ o → DoLinksAgree more now from to number
      by_steps (Some m) e =
          let was : is_number number (sent_in from to steps) ≡ true = sym agree.counted ∙ of-some (found from to number sent) m (sym e ∙ agree.message) in
          let unmoved : found from to number now ≡ found from to number sent = sym (here now) ∙ found-none s.stamp.node to number s.stamp.clock s.marks sent (not-yet from to number steps [] s.marks source (up-to number (sent_in from to steps) was)) ∙ here sent in
          record {
            message = sent_message-kept from to number steps s m e ∙ sym e ∙ agree.message ∙ ap message_of (sym unmoved);
            counted = ap is_some unmoved ∙ agree.counted ∙ was ∙ sym (ap (is_number number) count ∙ later number (sent_in from to steps) (sent_count to s.marks) was);
          }
      by_steps None e =
          let none : found from to number sent ≡ None = of-none (found from to number sent) (sym e ∙ agree.message) in
          let told : message_of (found from to number now) ≡ message_in to number s.marks = by_marks (message_in to number s.marks) refl (sym agree.message ∙ e) in
          record {
            message = sent_message-new from to number steps s e ∙ ap (λ (b : Bool). if b then message_in to number s.marks else None) own ∙ sym told;
            counted = sym (some-of (found from to number now)) ∙ ap is_some told ∙ in-marks from to number steps [] s.marks source
                ∙ not-in number (sent_in from to steps) (sent_count to s.marks) (sym agree.counted ∙ ap is_some none)
                ∙ ap (is_number number) (sym count);
          }

  pub agree-more : DoLinksAgree more now from to number
  agree-more = by_test (is_same_node s.stamp.node from) refl
    where
      by_test : (b : Bool) → is_same_node s.stamp.node from ≡ b → DoLinksAgree more now from to number
      by_test true e = at-node (same_node s.stamp.node from e)
      by_test false e = elsewhere e

-- ALL STEPS
-- the letters of steps, on top of those before
abbrev pub letters_from : List Letter → List Step → List Letter
letters_from sent [] = sent
letters_from sent (s ∷ ss) = letters_from (posted s.stamp.node s.stamp.clock s.marks sent) ss

pub letters-last : (sent : List Letter) (ss : List Step) (s : Step) → letters_from sent (ss ++ s ∷ []) ≡ posted s.stamp.node s.stamp.clock s.marks (letters_from sent ss)
letters-last sent [] s = refl
letters-last sent (x ∷ ss) s = letters-last (posted x.stamp.node x.stamp.clock x.marks sent) ss s

agree-all : (script : Script) (before ss : List Step) (sent : List Letter) (from to : Node) (number : ℕ) → DoLinksAgree before sent from to number → AreOrdered script before ss → DoLinksAgree (before ++ ss) (letters_from sent ss) from to number
agree-all script before [] sent from to number a o = subst (λ x. DoLinksAgree x sent from to number) (sym (append-nil before)) a
agree-all script before (s ∷ ss) sent from to number a o =
    subst (λ x. DoLinksAgree x (letters_from (posted s.stamp.node s.stamp.clock s.marks sent) ss) from to number) (append_assoc before (s ∷ []) ss)
    (agree-all script (before ++ s ∷ []) ss (posted s.stamp.node s.stamp.clock s.marks sent) from to number (agree-more before sent s from to number o.0.numbers a) o.1)

pub links-agree : (script : Script) (ss : List Step) (from to : Node) (number : ℕ) → AreOrdered script [] ss → DoLinksAgree ss (letters_from [] ss) from to number
links-agree script ss from to number o = agree-all script [] ss [] from to number (record { message = refl; counted = none number }) o
  where
    none : (n : ℕ) → false ≡ is_number n 0
    none n = grind (arith, nat_tests)
