-- In an ordered run the message of a number is the one that stands at that place of its link.
use Rattle.std.proofs.Common.{◌≡◌, ℕ, zero, suc, ◌+◌, ◌==◌, List, [], ◌∷◌, ◌++◌, Some, Bool, true, false, if◌then◌else◌, ◌&&◌, cond, refl, sym, subst, ap, ◌∙◌, arith, length, append-nil}
use Rattle.std.proofs.lemmas.Bool.Decides.{nat_tests}
use Rattle.std.proofs.lemmas.List.{append_assoc, length-append}
use Rattle.gx_ids.specs.declared.ids.Node.{Node}
use Rattle.gx_msg.specs.declared.message.Envelope.{Envelope}
use Rattle.gx_msg.specs.declared.message.Message.{Message}
use Rattle.gx_script.specs.declared.Script.{Script}
use Rattle.gx_store.specs.declared.mark.Mark.{Mark}
use Rattle.gx_store.specs.declared.mark.Mark.TheVariants.{Sent}
use Rattle.gx_store.specs.declared.run.Step.{Step}
use Rattle.gx_store.specs.Journals.{is_same_node}
use Rattle.gx_store.specs.Ordered.{AreNumbered, AreOrdered, sent_count, sent_in}
use Rattle.gx_rules.specs.Machine.{Letter, found, posted}
use Rattle.gx_law_order.proofs.Letters.{same_node}
use Rattle.gx_law_order.proofs.Sent.{sent_count-append, sent_in-last}
use Rattle.gx_law_runs.specs.Replays.{letters_after, letters_from}
use Rattle.gx_law_merge.specs.Apart.{at_place, envelope_of, sent_in_step, sent_to}
use Rattle.gx_law_merge.specs.Merge.{own_steps}
use Rattle.gx_law_merge.proofs.Places.{place-last, step-count}

abbrev letter : Node → ℕ → Node → ℕ → Message → Letter
letter from clock to number message = record { from = from; to = to; envelope = record { number = number; clock = clock; incarnation = 1; message = message } }

module _ (from to : Node) where
  -- the letters have at each number what stands at that place
  abbrev AreAt : List Letter → List Envelope → Type 0
  AreAt sent es = (n : ℕ) → found from to n sent ≡ at_place es n

  -- what another node sends
  elsewhere : (node : Node) (clock : ℕ) (ms : List Mark) (sent : List Letter) (n : ℕ) → is_same_node node from ≡ false → found from to n (posted node clock ms sent) ≡ found from to n sent
  elsewhere node clock [] sent n away = refl
  elsewhere node clock (Sent t k message ∷ ms) sent n away =
      elsewhere node clock ms (letter node clock t k message ∷ sent) n away
      ∙ ap (λ (b : Bool). if b && (is_same_node t to && (k == n)) then Some (letter node clock t k message).envelope else found from to n sent) away
  elsewhere node clock (m ∷ ms) sent n away = elsewhere node clock ms sent n away

  self : (node : Node) → is_same_node node node ≡ true
  self node = grind (arith, nat_tests)

  -- what the sender sends in one step
  module _ (clock : ℕ) (steps : List Step) where
    -- of these marks, whatever was sent before them
    abbrev AreAdded : List Mark → List Mark → Type 0
    AreAdded earlier ms =
        (sent : List Letter) (es : List Envelope) → AreNumbered from steps earlier ms → length es ≡ sent_in from to steps + sent_count to earlier → AreAt sent es
        → AreAt (posted from clock ms sent) (es ++ sent_in_step to clock ms)

    in-marks : (earlier ms : List Mark) → AreAdded earlier ms
    in-marks earlier [] sent es numbers long are n = are n ∙ ap (λ xs. at_place xs n) (sym (append-nil es))
    in-marks earlier (Sent t k message ∷ ms) sent es numbers long are n = by_test (in-marks (earlier ++ Sent t k message ∷ []) ms) (is_same_node t to) refl
      where
        one : Envelope
        one = envelope_of clock k message

        more : sent_count to (earlier ++ Sent t k message ∷ []) ≡ sent_count to earlier + (if is_same_node t to then 0 + 1 else 0)
        more = sent_count-append to earlier (Sent t k message ∷ [])

        at_letter : (b : Bool) → is_same_node t to ≡ b → (m : ℕ) → found from to m (letter from clock t k message ∷ sent) ≡ (if b && (k == m) then Some one else found from to m sent)
        at_letter b same m =
            ap (λ (c : Bool). if c && (is_same_node t to && (k == m)) then Some one else found from to m sent) (self from)
            ∙ ap (λ (c : Bool). if c && (k == m) then Some one else found from to m sent) same

        first : is_same_node t to ≡ true → k ≡ length es + 1
        first same = subst (λ x. k ≡ sent_in from x steps + sent_count x earlier + 1) (same_node t to same) numbers.0 ∙ ap (λ a. a + 1) (sym long)

        longer : is_same_node t to ≡ true → length (es ++ one ∷ []) ≡ sent_in from to steps + sent_count to (earlier ++ Sent t k message ∷ [])
        longer same = length-append es (one ∷ []) ∙ sum (length es) (sent_in from to steps) (sent_count to earlier) _ long (more ∙ ap (λ (b : Bool). sent_count to earlier + (if b then 0 + 1 else 0)) same)
          where
            sum : (l a c d : ℕ) → l ≡ a + c → d ≡ c + (0 + 1) → l + 1 ≡ a + d
            sum l a c d h g = omega arith

        as-long : is_same_node t to ≡ false → length es ≡ sent_in from to steps + sent_count to (earlier ++ Sent t k message ∷ [])
        as-long away = sum (length es) (sent_in from to steps) (sent_count to earlier) _ long (more ∙ ap (λ (b : Bool). sent_count to earlier + (if b then 0 + 1 else 0)) away)
          where
            sum : (l a c d : ℕ) → l ≡ a + c → d ≡ c + 0 → l ≡ a + d
            sum l a c d h g = omega arith

        by_test : AreAdded (earlier ++ Sent t k message ∷ []) ms → (b : Bool) → is_same_node t to ≡ b → found from to n (posted from clock ms (letter from clock t k message ∷ sent)) ≡ at_place (es ++ (if b then one ∷ sent_in_step to clock ms else sent_in_step to clock ms)) n
        by_test rest true same =
            rest (letter from clock t k message ∷ sent) (es ++ one ∷ []) numbers.1 (longer same)
            (λ m. at_letter true same m ∙ ap (λ o. if k == m then Some one else o) (are m) ∙ sym (place-last es one k m (first same))) n
            ∙ ap (λ xs. at_place xs n) (append_assoc es (one ∷ []) (sent_in_step to clock ms))
        by_test rest false away =
            rest (letter from clock t k message ∷ sent) es numbers.1 (as-long away) (λ m. at_letter false away m ∙ are m) n
    in-marks earlier (m ∷ ms) sent es numbers long are n =
        in-marks (earlier ++ m ∷ []) ms sent es numbers (long ∙ ap (λ c. sent_in from to steps + c) (same (sent_count to earlier) _ (sent_count-append to earlier (m ∷ [])))) are n
      where
        same : (a b : ℕ) → b ≡ a + 0 → a ≡ b
        same a b e = omega arith

  -- in all steps
  module _ (script : Script) where
    abbrev AreAddedBy : List Step → List Step → Type 0
    AreAddedBy before ss =
        (sent : List Letter) (es : List Envelope) → AreOrdered script before ss → length es ≡ sent_in from to before → AreAt sent es
        → AreAt (letters_from sent ss) (es ++ sent_to to (own_steps from ss))

    in-steps : (before ss : List Step) → AreAddedBy before ss
    in-steps before [] sent es ordered long are n = are n ∙ ap (λ xs. at_place xs n) (sym (append-nil es))
    in-steps before (s ∷ ss) sent es ordered long are n = by_node (in-steps (before ++ s ∷ []) ss) (is_same_node s.stamp.node from) refl
      where
        now : List Envelope
        now = sent_in_step to s.stamp.clock s.marks

        by_node : AreAddedBy (before ++ s ∷ []) ss → (b : Bool) → is_same_node s.stamp.node from ≡ b → found from to n (letters_from (posted s.stamp.node s.stamp.clock s.marks sent) ss) ≡ at_place (es ++ sent_to to (cond b (s ∷ own_steps from ss) (own_steps from ss))) n
        by_node rest true same =
            rest (posted s.stamp.node s.stamp.clock s.marks sent) (es ++ now) ordered.1
            (length-append es now ∙ both (length es) (length now) (sent_in from to before) _ _ long (step-count to s.stamp.clock s.marks) (sent_in-last from to before s ∙ ap (λ (b : Bool). sent_in from to before + (if b then sent_count to s.marks else 0)) same))
            (subst (λ node. AreAt (posted node s.stamp.clock s.marks sent) (es ++ now)) (sym (same_node s.stamp.node from same))
            (in-marks s.stamp.clock before [] s.marks sent es (subst (λ node. AreNumbered node before [] s.marks) (same_node s.stamp.node from same) ordered.0.numbers) (none (length es) (sent_in from to before) long) are)) n
            ∙ ap (λ xs. at_place xs n) (append_assoc es now (sent_to to (own_steps from ss)))
          where
            both : (l m a c d : ℕ) → l ≡ a → m ≡ c → d ≡ a + c → l + m ≡ d
            both l m a c d e f g = omega arith

            none : (l a : ℕ) → l ≡ a → l ≡ a + 0
            none l a e = omega arith
        by_node rest false away =
            rest (posted s.stamp.node s.stamp.clock s.marks sent) es ordered.1
            (as-long (length es) (sent_in from to before) _ long (sent_in-last from to before s ∙ ap (λ (b : Bool). sent_in from to before + (if b then sent_count to s.marks else 0)) away))
            (λ m. elsewhere s.stamp.node s.stamp.clock s.marks sent m away ∙ are m) n
          where
            as-long : (l a d : ℕ) → l ≡ a → d ≡ a + 0 → l ≡ d
            as-long l a d e f = omega arith

    pub found-at : (steps : List Step) → AreOrdered script [] steps → (n : ℕ) → found from to n (letters_after steps) ≡ at_place (sent_to to (own_steps from steps)) n
    found-at steps ordered n = in-steps [] steps [] [] ordered refl (λ m. nothing m) n
      where
        nothing : (m : ℕ) → found from to m [] ≡ at_place [] m
        nothing zero = refl
        nothing (suc m) = refl
