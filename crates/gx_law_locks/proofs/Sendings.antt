-- What was sent under a number is what the steps find under it.
use Rattle.std.proofs.Common.{◌≡◌, ◌<◌, ℕ, zero, suc, ◌+◌, List, [], ◌∷◌, ◌++◌, Some, None, Bool, true, false, refl, sym, subst, ap, ◌∙◌, if◌then◌else◌, ◌&&◌, ◌==◌, arith}
use Rattle.std.proofs.lemmas.Bool.Decides.{nat_tests}
use Rattle.std.specs.Prelude.{slice_get}
use Rattle.gx_lemmas.proofs.Options.{some-same}
use Rattle.gx_ids.specs.declared.ids.Node.{Node}
use Rattle.gx_msg.specs.declared.message.Message.{Message}
use Rattle.gx_script.specs.declared.Script.{Script}
use Rattle.gx_store.specs.declared.mark.Mark.{Mark}
use Rattle.gx_store.specs.declared.mark.Mark.TheVariants as mark
use Rattle.gx_store.specs.declared.run.Step.{Step}
use Rattle.gx_store.specs.Journals.{is_same_node}
use Rattle.gx_store.specs.Messages.{IsSending, IsSent}
use Rattle.gx_store.specs.Ordered.{AreNumbered, AreOrdered, sent_count, sent_in}
use Rattle.gx_store.specs.Schedule.{message_in, sent_message}
use Rattle.gx_law_order.proofs.Letters.{same_node}
use Rattle.gx_law_order.proofs.Sent.{sent_count-append, sent_in-last}

pub test-self : (n : Node) → is_same_node n n ≡ true
test-self n = grind (arith, nat_tests)

-- IN A STEP
module _ (node to : Node) (number : ℕ) (m : Message) (steps : List Step) where
  abbrev base : List Mark → ℕ
  base earlier = sent_in node to steps + sent_count to earlier

  record IsIn (earlier ms : List Mark) : Type 0 where
    is : message_in to number ms ≡ Some m
    above : base earlier < number

  -- a sending has the next number of its link
  abbrev HasNext : List Mark → Mark → Type 0
  HasNext earlier (mark.Sent t k told) = k ≡ sent_in node t steps + sent_count t earlier + 1
  HasNext earlier _ = Unit {0}

  -- the first mark sends it
  at-head : (earlier ms : List Mark) (t : Node) (k : ℕ) (told : Message) → k ≡ sent_in node t steps + sent_count t earlier + 1 → mark.Sent t k told ≡ mark.Sent to number m → IsIn earlier (mark.Sent t k told ∷ ms)
  at-head earlier ms t k told next e =
      subst (λ (x : Mark). IsIn earlier (x ∷ ms)) (sym e)
      (record { is = found (is_same_node to to) (number == number) (test-self to) (same number); above = below (sent_in node to steps) (sent_count to earlier) (subst (HasNext earlier) e next) })
    where
      same : (n : ℕ) → (n == n) ≡ true
      same n = grind (arith, nat_tests)

      below : (a b : ℕ) → number ≡ a + b + 1 → a + b < number
      below a b e = omega arith

      found : (a b : Bool) → a ≡ true → b ≡ true → (if a && b then Some m else message_in to number ms) ≡ Some m
      found true true e f = refl
      found true false e f = absurd (cc)
      found false b e f = absurd (cc)

  -- a later one does
  past-head : (earlier ms : List Mark) (t : Node) (k : ℕ) (told : Message) → k ≡ sent_in node t steps + sent_count t earlier + 1 → IsIn (earlier ++ mark.Sent t k told ∷ []) ms → IsIn earlier (mark.Sent t k told ∷ ms)
  past-head earlier ms t k told next r = by_node (is_same_node t to) refl
    where
      more : sent_count to (earlier ++ mark.Sent t k told ∷ []) ≡ sent_count to earlier + (if is_same_node t to then 0 + 1 else 0)
      more = sent_count-append to earlier (mark.Sent t k told ∷ [])

      lower : (s c d k n : ℕ) → d ≡ c + (0 + 1) → k ≡ s + c + 1 → s + d < n → ((k == n) ≡ false) × (s + c < n)
      lower s c d k n e f h = (grind (arith, nat_tests), omega arith)

      less : (s c d n : ℕ) → d ≡ c + 0 → s + d < n → s + c < n
      less s c d n e h = omega arith

      skips : (b : Bool) → b ≡ false → (if true && b then Some told else message_in to number ms) ≡ message_in to number ms
      skips true e = absurd (cc)
      skips false e = refl

      by_node : (b : Bool) → is_same_node t to ≡ b → IsIn earlier (mark.Sent t k told ∷ ms)
      by_node true e =
          let own : k ≡ sent_in node to steps + sent_count to earlier + 1 = subst (λ x. k ≡ sent_in node x steps + sent_count x earlier + 1) (same_node t to e) next in
          let l = lower (sent_in node to steps) (sent_count to earlier) (sent_count to (earlier ++ mark.Sent t k told ∷ [])) k number (more ∙ ap (λ (b : Bool). sent_count to earlier + (if b then 0 + 1 else 0)) e) own r.above in
          record { is = ap (λ (b : Bool). if b && (k == number) then Some told else message_in to number ms) e ∙ skips (k == number) l.0 ∙ r.is; above = l.1 }
      by_node false e =
          record {
            is = ap (λ (b : Bool). if b && (k == number) then Some told else message_in to number ms) e ∙ r.is;
            above = less (sent_in node to steps) (sent_count to earlier) (sent_count to (earlier ++ mark.Sent t k told ∷ [])) number (more ∙ ap (λ (b : Bool). sent_count to earlier + (if b then 0 + 1 else 0)) e) r.above;
          }

  quieter : (earlier : List Mark) (x : Mark) (ms : List Mark) → sent_count to (earlier ++ x ∷ []) ≡ sent_count to earlier → IsIn (earlier ++ x ∷ []) ms → base earlier < number
  quieter earlier x ms same r = subst (λ c. sent_in node to steps + c < number) same r.above

  in-step : (earlier ms : List Mark) (j : ℕ) → AreNumbered node steps earlier ms → slice_get ms j ≡ Some (mark.Sent to number m) → IsIn earlier ms
  in-step earlier [] j a e = absurd (cc)
  in-step earlier (mark.Sent t k told ∷ ms) zero a e = at-head earlier ms t k told a.0 (some-same _ _ e)
  in-step earlier (mark.Sent t k told ∷ ms) (suc j) a e = past-head earlier ms t k told a.0 (in-step (earlier ++ mark.Sent t k told ∷ []) ms j a.1 e)
  in-step earlier (x ∷ ms) zero a e = absurd (cc)
  in-step earlier (x ∷ ms) (suc j) a e =
      let r = in-step (earlier ++ x ∷ []) ms j a e in
      record { is = r.is; above = quieter earlier x ms (sent_count-append to earlier (x ∷ []) ∙ none (sent_count to earlier)) r }
    where
      none : (c : ℕ) → c + 0 ≡ c
      none c = omega arith

  -- nothing above what was counted is in the marks
  none-above : (earlier ms : List Mark) → AreNumbered node steps earlier ms → base earlier + sent_count to ms < number → message_in to number ms ≡ None
  none-above earlier [] a h = refl
  none-above earlier (mark.Sent t k told ∷ ms) a h = by_node (is_same_node t to) refl h (none-above (earlier ++ mark.Sent t k told ∷ []) ms a.1)
    where
      more : sent_count to (earlier ++ mark.Sent t k told ∷ []) ≡ sent_count to earlier + (if is_same_node t to then 0 + 1 else 0)
      more = sent_count-append to earlier (mark.Sent t k told ∷ [])

      lower : (s c d k n l : ℕ) → d ≡ c + (0 + 1) → k ≡ s + c + 1 → s + c + (l + 1) < n → ((k == n) ≡ false) × (s + d + l < n)
      lower s c d k n l e f h = (grind (arith, nat_tests), omega arith)

      less : (s c d n l : ℕ) → d ≡ c + 0 → s + c + l < n → s + d + l < n
      less s c d n l e h = omega arith

      skips : (b : Bool) → b ≡ false → (if true && b then Some told else message_in to number ms) ≡ message_in to number ms
      skips true e = absurd (cc)
      skips false e = refl

      by_node : (b : Bool) → is_same_node t to ≡ b → base earlier + (if b then sent_count to ms + 1 else sent_count to ms) < number
          → (base (earlier ++ mark.Sent t k told ∷ []) + sent_count to ms < number → message_in to number ms ≡ None) → (if b && (k == number) then Some told else message_in to number ms) ≡ None
      by_node true e h later =
          let own : k ≡ sent_in node to steps + sent_count to earlier + 1 = subst (λ x. k ≡ sent_in node x steps + sent_count x earlier + 1) (same_node t to e) a.0 in
          let l = lower (sent_in node to steps) (sent_count to earlier) (sent_count to (earlier ++ mark.Sent t k told ∷ [])) k number (sent_count to ms) (more ∙ ap (λ (b : Bool). sent_count to earlier + (if b then 0 + 1 else 0)) e) own h in
          skips (k == number) l.0 ∙ later l.1
      by_node false e h later =
          later (less (sent_in node to steps) (sent_count to earlier) (sent_count to (earlier ++ mark.Sent t k told ∷ [])) number (sent_count to ms) (more ∙ ap (λ (b : Bool). sent_count to earlier + (if b then 0 + 1 else 0)) e) h)
  none-above earlier (x ∷ ms) a h =
      none-above (earlier ++ x ∷ []) ms a (subst (λ c. sent_in node to steps + c + sent_count to ms < number) (sym (sent_count-append to earlier (x ∷ []) ∙ none (sent_count to earlier))) h)
    where
      none : (c : ℕ) → c + 0 ≡ c
      none c = omega arith

-- IN ALL STEPS
module _ (script : Script) (from to : Node) (number : ℕ) (m : Message) where
  record IsThere (before ss : List Step) : Type 0 where
    is : sent_message from to number ss ≡ Some m
    above : sent_in from to before < number

  here-is : (s : Step) (ss : List Step) → is_same_node s.stamp.node from ≡ true → message_in to number s.marks ≡ Some m → sent_message from to number (s ∷ ss) ≡ Some m
  here-is s ss e f = grind (arith, nat_tests)

  later-is : (s : Step) (ss : List Step) → message_in to number s.marks ≡ None → sent_message from to number ss ≡ Some m → sent_message from to number (s ∷ ss) ≡ Some m
  later-is s ss e f = grind (arith, nat_tests)

  elsewhere-is : (s : Step) (ss : List Step) → is_same_node s.stamp.node from ≡ false → sent_message from to number ss ≡ Some m → sent_message from to number (s ∷ ss) ≡ Some m
  elsewhere-is s ss e f = grind (arith, nat_tests)

  in-steps : (before ss : List Step) (k j : ℕ) → AreOrdered script before ss → IsSending ss k j from to number m → IsThere before ss
  in-steps before [] k j a e = absurd (nothing e.at)
    where
      nothing : {x : Step} → None ≡ Some x → ⊥
      nothing q = cc
  in-steps before (s ∷ ss) zero j a e =
      let same : s ≡ e.sender = some-same s e.sender e.at in
      let own : s.stamp.node ≡ from = ap (λ (x : Step). x.stamp.node) same ∙ e.node in
      let sent : slice_get s.marks j ≡ Some (mark.Sent to number m) = ap (λ (x : Step). slice_get x.marks j) same ∙ e.sent in
      let r = in-step from to number m before [] s.marks j (subst (λ n. AreNumbered n before [] s.marks) own a.0.numbers) sent in
      record { is = here-is s ss (ap (λ n. is_same_node n from) own ∙ test-self from) r.is; above = least (sent_in from to before) r.above }
    where
      least : (a : ℕ) → a + 0 < number → a < number
      least a h = omega arith
  in-steps before (s ∷ ss) (suc k) j a e = by_node (is_same_node s.stamp.node from) refl (in-steps (before ++ s ∷ []) ss k j a.1 (record { sender = e.sender; at = e.at; node = e.node; sent = e.sent }))
    where
      lower : (a c n : ℕ) {d : ℕ} → d ≡ a + c → d < n → (a + 0 + c < n) × (a < n)
      lower a c n e h = (omega arith, omega arith)

      by_node : (b : Bool) → is_same_node s.stamp.node from ≡ b → IsThere (before ++ s ∷ []) ss → IsThere before (s ∷ ss)
      by_node true q r =
          let own : s.stamp.node ≡ from = same_node s.stamp.node from q in
          let l = lower (sent_in from to before) (sent_count to s.marks) number (sent_in-last from to before s ∙ ap (λ (b : Bool). sent_in from to before + (if b then sent_count to s.marks else 0)) q) r.above in
          record { is = later-is s ss (none-above from to number m before [] s.marks (subst (λ n. AreNumbered n before [] s.marks) own a.0.numbers) l.0) r.is; above = l.1 }
      by_node false q r =
          let l = lower (sent_in from to before) 0 number (sent_in-last from to before s ∙ ap (λ (b : Bool). sent_in from to before + (if b then sent_count to s.marks else 0)) q) r.above in
          record { is = elsewhere-is s ss q r.is; above = l.1 }

-- the steps find what was sent
pub message-is : (script : Script) (steps : List Step) (from to : Node) (number : ℕ) (m : Message) → AreOrdered script [] steps → IsSent steps from to number m → sent_message from to number steps ≡ Some m
message-is script steps from to number m a e = (in-steps script from to number m [] steps e.step e.mark a e.sending).is
