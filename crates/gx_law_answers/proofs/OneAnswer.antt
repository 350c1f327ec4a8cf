-- A segment gives one answer to a command: the command is new there when the first goes out, and that step sends it alone.
use Rattle.std.proofs.Common.{◌≡◌, ◌≤◌, ◌<◌, ◌⊎◌, inl, inr, ℕ, Bool, List, [], ◌∷◌, ◌++◌, Option, refl, sym, subst, ap, ◌∙◌, append_assoc}
use Rattle.std.specs.Prelude.{slice_get}
use Rattle.gx_lemmas.proofs.Lists.{get-append}
use Rattle.gx_lemmas.proofs.Numbers.{lt-le}
use Rattle.gx_lemmas.proofs.Options.{some-same}
use Rattle.gx_ids.specs.declared.ids.Cid.{Cid}
use Rattle.gx_ids.specs.declared.ids.Gxid.{Gxid}
use Rattle.gx_ids.specs.declared.ids.Node.{Node}
use Rattle.gx_tree.specs.declared.part.Part.{Part}
use Rattle.gx_tree.specs.declared.slice.Slice.{Slice}
use Rattle.gx_tree.specs.declared.stmt.Level.{Level}
use Rattle.gx_dsnap.specs.declared.snapshot.Snapshot.{Snapshot}
use Rattle.gx_msg.specs.declared.message.Envelope.{Envelope}
use Rattle.gx_msg.specs.declared.message.Message.{Message}
use Rattle.gx_msg.specs.declared.message.Message.TheVariants as message
use Rattle.gx_msg.specs.declared.message.Out.{Out}
use Rattle.gx_msg.specs.declared.reply.Cause.{Cause}
use Rattle.gx_msg.specs.declared.reply.Reply.{Reply}
use Rattle.gx_msg.specs.declared.reply.Reply.TheVariants as reply
use Rattle.gx_script.specs.declared.Script.{Script}
use Rattle.gx_store.specs.declared.event.Event.{Event}
use Rattle.gx_store.specs.declared.event.Event.TheVariants.{Receive, Resume}
use Rattle.gx_store.specs.declared.run.Run.{Run}
use Rattle.gx_store.specs.declared.run.Step.{Step}
use Rattle.gx_store.specs.Language.{AreLinesNumbered}
use Rattle.gx_store.specs.Messages.{IsSending}
use Rattle.gx_store.specs.OneAnswer.{DoSegmentsAnswerOnce}
use Rattle.gx_store.specs.Points.{marks_in}
use Rattle.gx_store.specs.Refusals.{the_coordinator}
use Rattle.gx_rules.specs.AtSegment.{on_message}
use Rattle.gx_rules.specs.Machine.{World, found, new_world, world_of}
use Rattle.gx_rules.specs.Segments.{local_of, reply as reply_out}
use Rattle.gx_rules.specs.System.{IsSystemRun}
use Rattle.gx_law_order.proofs.Machines.{system-led}
use Rattle.gx_law_writes.proofs.Next.{below-next, next_command, waits-next}
use Rattle.gx_law_writes.proofs.Told.{IsToldOf, sending-told}
use Rattle.gx_law_writes.proofs.World.{locals_in, world-holds}
use Rattle.gx_law_answers.specs.Earned.{Events, IsEarned, IsReplyEarned, RunsAtOnce, RunsBehindWait}
use Rattle.gx_law_answers.specs.OneAnswer.{AreAnswersOne, IsOfCommand}
use Rattle.gx_law_answers.proofs.Always.{all-earned}
use Rattle.gx_law_answers.proofs.Heard.{after-append, after-grown}

-- FRONTS OF EVENTS
-- of two fronts of one list, each with what comes next, one holds the other with its next, or both are one
abbrev Apart : {A : Type 0} → List A → List A → A → A → Type 0
Apart {A = A} xs ys a b = ((ws : List A) × (ys ≡ xs ++ (a ∷ ws))) ⊎ ((ws : List A) × (xs ≡ ys ++ (b ∷ ws))) ⊎ ((xs ≡ ys) × (a ≡ b))

heads-same : {A : Type 0} (x y : A) (xs ys : List A) → x ∷ xs ≡ y ∷ ys → x ≡ y
heads-same x y xs ys e = cc

tails-same : {A : Type 0} (x y : A) (xs ys : List A) → x ∷ xs ≡ y ∷ ys → xs ≡ ys
tails-same x y xs ys e = cc

apart-next : {A : Type 0} (x y : A) (xs ys : List A) (a b : A) → x ≡ y → Apart xs ys a b → Apart (x ∷ xs) (y ∷ ys) a b
apart-next x y xs ys a b e (inl (ws, q)) = inl (ws, ap (λ z. z ∷ ys) (sym e) ∙ ap (λ zs. x ∷ zs) q)
apart-next x y xs ys a b e (inr (inl (ws, q))) = inr (inl (ws, ap (λ z. z ∷ xs) e ∙ ap (λ zs. y ∷ zs) q))
apart-next x y xs ys a b e (inr (inr (q, p))) = inr (inr (ap (λ z. z ∷ xs) e ∙ ap (λ zs. y ∷ zs) q, p))

apart : {A : Type 0} (xs ys : List A) (a b : A) (us vs : List A) → xs ++ (a ∷ us) ≡ ys ++ (b ∷ vs) → Apart xs ys a b
apart [] [] a b us vs e = inr (inr (refl, heads-same a b us vs e))
apart [] (y ∷ ys) a b us vs e = inl (ys, ap (λ z. z ∷ ys) (sym (heads-same a y us (ys ++ (b ∷ vs)) e)))
apart (x ∷ xs) [] a b us vs e = inr (inl (xs, ap (λ z. z ∷ xs) (heads-same x b (xs ++ (a ∷ us)) vs e)))
apart (x ∷ xs) (y ∷ ys) a b us vs e =
    apart-next x y xs ys a b (heads-same x y (xs ++ (a ∷ us)) (ys ++ (b ∷ vs)) e) (apart xs ys a b us vs (tails-same x y (xs ++ (a ∷ us)) (ys ++ (b ∷ vs)) e))

-- what was sent stays so
sent-later : (script : Script) (front rest all : Events) → all ≡ front ++ rest → (s m : ℕ) (from to : Node) (number : ℕ) (told : Message) → IsSending (world_of script front).steps s m from to number told → IsSending (world_of script all).steps s m from to number told
sent-later script front rest all e s m from to number told z =
    let grown = after-grown script (world_of script front) rest in
    let is : (world_of script all).steps ≡ (world_of script front).steps ++ grown.extra = ap (λ (v : World). v.steps) (ap (world_of script) e ∙ after-append script new_world front rest) ∙ grown.is in
    record { sender = z.sender; at = ap (λ ss. slice_get ss s) is ∙ get-append (world_of script front).steps grown.extra s z.sender z.at; node = z.node; sent = z.sent }

-- ONE REPLY
out-one : (a b : Out) → a ∷ [] ≡ b ∷ [] → a ≡ b
out-one a b e = heads-same a b [] [] e

told-one : (g : Gxid) (a b : Reply) → message.Answer g a ≡ message.Answer g b → a ≡ b
told-one g a b e = cc

reply-one : (g : Gxid) (a b : Reply) → reply_out g a ∷ [] ≡ reply_out g b ∷ [] → a ≡ b
reply-one g a b e = told-one g a b (ap (λ (o : Out). o.message) (out-one (reply_out g a) (reply_out g b) e))

no-both : (from to n : Node) (number : ℕ) (g : Gxid) → Receive from to number ≡ Resume n g → ⊥
no-both from to n number g e = cc

same-from : (f h to : Node) (m n : ℕ) → Receive f to m ≡ Receive h to n → f ≡ h
same-from f h to m n e = cc

same-number : (f h to : Node) (m n : ℕ) → Receive f to m ≡ Receive h to n → m ≡ n
same-number f h to m n e = cc

module _ (script : Script) (w : World) (event : Event) (fails : Bool) (segment : Node) (g : Gxid) (c : Cid) where
  abbrev Gives : Level → Option Snapshot → Slice → Reply → Type 0
  Gives level snapshot slice r = RunsAtOnce script w event fails segment g c level snapshot slice r ⊎ RunsBehindWait script w event segment g c level snapshot slice r

  gives-one : (l k : Level) (s t : Option Snapshot) (x y : Slice) (a b : Reply) → Gives l s x a → Gives k t y b → a ≡ b
  gives-one l k s t x y a b (inl p) (inl q) =
      let e = sym p.is ∙ q.is in
      let envelopes : p.envelope ≡ q.envelope =
      some-same p.envelope q.envelope (
      sym p.posted ∙ ap (λ (f : Node). found f segment p.number w.sent) (same-from p.from q.from segment p.number q.number e)
      ∙ ap (λ n. found q.from segment n w.sent) (same-number p.from q.from segment p.number q.number e) ∙ q.posted) in
      reply-one g a b (sym p.given ∙ ap (λ (v : Envelope). (on_message script (w.segs segment.0) fails v.message).outs) envelopes ∙ q.given)
  gives-one l k s t x y a b (inl p) (inr q) = absurd (no-both p.from segment segment p.number g (sym p.is ∙ q.is))
  gives-one l k s t x y a b (inr p) (inl q) = absurd (no-both q.from segment segment q.number g (sym q.is ∙ p.is))
  gives-one l k s t x y a b (inr p) (inr q) = reply-one g a b (sym p.given ∙ q.given)

module _ (script : Script) (some : 1 ≤ script.segments) (numbered : AreLinesNumbered [] script.lines) (es : Events) where
  -- BEFORE ITS STEP NONE WAS SENT
  module _ (segment : Node) (one : 1 ≤ segment.0) (g : Gxid) (c : Cid) (r : Reply) (x : IsEarned script es segment g c r) where
    pub unsent : (other : Reply) → IsOfCommand other c → (s m : ℕ) (to : Node) (number : ℕ) → IsSending (world_of script x.given.before).steps s m segment to number (message.Answer g other) → ⊥
    unsent other kind s m to number z = by_way x.given.ran
      where
        of_word : (q : Reply) → IsOfCommand q c → IsToldOf script (marks_in (world_of script x.given.before).steps) (next_command (local_of ((world_of script x.given.before).segs segment.0) g)) segment g q
            → c.0 < next_command (local_of ((world_of script x.given.before).segs segment.0) g)
        of_word (reply.Done d wrote count part) e t = subst (λ (k : Cid). k.0 < next_command (local_of ((world_of script x.given.before).segs segment.0) g)) e t.0
        of_word (reply.Failed d why) e t = subst (λ (k : Cid). k.0 < next_command (local_of ((world_of script x.given.before).segs segment.0) g)) e t.0
        of_word reply.Prepared e t = absurd e
        of_word reply.Committed e t = absurd e
        of_word reply.Jfault e t = absurd e
        of_word reply.Again e t = absurd e
        of_word reply.Restarted e t = absurd e
        of_word reply.Aborted e t = absurd e
        of_word reply.Forgotten e t = absurd e

        below : c.0 < next_command (local_of ((world_of script x.given.before).segs segment.0) g)
        below = of_word other kind (sending-told script (marks_in (world_of script x.given.before).steps) (locals_in (world_of script x.given.before).segs) (world_of script x.given.before).steps s m segment to number (message.Answer g other) one (world-holds script some numbered x.given.before).told z)

        by_way : RunsAtOnce script (world_of script x.given.before) x.given.event x.given.fails segment g c x.level x.snapshot x.slice r ⊎ RunsBehindWait script (world_of script x.given.before) x.given.event segment g c x.level x.snapshot x.slice r → ⊥
        by_way (inl r) = lt-le _ _ r.new (below-next (local_of ((world_of script x.given.before).segs segment.0) g) c.0 below)
        by_way (inr r) = lt-le _ _ below (subst (λ (d : Cid). next_command (local_of ((world_of script x.given.before).segs segment.0) g) ≤ d.0) r.command (waits-next (local_of ((world_of script x.given.before).segs segment.0) g) r.waiting r.waits (r.last ∙ ap (λ (d : Cid). d.0) (sym r.command))))

    -- the events, up to its own
    up-to : es ≡ x.given.before ++ ((x.given.event, x.given.fails) ∷ x.rest)
    up-to = x.split ∙ ap (λ u. u ++ x.rest) x.given.last ∙ append_assoc x.given.before ((x.given.event, x.given.fails) ∷ []) x.rest

    sent-before : (all ws : Events) → all ≡ x.given.before ++ ((x.given.event, x.given.fails) ∷ ws) → IsSending (world_of script all).steps x.sent.step x.sent.mark segment the_coordinator x.number (message.Answer g r)
    sent-before all ws e =
        sent-later script x.upto ws all (e ∙ sym (ap (λ u. u ++ ws) x.given.last ∙ append_assoc x.given.before ((x.given.event, x.given.fails) ∷ []) ws))
        x.sent.step x.sent.mark segment the_coordinator x.number (message.Answer g r) x.sent.sending

  -- TWO ANSWERS
  module _ (segment : Node) (one : 1 ≤ segment.0) (g : Gxid) (c : Cid) (a b : Reply) (of-a : IsOfCommand a c) (of-b : IsOfCommand b c) (x : IsEarned script es segment g c a) (y : IsEarned script es segment g c b) where
    both-same : x.given.before ≡ y.given.before → ◌≡◌ {A = Event × Bool} (x.given.event, x.given.fails) (y.given.event, y.given.fails) → a ≡ b
    both-same e p =
        gives-one script (world_of script y.given.before) y.given.event y.given.fails segment g c x.level y.level x.snapshot y.snapshot x.slice y.slice a b
        (subst (λ (q : Event × Bool). Gives script (world_of script y.given.before) q.0 q.1 segment g c x.level x.snapshot x.slice a) p
        (subst (λ (l : Events). Gives script (world_of script l) x.given.event x.given.fails segment g c x.level x.snapshot x.slice a) e x.given.ran))
        y.given.ran

    earned-one : a ≡ b
    earned-one = by_order (apart x.given.before y.given.before (x.given.event, x.given.fails) (y.given.event, y.given.fails) x.rest y.rest (sym (up-to segment one g c a x) ∙ up-to segment one g c b y))
      where
        by_order : Apart x.given.before y.given.before (x.given.event, x.given.fails) (y.given.event, y.given.fails) → a ≡ b
        by_order (inl h) = absurd (unsent segment one g c b y a of-a x.sent.step x.sent.mark the_coordinator x.number (sent-before segment one g c a x y.given.before h.0 h.1))
        by_order (inr (inl h)) = absurd (unsent segment one g c a x b of-b y.sent.step y.sent.mark the_coordinator y.number (sent-before segment one g c b y x.given.before h.0 h.1))
        by_order (inr (inr h)) = both-same h.0 h.1

  earned-of : (segment : Node) (g : Gxid) (c : Cid) (r : Reply) → IsOfCommand r c → IsReplyEarned script es segment g r → IsEarned script es segment g c r
  earned-of segment g c (reply.Done d wrote count part) e t = subst (λ k. IsEarned script es segment g k (reply.Done d wrote count part)) e t
  earned-of segment g c (reply.Failed d why) e t = subst (λ k. IsEarned script es segment g k (reply.Failed d why)) e t
  earned-of segment g c reply.Prepared e t = absurd e
  earned-of segment g c reply.Committed e t = absurd e
  earned-of segment g c reply.Jfault e t = absurd e
  earned-of segment g c reply.Again e t = absurd e
  earned-of segment g c reply.Restarted e t = absurd e
  earned-of segment g c reply.Aborted e t = absurd e
  earned-of segment g c reply.Forgotten e t = absurd e

  pub answers-one : AreAnswersOne script (world_of script es).steps
  answers-one segment to other number again g c a b place of-a of-b sent second =
      earned-one segment place.0 g c a b of-a of-b (earned-of segment g c a of-a (all-earned script some numbered es segment to number g a place sent)) (earned-of segment g c b of-b (all-earned script some numbered es segment other again g b place second))

pub system-one : (script : Script) (some : 1 ≤ script.segments) (numbered : AreLinesNumbered [] script.lines) (run : Run) → IsSystemRun script run → AreAnswersOne script run.steps
system-one script some numbered run system = let m = system-led script run system in subst (AreAnswersOne script) m.is (answers-one script some numbered m.events)

-- SAID BY WHAT A TRACE SHOWS
module _ (steps : List Step) (script : Script) (one : AreAnswersOne script steps) where
  pub answers-once : DoSegmentsAnswerOnce script steps
  answers-once segment g c place =
      record {
        done = λ to other number again count wrote part cause sent second. no-done (one segment to other number again g c (reply.Done c wrote count part) (reply.Failed c cause) place refl refl sent second);
        failed = λ to other number again cause another sent second. same-cause (one segment to other number again g c (reply.Failed c cause) (reply.Failed c another) place refl refl sent second);
      }
    where
      no-done : {wrote : Bool} {count : ℕ} {part : Part} {cause : Cause} → reply.Done c wrote count part ≡ reply.Failed c cause → ⊥
      no-done e = cc

      same-cause : {cause another : Cause} → reply.Failed c cause ≡ reply.Failed c another → cause ≡ another
      same-cause e = cc

pub run-once : (script : Script) (some : 1 ≤ script.segments) (numbered : AreLinesNumbered [] script.lines) (es : Events) → DoSegmentsAnswerOnce script (world_of script es).steps
run-once script some numbered es = answers-once (world_of script es).steps script (answers-one script some numbered es)

pub system-once : (script : Script) (some : 1 ≤ script.segments) (numbered : AreLinesNumbered [] script.lines) (run : Run) → IsSystemRun script run → DoSegmentsAnswerOnce script run.steps
system-once script some numbered run system = answers-once run.steps script (system-one script some numbered run system)
