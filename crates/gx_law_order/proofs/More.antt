-- What stays where the last step gets more marks: stamps, events, what was sent and what has come.
use Rattle.std.proofs.Common.{◌≡◌, ℕ, zero, suc, ◌+◌, List, [], ◌∷◌, ◌++◌, Some, Bool, true, false, refl, sym, subst, ap, ◌∙◌, if◌then◌else◌, arith, append-nil}
use Rattle.std.proofs.lemmas.Bool.Decides.{nat_tests}
use Rattle.std.proofs.lemmas.List.{append_assoc}
use Rattle.std.proofs.lemmas.List.Elements.{All-append}
use Rattle.std.specs.Prelude.{All, slice_get, take}
use Rattle.gx_lemmas.proofs.Lists.{get-append}
use Rattle.gx_lemmas.proofs.Options.{some-same}
use Rattle.gx_ids.specs.declared.ids.Node.{Node}
use Rattle.gx_msg.specs.declared.message.Message.{Message}
use Rattle.gx_script.specs.declared.Script.{Script}
use Rattle.gx_store.specs.declared.event.Event.{Event}
use Rattle.gx_store.specs.declared.event.Event.TheVariants as event
use Rattle.gx_store.specs.declared.mark.Mark.{Mark}
use Rattle.gx_store.specs.declared.mark.Mark.TheVariants.{Sent}
use Rattle.gx_ids.specs.declared.stamp.Stamp.{Stamp}
use Rattle.gx_store.specs.declared.run.Step.{Step}
use Rattle.gx_store.specs.Journals.{is_same_node}
use Rattle.gx_store.specs.Messages.{Receives}
use Rattle.gx_store.specs.Ordered.{AreNumbered, AreOrdered, IsAtNode, IsEventAt, clock_of, sent_count, sent_in}
use Rattle.gx_store.specs.Points.{marks_in}
use Rattle.gx_store.specs.Refusals.{the_coordinator}
use Rattle.gx_rules.specs.Machine.{Letter, World, with_more}
use Rattle.gx_rules.proofs.Turns.{with_more-last}
use Rattle.gx_law_order.proofs.Clocks.{earlier_clock}
use Rattle.gx_law_order.proofs.Letters.{IsLetter}
use Rattle.gx_law_order.proofs.Sent.{at, sent_count-append, sent_in-last}
use Rattle.gx_law_order.proofs.Suspended.{HasCome, IsAmong}

-- STEPS
-- the same step, with marks behind its own
pub record IsMoreOf (x y : Step) : Type 0 where
  pub stamp : y.stamp ≡ x.stamp
  pub event : y.event ≡ x.event
  pub added : List Mark
  pub marks : y.marks ≡ x.marks ++ added

pub record HasMore (ss : List Step) (k : ℕ) (x : Step) : Type 0 where
  pub step : Step
  pub at : slice_get ss k ≡ Some step
  pub is : IsMoreOf x step

itself : (x : Step) → IsMoreOf x x
itself x = record { stamp = refl; event = refl; added = []; marks = sym (append-nil x.marks) }

-- each step is still there, and those before it are as they were
pub get-more : (ss : List Step) (ms : List Mark) (k : ℕ) (x : Step) → slice_get ss k ≡ Some x → HasMore (with_more ss ms) k x
get-more [] ms k x e = absurd (cc)
get-more (s ∷ []) ms zero x e =
    record { step = record s { marks = s.marks ++ ms }; at = refl; is = subst (λ y. IsMoreOf y (record s { marks = s.marks ++ ms })) (some-same s x e) (record { stamp = refl; event = refl; added = ms; marks = refl }) }
get-more (s ∷ []) ms (suc k) x e = absurd (cc)
get-more (s ∷ t ∷ ss) ms zero x e = record { step = s; at = refl; is = subst (λ y. IsMoreOf y s) (some-same s x e) (itself s) }
get-more (s ∷ t ∷ ss) ms (suc k) x e = let h = get-more (t ∷ ss) ms k x e in record { step = h.step; at = h.at; is = h.is }

pub take-more : (ss : List Step) (ms : List Mark) (k : ℕ) (x : Step) → slice_get ss k ≡ Some x → take k (with_more ss ms) ≡ take k ss
take-more [] ms k x e = absurd (cc)
take-more (s ∷ []) ms zero x e = refl
take-more (s ∷ []) ms (suc k) x e = absurd (cc)
take-more (s ∷ t ∷ ss) ms zero x e = refl
take-more (s ∷ t ∷ ss) ms (suc k) x e = ap (λ q. s ∷ q) (take-more (t ∷ ss) ms k x e)

pub clock-more : (node : Node) (ss : List Step) (ms : List Mark) → clock_of node (with_more ss ms) ≡ clock_of node ss
clock-more node [] ms = refl
clock-more node (s ∷ []) ms = refl
clock-more node (s ∷ t ∷ ss) ms = ap (earlier_clock node s) (clock-more node (t ∷ ss) ms)

pub marks-last : (steps : List Step) (s : Step) → marks_in (steps ++ s ∷ []) ≡ marks_in steps ++ s.marks
marks-last [] s = append-nil s.marks
marks-last (x ∷ steps) s = ap (λ ms. x.marks ++ ms) (marks-last steps s) ∙ sym (append_assoc x.marks (marks_in steps) s.marks)

-- the marks of all steps, where there is a last one
pub marks-more : (ss before : List Step) (s : Step) (ms : List Mark) → ss ≡ before ++ s ∷ [] → marks_in (with_more ss ms) ≡ marks_in ss ++ ms
marks-more ss before s ms e =
    ap (λ q. marks_in (with_more q ms)) e
    ∙ ap marks_in (with_more-last before s ms)
    ∙ marks-last before (record s { marks = s.marks ++ ms })
    ∙ sym (append_assoc (marks_in before) s.marks ms)
    ∙ ap (λ q. q ++ ms) (sym (ap marks_in e ∙ marks-last before s))

-- MESSAGES
pub letter-more : (script : Script) (ss : List Step) (ms : List Mark) (l : Letter) → IsLetter script ss l → IsLetter script (with_more ss ms) l
letter-more script ss ms l e =
    let h = get-more ss ms e.step e.sending.sender e.sending.at in
    record {
      link = e.link;
      step = e.step;
      mark = e.mark;
      sending = record {
        sender = h.step;
        at = h.at;
        node = ap (λ (x : Stamp). x.node) h.is.stamp ∙ e.sending.node;
        sent = subst (λ q. slice_get q e.mark ≡ Some (Sent l.to l.envelope.number l.envelope.message)) (sym h.is.marks)
            (get-append e.sending.sender.marks h.is.added e.mark (Sent l.to l.envelope.number l.envelope.message) e.sending.sent);
      };
      clock = ap (λ (x : Stamp). x.clock) h.is.stamp ∙ e.clock;
      incarnation = e.incarnation;
    }

-- what was sent in all
pub sent-more : (from to : Node) (ss before : List Step) (s : Step) (ms : List Mark) → ss ≡ before ++ s ∷ [] → is_same_node s.stamp.node from ≡ true → sent_in from to (with_more ss ms) ≡ sent_in from to ss + sent_count to ms
sent-more from to ss before s ms e own =
    ap (λ q. sent_in from to (with_more q ms)) e ∙ ap (sent_in from to) (with_more-last before s ms)
    ∙ adds (sent_in from to before) (sent_count to s.marks) (sent_count to ms) (sent_in-last from to before (record s { marks = s.marks ++ ms })) (sent_count-append to s.marks ms) (sent_in-last from to before s) own
    ∙ ap (λ q. sent_in from to q + sent_count to ms) (sym e)
  where
    adds : (a b c : ℕ) {x y z : ℕ} {own : Bool} → x ≡ a + (if own then y else 0) → y ≡ b + c → z ≡ a + (if own then b else 0) → own ≡ true → x ≡ z + c
    adds a b c e f h own = grind (arith, nat_tests)

pub sent-other : (from to : Node) (ss before : List Step) (s : Step) (ms : List Mark) → ss ≡ before ++ s ∷ [] → is_same_node s.stamp.node from ≡ false → sent_in from to (with_more ss ms) ≡ sent_in from to ss
sent-other from to ss before s ms e other =
    ap (λ q. sent_in from to (with_more q ms)) e ∙ ap (sent_in from to) (with_more-last before s ms)
    ∙ same (sent_in from to before) (sent_count to (s.marks ++ ms)) (sent_count to s.marks) (sent_in-last from to before (record s { marks = s.marks ++ ms })) (sent_in-last from to before s) other
    ∙ ap (sent_in from to) (sym e)
  where
    same : (a b c : ℕ) {x y : ℕ} {own : Bool} → x ≡ a + (if own then b else 0) → y ≡ a + (if own then c else 0) → own ≡ false → x ≡ y
    same a b c e f own = grind (arith, nat_tests)

-- what has come to a segment has come
pub come-more : (w v : World) (i : ℕ) (ms : List Mark) (m : Message) → v.steps ≡ with_more w.steps ms → ((l : Letter) → IsAmong l w.sent → IsAmong l v.sent) → HasCome w i m → HasCome v i m
come-more w v i ms m e more h =
    let x = get-more w.steps ms h.place h.step h.stands in
    record {
      letter = h.letter;
      among = more h.letter h.among;
      source = h.source;
      target = h.target;
      told = h.told;
      place = h.place;
      step = x.step;
      stands = subst (λ ss. slice_get ss h.place ≡ Some x.step) (sym e) x.at;
      node = ap (λ (y : Stamp). y.node) x.is.stamp ∙ h.node;
      received = subst (λ ss. Receives ss x.step.event the_coordinator (at i) m) (sym (ap (take h.place) e ∙ take-more w.steps ms h.place h.step h.stands))
          (subst (λ q. Receives (take h.place w.steps) q the_coordinator (at i) m) (sym x.is.event) h.received);
    }

-- ORDER
numbered-append : (node : Node) (steps : List Step) (earlier xs ys : List Mark) → AreNumbered node steps earlier xs → AreNumbered node steps (earlier ++ xs) ys → AreNumbered node steps earlier (xs ++ ys)
numbered-append node steps earlier [] ys e f = subst (λ q. AreNumbered node steps q ys) (append-nil earlier) f
numbered-append node steps earlier (Sent to number told ∷ xs) ys e f =
    (e.0, numbered-append node steps (earlier ++ Sent to number told ∷ []) xs ys e.1 (subst (λ q. AreNumbered node steps q ys) (sym (append_assoc earlier (Sent to number told ∷ []) xs)) f))
numbered-append node steps earlier (m ∷ xs) ys e f =
    numbered-append node steps (earlier ++ m ∷ []) xs ys e (subst (λ q. AreNumbered node steps q ys) (sym (append_assoc earlier (m ∷ []) xs)) f)

event-more : (script : Script) (steps : List Step) (s : Step) (ms : List Mark) (e : Event) → IsEventAt script steps s e → IsEventAt script steps (record s { marks = ms }) e
event-more script steps s ms (event.Receive from to number) h = h
event-more script steps s ms (event.Resume n g) h = h
event-more script steps s ms (event.Start x) h = h
event-more script steps s ms (event.End x) h = h
event-more script steps s ms (event.Resend i g) h = h
event-more script steps s ms event.Round h = h
event-more script steps s ms (event.Restart n) h = h

-- the last step may have more marks, where they stand at its node and have the next numbers
pub ordered-more : (script : Script) (done before : List Step) (s : Step) (ms : List Mark) → AreOrdered script done (before ++ s ∷ []) → All (IsAtNode script s.stamp.node) ms → AreNumbered s.stamp.node (done ++ before) s.marks ms → AreOrdered script done (before ++ record s { marks = s.marks ++ ms } ∷ [])
ordered-more script done [] s ms e a n = (
  record {
    rising = e.0.rising;
    event = event-more script done s (s.marks ++ ms) s.event e.0.event;
    marks = All-append (IsAtNode script s.stamp.node) s.marks ms e.0.marks a;
    numbers = numbered-append s.stamp.node done [] s.marks ms e.0.numbers (subst (λ q. AreNumbered s.stamp.node q s.marks ms) (append-nil done) n);
  },
  tt,
)
ordered-more script done (x ∷ before) s ms e a n =
    (e.0, ordered-more script (done ++ x ∷ []) before s ms e.1 a (subst (λ q. AreNumbered s.stamp.node q s.marks ms) (sym (append_assoc done (x ∷ []) before)) n))
