-- The counts of steps, event by event and mark by mark.
use Rattle.std.proofs.Common.{◌≡◌, ℕ, ◌+◌, ◌<◌, ◌^◌, Bool, true, false, cond, List, [], ◌∷◌, ◌++◌, ◌≤◌, length, take, drop, get_or, refl, sym, ap, ◌∙◌, subst, arith}
use Rattle.std.proofs.lemmas.List.{take_all, take-append-drop, take_more}
use Rattle.std.proofs.Math.Path.{fun_ext}
use Rattle.std.specs.Prelude.{None, OnOk, Option, Result, Ok, Err, Some}
use Rattle.gx_ids.specs.declared.ids.Gxid.{Gxid}
use Rattle.gx_ids.specs.declared.ids.Node.{Node}
use Rattle.gx_ids.specs.declared.ids.SessionId.{SessionId}
use Rattle.gx_msg.specs.declared.message.Message.{Message}
use Rattle.gx_script.specs.declared.Line.{Line}
use Rattle.gx_store.specs.declared.event.Event.{Event}
use Rattle.gx_store.specs.declared.event.Event.TheVariants as event
use Rattle.gx_store.specs.declared.mark.Mark.{Mark}
use Rattle.gx_store.specs.declared.mark.Mark.TheVariants as mark
use Rattle.gx_store.specs.declared.run.Step.{Step}
use Rattle.gx_store.specs.Marks.{answer_count, is_same_session}
use Rattle.gx_store.specs.Ordered.{sent_count}
use Rattle.gx_store.specs.Points.{marks_in, starts_by, starts_in}
use Rattle.gx_store.specs.Schedule.{asked_by}
use Rattle.gx_store.specs.Waits.{waits_from}
use Rattle.gx_waits.specs.declared.claim.Claim.{Claim}
use Rattle.gx_store.proofs.Marks.{answer_count-append}
use Rattle.gx_store.proofs.Runs.{marks_in-push, starts_in-push}
use Rattle.gx_agenda.specs.declared.queue.Queue.{Queue}
use Rattle.gx_agenda.specs.Moves.{AreFew, more_for, session_answered, session_started}
use Rattle.gx_agenda.specs.Queued.{AreCounted, AreQueuedBy}

-- the same counts
pub counts-same : (lines : List Line) (f g f' g' : SessionId → ℕ) (queue : Queue) → ((s : SessionId) → f s ≡ f' s) → ((s : SessionId) → g s ≡ g' s) → AreQueuedBy lines f g queue → AreQueuedBy lines f' g' queue
counts-same lines f g f' g' queue e h queued = subst (λ (k : SessionId → ℕ). AreQueuedBy lines k g' queue) (fun_ext e) (subst (λ (k : SessionId → ℕ). AreQueuedBy lines f k queue) (fun_ext h) queued)

pub few-same : (f g : SessionId → ℕ) → ((s : SessionId) → f s ≡ g s) → AreFew f → AreFew g
few-same f g e few s = subst (λ n. n < 2 ^ 62) (e s) (few s)

-- none more for a session
pub none-more : (session : SessionId) (f : SessionId → ℕ) (s : SessionId) → more_for session 0 f s ≡ f s
none-more session f s = by (is_same_session session s)
  where
    by : (b : Bool) → f s + cond b 0 0 ≡ f s
    by true = omega arith
    by false = omega arith

-- AN EVENT
pub event-starts : (e : Event) (session : SessionId) → session_started e ≡ Some session → (f : SessionId → ℕ) (s : SessionId) → more_for session 1 f s ≡ f s + starts_by s e
event-starts (event.Start t) session is f s = let same : t ≡ session = cc in ap (λ k. f s + cond (is_same_session k s) 1 0) (sym same)
event-starts _ session is f s = absurd (cc)

pub event-none : (e : Event) → session_started e ≡ None → (f : SessionId → ℕ) (s : SessionId) → f s ≡ f s + starts_by s e
event-none (event.Start t) is f s = absurd (cc)
event-none _ is f s = omega arith

-- A MARK
pub mark-answers : (m : Mark) (session : SessionId) → session_answered m ≡ Some session → (g : SessionId → ℕ) (s : SessionId) → more_for session 1 g s ≡ g s + answer_count s (m ∷ [])
mark-answers (mark.Answer t n a) session is g s = let same : t ≡ session = cc in ap (λ k. g s + cond (is_same_session k s) 1 0) (sym same)
mark-answers _ session is g s = absurd (cc)

pub mark-none : (m : Mark) → session_answered m ≡ None → (g : SessionId → ℕ) (s : SessionId) → g s ≡ g s + answer_count s (m ∷ [])
mark-none (mark.Answer t n a) is g s = absurd (cc)
mark-none _ is g s = omega arith

-- a mark that answers sends nothing, asks nothing, and no wait begins or ends by it
pub answer-sends : (m : Mark) (session : SessionId) → session_answered m ≡ Some session → (to : Node) → sent_count to (m ∷ []) ≡ 0
answer-sends (mark.Answer t n a) session is to = refl
answer-sends _ session is to = absurd (cc)

pub answer-asks : (m : Mark) (session : SessionId) → session_answered m ≡ Some session → (i : Node) (g : Gxid) (was : Option Message) → asked_by i g was (m ∷ []) ≡ was
answer-asks (mark.Answer t n a) session is i g was = refl
answer-asks _ session is i g was = absurd (cc)

pub answer-waits : (m : Mark) (session : SessionId) → session_answered m ≡ Some session → (node : Node) (ws : List Claim) → waits_from node ws (m ∷ []) ≡ ws
answer-waits (mark.Answer t n a) session is node ws = refl
answer-waits _ session is node ws = absurd (cc)

-- what holds where it went well
pub on-ok : {A E : Type 0} (r : Result A E) {P Q : Type 0} → OnOk r P → (P → Q) → OnOk r Q
on-ok (Ok a) p so = so p
on-ok (Err e) p so = p

-- SEVERAL MARKS
module _ (lines : List Line) (f g : SessionId → ℕ) (ms : List Mark) where
  abbrev after : ℕ → SessionId → ℕ
  after i s = g s + answer_count s (take i ms)

  pub marks-none : (queue : Queue) → AreQueuedBy lines f g queue → AreQueuedBy lines f (after 0) queue
  marks-none queue queued = counts-same lines f g f (after 0) queue (λ s. refl) (λ s. omega arith) queued

  pub marks-all : (i : ℕ) (queue : Queue) → length ms ≤ i → AreQueuedBy lines f (after i) queue → AreQueuedBy lines f (λ s. g s + answer_count s ms) queue
  marks-all i queue past queued = counts-same lines f (after i) f (λ s. g s + answer_count s ms) queue (λ s. refl) (λ s. ap (λ xs. g s + answer_count s xs) (take_all i ms past)) queued

  module _ (i : ℕ) (m : Mark) (inside : i < length ms) (is : m ≡ get_or ms i m) where
    one-more : (s : SessionId) → after i s + answer_count s (m ∷ []) ≡ after (i + 1) s
    one-more s = omega (arith, answer_count-append s (take i ms) (m ∷ []), ap (answer_count s) (ap (λ x. take i ms ++ x ∷ []) is ∙ sym (take_more ms i m inside)))

    few-more : AreFew (λ s. g s + answer_count s ms) → AreFew (after (i + 1))
    few-more few s = omega (arith, few s, ap (answer_count s) (sym (take-append-drop (i + 1) ms)) ∙ answer_count-append s (take (i + 1) ms) (drop (i + 1) ms))

    pub marks-step : (old new : Queue) → AreFew f → AreFew (λ s. g s + answer_count s ms) → AreQueuedBy lines f (after i) old
        → ((h k : SessionId → ℕ) → AreQueuedBy lines h k old → AreFew h → AreFew (λ s. k s + answer_count s (m ∷ [])) → AreQueuedBy lines h (λ s. k s + answer_count s (m ∷ [])) new)
        → AreQueuedBy lines f (after (i + 1)) new
    marks-step old new few few_answered queued noted =
        counts-same lines f (λ s. after i s + answer_count s (m ∷ [])) f (after (i + 1)) new (λ s. refl) one-more
        (noted f (after i) queued few (few-same (after (i + 1)) (λ s. after i s + answer_count s (m ∷ [])) (λ s. sym (one-more s)) (few-more few_answered)))

-- A STEP
-- what is known of a queue that marks have changed
abbrev pub AreNoted : Queue → Queue → List Mark → Type 0
AreNoted old new ms =
    (lines : List Line) (f g : SessionId → ℕ) → AreQueuedBy lines f g old → AreFew f → AreFew (λ s. g s + answer_count s ms) → AreQueuedBy lines f (λ s. g s + answer_count s ms) new

module _ (steps : List Step) (step : Step) where
  abbrev starts : SessionId → ℕ
  starts s = starts_in s steps + starts_by s step.event

  abbrev answers : SessionId → ℕ
  answers s = answer_count s (marks_in steps) + answer_count s step.marks

  answers-push : (s : SessionId) → answer_count s (marks_in (steps ++ step ∷ [])) ≡ answers s
  answers-push s = ap (answer_count s) (marks_in-push steps step) ∙ answer_count-append s (marks_in steps) step.marks

  pub few-starts : AreCounted (steps ++ step ∷ []) → AreFew starts
  few-starts counted = few-same (λ s. starts_in s (steps ++ step ∷ [])) starts (λ s. starts_in-push s steps step) counted.starts

  few-answers : AreCounted (steps ++ step ∷ []) → AreFew answers
  few-answers counted = few-same (λ s. answer_count s (marks_in (steps ++ step ∷ []))) answers answers-push counted.answers

  pub few-before : AreCounted (steps ++ step ∷ []) → AreFew (λ s. answer_count s (marks_in steps))
  few-before counted s = omega (arith, few-answers counted s)

  pub step-noted : (lines : List Line) (old new : Queue) → AreCounted (steps ++ step ∷ []) → AreNoted old new step.marks → AreQueuedBy lines starts (λ s. answer_count s (marks_in steps)) old
      → AreQueuedBy lines (λ s. starts_in s (steps ++ step ∷ [])) (λ s. answer_count s (marks_in (steps ++ step ∷ []))) new
  step-noted lines old new counted noted queued =
      counts-same lines starts answers (λ s. starts_in s (steps ++ step ∷ [])) (λ s. answer_count s (marks_in (steps ++ step ∷ []))) new (λ s. sym (starts_in-push s steps step)) (λ s. sym (answers-push s))
      (noted lines starts (λ s. answer_count s (marks_in steps)) queued (few-starts counted) (few-answers counted))
