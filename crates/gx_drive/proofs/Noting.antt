-- What the agenda takes note of once a step was done.
use Rattle.std.proofs.Common.{◌≡◌, ◌≤◌, ◌<◌, ◌^◌, ℕ, ◌+◌, ◌-◌, List, [], ◌∷◌, ◌++◌, Option, Some, None, true, refl, sym, ap, ◌∙◌, subst, arith, length, length-append}
use Rattle.std.specs.Prelude.{slice_get}
use Rattle.gx_lemmas.proofs.Options.{some-same}
use Rattle.gx_lemmas.proofs.Tests.{false-true}
use Rattle.gx_ids.specs.declared.ids.Node.{Node}
use Rattle.gx_ids.specs.declared.ids.SessionId.{SessionId}
use Rattle.gx_msg.specs.declared.message.Envelope.{Envelope}
use Rattle.gx_script.specs.declared.Script.{Script}
use Rattle.gx_store.specs.declared.event.Event.{Event}
use Rattle.gx_store.specs.declared.event.Event.TheVariants as event
use Rattle.gx_store.specs.declared.run.Step.{Step}
use Rattle.gx_store.specs.Marks.{answer_count}
use Rattle.gx_store.specs.Points.{marks_in, starts_in}
use Rattle.gx_store.specs.Schedule.{sent_message}
use Rattle.gx_rules.specs.Machine.{can_here, delivered, found}
use Rattle.gx_law_runs.specs.Links.{message_of}
use Rattle.gx_law_runs.proofs.Links.{sent_message-kept}
use Rattle.gx_law_runs.proofs.World.{world-letters}
use Rattle.gx_law_runs.specs.Reached.{IsReached}
use Rattle.gx_law_runs.specs.Replays.{is_admitted, letters_after, world_behind}
use Rattle.gx_law_runs.proofs.Reaching.{by-events, replayed}
use Rattle.gx_law_runs.proofs.Finishing.{room}
use Rattle.gx_agenda.specs.Awaited.{told_in}
use Rattle.gx_agenda.specs.Queued.{AreCounted}
use Rattle.gx_law_order.proofs.Lists.{get_last}
use Rattle.gx_drive.specs.Agrees.{IsDue}

module _ (script : Script) (some : 1 ≤ script.segments) where
  pub counted : (steps : List Step) → IsReached script steps → length steps < 2 ^ 62 → AreCounted steps
  counted steps is few =
      record {
        starts = λ session. below (starts_in session steps) (length steps) (rooms session).1 few;
        answers = λ session. below (answer_count session (marks_in steps)) (length steps) (through _ (starts_in session steps) _ (rooms session).0 (rooms session).1) few;
      }
    where
      rooms : (session : SessionId) → (answer_count session (marks_in steps) ≤ starts_in session steps) × (starts_in session steps ≤ length steps)
      rooms session = by-events script steps is (λ ss. (answer_count session (marks_in ss) ≤ starts_in session ss) × (starts_in session ss ≤ length ss)) (room script some session)

      below : (a b : ℕ) → a ≤ b → b < 2 ^ 62 → a < 2 ^ 62
      below a b h k = omega (arith, h, k)

      through : (a b c : ℕ) → a ≤ b → b ≤ c → a ≤ c
      through a b c h k = omega (arith, h, k)

  module _ (steps : List Step) (is : IsReached script steps) where
    sent-found : (from to : Node) (number : ℕ) → sent_message from to number steps ≡ message_of (found from to number (letters_after steps))
    sent-found from to number =
        ap (sent_message from to number) (sym is.is)
        ∙ (world-letters script some is.events from to number).message
        ∙ ap (λ ls. message_of (found from to number ls)) (replayed script steps is).sent

    -- the message that an event receives is found behind its step too
    pub told-kept : (step : Step) (e : Event) → is_admitted script steps e ≡ true → told_in (steps ++ step ∷ []) e ≡ told_in steps e
    told-kept step (event.Receive from to number) admitted = by (found from to number (letters_after steps)) refl
      where
        by : (o : Option Envelope) → found from to number (letters_after steps) ≡ o → sent_message from to number (steps ++ step ∷ []) ≡ sent_message from to number steps
        by None e = absurd (false-true (sym (ap (λ x. can_here script (world_behind script steps) to (delivered from x)) e) ∙ admitted))
        by (Some envelope) e =
            let m : sent_message from to number steps ≡ Some envelope.message = sent-found from to number ∙ ap message_of e in
            sent_message-kept from to number steps step envelope.message m ∙ sym m
    told-kept step (event.Resume node g) admitted = refl
    told-kept step (event.Start session) admitted = refl
    told-kept step (event.End session) admitted = refl
    told-kept step (event.Resend segment g) admitted = refl
    told-kept step event.Round admitted = refl
    told-kept step (event.Restart node) admitted = refl

-- what stands last in a list with one more
pub last-is : (all steps : List Step) (step last : Step) → all ≡ steps ++ step ∷ [] → Some last ≡ slice_get all (length all - 1) → last ≡ step
last-is all steps step last e h = some-same last step (h ∙ ap (λ ss. slice_get ss (length ss - 1)) e ∙ ap (slice_get (steps ++ step ∷ [])) (short (length-append steps (step ∷ []))) ∙ get_last steps [] step)
  where
    short : {m n : ℕ} → m ≡ n + 1 → m - 1 ≡ n
    short e = omega (arith, e)

module _ (script : Script) (some : 1 ≤ script.segments) (all steps : List Step) (step last : Step) (some-same : all ≡ steps ++ step ∷ []) (is : last ≡ step) where
  pub last-due : IsDue script steps step.event → IsDue script steps last.event
  last-due due = subst (λ (s : Step). IsDue script steps s.event) (sym is) due

  pub last-all : steps ++ last ∷ [] ≡ all
  last-all = ap (λ s. steps ++ s ∷ []) is ∙ sym some-same

  pub last-told : IsReached script steps → is_admitted script steps step.event ≡ true → told_in all last.event ≡ told_in steps last.event
  last-told reached admitted = ap (λ ss. told_in ss last.event) some-same ∙ told-kept script some steps reached step last.event (subst (λ (s : Step). is_admitted script steps s.event ≡ true) (sym is) admitted)
