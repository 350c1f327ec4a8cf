-- What steps become by a turn: a step more, or the last one with more marks.
use Rattle.std.proofs.Common.{◌≡◌, ℕ, ◌+◌, List, [], ◌∷◌, ◌++◌, inl, inr, refl, sym, subst, ap, ◌∙◌, append-nil}
use Rattle.std.proofs.lemmas.List.{append_assoc}
use Rattle.std.specs.Prelude.{take}
use Rattle.gx_lemmas.proofs.Numbers.{plus-none}
use Rattle.gx_ids.specs.declared.ids.Node.{Node}
use Rattle.gx_ids.specs.declared.ids.SessionId.{SessionId}
use Rattle.gx_msg.specs.declared.message.Message.{Message}
use Rattle.gx_store.specs.declared.event.Event.{Event}
use Rattle.gx_store.specs.declared.event.Event.TheVariants as event
use Rattle.gx_store.specs.declared.mark.Mark.{Mark}
use Rattle.gx_store.specs.declared.run.Step.{Step}
use Rattle.gx_store.specs.Messages.{Receives}
use Rattle.gx_store.specs.Points.{IsPointOf, Point, ends_by, ends_in, marks_in, starts_by, starts_in}
use Rattle.gx_store.specs.Refusals.{the_coordinator}
use Rattle.gx_store.proofs.Runs.{ends_in-push, marks_in-push, starts_in-push}
use Rattle.gx_rules.specs.Machine.{with_more}
use Rattle.gx_law_order.proofs.More.{get-more, marks-more, take-more}
use Rattle.gx_law_order.specs.Alive.{IsHeard}
use Rattle.gx_law_order.proofs.Gathers.{HeardNow, heard-later}

-- a point of these steps, where its step may have more marks by now
pub record IsStill (steps : List Step) (point : Point) : Type 0 where
  pub later : List Mark
  pub of : IsPointOf steps (record point { later = later })

-- the steps have become others, by an event and these marks behind all
pub record Becomes (steps new : List Step) (e : Event) (ns : List Mark) : Type 0 where
  pub marks : marks_in new ≡ marks_in steps ++ ns
  pub starts : (k : SessionId) → starts_in k new ≡ starts_in k steps + starts_by k e
  pub ends : (k : SessionId) → ends_in k new ≡ ends_in k steps + ends_by k e
  pub heard : (from : Node) (m : Message) → HeardNow steps e from m → IsHeard new from m
  pub points : (point : Point) → IsPointOf steps point → IsStill new point

-- A STEP MORE
pub by-step : (steps : List Step) (s : Step) → Becomes steps (steps ++ s ∷ []) s.event s.marks
by-step steps s =
    record {
      marks = marks_in-push steps s;
      starts = λ k. starts_in-push k steps s;
      ends = λ k. ends_in-push k steps s;
      heard = λ from m h. heard-later steps s s.event from m refl h;
      points = λ point of. record {
        later = point.later;
        of = record { step = of.step; rest = of.rest ++ s ∷ []; among = ap (λ ss. ss ++ s ∷ []) of.among ∙ append_assoc point.steps (of.step ∷ of.rest) (s ∷ []); event = of.event; marks = of.marks };
      };
    }

-- MORE MARKS IN THE LAST STEP
starts-more : (k : SessionId) (ss : List Step) (ms : List Mark) → starts_in k (with_more ss ms) ≡ starts_in k ss
starts-more k [] ms = refl
starts-more k (s ∷ []) ms = refl
starts-more k (s ∷ t ∷ ss) ms = ap (λ n. starts_by k s.event + n) (starts-more k (t ∷ ss) ms)

ends-more : (k : SessionId) (ss : List Step) (ms : List Mark) → ends_in k (with_more ss ms) ≡ ends_in k ss
ends-more k [] ms = refl
ends-more k (s ∷ []) ms = refl
ends-more k (s ∷ t ∷ ss) ms = ap (λ n. ends_by k s.event + n) (ends-more k (t ∷ ss) ms)

heard-more : (ss : List Step) (ms : List Mark) (from : Node) (m : Message) → IsHeard ss from m → IsHeard (with_more ss ms) from m
heard-more ss ms from m h =
    let x = get-more ss ms h.place h.step h.at in
    record {
      place = h.place;
      step = x.step;
      at = x.at;
      is = subst (λ q. Receives q x.step.event from the_coordinator m) (sym (take-more ss ms h.place h.step h.at)) (subst (λ e. Receives (take h.place ss) e from the_coordinator m) (sym x.is.event) h.is);
    }

-- a round's event receives nothing
heard-by-round : (ss : List Step) (from : Node) (m : Message) → HeardNow ss event.Round from m → IsHeard ss from m
heard-by-round ss from m (k, inl h) = record { place = k; step = h.0; at = h.1; is = h.2 }
heard-by-round ss from m (k, inr h) = absurd (differ h.1.number h.1.is)
  where
    differ : (n : ℕ) → event.Round ≡ event.Receive from the_coordinator n → ⊥
    differ n e = cc

-- a step among them
record IsThere (xs : List Step) (s : Step) (ss : List Step) : Type 0 where
  step : Step
  rest : List Step
  added : List Mark
  is : ss ≡ xs ++ step ∷ rest
  event : step.event ≡ s.event
  marks : step.marks ≡ s.marks ++ added

there-more : (xs : List Step) (s : Step) (rest : List Step) (ms : List Mark) → IsThere xs s (with_more (xs ++ s ∷ rest) ms)
there-more [] s [] ms = record { step = record s { marks = s.marks ++ ms }; rest = []; added = ms; is = refl; event = refl; marks = refl }
there-more [] s (t ∷ ts) ms = record { step = s; rest = with_more (t ∷ ts) ms; added = []; is = refl; event = refl; marks = sym (append-nil s.marks) }
there-more (x ∷ []) s rest ms = let h = there-more [] s rest ms in record { step = h.step; rest = h.rest; added = h.added; is = ap (λ ss. x ∷ ss) h.is; event = h.event; marks = h.marks }
there-more (x ∷ y ∷ xs) s rest ms = let h = there-more (y ∷ xs) s rest ms in record { step = h.step; rest = h.rest; added = h.added; is = ap (λ ss. x ∷ ss) h.is; event = h.event; marks = h.marks }

point-more : (ss : List Step) (ms : List Mark) (point : Point) → IsPointOf ss point → IsStill (with_more ss ms) point
point-more ss ms point of =
    let h = there-more point.steps of.step of.rest ms in
    record {
      later = point.later ++ h.added;
      of = record {
        step = h.step;
        rest = h.rest;
        among = ap (λ q. with_more q ms) of.among ∙ h.is;
        event = of.event ∙ sym h.event;
        marks = h.marks ∙ ap (λ q. q ++ h.added) of.marks ∙ append_assoc point.earlier point.later h.added;
      };
    }

pub by-more : (ss before : List Step) (s : Step) (ms : List Mark) → ss ≡ before ++ s ∷ [] → Becomes ss (with_more ss ms) event.Round ms
by-more ss before s ms is =
    record {
      marks = marks-more ss before s ms is;
      starts = λ k. starts-more k ss ms ∙ sym (plus-none (starts_in k ss));
      ends = λ k. ends-more k ss ms ∙ sym (plus-none (ends_in k ss));
      heard = λ from m h. heard-more ss ms from m (heard-by-round ss from m h);
      points = point-more ss ms;
    }
