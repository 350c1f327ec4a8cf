-- What is awaited stays awaited over a step of the coordinator that doesn't answer it.
use Rattle.std.proofs.Common.{◌≡◌, ◌≤◌, ℕ, List, [], ◌∷◌, Option, Some, Bool, true, false, refl, sym, ap, ◌∙◌, if◌then◌else◌, ◌&&◌, eqb}
use Rattle.std.specs.Prelude.{is_some}
use Rattle.gx_lemmas.proofs.Numbers.{eqb-turned}
use Rattle.gx_ids.specs.declared.ids.Gxid.{Gxid}
use Rattle.gx_ids.specs.declared.ids.Node.{Node}
use Rattle.gx_msg.specs.declared.message.Message.{Message}
use Rattle.gx_msg.specs.declared.message.Message.TheVariants as message
use Rattle.gx_script.specs.declared.Script.{Script}
use Rattle.gx_store.specs.declared.event.Event.{Event}
use Rattle.gx_store.specs.declared.mark.Mark.{Mark}
use Rattle.gx_store.specs.declared.mark.Mark.TheVariants as mark
use Rattle.gx_store.specs.declared.node.NodeEvent.{NodeEvent}
use Rattle.gx_store.specs.declared.node.NodeEvent.TheVariants as here
use Rattle.gx_store.specs.declared.run.Step.{Step}
use Rattle.gx_store.specs.Journals.{is_same_node}
use Rattle.gx_store.specs.Refusals.{the_coordinator}
use Rattle.gx_store.specs.Schedule.{asked_by, is_about, is_answer_to, unless_answered}
use Rattle.gx_rules.specs.AtCoordinator.{awaited, cancel_turn, coord_can, coord_turn}
use Rattle.gx_rules.specs.Machine.{World, and_cancelled, coord_did}
use Rattle.gx_rules.specs.Sending.{clock_after}
use Rattle.gx_law_order.proofs.Induction.{IsThere}
use Rattle.gx_law_order.proofs.Moves.{HasNamed}
use Rattle.gx_law_order.specs.Standings.{gx}
use Rattle.gx_law_runs.proofs.Awaited.{DoAsk, IsKnown, asked-last, asked-named, coord-asks, left-alike, victim-asked}
use Rattle.gx_law_runs.proofs.Replies.{answer-other, left_by, no-answer, unanswered}
use Rattle.gx_law_runs.proofs.Asked.{IsAsked}

-- the message answers nothing of this transaction
abbrev pub IsOtherMessage : ℕ → Message → Type 0
IsOtherMessage g (message.Answer h r) = eqb h.0 g ≡ false
IsOtherMessage g _ = Unit {0}

abbrev pub IsOther : ℕ → NodeEvent → Type 0
IsOther g (here.Deliver from envelope) = IsOtherMessage g envelope.message
IsOther g _ = Unit {0}

other-answer : (a : Option Message) (g : ℕ) (m : Message) → IsOtherMessage g m → is_answer_to a (gx g) (Some m) ≡ false
other-answer a g (message.Answer h r) e = answer-other a h.0 g r (eqb-turned h.0 g e)
other-answer a g (message.Exec h c l x y s) e = no-answer a (gx g) (message.Exec h c l x y s) tt
other-answer a g (message.Prepare h) e = no-answer a (gx g) (message.Prepare h) tt
other-answer a g (message.Commit h) e = no-answer a (gx g) (message.Commit h) tt
other-answer a g (message.CommitPrepared h) e = no-answer a (gx g) (message.CommitPrepared h) tt
other-answer a g (message.Abort h) e = no-answer a (gx g) (message.Abort h) tt
other-answer a g (message.Forget h) e = no-answer a (gx g) (message.Forget h) tt
other-answer a g (message.Collect round) e = no-answer a (gx g) (message.Collect round) tt
other-answer a g (message.Graph round graph) e = no-answer a (gx g) (message.Graph round graph) tt
other-answer a g message.Up e = no-answer a (gx g) message.Up tt

-- marks ask more, never less
asked-more : (i : Node) (g : Gxid) (a : Option Message) (ms : List Mark) → is_some a ≡ true → is_some (asked_by i g a ms) ≡ true
asked-more i g a [] e = e
asked-more i g a (mark.Sent to number told ∷ ms) e = asked-more i g (if is_same_node to i && is_about g told then Some told else a) ms (either (is_same_node to i && is_about g told))
  where
    either : (b : Bool) → is_some (if b then Some told else a) ≡ true
    either true = refl
    either false = e
asked-more i g a (m ∷ ms) e = asked-more i g a ms e

left-other : (i : Node) (g : ℕ) (a : Option Message) (x : NodeEvent) → IsOther g x → left_by i (gx g) a x ≡ a
left-other i g a (here.Deliver from envelope) o = unanswered i from a _ (other-answer a g envelope.message o)
left-other i g a (here.Resume h) o = refl
left-other i g a (here.Start s) o = refl
left-other i g a (here.End s) o = refl
left-other i g a (here.Resend j h) o = refl
left-other i g a here.Round o = refl

module _ (script : Script) (some : 1 ≤ script.segments) (w : World) (k : IsKnown script w) (q : DoAsk w) where
  -- over an event
  module _ (e : Event) (x : NodeEvent) (fails : Bool) (t : IsThere script w e the_coordinator x) (ok : coord_can script w.coord x ≡ true) where
    abbrev next : World
    next = coord_did w e (coord_turn script w.coord x fails)

    abbrev step : Step
    step = record { stamp = record { clock = clock_after w.coord.clock x; node = the_coordinator }; event = e; marks = (coord_turn script w.coord x fails).marks }

    now-asked : (i : Node) (g : ℕ) → asked_by i (gx g) (unless_answered w.steps i (gx g) (awaited w.coord (gx g) i) e) step.marks ≡ awaited next.coord (gx g) i
    now-asked i g =
        ap (λ a. asked_by i (gx g) (unless_answered w.steps i (gx g) a e) step.marks) (sym (q.asks i g))
        ∙ sym (asked-last i (gx g) w.steps step) ∙ (coord-asks script some w k q e x fails t ok).asks i g

    unless-other : (i : Node) (g : ℕ) (a : Option Message) → IsOther g x → unless_answered w.steps i (gx g) a e ≡ a
    unless-other i g a o = left-alike script w k.links i (gx g) a e x t ∙ left-other i g a x o

    pub still-asked : (g : ℕ) → IsOther g x → IsAsked w.coord g → IsAsked next.coord g
    still-asked g o a = (
      a.0,
      ap is_some (sym (now-asked a.0 g) ∙ ap (λ m. asked_by a.0 (gx g) m step.marks) (unless-other a.0 g (awaited w.coord (gx g) a.0) o))
          ∙ asked-more a.0 (gx g) (awaited w.coord (gx g) a.0) step.marks a.1,
    )

  -- over a victim's turn
  pub asked-beside : (victim : Gxid) → HasNamed w.steps w.coord.clock w.coord.rounds victim → (g : ℕ) → IsAsked w.coord g → IsAsked (and_cancelled w victim).coord g
  asked-beside victim h g a = (
    a.0,
    ap is_some (sym ((victim-asked script some w k q victim h).asks a.0 g) ∙ asked-named a.0 (gx g) w.steps w.coord.clock w.coord.rounds victim h more ∙ ap (λ m. asked_by a.0 (gx g) m more) (q.asks a.0 g))
        ∙ asked-more a.0 (gx g) (awaited w.coord (gx g) a.0) more a.1,
  )
    where
      more : List Mark
      more = (cancel_turn w.coord victim).marks
