-- Over every run of the machine, INSERTs are counted as they are written, and their answers tell what was done.
use Rattle.std.proofs.Common.{◌≡◌, ◌≤◌, inl, inr, ℕ, List, [], ◌∷◌, ◌++◌, Option, Some, None, Bool, true, false, refl, sym, subst, ap, ◌∙◌, if◌then◌else◌, ◌&&◌, arith, append-nil}
use Rattle.std.proofs.lemmas.Bool.Decides.{nat_tests}
use Rattle.std.proofs.lemmas.List.{append_assoc}
use Rattle.std.specs.Prelude.{nat_le}
use Rattle.gx_lemmas.proofs.Numbers.{one-le-zero}
use Rattle.gx_ids.specs.declared.ids.Cid.{Cid}
use Rattle.gx_ids.specs.declared.ids.Gxid.{Gxid}
use Rattle.gx_ids.specs.declared.ids.Node.{Node}
use Rattle.gx_ids.specs.declared.ids.SessionId.{SessionId}
use Rattle.gx_tree.specs.declared.part.Part.{Part as QueryPart}
use Rattle.gx_msg.specs.declared.message.Envelope.{Envelope}
use Rattle.gx_msg.specs.declared.message.Message.TheVariants as message
use Rattle.gx_msg.specs.declared.message.Out.{Out}
use Rattle.gx_msg.specs.declared.reply.Reply.TheVariants as reply
use Rattle.gx_script.specs.declared.Script.{Script}
use Rattle.gx_store.specs.declared.event.Event.{Event}
use Rattle.gx_store.specs.declared.event.Event.TheVariants as event
use Rattle.gx_store.specs.declared.answer.Refused.TheVariants.{Victim}
use Rattle.gx_store.specs.declared.answer.StmtAnswer.TheVariants.{Refused}
use Rattle.gx_store.specs.declared.mark.Mark.{Mark}
use Rattle.gx_store.specs.declared.mark.Mark.TheVariants as mark
use Rattle.gx_store.specs.declared.node.NodeEvent.{NodeEvent}
use Rattle.gx_store.specs.declared.node.NodeEvent.TheVariants as here
use Rattle.gx_store.specs.declared.run.Step.{Step}
use Rattle.gx_store.specs.Ordered.{IsAtNode, IsSegment}
use Rattle.gx_store.specs.Points.{Point, marks_in, starts_by}
use Rattle.gx_store.specs.Refusals.{the_coordinator}
use Rattle.gx_rules.specs.AtCoordinator.{cancels, coord_can, coord_sends, coord_turn, on_event}
use Rattle.gx_rules.specs.AtSegment.{seg_rule}
use Rattle.gx_rules.specs.Coordinators.{CoordTurn}
use Rattle.gx_rules.specs.Machine.{World, and_cancelled, coord_did, new_world, seg_did, world_of}
use Rattle.gx_rules.specs.Sending.{clock_after, counted, numbered}
use Rattle.gx_law_order.specs.Moves.{Move, world_by}
use Rattle.gx_law_order.proofs.Induction.{IsThere, at-moves, marks-by-event, marks-by-victim}
use Rattle.gx_law_order.proofs.Moves.{HasNamed, moves_after, world-moves}
use Rattle.gx_law_order.specs.Lists.{Each}
use Rattle.gx_law_order.proofs.Ordered.{seg_marks}
use Rattle.gx_law_order.proofs.Waiting.{going-out}
use Rattle.gx_law_order.proofs.More.{marks-last}
use Rattle.gx_store.specs.Language.{AreLinesNumbered}
use Rattle.gx_law_order.specs.Rest.{EachMark}
use Rattle.gx_law_order.proofs.Given.{marks-append}
use Rattle.gx_law_order.proofs.Stepping as stepping
use Rattle.gx_law_order.proofs.Legality as histories
use Rattle.gx_law_order.specs.Standings.{at, gx}
use Rattle.gx_law_order.proofs.Whole.{Both, moves-both}
use Rattle.gx_law_writes.specs.Inserts.{AreInsertsTold, InsertTold}
use Rattle.gx_law_writes.proofs.Answers.{IsProgress, goes-progress, is-progress-more, marks-told}
use Rattle.gx_law_writes.proofs.Told.{IsReport, IsWordOf, sending-told}
use Rattle.gx_law_writes.proofs.Always.{AreAlways, IsOfVictim, always-push, always-victim}
use Rattle.gx_law_writes.proofs.Walk.{Walk, cancel-walk, event-walk}
use Rattle.gx_law_writes.proofs.World as writes
use Rattle.gx_law_writes.proofs.World.{locals_in, moves-holds}

pub record Counted (script : Script) (w : World) : Type 0 where
  pub commands : (g : ℕ) → IsProgress script (marks_in w.steps) g (w.coord.works g).level (w.coord.works g).command
  pub told : AreAlways (InsertTold script) [] w.steps

-- what is known of each world besides
pub record Known (script : Script) (some : 1 ≤ script.segments) (w : World) : Type 0 where
  pub both : Both script some w
  pub stands : stepping.Holds script w
  pub written : writes.Holds script w.segs w.steps

sent-told : (script : Script) (steps : List Step) (e : Event) (f : ℕ → ℕ) (outs : List Out) (earlier later : List Mark) → EachMark (InsertTold script) steps e earlier (numbered f outs) later
sent-told script steps e f [] earlier later = tt
sent-told script steps e f (o ∷ outs) earlier later = (tt, sent-told script steps e (counted f o) outs _ later)

-- a victim's line is refused
victim-told : (script : Script) (point : Point) (m : Mark) → IsOfVictim m → InsertTold script point m
victim-told script point (mark.Answer s n (Refused (Victim round))) h = tt
victim-told script point (mark.Abort g) h = tt
victim-told script point (mark.Release n g object mode) h = tt
victim-told script point (mark.Sent to number message) h = tt
victim-told script point m h = absurd h

all-told : (script : Script) (before ss : List Step) → AreAlways (InsertTold script) before ss → AreInsertsTold script before ss
all-told script before [] a = tt
all-told script before (s ∷ ss) a = (a.0 [], all-told script (before ++ s ∷ []) ss a.1)

-- a segment answers no line
away-told : (script : Script) (i : ℕ) → 1 ≤ i → (steps : List Step) (e : Event) (earlier ms later : List Mark) → Each (IsAtNode script (at i)) ms → EachMark (InsertTold script) steps e earlier ms later
away-told script i one steps e earlier [] later h = tt
away-told script i one steps e earlier (mark.Answer s n a ∷ ms) later h = absurd (one-le-zero i one (ap (λ (n : Node). n.0) h.0))
away-told script i one steps e earlier (m ∷ ms) later h = (tt, away-told script i one steps e (earlier ++ m ∷ []) ms later h.1)

-- WHAT COMES TO THE COORDINATOR
at-least : (a n : ℕ) → (nat_le 1 a && nat_le a n) ≡ true → 1 ≤ a
at-least a n q = grind (arith, nat_tests)

pub deliver-same : (from i : Node) (envelope v : Envelope) → here.Deliver from envelope ≡ here.Deliver i v → (from ≡ i) × (envelope ≡ v)
deliver-same from i envelope v q = (cc, cc)

-- of what is delivered, what a segment has reported is so, and no line starts
abbrev pub Reports : Script → World → NodeEvent → Type 0
Reports script w x = (i : Node) (envelope : Envelope) (g : ℕ) (cid : Cid) (wrote : Bool) (count : ℕ) (part : QueryPart) → x ≡ here.Deliver i envelope → envelope.message ≡ message.Answer (gx g) (reply.Done cid wrote count part) → IsReport script (marks_in w.steps) i (gx g) cid count

abbrev pub StartsNone : Event → NodeEvent → Type 0
StartsNone e x = (i : Node) (envelope : Envelope) → x ≡ here.Deliver i envelope → (s : SessionId) → starts_by s e ≡ 0

module _ (script : Script) (some : 1 ≤ script.segments) (w : World) (k : Known script some w) (e : Event) where
  pub reports-so : (x : NodeEvent) → IsThere script w e the_coordinator x → coord_can script w.coord x ≡ true → Reports script w x
  reports-so (here.Deliver from envelope) r ok i v g cid wrote count part is told =
      let z = deliver-same from i envelope v is in
      subst (λ a. IsReport script (marks_in w.steps) a (gx g) cid count) z.0
      (subst (IsWordOf script (marks_in w.steps) (locals_in w.segs) from) (ap (λ (a : Envelope). a.message) z.1 ∙ told)
      (sending-told script (marks_in w.steps) (locals_in w.segs) w.steps r.received.sent.step r.received.sent.mark from the_coordinator r.received.number envelope.message (at-least from.0 script.segments ok) k.written.told r.received.sent.sending)).1
  reports-so (here.Resume h) r ok i v g cid wrote count part is told = absurd (cc)
  reports-so (here.Start s) r ok i v g cid wrote count part is told = absurd (cc)
  reports-so (here.End s) r ok i v g cid wrote count part is told = absurd (cc)
  reports-so (here.Resend j h) r ok i v g cid wrote count part is told = absurd (cc)
  reports-so here.Round r ok i v g cid wrote count part is told = absurd (cc)

  pub starts-none : (x : NodeEvent) → IsThere script w e the_coordinator x → StartsNone e x
  starts-none (here.Deliver from envelope) r i v is s = ap (starts_by s) r.event
  starts-none (here.Resume h) r i v is s = absurd (cc)
  starts-none (here.Start t) r i v is s = absurd (cc)
  starts-none (here.End t) r i v is s = absurd (cc)
  starts-none (here.Resend j h) r i v is s = absurd (cc)
  starts-none here.Round r i v is s = absurd (cc)

round-no : (i : Node) (v : Envelope) → here.Round ≡ here.Deliver i v → ⊥
round-no i v q = cc

module _ (script : Script) (some : 1 ≤ script.segments) (numbered_lines : AreLinesNumbered [] script.lines) where
  module _ (w : World) (k : Known script some w) (n : Counted script w) where
    -- A TURN OF THE COORDINATOR
    -- its commands, with what it sends
    turn-commands : (x : NodeEvent) (turn : CoordTurn) (clock : ℕ) (new : List Step) → Reports script w x → Walk script w.coord x [] turn → marks_in new ≡ marks_in w.steps ++ (coord_sends clock turn).marks
        → (g : ℕ) → IsProgress script (marks_in new) g (turn.coord.works g).level (turn.coord.works g).command
    turn-commands x turn clock new report v same g =
        subst (λ ms. IsProgress script ms g (turn.coord.works g).level (turn.coord.works g).command) (append_assoc (marks_in w.steps) turn.marks (numbered turn.coord.sent turn.outs) ∙ sym same)
        (is-progress-more script (marks_in w.steps ++ turn.marks) (numbered turn.coord.sent turn.outs) g (turn.coord.works g).level (turn.coord.works g).command
        (goes-progress script some numbered_lines w k.both.knows.kept k.stands.sessions x n.commands report turn.marks g (turn.coord.works g) (v.works g)))

    coord-counted : (e : Event) (x : NodeEvent) (fails : Bool) → IsThere script w e the_coordinator x → coord_can script w.coord x ≡ true → Counted script (coord_did w e (coord_turn script w.coord x fails))
    coord-counted e x fails r ok =
        record {
          commands = turn-commands x (on_event script w.coord x fails) (clock_after w.coord.clock x) (coord_did w e (coord_turn script w.coord x fails)).steps report walk (marks-by-event script w e x fails);
          told = always-push (InsertTold script) [] w.steps step n.told
              (λ later. marks-append (InsertTold script) w.steps e [] (on_event script w.coord x fails).marks _ later
              (marks-told script some numbered_lines w k.both.knows.kept k.stands.sessions x n.commands report e (starts-none script some w k e x r) [] (on_event script w.coord x fails).marks _ walk.answers)
              (sent-told script w.steps e (on_event script w.coord x fails).coord.sent (on_event script w.coord x fails).outs (on_event script w.coord x fails).marks later));
        }
      where
        step : Step
        step = record { stamp = record { clock = clock_after w.coord.clock x; node = the_coordinator }; event = e; marks = (coord_turn script w.coord x fails).marks }

        report : Reports script w x
        report = reports-so script some w k e x r ok

        walk : Walk script w.coord x [] (on_event script w.coord x fails)
        walk = event-walk script w.coord x k.both.knows.kept (going-out script w k.both.knows) x refl fails ok

    cancel-counted : (g : Gxid) → HasNamed w.steps w.coord.clock w.coord.rounds g → Counted script (and_cancelled w g)
    cancel-counted g a =
        record {
          commands = turn-commands here.Round (cancels w.coord g) w.coord.clock (and_cancelled w g).steps (λ i v h cid wrote count part q t. absurd (round-no i v q)) (cancel-walk script w.coord here.Round g) (marks-by-victim w g a);
          told = always-victim (InsertTold script) (victim-told script) w g a n.told;
        }

    -- A STEP OF A SEGMENT
    seg-counted : (e : Event) (x : NodeEvent) (fails : Bool) (i : ℕ) → IsSegment script (at i) → Counted script (seg_did w (at i) e (seg_rule script (w.segs i) x fails))
    seg-counted e x fails i place =
        record {
          commands = λ g. subst (λ ms. IsProgress script ms g (w.coord.works g).level (w.coord.works g).command) (sym (marks-last w.steps step)) (is-progress-more script (marks_in w.steps) step.marks g (w.coord.works g).level (w.coord.works g).command (n.commands g));
          told = always-push (InsertTold script) [] w.steps step n.told (λ later. away-told script i place.0 w.steps e [] step.marks later (seg_marks script w k.both.knows.well e x fails i place));
        }
      where
        step : Step
        step = record { stamp = record { clock = clock_after (w.segs i).clock x; node = at i }; event = e; marks = (seg_rule script (w.segs i) x fails).marks }

  -- ALL EVENTS
  pub moves-known : (ms : List Move) → Known script some (world_by script ms)
  moves-known ms = record { both = moves-both script some ms; stands = histories.moves-holds script some ms; written = moves-holds script some numbered_lines ms }

  pub moves-counted : (ms : List Move) → Counted script (world_by script ms)
  moves-counted =
      at-moves script some (Known script some) (Counted script) moves-known (record { commands = λ g. tt; told = tt })
      (λ w k n e x fails r ok next. coord-counted w k n e x fails r ok) (λ w k n g a next. cancel-counted w k n g a) (λ w k n e x fails i place r ok next. seg-counted w k n e x fails i place)

  pub inserts-told : (es : List (Event × Bool)) → AreInsertsTold script [] (world_of script es).steps
  inserts-told es = subst (λ (w : World). AreInsertsTold script [] w.steps) (sym (world-moves script es)) (all-told script [] (world_by script (moves_after script new_world es)).steps (moves-counted (moves_after script new_world es)).told)
