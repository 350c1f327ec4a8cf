-- In every run, every answer of a command that a segment sends was true when it was sent first.
use Rattle.std.proofs.Common.{◌≡◌, ◌≤◌, ℕ, List, [], ◌∷◌, ◌++◌, Bool, true, false, refl, sym, subst, if◌then◌else◌, eqb, arith}
use Rattle.std.proofs.lemmas.Bool.{eqb-true}
use Rattle.gx_ids.specs.declared.ids.Gxid.{Gxid}
use Rattle.gx_ids.specs.declared.ids.Node.{Node}
use Rattle.gx_msg.specs.declared.message.Message.TheVariants as message
use Rattle.gx_msg.specs.declared.message.Out.{Out}
use Rattle.gx_msg.specs.declared.reply.Reply.{Reply}
use Rattle.gx_script.specs.declared.Script.{Script}
use Rattle.gx_store.specs.declared.event.Event.{Event}
use Rattle.gx_store.specs.declared.mark.Mark.{Mark}
use Rattle.gx_store.specs.declared.node.NodeEvent.{NodeEvent}
use Rattle.gx_store.specs.declared.run.Step.{Step}
use Rattle.gx_store.specs.Messages.{IsSending}
use Rattle.gx_store.specs.Ordered.{IsSegment}
use Rattle.gx_rules.specs.AtCoordinator.{coord_rule}
use Rattle.gx_rules.specs.AtSegment.{on_event, seg_rule}
use Rattle.gx_rules.specs.Machine.{World, coord_did, seg_did, world_of}
use Rattle.gx_rules.specs.Segments.{Seg, SegTurn}
use Rattle.gx_rules.specs.Sending.{counted, numbered}
use Rattle.gx_law_order.proofs.AtSegments.{PlainAt, seg_stays}
use Rattle.gx_law_order.proofs.Lists.{each_append, each_weaker}
use Rattle.gx_law_order.specs.Lists.{Each}
use Rattle.gx_store.specs.Language.{AreLinesNumbered}
use Rattle.gx_law_order.specs.Standings.{at, gx}
use Rattle.gx_law_order.proofs.Whole.{world-both}
use Rattle.gx_law_writes.proofs.Told.{each-get}
use Rattle.gx_law_answers.specs.Earned.{AreAnswersEarned, Events, IsReplyEarned}
use Rattle.gx_law_answers.proofs.Running.{Doings, IsLate}
use Rattle.gx_law_answers.proofs.Stepping.{Kept, all-keep}
use Rattle.gx_law_answers.proofs.Origins.{AreEarned, IsKeptEarned, IsSentEarned, IsStepEarned, IsWordEarned, TurnEarned, kept-later, step-later, turn-earned}

module _ (script : Script) (some : 1 ≤ script.segments) (numbered_lines : AreLinesNumbered [] script.lines) where
  module _ (es : Events) (x : Event × Bool) (t : AreEarned script es (world_of script es)) where
    abbrev w : World
    w = world_of script es

    steps-later : Each (IsStepEarned script (es ++ x ∷ [])) (world_of script es).steps
    steps-later = each-weaker' (world_of script es).steps t.sent
      where
        each-weaker' : (ss : List Step) → Each (IsStepEarned script es) ss → Each (IsStepEarned script (es ++ x ∷ [])) ss
        each-weaker' ss h = each_weaker (IsStepEarned script es) (IsStepEarned script (es ++ x ∷ [])) (λ s k. step-later script es x s k) ss h

    kept-all : (i h : ℕ) → 1 ≤ i → IsKeptEarned script (es ++ x ∷ []) (at i) (gx h) (((world_of script es).segs i).locals h).answer
    kept-all i h one = kept-later script es x (at i) (gx h) _ (t.kept i h one)

    still : AreEarned script (es ++ x ∷ []) (world_of script es)
    still = record { sent = steps-later; kept = kept-all }

    coord-earned : (e : Event) (y : NodeEvent) (fails : Bool) → AreEarned script (es ++ x ∷ []) (coord_did (world_of script es) e (coord_rule script (world_of script es).coord y fails))
    coord-earned e y fails = record { sent = each_append (IsStepEarned script (es ++ x ∷ [])) (world_of script es).steps _ steps-later ((λ one. absurd (zero-one one)), tt); kept = kept-all }
      where
        zero-one : 1 ≤ 0 → ⊥
        zero-one l = omega (arith, l)

  -- a segment's step
  module _ (es : Events) (t : AreEarned script es (world_of script es)) (to : Node) (e : Event) (fails : Bool) (x : NodeEvent) (place : IsSegment script to) (is-late : IsLate script es to e fails x) (does-it : Doings script es to e fails x) where
    abbrev s : Seg
    s = (world_of script es).segs to.0

    abbrev turn : SegTurn
    turn = on_event script ((world_of script es).segs to.0) x fails

    abbrev later : Events
    later = es ++ (e, fails) ∷ []

    sent-earned : (g : ℕ → ℕ) (outs : List Out) → Each (λ (o : Out). IsWordEarned script later to o.message) outs → Each (IsSentEarned script later to) (numbered g outs)
    sent-earned g [] h = tt
    sent-earned g (o ∷ outs) h = ((λ n k j r q. h.0 j r (cc)), sent-earned (counted g o) outs h.1)

    plain-earned : (xs : List Mark) → Each (PlainAt script to) xs → Each (IsSentEarned script later to) xs
    plain-earned [] d = tt
    plain-earned (m ∷ xs) d = ((λ n k g r q. absurd (subst (PlainAt script to) q d.0)), plain-earned xs d.1)

    plain : Each (PlainAt script to) turn.marks
    plain = subst (λ node. Each (PlainAt script node) turn.marks) ((world-both script some es).knows.well.names to.0) (seg_stays script s (subst (IsSegment script) (sym ((world-both script some es).knows.well.names to.0)) place) x fails).marks

    seg-earned : AreEarned script later (seg_did (world_of script es) to e (seg_rule script ((world_of script es).segs to.0) x fails))
    seg-earned = by_turn (turn-earned script some numbered_lines es to e fails x place is-late (λ h. t.kept to.0 h place.0) (λ h. ((world-both script some es).holds.stands.pairs to.0 h).vote) does-it)
      where
        by_turn : TurnEarned script some numbered_lines es to e fails x place is-late → AreEarned script later (seg_did (world_of script es) to e (seg_rule script ((world_of script es).segs to.0) x fails))
        by_turn v =
            record {
              sent = each_append (IsStepEarned script later) (world_of script es).steps _ (steps-later es (e, fails) t) ((λ one. each_append (IsSentEarned script later to) turn.marks _ (plain-earned turn.marks plain) (sent-earned (λ node. turn.seg.sent) turn.outs v.outs)), tt);
              kept = λ i h one. by_test i h one (eqb i to.0) refl;
            }
          where
            by_test : (i h : ℕ) → 1 ≤ i → (b : Bool) → eqb i to.0 ≡ b → IsKeptEarned script later (at i) (gx h) ((if b then (seg_rule script ((world_of script es).segs to.0) x fails).seg else (world_of script es).segs i).locals h).answer
            by_test i h one true q = subst (λ j. IsKeptEarned script later (at j) (gx h) (turn.seg.locals h).answer) (sym (eqb-true i to.0 q)) (v.kept h)
            by_test i h one false q = kept-all es (e, fails) t i h one

  -- ALL EVENTS
  abbrev IsSo : Events → Type 0
  IsSo es = AreEarned script es (world_of script es)

  kept-so : Kept script some numbered_lines IsSo
  kept-so =
      record {
        still = λ es e fails is t. subst (AreEarned script (es ++ (e, fails) ∷ [])) (sym is) (still es (e, fails) t);
        coord = λ es e fails x is t. subst (AreEarned script (es ++ (e, fails) ∷ [])) (sym is) (coord-earned es (e, fails) t e x fails);
        seg = λ es to e fails x place late does-it t. subst (AreEarned script (es ++ (e, fails) ∷ [])) (sym late) (seg-earned es t to e fails x place late does-it);
      }

  pub world-earned : (es : Events) → AreEarned script es (world_of script es)
  world-earned es = all-keep script some numbered_lines IsSo kept-so [] es (record { sent = tt; kept = λ i h one. tt })

  -- WHAT WAS SENT
  pub word-earned : (es : Events) (from to : Node) (step place number : ℕ) (g : Gxid) (r : Reply) → 1 ≤ from.0 → IsSending (world_of script es).steps step place from to number (message.Answer g r) → IsReplyEarned script es from g r
  word-earned es from to step place number g r one x =
      subst (λ k. IsReplyEarned script es k g r) x.node
      (each-get (IsSentEarned script es x.sender.stamp.node) x.sender.marks place _ (each-get (IsStepEarned script es) (world_of script es).steps step x.sender (world-earned es).sent x.at (subst (λ (k : Node). 1 ≤ k.0) (sym x.node) one)) x.sent to number g r refl)

  pub all-earned : (es : Events) → AreAnswersEarned script es
  all-earned es segment to number g answer place sent = word-earned es segment to sent.step sent.mark number g answer place.0 sent.sending
