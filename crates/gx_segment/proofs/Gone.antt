-- A step, from what its event came to and what was sent.
use Rattle.std.proofs.Common.{Global, ◌≡◌, ◌≤◌, ℕ, ◌+◌, false, List, ◌++◌, length, sym, ap, ◌∙◌, subst}
use Rattle.std.specs.declared.sync.Arc.{Arc}
use Rattle.gx_ids.specs.declared.ids.Gxid.{Gxid}
use Rattle.gx_msg.specs.declared.message.Out.{Out}
use Rattle.gx_outside.specs.Shelves.{Shelf}
use Rattle.gx_node.specs.Orders.{Took}
use Rattle.gx_script.specs.declared.Script.{Script}
use Rattle.gx_store.specs.declared.mark.Mark.{Mark}
use Rattle.gx_store.specs.declared.node.NodeEvent.{NodeEvent}
use Rattle.gx_rules.specs.AtSegment.{on_event, seg_rule}
use Rattle.gx_rules.specs.Segments.{Seg, SegTurn}
use Rattle.gx_rules.specs.Sending.{clock_after, numbered}
use Rattle.gx_slices.specs.Agrees.{IsHeld}
use Rattle.gx_slices.specs.declared.held.Held.{Held}
use Rattle.gx_segment.specs.Before.{Before}
use Rattle.gx_segment.specs.Done.{Came, HasDone, to_coordinator}
use Rattle.gx_segment.specs.Steps.{HasGone, HasStepped, IsSegment}
use Rattle.gx_segment.specs.declared.segment.Segment.{Segment}
use Rattle.gx_segment.specs.Reports.{report_behind}
use Rattle.gx_segment.specs.declared.collecting.LastReport.{LastReport}
use Rattle.gx_segment.proofs.Aside.{IsHeld-aside}
use Rattle.gx_segment.proofs.Keeping.{event-keeps}

module _ (was : Before) (event : NodeEvent) (now : Held) (low : Gxid) (last : LastReport) (sent sent' clock clock' : ℕ) (before after : Shelf) (done : Came) (all : List Mark) where
  abbrev turn : SegTurn
  turn = on_event was.script was.seg event done.fails

  pub HasGone-made : HasDone was.script.tables now low done turn → last ≡ report_behind was.seg event → Took before after done.fails turn.item → sent ≡ was.seg.sent → clock ≡ was.seg.clock → clock' ≡ clock_after clock event → all ≡ done.marks ++ numbered (λ node. sent) (to_coordinator done.answer) → sent' ≡ sent + length (to_coordinator done.answer) → HasGone was event now low last sent' clock' before after all
  HasGone-made is kept took count time ticks marks counted =
      let keeps = event-keeps was.script was.seg event done.fails in
      let same : sent ≡ turn.seg.sent = count ∙ sym keeps.sent in
      record {
        fails = done.fails;
        held = IsHeld-aside was.script.tables now turn.seg turn.seg.round turn.seg.graph (turn.seg.sent + length turn.outs) (clock_after was.seg.clock event) is.held;
        horizon = is.horizon;
        report = kept ∙ sym keeps.report;
        sent = counted ∙ ap (λ (n : ℕ). n + length (to_coordinator done.answer)) same ∙ ap (λ (os : List Out). turn.seg.sent + length os) is.outs;
        clock = ticks ∙ ap (λ (n : ℕ). clock_after n event) time;
        told =
            marks
            ∙ ap (λ (ms : List Mark). ms ++ numbered (λ node. sent) (to_coordinator done.answer)) is.marks
            ∙ ap (λ (os : List Out). turn.marks ++ numbered (λ node. sent) os) is.outs
            ∙ ap (λ (n : ℕ). turn.marks ++ numbered (λ node. n) turn.outs) same;
        took = took;
      }

abbrev before_of : Script → Seg → Before
before_of script s = record { script = script; seg = s }

pub HasStepped-made : (old new : Segment) (s : Seg) (event : NodeEvent) (before after : Shelf) (marks : List Mark) (script : Script) → script ≡ old.script.value → IsSegment old s → HasGone (before_of script s) event new.held new.horizon new.report new.sent new.clock before after marks → new.node ≡ old.node → new.script ≡ old.script → new.spent ≡ false → HasStepped old new s event before after marks
HasStepped-made old new s event before after marks script e is gone node same usable =
    let g : HasGone (before_of old.script.value s) event new.held new.horizon new.report new.sent new.clock before after marks =
    subst (λ (x : Script). HasGone (before_of x s) event new.held new.horizon new.report new.sent new.clock before after marks) e gone in
    let keeps = event-keeps old.script.value s event g.fails in
    record {
      fails = g.fails;
      is = record {
        node = node ∙ is.node ∙ sym keeps.node;
        held = subst (λ (x : Arc Script Global). IsHeld x.value.tables new.held (seg_rule old.script.value s event g.fails).seg) (sym same) g.held;
        horizon = g.horizon;
        report = g.report;
        sent = g.sent;
        clock = g.clock;
      };
      script = same;
      rises = subst (λ (h : Gxid). h.0 ≤ new.horizon.0) (sym is.horizon) (subst (λ (h : Gxid). s.horizon.0 ≤ h.0) (sym g.horizon) keeps.rises);
      usable = usable;
      told = g.told;
      took = g.took;
    }
