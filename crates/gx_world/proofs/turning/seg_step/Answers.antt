use Rattle.std.proofs.Common.{◌≡◌, ◌∙◌, ◌<◌, ◌-◌, ◌^◌, Some, List, ap, subst, sym, slice_set}
use Rattle.gx_coord.proofs.Items.{all_at}
use Rattle.gx_segment.specs.declared.segment.Segment.{Segment}
use Rattle.gx_store.specs.declared.run.Step.{Step}
use Rattle.gx_world.specs.Coming.{coming}
use Rattle.gx_world.proofs.Segs.{segment-read, stepped-at}
use Rattle.gx_world.proofs.Turned.{made}
use Rattle.gx_world.proofs.turning.seg_step.Goals as goal

pub seg_event-requires : goal.seg_event-requires
seg_event-requires g c κs within =
    let there = segment-read c.args.segments.now.items c.args.at.0 c.from.result c.index_mut-segment.result.now c.from.ensures c.requires.1.1.0 c.requires.1.1.1.0 c.index_mut-segment.ensures.value in
    let room = all_at (λ (s : Segment). (s.clock < 2 ^ 62) × (s.sent < 2 ^ 62)) c.args.segments.now.items (c.args.at.0 - 1) c.index_mut-segment.result.now c.requires.1.1.1.1.1.1.0 there in (
      within.0,
      (
        within.1,
        (
          λ u. c.requires.1.1.1.1.1.0 _ there,
          (
            subst (λ (steps : List Step). coming steps c.args.letters.now c.args.event ≡ Some g.moment.here) (sym c.blank-marks.ensures.steps) c.requires.1.1.1.1.1.1.1.0,
            (c.requires.1.1.1.1.1.1.1.1.0 _ there, (room.0, (c.requires.1.1.1.1.1.1.1.1.1, (room.1, c.blank-marks.ensures.blank)))),
          ),
        ),
      ),
    )

pub returns-clause-stepped : goal.returns-clause-stepped
returns-clause-stepped g c =
    stepped-at c.args.segments.now.items _
    (segment-read c.args.segments.now.items c.args.at.0 c.from.result c.index_mut-segment.result.now c.from.ensures c.requires.1.1.0 c.requires.1.1.1.0 c.index_mut-segment.ensures.value)
    (ap (λ n. slice_set c.args.segments.now.items (n - 1) c.seg_event.new.segment) c.from.ensures) (c.step_of.ensures ∙ ap (made c.args.at c.args.event c.seg_event.new.segment.clock) c.from_vec.ensures) c.in_ok-seg_event.ensures.stepped

pub returns-in_err-seg_event-clause-later : goal.returns-in_err-seg_event-clause-later
returns-in_err-seg_event-clause-later g c =
    record {
      was = c.index_mut-segment.result.now;
      there = segment-read c.args.segments.now.items c.args.at.0 c.from.result c.index_mut-segment.result.now c.from.ensures c.requires.1.1.0 c.requires.1.1.1.0 c.index_mut-segment.ensures.value;
      later = c.seg_event.ensures.later;
    }

pub returns-clause-later : goal.returns-clause-later
returns-clause-later g c =
    record {
      was = c.index_mut-segment.result.now;
      there = segment-read c.args.segments.now.items c.args.at.0 c.from.result c.index_mut-segment.result.now c.from.ensures c.requires.1.1.0 c.requires.1.1.1.0 c.index_mut-segment.ensures.value;
      later = c.seg_event.ensures.later;
    }
