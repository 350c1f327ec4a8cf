use Rattle.std.proofs.Common.{◌∙◌}
use Rattle.gx_detect.proofs.Listed.{none_listed, one_listed}
use Rattle.gx_detect.proofs.Marks.{get_at, no_edge}
use Rattle.gx_detect.proofs.wants.Wants.of.Goals as goal

pub loop-index-init : goal.loop-index-init
loop-index-init c = record { aim = c.new-wants.ensures.aim; listed = none_listed c.args.edges.now c.new-wants.result c.new-wants.ensures.none }

pub loop-index-preserved : goal.loop-index-preserved
loop-index-preserved c = record {
  aim = c.in_ok-list.ensures.aim ∙ c.loop-index.invariant.aim;
  listed = one_listed c.args.edges.now c.loop-index.index _ c.loop-index.wants c.list.new.self c.loop-index.invariant.listed
      (get_at c.args.edges.now c.loop-index.index no_edge c.loop-index-test.true) c.in_ok-list.ensures;
}
