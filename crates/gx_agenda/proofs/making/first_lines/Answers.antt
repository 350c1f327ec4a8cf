use Rattle.std.proofs.Common.{nat_cmp}
use Rattle.gx_agenda.specs.VecMap.{at}
use Rattle.gx_agenda.proofs.Growing.{first-more}
use Rattle.gx_agenda.proofs.making.first_lines.Goals as goal

pub loop-place-preserved : goal.loop-place-preserved
loop-place-preserved c =
    first-more c.args.lines.now c.loop-place.place c.index-lines-place.result c.loop-place-test.true c.index-lines-place.is (at nat_cmp c.loop-place.next) (at nat_cmp c.add_first.new.next)
    c.loop-place.invariant c.in_ok-add_first.ensures.first c.in_ok-add_first.ensures.other
