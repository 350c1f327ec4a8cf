use Rattle.std.proofs.Common.{arith}
use Rattle.gx_legal.proofs.Standings.{moved-next}
use Rattle.gx_legal.proofs.standing.standing_of.Goals as goal

pub loop-mark-preserved : goal.loop-mark-preserved
loop-mark-preserved c = record {
  is = moved-next c.args.script.now c.args.session _ c.loop-mark.standing c.moved-standing.result c.args.marks.now c.loop-mark.mark-index c.mark-item.result
      c.loop-mark-test.true c.mark-item.is c.loop-mark.invariant.is c.moved-standing.ensures.is;
  answers = omega (arith, c.moved-standing.ensures.room.answers);
  commands = omega (arith, c.moved-standing.ensures.room.commands);
}
