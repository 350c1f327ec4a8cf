use Rattle.gx_legal.proofs.Tallying.{next-ended}
use Rattle.gx_legal.proofs.tally.one_on.Goals as goal

pub returns-then-has_ended : goal.returns-then-has_ended
returns-then-has_ended c = next-ended c.args.tally.now c.args.number c.next_of.result c.next_of.ensures (c.has_ended.ensures c.if-has_ended.true)
