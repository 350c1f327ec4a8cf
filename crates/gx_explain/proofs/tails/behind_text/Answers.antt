use Rattle.gx_explain.proofs.Bytes.{within-byte, within-quotes, within-ended, within-open, shorter, shorter-twice}
use Rattle.gx_explain.proofs.tails.behind_text.Goals as goal

pub loop-byte-preserved-then-byte-ne39 : goal.loop-byte-preserved-then-byte-ne39
loop-byte-preserved-then-byte-ne39 c = (
  within-byte c.args.behind.now c.loop-byte.rest.now c.in-Some.others.now c.in-Some.byte.now c.loop-byte.invariant.0 c.in-Some.ensures.cases.0 c.if-byte-ne39.true,
  shorter c.args.behind.now c.loop-byte.rest.now c.in-Some.others.now c.in-Some.byte.now c.in-Some.ensures.cases.0 c.loop-byte.invariant.1,
)

pub returns-clause-value : goal.returns-clause-value
returns-clause-value c = within-open c.args.behind.now c.loop-byte.rest.now c.loop-byte.invariant.0 c.in_default.ensures.cases

pub loop-byte-preserved : goal.loop-byte-preserved
loop-byte-preserved c = (
  within-quotes c.args.behind.now c.loop-byte.rest.now c.in-Some.others.now c.in-Some-behind_quote.more.now c.in-Some.byte.now c.loop-byte.invariant.0 c.in-Some.ensures.cases.0 c.if-byte-ne39.false c.in-Some-behind_quote.ensures,
  shorter-twice c.args.behind.now c.loop-byte.rest.now c.in-Some.others.now c.in-Some-behind_quote.more.now c.in-Some.byte.now c.in-Some.ensures.cases.0 c.in-Some-behind_quote.ensures c.loop-byte.invariant.1,
)

pub returns-in-None-clause-value : goal.returns-in-None-clause-value
returns-in-None-clause-value c = within-ended c.args.behind.now c.loop-byte.rest.now c.in-Some.others.now c.in-Some.byte.now c.loop-byte.invariant.0 c.in-Some.ensures.cases.0 c.if-byte-ne39.false c.in-None.ensures
