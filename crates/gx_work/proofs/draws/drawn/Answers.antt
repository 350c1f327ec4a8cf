use Rattle.std.proofs.Common.{rules}
use Rattle.rand_xoshiro.specs.Xoshiro256.{plus_plus}
use Rattle.gx_work.proofs.Nexts.{words-end, words-next, words-start}
use Rattle.gx_work.proofs.draws.drawn.Goals as goal

pub loop-word-init : goal.loop-word-init
loop-word-init c = words-start plus_plus _ _ _ (search rules)

pub loop-word-preserved : goal.loop-word-preserved
loop-word-preserved c = words-next plus_plus _ _ _ _ _ _ _ _ (search rules) c.next_word-word.ensures (search rules) c.loop-word.invariant

pub returns : goal.returns
returns c = words-end plus_plus _ _ _ _ _ (search rules) c.loop-word.invariant
