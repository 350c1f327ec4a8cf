use Rattle.std.proofs.Common.{ℕ, List, ◌+◌, ◌-◌, arith}
use Rattle.gx_explain.proofs.Bytes.{tail-next}
use Rattle.gx_explain.proofs.tails.tail_behind.Goals as goal

pub loop-token-preserved : goal.loop-token-preserved
loop-token-preserved c =
    let test = c.loop-token-test.true in
    let shorter = c.in-Some.ensures.within in
    let within = c.loop-token.invariant.1 in (
      λ (tail : List ℕ) h. c.loop-token.invariant.0 tail (tail-next (c.args.count - c.loop-token._token) (c.args.count - (c.loop-token._token + 1)) c.loop-token.rest.now c.in-Some.others.now tail (omega arith) c.in-Some.ensures.value h),
      omega arith,
    )
