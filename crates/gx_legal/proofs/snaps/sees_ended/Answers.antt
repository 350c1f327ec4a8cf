use Rattle.std.proofs.Common.{arith}
use Rattle.gx_lemmas.proofs.Tests.{false-true}
use Rattle.gx_legal.proofs.Sessions.{no-longer}
use Rattle.gx_legal.proofs.snaps.sees_ended.Goals as goal

pub loop-number-init : goal.loop-number-init
loop-number-init c = λ g one below seen. c.unsettled_at-number.ensures.ended g one below

pub returns-then-not-has_ended_if_seen : goal.returns-then-not-has_ended_if_seen
returns-then-not-has_ended_if_seen c = (
  λ t. absurd (false-true t),
  λ ended. absurd (no-longer c.has_ended_if_seen.result c.has_ended_if_seen.ensures c.if-not-has_ended_if_seen.true
      (ended (record { 0 = c.loop-number.number }) (omega (arith, c.loop-number.auto.number, c.unsettled_at-number.ensures.some)))),
)
