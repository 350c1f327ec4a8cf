use Rattle.std.proofs.Common.{◌<◌, length, refl, arith}
use Rattle.gx_lemmas.proofs.Tests.{false-true}
use Rattle.gx_legal.proofs.Faulting.{faulted-at, faulted-inside, of-faulted}
use Rattle.gx_legal.proofs.MarkPlaces.{none-below}
use Rattle.gx_legal.proofs.Sessions.{no-longer}
use Rattle.gx_legal.specs.Causes.{FaultsAt}
use Rattle.gx_legal.specs.Moments.{point_of}
use Rattle.gx_legal.proofs.faulted.has_faulted.Goals as goal

pub loop-place-preserved : goal.loop-place-preserved
loop-place-preserved c =
    let k = c.args.command in
    none-below (FaultsAt c.args.why.2 (point_of c.args.moment.now) c.args.stmt.now k.level k.gxid k.cid c.args.why.0 c.args.why.1) c.loop-place.place c.loop-place.invariant
    (no-longer c.in_ok-is_fault_at.field-0 c.in_ok-is_fault_at.ensures c.if-branch.false)

pub returns-then-branch : goal.returns-then-branch
returns-then-branch c =
    let k = c.args.command in
    (λ t. faulted-at (point_of c.args.moment.now) c.args.stmt.now k.level k.gxid k.cid c.args.why.0 c.args.why.1 c.args.why.2 c.loop-place.place (c.in_ok-is_fault_at.ensures.0 c.if-branch.true), λ has. refl)

pub returns : goal.returns
returns c =
    let m = c.args.moment.now in
    let k = c.args.command in (
      λ t. absurd (false-true t),
      λ has.
          let at = of-faulted (point_of m) c.args.stmt.now k.level k.gxid k.cid c.args.why.0 c.args.why.1 c.args.why.2 has in
          absurd (c.loop-place.invariant at.0
          (let inside : at.0 < length m.before.now = faulted-inside (point_of m) c.args.stmt.now k.level k.gxid k.cid c.args.why.0 c.args.why.1 c.args.why.2 m.before.now m.whole at.0 at.1 in omega arith)
          at.1),
    )
