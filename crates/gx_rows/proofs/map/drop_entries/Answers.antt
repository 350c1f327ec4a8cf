use Rattle.std.proofs.Common.{◌<◌, arith}
use Rattle.std.proofs.lemmas.Bool.Decides.{nat_tests}
use Rattle.std.specs.Prelude.{None}
use Rattle.std.specs.BTreeMap.{Updates}
use Rattle.gx_rows.specs.Xids.{gxid_cmp}
use Rattle.gx_rows.proofs.XidEntries.{AreLeft-all, AreLeft-less, high_from-empty, high_from-least, popped, there-less}
use Rattle.gx_rows.proofs.map.drop_entries.Goals as goal

pub loop-gxid-init : goal.loop-gxid-init
loop-gxid-init c = (c.requires, AreLeft-all c.args.lxids.now c.args.entries.now c.args.horizon)

pub loop-gxid-preserved : goal.loop-gxid-preserved
loop-gxid-preserved c =
    let m = c.loop-gxid.lxids in
    let m' = c.pop_first.new.self in
    let n = c.loop-gxid.entries in
    let n' = c.forget.new.entries in
    let g = c.in-Some.gxid in
    let l = c.in-Some.lxid in
    let less : Updates gxid_cmp m m' g None = popped m m' c.pop_first.result (g, l) c.in-Some.ensures.first c.pop_first.ensures.variant.1 c.pop_first.ensures.removal c.pop_first.ensures.updates in
    let low : g.0 < c.args.horizon.0 = grind (arith, nat_tests, c.le.ensures, c.if-le.false) in (
      there-less m m' n n' g l c.loop-gxid.invariant.0 c.in-Some.ensures.found less c.forget.ensures,
      AreLeft-less m m' n n' g l c.loop-gxid.invariant.0 c.in-Some.ensures.found less c.forget.ensures c.args.lxids.now c.args.entries.now c.args.horizon low c.loop-gxid.invariant.1,
    )

pub returns-then-le-clause-high : goal.returns-then-le-clause-high
returns-then-le-clause-high c q k at =
    high_from-least c.loop-gxid.lxids c.args.horizon c.in-Some.gxid q k c.in-Some.ensures.least (grind (arith, nat_tests, c.le.ensures, c.if-le.true)) at

pub returns-clause-high : goal.returns-clause-high
returns-clause-high c q k at = high_from-empty c.loop-gxid.lxids c.args.horizon q k c.in_default.ensures.empty at
