use Rattle.std.proofs.Common.{◌≡◌, ◌∙◌, None, ap, arith, suc, subst, sym, take, ◌+◌}
use Rattle.std.specs.BTreeMap.{is_at}
use Rattle.std.specs.Map.{lookup}
use Rattle.gx_dsnap.specs.Gxids.{gxid_cmp}
use Rattle.gx_entries.proofs.Gxids.{is_at-eqb}
use Rattle.gx_entries.proofs.Stood.{past-next, stands-behind}
use Rattle.gx_entries.proofs.place_of.Goals as goal

pub returns-then-eq-clause-there : goal.returns-then-eq-clause-there
returns-then-eq-clause-there g c =
    stands-behind (is_at (gxid_cmp c.args.gxid)) c.args.entries.now c.loop-place.place c.index-entries-place.result c.loop-place.invariant c.loop-place-test.true (is_at-eqb c.args.gxid.0 _ ∙ sym c.eq.ensures ∙ c.if-eq.true)

pub loop-place-preserved : goal.loop-place-preserved
loop-place-preserved g c =
    let next : suc c.loop-place.place ≡ c.loop-place.place + 1 = omega arith in
    subst (λ n. lookup (is_at (gxid_cmp c.args.gxid)) (take n c.args.entries.now) ≡ None) next
    (past-next (is_at (gxid_cmp c.args.gxid)) c.args.entries.now c.loop-place.place c.index-entries-place.result c.loop-place.invariant c.loop-place-test.true (is_at-eqb c.args.gxid.0 _ ∙ sym c.eq.ensures ∙ c.if-eq.false))
