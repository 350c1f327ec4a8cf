use Rattle.std.proofs.Common.{◌≡◌, ◌∙◌, None, ap, arith, subst, sym}
use Rattle.std.proofs.lemmas.Grind.{common_steps}
use Rattle.std.specs.BTreeMap.{is_at}
use Rattle.std.specs.Map.{lookup}
use Rattle.std.specs.Prelude.{cond}
use Rattle.gx_dsnap.specs.Gxids.{gxid_cmp}
use Rattle.gx_entries.specs.Standing.{StandsAt}
use Rattle.gx_entries.proofs.Stood.{inside}
use Rattle.gx_entries.proofs.Updated.{removed-others}
use Rattle.gx_entries.proofs.take_out.Goals as goal

pub remove-value-requires : goal.remove-value-requires
remove-value-requires g c = grind (arith, common_steps, inside (is_at (gxid_cmp c.args.gxid)) c.as_slice.result.now c.in-Some.place c.in-Some.ensures.there, c.as_slice.ensures.len)

pub loop-place-preserved : goal.loop-place-preserved
loop-place-preserved g c = λ q.
    let stands = subst (λ xs. StandsAt (is_at (gxid_cmp c.args.gxid)) xs c.in-Some.place) c.as_slice.ensures.value c.in-Some.ensures.there in
    ap (λ fs. cond (is_at (gxid_cmp c.args.gxid) q) None (lookup (is_at (gxid_cmp q)) fs)) c.remove-value.ensures.items
    ∙ removed-others c.loop-place.entries.items c.args.gxid c.in-Some.place stands q
    ∙ c.loop-place.invariant q
