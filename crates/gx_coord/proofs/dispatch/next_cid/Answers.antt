use Rattle.std.proofs.Common.{◌<◌, ◌+◌, ◌^◌, ◌∙◌, ap, arith, subst}
use Rattle.std.specs.BTreeMap.{is_at}
use Rattle.std.specs.Map.{lookup}
use Rattle.gx_dsnap.specs.Gxids.{gxid_cmp}
use Rattle.gx_rules.specs.Coordinators.{Work}
use Rattle.gx_coord.proofs.Changes.{found-as}
use Rattle.gx_coord.proofs.dispatch.next_cid.Goals as goal

pub overflow_add-result : goal.overflow_add-result
overflow_add-result c =
    let old = c.args.coord.now in
    let there = c.in-Some.ensures ∙ ap (lookup (is_at (gxid_cmp c.args.gxid))) c.as_slice.ensures.value in
    let room = subst (λ (w : Work). w.last + 1 < 2 ^ 32) (found-as old.script.value.lines old.works.items c.args.gxid c.in-Some.work.now there) c.requires in
    omega (arith, room)
