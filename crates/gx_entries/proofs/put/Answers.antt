use Rattle.std.proofs.Common.{◌≡◌, None, Some, arith, subst, sym}
use Rattle.std.proofs.lemmas.Grind.{common_steps}
use Rattle.std.specs.BTreeMap.{is_at}
use Rattle.std.specs.List.{slice_set}
use Rattle.std.specs.Map.{lookup}
use Rattle.gx_dsnap.specs.Gxids.{gxid_cmp}
use Rattle.gx_entries.specs.Standing.{IsUpdated, StandsAt}
use Rattle.gx_entries.proofs.Stood.{inside}
use Rattle.gx_entries.proofs.Updated.{push-updates, set-updates}
use Rattle.gx_entries.proofs.put.Goals as goal

pub index_mut-requires : goal.index_mut-requires
index_mut-requires g c = grind (arith, common_steps, inside (is_at (gxid_cmp c.args.gxid)) c.as_slice.result.now c.in-Some.place c.in-Some.ensures.there, c.as_slice.ensures.len)

pub returns-in-Some : goal.returns-in-Some
returns-in-Some g c =
    let es = c.args.entries.now.items in
    let stands = subst (λ xs. StandsAt (is_at (gxid_cmp c.args.gxid)) xs c.in-Some.place) c.as_slice.ensures.value c.in-Some.ensures.there in
    subst (λ w. IsUpdated es (slice_set es c.in-Some.place (c.index_mut.result.now.0, w)) c.args.gxid (Some c.args.value)) (sym c.replace.ensures.after)
    (subst (λ e. IsUpdated es (slice_set es c.in-Some.place (e.0, c.args.value)) c.args.gxid (Some c.args.value)) (sym c.index_mut.ensures.value)
    (set-updates es c.args.gxid c.in-Some.place c.index_mut.result.now c.args.value stands))

pub returns-in_ok-push-in-None : goal.returns-in_ok-push-in-None
returns-in_ok-push-in-None g c =
    let es = c.args.entries.now.items in
    let none = subst (λ xs. lookup (is_at (gxid_cmp c.args.gxid)) xs ≡ None) c.as_slice.ensures.value c.in-None.ensures.none in
    subst (λ fs. IsUpdated es fs c.args.gxid (Some c.args.value)) (sym c.in_ok-push-in-None.ensures.items) (push-updates es c.args.gxid c.args.value none)
