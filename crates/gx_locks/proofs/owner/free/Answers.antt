use Rattle.std.proofs.Common.{◌≡◌, ◌∙◌, Some, position, ap, sym, refl}
use Rattle.gx_locks.specs.Owners.{is_owner}
use Rattle.gx_locks.proofs.Owned.{found-freed, inside, is_live, its, live-less, unfound}
use Rattle.gx_locks.proofs.owner.free.Goals as goal

pub loop-place-smaller : goal.loop-place-smaller
loop-place-smaller c =
    let os = c.loop-place.owners.items in
    let i = c.in-Some.place in
    let at : position (is_owner c.args.gxid) os ≡ Some i = sym (c.in-Some.ensures ∙ ap (position (is_owner c.args.gxid)) c.as_slice.ensures.value) in
    let o = c.index_mut.result.now in
    live-less os i _ o (inside os c.args.gxid i at o) (is_live _ _ (its os c.args.gxid i at o)) refl

pub loop-place-preserved : goal.loop-place-preserved
loop-place-preserved c = λ h other.
    let os = c.loop-place.owners.items in
    let i = c.in-Some.place in
    let at : position (is_owner c.args.gxid) os ≡ Some i = sym (c.in-Some.ensures ∙ ap (position (is_owner c.args.gxid)) c.as_slice.ensures.value) in
    found-freed os c.args.gxid i at c.index_mut.result.now h _ other refl ∙ c.loop-place.invariant h other

pub returns-clause-gone : goal.returns-clause-gone
returns-clause-gone c = unfound c.loop-place.owners.items c.args.gxid (sym (c.in_default.ensures ∙ ap (position (is_owner c.args.gxid)) c.as_slice.ensures.value))
