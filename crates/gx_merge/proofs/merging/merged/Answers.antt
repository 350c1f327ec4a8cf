use Rattle.std.proofs.Common.{◌∙◌, length, map, replicate, Some, None, subst, sym, ap}
use Rattle.std.proofs.lemmas.List.{length-map}
use Rattle.gx_merge.specs.Merging.{AreMerged, IsEarliest}
use Rattle.gx_merge.proofs.Merged.{all-ended, loop-less, loop-more, merged-all, merged-none, step-inside}
use Rattle.gx_merge.proofs.merging.merged.Goals as goal

pub loop-front-init : goal.loop-front-init
loop-front-init c =
    let hs = map (λ h. h.steps) c.args.histories.now in
    subst (AreMerged hs c.in_ok-fronts.fronts.items) (sym c.new-steps.ensures) (merged-none hs c.in_ok-fronts.fronts.items (c.in_ok-fronts.ensures.items_if_clones_equal (λ y e. e) ∙ ap (λ n. replicate n 0) (sym (length-map c.args.histories.now (λ h. h.steps)))))

pub push_next-requires : goal.push_next-requires
push_next-requires c =
    let hs = map (λ h. h.steps) c.args.histories.now in
    step-inside c.args.histories.now c.loop-front.fronts.items c.loop-front.steps c.loop-front.invariant c.in-Some.front
    (subst (λ fs. IsEarliest hs fs (length c.args.histories.now) (Some c.in-Some.front)) c.as_slice.ensures.value c.in-Some.ensures) c.index-histories-front.result c.index-next.result.now c.index-next.ensures

pub loop-front-smaller : goal.loop-front-smaller
loop-front-smaller c =
    let hs = map (λ h. h.steps) c.args.histories.now in
    loop-less c.args.histories.now c.loop-front.fronts.items c.loop-front.steps c.loop-front.invariant c.in-Some.front
    (subst (λ fs. IsEarliest hs fs (length c.args.histories.now) (Some c.in-Some.front)) c.as_slice.ensures.value c.in-Some.ensures) c.index-histories-front.result c.index-next.result.now c.index-next.ensures
    c.in_ok-fronts-2.field-0 c.in_ok-fronts-2.ensures.next

pub loop-front-preserved : goal.loop-front-preserved
loop-front-preserved c =
    let hs = map (λ h. h.steps) c.args.histories.now in
    loop-more c.args.histories.now c.loop-front.fronts.items c.loop-front.steps c.loop-front.invariant c.in-Some.front
    (subst (λ fs. IsEarliest hs fs (length c.args.histories.now) (Some c.in-Some.front)) c.as_slice.ensures.value c.in-Some.ensures) c.index-histories-front.result c.index-next.result.now c.index-next.ensures
    c.requires c.in_ok-fronts-2.field-0 c.in_ok-fronts-2.ensures.next c.push_next.new.steps c.in_ok-fronts-2.ensures.steps

pub returns : goal.returns
returns c =
    let hs = map (λ h. h.steps) c.args.histories.now in
    merged-all hs c.loop-front.fronts.items c.loop-front.steps c.loop-front.invariant
    (all-ended c.args.histories.now c.loop-front.fronts.items (subst (λ fs. IsEarliest hs fs (length c.args.histories.now) None) c.as_slice.ensures.value c.in_default.ensures))
