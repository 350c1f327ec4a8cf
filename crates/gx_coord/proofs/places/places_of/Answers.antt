use Rattle.std.proofs.Common.{◌∙◌, ◌++◌, ◌∷◌, ◌<◌, [], ap, arith, get_or, slice_set, subst, sym, take}
use Rattle.gx_script.specs.declared.Line.{Line}
use Rattle.gx_coord.specs.Places.{AreIndexed}
use Rattle.gx_coord.proofs.Indexed.{all-item, indexed_more, indexed_none, take-item, take-length}
use Rattle.gx_coord.proofs.places.places_of.Goals as goal

pub loop-place-init : goal.loop-place-init
loop-place-init c = subst (AreIndexed [] c.args.sessions) (sym c.in_ok-places.ensures) (indexed_none c.args.sessions)

pub add-requires : goal.add-requires
add-requires c =
    let i = c.loop-place.place in
    let inside = all-item (λ line. line.session.0 < c.args.sessions) c.args.lines.now i c.index-lines-place.result c.requires c.loop-place-test.true c.index-lines-place.is in
    omega (arith, inside, c.loop-place.invariant.all, c.from.ensures)

pub loop-place-preserved : goal.loop-place-preserved
loop-place-preserved c =
    let i = c.loop-place.place in
    let l = c.index-lines-place.result in
    let inside = all-item (λ line. line.session.0 < c.args.sessions) c.args.lines.now i l c.requires c.loop-place-test.true c.index-lines-place.is in
    subst (λ ls. AreIndexed ls c.args.sessions c.add.new.places.items) (take-item c.args.lines.now i l c.loop-place-test.true c.index-lines-place.is)
    (indexed_more (take i c.args.lines.now) c.args.sessions c.loop-place.places.items c.add.new.places.items l i c.loop-place.invariant (sym (take-length c.args.lines.now i (omega (arith, c.loop-place-test.true)))) inside
    (c.in_ok-add.ensures ∙ ap (λ n. slice_set c.loop-place.places.items n (get_or c.loop-place.places.items n [] ++ i ∷ [])) (c.from.ensures ∙ ap (λ (x : Line). x.session.0) (sym c.index-lines-place.is))))
