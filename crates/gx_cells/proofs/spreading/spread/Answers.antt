use Rattle.std.proofs.Common.{rules, ◌<◌, ◌≤◌, ◌∙◌, ap, length, refl}
use Rattle.std.proofs.Math.Seq.{map-set_same}
use Rattle.gx_links.specs.Ends.{OutEnd}
use Rattle.gx_cells.proofs.Links.{all-spread, link-read, spread-next}
use Rattle.gx_cells.proofs.spreading.spread.Goals as goal

pub returns-in_err-send_marks-clause-links : goal.returns-in_err-send_marks-clause-links
returns-in_err-send_marks-clause-links g c =
    map-set_same (λ (o : OutEnd). o.link) c.loop-place.outs.items c.loop-place.place c.send_marks.new.out c.index_mut.result.now (c.send_marks.ensures.link ∙ ap (λ (o : OutEnd). o.link) c.index_mut.ensures.value)
    ∙ c.loop-place.invariant.links

pub loop-place-preserved : goal.loop-place-preserved
loop-place-preserved g c =
    let now = c.loop-place.outs.items in
    let olds = c.args.outs.now.items in
    let inside : c.loop-place.place < length olds = search rules in
    spread-next c.args.clock c.args.marks.now olds now _ c.loop-place.place c.index_mut.result.now c.send_marks.new.out c.loop-place.invariant (link-read now olds c.loop-place.place c.index_mut.result.now c.loop-place.invariant.links inside c.index_mut.ensures.value)
    c.in_ok-send_marks.ensures.sent
    (map-set_same (λ (o : OutEnd). o.link) now c.loop-place.place c.send_marks.new.out c.index_mut.result.now (c.send_marks.ensures.link ∙ ap (λ (o : OutEnd). o.link) c.index_mut.ensures.value)) refl

pub returns-clause-sent : goal.returns-clause-sent
returns-clause-sent g c =
    let all : length c.args.outs.now.items ≤ c.loop-place.place = search rules in
    all-spread c.args.clock c.args.marks.now c.args.outs.now.items c.loop-place.outs.items c.loop-place.place c.loop-place.invariant all
