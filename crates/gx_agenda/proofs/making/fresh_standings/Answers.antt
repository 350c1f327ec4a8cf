use Rattle.std.proofs.Common.{◌≡◌, ◌∙◌, ◌++◌, ◌∷◌, ◌<◌, [], ap, arith, subst, sym, take, slice_get, slice_set}
use Rattle.std.proofs.lemmas.List.{length-take-le, take_more}
use Rattle.std.proofs.lemmas.Option.{slice_get-get_or}
use Rattle.std.specs.Prelude.{Some}
use Rattle.gx_script.specs.declared.Line.{Line}
use Rattle.gx_agenda.specs.FreshQueue.{AreFresh, with_place}
use Rattle.gx_agenda.proofs.Growing.{fresh-more, numbered_at}
use Rattle.gx_agenda.proofs.making.fresh_standings.Goals as goal

pub loop-place-preserved : goal.loop-place-preserved
loop-place-preserved c =
    let lines = c.args.lines.now in
    let i = c.loop-place.place in
    let l = c.index-lines-place.result in
    let inside = c.loop-place-test.true in
    let read = c.index-lines-place.is in
    let there : slice_get lines i ≡ Some l = slice_get-get_or lines i l inside ∙ ap Some (sym read) in
    let number : c.from.result ≡ l.session.0 = c.from.ensures ∙ ap (λ (x : Line). x.session.0) (sym read) in
    subst (λ ls. AreFresh ls c.args.sessions c.add_place.new.standings.items) (ap (λ x. take i lines ++ x ∷ []) read ∙ sym (take_more lines i l inside))
    (fresh-more (take i lines) l c.args.sessions i c.loop-place.standings.items c.add_place.new.standings.items c.loop-place.invariant (numbered_at [] lines i l c.requires.numbers there) (sym (length-take-le i lines (omega (arith, inside))))
    (subst (λ (x : Line). x.session.0 < c.args.sessions) (sym read) (c.requires.within i l inside))
    (λ was at. subst (λ n. c.add_place.new.standings.items ≡ slice_set c.loop-place.standings.items n (with_place was i)) number (c.in_ok-add_place.ensures was (ap (slice_get c.loop-place.standings.items) number ∙ at))))
