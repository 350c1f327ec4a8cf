use Rattle.std.proofs.Common.{◌≡◌, ◌<◌, ◌+◌, arith, ap, refl, length, ◌∙◌}
use Rattle.std.specs.Prelude.{◌-◌, slice_set}
use Rattle.std.proofs.Math.Seq.{map-set_same}
use Rattle.std.proofs.lemmas.Option.{slice_get_read}
use Rattle.gx_cells.specs.declared.inbox.Inbox.{Inbox}
use Rattle.gx_cells.proofs.Answers.{if_ok}
use Rattle.gx_cells.proofs.MoreHeard.{heard-by}
use Rattle.gx_cells.proofs.hearing.receive_from.Goals as goal

pub returns-clause-links : goal.returns-clause-links
returns-clause-links g c =
    map-set_same (λ (x : Inbox). x.source.link) c.args.inboxes.now.items (c.from-place.result - 1) c.receive_next.new.inbox c.index_mut.result.now (c.receive_next.ensures.link ∙ ap (λ (x : Inbox). x.source.link) c.index_mut.ensures.value)

pub returns-clause-heard : goal.returns-clause-heard
returns-clause-heard g c =
    let items = c.args.inboxes.now.items in
    let new = c.receive_next.new.inbox in
    let place = c.from-place.result - 1 in
    let was = c.index_mut.result.now in
    let number : c.args.from.0 ≡ place + 1 = omega arith in
    let inside : place < length items = omega arith in
    if_ok c.receive_next.result _ _ c.receive_next.ensures.received
    (λ looked h.
    heard-by c.args.history.now.script.value g.there.coord c.args.from (record { inboxes = items; steps = c.args.history.now.steps }) (record { inboxes = slice_set items place new; steps = c.receive_next.new.history.steps }) looked place was number
    (slice_get_read items (length items) place was refl inside c.index_mut.ensures.value) (new, ap (λ n. slice_set items (n - 1) new) c.from-place.ensures, h))
