use Rattle.std.proofs.Common.{◌∙◌, ◌<◌, ap, length, subst}
use Rattle.gx_ids.specs.declared.ids.SessionId.{SessionId}
use Rattle.gx_store.specs.Groups.{place_in}
use Rattle.gx_agenda.proofs.Placing.{next-place}
use Rattle.gx_agenda.proofs.grouping.places_of.Goals as goal

pub loop-number-preserved : goal.loop-number-preserved
loop-number-preserved c =
    let here : SessionId = record { 0 = c.loop-number.number } in
    next-place (λ s. place_in s c.args.script.now.groups) c.loop-number.places.items c.push.new.self.items c.place_in.result c.loop-number.number (length c.args.script.now.sessions)
    (subst (λ n. c.loop-number.number < n) c.len-number-end.ensures c.loop-number-test.true) c.in_ok-push.ensures.items (c.place_in.ensures ∙ ap (place_in here) c.as_slice.ensures)
    ∙ c.loop-number.invariant
