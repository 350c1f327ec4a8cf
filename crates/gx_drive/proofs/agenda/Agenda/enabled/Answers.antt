use Rattle.std.proofs.Common.{◌++◌, ◌∙◌, ap, rules, sym}
use Rattle.gx_drive.proofs.Let.{let-parts}
use Rattle.gx_drive.proofs.Pushed.{pieces}
use Rattle.gx_drive.proofs.agenda.Agenda.enabled.Goals as goal

pub returns : goal.returns
returns c =
    pieces _ _ _ _ _ _ _ c.new-events.result.items _ _ _ _ _ _ _ (search rules) c.in_ok-push_from.ensures c.in_ok-push_segment_moves.ensures
    (c.in_ok-push_option.ensures ∙ ap (λ xs. c.push_segment_moves.new.events.items ++ xs) c.resumption.ensures.first) c.in_ok-push_resends.ensures
    (c.in_ok-push_starts.ensures c.args.world.now.script c.args.world.now.run.steps c.requires.agreed.queue c.requires.agreed.slots) c.in_ok-push_ends.ensures
    (c.in_ok-push_option-2.ensures ∙ ap (λ xs. c.push_ends.new.events.items ++ xs) c.next_round.ensures.first)
    ∙ sym (let-parts c.args.world.now.script c.args.world.now.run.steps)
