use Rattle.std.proofs.Common.{sym, ◌∙◌}
use Rattle.gx_legal.proofs.Tallying.{unmoved}
use Rattle.gx_legal.proofs.tally.move_seats.Goals as goal

pub move_seat-requires-clause-others : goal.move_seat-requires-clause-others
move_seat-requires-clause-others c = unmoved c.args.script.now c.args.mark.now c.in-Some.session (sym c.mover.ensures ∙ c.in-Some.is)
