use Rattle.std.proofs.Common.{ap, sym, ◌∙◌}
use Rattle.std.proofs.lemmas.Option.{same_Some}
use Rattle.gx_read_trace.specs.Machine.{Mid, ended}
use Rattle.gx_read_trace.proofs.laws.lines_are_read_as_one.Goals as goal

pub returns : goal.returns
returns c = λ script lines seen other a b.
    same_Some seen other (sym a.tells ∙ ap (λ (m : Mid). ended m.so_far m.next) (same_Some a.last b.last (sym a.leads ∙ b.leads)) ∙ b.tells)
