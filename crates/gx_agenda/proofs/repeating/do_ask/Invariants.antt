use Rattle.std.proofs.Common.{◌≡◌, ◌∷◌, [], None, is_some, drop}
use Rattle.std.specs.List.{list_any}
use Rattle.gx_store.specs.Schedule.{asked_by}
use Rattle.gx_agenda.proofs.repeating.do_ask.Given as goal

abbrev pub invariant-loop-mark : goal.invariant-loop-mark
invariant-loop-mark l = list_any (λ m. is_some (asked_by l.segment l.gxid None (m ∷ []))) (drop l.mark-index l.marks) ≡ list_any (λ m. is_some (asked_by l.segment l.gxid None (m ∷ []))) l.marks
