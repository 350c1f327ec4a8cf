use Rattle.std.proofs.Common.{◌≡◌, ◌++◌, take}
use Rattle.gx_law_merge.specs.Apart.{sent_in_step}
use Rattle.gx_cells.proofs.sending.send_marks.Given as goal

abbrev pub invariant-loop-mark : goal.invariant-loop-mark
invariant-loop-mark g l = (l.out.link ≡ l.fn.out.link) × (l.out.sent ≡ l.fn.out.sent ++ sent_in_step l.node l.clock (take l.mark-index l.marks))
