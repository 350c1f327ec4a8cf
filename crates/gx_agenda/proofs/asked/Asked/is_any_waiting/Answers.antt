use Rattle.std.proofs.Common.{◌∙◌, sym}
use Rattle.gx_store.specs.Points.{marks_in}
use Rattle.gx_agenda.proofs.Quieter.{no-resumptions, not-off}
use Rattle.gx_agenda.proofs.Waiting.{no-waits}
use Rattle.gx_agenda.proofs.asked.Asked.is_any_waiting.Goals as goal

pub returns : goal.returns
returns c = λ off steps asks node.
    no-resumptions (marks_in steps) node (λ g. sym (asks.waits node g) ∙ no-waits (record { segment = node; gxid = g }) c.args.self.now.waiting.entries (c.is_empty.ensures.0 (not-off c.is_empty.result off)))
