use Rattle.std.proofs.Common.{◌+◌, refl, subst}
use Rattle.gx_read_trace.specs.Rests.{IsBehind, Rest}
use Rattle.gx_read_trace.proofs.Feeds.{is_behind}
use Rattle.gx_read_trace.proofs.lines.Lines.line.Goals as goal

pub returns-in-Some : goal.returns-in-Some
returns-in-Some c =
    let new : Rest = record { left = c.in-Some.left.now; taken = c.self.inside.taken + 1 } in
    let old : Rest = record { left = c.self.inside.left.now; taken = c.self.inside.taken } in
    subst (λ (r : Rest). IsBehind r c.in-Some.line.now new) c.self.view_is (is_behind old new c.in-Some.line.now c.in-Some.ensures refl)
