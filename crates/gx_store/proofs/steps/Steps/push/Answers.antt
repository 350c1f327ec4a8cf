use Rattle.std.proofs.Common.{rules}
use Rattle.gx_store.specs.declared.steps.Head.{Head}
use Rattle.gx_store.proofs.Kept.{steps_pushed}
use Rattle.gx_store.proofs.steps.Steps.push.Goals as goal

pub returns-clause-ok : goal.returns-clause-ok
returns-clause-ok c =
    let head : Head = record { stamp = c.args.stamp; event = c.args.event; first = c.len-first.result; last = c.len-last.result } in
    steps_pushed c.self.inside.heads.items _ c.self.inside.marks.items _ c.args.marks.items _ head c.self.invariant.0 c.self.view_is c.in_ok-push.ensures.items c.in_ok-append.ensures.items (search rules) (search rules)
