use Rattle.std.proofs.Common.{◌∙◌, ap, filter, not, sym}
use Rattle.gx_locks.specs.HoldLists.{held}
use Rattle.gx_locks.specs.Holds.{same_hold}
use Rattle.gx_locks.proofs.hold_list.HoldList.strike.Goals as goal

pub returns-in-Two-clause-held : goal.returns-in-Two-clause-held
returns-in-Two-clause-held c =
    let others = filter (λ other. not (same_hold c.args.hold.now other)) in
    c.others_of_two.ensures ∙ ap others (sym c.parts.ensures) ∙ ap (λ list. others (held list)) (sym c.in-Two.is)
