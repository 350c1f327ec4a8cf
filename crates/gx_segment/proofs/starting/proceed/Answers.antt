use Rattle.std.proofs.Common.{subst}
use Rattle.std.specs.Global.{Vec}
use Rattle.gx_node.specs.Phases.{suspended_of}
use Rattle.gx_rules.specs.Running.{goes_on}
use Rattle.gx_slices.specs.Ran.{HasProgressed}
use Rattle.gx_store.specs.declared.mark.Mark.{Mark}
use Rattle.gx_segment.specs.Done.{came}
use Rattle.gx_segment.proofs.Doing.{HasDone-progressed}
use Rattle.gx_segment.proofs.starting.proceed.Goals as goal

pub returns-clause-done : goal.returns-clause-done
returns-clause-done g c =
    let command = c.args.command in
    let done = came c.done_of.new.marks.items c.done_of.result in
    HasDone-progressed g.was.script.tables c.go_on.new.held (record { seg = g.was.seg; marks = c.args.marks.now.items }) c.args.gxid (suspended_of command) command.row c.in_ok-progress.progress done
    (subst
    (λ (given : Vec Mark). HasProgressed g.was.script.tables c.go_on.new.held c.args.gxid c.in_ok-progress.progress (goes_on (record { seg = g.was.seg; marks = given.items }) c.args.gxid (suspended_of command) command.row))
    c.replace-given.ensures.value
    c.in_ok-progress.ensures)
    c.done_of.ensures
