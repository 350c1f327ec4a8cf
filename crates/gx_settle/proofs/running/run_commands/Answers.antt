use Rattle.std.proofs.Common.{rules, ◌<◌, ◌≤◌, ◌+◌, length, drop, arith, ◌∙◌}
use Rattle.std.proofs.lemmas.List.{drop_all, drop_more}
use Rattle.std.proofs.lemmas.Result.{err_from_is_err_and}
use Rattle.gx_settle.proofs.Runs.{cut, first-cut, opened, reaches-next, run, stepped}
use Rattle.gx_settle.proofs.running.run_commands.Goals as goal

pub returns-in_err-decider-clause-cut : goal.returns-in_err-decider-clause-cut
returns-in_err-decider-clause-cut g c =
    let e = c.in_err-decider.ensures in
    let p = err_from_is_err_and c.from_residual.result c.from_residual.ensures.1 in
    rw (p.1, p.2) (first-cut (g.D.Disk.state c.args.disk.now) (g.D.Disk.state c.open_log.new.disk) (g.D.Disk.fault_count c.args.disk.now) (g.D.Disk.fault_count c.open_log.new.disk) e.broken.0 e.broken.1 e.broken.2
    c.args.commands.now c.in_err-decider.field-0.0 c.args.text.now.items c.requires.empty e.refused)

pub loop-command-init : goal.loop-command-init
loop-command-init g c = record {
  known = c.in_ok-decider.ensures.known;
  way = opened c.args.commands.now _ _ c.args.text.now.items _ c.requires.empty c.in_ok-decider.ensures.end c.in_ok-decider.ensures.made;
  later = c.open_log.ensures.later;
  size = c.open_log.ensures.size;
  reach = c.open_log.ensures.reach;
}

pub returns-in_err-decider-2-clause-cut : goal.returns-in_err-decider-2-clause-cut
returns-in_err-decider-2-clause-cut g c =
    let i = c.loop-command.command-index in
    let inside : i < length c.args.commands.now = search (rules, arith) in
    let p = err_from_is_err_and c.from_residual-in_err-decider-2.result c.from_residual-in_err-decider-2.ensures.1 in
    rw (p.1, p.2) (cut c.args.commands.now (drop (i + 1) c.args.commands.now) (g.D.Disk.state c.args.disk.now) (g.D.Disk.state c.loop-command.disk) c.loop-command.text.items _ _ (drop_more c.args.commands.now i _ inside) c.loop-command.invariant.way
    (g.D.Disk.state c.run_command.new.disk) c.run_command.new.text.items (g.D.Disk.fault_count c.args.disk.now) (g.D.Disk.fault_count c.loop-command.disk) (g.D.Disk.fault_count c.run_command.new.disk) c.loop-command.invariant.later c.in_err-decider-2.field-0.0 c.in_err-decider-2.ensures.cut)

pub returns-in_err-decider-2-clause-reach : goal.returns-in_err-decider-2-clause-reach
returns-in_err-decider-2-clause-reach g c = reaches-next _ _ _ _ _ c.loop-command.invariant.size c.loop-command.invariant.reach c.run_command.ensures.reach

pub loop-command-preserved : goal.loop-command-preserved
loop-command-preserved g c =
    let i = c.loop-command.command-index in
    let inside : i < length c.args.commands.now = search (rules, arith) in
    record {
      known = c.in_ok-decider-2.ensures.known;
      way = stepped c.args.commands.now (drop (i + 1) c.args.commands.now) (g.D.Disk.state c.args.disk.now) (g.D.Disk.state c.loop-command.disk) c.loop-command.text.items _ _ (drop_more c.args.commands.now i _ inside) c.loop-command.invariant.way
          (g.D.Disk.state c.run_command.new.disk) c.run_command.new.text.items c.in_ok-decider-2.ensures.step;
      later = omega (arith, c.loop-command.invariant.later, c.run_command.ensures.later);
      size = c.run_command.ensures.size ∙ c.loop-command.invariant.size;
      reach = reaches-next _ _ _ _ _ c.loop-command.invariant.size c.loop-command.invariant.reach c.run_command.ensures.reach;
    }

pub returns-clause-ok : goal.returns-clause-ok
returns-clause-ok g c =
    let i = c.loop-command.command-index in
    let past : length c.args.commands.now ≤ i = search (rules, arith) in
    run c.args.commands.now _ _ _ c.loop-command.text.items (drop_all i c.args.commands.now past) c.loop-command.invariant.way
