use Rattle.std.proofs.Common.{rules, arith}
use Rattle.gx_settle.specs.Top.{IsRan, IsRead}
use Rattle.gx_settle.proofs.Attempts.{ran-attempt}
use Rattle.gx_settle.proofs.attempt.make_attempt.Goals as goal

pub returns-clause-came : goal.returns-clause-came
returns-clause-came g c =
    let read : IsRead (g.S.Source.left c.args.source.now) (g.S.Source.left c.read_up_to.new.source) c.in-Ok-read_commands.commands.items = search (rules, arith) in
    let ran : IsRan c.in-Ok-read_commands.commands.items (g.D.Disk.state c.args.disk.now) (g.D.Disk.state c.ran.new.disk) (g.D.Disk.fault_count c.args.disk.now) (g.D.Disk.fault_count c.ran.new.disk) c.ran.result = search rules in
    ran-attempt _ _ _ _ _ _ _ _ _ read c.ran.result ran
