use Rattle.gx_legal.proofs.Doings.{either-late}
use Rattle.gx_legal.proofs.Oks.{if_ok}
use Rattle.gx_legal.proofs.Sessions.{no-longer}
use Rattle.gx_legal.specs.Moments.{point_of}
use Rattle.gx_legal.proofs.doing.is_by_either.Goals as goal

pub returns : goal.returns
returns c =
    let m = c.args.moment.now in
    if_ok c.is_late.result (λ b h. either-late c.args.moment.now.script.now (point_of m) c.args.command.0 c.args.command.1 c.args.live c.args.late m.before.now b m.whole
    (no-longer c.in_ok-is_by_command.field-0 c.in_ok-is_by_command.ensures c.if-branch.false) h) c.is_late.ensures
