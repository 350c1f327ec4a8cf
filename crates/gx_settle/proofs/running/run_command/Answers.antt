use Rattle.std.proofs.Common.{rules, ◌<◌, ◌^◌, sym, refl, ◌∙◌, subst, append_assoc}
use Rattle.std.proofs.lemmas.Result.{err_from_is_err_and}
use Rattle.gx_settle.specs.declared.command.Command.{Command}
use Rattle.gx_settle.specs.Running.{IsLost, IsStep, IsStepCut}
use Rattle.gx_settle.proofs.Runs.{reopen-cut-all, settle-cut, settled, settled-lost}
use Rattle.gx_settle.proofs.running.run_command.Goals as goal

pub returns-in_err-next-in-Settle-clause-cut : goal.returns-in_err-next-in-Settle-clause-cut
returns-in_err-next-in-Settle-clause-cut g c =
    let old = g.D.Disk.state c.args.disk.now in
    let new = g.D.Disk.state c.settle.new.disk in
    let before = g.D.Disk.fault_count c.args.disk.now in
    let now = g.D.Disk.fault_count c.settle.new.disk in
    let fits : c.in-Settle.gxid.0 < 2 ^ 64 = search rules in
    let drawn : 0 < c.in-Settle.gxid.0 = search rules in
    let fault = c.in_err-next-in-Settle.field-0.0 in
    let p = err_from_is_err_and c.from_residual.result c.from_residual.ensures.1 in
    rw (p.1, p.2) (subst (λ (command : Command). IsStepCut fault command old new before now c.args.text.now.items c.args.text.now.items) (sym c.in-Settle.is)
    (settle-cut c.args.decider old new c.in-Settle.gxid c.in-Settle.wish c.requires.known drawn fits before now c.args.text.now.items c.args.text.now.items refl c.in_err-next-in-Settle.ensures.broken fault c.in_err-next-in-Settle.ensures.refused))

pub returns-in-Reopen-clause-cut : goal.returns-in-Reopen-clause-cut
returns-in-Reopen-clause-cut g c = reopen-cut-all c.args.command c.in-Reopen.is _ _ _ _ _ _ refl c.open_log.result c.open_log.ensures.broken c.open_log.ensures.refused

pub returns-in-Ok-clause-step : goal.returns-in-Ok-clause-step
returns-in-Ok-clause-step g c =
    let old = g.D.Disk.state c.args.disk.now in
    let new = g.D.Disk.state c.settle.new.disk in
    let fits : c.in-Settle.gxid.0 < 2 ^ 64 = search rules in
    let drawn : 0 < c.in-Settle.gxid.0 = search rules in
    subst (λ (command : Command). IsStep command old new c.args.text.now.items c.push_answer.new.text.items) (sym c.in-Settle.is)
    (settled c.args.decider old new c.in-Settle.gxid c.in-Settle.wish c.requires.known drawn fits c.in_ok-next-in-Settle.answer _ _ c.in_ok-next-in-Settle.ensures.made (c.in-Ok.ensures ∙ append_assoc c.args.text.now.items _ _))

pub returns-in-Err-clause-cut : goal.returns-in-Err-clause-cut
returns-in-Err-clause-cut g c =
    let old = g.D.Disk.state c.args.disk.now in
    let new = g.D.Disk.state c.settle.new.disk in
    let fits : c.in-Settle.gxid.0 < 2 ^ 64 = search rules in
    let drawn : 0 < c.in-Settle.gxid.0 = search rules in
    subst (λ (command : Command). IsLost command old new) (sym c.in-Settle.is)
    (settled-lost c.args.decider old new c.in-Settle.gxid c.in-Settle.wish c.requires.known drawn fits c.in_ok-next-in-Settle.answer c.in_ok-next-in-Settle.ensures.made)
