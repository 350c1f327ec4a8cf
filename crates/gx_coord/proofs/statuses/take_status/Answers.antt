use Rattle.std.proofs.Common.{ap}
use Rattle.gx_dtx.specs.Rules.{is_deciding}
use Rattle.gx_node.proofs.Later.{later-alike}
use Rattle.gx_rules.specs.AtCoordinator.{item_for}
use Rattle.gx_coord.proofs.Deciding.{later-decided}
use Rattle.gx_coord.proofs.statuses.take_status.Goals as goal

pub returns-in_err-out-clause-later : goal.returns-in_err-out-clause-later
returns-in_err-out-clause-later g c =
    let k = c.args.coord.now in
    later-alike (item_for k.dtx c.args.gxid c.args.node) c.in_ok-reply.ensures
    (later-decided c.args.gxid c.reply.result (is_deciding k.dtx c.args.gxid c.args.node c.in_ok-reply.reply) c.reply.ensures.decided (λ e. ap g.J.Journal.shelf (c.reply.ensures.untouched e)) c.reply.ensures.kept)

pub returns-in_err-outs-clause-later : goal.returns-in_err-outs-clause-later
returns-in_err-outs-clause-later g c =
    let k = c.args.coord.now in
    later-alike (item_for k.dtx c.args.gxid c.args.node) c.in_ok-reply.ensures
    (later-decided c.args.gxid c.reply.result (is_deciding k.dtx c.args.gxid c.args.node c.in_ok-reply.reply) c.reply.ensures.decided (λ e. ap g.J.Journal.shelf (c.reply.ensures.untouched e)) c.reply.ensures.kept)

pub returns-clause-later : goal.returns-clause-later
returns-clause-later g c =
    let k = c.args.coord.now in
    later-alike (item_for k.dtx c.args.gxid c.args.node) c.in_ok-reply.ensures
    (later-decided c.args.gxid c.reply.result (is_deciding k.dtx c.args.gxid c.args.node c.in_ok-reply.reply) c.reply.ensures.decided (λ e. ap g.J.Journal.shelf (c.reply.ensures.untouched e)) c.reply.ensures.kept)
