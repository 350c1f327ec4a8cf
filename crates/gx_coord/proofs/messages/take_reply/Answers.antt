use Rattle.std.proofs.Common.{◌≡◌, ◌∙◌, false, ap, subst, sym}
use Rattle.std.proofs.lemmas.Result.{IfOk-weaker}
use Rattle.gx_msg.specs.declared.reply.Reply.{Reply}
use Rattle.gx_msg.specs.declared.reply.Reply.TheVariants.{Done}
use Rattle.gx_node.proofs.Later.{later-alike}
use Rattle.gx_rules.specs.AtCoordinator.{on_answer}
use Rattle.gx_rules.specs.Coordinators.{CoordTurn}
use Rattle.gx_coord.specs.Books.{coord_of}
use Rattle.gx_coord.specs.Turns.{IsTurn}
use Rattle.gx_coord.specs.declared.statuses.Turned.{Turned}
use Rattle.gx_coord.proofs.Quiet.{IsForCommand, answer-took, for-status, status-turn}
use Rattle.gx_coord.proofs.messages.take_reply.Goals as goal

pub returns-in-Done-clause-took : goal.returns-in-Done-clause-took
returns-in-Done-clause-took g c =
    IfOk-weaker c.take_part.result _ _
    (λ turned e. answer-took (coord_of c.args.coord.now) c.args.gxid c.args.node c.args.reply.now turned.fails _ (subst IsForCommand (sym c.in-Done.is) tt) e)
    c.take_part.ensures.unfailing

pub returns-in_ok-outs-in-Failed-clause-took : goal.returns-in_ok-outs-in-Failed-clause-took
returns-in_ok-outs-in-Failed-clause-took g c =
    answer-took (coord_of c.args.coord.now) c.args.gxid c.args.node c.args.reply.now c.plain.result.fails _ (subst IsForCommand (sym c.in-Failed.is) tt) (ap (λ (t : Turned). t.fails) c.plain.ensures)

pub returns-in-Done-clause-turn : goal.returns-in-Done-clause-turn
returns-in-Done-clause-turn g c =
    IfOk-weaker c.take_part.result _ _
    (λ turned. subst (λ (r : Reply). IsTurn c.args.coord.now c.take_part.new.coord c.args.marks.now.items c.take_part.new.marks.items (on_answer (coord_of c.args.coord.now) c.args.gxid c.args.node turned.fails r)) (sym (c.in-Done.is ∙ ap (Done c.in-Done.cid c.in-Done.wrote c.in-Done.count) (sym c.get.ensures))))
    c.take_part.ensures.turn

pub returns-in-Done-clause-outs : goal.returns-in-Done-clause-outs
returns-in-Done-clause-outs g c =
    IfOk-weaker c.take_part.result _ _
    (λ turned. subst (λ (r : Reply). turned.outs ≡ (on_answer (coord_of c.args.coord.now) c.args.gxid c.args.node turned.fails r).outs) (sym (c.in-Done.is ∙ ap (Done c.in-Done.cid c.in-Done.wrote c.in-Done.count) (sym c.get.ensures))))
    c.take_part.ensures.outs

pub returns-in_default-clause-turn : goal.returns-in_default-clause-turn
returns-in_default-clause-turn g c =
    let own = for-status c.args.reply.now c.in_default.not-Done c.in_default.not-Failed in
    IfOk-weaker c.take_status.result _ _
    (λ turned. subst (λ (t : CoordTurn). IsTurn c.args.coord.now c.take_status.new.coord c.args.marks.now.items c.take_status.new.marks.items t) (status-turn (coord_of c.args.coord.now) c.args.gxid c.args.node c.args.reply.now turned.fails own))
    c.take_status.ensures.turn

pub returns-in_default-clause-outs : goal.returns-in_default-clause-outs
returns-in_default-clause-outs g c =
    let own = for-status c.args.reply.now c.in_default.not-Done c.in_default.not-Failed in
    IfOk-weaker c.take_status.result _ _
    (λ turned. subst (λ (t : CoordTurn). turned.outs ≡ t.outs) (status-turn (coord_of c.args.coord.now) c.args.gxid c.args.node c.args.reply.now turned.fails own))
    c.take_status.ensures.outs

pub returns-in_default-clause-later : goal.returns-in_default-clause-later
returns-in_default-clause-later g c =
    let own = for-status c.args.reply.now c.in_default.not-Done c.in_default.not-Failed in
    later-alike (λ (t : CoordTurn). t.item) (status-turn (coord_of c.args.coord.now) c.args.gxid c.args.node c.args.reply.now false own) c.take_status.ensures.later
