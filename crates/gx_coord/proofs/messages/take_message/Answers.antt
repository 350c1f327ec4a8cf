use Rattle.std.proofs.Common.{◌≡◌, subst, sym}
use Rattle.std.proofs.lemmas.Result.{IfOk-weaker}
use Rattle.gx_msg.specs.declared.message.Message.{Message}
use Rattle.gx_rules.specs.AtCoordinator.{on_message}
use Rattle.gx_coord.specs.Books.{coord_of}
use Rattle.gx_coord.specs.Turns.{IsTurn}
use Rattle.gx_coord.proofs.messages.take_message.Goals as goal

pub returns-in-Answer-clause-turn : goal.returns-in-Answer-clause-turn
returns-in-Answer-clause-turn g c =
    IfOk-weaker c.take_reply.result _ _
    (λ turned. subst (λ (m : Message). IsTurn c.args.coord.now c.take_reply.new.coord c.args.marks.now.items c.take_reply.new.marks.items (on_message (coord_of c.args.coord.now) c.args.from turned.fails m)) (sym c.in-Answer.is))
    c.take_reply.ensures.turn

pub returns-in-Answer-clause-outs : goal.returns-in-Answer-clause-outs
returns-in-Answer-clause-outs g c =
    IfOk-weaker c.take_reply.result _ _
    (λ turned. subst (λ (m : Message). turned.outs ≡ (on_message (coord_of c.args.coord.now) c.args.from turned.fails m).outs) (sym c.in-Answer.is))
    c.take_reply.ensures.outs
