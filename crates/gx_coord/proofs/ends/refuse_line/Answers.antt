use Rattle.gx_coord.proofs.Back.{on_back-refused}
use Rattle.gx_coord.proofs.ends.refuse_line.Goals as goal

pub returns : goal.returns
returns c =
    on_back-refused c.give_back.result c.args.coord.now c.tell_refusal.new.coord c.give_back.new.coord _ _ _ c.args.gxid c.args.reason
    c.in_ok-tell_refusal.ensures c.give_back.ensures.framed c.give_back.ensures.coord c.give_back.ensures.marks
