use Rattle.gx_coord.proofs.Back.{on_back-committed}
use Rattle.gx_coord.proofs.ends.commit_line.Goals as goal

pub returns : goal.returns
returns c =
    on_back-committed c.give_back.result c.args.coord.now c.tell_commit.new.coord c.give_back.new.coord _ _ _ c.args.gxid
    c.in_ok-tell_commit.ensures c.give_back.ensures.framed c.give_back.ensures.coord c.give_back.ensures.marks
