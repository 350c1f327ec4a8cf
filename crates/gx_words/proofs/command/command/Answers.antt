use Rattle.gx_words.proofs.Commands.{command-is}
use Rattle.gx_words.proofs.command.command.Goals as goal

pub returns : goal.returns
returns c =
    command-is _ _ _ _ _ _ _ _ _ _ _ c.bare-start.ensures c.valued-seed.ensures.rule c.valued-turns.ensures.rule c.valued-work.ensures.rule
    c.flagged-trace.ensures.rule c.flagged-threads.ensures.rule
    (c.in_ok-one.ensures.shape c.valued-seed.ensures.local) (c.in_ok-two.ensures.shape c.valued-turns.ensures.local)
    (c.in_ok-three.ensures.shape c.valued-work.ensures.local) (c.in_ok-four.ensures.shape c.flagged-trace.ensures.local)
    (c.in_ok-all.ensures.shape c.flagged-threads.ensures.local)
