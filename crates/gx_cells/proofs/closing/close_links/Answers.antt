use Rattle.std.proofs.Common.{rules}
use Rattle.gx_cells.proofs.LinkPairs.{left-next, none-ended}
use Rattle.gx_cells.proofs.closing.close_links.Goals as goal

pub loop-out-init : goal.loop-out-init
loop-out-init g c = none-ended c.args.outs.items c.args.inboxes.items (search rules)

pub loop-out-preserved-in-Some-pop : goal.loop-out-preserved-in-Some-pop
loop-out-preserved-in-Some-pop g c =
    left-next c.args.outs.items c.args.inboxes.items c.loop-out.outs.items _ c.loop-out.inboxes.items _ c.in-Some.out c.in-Some-pop.inbox c.loop-out.invariant c.in-Some.ensures.items c.in-Some-pop.ensures.items c.close_link.ensures
