use Rattle.std.proofs.Common.{◌∙◌, sym}
use Rattle.gx_drive.proofs.Asked.{resendable-at}
use Rattle.gx_drive.proofs.listing.push_resends_to.Goals as goal

pub returns-in_ok-push_resends : goal.returns-in_ok-push_resends
returns-in_ok-push_resends c =
    c.in_ok-push_resends.ensures c.args.world.now.script c.args.world.now.run.steps c.requires.agreed.asked
    (resendable-at c.args.world.now.script c.requires.language.some_segments c.args.world.now.run.steps c.requires.reached c.args.segment (sym c.is_quiet.ensures ∙ c.if-is_quiet.true))
    c.is_graph_awaited-graph.ensures
