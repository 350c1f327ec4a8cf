use Rattle.std.proofs.Common.{◌<◌, ◌^◌, length, subst, sym}
use Rattle.gx_links.specs.Ends.{OutEnd}
use Rattle.gx_links.proofs.Steps.{pushes}
use Rattle.gx_links.proofs.sender.LinkOut.send.Goals as goal

pub push_as-requires-clause-rule : goal.push_as-requires-clause-rule
push_as-requires-clause-rule g c n = pushes n _ _ _ c.self.invariant.1.role (subst (λ (out : OutEnd). length out.sent < 2 ^ 63) (sym c.self.view_is) c.requires)
