use Rattle.std.proofs.Common.{rules}
use Rattle.gx_report.proofs.Texts.{sessions-next}
use Rattle.gx_report.proofs.sessions.push_indexed.Goals as goal

-- src/sessions.rt:28:5
pub loop-session-preserved : goal.loop-session-preserved
loop-session-preserved c =
    sessions-next _ _ _ _ _ _ _ _ _ c.requires (search rules) c.index-names-session.is c.index-index-session.is (search rules) c.loop-session.invariant
