use Rattle.std.proofs.Common.{[], subst}
use Rattle.gx_store.specs.Protocol.{DoStepsFollow}
use Rattle.gx_law_order.proofs.Machines.{system-led}
use Rattle.gx_law_order.proofs.Whole.{world-follows}
use Rattle.gx_law_answers.proofs.laws.every_system_run_follows_the_protocol.Goals as goal

pub returns : goal.returns
returns c = λ script run some system. let m = system-led script run system in subst (DoStepsFollow script []) m.is (world-follows script some m.events)
