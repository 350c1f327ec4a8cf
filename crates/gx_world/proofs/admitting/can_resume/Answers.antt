use Rattle.std.proofs.Common.{ap, arith}
use Rattle.gx_world.proofs.Waits.{may-not, may-there, stands-there}
use Rattle.gx_script.specs.declared.Script.{Script}
use Rattle.gx_world.proofs.admitting.can_resume.Goals as goal

pub is_ready_there-requires : goal.is_ready_there-requires
is_ready_there-requires c = stands-there c.args.network.now c.requires.is c.requires.usable c.args.node (omega arith) (omega (arith, ap (λ (s : Script). s.segments) c.deref.ensures))

pub returns-then-node-deref : goal.returns-then-node-deref
returns-then-node-deref c = may-there c.args.network.now c.requires.is c.args.node c.args.gxid c.is_ready_there.result (omega arith) (omega (arith, ap (λ (s : Script). s.segments) c.deref.ensures)) c.is_ready_there.ensures

pub returns-else-node-deref : goal.returns-else-node-deref
returns-else-node-deref c = may-not c.args.network.now c.requires.is c.args.node c.args.gxid (omega (arith, ap (λ (s : Script). s.segments) c.deref.ensures))
