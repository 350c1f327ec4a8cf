use Rattle.std.proofs.Common.{ap, arith}
use Rattle.gx_world.proofs.Waits.{nobody-resumes, resumes-here, resumes-there, stands-there}
use Rattle.gx_script.specs.declared.Script.{Script}
use Rattle.gx_world.proofs.waiting.ready.Goals as goal

pub ready_there-requires : goal.ready_there-requires
ready_there-requires c = stands-there c.args.network.now c.requires.is c.requires.usable c.args.node (omega arith) (omega (arith, ap (λ (s : Script). s.segments) c.deref.ensures))

pub returns-then-node-eq0 : goal.returns-then-node-eq0
returns-then-node-eq0 c = resumes-here c.args.network.now c.requires.is c.args.node c.ready_here.result c.if-node-eq0.true c.ready_here.ensures

pub returns-then-node-deref : goal.returns-then-node-deref
returns-then-node-deref c = resumes-there c.args.network.now c.requires.is c.args.node c.ready_there.result (omega arith) c.ready_there.ensures

pub returns-else-node-deref : goal.returns-else-node-deref
returns-else-node-deref c = nobody-resumes c.args.network.now c.requires.is c.args.node (omega (arith, ap (λ (s : Script). s.segments) c.deref.ensures))
