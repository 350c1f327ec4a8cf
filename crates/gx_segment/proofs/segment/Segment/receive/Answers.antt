use Rattle.std.proofs.Common.{false, refl}
use Rattle.gx_node.proofs.Later.{later-alike}
use Rattle.gx_rules.specs.AtSegment.{seg_rule}
use Rattle.gx_script.specs.declared.Script.{Script}
use Rattle.gx_segment.specs.Steps.{delivered}
use Rattle.gx_segment.proofs.Gone.{HasStepped-made}
use Rattle.gx_segment.proofs.segment.Segment.receive.Goals as goal

pub returns-clause-stepped : goal.returns-clause-stepped
returns-clause-stepped g c =
    HasStepped-made c.args.self.now _ g.s (delivered c.args.from c.args.number c.args.clock c.args.incarnation c.args.message.now) _ _ c.receive_on.new.marks.items c.deref.result.now c.deref.ensures (c.requires.1.1.0 c.if-self.false) c.in_ok-receive_on.ensures.gone refl refl refl

pub returns-in_err-receive_on-clause-item : goal.returns-in_err-receive_on-clause-item
returns-in_err-receive_on-clause-item g c = later-alike (λ (x : Script). (seg_rule x g.s (delivered c.args.from c.args.number c.args.clock c.args.incarnation c.args.message.now) false).item) c.deref.ensures c.receive_on.ensures.later

pub returns-clause-item : goal.returns-clause-item
returns-clause-item g c = later-alike (λ (x : Script). (seg_rule x g.s (delivered c.args.from c.args.number c.args.clock c.args.incarnation c.args.message.now) false).item) c.deref.ensures c.receive_on.ensures.later
