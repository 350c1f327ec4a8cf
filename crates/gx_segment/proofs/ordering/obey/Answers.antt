use Rattle.gx_node.specs.Phases.{phase_of}
use Rattle.gx_segment.proofs.Obeying.{HasMoved-taken}
use Rattle.gx_segment.proofs.ordering.obey.Goals as goal

pub returns-clause-moved : goal.returns-clause-moved
returns-clause-moved g c =
    HasMoved-taken c.args.held.now c.take_in.new.entries c.set_status.new.self c.leave_ended.new.holders c.args.gxid _ c.in_ok-taken.taken (phase_of c.take_in.new.phase) c.status.result
    c.in_ok-taken.ensures.taken c.status.ensures c.set_status.ensures.set c.set_status.ensures.others c.set_status.ensures.writes c.set_status.ensures.horizon c.leave_ended.ensures
