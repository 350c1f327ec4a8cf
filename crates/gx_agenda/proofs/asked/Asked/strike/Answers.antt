use Rattle.std.specs.BTreeMap.{get}
use Rattle.gx_agenda.specs.Awaited.{awaited_at, waits_in}
use Rattle.gx_agenda.specs.Requests.{request_cmp}
use Rattle.gx_agenda.specs.VecMap.{at}
use Rattle.gx_agenda.proofs.Oks.{on_ok-three}
use Rattle.gx_agenda.proofs.Waiting.{index-put}
use Rattle.gx_agenda.proofs.asked.Asked.strike.Goals as goal

pub returns-in-Some-clause-due : goal.returns-in-Some-clause-due
returns-in-Some-clause-due c = on_ok-three c.put.result _ _ _ _ c.put.ensures.waits c.put.ensures.awaited c.put.ensures.due
    (λ put awaited due. index-put (record { segment = c.args.node; gxid = c.args.claim.gxid }) c.without_claim.result (get request_cmp c.args.self.now.waiting) (get request_cmp c.remove.new.self) (waits_in c.put.new.self.waiting)
    c.remove.ensures.updates.0 put (awaited_at c.args.self.now) (awaited_at c.put.new.self) (at request_cmp c.args.self.now.due) (at request_cmp c.put.new.self.due)
    awaited due)
