use Rattle.std.proofs.Common.{◌∙◌, ap}
use Rattle.std.specs.BTreeMap.{get}
use Rattle.std.specs.Prelude.{[], List, Option, unwrap_or}
use Rattle.gx_waits.specs.Claims.{with_claim}
use Rattle.gx_waits.specs.declared.claim.Claim.{Claim}
use Rattle.gx_agenda.specs.Awaited.{awaited_at, waits_in}
use Rattle.gx_agenda.specs.Requests.{request_cmp}
use Rattle.gx_agenda.specs.VecMap.{at}
use Rattle.gx_agenda.proofs.Oks.{on_ok, on_ok-three}
use Rattle.gx_agenda.proofs.Waiting.{index-put, waits-put}
use Rattle.gx_agenda.proofs.asked.Asked.begin.Goals as goal

pub returns-clause-waits : goal.returns-clause-waits
returns-clause-waits c = on_ok c.put.result _ _ c.put.ensures.waits
    (λ put. waits-put (record { segment = c.args.node; gxid = c.args.claim.gxid }) c.in_ok-claims.claims (get request_cmp c.args.self.now.waiting) (get request_cmp c.remove.new.self) (waits_in c.put.new.self.waiting)
    c.remove.ensures.updates.0 put (with_claim c.args.claim)
    (c.in_ok-claims.ensures ∙ ap (λ (o : Option (List Claim)). with_claim c.args.claim (unwrap_or o [])) c.remove.ensures.value))

pub returns-clause-due : goal.returns-clause-due
returns-clause-due c = on_ok-three c.put.result _ _ _ _ c.put.ensures.waits c.put.ensures.awaited c.put.ensures.due
    (λ put awaited due. index-put (record { segment = c.args.node; gxid = c.args.claim.gxid }) c.in_ok-claims.claims (get request_cmp c.args.self.now.waiting) (get request_cmp c.remove.new.self) (waits_in c.put.new.self.waiting)
    c.remove.ensures.updates.0 put (awaited_at c.args.self.now) (awaited_at c.put.new.self) (at request_cmp c.args.self.now.due) (at request_cmp c.put.new.self.due)
    awaited due)
