use Rattle.gx_agenda.proofs.Again.{resends-listed}
use Rattle.gx_agenda.proofs.Oks.{on_ok}
use Rattle.gx_agenda.proofs.asked.Asked.push_resends.Goals as goal

pub returns : goal.returns
returns c = on_ok c.push_graph.result _ _ c.push_graph.ensures
    (λ pushed script steps asked fit told. resends-listed script steps c.args.segment c.args.self.now fit asked c.push_requests.ensures.ordered _ _ _ c.args.graph c.in_ok-push_requests.ensures.all pushed told)
