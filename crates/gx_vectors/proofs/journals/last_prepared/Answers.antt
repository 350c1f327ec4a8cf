use Rattle.gx_vectors.proofs.Writers.{two-writers}
use Rattle.gx_vectors.proofs.journals.last_prepared.Goals as goal

pub commit-requires-clause-writers : goal.commit-requires-clause-writers
commit-requires-clause-writers c =
    two-writers c.in_ok-dtx.dtx c.begin.new.self c.enlist.new.self c.enlist-2.new.self c.in_ok-gxid.gxid
    c.in_ok-dtx.ensures c.in_ok-gxid.ensures.ok c.in_ok-gxid.ensures.next c.in_ok-enlist.ensures.ok c.in_ok-enlist-2.ensures.ok
