use Rattle.gx_dtx.proofs.Settled.{enlist-kept}
use Rattle.gx_dtx.proofs.map.enlist.Goals as goal

pub returns-in-Some-clause-err : goal.returns-in-Some-clause-err
returns-in-Some-clause-err c =
    enlist-kept c.args.txns.now.entries c.args.gxid c.put_in.result c.in-Some.txn.now c.put_in.new.nodes _ c.in-Some.ensures.value c.put_in.ensures.err (c.get_mut.follows.holds _).0
