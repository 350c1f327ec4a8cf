use Rattle.gx_dtx.proofs.Settled.{set_value-kept}
use Rattle.gx_dtx.proofs.map.commit.Goals as goal

pub returns-in-Some-clause-err : goal.returns-in-Some-clause-err
returns-in-Some-clause-err c =
    set_value-kept c.args.txns.now.entries c.args.gxid c.commit.result c.in-Some.txn.now c.commit.new.txn _ c.in-Some.ensures.value c.commit.ensures.err (c.get_mut.follows.holds c.commit.new.txn).0
