use Rattle.gx_dtx.proofs.Settled.{set_value-kept, reply-made}
use Rattle.gx_dtx.proofs.map.reply.Goals as goal

pub returns-in-Some-clause-err : goal.returns-in-Some-clause-err
returns-in-Some-clause-err g c =
    set_value-kept c.args.txns.now.entries c.args.gxid c.take_answer.result c.in-Some.txn.now c.take_answer.new.txn _ c.in-Some.ensures.value c.take_answer.ensures.err (c.get_mut.follows.holds c.take_answer.new.txn).0

pub returns-in-Some-clause-value : goal.returns-in-Some-clause-value
returns-in-Some-clause-value g c =
    reply-made c.args.txns.now.entries c.args.gxid c.in-Some.txn.now c.take_answer.new.txn c.args.node c.args.answer.now _ c.take_answer.result c.in-Some.ensures.value (c.get_mut.follows.holds c.take_answer.new.txn).0 c.take_answer.ensures.value
