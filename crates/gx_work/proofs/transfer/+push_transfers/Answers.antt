use Rattle.std.proofs.lemmas.List.{take_rest}
use Rattle.gx_work.proofs.Nexts.{transfers-next}
use Rattle.gx_work.proofs.transfer.+push_transfers.Goals as goal

pub returns : goal.returns
returns t c =
    let more = rw take_rest at c.in_ok-push_transfers.ensures in
    transfers-next c.args.session c.args.words.now _ _ _ c.in-len3-up.len_at_least c.in_ok-push.ensures.items more
