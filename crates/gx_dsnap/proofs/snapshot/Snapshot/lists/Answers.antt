use Rattle.std.proofs.Common.{◌∙◌}
use Rattle.gx_dsnap.proofs.Search.{is_ok-search}
use Rattle.gx_dsnap.proofs.snapshot.Snapshot.lists.Goals as goal

pub returns : goal.returns
returns c =
    c.is_ok.ensures.value
    ∙ is_ok-search c.args.self.now.running c.args.gxid c.binary_search.result c.args.self.now.rising (rw (← (c.as_slice.ensures ∙ c.get.ensures)) c.binary_search.ensures.bound) (rw (← (c.as_slice.ensures ∙ c.get.ensures)) c.binary_search.ensures.position)
