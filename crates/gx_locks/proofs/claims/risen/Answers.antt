use Rattle.std.proofs.lemmas.List.Filters.{dedup_is}
use Rattle.gx_locks.proofs.Risen.{AreRisen-dedup, same_gxid}
use Rattle.gx_locks.proofs.claims.risen.Goals as goal

pub returns : goal.returns
returns c =
    AreRisen-dedup c.args.gxids.items c.sort.new.self.items c.dedup.new.self.items c.in_ok-sort.ensures.permutation c.in_ok-sort.ensures.sorted (dedup_is same_gxid c.sort.new.self.items c.dedup.new.self.items c.dedup.ensures.filtered)
