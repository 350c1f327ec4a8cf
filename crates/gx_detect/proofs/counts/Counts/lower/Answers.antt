use Rattle.std.proofs.Common.{◌-◌, ap}
use Rattle.std.specs.Prelude.{unwrap_or}
use Rattle.gx_detect.specs.Tally.{gxid_cmp}
use Rattle.gx_detect.proofs.Counting.{gxid-other, others-through}
use Rattle.gx_detect.proofs.counts.Counts.lower.Goals as goal

pub returns-clause-elsewhere : goal.returns-clause-elsewhere
returns-clause-elsewhere c = λ g other.
    let less = c.in-Some.count.now - 1 in
    ap (λ o. unwrap_or o 0) (others-through gxid_cmp c.args.self.now.by_gxid (c.get_mut.follows.lender less) c.args.gxid c.in-Some.count.now less
    c.in-Some.ensures.value (c.get_mut.follows.holds less) g (gxid-other c.args.gxid g other))
