use Rattle.std.proofs.Common.{◌+◌, ◌∙◌, ap}
use Rattle.std.specs.Prelude.{unwrap_or}
use Rattle.std.specs.BTreeMap.{get}
use Rattle.gx_detect.specs.Tally.{gxid_cmp}
use Rattle.gx_detect.proofs.Counting.{gxid-other, others-through}
use Rattle.gx_detect.proofs.counts.Counts.raise.Goals as goal

pub returns-in-Some-clause-elsewhere : goal.returns-in-Some-clause-elsewhere
returns-in-Some-clause-elsewhere c = λ g other.
    let more = c.in-Some.count.now + 1 in
    ap (λ o. unwrap_or o 0) (others-through gxid_cmp c.args.self.now.by_gxid (c.get_mut.follows.lender more) c.args.gxid c.in-Some.count.now more
    c.in-Some.ensures.value (c.get_mut.follows.holds more) g (gxid-other c.args.gxid g other))

pub returns-in_ok-insert-in-None-clause-elsewhere : goal.returns-in_ok-insert-in-None-clause-elsewhere
returns-in_ok-insert-in-None-clause-elsewhere c = λ g other.
    ap (λ o. unwrap_or o 0) (c.in_ok-insert-in-None.ensures.updates.2 g (gxid-other c.args.gxid g other)
    ∙ ap (λ m. get gxid_cmp m g) c.get_mut.follows.holds-at-none)
