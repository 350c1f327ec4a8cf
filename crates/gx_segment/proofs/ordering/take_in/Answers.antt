use Rattle.std.proofs.Common.{IsSome, refl, subst}
use Rattle.gx_segment.proofs.Obeying.{HasTaken-there}
use Rattle.gx_segment.proofs.ordering.take_in.Goals as goal

pub returns-in-Some-clause-taken : goal.returns-in-Some-clause-taken
returns-in-Some-clause-taken g c =
    let entry = c.take_at.new.entry in
    let now = (c.get_mut.follows.holds entry).3 (subst (λ o. IsSome o) c.in-Some.ensures.value refl) in
    HasTaken-there c.args.node c.args.gxid c.args.order c.args.entries.now (c.get_mut.follows.lender entry) c.in-Some.entry.now entry c.take_at.new.phase c.take_at.result now c.in-Some.ensures.value c.take_at.ensures.kept c.take_at.ensures.phase c.take_at.ensures.does
