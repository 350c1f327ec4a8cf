use Rattle.std.proofs.Common.{rules}
use Rattle.std.proofs.lemmas.List.Sorted.{answers_always}
use Rattle.gx_locks.proofs.Slots.{found_at, absent}
use Rattle.gx_locks.proofs.slot.place_of.Goals as goal

pub returns-in-Ok-clause-there : goal.returns-in-Ok-clause-there
returns-in-Ok-clause-there c =
    let by_key = c.binary_search_by_key.ensures.position (λ slot. slot.hold.number) (answers_always _ _ _ (λ f a r g called. search rules)) in
    found_at c.args.slots.now c.args.number c.in-Ok.place _ c.in-Ok.is c.binary_search_by_key.ensures.bound by_key

pub returns-in-Err-clause-nowhere : goal.returns-in-Err-clause-nowhere
returns-in-Err-clause-nowhere c =
    let by_key = c.binary_search_by_key.ensures.position (λ slot. slot.hold.number) (answers_always _ _ _ (λ f a r g called. search rules)) in
    absent c.args.slots.now c.args.number _ _ c.in-Err.is c.requires by_key
