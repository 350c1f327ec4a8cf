use Rattle.std.proofs.Common.{rules}
use Rattle.std.proofs.lemmas.List.Sorted.{answers_always}
use Rattle.gx_agenda.proofs.Rising.{found, missed}
use Rattle.gx_agenda.proofs.vec_map.VecMap.place.Goals as goal

pub returns-clause-found : goal.returns-clause-found
returns-clause-found g c =
    let facts = c.binary_search_by_key.ensures in
    rw (← c.self.view_is, ← c.deref.ensures.value) (found g.met.K.Ord.total c.args.key c.deref.result.now c.binary_search_by_key.result (rw c.deref.ensures.value c.self.invariant) facts.bound
    (facts.position (λ e. e.0) (answers_always _ _ _ (λ f a r k called. search rules))))

pub returns-clause-absent : goal.returns-clause-absent
returns-clause-absent g c =
    let facts = c.binary_search_by_key.ensures in
    rw (← c.self.view_is, ← c.deref.ensures.value) (missed g.met.K.Ord.total c.args.key c.deref.result.now c.binary_search_by_key.result (rw c.deref.ensures.value c.self.invariant) facts.bound
    (facts.position (λ e. e.0) (answers_always _ _ _ (λ f a r k called. search rules))))
