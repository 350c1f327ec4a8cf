use Rattle.std.proofs.Common.{◌≡◌, get_or, subst, sym}
use Rattle.std.specs.BTreeMap.{is_at}
use Rattle.std.specs.List.{slice_set}
use Rattle.std.specs.Prelude.{Some, if◌then◌else◌}
use Rattle.gx_agenda.specs.VecMap.{IsGapFor, IsRising, StandsAt, at}
use Rattle.gx_agenda.proofs.Rising.{at-insert, at-set, rising-insert, rising-set}
use Rattle.gx_agenda.proofs.vec_map.VecMap.insert.Goals as goal

pub invariant_of-self : goal.invariant_of-self
invariant_of-self g c =
    subst (λ e. IsRising g.K.Ord.cmp (slice_set c.self.inside.entries.items c.in-Ok.place (e.0, c.args.value))) (sym c.index_mut.ensures.value)
    (rising-set g.met.K.Ord.total c.args.key _ c.in-Ok.place c.index_mut.result.now c.args.value c.self.invariant (subst (λ es. StandsAt (g.K.Ord.cmp c.args.key) es c.in-Ok.place) (sym c.self.view_is) c.in-Ok.ensures.found))

pub returns-in-Ok : goal.returns-in-Ok
returns-in-Ok g c = λ k.
    subst (λ e. at g.K.Ord.cmp (slice_set c.self.inside.entries.items c.in-Ok.place (e.0, c.args.value)) k
    ≡ (if is_at (g.K.Ord.cmp c.args.key) k then Some c.args.value else at g.K.Ord.cmp c.args.self.now k)) (sym c.index_mut.ensures.value)
    (subst (λ es. at g.K.Ord.cmp (slice_set c.self.inside.entries.items c.in-Ok.place ((get_or c.self.inside.entries.items c.in-Ok.place c.index_mut.result.now).0, c.args.value)) k
    ≡ (if is_at (g.K.Ord.cmp c.args.key) k then Some c.args.value else at g.K.Ord.cmp es k)) c.self.view_is
    (at-set g.met.K.Ord.total c.args.key c.self.inside.entries.items c.in-Ok.place c.index_mut.result.now c.args.value c.self.invariant (subst (λ es. StandsAt (g.K.Ord.cmp c.args.key) es c.in-Ok.place) (sym c.self.view_is) c.in-Ok.ensures.found) k))

pub invariant_of-self-in-Continue-1 : goal.invariant_of-self-in-Continue-1
invariant_of-self-in-Continue-1 g c =
    subst (IsRising g.K.Ord.cmp) (sym c.in_ok-insert-in-Err.ensures.items)
    (rising-insert g.met.K.Ord.total c.args.key _ _ c.args.value c.self.invariant (subst (λ es. IsGapFor (g.K.Ord.cmp c.args.key) es c.in-Err.place) (sym c.self.view_is) c.in-Err.ensures.absent))

pub returns-in_ok-insert-in-Err : goal.returns-in_ok-insert-in-Err
returns-in_ok-insert-in-Err g c =
    rw (c.in_ok-insert-in-Err.ensures.items, c.self.view_is) (at-insert g.met.K.Ord.total c.args.key c.args.self.now c.in-Err.place c.args.value c.in-Err.ensures.absent)
