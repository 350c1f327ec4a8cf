use Rattle.std.proofs.Common.{rules, ◌≡◌, length, map, ℕ, ◌+◌, ◌-◌, ◌*◌, ◌<◌, ◌≤◌, ◌/◌, ◌%◌, Bool, true, false, nat_eq, nat_lt, List, [], ◌∷◌, ◌++◌, slice_index_or, slice_set, Some, None, subst, sym, ap, ◌∙◌}
use Rattle.gx_ids.specs.declared.stamp.Stamp.{Stamp}
use Rattle.gx_merge.specs.Merging.{IsEarliest, sooner}
use Rattle.gx_merge.proofs.Fronts.{next-of, none-more, one-more}
use Rattle.gx_merge.proofs.front.earliest.Goals as goal
use Rattle.gx_merge.proofs.front.earliest.Goals.{in-Some, in_default}

pub loop-place-preserved : goal.loop-place-preserved
loop-place-preserved c =
    let hs = map (λ h. h.steps) c.args.histories.now in
    let next = c.get.ensures ∙ next-of c.args.histories.now c.args.fronts.now c.index-histories-place.result c.loop-place.place (search rules) in
    elim c.match-get.branch [
      | in-Some w ↦
          subst (IsEarliest hs c.args.fronts.now (c.loop-place.place + 1))
          (ap (λ (t : Stamp). sooner c.loop-place.earliest (record { place = c.loop-place.place; clock = t.clock })) (sym w.stamp.ensures) ∙ w.earlier.ensures ∙ sym w.earliest-is)
          (one-more hs c.args.fronts.now c.loop-place.place c.loop-place.earliest c.loop-place.invariant w.in-Some.step (sym next ∙ w.in-Some.is))
      | in_default w ↦
          subst (IsEarliest hs c.args.fronts.now (c.loop-place.place + 1)) (sym w.earliest-is)
          (none-more hs c.args.fronts.now c.loop-place.place c.loop-place.earliest c.loop-place.invariant (sym next ∙ w.in_default.is))
    ]
