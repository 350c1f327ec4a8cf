use Rattle.std.proofs.Common.{◌≡◌, refl, sym, subst, false, Some, arith}
use Rattle.std.proofs.lemmas.Grind.{common_steps}
use Rattle.std.specs.List.{slice_get}
use Rattle.gx_agenda.specs.Faults.{Skips}
use Rattle.gx_agenda.proofs.Agreeing.{are_fresh_pushed}
use Rattle.gx_agenda.proofs.cursors.fresh_links.Goals as goal

pub loop-link-preserved : goal.loop-link-preserved
loop-link-preserved c =
    record {
      whole = grind (arith, common_steps);
      fresh = λ link cursor e. are_fresh_pushed c.args.faults.now c.loop-link.links.items (record { done = c.skip-done.result; again = false }) c.loop-link.invariant.fresh (record { once = refl; skips = subst (λ l. Skips c.args.faults.now l 0 c.skip-done.result) (sym c.loop-link.invariant.whole) c.skip-done.ensures }) link cursor (subst (λ xs. slice_get xs link ≡ Some cursor) c.in_ok-push.ensures.items e);
    }
