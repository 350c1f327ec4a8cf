use Rattle.std.proofs.Common.{◌≡◌, ◌∙◌, sym, subst, map, take, Ok, Err, [], arith}
use Rattle.std.specs.List.{flat_map}
use Rattle.std.proofs.lemmas.Grind.{common_steps}
use Rattle.gx_resolve.specs.Naming.{assign_column, assign_names, names_right}
use Rattle.gx_resolve.proofs.Names.{left_more, left_stop}
use Rattle.gx_resolve.proofs.naming.check_assigns.Goals as goal

pub returns-in_err-check_assign : goal.returns-in_err-check_assign
returns-in_err-check_assign c =
    let i = c.loop-place.place in
    let fault = c.in_err-check_assign.field-0.0 in
    let here : names_right c.args.columns.now (map assign_column (take i c.args.assigns.now)) (assign_names c.index-assigns-place.result) ≡ Err fault = sym c.in_err-check_assign.ensures in
    let stop : names_right c.args.columns.now [] (flat_map assign_names c.args.assigns.now) ≡ Err fault = sym c.loop-place.invariant ∙ left_stop c.args.columns.now c.args.assigns.now i c.index-assigns-place.result fault c.loop-place-test.true (subst (λ a. names_right c.args.columns.now (map assign_column (take i c.args.assigns.now)) (assign_names a) ≡ Err fault) c.index-assigns-place.is here) in
    grind (arith, common_steps, stop)

pub loop-place-preserved : goal.loop-place-preserved
loop-place-preserved c =
    let i = c.loop-place.place in
    sym (left_more c.args.columns.now c.args.assigns.now i c.index-assigns-place.result c.loop-place-test.true (subst (λ a. names_right c.args.columns.now (map assign_column (take i c.args.assigns.now)) (assign_names a) ≡ Ok tt) c.index-assigns-place.is (sym c.in_ok-check_assign.ensures)))
    ∙ c.loop-place.invariant
