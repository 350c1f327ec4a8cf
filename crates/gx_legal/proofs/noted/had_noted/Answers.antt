use Rattle.std.proofs.Common.{◌≤◌, ◌+◌, length, arith}
use Rattle.gx_lemmas.proofs.Tests.{false-true}
use Rattle.gx_store.specs.Refusals.{the_coordinator}
use Rattle.gx_legal.proofs.MarkPlaces.{length-taken}
use Rattle.gx_legal.proofs.Sendings.{first-step-inside, noted-until, unnoted}
use Rattle.gx_legal.specs.declared.word.Word.TheVariants.{Failed}
use Rattle.gx_legal.proofs.noted.had_noted.Goals as goal

pub returns-in_default : goal.returns-in_default
returns-in_default c =
    let e = c.args.evaluation in
    (λ t. absurd (false-true t), λ had. absurd (unnoted e.gxid e.cid e.rid e.image.now c.args.segment c.args.moment.now.steps.now c.in_default.ensures had))

pub overflow_add-by_then : goal.overflow_add-by_then
overflow_add-by_then c =
    let m = c.args.moment.now in
    let inside : c.in-Some.first.step + 1 ≤ length m.steps.now = first-step-inside c.args.evaluation.gxid (Failed c.args.evaluation.cid) c.args.segment the_coordinator m.steps.now c.in-Some.first c.in-Some.ensures in
    omega arith

pub slice_bounds-by_then-end : goal.slice_bounds-by_then-end
slice_bounds-by_then-end c =
    let m = c.args.moment.now in
    length-taken m.steps.now (c.in-Some.first.step + 1) (first-step-inside c.args.evaluation.gxid (Failed c.args.evaluation.cid) c.args.segment the_coordinator m.steps.now c.in-Some.first c.in-Some.ensures)

pub returns : goal.returns
returns c =
    let e = c.args.evaluation in
    noted-until e.gxid e.cid e.rid e.image.now c.args.segment c.args.moment.now.steps.now c.in-Some.first c.has_noted.result c.in-Some.ensures c.has_noted.ensures
