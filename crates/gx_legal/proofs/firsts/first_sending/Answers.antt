use Rattle.std.proofs.Common.{◌≡◌, ◌≤◌, ◌<◌, ◌+◌, ◌∙◌, Some, slice_get, get_or, ap, length, arith}
use Rattle.std.proofs.lemmas.Option.{slice_get-get_or}
use Rattle.gx_lemmas.proofs.Lists.{place-below}
use Rattle.gx_legal.proofs.MarkPlaces.{marks-through, step-inside}
use Rattle.gx_legal.proofs.Sendings.{found-here, found-later}
use Rattle.gx_legal.proofs.firsts.first_sending.Goals as goal

pub overflow_add-start : goal.overflow_add-start
overflow_add-start c =
    let m = c.args.moment.now in
    let step = get_or m.steps.now c.loop-number.number c.index-moment-number.result in
    let at : slice_get m.steps.now c.loop-number.number ≡ Some step = slice_get-get_or m.steps.now c.loop-number.number c.index-moment-number.result c.loop-number-test.true in
    let inside : c.loop-number.start + length step.marks ≤ length m.before.now = step-inside m.steps.now c.loop-number.number step m.earlier.now m.before.now
    (c.loop-number.start + length step.marks) at m.whole (ap (λ n. n + length step.marks) c.loop-number.invariant.start) in
    omega (arith, inside, c.len-start.ensures)

pub returns-in-Some : goal.returns-in-Some
returns-in-Some c =
    let m = c.args.moment.now in
    let r = c.args.report in
    let step = get_or m.steps.now c.loop-number.number c.index-moment-number.result in
    let at : slice_get m.steps.now c.loop-number.number ≡ Some step = slice_get-get_or m.steps.now c.loop-number.number c.index-moment-number.result c.loop-number-test.true in
    found-here r.gxid r.word r.from r.to m.steps.now c.loop-number.number step at c.loop-number.invariant.none c.in-Some.mark c.loop-number.start c.in-Some.ensures c.loop-number.invariant.start

pub loop-number-preserved : goal.loop-number-preserved
loop-number-preserved c =
    let m = c.args.moment.now in
    let r = c.args.report in
    let step = get_or m.steps.now c.loop-number.number c.index-moment-number.result in
    let at : slice_get m.steps.now c.loop-number.number ≡ Some step = slice_get-get_or m.steps.now c.loop-number.number c.index-moment-number.result c.loop-number-test.true in
    record {
      start = ap (λ n. c.loop-number.start + n) c.len-start.ensures ∙ ap (λ n. n + length step.marks) c.loop-number.invariant.start ∙ marks-through m.steps.now c.loop-number.number step at;
      none = found-later r.gxid r.word r.from r.to m.steps.now c.loop-number.number step at c.loop-number.invariant.none c.in_default.ensures;
    }

pub returns : goal.returns
returns c = λ number place sends. c.loop-number.invariant.none number
    (let inside : number < length c.args.moment.now.steps.now = place-below c.args.moment.now.steps.now number sends.0 sends.1 in omega arith) place sends
