use Rattle.std.proofs.Common.{◌≡◌, ◌≤◌, ◌<◌, ◌+◌, ◌++◌, ◌∙◌, List, [], Some, get_or, length, slice_get, take, refl, sym, subst, ap, arith}
use Rattle.std.proofs.lemmas.List.{length-take-le, take_all}
use Rattle.std.proofs.lemmas.Option.{slice_get-get_or}
use Rattle.gx_lemmas.proofs.Tests.{false-true}
use Rattle.gx_store.specs.declared.mark.Mark.{Mark}
use Rattle.gx_store.specs.declared.run.Step.{Step}
use Rattle.gx_store.specs.Points.{marks_in}
use Rattle.gx_legal.proofs.Earlier.{behind-inside, behind-none, behind-some}
use Rattle.gx_legal.proofs.MarkPlaces.{marks-through, split-at}
use Rattle.gx_legal.proofs.Sessions.{no-longer}
use Rattle.gx_legal.proofs.Stretching.{stretch-among, stretch-inside}
use Rattle.gx_legal.proofs.Tallying.{can-step, tally-steps}
use Rattle.gx_legal.specs.Deeds.{IsByEarlierInStep, doing_of}
use Rattle.gx_legal.specs.Moments.{point_of}
use Rattle.gx_legal.specs.Tallies.{IsTally}
use Rattle.gx_legal.proofs.late.is_by_earlier_step.Goals as goal

pub invariant_of-stretch : goal.invariant_of-stretch
invariant_of-stretch c =
    let m = c.args.moment.now in
    let ss = m.steps.now in
    let k = c.loop-number.number in
    let s = get_or ss k c.index-moment-number.result in
    let at : slice_get ss k ≡ Some s = slice_get-get_or ss k c.index-moment-number.result c.loop-number-test.true in
    let begins = c.loop-number.invariant.begins in
    record { begins = begins; among = stretch-among ss k s m.earlier.now m.before.now c.as_slice.result.now c.loop-number.start at m.whole begins c.as_slice.ensures }

pub count_event-requires : goal.count_event-requires
count_event-requires c =
    let m = c.args.moment.now in
    let ss = m.steps.now in
    let k = c.loop-number.number in
    let inside : k ≤ length ss = omega (arith, c.loop-number-test.true) in
    let short : length (take k ss) ≡ k = length-take-le k ss inside in
    can-step m.script.now (take k ss) _ _ (c.in_ok-is_by_earlier_in_step.ensures.tally c.if-branch.false) (omega (arith, short, c.loop-number-test.true))

pub overflow_add-start : goal.overflow_add-start
overflow_add-start c =
    let m = c.args.moment.now in
    let ss = m.steps.now in
    let k = c.loop-number.number in
    let s = get_or ss k c.index-moment-number.result in
    let at : slice_get ss k ≡ Some s = slice_get-get_or ss k c.index-moment-number.result c.loop-number-test.true in
    let inside : c.loop-number.start + length s.marks ≤ length m.before.now = stretch-inside ss k s m.earlier.now m.before.now s.marks c.loop-number.start at m.whole c.loop-number.invariant.begins refl in
    omega (arith, inside, c.len-start.ensures)

pub loop-number-preserved : goal.loop-number-preserved
loop-number-preserved c =
    let m = c.args.moment.now in
    let ss = m.steps.now in
    let k = c.loop-number.number in
    let s = get_or ss k c.index-moment-number.result in
    let at : slice_get ss k ≡ Some s = slice_get-get_or ss k c.index-moment-number.result c.loop-number-test.true in
    let d = doing_of c.args.deed.now in
    let P : List Mark → Type 0 = λ ms. IsByEarlierInStep m.script.now (record { steps = take k ss; event = s.event; earlier = ms; later = [] }) d in
    record {
      begins = ap (λ n. c.loop-number.start + n) c.len-start.ensures ∙ ap (λ n. n + length s.marks) c.loop-number.invariant.begins ∙ marks-through ss k s at;
      none = behind-none m.script.now (point_of m) d k s at c.loop-number.invariant.none
          (λ by. no-longer c.in_ok-is_by_earlier_in_step.field-0 c.in_ok-is_by_earlier_in_step.ensures.is c.if-branch.false (subst P (sym c.as_slice.ensures) by));
      told = tally-steps m.script.now s ss k _ _ at
          (subst (λ (ms : List Mark). IsTally m.script.now (take k ss) (marks_in (take k ss) ++ ms) c.is_by_earlier_in_step.new.tally) c.as_slice.ensures (c.in_ok-is_by_earlier_in_step.ensures.tally c.if-branch.false))
          c.count_event.ensures;
    }

pub returns-then-branch-clause-is : goal.returns-then-branch-clause-is
returns-then-branch-clause-is c =
    let m = c.args.moment.now in
    let ss = m.steps.now in
    let k = c.loop-number.number in
    let s = get_or ss k c.index-moment-number.result in
    let at : slice_get ss k ≡ Some s = slice_get-get_or ss k c.index-moment-number.result c.loop-number-test.true in
    let d = doing_of c.args.deed.now in
    let P : List Mark → Type 0 = λ ms. IsByEarlierInStep m.script.now (record { steps = take k ss; event = s.event; earlier = ms; later = [] }) d in
    (λ t. behind-some m.script.now (point_of m) d k s (split-at ss k s at) (subst P c.as_slice.ensures (c.in_ok-is_by_earlier_in_step.ensures.is.0 c.if-branch.true)), λ by. refl)

pub returns-then-branch-clause-tally : goal.returns-then-branch-clause-tally
returns-then-branch-clause-tally c = λ e. absurd (false-true (sym e))

pub returns-clause-is : goal.returns-clause-is
returns-clause-is c =
    let m = c.args.moment.now in
    let d = doing_of c.args.deed.now in (
      λ t. absurd (false-true t),
      λ by. absurd (c.loop-number.invariant.none by.0 by.1
          (let inside : length by.0.steps < length m.steps.now = behind-inside m.script.now (point_of m) d by.0 by.1 in omega (arith, inside, c.loop-number-test.false)) by.2),
    )

pub returns-clause-tally : goal.returns-clause-tally
returns-clause-tally c =
    let m = c.args.moment.now in
    let past : length m.steps.now ≤ c.loop-number.number = omega (arith, c.loop-number-test.false) in
    λ e. subst (λ (l : List Step). IsTally m.script.now l (marks_in l) c.loop-number.tally) (take_all c.loop-number.number m.steps.now past) c.loop-number.invariant.told
