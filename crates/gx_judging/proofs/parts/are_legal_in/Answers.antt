use Rattle.std.proofs.Common.{◌≡◌, ◌≤◌, ◌+◌, ◌++◌, ◌∙◌, List, [], Some, length, slice_get, take, refl, sym, subst, ap, arith}
use Rattle.std.proofs.lemmas.List.{append-nil, length-take-le}
use Rattle.std.proofs.lemmas.Option.{slice_get_read}
use Rattle.gx_lemmas.proofs.Tests.{false-true}
use Rattle.gx_store.specs.declared.mark.Mark.{Mark}
use Rattle.gx_store.specs.Points.{marks_in}
use Rattle.gx_judging.proofs.Walking.{follow-is, steps-end, steps-next, steps-stop}
use Rattle.gx_legal.proofs.MarkPlaces.{marks-through}
use Rattle.gx_legal.proofs.Sessions.{no-longer}
use Rattle.gx_legal.proofs.Stretching.{stretch-among, stretch-inside}
use Rattle.gx_legal.proofs.Tallying.{can-step, tally-steps}
use Rattle.gx_legal.specs.Tallies.{IsTally}
use Rattle.gx_judging.proofs.parts.are_legal_in.Goals as goal

pub invariant_of-stretch : goal.invariant_of-stretch
invariant_of-stretch c =
    let ss = c.args.steps.now in
    let k = c.loop-number.number in
    let s = c.index-steps-number.result in
    let at : slice_get ss k ≡ Some s = slice_get_read ss (length ss) k s refl c.loop-number-test.true c.index-steps-number.is in
    let whole = c.requires.all ∙ sym (append-nil (marks_in ss)) in
    let begins = c.loop-number.invariant.begins in
    record { begins = begins; among = stretch-among ss k s [] c.args.all.now c.as_slice.result.now c.loop-number.start at whole begins c.as_slice.ensures }

pub count_event-requires : goal.count_event-requires
count_event-requires c =
    let ss = c.args.steps.now in
    let k = c.loop-number.number in
    let inside : k ≤ length ss = omega (arith, c.loop-number-test.true) in
    let short : length (take k ss) ≡ k = length-take-le k ss inside in
    can-step c.args.script.now (take k ss) _ _ (c.in_ok-may_follow.ensures.tally c.if-not-branch.false) (omega (arith, short, c.loop-number-test.true))

pub overflow_add-start : goal.overflow_add-start
overflow_add-start c =
    let ss = c.args.steps.now in
    let k = c.loop-number.number in
    let s = c.index-steps-number.result in
    let at : slice_get ss k ≡ Some s = slice_get_read ss (length ss) k s refl c.loop-number-test.true c.index-steps-number.is in
    let whole = c.requires.all ∙ sym (append-nil (marks_in ss)) in
    let inside : c.loop-number.start + length s.marks ≤ length c.args.all.now = stretch-inside ss k s [] c.args.all.now s.marks c.loop-number.start at whole c.loop-number.invariant.begins refl in
    omega (arith, inside, c.len.ensures)

pub loop-number-preserved : goal.loop-number-preserved
loop-number-preserved c =
    let ss = c.args.steps.now in
    let k = c.loop-number.number in
    let s = c.index-steps-number.result in
    let at : slice_get ss k ≡ Some s = slice_get_read ss (length ss) k s refl c.loop-number-test.true c.index-steps-number.is in
    let follow = follow-is c.args.part c.args.script.now (take k ss) s c.as_slice.result.now c.as_slice.ensures in
    record {
      begins = ap (λ n. c.loop-number.start + n) c.len.ensures ∙ ap (λ n. n + length s.marks) c.loop-number.invariant.begins ∙ marks-through ss k s at;
      legal = steps-next c.args.part c.args.script.now ss k s c.loop-number-test.true c.index-steps-number.is (follow.0 (c.in_ok-may_follow.ensures.is.0 c.if-not-branch.false)) c.loop-number.invariant.legal;
      told = tally-steps c.args.script.now s ss k _ _ at
          (subst (λ (ms : List Mark). IsTally c.args.script.now (take k ss) (marks_in (take k ss) ++ ms) c.may_follow.new.tally) c.as_slice.ensures (c.in_ok-may_follow.ensures.tally c.if-not-branch.false))
          c.count_event.ensures;
    }

pub returns-then-not-branch : goal.returns-then-not-branch
returns-then-not-branch c =
    let ss = c.args.steps.now in
    let k = c.loop-number.number in
    let s = c.index-steps-number.result in
    let follow = follow-is c.args.part c.args.script.now (take k ss) s c.as_slice.result.now c.as_slice.ensures in (
      λ t. absurd (false-true t),
      λ all. absurd (steps-stop c.args.part c.args.script.now ss k s c.loop-number-test.true c.index-steps-number.is
          (λ legal. no-longer c.in_ok-may_follow.field-0 c.in_ok-may_follow.ensures.is c.if-not-branch.true (follow.1 legal)) c.loop-number.invariant.legal all),
    )

pub returns : goal.returns
returns c =
    let past : length c.args.steps.now ≤ c.loop-number.number = omega (arith, c.loop-number-test.false) in
    (λ t. steps-end c.args.part c.args.script.now c.args.steps.now c.loop-number.number past c.loop-number.invariant.legal, λ all. refl)
