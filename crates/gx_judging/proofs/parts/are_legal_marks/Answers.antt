use Rattle.std.proofs.Common.{◌≡◌, ◌≤◌, ◌+◌, ◌++◌, ◌∙◌, List, Some, drop, get_or, length, slice_get, take, refl, sym, subst, ap, arith}
use Rattle.std.proofs.lemmas.List.{append-nil, take_all, take_rest}
use Rattle.std.proofs.lemmas.Option.{get_or_from_slice_get, slice_get-get_or}
use Rattle.gx_lemmas.proofs.Tests.{false-true}
use Rattle.gx_script.specs.declared.Script.{Script}
use Rattle.gx_store.specs.declared.mark.Mark.{Mark}
use Rattle.gx_store.specs.Language.{IsScript}
use Rattle.gx_judging.specs.Parts.{IsLegalIn}
use Rattle.gx_store.specs.Points.{Point, marks_in}
use Rattle.gx_judging.proofs.Walking.{marks-end, marks-next, marks-stop}
use Rattle.gx_legal.proofs.Sessions.{no-longer}
use Rattle.gx_legal.proofs.Tallying.{can-count, tally-through}
use Rattle.gx_legal.specs.Moments.{point_of}
use Rattle.gx_legal.specs.Tallies.{IsTally}
use Rattle.gx_judging.proofs.parts.are_legal_marks.Goals as goal

pub loop-number-init : goal.loop-number-init
loop-number-init c =
    let s = c.args.stretch.now in
    record { legal = (λ h. h, λ h. h); told = subst (λ (ms : List Mark). IsTally s.script.now s.steps.now ms c.args.tally.now) (sym (append-nil (marks_in s.steps.now))) c.requires.tally }

pub is_legal_in-requires : goal.is_legal_in-requires
is_legal_in-requires c = subst IsScript (sym c.moment_at-moment.ensures.script) c.requires.script

pub count_mark-requires : goal.count_mark-requires
count_mark-requires c =
    let s = c.args.stretch.now in
    can-count s.script.now s.steps.now (marks_in s.steps.now ++ take c.loop-number.number s.marks.now) c.loop-number.tally c.loop-number.invariant.told c.moment_at-moment.ensures.room

pub loop-number-preserved : goal.loop-number-preserved
loop-number-preserved c =
    let s = c.args.stretch.now in
    let k = c.loop-number.number in
    let m = get_or s.marks.now k c.index-stretch-number.result in
    let at : slice_get s.marks.now k ≡ Some m = slice_get-get_or s.marks.now k c.index-stretch-number.result c.loop-number-test.true in
    let is : m ≡ get_or s.marks.now k m = sym (get_or_from_slice_get s.marks.now k m m at) in
    let mo = c.moment_at-moment in
    let before : List Mark → Point = λ later. record { steps = s.steps.now; event = s.event; earlier = take k s.marks.now; later = later } in
    let point : point_of mo.result ≡ before (drop (k + 1) s.marks.now) = mo.ensures.point ∙ ap before (take_rest s.marks.now (k + 1)) in
    record {
      legal = marks-next c.args.part s.script.now s.steps.now s.event s.marks.now k m c.loop-number-test.true is
          (subst (λ (p : Point). IsLegalIn c.args.part s.script.now p m) point (subst (λ (r : Script). IsLegalIn c.args.part r (point_of mo.result) m) mo.ensures.script (c.in_ok-is_legal_in.ensures.0 c.if-not-branch.false))) c.loop-number.invariant.legal;
      told = tally-through s.script.now s.steps.now (marks_in s.steps.now) s.marks.now k m _ _ at c.loop-number.invariant.told c.in_ok-count_mark.ensures;
    }

pub returns-then-not-branch-clause-are : goal.returns-then-not-branch-clause-are
returns-then-not-branch-clause-are c =
    let s = c.args.stretch.now in
    let k = c.loop-number.number in
    let m = get_or s.marks.now k c.index-stretch-number.result in
    let at : slice_get s.marks.now k ≡ Some m = slice_get-get_or s.marks.now k c.index-stretch-number.result c.loop-number-test.true in
    let is : m ≡ get_or s.marks.now k m = sym (get_or_from_slice_get s.marks.now k m m at) in
    let mo = c.moment_at-moment in
    let before : List Mark → Point = λ later. record { steps = s.steps.now; event = s.event; earlier = take k s.marks.now; later = later } in
    let point : point_of mo.result ≡ before (drop (k + 1) s.marks.now) = mo.ensures.point ∙ ap before (take_rest s.marks.now (k + 1)) in (
      λ t. absurd (false-true t),
      λ all. absurd (marks-stop c.args.part s.script.now s.steps.now s.event s.marks.now k m c.loop-number-test.true is
          (λ legal. no-longer c.in_ok-is_legal_in.field-0 c.in_ok-is_legal_in.ensures c.if-not-branch.true
          (subst (λ (r : Script). IsLegalIn c.args.part r (point_of mo.result) m) (sym mo.ensures.script) (subst (λ (p : Point). IsLegalIn c.args.part s.script.now p m) (sym point) legal)))
          c.loop-number.invariant.legal all),
    )

pub returns-then-not-branch-clause-tally : goal.returns-then-not-branch-clause-tally
returns-then-not-branch-clause-tally c = λ t. absurd (false-true t)

pub returns-clause-are : goal.returns-clause-are
returns-clause-are c =
    let s = c.args.stretch.now in
    let past : length s.marks.now ≤ c.loop-number.number = omega (arith, c.loop-number-test.false) in
    (λ t. marks-end c.args.part s.script.now s.steps.now s.event s.marks.now c.loop-number.number past c.loop-number.invariant.legal, λ all. refl)

pub returns-clause-tally : goal.returns-clause-tally
returns-clause-tally c =
    let s = c.args.stretch.now in
    let past : length s.marks.now ≤ c.loop-number.number = omega (arith, c.loop-number-test.false) in
    λ t. subst (λ (ms : List Mark). IsTally s.script.now s.steps.now (marks_in s.steps.now ++ ms) c.loop-number.tally) (take_all c.loop-number.number s.marks.now past) c.loop-number.invariant.told
