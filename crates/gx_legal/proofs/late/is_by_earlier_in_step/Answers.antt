use Rattle.std.proofs.Common.{◌≡◌, ◌↔◌, ◌≤◌, ◌++◌, IsTrue, List, Some, get_or, length, slice_get, take, refl, sym, subst, ◌∙◌, arith}
use Rattle.std.proofs.lemmas.List.{append-nil, take_all}
use Rattle.std.proofs.lemmas.Option.{slice_get-get_or}
use Rattle.gx_lemmas.proofs.Numbers.{lt-none}
use Rattle.gx_lemmas.proofs.Tests.{false-true}
use Rattle.gx_script.specs.declared.Script.{Script}
use Rattle.gx_store.specs.declared.mark.Mark.{Mark}
use Rattle.gx_store.specs.Language.{IsScript}
use Rattle.gx_store.specs.Points.{Point, marks_in}
use Rattle.gx_legal.proofs.Earlier.{in-step-last, in-step-none, in-step-some}
use Rattle.gx_legal.proofs.Oks.{if_ok}
use Rattle.gx_legal.proofs.Sessions.{no-longer}
use Rattle.gx_legal.proofs.Tallying.{can-count, tally-through}
use Rattle.gx_legal.specs.Deeds.{IsByCommand, doing_of}
use Rattle.gx_legal.specs.Moments.{point_of}
use Rattle.gx_legal.specs.Stretches.{end_of}
use Rattle.gx_legal.specs.Tallies.{IsTally}
use Rattle.gx_legal.proofs.late.is_by_earlier_in_step.Goals as goal

pub loop-count-init : goal.loop-count-init
loop-count-init c =
    let s = c.args.stretch.now in
    record {
      none = λ early is l by. lt-none (length early.earlier) l;
      told = subst (λ (ms : List Mark). IsTally s.script.now s.steps.now ms c.args.tally.now) (sym (append-nil (marks_in s.steps.now))) c.requires.tally;
    }

pub is_by_command-requires : goal.is_by_command-requires
is_by_command-requires c = subst IsScript (sym c.moment_at-moment.ensures.script) c.requires.script

pub count_mark-requires : goal.count_mark-requires
count_mark-requires c =
    let s = c.args.stretch.now in
    can-count s.script.now s.steps.now (marks_in s.steps.now ++ take c.loop-count.count s.marks.now) c.loop-count.tally c.loop-count.invariant.told c.moment_at-moment.ensures.room

pub loop-count-preserved : goal.loop-count-preserved
loop-count-preserved c =
    let s = c.args.stretch.now in
    let d = doing_of c.args.deed.now in
    let k = c.loop-count.count in
    let mo = c.moment_at-moment in
    let m = get_or s.marks.now k c.index-stretch-count.result in
    let at : slice_get s.marks.now k ≡ Some m = slice_get-get_or s.marks.now k c.index-stretch-count.result c.loop-count-test.true in
    record {
      none = in-step-none s.script.now (end_of s) d k c.loop-count.invariant.none (λ by. no-longer c.in_ok-is_by_command.field-0 c.in_ok-is_by_command.ensures c.if-branch.false
          (subst (λ (r : Script). IsByCommand r (point_of mo.result) d) (sym mo.ensures.script) (subst (λ (p : Point). IsByCommand s.script.now p d) (sym mo.ensures.point) by)));
      told = tally-through s.script.now s.steps.now (marks_in s.steps.now) s.marks.now k m _ _ at c.loop-count.invariant.told c.in_ok-count_mark.ensures;
    }

pub returns-then-branch-clause-is : goal.returns-then-branch-clause-is
returns-then-branch-clause-is c =
    let s = c.args.stretch.now in
    let d = doing_of c.args.deed.now in
    let k = c.loop-count.count in
    let mo = c.moment_at-moment in
    let there = λ (by : IsByCommand mo.result.script.now (point_of mo.result) d).
    subst (λ (p : Point). IsByCommand s.script.now p d) mo.ensures.point (subst (λ (r : Script). IsByCommand r (point_of mo.result) d) mo.ensures.script by) in
    (λ t. in-step-some s.script.now (end_of s) d k (there (c.in_ok-is_by_command.ensures.0 c.if-branch.true)), λ by. refl)

pub returns-then-branch-clause-tally : goal.returns-then-branch-clause-tally
returns-then-branch-clause-tally c = λ e. absurd (false-true (sym e))

pub moment_at-moment-requires-2-clause-tally : goal.moment_at-moment-requires-2-clause-tally
moment_at-moment-requires-2-clause-tally c =
    let s = c.args.stretch.now in
    let past : length s.marks.now ≤ c.loop-count.count = omega (arith, c.loop-count-test.false) in
    subst (λ (ms : List Mark). IsTally s.script.now s.steps.now (marks_in s.steps.now ++ ms) c.loop-count.tally)
    (take_all c.loop-count.count s.marks.now past ∙ sym (take_all (length s.marks.now) s.marks.now (omega arith))) c.loop-count.invariant.told

pub returns-clause-is : goal.returns-clause-is
returns-clause-is c =
    let s = c.args.stretch.now in
    let d = doing_of c.args.deed.now in
    let k = c.loop-count.count in
    let mo = c.moment_at-moment-2 in
    let past : length s.marks.now ≤ k = omega (arith, c.loop-count-test.false) in
    let P : Script → Point → Type 0 = λ r p. IsByCommand r p d in
    if_ok c.is_by_command-2.result (λ b h. in-step-last s.script.now (end_of s) d b (λ early is l by. c.loop-count.invariant.none early is (omega (arith, l, past)) by)
    (subst (λ (p : Point). IsTrue b ↔ P s.script.now p) mo.ensures.point (subst (λ (r : Script). IsTrue b ↔ P r (point_of mo.result)) mo.ensures.script h))) c.is_by_command-2.ensures

pub returns-clause-tally : goal.returns-clause-tally
returns-clause-tally c =
    let s = c.args.stretch.now in
    let past : length s.marks.now ≤ c.loop-count.count = omega (arith, c.loop-count-test.false) in
    if_ok c.is_by_command-2.result
    (λ b h e. subst (λ (ms : List Mark). IsTally s.script.now s.steps.now (marks_in s.steps.now ++ ms) c.loop-count.tally) (take_all c.loop-count.count s.marks.now past) c.loop-count.invariant.told)
    c.is_by_command-2.ensures
