use Rattle.std.proofs.Common.{◌≤◌, List, length, refl, subst, sym, ◌∙◌, arith}
use Rattle.std.proofs.Common.{take}
use Rattle.gx_lemmas.proofs.Tests.{false-true}
use Rattle.gx_store.specs.declared.mark.Mark.{Mark}
use Rattle.gx_judging.specs.Standing.{AreLocks}
use Rattle.gx_judging.proofs.Naming.{mark-next, named-end, named-next, named-stop}
use Rattle.gx_judging.proofs.Waits.{locks-next, no-locks}
use Rattle.gx_judging.proofs.victims.name_rightly.Goals as goal

pub loop-number-init : goal.loop-number-init
loop-number-init c =
    let new = c.in_ok-locks in
    record { locks = no-locks new.locks new.ensures.holds new.ensures.waits; named = (λ h. h, λ h. h) }

pub loop-number-preserved : goal.loop-number-preserved
loop-number-preserved c =
    let ms = c.args.marks.now in
    let k = c.loop-number.number in
    let m = c.index-marks-number.result in
    let noted = c.in_ok-note_mark.ensures in
    record {
      locks = subst (λ (front : List Mark). AreLocks front c.note_mark.new.locks) (mark-next c.args.script.now ms k m c.loop-number-test.true c.index-marks-number.is)
          (locks-next (take k ms) m c.loop-number.locks c.note_mark.new.locks c.loop-number.invariant.locks noted.long noted.holds noted.waits);
      named = named-next c.args.script.now ms k m c.loop-number-test.true c.index-marks-number.is (c.in_ok-names_rightly.ensures.0 c.if-not-branch.false) c.loop-number.invariant.named;
    }

pub returns-then-not-branch : goal.returns-then-not-branch
returns-then-not-branch c = (
  λ t. absurd (false-true t),
  λ all. absurd (named-stop c.args.script.now c.args.marks.now c.loop-number.number c.index-marks-number.result c.loop-number-test.true c.index-marks-number.is
      (λ names. false-true (sym c.if-not-branch.true ∙ c.in_ok-names_rightly.ensures.1 names)) c.loop-number.invariant.named all),
)

pub returns : goal.returns
returns c =
    let past : length c.args.marks.now ≤ c.loop-number.number = omega (arith, c.loop-number-test.false) in
    (λ t. named-end c.args.script.now c.args.marks.now c.loop-number.number past c.loop-number.invariant.named, λ all. refl)
