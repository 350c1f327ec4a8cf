use Rattle.std.proofs.Common.{◌≡◌, ◌≤◌, ◌∙◌, Some, get_or, length, slice_get, take, refl, sym, subst, ap, arith}
use Rattle.std.proofs.lemmas.Option.{get_or_from_slice_get, slice_get-get_or}
use Rattle.gx_lemmas.proofs.Tests.{false-true}
use Rattle.gx_ids.specs.declared.ids.Node.{Node}
use Rattle.gx_store.specs.declared.mark.Mark.{Mark}
use Rattle.gx_store.specs.Journals.{is_same_node}
use Rattle.gx_store.specs.Ordered.{sent_count, sent_in}
use Rattle.gx_ordered.specs.Links.{HasNext, IsSentOnLink, clocks_in, link_in}
use Rattle.gx_ordered.proofs.Numbering.{clocks-next, last-numbers, next-numbers, next-same, numbers-end, own-count, link-next, whole-link}
use Rattle.gx_ordered.proofs.progress.note_marks.Goals as goal

pub loop-number-init : goal.loop-number-init
loop-number-init g c = record { long = c.requires.0; clocks = refl; numbers = (λ h. h, λ h. h); links = λ f t. whole-link (is_same_node f c.args.stamp.node) _ }

pub note_mark-requires-clause-there : goal.note_mark-requires-clause-there
note_mark-requires-clause-there g c = subst (IsSentOnLink c.args.stamp.node) (sym c.index-marks-number.is) (c.requires.1.0 c.loop-number.number c.index-marks-number.result c.loop-number-test.true)

pub loop-number-preserved : goal.loop-number-preserved
loop-number-preserved g c =
    let k = c.loop-number.number in
    let ms = c.args.marks.now in
    let m = c.index-marks-number.result in
    let node = c.args.stamp.node in
    let inv = c.loop-number.invariant in
    let next = c.in_ok-note_mark.ensures.next.0 c.if-not-branch.false in
    record {
      long = c.in_ok-note_mark.ensures.long;
      clocks = c.in_ok-note_mark.ensures.clocks ∙ inv.clocks;
      numbers = next-numbers node g.steps ms k m c.loop-number-test.true c.index-marks-number.is
          (next-same _ _ (λ t. own-count node c.args.stamp.clock t _ _ (take k ms) (sent_in node t g.steps) (inv.links node t) (c.requires.1.1 t)) m next) inv.numbers;
      links = λ f t. link-next (is_same_node f node) _ _ _ _ _ _ (inv.links f t) (c.in_ok-note_mark.ensures.links c.if-not-branch.false f t)
          (clocks-next c.args.stamp.clock t ms k m c.loop-number-test.true c.index-marks-number.is);
    }

pub returns-then-not-branch-clause-numbers : goal.returns-then-not-branch-clause-numbers
returns-then-not-branch-clause-numbers g c =
    let k = c.loop-number.number in
    let ms = c.args.marks.now in
    let m = c.index-marks-number.result in
    let node = c.args.stamp.node in
    let inv = c.loop-number.invariant in (
      λ t. absurd (false-true t),
      λ all. absurd (last-numbers node g.steps ms k m c.loop-number-test.true c.index-marks-number.is
          (λ next. false-true (sym c.if-not-branch.true ∙ c.in_ok-note_mark.ensures.next.1
          (next-same _ _ (λ t. sym (own-count node c.args.stamp.clock t _ _ (take k ms) (sent_in node t g.steps) (inv.links node t) (c.requires.1.1 t))) m next))) inv.numbers all),
    )

pub returns-then-not-branch-clause-links : goal.returns-then-not-branch-clause-links
returns-then-not-branch-clause-links g c = λ t. absurd (false-true t)

pub returns-clause-numbers : goal.returns-clause-numbers
returns-clause-numbers g c =
    let past : length c.args.marks.now ≤ c.loop-number.number = omega (arith, c.loop-number-test.false) in
    (λ t. numbers-end c.args.stamp.node g.steps c.args.marks.now c.loop-number.number past c.loop-number.invariant.numbers, λ all. refl)
