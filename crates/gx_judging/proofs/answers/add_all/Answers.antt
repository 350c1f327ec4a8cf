use Rattle.std.proofs.Common.{◌∙◌, ◌≡◌, ◌≤◌, ℕ, [], ◌++◌, length, drop, refl, sym, ap, arith}
use Rattle.std.proofs.lemmas.List.{append-nil, drop_all}
use Rattle.gx_judging.specs.Answers.{answers_at}
use Rattle.gx_judging.specs.Filled.{answers_of}
use Rattle.gx_judging.proofs.Grouping.{group-next}
use Rattle.gx_judging.proofs.answers.add_all.Goals as goal

pub loop-number-preserved : goal.loop-number-preserved
loop-number-preserved c =
    let all = c.args.answers.now in
    record {
      long = c.in_ok-add.ensures.long;
      rest = λ k. group-next _ _ all c.loop-number.number c.index-answers-number.result _ k c.loop-number-test.true c.index-answers-number.is c.in_ok-answer_copy.ensures c.in_ok-add.ensures.here (c.in_ok-add.ensures.others k)
          ∙ c.loop-number.invariant.rest k;
    }

pub returns : goal.returns
returns c =
    let all = c.args.answers.now in
    let past : length all ≤ c.loop-number.number = omega (arith, c.loop-number-test.false) in
    λ k. sym (append-nil (answers_at c.loop-number.lists.items k)) ∙ ap (λ xs. answers_at c.loop-number.lists.items k ++ answers_of k xs) (sym (drop_all c.loop-number.number all past)) ∙ c.loop-number.invariant.rest k
