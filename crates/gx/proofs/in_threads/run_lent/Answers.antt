use Rattle.std.proofs.Common.{◌≡◌, ◌+◌, ◌∙◌, ap, rules, subst, true}
use Rattle.gx_script.specs.declared.Script.{Script}
use Rattle.gx_threads.specs.Ends.{HaveNoOthers}
use Rattle.gx.specs.Lent.{IsCut}
use Rattle.gx.proofs.Lent.{kept-journals, lent-empty}
use Rattle.gx.proofs.in_threads.run_lent.Goals as goal

pub run_threads-requires-clause-blanks : goal.run_threads-requires-clause-blanks
run_threads-requires-clause-blanks g c κs within =
    let lent = c.in_ok-lent.lent in
    (lent-empty g.J.Journal.shelf c.args.journals.items lent.own.items lent.others.items lent.first _ c.in_ok-lent.ensures c.requires.empty).1

pub returns-clause-kept : goal.returns-clause-kept
returns-clause-kept g c =
    let script : Script = c.args.script.now.value in
    let lent = c.in_ok-lent.lent in
    let end = c.in_ok-end.end in
    let e = c.in_ok-end.ensures in
    let of : c.in_ok-shared.shared.value ≡ script = search rules in
    let count : c.from.result ≡ script.segments = search rules in
    let is = subst (IsCut c.args.journals.items lent.first lent.own.items lent.others.items) count c.in_ok-lent.ensures in
    kept-journals g.J.Journal.shelf script end.run.steps c.args.journals.items lent.own.items lent.others.items end.journals.items c.in_ok-back.back.items lent.first is c.requires.empty
    (e.count ∙ ap (λ (s : Script). s.segments + 1) of) c.in_ok-back.ensures (subst (λ (s : Script). HaveNoOthers s end.run.steps) of e.others) e.held e.failures true
