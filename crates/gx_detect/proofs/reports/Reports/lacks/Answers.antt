use Rattle.std.proofs.Common.{◌≡◌, ◌≤◌, ◌-◌, ap, sym, subst, ◌∙◌, length, get_or, arith}
use Rattle.gx_detect.proofs.Awaited.{is_none-of, lacks-beyond, lacks-nobody, lacks-there}
use Rattle.gx_detect.proofs.reports.Reports.lacks.Goals as goal

pub returns-then-place-eq0 : goal.returns-then-place-eq0
returns-then-place-eq0 c = lacks-nobody c.args.self.now c.args.segment (sym c.from-place.ensures ∙ c.if-place-eq0.true)

pub returns-then-place-graphs : goal.returns-then-place-graphs
returns-then-place-graphs c =
    let number : c.from-place.result ≡ c.args.segment.0 = c.from-place.ensures in
    let long : length c.as_slice-graphs.result.now ≡ length c.args.self.now = ap length (c.as_slice-graphs.ensures.value ∙ c.self.view_is) in
    let more = c.if-place-graphs.true in
    lacks-beyond c.args.self.now c.args.segment (omega arith)

pub returns : goal.returns
returns c =
    let number = c.from-place.ensures in
    let same = c.as_slice-graphs.ensures.value ∙ c.self.view_is in
    let within : c.args.segment.0 ≤ length c.args.self.now = subst (λ n. c.args.segment.0 ≤ n) (ap length same) (subst (λ n. n ≤ length c.as_slice-graphs.result.now) number c.if-place-graphs.false) in
    let report = c.index-graphs-place.result in
    is_none-of report c.is_none.result c.is_none.ensures
    ∙ lacks-there c.args.self.now c.args.segment report (λ e. c.if-place-eq0.false (number ∙ e)) within
    (c.index-graphs-place.is ∙ ap (λ n. get_or c.as_slice-graphs.result.now (n - 1) report) number ∙ ap (λ xs. get_or xs (c.args.segment.0 - 1) report) same)
