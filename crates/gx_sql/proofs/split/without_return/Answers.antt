use Rattle.std.proofs.Common.{sym, ◌∙◌, ap}
use Rattle.gx_sql.specs.Cutting.{without_return}
use Rattle.gx_sql.proofs.Cuts.{without_return-return, without_return-other}
use Rattle.gx_sql.proofs.split.without_return.Goals as goal

pub returns-then-last-eq13 : goal.returns-then-last-eq13
returns-then-last-eq13 c = sym (ap without_return c.in-Some.ensures.cases.0 ∙ without_return-return c.in-Some.front.now c.in-Some.last.now c.if-last-eq13.true)

pub returns-else-last-eq13 : goal.returns-else-last-eq13
returns-else-last-eq13 c =
    let e = c.in-Some.ensures.cases.0 in
    e ∙ sym (ap without_return e ∙ without_return-other c.in-Some.front.now c.in-Some.last.now c.if-last-eq13.false)
