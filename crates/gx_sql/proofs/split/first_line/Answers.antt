use Rattle.std.proofs.Common.{rules, ℕ, List, ◌∷◌, sym, ◌∙◌, ap}
use Rattle.gx_sql.specs.Lines.{lines_of}
use Rattle.gx_sql.proofs.Cuts.{lines_of-last, lines_of-first}
use Rattle.gx_sql.proofs.split.first_line.Goals as goal

pub returns-in-None-clause-cases : goal.returns-in-None-clause-cases
returns-in-None-clause-cases c = lines_of-last c.args.bytes.now c.split_at.result.0.now c.split_at.result.1.now c.line_len.result c.line_len.ensures.value c.split_at.ensures.front c.split_at.ensures.back c.split_at.ensures.front_len c.in-None.ensures.cases (search rules)

pub returns-in-Some-clause-cases : goal.returns-in-Some-clause-cases
returns-in-Some-clause-cases c = lines_of-first c.args.bytes.now c.split_at.result.0.now c.split_at.result.1.now c.line_len.result c.line_len.ensures.value c.split_at.ensures.front c.split_at.ensures.back c.split_at.ensures.front_len c.in-Some._feed.now c.in-Some.rest.now c.in-Some.ensures.cases.0 ∙ ap (λ (t : List ℕ). t ∷ lines_of c.in-Some.rest.now) (sym c.without_return.ensures)
