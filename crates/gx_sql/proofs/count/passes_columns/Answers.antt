use Rattle.std.proofs.Common.{sym, ◌∙◌}
use Rattle.gx_sql.proofs.Columns.{passes_short, passes_behind, passes_other, never}
use Rattle.gx_sql.proofs.count.passes_columns.Goals as goal

pub returns-then-tokens-lt100 : goal.returns-then-tokens-lt100
returns-then-tokens-lt100 c = never (passes_short c.args.limits c.args.tokens.now c.if-tokens-lt100.true)

pub returns-then-goes_on : goal.returns-then-goes_on
returns-then-goes_on c = passes_behind c.args.limits c.args.tokens.now c.split_at.result.0.now c.split_at.result.1.now c.split_at.ensures.front c.split_at.ensures.back c.split_at.ensures.front_len (sym c.goes_on.ensures ∙ c.if-goes_on.true) c.is_full.result c.is_full.ensures

pub returns-else-goes_on : goal.returns-else-goes_on
returns-else-goes_on c = never (passes_other c.args.limits c.args.tokens.now c.split_at.result.0.now c.split_at.result.1.now c.split_at.ensures.front c.split_at.ensures.back c.split_at.ensures.front_len (sym c.goes_on.ensures ∙ c.if-goes_on.false))
