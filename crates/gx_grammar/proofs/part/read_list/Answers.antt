use Rattle.std.proofs.Common.{◌∙◌}
use Rattle.std.proofs.lemmas.Result.{err_from_is_err_and}
use Rattle.gx_grammar.specs.Rules.{behind_at}
use Rattle.gx_grammar.specs.Tokens.{is_comma}
use Rattle.gx_grammar.proofs.Many.{listed_same, listed_fails}
use Rattle.gx_grammar.proofs.part.read_list.Goals as goal

pub returns-in_err-rest : goal.returns-in_err-rest
returns-in_err-rest g c =
    let p = err_from_is_err_and c.from_residual-in_err-rest.result c.from_residual-in_err-rest.ensures.1 in
    rw (p.1, p.2) (listed_fails is_comma (behind_at is_comma (g.T.Part.reads c.args.limits)) c.in_err-rest.field-0.0 (g.T.Part.reads c.args.limits) c.in_ok-first.first c.args.tokens.now c.in_ok-first.rest.now c.in_ok-first.ensures (rw (c.in_ok-push.ensures.items, c.new-parts.ensures.items) at c.in_err-rest.ensures))

pub returns : goal.returns
returns g c = rw c.from_vec.ensures (listed_same is_comma (behind_at is_comma (g.T.Part.reads c.args.limits)) (g.T.Part.reads c.args.limits) c.in_ok-first.first c.args.tokens.now c.in_ok-first.rest.now c.in_ok-first.ensures ∙ (rw (c.in_ok-push.ensures.items, c.new-parts.ensures.items) at c.in_ok-rest.ensures))
