use Rattle.std.proofs.Common.{◌+◌, ◌-◌, sym, ◌∙◌, length, arith}
use Rattle.std.proofs.lemmas.Result.{err_from_is_err_and}
use Rattle.gx_grammar.specs.Rules.{behind_at}
use Rattle.gx_grammar.specs.Tokens.{is_comma}
use Rattle.gx_grammar.proofs.Many.{turn_more, turn_end, turn_stop}
use Rattle.gx_grammar.proofs.part.more_parts.Goals as goal

pub returns-then-not-begins_with_sign : goal.returns-then-not-begins_with_sign
returns-then-not-begins_with_sign g c =
    sym c.loop-turn.invariant ∙ turn_end is_comma (behind_at is_comma (g.T.Part.reads c.args.limits)) (length c.args.tokens.now - c.loop-turn._turn) _ _ (sym c.begins_with_sign.ensures ∙ c.if-not-begins_with_sign.true)

pub returns-in_err-part : goal.returns-in_err-part
returns-in_err-part g c =
    let p = err_from_is_err_and c.from_residual.result c.from_residual.ensures.1 in
    rw (p.1, p.2) (turn_stop is_comma (behind_at is_comma (g.T.Part.reads c.args.limits)) c.in_err-part.field-0.0 (length c.args.tokens.now - c.loop-turn._turn) _ _ _ (omega arith) (sym c.begins_with_sign.ensures ∙ c.if-not-begins_with_sign.false) c.loop-turn.invariant c.in_err-part.ensures)

pub loop-turn-preserved : goal.loop-turn-preserved
loop-turn-preserved g c =
    rw c.in_ok-push.ensures.items
    (sym (turn_more is_comma (behind_at is_comma (g.T.Part.reads c.args.limits)) (length c.args.tokens.now - c.loop-turn._turn) (length c.args.tokens.now - (c.loop-turn._turn + 1)) _ _ _ _ (omega arith) (sym c.begins_with_sign.ensures ∙ c.if-not-begins_with_sign.false) c.in_ok-part.ensures)
    ∙ c.loop-turn.invariant)
