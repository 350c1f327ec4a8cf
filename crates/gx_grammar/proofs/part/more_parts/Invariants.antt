use Rattle.std.proofs.Common.{◌≡◌, ◌-◌, length}
use Rattle.gx_grammar.specs.Rules.{many_on, behind_at}
use Rattle.gx_grammar.specs.Tokens.{is_comma}
use Rattle.gx_grammar.proofs.part.more_parts.Given as goal

abbrev pub invariant-loop-turn : goal.invariant-loop-turn
invariant-loop-turn g l = many_on is_comma (behind_at is_comma (g.T.Part.reads l.limits)) (length l.tokens - l._turn) l.parts.items l.rest.tokens.now ≡ many_on is_comma (behind_at is_comma (g.T.Part.reads l.limits)) (length l.tokens) l.initial.parts.items l.tokens
