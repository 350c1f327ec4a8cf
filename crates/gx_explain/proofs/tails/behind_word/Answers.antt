use Rattle.std.proofs.Common.{sym, ◌∙◌}
use Rattle.gx_lex.specs.Lexing.{is_word_byte}
use Rattle.gx_explain.proofs.Bytes.{behind-word, run-ends, run-ended, run-next}
use Rattle.gx_explain.proofs.tails.behind_word.Goals as goal

pub loop-byte-preserved : goal.loop-byte-preserved
loop-byte-preserved c =
    let within = sym c.is_word_byte.ensures ∙ c.if-not-is_word_byte.false in
    run-next is_word_byte c.args.behind.now c.loop-byte.rest.now c.in-Some.others.now c.in-Some.byte.now c.in-Some.ensures.cases.0 within c.loop-byte.invariant

pub returns-then-not-is_word_byte-clause-value : goal.returns-then-not-is_word_byte-clause-value
returns-then-not-is_word_byte-clause-value c =
    let outside = sym c.is_word_byte.ensures ∙ c.if-not-is_word_byte.true in
    behind-word c.args.first c.args.behind.now c.loop-byte.rest.now c.requires
    (run-ends is_word_byte c.args.behind.now c.loop-byte.rest.now c.in-Some.others.now c.in-Some.byte.now c.in-Some.ensures.cases.0 outside c.loop-byte.invariant)

pub returns-clause-value : goal.returns-clause-value
returns-clause-value c =
    behind-word c.args.first c.args.behind.now c.loop-byte.rest.now c.requires
    (run-ended is_word_byte c.args.behind.now c.loop-byte.rest.now c.in_default.ensures.cases c.loop-byte.invariant)
