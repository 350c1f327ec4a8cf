use Rattle.std.proofs.Common.{◌∙◌, arith, false}
use Rattle.std.proofs.lemmas.List.FromFn.{get_or-map-range_with_len}
use Rattle.gx_lex.specs.Lexing.{is_word_byte}
use Rattle.gx_lex.proofs.byte.is_word_byte.Goals as goal

pub returns : goal.returns
returns c = c.flag_of.ensures false ∙ get_or-map-range_with_len is_word_byte 0 256 c.args.byte c.args.byte false (omega (arith, c.ranges.byte.fits)) (omega arith)
