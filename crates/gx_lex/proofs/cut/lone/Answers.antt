use Rattle.std.proofs.Common.{Option, sym, ◌∙◌, ap}
use Rattle.gx_lex.specs.declared.symbol.Symbol.{Symbol}
use Rattle.gx_lex.specs.Reader.{put_symbol, lex_on}
use Rattle.gx_lex.proofs.Lexed.{lost_stays}
use Rattle.gx_lex.proofs.cut.lone.Goals as goal

pub returns-in-None-clause-said : goal.returns-in-None-clause-said
returns-in-None-clause-said c out =
    ap (λ (s : Option Symbol). lex_on c.args.behind.now (put_symbol out s).0 (put_symbol out s).1) (sym c.lone_symbol.ensures ∙ c.in-None.is)
    ∙ lost_stays c.args.behind.now out
