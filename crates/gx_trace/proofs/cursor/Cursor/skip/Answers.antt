use Rattle.std.proofs.Common.{Some, sym, ◌∙◌, ap}
use Rattle.gx_trace.specs.Readers.{word}
use Rattle.gx_trace.proofs.Words.{word-stands, word-fails}
use Rattle.gx_trace.proofs.cursor.Cursor.skip.Goals as goal

pub returns-in-Some : goal.returns-in-Some
returns-in-Some c =
    let h = c.in-Some.ensures.cases in
    ap (word c.args.word.now) (sym c.self.view_is) ∙ word-stands c.args.word.now c.self.inside.left.now h.0 ∙ ap (λ x. Some (tt, x)) (sym h.1)

pub returns-in-None : goal.returns-in-None
returns-in-None c = ap (word c.args.word.now) (sym c.self.view_is) ∙ word-fails c.args.word.now c.self.inside.left.now c.in-None.ensures.cases
