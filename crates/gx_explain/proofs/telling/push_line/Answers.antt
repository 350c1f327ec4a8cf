use Rattle.std.proofs.Common.{ℕ, Option, IfSome, List, subst}
use Rattle.std.proofs.lemmas.Result.{IfOk-weaker}
use Rattle.gx_lex.specs.declared.token.Token.{Token}
use Rattle.gx_sql.specs.Held.{progress_of}
use Rattle.gx_explain.specs.Places.{IsPlace}
use Rattle.gx_explain.proofs.Shown.{shown-with}
use Rattle.gx_explain.proofs.telling.push_line.Goals as goal

pub returns : goal.returns
returns c =
    let said = progress_of c.args.progress.now in
    let found : IsPlace said c.args.fault c.as_slice.result.now c.in-Some.place = subst (λ (o : Option ℕ). IfSome o (IsPlace said c.args.fault c.as_slice.result.now)) c.in-Some.is c.in_ok-place.ensures in
    let is : IsPlace said c.args.fault c.args.tokens.now.items c.in-Some.place = subst (λ (ts : List Token). IsPlace said c.args.fault ts c.in-Some.place) c.as_slice.ensures.value found in
    IfOk-weaker c.push_bytes-pushed.result _ _ (λ m h.
    shown-with said c.args.fault c.args.line.now c.in-Some-tail_behind.tail.now c.args.text.now.items c.push_window.new.text.items c.push_bytes-pushed.new.text.items c.as_slice-2.result.now
    c.args.tokens.now.items c.in-Some.place c.requires.cut is c.in-Some-tail_behind.ensures.value c.in_ok-push_window.ensures h) c.push_bytes-pushed.ensures
