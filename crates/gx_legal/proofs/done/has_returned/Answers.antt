use Rattle.std.proofs.Common.{refl}
use Rattle.gx_store.specs.Parts.{IsLineBack}
use Rattle.gx_legal.proofs.Numbering.{runs-number, runs-short, runs-stmt}
use Rattle.gx_legal.proofs.Oks.{if_ok}
use Rattle.gx_legal.proofs.UnderWay.{every-none, every-some}
use Rattle.gx_legal.specs.Moments.{point_of}
use Rattle.gx_legal.proofs.done.has_returned.Goals as goal

pub is_line_back-requires-clause-line : goal.is_line_back-requires-clause-line
is_line_back-requires-clause-line c = runs-stmt c.args.moment.now.script.now c.requires (point_of c.args.moment.now) c.args.session c.in-Some.line.now ((c.in-Some.ensures c.in-Some.line.now).0 refl)

pub is_line_back-requires-clause-short : goal.is_line_back-requires-clause-short
is_line_back-requires-clause-short c = runs-short c.args.moment.now.script.now c.requires (point_of c.args.moment.now) c.args.session c.in-Some.line.now ((c.in-Some.ensures c.in-Some.line.now).0 refl)

pub is_line_back-requires-clause-number : goal.is_line_back-requires-clause-number
is_line_back-requires-clause-number c = runs-number c.args.moment.now.script.now c.requires (point_of c.args.moment.now) c.args.session c.in-Some.line.now ((c.in-Some.ensures c.in-Some.line.now).0 refl)

pub returns-in-Some : goal.returns-in-Some
returns-in-Some c =
    let s = c.args.moment.now.script.now in
    let p = point_of c.args.moment.now in
    if_ok c.is_line_back.result (λ b h. every-some s p c.args.session (IsLineBack s p c.args.session) c.in-Some.line.now b c.in-Some.ensures h) c.is_line_back.ensures

pub returns-in-None : goal.returns-in-None
returns-in-None c =
    let s = c.args.moment.now.script.now in
    let p = point_of c.args.moment.now in
    (λ t. every-none s p c.args.session (IsLineBack s p c.args.session) c.in-None.ensures, λ all. refl)
