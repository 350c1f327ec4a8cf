use Rattle.std.proofs.Common.{refl}
use Rattle.gx_store.specs.Parts.{IsLineCaused}
use Rattle.gx_legal.proofs.Numbering.{runs-number}
use Rattle.gx_legal.proofs.Oks.{if_ok}
use Rattle.gx_legal.proofs.UnderWay.{every-none, every-some}
use Rattle.gx_legal.specs.Moments.{point_of}
use Rattle.gx_legal.proofs.refusals.has_cause.Goals as goal

pub is_caused-requires : goal.is_caused-requires
is_caused-requires c = runs-number c.args.moment.now.script.now c.requires (point_of c.args.moment.now) c.args.session c.in-Some.line.now ((c.in-Some.ensures c.in-Some.line.now).0 refl)

pub returns-in-Some : goal.returns-in-Some
returns-in-Some c =
    let s = c.args.moment.now.script.now in
    let p = point_of c.args.moment.now in
    if_ok c.is_caused.result (λ b h. every-some s p c.args.session (IsLineCaused s p c.args.session c.args.reason) c.in-Some.line.now b c.in-Some.ensures h) c.is_caused.ensures

pub returns-in-None : goal.returns-in-None
returns-in-None c =
    let s = c.args.moment.now.script.now in
    let p = point_of c.args.moment.now in
    (λ t. every-none s p c.args.session (IsLineCaused s p c.args.session c.args.reason) c.in-None.ensures, λ all. refl)
