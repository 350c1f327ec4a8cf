use Rattle.std.proofs.Common.{refl}
use Rattle.gx_lemmas.proofs.Tests.{false-true}
use Rattle.gx_store.specs.Commands.{state_at}
use Rattle.gx_store.specs.Parts.{IsRefused}
use Rattle.gx_legal.proofs.Numbering.{runs-number}
use Rattle.gx_legal.proofs.Oks.{if_ok}
use Rattle.gx_legal.proofs.UnderWay.{line-none, line-some}
use Rattle.gx_legal.specs.Moments.{point_of}
use Rattle.gx_legal.proofs.refusals.is_legal_refused.Goals as goal

pub is_refused-requires : goal.is_refused-requires
is_refused-requires c = runs-number c.args.moment.now.script.now c.requires (point_of c.args.moment.now) c.args.session c.in-Some.line.now ((c.in-Some.ensures c.in-Some.line.now).0 refl)

pub returns-in-Some : goal.returns-in-Some
returns-in-Some c =
    let s = c.args.moment.now.script.now in
    let p = point_of c.args.moment.now in
    if_ok c.is_refused.result (λ b h.
    let h2 = line-some s p c.args.session (λ line. IsRefused p c.args.session (state_at s c.args.session p) line c.args.reason) c.in-Some.line.now b c.in-Some.ensures h in
    (λ t. let may = h2.0 t in record { line = may.0; runs = may.1; is = may.2 }, λ legal. h2.1 (legal.line, legal.runs, legal.is))) c.is_refused.ensures

pub returns-in-None : goal.returns-in-None
returns-in-None c =
    let s = c.args.moment.now.script.now in
    let p = point_of c.args.moment.now in (
      λ t. absurd (false-true t),
      λ legal. absurd (line-none s p c.args.session (λ line. IsRefused p c.args.session (state_at s c.args.session p) line c.args.reason) c.in-None.ensures (legal.line, legal.runs, legal.is)),
    )
