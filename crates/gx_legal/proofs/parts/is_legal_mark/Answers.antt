use Rattle.gx_lemmas.proofs.Tests.{false-true}
use Rattle.gx_legal.proofs.Oks.{if_ok}
use Rattle.gx_legal.proofs.Parting.{of-parts, parts-of}
use Rattle.gx_legal.proofs.Sessions.{no-longer}
use Rattle.gx_legal.specs.Moments.{point_of}
use Rattle.gx_legal.proofs.parts.is_legal_mark.Goals as goal

pub returns-then-not-branch : goal.returns-then-not-branch
returns-then-not-branch c = (
  λ t. absurd (false-true t),
  λ legal. absurd (no-longer c.in_ok-is_legal_row.field-0 c.in_ok-is_legal_row.ensures c.if-not-branch.true (parts-of c.args.moment.now.script.now (point_of c.args.moment.now) c.args.mark.now legal).0),
)

pub returns-then-not-branch-2 : goal.returns-then-not-branch-2
returns-then-not-branch-2 c = (
  λ t. absurd (false-true t),
  λ legal. absurd (no-longer c.in_ok-is_legal_statement.field-0 c.in_ok-is_legal_statement.ensures c.if-not-branch-2.true (parts-of c.args.moment.now.script.now (point_of c.args.moment.now) c.args.mark.now legal).1),
)

pub returns-then-not-branch-3 : goal.returns-then-not-branch-3
returns-then-not-branch-3 c = (
  λ t. absurd (false-true t),
  λ legal. absurd (no-longer c.in_ok-is_legal_refusal.field-0 c.in_ok-is_legal_refusal.ensures c.if-not-branch-3.true (parts-of c.args.moment.now.script.now (point_of c.args.moment.now) c.args.mark.now legal).2),
)

pub returns : goal.returns
returns c =
    let s = c.args.moment.now.script.now in
    let p = point_of c.args.moment.now in
    if_ok c.is_legal_beside.result (λ b h. (
      λ t. of-parts s p c.args.mark.now (c.in_ok-is_legal_row.ensures.0 c.if-not-branch.false, c.in_ok-is_legal_statement.ensures.0 c.if-not-branch-2.false, c.in_ok-is_legal_refusal.ensures.0 c.if-not-branch-3.false, h.0 t),
      λ legal. h.1 (parts-of s p c.args.mark.now legal).3,
    )) c.is_legal_beside.ensures
