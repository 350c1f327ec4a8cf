use Rattle.gx_lemmas.proofs.Tests.{false-true}
use Rattle.gx_legal.proofs.Oks.{if_ok}
use Rattle.gx_legal.proofs.Sessions.{no-longer}
use Rattle.gx_waits.specs.LocalGraph.{edges_of}
use Rattle.gx_judging.proofs.Waits.{stand-from, stand-to}
use Rattle.gx_judging.proofs.victims.are_named.Goals as goal

pub returns-then-not-branch : goal.returns-then-not-branch
returns-then-not-branch c = (λ t. absurd (false-true t), λ are. absurd (no-longer c.in_ok-are_victims.field-0 c.in_ok-are_victims.ensures c.if-not-branch.true are.0))

pub returns : goal.returns
returns c =
    let ms = c.args.marks.now in
    let locks = c.args.locks.now in
    let edges = edges_of c.args.graphs.now in
    if_ok c.does_core_stand.result
    (λ b h. (λ t. (c.in_ok-are_victims.ensures.0 c.if-not-branch.false, λ e within. stand-to ms locks c.requires e (h.0 t e within)), λ are. h.1 (λ e within. stand-from ms locks c.requires e (are.1 e within))))
    c.does_core_stand.ensures
