use Rattle.std.proofs.Common.{refl, sym, ◌∙◌}
use Rattle.gx_legal.proofs.Completing.{caused-no, caused-none, caused-some}
use Rattle.gx_legal.proofs.Numbering.{number-in}
use Rattle.gx_legal.proofs.Oks.{if_ok}
use Rattle.gx_legal.specs.Moments.{point_of}
use Rattle.gx_legal.specs.Standings.{state_in}
use Rattle.gx_legal.proofs.refusals.is_caused.Goals as goal

pub returns-then-not-may_refuse : goal.returns-then-not-may_refuse
returns-then-not-may_refuse c =
    let m = c.args.moment.now in (
      λ t. caused-no m.script.now (point_of m) c.args.line.now (state_in c.standing_at-block.result.block) m.before.now m.whole c.args.session c.standing_at-block.ensures.is.state
          c.args.reason (sym c.may_refuse.ensures ∙ c.if-not-may_refuse.true),
      λ caused. refl,
    )

pub returns-in_default : goal.returns-in_default
returns-in_default c =
    let m = c.args.moment.now in (
      λ t. caused-none m.script.now (point_of m) c.args.line.now (state_in c.standing_at-block.result.block) m.before.now m.whole c.args.session c.standing_at-block.ensures.is.state
          c.args.reason (sym c.in_default.ensures),
      λ caused. refl,
    )

pub number_in-requires : goal.number_in-requires
number_in-requires c =
    let m = c.args.moment.now in
    number-in m.script.now (point_of m) c.args.session m.before.now c.standing_at-block.result.block m.whole c.standing_at-block.ensures.is.state c.requires

pub returns : goal.returns
returns c =
    let m = c.args.moment.now in
    if_ok c.is_noted_cause.result (λ b h. caused-some m.script.now (point_of m) c.args.line.now (state_in c.standing_at-block.result.block) m.before.now m.whole c.args.session c.standing_at-block.ensures.is.state
    c.args.reason _ c.in-Some.gxid _ b (sym c.may_refuse.ensures ∙ c.if-not-may_refuse.false) (sym c.transaction_at.ensures ∙ c.in-Some.is) c.level_in.ensures c.number_in.ensures h) c.is_noted_cause.ensures
