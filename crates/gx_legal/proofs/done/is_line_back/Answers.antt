use Rattle.std.proofs.Common.{refl, sym, ◌∙◌}
use Rattle.gx_legal.proofs.Completing.{back-no, back-none, back-some}
use Rattle.gx_legal.proofs.Numbering.{number-in}
use Rattle.gx_legal.proofs.Oks.{if_ok}
use Rattle.gx_legal.specs.Moments.{point_of}
use Rattle.gx_legal.specs.Standings.{state_in}
use Rattle.gx_legal.proofs.done.is_line_back.Goals as goal

pub returns-then-not-is_command : goal.returns-then-not-is_command
returns-then-not-is_command c =
    let m = c.args.moment.now in (
      λ t. back-no m.script.now (point_of m) c.args.line.now (state_in c.standing_at-block.result.block) m.before.now m.whole c.args.session c.standing_at-block.ensures.is.state
          (sym c.is_command.ensures ∙ c.if-not-is_command.true),
      λ back. refl,
    )

pub returns-in_default : goal.returns-in_default
returns-in_default c =
    let m = c.args.moment.now in (
      λ t. back-none m.script.now (point_of m) c.args.line.now (state_in c.standing_at-block.result.block) m.before.now m.whole c.args.session c.standing_at-block.ensures.is.state
          (sym c.in_default.ensures),
      λ back. refl,
    )

pub number_in-requires : goal.number_in-requires
number_in-requires c =
    let m = c.args.moment.now in
    number-in m.script.now (point_of m) c.args.session m.before.now c.standing_at-block.result.block m.whole c.standing_at-block.ensures.is.state c.requires.number

pub returns : goal.returns
returns c =
    let m = c.args.moment.now in
    if_ok c.is_back.result (λ b h. back-some m.script.now (point_of m) c.args.line.now (state_in c.standing_at-block.result.block) m.before.now m.whole c.args.session c.standing_at-block.ensures.is.state
    c.in-Some.gxid _ b (sym c.is_command.ensures ∙ c.if-not-is_command.false) (sym c.transaction_at.ensures ∙ c.in-Some.is) c.number_in.ensures h) c.is_back.ensures
