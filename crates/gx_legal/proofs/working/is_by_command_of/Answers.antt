use Rattle.gx_lemmas.proofs.Tests.{false-true}
use Rattle.gx_legal.proofs.Oks.{if_ok}
use Rattle.gx_legal.proofs.UnderWay.{by-none, by-some}
use Rattle.gx_legal.specs.Deeds.{doing_of}
use Rattle.gx_legal.specs.Moments.{point_of}
use Rattle.gx_legal.proofs.working.is_by_command_of.Goals as goal

pub returns-in-Some : goal.returns-in-Some
returns-in-Some c = if_ok c.may.result (λ b may. by-some c.args.moment.now.script.now (point_of c.args.moment.now) c.args.session
    (doing_of c.args.deed.now) c.in-Some.stmt.now c.level_at.result b c.in-Some.ensures c.level_at.ensures may) c.may.ensures

pub returns-in-None : goal.returns-in-None
returns-in-None c = (λ t. absurd (false-true t), λ by. absurd (by-none c.args.moment.now.script.now (point_of c.args.moment.now) c.args.session (doing_of c.args.deed.now) c.in-None.ensures by))
