use Rattle.std.proofs.Common.{true, sym, ◌∙◌}
use Rattle.gx_legal.proofs.Refusing.{cancelled-is}
use Rattle.gx_legal.specs.Moments.{point_of}
use Rattle.gx_legal.proofs.verdicts.is_cancelled.Goals as goal

pub returns-then-is_aborted : goal.returns-then-is_aborted
returns-then-is_aborted c =
    let m = c.args.moment.now in
    cancelled-is (point_of m) c.args.round c.args.gxid m.before.now m.whole c.in-Some.session true c.has_refusal.result (sym c.session_of.ensures ∙ c.in-Some.is) (sym c.if-is_aborted.true
    ∙ c.is_aborted.ensures) c.has_refusal.ensures
