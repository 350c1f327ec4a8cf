use Rattle.gx_lemmas.proofs.Tests.{false-true}
use Rattle.gx_legal.proofs.Oks.{if_ok}
use Rattle.gx_legal.proofs.Seeing.{snap-ended, snap-is, snap-sees}
use Rattle.gx_legal.proofs.Sessions.{no-longer}
use Rattle.gx_legal.specs.Moments.{point_of}
use Rattle.gx_legal.proofs.snaps.is_legal_snap.Goals as goal

pub returns-then-not-sees_commits : goal.returns-then-not-sees_commits
returns-then-not-sees_commits c =
    let m = c.args.moment.now in (
      λ t. absurd (false-true t),
      λ snap. absurd (no-longer c.sees_commits.result c.sees_commits.ensures c.if-not-sees_commits.true
          (snap-sees c.args.moment.now.script.now (point_of m) c.args.command.0 c.args.command.1 c.args.snapshot.now m.before.now m.whole snap)),
    )

pub returns-then-not-sees_ended : goal.returns-then-not-sees_ended
returns-then-not-sees_ended c =
    let m = c.args.moment.now in (
      λ t. absurd (false-true t),
      λ snap. absurd (no-longer c.sees_ended.result c.sees_ended.ensures c.if-not-sees_ended.true
          (snap-ended c.args.moment.now.script.now (point_of m) c.args.command.0 c.args.command.1 c.args.snapshot.now m.before.now m.whole snap)),
    )

pub returns : goal.returns
returns c =
    let m = c.args.moment.now in
    if_ok c.is_by_command.result (λ b h. snap-is c.args.moment.now.script.now (point_of m) c.args.command.0 c.args.command.1 c.args.snapshot.now m.before.now b m.whole
    (c.sees_commits.ensures.0 c.if-not-sees_commits.false) (c.sees_ended.ensures.0 c.if-not-sees_ended.false) h) c.is_by_command.ensures
