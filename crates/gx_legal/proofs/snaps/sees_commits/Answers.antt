use Rattle.gx_legal.proofs.Seeing.{commits-seen}
use Rattle.gx_legal.proofs.snaps.sees_commits.Goals as goal

pub returns : goal.returns
returns c =
    let m = c.args.moment.now in
    commits-seen c.args.snapshot.now m.tally.now.committed m.before.now c.sees_all.result m.told.committed c.sees_all.ensures
