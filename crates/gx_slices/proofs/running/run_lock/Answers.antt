use Rattle.gx_rules.specs.Slices.{locks}
use Rattle.gx_slices.proofs.Progressing.{HasProgressed-after, HasProgressed-ran, IsHeld-tables}
use Rattle.gx_slices.proofs.running.run_lock.Goals as goal

pub lock-requires : goal.lock-requires
lock-requires g c =
    (IsHeld-tables g.found.tables c.args.tables.now c.requires.0 c.args.held.now g.found.start c.requires.1.0, c.requires.1.1)

pub returns : goal.returns
returns g c =
    let w = c.args in
    let turn = locks g.found.start w.gxid w.cid in
    HasProgressed-after g.found.tables c.lock.new.held w.gxid c.answered.result c.in_ok-all.all turn w.marks.items
    (HasProgressed-ran w.tables.now g.found.tables c.requires.0 c.lock.new.held w.gxid c.in_ok-ran.ran turn c.in_ok-ran.ensures c.answered.result c.answered.ensures)
    c.in_ok-all.ensures
