use Rattle.gx_tree.specs.declared.slice.Slice.TheVariants as slice
use Rattle.gx_rules.specs.Slices.{reads}
use Rattle.gx_slices.proofs.Progressing.{HasProgressed-after, HasProgressed-ran, IsHeld-tables, MayRun-tables}
use Rattle.gx_slices.proofs.running.run_select.Goals as goal

pub select-requires : goal.select-requires
select-requires g c =
    let tables = c.args.tables.now in (
      IsHeld-tables g.found.tables tables c.requires.0 c.args.held.now g.found.start c.requires.1.0,
      MayRun-tables g.found.tables tables c.requires.0 g.found.start c.args.gxid c.args.cid c.args.snapshot (slice.Select c.args.query) c.requires.1.1,
    )

pub returns : goal.returns
returns g c =
    let w = c.args in
    let turn = reads g.found.start w.gxid w.cid w.query w.snapshot in
    HasProgressed-after g.found.tables c.select.new.held w.gxid c.answered.result c.in_ok-all.all turn w.marks.items
    (HasProgressed-ran w.tables.now g.found.tables c.requires.0 c.select.new.held w.gxid c.in_ok-ran.ran turn c.in_ok-ran.ensures c.answered.result c.answered.ensures)
    c.in_ok-all.ensures
