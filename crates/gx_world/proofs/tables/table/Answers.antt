use Rattle.gx_world.proofs.Gathered.{rows-of}
use Rattle.gx_world.proofs.tables.table.Goals as goal

pub returns : goal.returns
returns c =
    rows-of c.args.network.now.script.value c.requires.is.language.some_segments c.args.network.now.run.steps c.requires.is.reached c.args.table c.args.snapshot.now c.requires.snapshot _ (c.requires.is.stands c.requires.usable).count
    c.in_ok-list.list.items c.in_ok-rows.rows.entries c.in_ok-list.ensures.listed c.in_ok-list.ensures.ordered c.in_ok-rows.ensures
