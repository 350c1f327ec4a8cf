use Rattle.gx_tables.proofs.Gathered.{last-of}
use Rattle.gx_tables.proofs.rows.last_rows.Goals as goal

pub returns : goal.returns
returns c = last-of c.args.rows.items c.in_ok-list.list.items c.in_ok-map.map.entries c.in_ok-list.ensures.listed c.in_ok-list.ensures.ordered c.in_ok-map.ensures
