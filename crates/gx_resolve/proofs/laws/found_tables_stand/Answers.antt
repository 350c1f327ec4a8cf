use Rattle.gx_resolve.proofs.Promised.{table_stands}
use Rattle.gx_resolve.proofs.laws.found_tables_stand.Goals as goal

pub returns : goal.returns
returns c = table_stands
