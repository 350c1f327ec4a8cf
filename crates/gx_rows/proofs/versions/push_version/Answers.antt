use Rattle.std.proofs.Common.{rules}
use Rattle.gx_rows.proofs.Entries.{same_from_entry}
use Rattle.gx_rows.proofs.versions.push_version.Goals as goal

pub returns-in-Occupied-clause-err : goal.returns-in-Occupied-clause-err
returns-in-Occupied-clause-err c = same_from_entry _ _ c.args.rid _ c.push.new.self c.push.result c.entry.ensures.ordered (search rules) c.push.ensures.err (search rules)
