use Rattle.std.proofs.Common.{◌∙◌}
use Rattle.gx_sql.proofs.Held.{is_known_schemas}
use Rattle.gx_sql.proofs.progress.is_known.Goals as goal

pub returns : goal.returns
returns c = c.contains_key.ensures ∙ is_known_schemas c.args.name.now c.args.tables.now.entries c.requires
