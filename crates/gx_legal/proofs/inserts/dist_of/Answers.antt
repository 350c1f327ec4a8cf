use Rattle.std.proofs.Common.{◌∙◌, ap, sym}
use Rattle.gx_legal.specs.Inserted.{dist_in}
use Rattle.gx_legal.proofs.Insertions.{dist-at}
use Rattle.gx_legal.proofs.inserts.dist_of.Goals as goal

pub returns : goal.returns
returns c = c.dist_in.ensures ∙ ap dist_in c.schema_at.ensures ∙ sym (dist-at c.args.tables.now c.args.table.0)
