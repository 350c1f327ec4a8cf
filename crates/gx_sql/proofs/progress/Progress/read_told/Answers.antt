use Rattle.std.proofs.Common.{length, refl, sym, ◌∙◌}
use Rattle.gx_sql.specs.Held.{progress_of}
use Rattle.gx_sql.proofs.Held.{length_schemas}
use Rattle.gx_sql.proofs.Saying.{stands_told}
use Rattle.gx_sql.proofs.progress.Progress.read_told.Goals as goal

pub returns-then-is_none-clause-said : goal.returns-then-is_none-clause-said
returns-then-is_none-clause-said c = stands_told c.args.segments (length c.args.self.now.tables.entries) (length c.args.self.now.groups.items) (progress_of c.args.self.now) (progress_of c.read_head.new.self) c.args.self.now.lines.items c.args.tokens.now c.read_head.result (sym c.as_slice.ensures.value ∙ c.is_none.ensures.0 c.if-is_none.true) (sym (length_schemas c.args.self.now.tables.entries)) refl c.read_head.ensures.said
