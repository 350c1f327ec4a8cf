use Rattle.std.proofs.Common.{length, sym, ◌∙◌, ap, subst}
use Rattle.indexmap.proofs.CallerLemmas.{insert_entry-new}
use Rattle.gx_sql.specs.Held.{schemas, AreTables}
use Rattle.gx_sql.proofs.Held.{same_key, new_key, schemas_snoc, tables_snoc, length_snoc}
use Rattle.gx_sql.proofs.progress.insert_table.Goals as goal

pub returns-in_ok-insert-in-Ok-clause-schemas : goal.returns-in_ok-insert-in-Ok-clause-schemas
returns-in_ok-insert-in-Ok-clause-schemas c =
    let name = c.in-Ok.ensures ∙ c.as_slice.ensures in
    let e = c.in_ok-insert-in-Ok.ensures.entries ∙ insert_entry-new same_key c.args.tables.now c.in-Ok.key c.args.schema (new_key c.args.schema.name c.args.tables.now.entries c.in-Ok.key c.requires.named c.requires.new name) in
    ap schemas e ∙ schemas_snoc c.args.tables.now.entries c.in-Ok.key c.args.schema

pub returns-in_ok-insert-in-Ok-clause-named : goal.returns-in_ok-insert-in-Ok-clause-named
returns-in_ok-insert-in-Ok-clause-named c =
    let name = c.in-Ok.ensures ∙ c.as_slice.ensures in
    let e = c.in_ok-insert-in-Ok.ensures.entries ∙ insert_entry-new same_key c.args.tables.now c.in-Ok.key c.args.schema (new_key c.args.schema.name c.args.tables.now.entries c.in-Ok.key c.requires.named c.requires.new name) in
    subst AreTables (sym e) (tables_snoc c.args.tables.now.entries c.in-Ok.key c.args.schema c.requires.named name c.requires.bounded)

pub returns-in_ok-insert-in-Ok-clause-more : goal.returns-in_ok-insert-in-Ok-clause-more
returns-in_ok-insert-in-Ok-clause-more c =
    let name = c.in-Ok.ensures ∙ c.as_slice.ensures in
    let e = c.in_ok-insert-in-Ok.ensures.entries ∙ insert_entry-new same_key c.args.tables.now c.in-Ok.key c.args.schema (new_key c.args.schema.name c.args.tables.now.entries c.in-Ok.key c.requires.named c.requires.new name) in
    ap length e ∙ length_snoc c.args.tables.now.entries (c.in-Ok.key, c.args.schema)
