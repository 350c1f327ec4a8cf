use Rattle.std.proofs.Common.{Bor, ◌≤◌, length, sym}
use Rattle.gx_ids.specs.declared.ids.Table.{Table}
use Rattle.gx_tree.specs.declared.schema.Schema.{Schema}
use Rattle.gx_sql.proofs.Held.{named_found, table_absent, found_narrow, some_as}
use Rattle.gx_sql.proofs.progress.find_named.Goals as goal

pub returns-in-Some-clause-found : goal.returns-in-Some-clause-found
returns-in-Some-clause-found c = sym (named_found c.args.name.now c.args.tables.now.entries c.in-Some.place c.in-Some.schema.now c.requires.named (sym c.in-Some.ensures.index) (sym c.in-Some.ensures.value))

pub returns-in-Some-clause-narrow : goal.returns-in-Some-clause-narrow
returns-in-Some-clause-narrow c f e = some_as (λ (f : Table × Bor Schema). length f.1.now.columns ≤ 32) (record { 0 = c.in-Some.place }, c.in-Some.schema) f e (found_narrow c.args.name.now c.args.tables.now.entries c.in-Some.schema.now c.requires.named (sym c.in-Some.ensures.value))

pub returns-in-None-clause-found : goal.returns-in-None-clause-found
returns-in-None-clause-found c = sym (table_absent 0 c.args.name.now c.args.tables.now.entries c.requires.named (sym c.in-None.ensures.value))
