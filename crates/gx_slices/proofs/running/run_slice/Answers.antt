use Rattle.gx_tree.specs.declared.slice.Slice.TheVariants as slice
use Rattle.gx_slices.proofs.Progressing.{HasProgressed-slice, MayRun-slice}
use Rattle.gx_slices.proofs.running.run_slice.Goals as goal

pub run_select-requires : goal.run_select-requires
run_select-requires g c =
    let w = c.args.command in
    (c.requires.0, (c.requires.1.1.0, MayRun-slice g.found.tables g.found.start c.args.gxid w.cid w.snapshot w.slice (slice.Select c.in-Select.query) c.in-Select.is c.requires.1.1.1.0))

pub returns-in-Select : goal.returns-in-Select
returns-in-Select g c =
    let w = c.args.command in
    HasProgressed-slice g.found.tables c.run_select.new.held c.args.gxid c.run_select.result c.args.marks.items g.found.start w.cid w.level w.snapshot w.slice (slice.Select c.in-Select.query) c.in-Select.is c.run_select.ensures

pub run_insert-requires : goal.run_insert-requires
run_insert-requires g c =
    let w = c.args.command in
    (c.requires.0, (c.requires.1.1.0, (MayRun-slice g.found.tables g.found.start c.args.gxid w.cid w.snapshot w.slice (slice.Insert c.in-Insert.table c.in-Insert.rows) c.in-Insert.is c.requires.1.1.1.0, c.requires.1.1.1.1)))

pub returns-in-Insert : goal.returns-in-Insert
returns-in-Insert g c =
    let w = c.args.command in
    HasProgressed-slice g.found.tables c.run_insert.new.held c.args.gxid c.run_insert.result c.args.marks.items g.found.start w.cid w.level w.snapshot w.slice (slice.Insert c.in-Insert.table c.in-Insert.rows) c.in-Insert.is c.run_insert.ensures

pub change_by-requires : goal.change_by-requires
change_by-requires g c =
    let w = c.args.command in
    (c.requires.1.0, (c.requires.1.1.0, (MayRun-slice g.found.tables g.found.start c.args.gxid w.cid w.snapshot w.slice (slice.Update c.in-Update.table c.in-Update.assigns c.in-Update.cond) c.in-Update.is c.requires.1.1.1.0, c.requires.1.1.1.1)))

pub returns-in-Update : goal.returns-in-Update
returns-in-Update g c =
    let w = c.args.command in
    HasProgressed-slice g.found.tables c.change_by.new.held c.args.gxid c.change_by.result c.args.marks.items g.found.start w.cid w.level w.snapshot w.slice (slice.Update c.in-Update.table c.in-Update.assigns c.in-Update.cond) c.in-Update.is c.change_by.ensures

pub delete_by-requires : goal.delete_by-requires
delete_by-requires g c =
    let w = c.args.command in
    (c.requires.1.0, (c.requires.1.1.0, (MayRun-slice g.found.tables g.found.start c.args.gxid w.cid w.snapshot w.slice (slice.Delete c.in-Delete.table c.in-Delete.cond) c.in-Delete.is c.requires.1.1.1.0, c.requires.1.1.1.1)))

pub returns-in-Delete : goal.returns-in-Delete
returns-in-Delete g c =
    let w = c.args.command in
    HasProgressed-slice g.found.tables c.delete_by.new.held c.args.gxid c.delete_by.result c.args.marks.items g.found.start w.cid w.level w.snapshot w.slice (slice.Delete c.in-Delete.table c.in-Delete.cond) c.in-Delete.is c.delete_by.ensures

pub run_lock-requires : goal.run_lock-requires
run_lock-requires g c =
    let may = c.requires.1.1.1.0 in
    (c.requires.0, (c.requires.1.1.0, (may.alive, (may.open_here, (may.free, may.new)))))
