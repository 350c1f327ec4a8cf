use Rattle.std.proofs.Common.{Some, ap}
use Rattle.gx_tree.specs.declared.slice.Slice.{Slice}
use Rattle.gx_node.specs.declared.local.Suspended as code
use Rattle.gx_rules.specs.Segments.{Suspended}
use Rattle.gx_slices.proofs.Ending.{HasProgressed-stopped}
use Rattle.gx_slices.proofs.changing_rows.stop.Goals as goal

pub returns : goal.returns
returns g c =
    let k = c.args.change in
    let row = c.args.row in
    let rows = c.args.rows in
    let count = c.args.count in
    let w : code.Suspended = record { cid = k.writer.cid; level = k.level; snapshot = Some k.snapshot; slice = c.slice_of.result; count = count; row = Some row; rows = rows } in
    let same = ap (λ (s : Slice). let x : Suspended = record { cid = k.writer.cid; level = k.level; snapshot = Some k.snapshot; slice = s; count = count; row = Some row; rows = rows } in x) c.slice_of.ensures in
    HasProgressed-stopped g.ending.stage k c.args.held.now c.put_suspended.new.held c.args.entry c.args.marks.items g.ending.turn c.requires.0 c.requires.1.0 row rows count c.requires.1.1 w same c.in_ok-put_suspended.ensures c.from_vec.result c.from_vec.ensures
