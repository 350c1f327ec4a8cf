use Rattle.std.proofs.Common.{[], refl}
use Rattle.gx_rules.specs.Slices.{starts_from}
use Rattle.gx_slices.proofs.Starting.{IsAt-start, IsFree-start, IsTaken-start}
use Rattle.gx_slices.proofs.changing_rows.change_rows.Goals as goal

pub change_picked-requires : goal.change_picked-requires
change_picked-requires g c =
    let held = c.args.held.now in
    let gxid = c.args.change.writer.gxid in
    let entries = c.take_entry-entry.new.entries in
    let entry = c.take_entry-entry.result in
    let took = c.take_entry-entry.ensures in
    let was = c.requires.0 in
    let is = c.requires.1.0 in
    let may = c.requires.1.1.0 in
    let open_here = c.requires.1.1.1.0 in
    let free = c.requires.1.1.1.1 in (
      IsTaken-start g.found held entries entry gxid was is (starts_from g.found.start) free took.others,
      (may, (IsAt-start g.found held entries entry gxid was is [] may.alive open_here took.local took.kept, (IsFree-start g.found held entries entry gxid was is [] free, (refl, c.in_ok-picked.ensures)))),
    )
