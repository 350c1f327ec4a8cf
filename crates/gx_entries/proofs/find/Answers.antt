use Rattle.std.proofs.Common.{◌≤◌, arith, sym}
use Rattle.std.specs.BTreeMap.{is_at}
use Rattle.gx_dsnap.specs.Gxids.{gxid_cmp}
use Rattle.gx_entries.proofs.Stood.{found-there, inside}
use Rattle.gx_entries.proofs.find.Goals as goal

pub offset_bounds-entries-place : goal.offset_bounds-entries-place
offset_bounds-entries-place g c = omega (arith, inside (is_at (gxid_cmp c.args.gxid)) c.args.entries.now c.in-Some.place c.in-Some.ensures.there)

pub bounds-entries-place : goal.bounds-entries-place
bounds-entries-place g c = inside (is_at (gxid_cmp c.args.gxid)) c.args.entries.now c.in-Some.place c.in-Some.ensures.there

pub returns-in-Some : goal.returns-in-Some
returns-in-Some g c = sym (found-there (is_at (gxid_cmp c.args.gxid)) c.args.entries.now c.in-Some.place c.index-entries-place.result c.in-Some.ensures.there)
