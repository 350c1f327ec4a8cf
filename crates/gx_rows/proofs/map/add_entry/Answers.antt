use Rattle.std.proofs.Common.{◌∙◌, ap}
use Rattle.std.specs.Map.{remove_entry}
use Rattle.std.specs.BTreeMap.{is_at}
use Rattle.gx_rows.specs.Xids.{gxid_cmp}
use Rattle.gx_rows.proofs.XidEntries.{remove_entry-inserted}
use Rattle.gx_rows.proofs.map.add_entry.Goals as goal

pub returns-in-Err-clause-lxids_stay : goal.returns-in-Err-clause-lxids_stay
returns-in-Err-clause-lxids_stay c =
    c.remove.ensures.entries
    ∙ ap (remove_entry (is_at (gxid_cmp c.args.gxid))) c.in_ok-insert.ensures.entries
    ∙ remove_entry-inserted c.args.gxid c.args.lxid c.args.lxids.now.entries c.requires
