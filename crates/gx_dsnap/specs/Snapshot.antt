-- What a snapshot sees.
use Rattle.std.specs.Prelude.{Bool, ◌&&◌, not}
use Rattle.gx_ids.specs.declared.ids.Gxid.{Gxid}
use Rattle.gx_dsnap.specs.Gxids.{is_below, is_listed}
use Rattle.gx_dsnap.specs.declared.snapshot.Snapshot.{Snapshot}

-- g is below xmax and isn't in the list
abbrev pub sees : Snapshot → Gxid → Bool
sees snap g = is_below snap.xmax g && not (is_listed g snap.running)
