use Rattle.std.proofs.Common.{subst, sym}
use Rattle.gx_dtx.specs.Table.{Table}
use Rattle.gx_coord.specs.Sound.{IsDrawn}
use Rattle.gx_coord.proofs.coord.Coord.final_snapshot.Goals as goal

pub snapshot_of-requires : goal.snapshot_of-requires
snapshot_of-requires g c = subst (λ (d : Table). IsDrawn d) (sym c.requires.table) (record { whole = c.requires.sound.kept.whole; late = c.requires.sound.past.drawn })
