use Rattle.std.specs.Prelude.{None, unwrap_or}
use Rattle.gx_rules.specs.Shown.{current_of}
use Rattle.gx_rules.specs.Slices.{version}
use Rattle.gx_slices.proofs.changing_row.look_at.Given as goal

abbrev pub ghost-come_to : goal.ghost-come_to
ghost-come_to g a = record { stage = g.stage; version = unwrap_or (current_of g.stage.moved.seg a.change.now.writer.table a.rid) (version a.change.now.writer.gxid a.change.now.writer.cid a.change.now.writer.table a.rid None) }
