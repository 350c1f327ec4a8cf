use Rattle.gx_segment.specs.Waking.{awakened}
use Rattle.gx_segment.proofs.starting.resume.Given as goal

abbrev pub ghost-proceed : goal.ghost-proceed
ghost-proceed g a = record { script = g.was.script; seg = awakened g.was.seg a.gxid }
