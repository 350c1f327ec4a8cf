use Rattle.std.proofs.Common.{subst, sym}
use Rattle.gx_rules.specs.Segments.{SegTurn}
use Rattle.gx_slices.specs.Changing.{HasGone, change_in}
use Rattle.gx_slices.proofs.changing_rows.go_from.Goals as goal

pub close-requires : goal.close-requires
close-requires g c =
    let k = c.args.change in
    let now = c.go_through.new in (
      c.requires.0,
      (c.requires.1.0, subst (λ (t : SegTurn). HasGone g.ending.stage (change_in k) k.writer.gxid now.held now.entry now.marks.items t c.in-Ok.end) (sym c.requires.1.1.1.1.1) c.in-Ok.ensures),
    )
