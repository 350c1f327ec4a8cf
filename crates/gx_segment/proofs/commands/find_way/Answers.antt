use Rattle.std.proofs.Common.{◌≡◌, ◌≤◌, true, ap, subst, ◌∙◌, arith}
use Rattle.std.proofs.lemmas.Bool.Decides.{nat_tests}
use Rattle.gx_ids.specs.declared.ids.Gxid.{Gxid}
use Rattle.gx_rules.specs.Segments.{Local}
use Rattle.gx_segment.specs.Ways.{fits_here, way_of}
use Rattle.gx_segment.proofs.Going.{way-held}
use Rattle.gx_segment.proofs.commands.find_way.Given.{Over}
use Rattle.gx_segment.proofs.commands.find_way.Goals as goal

is_alive : (g : Over) (c : goal.After-way_at g) → g.was.seg.horizon.0 ≤ c.args.gxid.0
is_alive g c = subst (λ (x : Gxid). x.0 ≤ c.args.gxid.0) c.requires.1.1 (grind (arith, nat_tests, c.if-lt.ensures, c.if-lt.false))

is_fit : (g : Over) (c : goal.After-way_at g) → fits_here g.was.script g.was.seg c.args.gxid c.args.command.now c.args.low ≡ true
is_fit g c = grind (arith, c.if-not-fits.false, c.fits.ensures)

pub returns : goal.returns
returns g c =
    way-held g.was.script g.was.seg c.args.gxid c.args.command.now c.args.low (is_alive g c) c.args.held.now c.requires.1.0 (is_fit g c) c.way_at.result
    (c.way_at.ensures ∙ ap (λ (l : Local). way_of l c.args.command.now.cid) (c.requires.1.0.locals c.args.gxid (is_alive g c)))
