use Rattle.std.proofs.Common.{◌∙◌, ap, sym}
use Rattle.std.specs.Prelude.{option_map}
use Rattle.gx_node.specs.Phases.{suspended_of}
use Rattle.gx_slices.specs.Changing.{change_in}
use Rattle.gx_slices.proofs.Progressing.{HasProgressed-made, HasProgressed-stays, MayChange-made, free-made, open-made}
use Rattle.gx_slices.proofs.running.go_on_at_row.Goals as goal

pub go_on_at-requires : goal.go_on_at-requires
go_on_at-requires g c =
    let w = suspended_of c.args.command in
    let may = c.requires.1.1.0 in
    let change = c.in-Some.change in
    let made = ap (option_map change_in) (sym c.in-Some.is) ∙ c.change_in_slice.ensures.change in
    let writer = c.change_in_slice.ensures.writer change c.in-Some.is in
    (c.requires.0, (c.requires.1.0, (MayChange-made g.found.tables g.found.start c.args.gxid w may change writer.1 made (writer.0 ∙ c.requires.1.1.1), (open-made g.found.tables g.found.start c.args.gxid w may change writer.1 made, (free-made g.found.tables g.found.start c.args.gxid w may change writer.1 made, may.room)))))

pub returns-in-Some : goal.returns-in-Some
returns-in-Some g c =
    let w = suspended_of c.args.command in
    let may = c.requires.1.1.0 in
    let change = c.in-Some.change in
    let made = ap (option_map change_in) (sym c.in-Some.is) ∙ c.change_in_slice.ensures.change in
    let writer = c.change_in_slice.ensures.writer change c.in-Some.is in
    HasProgressed-made g.found.tables g.found.start c.args.gxid w may change writer.1 made c.go_on_at.new.held c.go_on_at.result (record { seg = g.found.start; marks = c.args.marks.items }) c.args.row c.go_on_at.ensures

pub returns-in-None : goal.returns-in-None
returns-in-None g c =
    let w = suspended_of c.args.command in
    let none = ap (option_map change_in) (sym c.in-None.is) ∙ c.change_in_slice.ensures.change in
    HasProgressed-stays g.found.tables g.found.start c.args.held.now c.args.gxid w c.args.marks.items c.from_vec.result c.args.row c.requires.1.0 none c.from_vec.ensures
