use Rattle.std.proofs.Common.{◌∙◌, Option, ap, sym}
use Rattle.gx_ids.specs.declared.rid.Rid.{Rid}
use Rattle.gx_node.specs.Phases.{suspended_of}
use Rattle.gx_rules.specs.Running.{goes_on}
use Rattle.gx_slices.proofs.Progressing.{HasProgressed-if}
use Rattle.gx_slices.proofs.running.go_on.Goals as goal

pub go_on_at_row-requires : goal.go_on_at_row-requires
go_on_at_row-requires g c =
    (c.requires.1.0, (c.requires.1.1.0, (c.requires.1.1.1.0, c.node-node.ensures ∙ c.requires.1.1.1.1)))

pub run_slice-requires : goal.run_slice-requires
run_slice-requires g c =
    let may = c.requires.1.1.1.0 in
    (c.requires.0, (c.requires.1.0, (c.requires.1.1.0, (may.may, c.node-node.ensures ∙ c.requires.1.1.1.1))))

pub returns-in-Some : goal.returns-in-Some
returns-in-Some g c =
    HasProgressed-if g.found.tables c.go_on_at_row.new.held c.args.gxid c.go_on_at_row.result _ _
    (ap (λ (o : Option Rid). goes_on (record { seg = g.found.start; marks = c.args.marks.items }) c.args.gxid (suspended_of c.args.command) o) (sym c.in-Some.is))
    c.go_on_at_row.ensures

pub returns-in-None : goal.returns-in-None
returns-in-None g c =
    HasProgressed-if g.found.tables c.run_slice.new.held c.args.gxid c.run_slice.result _ _
    (ap (λ (o : Option Rid). goes_on (record { seg = g.found.start; marks = c.args.marks.items }) c.args.gxid (suspended_of c.args.command) o) (sym c.in-None.is))
    c.run_slice.ensures
