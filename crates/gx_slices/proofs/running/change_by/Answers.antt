use Rattle.std.proofs.Common.{◌∙◌, Option, ap, sym}
use Rattle.gx_dsnap.specs.declared.snapshot.Snapshot.{Snapshot}
use Rattle.gx_rules.specs.Changes as rule
use Rattle.gx_rules.specs.Changes.{change_of, changes_rows}
use Rattle.gx_rules.specs.Segments.{after_marks}
use Rattle.gx_slices.specs.Changing.{slice_in}
use Rattle.gx_slices.proofs.Progressing.{HasProgressed-after, HasProgressed-same, change_of-in, has-snapshot}
use Rattle.gx_slices.proofs.running.change_by.Goals as goal

pub change_rows-requires : goal.change_rows-requires
change_rows-requires g c =
    let may = c.requires.1.1.0 in
    (c.requires.0, (c.requires.1.0, (record { alive = may.alive; node = c.requires.1.1.1; right = may.right; new = may.new }, (may.open_here, may.free))))

pub returns : goal.returns
returns g c =
    let w = c.args.writer in
    let slice = slice_in w.table c.args.set c.args.cond in
    let before = c.args.marks.items in
    HasProgressed-same g.found.tables c.change_rows.new.held w.gxid c.in_ok-all-in-Some.all _ _
    (ap (λ (k : Option rule.Change). after_marks before (changes_rows g.found.start w.gxid k)) (sym (change_of-in w c.args.level c.in-Some.snapshot c.args.set c.args.cond))
    ∙ ap (λ (o : Option Snapshot). after_marks before (changes_rows g.found.start w.gxid (change_of w.cid c.args.level o slice))) (sym c.in-Some.is))
    (HasProgressed-after g.found.tables c.change_rows.new.held w.gxid c.in_ok-progress-in-Some.progress c.in_ok-all-in-Some.all _ before c.in_ok-progress-in-Some.ensures c.in_ok-all-in-Some.ensures)

pub unreachable-requires : goal.unreachable-requires
unreachable-requires g c =
    let may = c.requires.1.1.0 in
    has-snapshot c.args.writer.table c.args.set c.args.cond c.args.snapshot may.reads c.in-None.is
