use Rattle.std.proofs.Common.{◌≡◌, ◌∙◌, List, sym, ap}
use Rattle.gx_ids.specs.declared.ids.Gxid.{Gxid}
use Rattle.gx_rows.specs.Rows.{versions_of}
use Rattle.gx_rows.specs.declared.version.Version.{Version}
use Rattle.gx_sweep.specs.Swept.{swept}
use Rattle.gx_slices.proofs.SweptRows.{kept_at-here, kept_at-there, kept_at-was}
use Rattle.gx_slices.proofs.sweeping.sweep_in.Goals as goal

pub returns-in-Some-clause-swept : goal.returns-in-Some-clause-swept
returns-in-Some-clause-swept c =
    let x = c.args.xids.now in
    let here = kept_at-here _ _ c.args.table c.in-Some.versions.now c.sweep.new.rows c.in-Some.ensures.ordered c.in-Some.ensures.value (c.get_mut.follows.holds c.sweep.new.rows).0 c.args.rid in
    let was = kept_at-was _ _ c.args.table c.in-Some.versions.now c.sweep.new.rows c.in-Some.ensures.ordered c.in-Some.ensures.value (c.get_mut.follows.holds c.sweep.new.rows).0 c.args.rid in
    here
    ∙ c.sweep.ensures.swept
    ∙ ap (λ (h : Gxid). swept x h (versions_of c.in-Some.versions.now c.args.rid)) c.horizon.ensures
    ∙ ap (λ (vs : List Version). swept x x.horizon vs) (sym was)

pub returns-in-Some-clause-rows : goal.returns-in-Some-clause-rows
returns-in-Some-clause-rows c = λ r other.
    let here = kept_at-here _ _ c.args.table c.in-Some.versions.now c.sweep.new.rows c.in-Some.ensures.ordered c.in-Some.ensures.value (c.get_mut.follows.holds c.sweep.new.rows).0 r in
    let was = kept_at-was _ _ c.args.table c.in-Some.versions.now c.sweep.new.rows c.in-Some.ensures.ordered c.in-Some.ensures.value (c.get_mut.follows.holds c.sweep.new.rows).0 r in
    here ∙ c.sweep.ensures.others r other ∙ sym was

pub returns-in-Some-clause-tables : goal.returns-in-Some-clause-tables
returns-in-Some-clause-tables c = λ t r other.
    kept_at-there _ _ c.args.table c.in-Some.versions.now c.sweep.new.rows c.in-Some.ensures.ordered c.in-Some.ensures.value (c.get_mut.follows.holds c.sweep.new.rows).0 t r other
