use Rattle.std.proofs.Common.{◌≤◌, ◌<◌, ◌∙◌, arith, length, sym}
use Rattle.std.proofs.lemmas.Result.{IfOk-weaker}
use Rattle.gx_slices.specs.Changing.{change_in}
use Rattle.gx_slices.proofs.Going.{gone-at, gone-through, under-way, under-way-next}
use Rattle.gx_slices.proofs.changing_rows.go_through.Goals as goal

pub loop-index-init : goal.loop-index-init
loop-index-init g c =
    let k = c.args.change.now in
    under-way g.stage (change_in k) k.writer.gxid c.args.rids.now c.args.before c.args.held.now c.args.entry.now c.args.marks.now.items c.requires.1.0 c.requires.1.1.0

pub loop-index-preserved : goal.loop-index-preserved
loop-index-preserved g c =
    let k = c.args.change.now in
    let l = c.loop-index in
    let now = c.does_row_at.new in
    let inside : l.index < length c.args.rids.now = omega arith in
    under-way-next g.stage (change_in k) k.writer.gxid c.args.rids.now c.args.before l.held now.held l.entry now.entry l.marks.items now.marks.items l.index l.count c.in_ok-end.end l.invariant inside c.in_ok-end.ensures c.counted-count.result (sym c.is_done.ensures ∙ c.if-is_done.true) c.counted-count.ensures

pub returns-else-is_done : goal.returns-else-is_done
returns-else-is_done g c =
    let k = c.args.change.now in
    let l = c.loop-index in
    let now = c.does_row_at.new in
    let inside : l.index < length c.args.rids.now = omega arith in
    IfOk-weaker c.end_at.result _ _
    (λ last told. gone-at g.stage (change_in k) k.writer.gxid c.args.rids.now c.args.before l.held now.held l.entry now.entry l.marks.items now.marks.items l.index l.count c.in_ok-end.end l.invariant inside c.in_ok-end.ensures last (sym c.is_done.ensures ∙ c.if-is_done.false) c.requires.1.1.1 told)
    c.end_at.ensures

pub returns : goal.returns
returns g c =
    let k = c.args.change.now in
    let l = c.loop-index in
    let past : length c.args.rids.now ≤ l.index = omega arith in
    gone-through g.stage (change_in k) k.writer.gxid c.args.rids.now c.args.before l.held l.entry l.marks.items l.index l.count l.invariant past
