use Rattle.std.proofs.Common.{◌≡◌, ◌≤◌, ◌<◌, ◌∙◌, Some, arith, ap, length, subst, sym}
use Rattle.std.specs.List.{list_any}
use Rattle.gx_ids.specs.declared.ids.Gxid.{Gxid}
use Rattle.gx_waits.specs.Claims.{is_free, is_of}
use Rattle.gx_locks.specs.Locks.{Locks}
use Rattle.gx_rules.specs.Slices.{own_lock}
use Rattle.gx_slices.proofs.InsertedRows.{all-inserted, none-inserted, one-inserted}
use Rattle.gx_slices.proofs.Owning.{free-own}
use Rattle.gx_slices.proofs.inserting.insert_rows.Goals as goal

pub loop-row-init : goal.loop-row-init
loop-row-init g c =
    let w = c.args.writer in
    none-inserted g.s w.gxid w.cid w.table c.args.rows.now c.args.held.now c.args.marks.now.items c.args.entry.now c.requires.1.1.0 c.requires.1.1.1

pub write_row-requires : goal.write_row-requires
write_row-requires g c =
    let is = c.loop-row.invariant in
    let gxid = c.args.writer.gxid in
    record {
      alive = subst (λ (h : Gxid). h.0 ≤ gxid.0) (sym (is.apart.stored.horizon ∙ is.apart.horizon)) c.requires.1.0;
      waits = ap (λ (l : Locks). list_any (is_of gxid) l.waits) is.apart.locks ∙ is.free;
      free = ap (λ (l : Locks). is_free l.holds (own_lock gxid)) is.apart.locks ∙ free-own gxid is.moved.seg.locks.holds is.apart.owned;
    }

pub loop-row-preserved : goal.loop-row-preserved
loop-row-preserved g c =
    let w = c.args.writer in
    let l = c.loop-row in
    let now = c.write_row.new in
    one-inserted g.s w.gxid w.cid w.table c.args.rows.now c.args.held.now c.args.marks.now.items w.node l.row-index c.row-item.result _ c.in_ok-image.image l.held now.held l.entry now.entry l.marks.items now.marks.items c.loop-row-test.true c.row-item.is c.in_ok-image.ensures c.requires.0 c.in_ok-write_row.ensures l.invariant

pub returns : goal.returns
returns g c =
    let w = c.args.writer in
    let l = c.loop-row in
    let past : length c.args.rows.now ≤ l.row-index = omega arith in
    all-inserted g.s w.gxid w.cid w.table c.args.rows.now c.args.held.now c.args.marks.now.items l.row-index l.held l.entry l.marks.items past l.invariant
