use Rattle.std.proofs.Common.{◌≡◌, ◌∙◌, ◌+◌, ap, add-one, arith, [], ◌∷◌, length, sym, take}
use Rattle.gx_tree.specs.declared.cell.Cell.{Cell}
use Rattle.gx_tree.specs.declared.query.Item.{Item}
use Rattle.gx_meaning.specs.Aggregates.{aggregate}
use Rattle.gx_gather.proofs.Tallied.{all-added, item-added, still}
use Rattle.gx_gather.proofs.tally.add_to_each.Goals as goal

pub loop-place-preserved : goal.loop-place-preserved
loop-place-preserved c =
    let items = c.args.items.now in
    let l = c.loop-place in
    let f : Item → Cell = aggregate (c.args.row.now ∷ []) in
    ap (still f (l.place + 1) items) c.in_ok-add_at.ensures
    ∙ rw add-one (item-added f l.place items l.cells.items _ c.loop-place-test.true)
    ∙ l.invariant

pub returns : goal.returns
returns c =
    let items = c.args.items.now in
    let l = c.loop-place in
    let end : l.place ≡ length items = omega arith in
    c.truncate.ensures.items ∙ ap (λ n. take n l.cells.items) (sym end)
    ∙ all-added (aggregate (c.args.row.now ∷ [])) l.place items l.cells.items end
    ∙ l.invariant
