use Rattle.std.proofs.Common.{◌≡◌, ◌∙◌, ◌≤◌, ◌+◌, ◌-◌, ap, arith}
use Rattle.gx_tree.specs.declared.row.KeyedRow.{KeyedRow}
use Rattle.gx_meaning.specs.Place.{row_place}
use Rattle.gx_meaning.specs.Plan.{put_at}
use Rattle.gx_plan.proofs.Dealt.{within, put_at-dealt}
use Rattle.gx_plan.proofs.insertion.deal.Goals as goal

pub place-node-requires-clause-column : goal.place-node-requires-clause-column
place-node-requires-clause-column c = within c.args.schema.now.dist c.args.tuple.now c.in_ok-row.row c.requires.tuple.key c.in_ok-row.ensures.values

pub returns-clause-row : goal.returns-clause-row
returns-clause-row c =
    let row : KeyedRow = record { rid = c.args.rid; row = c.in_ok-row.row } in
    let place = row_place c.args.n c.args.schema.now.dist c.in_ok-row.row c.args.rid in
    let low : 1 ≤ place = omega (arith, c.place-node.ensures.place, c.place-node.ensures.first) in
    let high : place ≤ c.args.n = omega (arith, c.place-node.ensures.place, c.place-node.ensures.last) in
    let index : (c.from.result - 1) + 1 ≡ place = omega (arith, c.from.ensures, c.place-node.ensures.place, c.place-node.ensures.first) in (
      c.in_ok-row.row,
      c.in_ok-row.ensures.values,
      λ rows old.
          c.in_ok-put.ensures ∙ ap (λ p. put_at c.args.buckets.now.items p row) index ∙ ap (λ buckets. put_at buckets place row) old
          ∙ put_at-dealt c.args.n c.args.schema.now.dist rows row low high,
    )
