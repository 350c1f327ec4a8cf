use Rattle.std.proofs.Common.{◌≡◌, ◌∙◌, ◌+ℤ◌, arith, rules, of_z, to_z}
use Rattle.std.proofs.lemmas.Int.{ints}
use Rattle.std.specs.Int.{w128}
use Rattle.gx_report.proofs.Balances.{total_balance-next}
use Rattle.gx_report.proofs.generated.total_balance.Goals as goal

pub loop-row-preserved : goal.loop-row-preserved
loop-row-preserved c =
    let sum : to_z w128 (of_z w128 (to_z w128 c.loop-row.total-bits +ℤ to_z w128 (of_z w128 c.from-total.result))) ≡ to_z w128 c.loop-row.total-bits +ℤ c.from-total.result = omega (arith, ints) in
    record {
      is = sum ∙ total_balance-next c.args.rows.now c.loop-row.row-index c.row-item.result (to_z w128 c.loop-row.total-bits) c.from-total.result (search rules) c.row-item.is (search rules) (search rules);
      low = omega (arith, ints);
      high = omega (arith, ints);
    }
