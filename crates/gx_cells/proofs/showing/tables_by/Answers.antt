use Rattle.std.proofs.Common.{◌∙◌, ◌+◌, ◌∷◌, [], ap, arith, length, length-append, subst, sym}
use Rattle.std.specs.Prelude.{map}
use Rattle.gx_tables.proofs.Tables.{tables-next}
use Rattle.gx_tables.specs.Tables.{AreLastOf, AreTablesOf}
use Rattle.gx_cells.proofs.Tables.{rows-shown}
use Rattle.gx_cells.specs.Views.{data_of}
use Rattle.gx_cells.proofs.showing.tables_by.Goals as goal

pub loop-number-preserved : goal.loop-number-preserved
loop-number-preserved g c = record {
  count = ap length c.in_ok-push.ensures.items ∙ length-append c.loop-number.tables.items (_ ∷ []) ∙ ap (λ n. n + 1) c.loop-number.invariant.count;
  are = subst (AreTablesOf (map data_of c.args.segments.now) c.args.snapshot.now 0) (sym c.in_ok-push.ensures.items)
      (tables-next (map data_of c.args.segments.now) c.args.snapshot.now 0 c.loop-number.number c.loop-number.tables.items _ c.loop-number.invariant.are (omega (arith, c.loop-number.invariant.count))
      (subst (λ rs. AreLastOf rs c.in_ok-list.list.items) (c.in_ok-rows.ensures ∙ rows-shown c.args.segments.now c.args.snapshot.now _) c.in_ok-list.ensures));
}
