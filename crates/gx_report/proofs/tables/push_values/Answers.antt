use Rattle.std.proofs.Common.{◌≡◌, ◌++◌, ap, ◌∙◌, append_assoc}
use Rattle.std.specs.Prelude.{codes}
use Rattle.gx_meaning.specs.Aggregates.{cell_of}
use Rattle.gx_report.specs.Text.{behind_bar, cell_text}
use Rattle.gx_report.proofs.Adding.{added_each-next}
use Rattle.gx_report.proofs.tables.push_values.Goals as goal

pub loop-value-preserved : goal.loop-value-preserved
loop-value-preserved c =
    added_each-next behind_bar cell_of _ c.loop-value.value-index c.value-item.result _ _ _ c.loop-value-test.true c.value-item.is c.loop-value.invariant added
  where
    added : c.push_value-in-loop-value.new.text.items ≡ c.loop-value.text.items ++ behind_bar (cell_of c.value-item.result)
    added =
        c.in_ok-push_value-2.ensures
        ∙ ap (λ t. t ++ cell_text (cell_of c.value-item.result)) c.in_ok-push_byte.ensures
        ∙ append_assoc c.loop-value.text.items (codes "|") (cell_text (cell_of c.value-item.result))
