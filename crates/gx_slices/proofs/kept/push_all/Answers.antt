use Rattle.std.proofs.Common.{◌≡◌, ◌++◌, ◌∙◌, List, ap, subst, sym, ℕ}
use Rattle.std.proofs.lemmas.List.Folds.{flat_map-map}
use Rattle.std.specs.List.{flat_map}
use Rattle.std.specs.Prelude.{OnOk}
use Rattle.gx_msg.specs.ItemBytes.{line_of_kept}
use Rattle.gx_slices.specs.Kept.{kept_in, kept_rows}
use Rattle.gx_slices.specs.declared.kept.Rows.{Rows}
use Rattle.gx_slices.proofs.kept.push_all.Goals as goal

pub returns-in-Rising : goal.returns-in-Rising
returns-in-Rising c =
    let lines = ap (flat_map (λ e. line_of_kept (kept_in e))) c.as_slice.ensures.value ∙ sym (flat_map-map line_of_kept kept_in c.in-Rising.list.items) ∙ ap (λ (rows : Rows). flat_map line_of_kept (kept_rows rows)) (sym c.in-Rising.is) in
    subst (λ (text : List ℕ). OnOk c.push_list.result (c.push_list.new.text.items ≡ c.args.text.now.items ++ text)) lines c.push_list.ensures
