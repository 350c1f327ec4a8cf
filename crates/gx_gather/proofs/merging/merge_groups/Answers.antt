use Rattle.std.proofs.Common.{◌∙◌, ap, map}
use Rattle.std.proofs.lemmas.Result.{IfOk-weaker}
use Rattle.gx_meaning.specs.Tallies.{entry_group, out_row}
use Rattle.gx_gather.proofs.Listed.{Entry}
use Rattle.gx_gather.proofs.Merges.{groups_answered}
use Rattle.gx_gather.proofs.merging.merge_groups.Goals as goal

pub returns : goal.returns
returns c =
    IfOk-weaker c.entries_out.result _ _ (λ out made.
    made ∙ ap (map (λ (e : Entry). out_row c.args.query.now (entry_group e))) (c.as_slice.ensures.value ∙ c.cut.ensures)
    ∙ groups_answered c.args.query.now _ c.in_ok-entries.entries.items c.in_ok-entries.ensures) c.entries_out.ensures
