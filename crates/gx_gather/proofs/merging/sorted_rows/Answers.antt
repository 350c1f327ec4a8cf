use Rattle.std.proofs.Common.{◌∙◌, Bor, ap, map}
use Rattle.gx_tree.specs.declared.row.KeyedRow.{KeyedRow}
use Rattle.gx_meaning.specs.Answer.{limited}
use Rattle.gx_gather.proofs.Merges.{limited-map}
use Rattle.gx_gather.proofs.merging.sorted_rows.Goals as goal

pub returns : goal.returns
returns c =
    ap (map (λ (row : Bor KeyedRow). row.now)) c.cut.ensures ∙ limited-map (λ (row : Bor KeyedRow). row.now) c.args.limit c.sort_rows.new.rows.items
    ∙ ap (limited c.args.limit) c.in_ok-sort_rows.ensures
