use Rattle.std.proofs.Common.{[], ◌∷◌, ◌++◌, take, sym, ap, ◌∙◌}
use Rattle.std.proofs.lemmas.List.{flat_map_more, take_more}
use Rattle.std.specs.List.{flat_map}
use Rattle.gx_msg.specs.ItemBytes.{line_of_kept}
use Rattle.gx_msg.proofs.bytes.push_rows.Goals as goal

pub loop-kept-preserved : goal.loop-kept-preserved
loop-kept-preserved c =
    let kept = c.kept-item.result in
    let before = take c.loop-kept.kept-index c.args.rows.now in
    c.in_ok-push_kept.ensures
    ∙ ap (λ t. t ++ line_of_kept kept) c.loop-kept.invariant
    ∙ flat_map_more line_of_kept c.push_byte-2.new.text.items before kept
    ∙ ap (λ l. c.push_byte-2.new.text.items ++ flat_map line_of_kept l) (ap (λ k. before ++ k ∷ []) c.kept-item.is ∙ sym (take_more c.args.rows.now c.loop-kept.kept-index kept c.loop-kept-test.true))
